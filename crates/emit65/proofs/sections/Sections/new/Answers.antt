use Rattle.std.proofs.Common.{length, sym}
use Rattle.emit65.specs.SectionContents.{names_in}
use Rattle.emit65.proofs.sections.Sections.new.Goals as goal

pub returns : goal.returns
returns c = record {
  requested = sym c.new.ensures.empty;
  latest = tt;
  equivalent = c.new-3.ensures.none (names_in c.new-2.result);
  standing = c.new-3.ensures.file_bounds (length (names_in c.new-2.result));
}
