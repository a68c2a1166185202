use Rattle.std.proofs.Common.{refl}
use Rattle.emit65.specs.SectionContents.{names_in}
use Rattle.emit65.proofs.RepresentedSlots.{begins_same, stands_taken}
use Rattle.emit65.proofs.sections.Sections.append.Goals as goal

pub returns : goal.returns
returns c = λ xs h. stands_taken c.args.self.now _ _ xs refl refl refl (begins_same (names_in c.args.self.now.files)) (c.in_ok-add_bytes.ensures (names_in c.args.self.now.files)) h
