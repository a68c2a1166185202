use Rattle.std.proofs.Common.{◌≡◌, ◌++◌, map}
use Rattle.std.specs.List.{AllByRecursion}
use Rattle.std.specs.Vec.Iter.{into_iter_items}
use Rattle.emit65.specs.Internal.Drafts.{SectionFits, section_of}
use Rattle.emit65.proofs.numbering.finish_sections.Given as goal

abbrev pub invariant-loop-draft : goal.invariant-loop-draft
invariant-loop-draft l = record {
  fits : AllByRecursion SectionFits l.sections;
  made : l.sections ++ map (section_of l.segments l.numbers) (into_iter_items l.draft-iterator) ≡ map (section_of l.segments l.numbers) l.fn.drafts.items;
}
