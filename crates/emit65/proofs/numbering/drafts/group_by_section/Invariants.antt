use Rattle.std.proofs.Common.{◌≡◌, ◌++◌, map}
use Rattle.std.specs.List.{flat_map}
use Rattle.std.specs.Vec.Iter.{into_iter_items}
use Rattle.emit65.specs.Internal.Drafts.{draft_of, declarations_of}
use Rattle.emit65.proofs.SectionDrafts.{following}
use Rattle.emit65.proofs.numbering.drafts.group_by_section.Given as goal

abbrev pub invariant-loop-entry : goal.invariant-loop-entry
invariant-loop-entry l = record {
  keys : map (λ d. d.segment) l.by_section.drafts.items ≡ l.sections.keys;
  drafts : map (following (into_iter_items l.entry-iterator)) l.by_section.drafts.items ≡ map (draft_of l.fn.entries.items) l.sections.keys;
  declarations : l.by_section.declarations ++ flat_map declarations_of (into_iter_items l.entry-iterator) ≡ flat_map declarations_of l.fn.entries.items;
}
