use Rattle.std.proofs.Common.{◌≡◌, List, ◌++◌, map, not, Option, Some, None}
use Rattle.std.specs.List.{filter}
use Rattle.std.specs.Vec.Iter.{into_iter_items}
use Rattle.object65.specs.declared.object.Fragment.{Fragment}
use Rattle.semantics65.specs.Numbering.{merged_neighbours, is_empty, merged_fragments}
use Rattle.emit65.specs.Internal.Drafts.{MergerFits, fragment_of, fragments_of}
use Rattle.emit65.proofs.numbering.fragments.fragments_of.Given as goal

-- an optional open fragment, merged with the fragments after it
abbrev followed : Option Fragment → List Fragment → List Fragment
followed None fs = merged_neighbours fs
followed (Some f) fs = merged_fragments f fs

abbrev pub invariant-loop-entry : goal.invariant-loop-entry
invariant-loop-entry l = record {
  fits : MergerFits l.merger;
  made : l.merger.done ++ followed l.merger.last (filter (λ f. not (is_empty f)) (map (fragment_of l.numbers) (into_iter_items l.entry-iterator))) ≡ fragments_of l.numbers l.fn.entries;
}
