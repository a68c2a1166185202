use Rattle.std.proofs.Common.{◌≡◌, ◌++◌, map}
use Rattle.std.specs.Vec.Iter.{into_iter_items}
use Rattle.object65.specs.Items.{section_from}
use Rattle.object65.proofs.builder.finish_sections.Given as goal

abbrev pub invariant-loop-draft : goal.invariant-loop-draft
invariant-loop-draft l = l.sections.items ++ map section_from (into_iter_items l.draft-iterator) ≡ map section_from l.fn.drafts.items
