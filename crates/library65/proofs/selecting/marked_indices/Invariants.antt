use Rattle.std.proofs.Common.{◌≡◌, ◌++◌, drop}
use Rattle.library65.specs.Internal.Searching.{marked_indices_from}
use Rattle.library65.proofs.selecting.marked_indices.Given as goal

abbrev pub invariant-loop-index : goal.invariant-loop-index
invariant-loop-index l = l.indices.items ++ marked_indices_from l.index (drop l.index l.marks) ≡ marked_indices_from 0 l.marks
