use Rattle.std.proofs.Common.{◌≡◌, ◌<◌, ◌++◌, ℕ, List, Some, drop, slice_get}
use Rattle.script65.specs.Placing.{row_indices_in}
use Rattle.script65.proofs.placing.areas.members_of.Given as goal

abbrev pub invariant-loop-index : goal.invariant-loop-index
invariant-loop-index l = (k : ℕ) → k < l.areas → (m : List ℕ) × (slice_get l.members.items k ≡ Some m) × (m ++ row_indices_in k l.index (drop l.index l.rows) ≡ row_indices_in k 0 l.rows)
