use Rattle.std.proofs.Common.{◌≡◌, ◌+◌, ◌-◌, ℕ, length, slice_get, Some, true}
use Rattle.symbols65.proofs.table.defining.mark_inner.Given as goal

abbrev pub invariant-loop-inner : goal.invariant-loop-inner
invariant-loop-inner l = (w : ℕ) → slice_get l.fn.inner.items w ≡ Some true → slice_get l.inner.items w ≡ Some true

abbrev pub decreases-loop-inner : goal.decreases-loop-inner
decreases-loop-inner l = l.name_id + 1 - length l.inner.items
