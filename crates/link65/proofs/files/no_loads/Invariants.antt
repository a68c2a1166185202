use Rattle.std.proofs.Common.{◌≡◌, ◌<◌, ℕ, Some, [], length, slice_get}
use Rattle.link65.proofs.files.no_loads.Given as goal

abbrev pub invariant-loop : goal.invariant-loop
invariant-loop l = record {
  count : length l.loads.items ≡ l.counter;
  none : (k : ℕ) → k < l.counter → slice_get l.loads.items k ≡ Some [];
}
