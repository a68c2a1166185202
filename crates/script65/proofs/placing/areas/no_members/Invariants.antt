use Rattle.std.proofs.Common.{◌≡◌, ◌<◌, ℕ, Some, [], length, slice_get}
use Rattle.script65.proofs.placing.areas.no_members.Given as goal

abbrev pub invariant-loop : goal.invariant-loop
invariant-loop l = record {
  count : length l.members.items ≡ l.counter;
  none : (k : ℕ) → k < l.counter → slice_get l.members.items k ≡ Some [];
}
