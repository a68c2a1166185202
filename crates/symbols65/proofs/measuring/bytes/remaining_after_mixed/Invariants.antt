use Rattle.std.proofs.Common.{◌≡◌, ◌+◌, drop, sum_by}
use Rattle.semantics65.specs.Norms.{item_len}
use Rattle.symbols65.proofs.measuring.bytes.remaining_after_mixed.Given as goal

abbrev pub invariant-loop-item : goal.invariant-loop-item
invariant-loop-item l = l.left + sum_by (item_len l.width) l.items ≡ l.remaining + sum_by (item_len l.width) (drop l.item-index l.items)
