use Rattle.std.proofs.Common.{◌≡◌, map, take}
use Rattle.ast65.specs.Items.{literal_item}
use Rattle.asm65.proofs.emission.values.items_of.Given as goal

abbrev pub invariant-loop-number : goal.invariant-loop-number
invariant-loop-number l = l.items ≡ map literal_item (take l.number-index l.numbers)
