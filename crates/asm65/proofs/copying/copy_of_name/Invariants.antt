use Rattle.std.proofs.Common.{◌≡◌, take}
use Rattle.asm65.proofs.copying.copy_of_name.Given as goal

abbrev pub invariant-loop-part : goal.invariant-loop-part
invariant-loop-part l = l.parts ≡ take l.part-index l.part-items
