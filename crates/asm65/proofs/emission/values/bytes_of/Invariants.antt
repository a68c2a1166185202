use Rattle.std.proofs.Common.{take}
use Rattle.asm65.specs.Internal.AssemblerState.{AreEncodedNumbers}
use Rattle.asm65.proofs.emission.values.bytes_of.Given as goal

abbrev pub invariant-loop-number : goal.invariant-loop-number
invariant-loop-number l = AreEncodedNumbers l.width (take l.number-index l.numbers) l.bytes
