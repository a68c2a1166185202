use Rattle.std.proofs.Common.{arith}
use Rattle.std.proofs.lemmas.Int.{ints, to_z-of_z}
use Rattle.base65.proofs.WrappingOperations.{shifted_left}
use Rattle.base65.proofs.values.shift_left.Goals as goal

pub returns-then-count-lt64 : goal.returns-then-count-lt64
returns-then-count-lt64 c = grind (arith, ints, to_z-of_z, shifted_left)
