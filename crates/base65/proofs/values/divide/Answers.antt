use Rattle.std.proofs.Common.{arith}
use Rattle.std.proofs.lemmas.Int.{ints, to_z-of_z}
use Rattle.base65.proofs.WrappingOperations.{stored_quotient}
use Rattle.base65.proofs.values.divide.Goals as goal

pub returns-else-b-eq0 : goal.returns-else-b-eq0
returns-else-b-eq0 c = grind (arith, ints, to_z-of_z, stored_quotient)
