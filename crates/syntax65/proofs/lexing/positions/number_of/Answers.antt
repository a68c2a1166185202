use Rattle.std.proofs.Common.{arith}
use Rattle.std.proofs.lemmas.Grind.{common_steps}
use Rattle.syntax65.proofs.lexing.positions.number_of.Goals as goal

pub returns-in-36 : goal.returns-in-36
returns-in-36 c = grind (arith, common_steps)

pub returns-in-37 : goal.returns-in-37
returns-in-37 c = grind (arith, common_steps)
