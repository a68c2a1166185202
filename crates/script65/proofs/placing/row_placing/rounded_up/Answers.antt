use Rattle.std.proofs.Common.{arith}
use Rattle.std.proofs.lemmas.Grind.{common_steps}
use Rattle.script65.proofs.placing.row_placing.rounded_up.Goals as goal

pub overflow_mul-result : goal.overflow_mul-result
overflow_mul-result c = grind (arith, common_steps)

pub returns-else-align-eq0-clause-bound : goal.returns-else-align-eq0-clause-bound
returns-else-align-eq0-clause-bound c = grind (arith, common_steps)
