use Rattle.std.proofs.lemmas.Grind.{common_steps}
use Rattle.std.proofs.Common.{arith}
use Rattle.expand65.proofs.repeats.variable_of.Goals as goal

pub returns-clause-variable : goal.returns-clause-variable
returns-clause-variable c = grind (arith, common_steps)

pub returns-then-is_empty-clause-variable : goal.returns-then-is_empty-clause-variable
returns-then-is_empty-clause-variable c = grind (arith, common_steps)
