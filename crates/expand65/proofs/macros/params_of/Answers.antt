use Rattle.std.proofs.Common.{arith}
use Rattle.std.proofs.lemmas.Grind.{common_steps}
use Rattle.expand65.proofs.macros.params_of.Goals as goal

pub returns-in-None-clause-params : goal.returns-in-None-clause-params
returns-in-None-clause-params c = grind (arith, common_steps)
