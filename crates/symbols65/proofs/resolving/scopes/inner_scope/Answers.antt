use Rattle.std.proofs.lemmas.Grind.{common_steps}
use Rattle.std.proofs.Common.{arith}
use Rattle.symbols65.proofs.resolving.scopes.inner_scope.Goals as goal

pub loop-name-preserved : goal.loop-name-preserved
loop-name-preserved c = grind (arith, common_steps)

pub returns-in_err-scope : goal.returns-in_err-scope
returns-in_err-scope c = grind (arith, common_steps)
