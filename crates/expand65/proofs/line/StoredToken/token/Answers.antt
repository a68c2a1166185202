use Rattle.std.proofs.lemmas.Grind.{common_steps}
use Rattle.std.proofs.Common.{arith}
use Rattle.expand65.proofs.line.StoredToken.token.Goals as goal

pub returns-clause-token : goal.returns-clause-token
returns-clause-token c = grind (arith, common_steps)

pub returns-clause-following : goal.returns-clause-following
returns-clause-following c = grind (arith, common_steps)
