use Rattle.std.proofs.lemmas.Grind.{common_steps}
use Rattle.std.proofs.Common.{arith}
use Rattle.object65.proofs.decoding.body_at.Goals as goal

pub returns-then-rest-len-clause-read : goal.returns-then-rest-len-clause-read
returns-then-rest-len-clause-read c = grind (arith, common_steps)
