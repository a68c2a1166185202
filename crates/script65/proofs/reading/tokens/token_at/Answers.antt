use Rattle.std.proofs.Common.{arith}
use Rattle.std.proofs.lemmas.Grind.{common_steps}
use Rattle.script65.specs.Tokens.{token}
use Rattle.script65.proofs.reading.tokens.token_at.Goals as goal

pub returns-clause-value : goal.returns-clause-value
unfolding token
returns-clause-value c = grind (arith, common_steps)
