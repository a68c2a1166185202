use Rattle.std.proofs.lemmas.Grind.{common_steps}
use Rattle.std.proofs.Common.{arith}
use Rattle.expand65.proofs.macro_replay.Replay.substitute_tokens.Goals as goal

pub loop-token-preserved : goal.loop-token-preserved
loop-token-preserved c = grind (arith, common_steps)

pub returns-then-len-gt-MAX_TOKENS-clause-value : goal.returns-then-len-gt-MAX_TOKENS-clause-value
returns-then-len-gt-MAX_TOKENS-clause-value c = grind (arith, common_steps)

pub returns-clause-value : goal.returns-clause-value
returns-clause-value c = grind (arith, common_steps)
