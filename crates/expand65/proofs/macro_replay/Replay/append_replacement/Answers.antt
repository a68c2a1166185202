use Rattle.std.proofs.lemmas.Grind.{common_steps}
use Rattle.std.proofs.Common.{arith}
use Rattle.expand65.proofs.macro_replay.Replay.append_replacement.Goals as goal

pub returns-in_ok-push-in-Itself : goal.returns-in_ok-push-in-Itself
returns-in_ok-push-in-Itself c = grind (arith, common_steps)
