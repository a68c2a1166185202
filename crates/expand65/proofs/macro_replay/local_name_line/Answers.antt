use Rattle.std.proofs.lemmas.Grind.{common_steps}
use Rattle.std.proofs.Common.{arith}
use Rattle.expand65.proofs.macro_replay.local_name_line.Goals as goal

pub returns : goal.returns
returns c = grind (arith, common_steps)
