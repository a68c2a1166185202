use Rattle.std.proofs.Common.{arith}
use Rattle.std.proofs.lemmas.Grind.{common_steps}
use Rattle.script65.proofs.placing.areas.row_placements.Goals as goal

pub loop-row_state-preserved : goal.loop-row_state-preserved
loop-row_state-preserved c = grind (arith, common_steps)
