use Rattle.std.proofs.lemmas.Grind.{common_steps}
use Rattle.std.proofs.Common.{arith}
use Rattle.link65.proofs.naming.add_names_of_areas.Goals as goal

pub loop-area-preserved : goal.loop-area-preserved
loop-area-preserved c = grind (arith, common_steps)
