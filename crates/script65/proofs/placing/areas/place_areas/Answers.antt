use Rattle.std.proofs.lemmas.Grind.{common_steps}
use Rattle.std.proofs.Common.{arith}
use Rattle.script65.proofs.placing.areas.place_areas.Goals as goal

pub loop-index-preserved : goal.loop-index-preserved
loop-index-preserved c = grind (arith, common_steps)

pub returns-in_err-bounds : goal.returns-in_err-bounds
returns-in_err-bounds c = grind (arith, common_steps)

pub returns-in_err-last : goal.returns-in_err-last
returns-in_err-last c = grind (arith, common_steps)

pub returns : goal.returns
returns c = grind (arith, common_steps)
