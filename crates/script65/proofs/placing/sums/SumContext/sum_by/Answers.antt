use Rattle.std.proofs.Common.{arith}
use Rattle.std.proofs.lemmas.Grind.{common_steps}
use Rattle.script65.proofs.placing.sums.SumContext.sum_by.Goals as goal

pub loop-term-preserved : goal.loop-term-preserved
loop-term-preserved c = grind (arith, common_steps)
