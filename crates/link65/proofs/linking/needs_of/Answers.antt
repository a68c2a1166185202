use Rattle.std.proofs.Common.{arith}
use Rattle.std.proofs.lemmas.Grind.{common_steps}
use Rattle.link65.proofs.linking.needs_of.Goals as goal

pub loop-content-preserved : goal.loop-content-preserved
loop-content-preserved c = grind (arith, common_steps)
