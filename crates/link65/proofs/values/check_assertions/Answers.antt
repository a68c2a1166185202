use Rattle.std.proofs.Common.{arith}
use Rattle.std.proofs.lemmas.Grind.{common_steps}
use Rattle.link65.proofs.values.check_assertions.Goals as goal

pub loop-assert-preserved : goal.loop-assert-preserved
loop-assert-preserved c = grind (arith, common_steps)
