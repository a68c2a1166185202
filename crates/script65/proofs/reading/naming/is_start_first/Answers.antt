use Rattle.std.proofs.Common.{arith}
use Rattle.std.proofs.lemmas.Grind.{common_steps}
use Rattle.script65.proofs.reading.naming.is_start_first.Goals as goal

pub returns-then-eq-2 : goal.returns-then-eq-2
returns-then-eq-2 c = grind (arith, common_steps)

pub loop-assignment-preserved : goal.loop-assignment-preserved
loop-assignment-preserved c = grind (arith, common_steps)

pub returns-then-eq : goal.returns-then-eq
returns-then-eq c = grind (arith, common_steps)

pub returns : goal.returns
returns c = grind (arith, common_steps)
