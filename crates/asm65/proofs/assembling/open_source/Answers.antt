use Rattle.std.proofs.lemmas.Grind.{common_steps}
use Rattle.std.proofs.Common.{arith}
use Rattle.asm65.proofs.assembling.open_source.Goals as goal

pub returns-clause-opened : goal.returns-clause-opened
returns-clause-opened g c = grind (arith, common_steps)

pub loop-folder-preserved : goal.loop-folder-preserved
loop-folder-preserved g c = grind (arith, common_steps)
