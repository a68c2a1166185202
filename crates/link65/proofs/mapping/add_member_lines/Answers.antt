use Rattle.std.proofs.Common.{arith}
use Rattle.std.proofs.lemmas.Grind.{common_steps}
use Rattle.link65.proofs.mapping.add_member_lines.Goals as goal

pub loop-section-preserved : goal.loop-section-preserved
loop-section-preserved c = grind (arith, common_steps)

pub loop-section-init : goal.loop-section-init
loop-section-init c = grind (arith, common_steps)
