use Rattle.std.proofs.lemmas.Grind.{common_steps}
use Rattle.std.proofs.Common.{arith}
use Rattle.object65.proofs.builder.finish_sections.Goals as goal

pub loop-draft-preserved : goal.loop-draft-preserved
loop-draft-preserved c = grind (arith, common_steps)

pub returns : goal.returns
returns c = grind (arith, common_steps)
