use Rattle.std.proofs.lemmas.Grind.{common_steps}
use Rattle.std.proofs.Common.{arith}
use Rattle.object65.proofs.writing.encode_sections.Goals as goal

pub returns : goal.returns
returns c = grind (arith, common_steps)

pub loop-section-preserved : goal.loop-section-preserved
loop-section-preserved c = grind (arith, common_steps)

pub encode_section-requires : goal.encode_section-requires
encode_section-requires c = grind (arith, common_steps)
