use Rattle.std.proofs.lemmas.Grind.{common_steps}
use Rattle.std.proofs.Common.{arith}
use Rattle.object65.proofs.writing.encode_exports.Goals as goal

pub loop-export-preserved : goal.loop-export-preserved
loop-export-preserved c = grind (arith, common_steps)

pub encode_export-requires : goal.encode_export-requires
encode_export-requires c = grind (arith, common_steps)

pub returns : goal.returns
returns c = grind (arith, common_steps)
