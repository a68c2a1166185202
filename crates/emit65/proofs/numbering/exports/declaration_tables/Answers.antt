use Rattle.std.proofs.lemmas.Grind.{common_steps}
use Rattle.std.proofs.Common.{arith}
use Rattle.emit65.proofs.numbering.exports.declaration_tables.Goals as goal

pub loop-located-preserved : goal.loop-located-preserved
loop-located-preserved c = grind (arith, common_steps)
