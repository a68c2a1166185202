use Rattle.std.proofs.Common.{arith}
use Rattle.std.proofs.lemmas.Grind.{common_steps}
use Rattle.link65.proofs.name_checks.DefinedNames.add_exports.Goals as goal

pub loop-export-preserved : goal.loop-export-preserved
loop-export-preserved c = grind (arith, common_steps)
