use Rattle.std.proofs.lemmas.Grind.{common_steps}
use Rattle.std.proofs.Common.{arith}
use Rattle.emit65.proofs.numbering.object_of.Goals as goal

pub returns-clause-object : goal.returns-clause-object
returns-clause-object c = grind (arith, common_steps)
