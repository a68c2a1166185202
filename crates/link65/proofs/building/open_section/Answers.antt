use Rattle.std.proofs.Common.{arith}
use Rattle.std.proofs.lemmas.Grind.{common_steps}
use Rattle.link65.proofs.building.open_section.Goals as goal

pub overflow_cast-gap : goal.overflow_cast-gap
overflow_cast-gap c = grind (arith, common_steps)

pub returns-clause-grown : goal.returns-clause-grown
returns-clause-grown c = grind (arith, common_steps)
