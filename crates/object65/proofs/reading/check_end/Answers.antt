use Rattle.std.proofs.lemmas.Grind.{common_steps}
use Rattle.std.proofs.Common.{arith}
use Rattle.object65.proofs.reading.check_end.Goals as goal

pub returns-then-n-gt0-clause-frame : goal.returns-then-n-gt0-clause-frame
returns-then-n-gt0-clause-frame g c = grind (arith, common_steps)

pub returns-clause-frame : goal.returns-clause-frame
returns-clause-frame g c = grind (arith, common_steps)
