use Rattle.std.proofs.lemmas.Grind.{common_steps}
use Rattle.std.proofs.Common.{arith}
use Rattle.library65.specs.Reading.{name_at}
use Rattle.library65.proofs.indexing.read_name.Goals as goal

pub returns-in_err-read_field-2-clause-frame : goal.returns-in_err-read_field-2-clause-frame
unfolding name_at
returns-in_err-read_field-2-clause-frame g c = grind (arith, common_steps)

pub returns-clause-frame : goal.returns-clause-frame
unfolding name_at
returns-clause-frame g c = grind (arith, common_steps)
