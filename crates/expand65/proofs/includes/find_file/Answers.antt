use Rattle.std.proofs.lemmas.Grind.{common_steps}
use Rattle.std.proofs.Common.{arith}
use Rattle.expand65.proofs.includes.find_file.Goals as goal

pub returns-in-None-clause-frame : goal.returns-in-None-clause-frame
returns-in-None-clause-frame g c = grind (arith, common_steps)

pub returns-in-Some-clause-frame : goal.returns-in-Some-clause-frame
returns-in-Some-clause-frame g c = grind (arith, common_steps)

pub returns-in-Some-2-clause-frame : goal.returns-in-Some-2-clause-frame
returns-in-Some-2-clause-frame g c = grind (arith, common_steps)

pub returns-in_err-found-clause-found : goal.returns-in_err-found-clause-found
returns-in_err-found-clause-found g c = grind (arith, common_steps)

pub returns-in-Some-2-clause-found : goal.returns-in-Some-2-clause-found
returns-in-Some-2-clause-found g c = grind (arith, common_steps)

pub returns-clause-last_failure : goal.returns-clause-last_failure
returns-clause-last_failure g c = grind (arith, common_steps)

pub returns-clause-frame : goal.returns-clause-frame
returns-clause-frame g c = grind (arith, common_steps)

pub returns-in-Some-2-clause-last_failure : goal.returns-in-Some-2-clause-last_failure
returns-in-Some-2-clause-last_failure g c = grind (arith, common_steps)
