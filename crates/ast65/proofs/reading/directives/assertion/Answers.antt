use Rattle.std.proofs.lemmas.Grind.{common_steps}
use Rattle.std.proofs.Common.{arith}
use Rattle.ast65.proofs.reading.directives.assertion.Goals as goal

pub returns-in_err-text : goal.returns-in_err-text
returns-in_err-text c = grind (arith, common_steps)

pub returns-in_err-action : goal.returns-in_err-action
returns-in_err-action c = grind (arith, common_steps)

pub returns-in_err-ok_or_not_understood : goal.returns-in_err-ok_or_not_understood
returns-in_err-ok_or_not_understood c = grind (arith, common_steps)
