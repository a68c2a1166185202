use Rattle.std.proofs.lemmas.Grind.{common_steps}
use Rattle.std.proofs.Common.{arith}
use Rattle.object65.proofs.builder.add_item.Goals as goal

pub returns-in-End : goal.returns-in-End
returns-in-End c = grind (arith, common_steps)

pub returns-in_ok-push-in-Export : goal.returns-in_ok-push-in-Export
returns-in_ok-push-in-Export c = grind (arith, common_steps)

pub returns-in_ok-push-in-File : goal.returns-in_ok-push-in-File
returns-in_ok-push-in-File c = grind (arith, common_steps)

pub returns-in_ok-push-in-Section : goal.returns-in_ok-push-in-Section
returns-in_ok-push-in-Section c = grind (arith, common_steps)

pub returns-in_ok-push-in-Import : goal.returns-in_ok-push-in-Import
returns-in_ok-push-in-Import c = grind (arith, common_steps)

pub returns-in_ok-push-in-Assert : goal.returns-in_ok-push-in-Assert
returns-in_ok-push-in-Assert c = grind (arith, common_steps)
