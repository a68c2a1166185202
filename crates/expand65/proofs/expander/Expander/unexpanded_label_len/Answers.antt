use Rattle.std.proofs.lemmas.Grind.{common_steps}
use Rattle.std.proofs.Common.{arith}
use Rattle.expand65.proofs.expander.Expander.unexpanded_label_len.Goals as goal

pub returns-in_default-clause-statements : goal.returns-in_default-clause-statements
returns-in_default-clause-statements c = grind (arith, common_steps)

pub returns-in_default-2-clause-statements : goal.returns-in_default-2-clause-statements
returns-in_default-2-clause-statements c = grind (arith, common_steps)
