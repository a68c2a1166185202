use Rattle.std.proofs.lemmas.Grind.{common_steps}
use Rattle.std.proofs.Common.{arith, rules}
use Rattle.std.proofs.lemmas.Int.{wraps}
use Rattle.base65.proofs.values.apply2.Goals as goal

pub returns-in-Add : goal.returns-in-Add
returns-in-Add c = search (rules, wraps)

pub returns-in-Subtract : goal.returns-in-Subtract
returns-in-Subtract c = search (rules, wraps)

pub returns-in-Multiply : goal.returns-in-Multiply
returns-in-Multiply c = grind (arith, common_steps)
