use Rattle.std.proofs.Common.{arith}
use Rattle.std.proofs.lemmas.Grind.{common_steps}
use Rattle.library65.proofs.contents.add_item.Goals as goal

pub returns-in_ok-push-in-Export-clause-added : goal.returns-in_ok-push-in-Export-clause-added
returns-in_ok-push-in-Export-clause-added c = grind (arith, common_steps)
