use Rattle.std.proofs.Common.{arith}
use Rattle.std.proofs.lemmas.Grind.{common_steps}
use Rattle.base65.proofs.mem_store.copy_from.Goals as goal

pub returns-clause-fills : goal.returns-clause-fills
returns-clause-fills c = grind (arith, common_steps)
