use Rattle.std.proofs.lemmas.Grind.{common_steps}
use Rattle.std.proofs.Common.{arith}
use Rattle.expand65.proofs.includes.path_in_folder.Goals as goal

pub returns : goal.returns
returns c = grind (arith, common_steps)
