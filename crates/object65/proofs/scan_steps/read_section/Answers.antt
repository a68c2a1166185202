use Rattle.std.proofs.lemmas.Grind.{common_steps}
use Rattle.std.proofs.Common.{arith}
use Rattle.object65.proofs.scan_steps.read_section.Goals as goal

pub returns : goal.returns
returns c = grind (arith, common_steps)
