use Rattle.object65.specs.Scanning.{scan_part}
use Rattle.std.proofs.lemmas.Grind.{common_steps}
use Rattle.std.proofs.Common.{arith}
use Rattle.object65.proofs.scan_steps.accept_part.Goals as goal

pub returns : goal.returns
unfolding scan_part
returns c = grind (arith, common_steps)
