use Rattle.object65.specs.Scanning.{scan_record}
use Rattle.std.proofs.lemmas.Grind.{common_steps}
use Rattle.std.proofs.Common.{arith}
use Rattle.object65.proofs.scan_steps.accept_record.Goals as goal

pub returns-in_default : goal.returns-in_default
unfolding scan_record
returns-in_default c = grind (arith, common_steps)

pub returns-in-3 : goal.returns-in-3
unfolding scan_record
returns-in-3 c = grind (arith, common_steps)
