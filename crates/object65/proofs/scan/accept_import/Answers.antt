use Rattle.object65.specs.Scanning.{scan_import}
use Rattle.std.proofs.lemmas.Grind.{common_steps}
use Rattle.std.proofs.Common.{arith}
use Rattle.object65.proofs.scan.accept_import.Goals as goal

pub returns-in_err-check : goal.returns-in_err-check
unfolding scan_import
returns-in_err-check c = grind (arith, common_steps)

pub returns : goal.returns
unfolding scan_import
returns c = grind (arith, common_steps)

pub returns-in_err-check_name : goal.returns-in_err-check_name
unfolding scan_import
returns-in_err-check_name c = grind (arith, common_steps)
