use Rattle.object65.specs.Scanning.{scan_file}
use Rattle.std.proofs.lemmas.Grind.{common_steps}
use Rattle.std.proofs.Common.{arith}
use Rattle.object65.proofs.scan.accept_file.Goals as goal

pub returns : goal.returns
unfolding scan_file
returns c = grind (arith, common_steps)

pub returns-in_err-check_file_name : goal.returns-in_err-check_file_name
unfolding scan_file
returns-in_err-check_file_name c = grind (arith, common_steps)

pub returns-in_err-check : goal.returns-in_err-check
unfolding scan_file
returns-in_err-check c = grind (arith, common_steps)
