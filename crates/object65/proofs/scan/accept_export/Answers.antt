use Rattle.object65.specs.Scanning.{scan_export}
use Rattle.std.proofs.lemmas.Grind.{common_steps}
use Rattle.std.proofs.Common.{arith}
use Rattle.object65.proofs.scan.accept_export.Goals as goal

pub returns-in_err-check_form : goal.returns-in_err-check_form
unfolding scan_export
returns-in_err-check_form c = grind (arith, common_steps)

pub returns-in_err-check_indices : goal.returns-in_err-check_indices
unfolding scan_export
returns-in_err-check_indices c = grind (arith, common_steps)

pub returns : goal.returns
unfolding scan_export
returns c = grind (arith, common_steps)

pub returns-in_err-check_name : goal.returns-in_err-check_name
unfolding scan_export
returns-in_err-check_name c = grind (arith, common_steps)
