use Rattle.object65.specs.Scanning.{scan_section}
use Rattle.std.proofs.lemmas.Grind.{common_steps}
use Rattle.std.proofs.Common.{arith}
use Rattle.object65.proofs.scan_steps.accept_section.Goals as goal

pub returns-in_err-check_name : goal.returns-in_err-check_name
unfolding scan_section
returns-in_err-check_name c = grind (arith, common_steps)

pub returns-in_err-check : goal.returns-in_err-check
unfolding scan_section
returns-in_err-check c = grind (arith, common_steps)

pub returns : goal.returns
unfolding scan_section
returns c = grind (arith, common_steps)

pub returns-in_err-check-2 : goal.returns-in_err-check-2
unfolding scan_section
returns-in_err-check-2 c = grind (arith, common_steps)

pub returns-in_err-size : goal.returns-in_err-size
unfolding scan_section
returns-in_err-size c = grind (arith, common_steps)
