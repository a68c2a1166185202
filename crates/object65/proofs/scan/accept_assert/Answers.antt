use Rattle.object65.specs.Scanning.{scan_assert}
use Rattle.std.proofs.lemmas.Grind.{common_steps}
use Rattle.std.proofs.Common.{arith}
use Rattle.object65.proofs.scan.accept_assert.Goals as goal

pub returns-in_err-check_indices : goal.returns-in_err-check_indices
unfolding scan_assert
returns-in_err-check_indices c = grind (arith, common_steps)

pub returns : goal.returns
unfolding scan_assert
returns c = grind (arith, common_steps)

pub returns-in_err-check_open_form : goal.returns-in_err-check_open_form
unfolding scan_assert
returns-in_err-check_open_form c = grind (arith, common_steps)
