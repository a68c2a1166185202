use Rattle.std.proofs.Common.{◌≡◌, ◌∙◌, false, true, sym}
use Rattle.asm65.proofs.Outcomes.{failure_outside}
use Rattle.asm65.proofs.ErrorResults.{failed_as, first_as, inside_as, outside_as}
use Rattle.asm65.proofs.assembling.fail_at_location.Goals as goal

pub returns-then-is_system_error-clause-outside : goal.returns-then-is_system_error-clause-outside
returns-then-is_system_error-clause-outside c = outside_as c.args.fault c.fail_without_location.result.result c.fail_without_location.ensures.none c.fail_without_location.ensures.fault

pub returns-then-is_system_error-clause-failed : goal.returns-then-is_system_error-clause-failed
returns-then-is_system_error-clause-failed c = failed_as c.args.fault c.fail_without_location.result.result c.fail_without_location.ensures.fault

pub returns-then-is_system_error-clause-first : goal.returns-then-is_system_error-clause-first
returns-then-is_system_error-clause-first c = λ failed. first_as c.args.fault c.fail_without_location.result.result c.fail_without_location.ensures.fault c.fail_without_location.ensures.placed

pub returns-clause-failed : goal.returns-clause-failed
returns-clause-failed c =
    let inside = sym c.if-is_system_error.ensures in
    inside_as c.args.fault c.fail_at_line.result.result inside (c.fail_at_line.ensures.no_failure inside)

pub returns-clause-first : goal.returns-clause-first
returns-clause-first c = λ failed. absurd (let both : false ≡ true = c.if-is_system_error.ensures ∙ failure_outside c.args.fault failed in cc)
