use Rattle.std.proofs.lemmas.Grind.{common_steps}
use Rattle.library65.specs.Reading.{index_at}
use Rattle.std.proofs.Common.{arith, Err, ap, refl}
use Rattle.std.proofs.lemmas.Result.{err_from_is_err_and}
use Rattle.library65.proofs.FailedRequests.{fault_of, list_failed}
use Rattle.library65.proofs.Steps.{kept_on}
use Rattle.library65.proofs.indexing.read_index.Goals as goal

pub returns-in_err-entries-clause-frame : goal.returns-in_err-entries-clause-frame
returns-in_err-entries-clause-frame g c =
    let p = err_from_is_err_and c.from_residual-in_err-entries.result c.from_residual-in_err-entries.ensures.1 in
    rw (p.1, p.2) (kept_on _ _ c.in_ok-members.ensures.frame (λ e. c.in_err-entries.ensures.cause (ap Err e)))

pub returns-in_err-members-clause-before : goal.returns-in_err-members-clause-before
returns-in_err-members-clause-before g c =
    let p = err_from_is_err_and c.from_residual.result c.from_residual.ensures.1 in
    rw (p.1, p.2) (λ h. list_failed _ _ _ c.args.file.now refl (c.in_err-members.ensures.before (fault_of c.in_err-members.field-0.0 h)))

pub returns-clause-read : goal.returns-clause-read
unfolding index_at
returns-clause-read g c = grind (arith, common_steps)

pub returns-then-n-gt1-clause-read : goal.returns-then-n-gt1-clause-read
unfolding index_at
returns-then-n-gt1-clause-read g c = grind (arith, common_steps)

pub returns-then-n-lt1-clause-read : goal.returns-then-n-lt1-clause-read
unfolding index_at
returns-then-n-lt1-clause-read g c = grind (arith, common_steps)
