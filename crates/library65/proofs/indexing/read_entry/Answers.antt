use Rattle.std.proofs.lemmas.Grind.{common_steps}
use Rattle.std.proofs.Common.{◌∙◌, arith, refl}
use Rattle.std.proofs.lemmas.Result.{err_from_is_err_and}
use Rattle.library65.proofs.Steps.{kept_count, kept_frame, passed_frame}
use Rattle.library65.proofs.FailedRequests.{exports_failed, fault_of, name_failed, size_failed}
use Rattle.library65.specs.Reading.{unplaced_entry_at, member_name_at}
use Rattle.library65.specs.Reading.{member_name_at}
use Rattle.library65.proofs.indexing.read_entry.Goals as goal

pub returns-in_err-imports-clause-read : goal.returns-in_err-imports-clause-read
unfolding unplaced_entry_at member_name_at
returns-in_err-imports-clause-read g c = grind (arith, common_steps)

pub returns-in_err-exports-clause-read : goal.returns-in_err-exports-clause-read
unfolding unplaced_entry_at member_name_at
returns-in_err-exports-clause-read g c = grind (arith, common_steps)

pub returns-in_err-size-clause-read : goal.returns-in_err-size-clause-read
unfolding unplaced_entry_at member_name_at
returns-in_err-size-clause-read g c = grind (arith, common_steps)

pub returns-then-not-has_name-clause-read : goal.returns-then-not-has_name-clause-read
unfolding unplaced_entry_at member_name_at
returns-then-not-has_name-clause-read g c = grind (arith, common_steps)

pub returns-in_err-imports-clause-frame : goal.returns-in_err-imports-clause-frame
returns-in_err-imports-clause-frame g c =
    passed_frame c.in_err-imports.field-0.0 c.from_residual-in_err-imports.result c.from_residual-in_err-imports.ensures.1
    (c.in_ok-exports.ensures.frame.files ∙ c.in_ok-size.ensures.frame.files ∙ c.in_ok-name.ensures.frame.files)
    (kept_count _ _ _ c.in_ok-exports.ensures.frame.count ∙ kept_count _ _ _ c.in_ok-size.ensures.frame.count ∙ kept_count _ _ _ c.in_ok-name.ensures.frame.count)
    c.in_err-imports.ensures.frame

pub returns-in_err-exports-clause-frame : goal.returns-in_err-exports-clause-frame
returns-in_err-exports-clause-frame g c =
    passed_frame c.in_err-exports.field-0.0 c.from_residual-in_err-exports.result c.from_residual-in_err-exports.ensures.1
    (c.in_ok-size.ensures.frame.files ∙ c.in_ok-name.ensures.frame.files)
    (kept_count _ _ _ c.in_ok-size.ensures.frame.count ∙ kept_count _ _ _ c.in_ok-name.ensures.frame.count)
    c.in_err-exports.ensures.frame

pub returns-clause-read : goal.returns-clause-read
unfolding unplaced_entry_at member_name_at
returns-clause-read g c = grind (arith, common_steps)

pub returns-clause-frame : goal.returns-clause-frame
returns-clause-frame g c =
    kept_frame (c.in_ok-imports.imports, c.in_ok-imports.end) _
    (c.in_ok-exports.ensures.frame.files ∙ c.in_ok-size.ensures.frame.files ∙ c.in_ok-name.ensures.frame.files)
    (kept_count _ _ _ c.in_ok-exports.ensures.frame.count ∙ kept_count _ _ _ c.in_ok-size.ensures.frame.count ∙ kept_count _ _ _ c.in_ok-name.ensures.frame.count)
    c.in_ok-imports.ensures.frame

pub returns-in_err-size-clause-frame : goal.returns-in_err-size-clause-frame
returns-in_err-size-clause-frame g c =
    passed_frame c.in_err-size.field-0.0 c.from_residual-in_err-size.result c.from_residual-in_err-size.ensures.1
    (c.in_ok-name.ensures.frame.files)
    (kept_count _ _ _ c.in_ok-name.ensures.frame.count)
    c.in_err-size.ensures.frame

pub returns-in_err-name-clause-before : goal.returns-in_err-name-clause-before
returns-in_err-name-clause-before g c =
    let p = err_from_is_err_and c.from_residual.result c.from_residual.ensures.1 in
    rw (p.1, p.2) (λ h. name_failed _ _ _ c.args.file.now refl c.args.at _ (c.in_err-name.ensures.before (fault_of c.in_err-name.field-0.0 h)))

pub returns-in_err-size-clause-before : goal.returns-in_err-size-clause-before
returns-in_err-size-clause-before g c =
    let p = err_from_is_err_and c.from_residual-in_err-size.result c.from_residual-in_err-size.ensures.1 in
    rw (p.1, p.2) (λ h. size_failed _ _ _ c.args.file.now refl c.args.at _ (c.in_ok-name.name, c.in_ok-name.end) c.in_ok-name.ensures.read (c.in_err-size.ensures.within (fault_of c.in_err-size.field-0.0 h)))

pub returns-in_err-exports-clause-before : goal.returns-in_err-exports-clause-before
returns-in_err-exports-clause-before g c =
    let p = err_from_is_err_and c.from_residual-in_err-exports.result c.from_residual-in_err-exports.ensures.1 in
    let files = c.in_ok-size.ensures.frame.files ∙ c.in_ok-name.ensures.frame.files in
    rw (p.1, p.2) (λ h. exports_failed _ _ _ c.args.file.now files c.args.at _ (c.in_ok-name.name, c.in_ok-name.end) c.in_ok-name.ensures.read (c.in_err-exports.ensures.before (fault_of c.in_err-exports.field-0.0 h)))
