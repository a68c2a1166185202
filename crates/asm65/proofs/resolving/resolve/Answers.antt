use Rattle.std.proofs.lemmas.Grind.{common_steps}
use Rattle.std.proofs.Common.{Result, arith, refl}
use Rattle.std.proofs.lemmas.Result.{err_from_is_err_and}
use Rattle.base65.specs.Outcome.{◌>>=◌, RefinesErr}
use Rattle.ast65.specs.declared.fault.AsmFault.{AsmFault}
use Rattle.ast65.specs.Faults.{is_out_of_memory}
use Rattle.semantics65.specs.Module.{asserted, value_result}
use Rattle.emit65.specs.SectionContents.{names_of}
use Rattle.asm65.specs.Internal.RunState.{result_of_piece, location_of_fixup}
use Rattle.symbols65.proofs.StatementLayouts.{unless_then}
use Rattle.asm65.proofs.Exports.{names_stay, none_asserted}
use Rattle.asm65.proofs.resolving.resolve.Goals as goal

pub returns-in_ok-form-in-Assertion-clause-piece : goal.returns-in_ok-form-in-Assertion-clause-piece
returns-in_ok-form-in-Assertion-clause-piece c =
    rw (c.in-Assertion.is, c.in_ok-form-in-Assertion.ensures.form) (c.resolve_assertion.ensures.piece c.args.fixup.context)

pub returns-in_ok-form-in-Assertion-clause-more : goal.returns-in_ok-form-in-Assertion-clause-more
returns-in_ok-form-in-Assertion-clause-more c =
    let location = location_of_fixup c.args.fixup_location in
    let s = c.args.fixup.context in
    let action = c.in-Assertion.action in
    let text = c.in-Assertion.text in
    let f = c.in_ok-form-in-Assertion.form in
    names_stay is_out_of_memory (result_of_piece c.args.fixup_location) (names_of c.args.exported.now) c.resolve_assertion.result (value_result location s (asserted action text) f) (none_asserted location s action text f) (c.resolve_assertion.ensures.piece s)

pub returns-in-Some-defined-clause-piece : goal.returns-in-Some-defined-clause-piece
returns-in-Some-defined-clause-piece c = rw c.in-Export.is (c.resolve_export.ensures.piece c.in-Export.must c.args.fixup.context)

pub returns-in-None-2-clause-piece : goal.returns-in-None-2-clause-piece
returns-in-None-2-clause-piece c = grind (arith, common_steps)

pub returns-in-None-defined-clause-piece : goal.returns-in-None-defined-clause-piece
returns-in-None-defined-clause-piece c = grind (arith, common_steps)

pub returns-in_ok-norm-in-Constant-clause-piece : goal.returns-in_ok-norm-in-Constant-clause-piece
returns-in_ok-norm-in-Constant-clause-piece c = grind (arith, common_steps)

pub returns-in-Some-clause-piece : goal.returns-in-Some-clause-piece
returns-in-Some-clause-piece c = grind (arith, common_steps)

pub returns-in_ok-declaration_piece-in-ForcedImport-clause-piece : goal.returns-in_ok-declaration_piece-in-ForcedImport-clause-piece
returns-in_ok-declaration_piece-in-ForcedImport-clause-piece c = grind (arith, common_steps)

-- The error of the first of two steps is the error of both.
first_fails : {A B : Type 0} (r : Result A AsmFault) (k : A → Result B AsmFault) (e : AsmFault)
    → RefinesErr is_out_of_memory e r → RefinesErr is_out_of_memory e (r >>= k)
first_fails r k e failed = unless_then (is_out_of_memory e) (λ h. rw h refl) failed

pub returns-in_err-form-in-Datum-clause-piece : goal.returns-in_err-form-in-Datum-clause-piece
returns-in_err-form-in-Datum-clause-piece c =
    let p = err_from_is_err_and c.from_residual.result c.from_residual.ensures.1 in
    rw (p.1, p.2, c.in-Datum.is) (first_fails _ _ _ c.in_err-form-in-Datum.ensures.form)

pub returns-in_err-form-in-Operand-clause-piece : goal.returns-in_err-form-in-Operand-clause-piece
returns-in_err-form-in-Operand-clause-piece c =
    let p = err_from_is_err_and c.from_residual-in_err-form-in-Operand.result c.from_residual-in_err-form-in-Operand.ensures.1 in
    rw (p.1, p.2, c.in-Operand.is) (first_fails _ _ _ c.in_err-form-in-Operand.ensures.form)

pub returns-in_err-norm-in-Constant-clause-piece : goal.returns-in_err-norm-in-Constant-clause-piece
returns-in_err-norm-in-Constant-clause-piece c =
    let p = err_from_is_err_and c.from_residual-in_err-norm-in-Constant.result c.from_residual-in_err-norm-in-Constant.ensures.1 in
    rw (p.1, p.2, c.in-Constant.is) (first_fails _ _ _ c.in_err-norm-in-Constant.ensures.form)

pub returns-in_err-form-in-Assertion-clause-piece : goal.returns-in_err-form-in-Assertion-clause-piece
returns-in_err-form-in-Assertion-clause-piece c =
    let p = err_from_is_err_and c.from_residual-in_err-form-in-Assertion.result c.from_residual-in_err-form-in-Assertion.ensures.1 in
    rw (p.1, p.2, c.in-Assertion.is) (first_fails _ _ _ c.in_err-form-in-Assertion.ensures.form)

pub returns-in_err-form-in-Operand-2-clause-piece : goal.returns-in_err-form-in-Operand-2-clause-piece
returns-in_err-form-in-Operand-2-clause-piece c = grind (arith, common_steps)
