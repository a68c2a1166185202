use Rattle.std.proofs.Common.{ap, ◌∙◌, subst, sym, Result}
use Rattle.std.proofs.lemmas.Result.{err_from_is_err_and}
use Rattle.object65.specs.Form.{Form}
use Rattle.base65.specs.Outcome.{◌>>=◌, Refines}
use Rattle.ast65.specs.Faults.{is_out_of_memory}
use Rattle.symbols65.specs.declared.resolving.attempt.AttemptError.{AttemptError}
use Rattle.symbols65.specs.Resolving.{lacks_memory, binding_form, operand_form, attempt_result}
use Rattle.symbols65.specs.Views.{known_among, table_of}
use Rattle.symbols65.proofs.Scopes.{reference}
use Rattle.symbols65.proofs.Attempts.{operand_tried}
use Rattle.symbols65.proofs.StatementLayouts.{unless_then}
use Rattle.symbols65.proofs.resolving.attempt.+try_norm.Goals as goal

pub returns-in_err-meaning-in-Plain : goal.returns-in_err-meaning-in-Plain
returns-in_err-meaning-in-Plain t c =
    let p = err_from_is_err_and c.from_residual-in_err-meaning-in-Plain.result c.from_residual-in_err-meaning-in-Plain.ensures.1 in
    let y = table_of c.args.symbols.now in
    let s = c.args.context in
    let known = known_among c.args.symbols.now c.args.known.now in
    let e = c.in_err-meaning-in-Plain.field-0.0 in
    rw (p.1, p.2) (unless_then (is_out_of_memory e) (λ q.
    sym (operand_tried (operand_form known y s) s c.args.value.now (reference c.kind.result.now c.args.value.now c.kind.ensures c.in-Plain.is))
    ∙ ap (λ r. attempt_result r >>= binding_form known y) q) c.in_err-meaning-in-Plain.ensures)

pub returns-in_ok-meaning-in-Plain : goal.returns-in_ok-meaning-in-Plain
returns-in_ok-meaning-in-Plain t c =
    let y = table_of c.args.symbols.now in
    let s = c.args.context in
    let known = known_among c.args.symbols.now c.args.known.now in
    let P : Result Form AttemptError → Type 0 = λ r. Refines lacks_memory (λ f. f) c.attempt_binding.result r in
    subst P (ap (λ r. attempt_result r >>= binding_form known y) (sym c.in_ok-meaning-in-Plain.ensures)
    ∙ operand_tried (operand_form known y s) s c.args.value.now (reference c.kind.result.now c.args.value.now c.kind.ensures c.in-Plain.is)) c.attempt_binding.ensures
