use Rattle.std.proofs.Common.{◌≡◌, ◌∙◌, Ok, Some, ap, subst}
use Rattle.std.specs.Option.{ok_or, option_map}
use Rattle.semantics65.specs.Symbols.{binding_of}
use Rattle.semantics65.specs.declared.contexts.Context.{Context}
use Rattle.semantics65.specs.Layout.{own_size}
use Rattle.symbols65.specs.Internal.BindingFaults.{binding_fault}
use Rattle.symbols65.specs.Resolving.{binding_in}
use Rattle.symbols65.specs.Evaluations.{HasFinal, IsEvaluation}
use Rattle.symbols65.specs.Views.{table_of}
use Rattle.symbols65.proofs.Evaluations.{final_found, meant_found}
use Rattle.symbols65.proofs.constants.evaluate_reference.Goals as goal

pub final_binding_form-requires : goal.final_binding_form-requires
final_binding_form-requires c =
    let y = table_of c.args.before.symbols.now in
    c.binding_at.ensures ∙ ap (λ o. ok_or (option_map binding_in o) (binding_fault y c.context-context.result c.args.operand.now)) c.in-Some.is

pub returns-in-Some-2 : goal.returns-in-Some-2
returns-in-Some-2 c =
    let y = table_of c.args.before.symbols.now in
    let s = c.context-context.result in
    let e = c.args.operand.now in
    let own = own_size c.args.before.cursor.now in
    let meaning = c.in-Some.meaning in
    let means : binding_of y s e ≡ Ok (binding_in meaning) = c.binding_at.ensures ∙ ap (λ o. ok_or (option_map binding_in o) (binding_fault y s e)) c.in-Some.is in
    let keeps = subst (HasFinal y s (Some e)) c.in-Some-2.is c.in_ok-form.ensures in
    subst (λ (s : Context). IsEvaluation y s own e c.evaluation_of-in-Some-2.result) c.context-context.ensures
    (final_found y s own e (binding_in meaning) c.in-Some-2.form c.evaluation_of-in-Some-2.result c.size_of_binding-other.result c.requires means keeps c.size_of_binding-other.ensures
    (record { form = c.evaluation_of-in-Some-2.ensures.form; final = c.evaluation_of-in-Some-2.ensures.finality; size = c.evaluation_of-in-Some-2.ensures.size }))

pub returns : goal.returns
returns c =
    let y = table_of c.args.before.symbols.now in
    let s = c.context-context.result in
    let e = c.args.operand.now in
    let own = own_size c.args.before.cursor.now in
    let meaning = c.in-Some.meaning in
    let means : binding_of y s e ≡ Ok (binding_in meaning) = c.binding_at.ensures ∙ ap (λ o. ok_or (option_map binding_in o) (binding_fault y s e)) c.in-Some.is in
    subst (λ (s : Context). IsEvaluation y s own e c.evaluation_of-2.result) c.context-context.ensures
    (meant_found y s own e (binding_in meaning) c.evaluation_of-2.result c.in_ok-form-2.form c.size_of_binding-other.result c.requires means (c.in_ok-form-2.ensures s e means) c.size_of_binding-other.ensures
    (record { form = c.evaluation_of-2.ensures.form; final = c.evaluation_of-2.ensures.finality; size = c.evaluation_of-2.ensures.size }))
