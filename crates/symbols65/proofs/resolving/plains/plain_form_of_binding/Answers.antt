use Rattle.std.proofs.Common.{◌≡◌, ◌∙◌, Some, Ok, length, sym, ap}
use Rattle.std.specs.Option.{option_and_then}
use Rattle.syntax65.specs.Trees.{Tree}
use Rattle.semantics65.specs.declared.contexts.Context.{Context}
use Rattle.semantics65.specs.Norms.{defined_form, form_of_definition, form_of_value, norm_of}
use Rattle.semantics65.specs.Symbols.{binding_of, defined_at}
use Rattle.symbols65.specs.declared.table.symbols.Definition.{Definition}
use Rattle.symbols65.specs.Resolving.{binding_in, plain_result}
use Rattle.symbols65.specs.Views.{final_form, table_of}
use Rattle.symbols65.proofs.Blockers.{operand_defined}
use Rattle.symbols65.proofs.KnownForms.{finals_found}
use Rattle.symbols65.proofs.PlainForms.{operand_norm}
use Rattle.symbols65.proofs.StatementLayouts.{ok_with}
use Rattle.symbols65.proofs.resolving.plains.plain_form_of_binding.Goals as goal

pub returns-in-Some-Some : goal.returns-in-Some-Some
returns-in-Some-Some c = λ s e means.
    (let t = c.args.symbols.now in
    let y = table_of t in
    let j = c.in-Defined.index in
    let kept : final_form t j ≡ Some c.in-Some-Some.form = ap (option_and_then (λ (d : Definition). d.form)) (sym c.in-Some.ensures.entry) ∙ c.in-Some-Some.is-1 in
    c.plain_form.ensures
    ∙ sym (ap plain_result (operand_norm (length y.definitions) y s e (defined_at j) (means ∙ ap (λ m. Ok (binding_in m)) c.in-Defined.is) ∙ finals_found t j c.in-Some-Some.form kept)))

pub returns-in-Some-cached_plain_form : goal.returns-in-Some-cached_plain_form
returns-in-Some-cached_plain_form c = λ s e means.
    (let y = table_of c.args.symbols.now in
    c.in-Some-cached_plain_form.ensures ∙ sym (ap plain_result (operand_defined y s e c.in-Defined.index (means ∙ ap (λ m. Ok (binding_in m)) c.in-Defined.is))))

pub returns-then-is_blocked : goal.returns-then-is_blocked
returns-then-is_blocked c = λ s e means.
    (let y = table_of c.args.symbols.now in
    sym (ap plain_result (operand_defined y s e c.in-Defined.index (means ∙ ap (λ m. Ok (binding_in m)) c.in-Defined.is)) ∙ c.is_blocked.ensures c.if-is_blocked.true))

pub returns-else-is_blocked : goal.returns-else-is_blocked
returns-else-is_blocked c =
    let y = table_of c.args.symbols.now in
    let j = c.in-Defined.index in
    let d = c.in-Some.definition.now in
    let own : defined_form y j ≡ norm_of y d.context c.in-Some-None.value = ap (form_of_definition (norm_of y)) c.in-Some.ensures.definition ∙ ap (form_of_value (norm_of y) d.context) c.in-Some-None.is-0 in
    ok_with (λ f. f ≡ plain_result (norm_of y d.context c.in-Some-None.value)) (λ f. (s : Context) → (e : Tree) → binding_of y s e ≡ Ok (binding_in c.args.meaning) → f ≡ plain_result (norm_of y s e)) c.find_plain_form.result
    (λ f is s e means. is ∙ sym (ap plain_result (operand_defined y s e j (means ∙ ap (λ m. Ok (binding_in m)) c.in-Defined.is) ∙ own))) c.find_plain_form.ensures
