use Rattle.std.proofs.Common.{◌≡◌, ◌∙◌, Ok, Some, ap, sym}
use Rattle.std.specs.Option.{option_and_then}
use Rattle.semantics65.specs.Symbols.{binding_of, defined_at}
use Rattle.symbols65.specs.Resolving.{attempt_definition, attempt_value, binding_in, known_form}
use Rattle.symbols65.specs.Views.{final_form, table_of}
use Rattle.symbols65.specs.declared.table.symbols.Definition.{Definition}
use Rattle.symbols65.proofs.Finals.{operand_stays}
use Rattle.symbols65.proofs.resolving.finals.final_binding_form.Goals as goal

pub returns-in-None-default : goal.returns-in-None-default
returns-in-None-default c =
    let t = c.args.symbols.now in
    let y = table_of t in
    let j = c.in-Defined.index in
    let means : binding_of y c.args.context c.args.operand.now ≡ Ok (defined_at j) = c.requires ∙ ap (λ m. Ok (binding_in m)) c.in-Defined.is in
    let always = c.is_final.ensures c.if-not-is_final.false means in
    operand_stays t c.args.context c.args.operand.now j _ always (ap (attempt_definition (λ q v. known_form j (final_form t j))) c.in-Some.ensures.definition ∙ ap (attempt_value (λ q v. known_form j (final_form t j)) c.in-Some.definition.now.context) c.in-None-default.is-0 ∙ ap Ok (sym c.address.ensures))

pub returns-in_ok-copy_of-in-Some-Some : goal.returns-in_ok-copy_of-in-Some-Some
returns-in_ok-copy_of-in-Some-Some c =
    let t = c.args.symbols.now in
    let y = table_of t in
    let j = c.in-Defined.index in
    let means : binding_of y c.args.context c.args.operand.now ≡ Ok (defined_at j) = c.requires ∙ ap (λ m. Ok (binding_in m)) c.in-Defined.is in
    let always = c.is_final.ensures c.if-not-is_final.false means in
    let kept : final_form t j ≡ Some c.in-Some-Some.form = ap (option_and_then (λ (d : Definition). d.form)) (sym c.in-Some.ensures.entry) ∙ c.in-Some-Some.is-1 in
    operand_stays t c.args.context c.args.operand.now j _ always
    (ap (attempt_definition (λ q v. known_form j (final_form t j))) c.in-Some.ensures.definition ∙ ap (attempt_value (λ q v. known_form j (final_form t j)) c.in-Some.definition.now.context) c.in-Some-Some.is-0 ∙ ap (known_form j) kept ∙ ap Ok (sym c.in_ok-copy_of-in-Some-Some.ensures))
