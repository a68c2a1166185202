use Rattle.std.proofs.Common.{rules, ◌≡◌, ◌∙◌, None, Some, ap, sym}
use Rattle.std.specs.Prelude.{if◌then◌else◌}
use Rattle.semantics65.specs.Norms.{is_byte_selector}
use Rattle.syntax65.specs.declared.lexing.tokens.AddressSize.TheVariants.{ZeroPage}
use Rattle.symbols65.specs.Resolving.{prefix_form}
use Rattle.symbols65.proofs.Evaluations.{prefix_found}
use Rattle.symbols65.proofs.constants.evaluate_prefix.Goals as goal
use Rattle.symbols65.proofs.constants.evaluate_prefix.Goals.{in-LowByte, in_default}

pub returns-in_default-form : goal.returns-in_default-form
returns-in_default-form c = λ y s own e h.
    (let sized : c.match-op.other ≡ (if is_byte_selector c.args.op then ZeroPage else c.args.part.size) = elim c.match-op.branch [ in-LowByte w ↦ search rules | in_default w ↦ search rules ] in
    prefix_found y s own c.args.op e c.args.part c.evaluation_of.result None c.match-op.other h (sym (ap (prefix_form c.args.op) c.in_default-form.is)) sized
    (record { form = c.evaluation_of.ensures.form; final = c.evaluation_of.ensures.finality; size = c.evaluation_of.ensures.size }))

pub returns : goal.returns
returns c = λ y s own e h.
    (let sized : c.match-op.other ≡ (if is_byte_selector c.args.op then ZeroPage else c.args.part.size) = elim c.match-op.branch [ in-LowByte w ↦ search rules | in_default w ↦ search rules ] in
    let folds : c.in_ok-form.form ≡ prefix_form c.args.op c.args.part.form =
    c.in_ok-form.ensures _ c.prefix.ensures ∙ ap (λ f. prefix_form c.args.op (Some f)) c.in-Some.part-is ∙ sym (ap (prefix_form c.args.op) c.in-Some.is) in
    prefix_found y s own c.args.op e c.args.part c.evaluation_of-2.result c.in_ok-form.form c.match-op.other h folds sized
    (record { form = c.evaluation_of-2.ensures.form; final = c.evaluation_of-2.ensures.finality; size = c.evaluation_of-2.ensures.size }))
