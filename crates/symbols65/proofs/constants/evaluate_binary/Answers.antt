use Rattle.std.proofs.Common.{rules, ◌≡◌, ◌∙◌, None, Some, true, ap, sym}
use Rattle.semantics65.specs.Norms.{larger}
use Rattle.symbols65.specs.Resolving.{binary_form}
use Rattle.symbols65.proofs.Evaluations.{binary_found}
use Rattle.symbols65.proofs.constants.evaluate_binary.Goals as goal
use Rattle.symbols65.proofs.constants.evaluate_binary.Goals.{in-ZeroPage, in-Absolute, then-left, else-left, in_default-via-in-Some+in_default, in_default-via-in_default}

pub returns : goal.returns
returns c = λ y s own e g h k.
    (let sized : c.match-left.other ≡ larger c.args.left.size c.args.right.size = elim c.match-left.branch [ in-ZeroPage w ↦ search rules | in-Absolute w ↦ search rules ] in
    let left : c.if-left.is_final ≡ true → c.args.left.is_final ≡ true = λ yes. elim c.if-left.branch [ then-left w ↦ w.if-left.true | else-left w ↦ (let no = w.is_final-is in cc) ] in
    let right : c.if-left.is_final ≡ true → c.args.right.is_final ≡ true = λ yes. elim c.if-left.branch [ then-left w ↦ (let same = w.is_final-is in cc) | else-left w ↦ (let no = w.is_final-is in cc) ] in
    let folds : c.in_ok-form.form ≡ binary_form c.args.op c.args.left.form c.args.right.form = c.in_ok-form.ensures _ c.binary.ensures ∙ sym (ap (λ o. binary_form c.args.op o c.args.right.form) c.in-Some-Some.is-0 ∙ ap (binary_form c.args.op (Some c.in-Some-Some.left)) c.in-Some-Some.is-1) in
    binary_found y s own c.args.op e g c.args.left c.args.right c.evaluation_of-2.result c.in_ok-form.form c.if-left.is_final c.match-left.other h k folds sized left right
    (record { form = c.evaluation_of-2.ensures.form; final = c.evaluation_of-2.ensures.finality; size = c.evaluation_of-2.ensures.size }))

pub returns-in_default : goal.returns-in_default
returns-in_default c = λ y s own e g h k.
    (let sized : c.match-left.other ≡ larger c.args.left.size c.args.right.size = elim c.match-left.branch [ in-ZeroPage w ↦ search rules | in-Absolute w ↦ search rules ] in
    let left : c.if-left.is_final ≡ true → c.args.left.is_final ≡ true = λ yes. elim c.if-left.branch [ then-left w ↦ w.if-left.true | else-left w ↦ (let no = w.is_final-is in cc) ] in
    let right : c.if-left.is_final ≡ true → c.args.right.is_final ≡ true = λ yes. elim c.if-left.branch [ then-left w ↦ (let same = w.is_final-is in cc) | else-left w ↦ (let no = w.is_final-is in cc) ] in
    let folds : None ≡ binary_form c.args.op c.args.left.form c.args.right.form = elim c.in_default.branch [ in_default-via-in-Some+in_default w ↦ search rules | in_default-via-in_default w ↦ search rules ] in
    binary_found y s own c.args.op e g c.args.left c.args.right c.evaluation_of.result None c.if-left.is_final c.match-left.other h k folds sized left right
    (record { form = c.evaluation_of.ensures.form; final = c.evaluation_of.ensures.finality; size = c.evaluation_of.ensures.size }))
