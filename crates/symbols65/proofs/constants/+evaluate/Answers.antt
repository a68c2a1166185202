use Rattle.std.proofs.Common.{rules, ℕ, ◌≡◌, ◌∙◌, sym, ap, subst}
use Rattle.std.proofs.lemmas.Result.{err_from_is_err_and}
use Rattle.std.specs.Prelude.{Ok, Err}
use Rattle.base65.specs.Outcome.{Unless}
use Rattle.syntax65.specs.Kinds.{tree_of}
use Rattle.syntax65.specs.Trees.{Tree, binary, name}
use Rattle.ast65.specs.Faults.{is_out_of_memory}
use Rattle.semantics65.specs.Layout.{context_of, missing_scope_fault, own_size, unless_fault}
use Rattle.symbols65.specs.Evaluations.{EvaluatesTree}
use Rattle.symbols65.specs.Views.{table_of}
use Rattle.symbols65.proofs.Evaluations.{name_lost, none_lost}
use Rattle.symbols65.proofs.constants.+evaluate.Goals as goal

pub returns-in_err-check_name-in-Scoped : goal.returns-in_err-check_name-in-Scoped
returns-in_err-check_name-in-Scoped t c =
    let p = err_from_is_err_and c.from_residual-in_err-check_name-in-Scoped.result c.from_residual-in_err-check_name-in-Scoped.ensures.1 in
    let y = table_of c.args.before.symbols.now in
    let w = c.args.before.cursor.now in
    let e = c.in_err-check_name-in-Scoped.field-0.0 in
    let written = name c.in-Scoped.name.is_global c.in-Scoped.name.parts in
    let whole : written ≡ c.args.value.now = sym (sym c.kind.ensures ∙ ap tree_of c.in-Scoped.is) in
    rw (p.1, p.2) (subst (λ (v : Tree). EvaluatesTree y (context_of w) (own_size w) v (Err c.in_err-check_name-in-Scoped.field-0.0)) whole
    (name_lost y (context_of w) (own_size w) written e
    (subst (λ (k : ℕ). Unless (is_out_of_memory e) (unless_fault {A = Unit {0}} (missing_scope_fault y.scopes k written) tt ≡ Err e)) c.scope.ensures c.in_err-check_name-in-Scoped.ensures)))

pub returns-in_ok-evaluate_binary-in-Binary : goal.returns-in_ok-evaluate_binary-in-Binary
returns-in_ok-evaluate_binary-in-Binary t c =
    let y = table_of c.args.before.symbols.now in
    let w = c.args.before.cursor.now in
    let s = context_of w in
    let own = own_size w in
    let e = c.deref-in-Binary.result.now.left in
    let g = c.deref-in-Binary-2.result.now.right in
    let left : c.deref-in-Binary.result.now ≡ c.in-Binary.operands.value = search rules in
    let right : c.deref-in-Binary-2.result.now ≡ c.in-Binary.operands.value = search rules in
    let whole : c.args.value.now ≡ binary c.in-Binary.op e g =
    sym c.kind.ensures
    ∙ ap tree_of c.in-Binary.is
    ∙ sym (ap (λ v. binary c.in-Binary.op v.left c.in-Binary.operands.value.right) left)
    ∙ sym (ap (λ v. binary c.in-Binary.op e v.right) right) in
    let there : EvaluatesTree y s own (binary c.in-Binary.op e g) (Ok c.in_ok-evaluate_binary-in-Binary.field-0) = (
      none_lost y s own c.in-Binary.op e g c.in_ok-left-in-Binary.ensures.0 c.in_ok-right-in-Binary.ensures.0,
      c.in_ok-evaluate_binary-in-Binary.ensures y s own e g c.in_ok-left-in-Binary.ensures.1 c.in_ok-right-in-Binary.ensures.1,
    ) in
    subst (λ (v : Tree). EvaluatesTree y s own v (Ok c.in_ok-evaluate_binary-in-Binary.field-0)) (sym whole) there
