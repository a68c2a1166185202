use Rattle.std.proofs.lemmas.Grind.{common_steps}
use Rattle.std.proofs.Common.{rules, ◌≡◌, ◌∙◌, List, Option, Ok, Err, ap, drop, option_map, subst, ◌∷◌, [], ◌+◌, length, length-append, arith}
use Rattle.std.proofs.lemmas.Result.{err_from_is_err_and}
use Rattle.base65.specs.Outcome.{Unless}
use Rattle.syntax65.specs.Trees.{Tree}
use Rattle.ast65.specs.Faults.{is_out_of_memory}
use Rattle.semantics65.specs.Layout.{context_of, item_trees, missing_scopes_fault, optional_tree, own_size, unless_fault}
use Rattle.symbols65.specs.Evaluations.{HasFinal, item_tree}
use Rattle.symbols65.specs.Views.{table_of}
use Rattle.symbols65.proofs.Evaluations.{finals_more, item_alone, item_at}
use Rattle.symbols65.proofs.StatementLayouts.{items_lost, left_after, refused_first, refused_same}
use Rattle.symbols65.proofs.measuring.trees.evaluate_items.Goals as goal
use Rattle.symbols65.proofs.measuring.trees.evaluate_items.Goals.{in-Value, in-StringLiteral}

pub returns-in_err-found-clause-scopes : goal.returns-in_err-found-clause-scopes
returns-in_err-found-clause-scopes c =
    let p = err_from_is_err_and c.from_residual-in_err-found.result c.from_residual-in_err-found.ensures.1 in
    let e = c.in_err-found.field-0.0 in
    let before = (table_of c.args.before.symbols.now).scopes in
    let scope = (context_of c.args.before.cursor.now).scope in
    let item = c.item-item.result in
    let value : option_map (λ e. e.now) c.match-item.value ≡ item_tree item = elim c.match-item.branch [ in-Value w ↦ search rules | in-StringLiteral w ↦ search rules ] in
    let own = ap optional_tree value ∙ item_alone item in
    let split = items_lost before scope c.args.items.now c.loop-item.item-index item (omega arith) c.item-item.is in
    rw (p.1, p.2) (refused_same e _ _ (ap (λ f. unless_fault {A = Unit {0}} f tt) (c.loop-item.invariant.lost ∙ split))
    (refused_first e (missing_scopes_fault before scope (item_trees (item ∷ []))) (missing_scopes_fault before scope (item_trees (drop (c.loop-item.item-index + 1) c.args.items.now))) tt
    (subst (λ (ts : List Tree). Unless (is_out_of_memory e) (unless_fault {A = Unit {0}} (missing_scopes_fault before scope ts) tt ≡ Err e)) own c.in_err-found.ensures.scopes)))

pub loop-item-preserved : goal.loop-item-preserved
loop-item-preserved c =
    let y = table_of c.args.before.symbols.now in
    let w = c.args.before.cursor.now in
    let s = context_of w in
    let i = c.loop-item.item-index in
    let item = c.item-item.result in
    let form = c.final_form.result in
    let value : option_map (λ e. e.now) c.match-item.value ≡ item_tree item = elim c.match-item.branch [ in-Value w ↦ search rules | in-StringLiteral w ↦ search rules ] in
    let own = ap optional_tree value ∙ item_alone item in
    let split = items_lost y.scopes s.scope c.args.items.now i item (omega arith) c.item-item.is in
    let long = c.loop-item.invariant.long in
    let scopes = subst (λ (ts : List Tree). unless_fault {A = Unit {0}} (missing_scopes_fault y.scopes s.scope ts) tt ≡ Ok tt) own c.in_ok-found.ensures.scopes in
    let final = subst (λ (o : Option Tree). HasFinal y s o form) value (c.final_form.ensures y s (own_size w) (option_map (λ e. e.now) c.match-item.value) c.in_ok-found.ensures.found) in
    record {
      lost = c.loop-item.invariant.lost ∙ split ∙ left_after (missing_scopes_fault y.scopes s.scope (item_trees (item ∷ []))) (missing_scopes_fault y.scopes s.scope (item_trees (drop (i + 1) c.args.items.now))) tt _ scopes;
      long = ap length c.in_ok-push.ensures.items ∙ length-append c.loop-item.forms.items (form ∷ []) ∙ ap (λ n. n + 1) long;
      finals = rw c.in_ok-push.ensures.items (finals_more y s c.args.items.now c.loop-item.forms.items i item form long (item_at c.args.items.now i item (omega arith) c.item-item.is) c.loop-item.invariant.finals final);
    }

pub returns-clause-scopes : goal.returns-clause-scopes
returns-clause-scopes c = grind (arith, common_steps)
