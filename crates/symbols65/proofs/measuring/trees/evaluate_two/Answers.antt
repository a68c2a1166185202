use Rattle.std.proofs.Common.{option_map}
use Rattle.std.proofs.lemmas.Result.{err_from_is_err_and}
use Rattle.semantics65.specs.Layout.{context_of, optional_tree}
use Rattle.symbols65.specs.Views.{table_of}
use Rattle.symbols65.proofs.Evaluations.{left_of_two, right_of_two}
use Rattle.symbols65.proofs.StatementLayouts.{refused_same}
use Rattle.symbols65.proofs.measuring.trees.evaluate_two.Goals as goal

pub returns-in_err-first-clause-scopes : goal.returns-in_err-first-clause-scopes
returns-in_err-first-clause-scopes c =
    let p = err_from_is_err_and c.from_residual.result c.from_residual.ensures.1 in
    let y = table_of c.args.before.symbols.now in
    let s = context_of c.args.before.cursor.now in
    rw (p.1, p.2) (left_of_two y.scopes s.scope (optional_tree (option_map (λ e. e.now) c.args.first)) (optional_tree (option_map (λ e. e.now) c.args.second)) c.in_err-first.field-0.0 c.in_err-first.ensures.scopes)

pub returns-in_err-second-clause-scopes : goal.returns-in_err-second-clause-scopes
returns-in_err-second-clause-scopes c =
    let p = err_from_is_err_and c.from_residual-in_err-second.result c.from_residual-in_err-second.ensures.1 in
    let y = table_of c.args.before.symbols.now in
    let s = context_of c.args.before.cursor.now in
    rw (p.1, p.2) (refused_same c.in_err-second.field-0.0 _ _ (right_of_two y.scopes s.scope (optional_tree (option_map (λ e. e.now) c.args.first)) (optional_tree (option_map (λ e. e.now) c.args.second)) c.in_ok-first.ensures.scopes) c.in_err-second.ensures.scopes)
