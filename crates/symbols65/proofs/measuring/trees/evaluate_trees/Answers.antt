use Rattle.std.proofs.Common.{◌∙◌, ◌++◌, List, Option, option_map, ap, subst, sym}
use Rattle.base65.specs.Outcome.{Refines}
use Rattle.ast65.specs.Faults.{is_out_of_memory}
use Rattle.ast65.specs.Items.{items_of}
use Rattle.ast65.specs.declared.language.Item.{Item}
use Rattle.ast65.specs.declared.language.Statement.{Statement}
use Rattle.syntax65.specs.Trees.{Tree}
use Rattle.semantics65.specs.Layout.{context_of, item_trees, missing_scopes_fault, optional_tree, own_size, trees_of, unless_fault}
use Rattle.symbols65.specs.Evaluations.{first_tree}
use Rattle.symbols65.specs.Views.{table_of}
use Rattle.symbols65.proofs.Evaluations.{all_found, trees_are}
use Rattle.symbols65.proofs.StatementLayouts.{numbers_keep}
use Rattle.symbols65.proofs.measuring.trees.evaluate_trees.Goals as goal
use Rattle.symbols65.proofs.measuring.trees.evaluate_trees.Goals.{in-Numbers, in-Mixed+in_ok-forms-in-Mixed}

pub returns-in_default : goal.returns-in_default
returns-in_default c =
    let y = table_of c.args.before.symbols.now in
    let w = c.args.before.cursor.now in
    let s = context_of w in
    let x = c.args.statement.now in
    let first : Option Tree = option_map (λ e. e.now) c.first_value-first.result in
    let second : Option Tree = option_map (λ e. e.now) c.second_value-second.result in
    let same = ap (λ (o : Option Tree). optional_tree o ++ optional_tree second) c.first_value-first.ensures ∙ ap (λ (o : Option Tree). optional_tree (first_tree x) ++ optional_tree o) c.second_value-second.ensures ∙ sym (trees_are x c.in_default.not-Values) in
    record {
      scopes = subst (λ (es : List Tree). Refines is_out_of_memory (λ _. tt {0}) c.evaluate_two.result (unless_fault (missing_scopes_fault y.scopes s.scope es) tt)) same c.evaluate_two.ensures.scopes;
      found = all_found y s (own_size w) x first second c.evaluate_two.result c.first_value-first.ensures c.second_value-second.ensures c.evaluate_two.ensures.first c.evaluate_two.ensures.second c.evaluate_two.ensures.forms;
    }

pub returns-clause-scopes : goal.returns-clause-scopes
returns-clause-scopes c =
    let before = (table_of c.args.before.symbols.now).scopes in
    let scope = (context_of c.args.before.cursor.now).scope in
    ap (λ (x : Statement). unless_fault {A = Unit {0}} (missing_scopes_fault before scope (trees_of x)) tt) c.in-Values.is
    ∙ elim c.match-kind.branch [
      | in-Numbers w ↦ ap (λ (items : List Item). unless_fault {A = Unit {0}} (missing_scopes_fault before scope (item_trees items)) tt) (sym c.kind.ensures ∙ ap items_of w.in-Numbers.is) ∙ ap (λ f. unless_fault {A = Unit {0}} f tt) (numbers_keep before scope w.in-Numbers.field-0)
      | in-Mixed+in_ok-forms-in-Mixed w ↦ ap (λ (items : List Item). unless_fault {A = Unit {0}} (missing_scopes_fault before scope (item_trees items)) tt) (sym c.kind.ensures ∙ ap items_of w.in-Mixed.is ∙ sym w.as_slice.ensures) ∙ w.in_ok-forms-in-Mixed.ensures.scopes
    ]
