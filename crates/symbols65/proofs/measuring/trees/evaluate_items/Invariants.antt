use Rattle.std.proofs.Common.{◌≡◌, drop, length}
use Rattle.semantics65.specs.Layout.{context_of, item_trees, missing_scopes_fault}
use Rattle.symbols65.specs.Evaluations.{HaveFinals}
use Rattle.symbols65.specs.Views.{table_of}
use Rattle.symbols65.proofs.measuring.trees.evaluate_items.Given as goal

abbrev pub invariant-loop-item : goal.invariant-loop-item
invariant-loop-item l = record {
  lost : missing_scopes_fault (table_of l.before.symbols.now).scopes (context_of l.before.cursor.now).scope (item_trees l.items)
      ≡ missing_scopes_fault (table_of l.before.symbols.now).scopes (context_of l.before.cursor.now).scope (item_trees (drop l.item-index l.items));
  long : length l.forms.items ≡ l.item-index;
  finals : HaveFinals (table_of l.before.symbols.now) (context_of l.before.cursor.now) l.items l.forms.items;
}
