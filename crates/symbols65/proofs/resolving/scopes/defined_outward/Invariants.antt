use Rattle.std.proofs.Common.{◌≡◌}
use Rattle.semantics65.specs.Symbols.{first_found, outward_from, scopes_from, definition_index, named}
use Rattle.symbols65.specs.Views.{table_of}
use Rattle.symbols65.proofs.resolving.scopes.defined_outward.Given as goal

abbrev pub invariant-loop-index : goal.invariant-loop-index
invariant-loop-index l =
    first_found (λ s. definition_index (table_of l.symbols) (named s l.name)) (outward_from (table_of l.symbols).scopes l.left l.scope)
    ≡ first_found (λ s. definition_index (table_of l.symbols) (named s l.name)) (scopes_from (table_of l.symbols).scopes l.fn.scope)

abbrev pub decreases-loop-index : goal.decreases-loop-index
decreases-loop-index l = l.left
