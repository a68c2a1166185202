use Rattle.std.proofs.Common.{◌≡◌, take}
use Rattle.semantics65.specs.Symbols.{first_found, outward_from, scope_in, scopes_from}
use Rattle.symbols65.specs.Views.{table_of}
use Rattle.symbols65.proofs.resolving.scopes.scope_outward.Given as goal

abbrev pub invariant-loop-inner : goal.invariant-loop-inner
invariant-loop-inner l =
    first_found (λ s. scope_in (take l.opened (table_of l.symbols).scopes) s l.name) (outward_from (take l.opened (table_of l.symbols).scopes) l.left l.scope)
    ≡ first_found (λ s. scope_in (take l.opened (table_of l.symbols).scopes) s l.name) (scopes_from (take l.opened (table_of l.symbols).scopes) l.fn.scope)

abbrev pub decreases-loop-inner : goal.decreases-loop-inner
decreases-loop-inner l = l.left
