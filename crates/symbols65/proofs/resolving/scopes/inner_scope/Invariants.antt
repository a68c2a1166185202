use Rattle.std.proofs.Common.{◌≡◌, drop, take, Some}
use Rattle.semantics65.specs.Symbols.{nested_scope}
use Rattle.symbols65.specs.Views.{table_of}
use Rattle.symbols65.proofs.resolving.scopes.inner_scope.Given as goal

abbrev pub invariant-loop-name : goal.invariant-loop-name
invariant-loop-name l = nested_scope (take l.opened (table_of l.symbols).scopes) (drop l.name-index l.names) (Some l.scope) ≡ nested_scope (take l.opened (table_of l.symbols).scopes) l.names (Some l.fn.scope)
