use Rattle.std.proofs.Common.{◌≡◌, drop, map}
use Rattle.semantics65.specs.Symbols.{with_new_names}
use Rattle.symbols65.proofs.table.add_names.Given as goal

abbrev pub invariant-loop-name : goal.invariant-loop-name
invariant-loop-name l = with_new_names (map (λ k. k.items) l.known.keys) (drop l.name-index l.names) ≡ with_new_names (map (λ k. k.items) l.fn.known.keys) l.names
