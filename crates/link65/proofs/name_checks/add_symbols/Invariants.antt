use Rattle.std.proofs.Common.{◌≡◌, drop, map}
use Rattle.link65.specs.Internal.Fields.{missing_after}
use Rattle.link65.specs.Names.{symbol_imports}
use Rattle.link65.specs.Representation.{names_in}
use Rattle.link65.proofs.name_checks.add_symbols.Given as goal

abbrev pub invariant-loop-symbol : goal.invariant-loop-symbol
invariant-loop-symbol l =
    missing_after (names_in l.provided) (map (λ n. n.items) l.missing.keys) (symbol_imports (drop l.symbol-index l.symbols))
    ≡ missing_after (names_in l.provided) (map (λ n. n.items) l.fn.missing.keys) (symbol_imports l.symbols)
