use Rattle.std.proofs.Common.{◌≡◌, drop, map}
use Rattle.link65.specs.Names.{distinct_names, weak_symbols}
use Rattle.link65.specs.Representation.{names_in}
use Rattle.link65.proofs.name_checks.DefinedNames.add_weak.Given as goal

abbrev pub invariant-loop-symbol : goal.invariant-loop-symbol
invariant-loop-symbol l =
    distinct_names (names_in l.self) (map (λ d. d.name) (weak_symbols (drop l.symbol-index l.symbols)))
    ≡ distinct_names (names_in l.fn.self) (map (λ d. d.name) (weak_symbols l.symbols))
