use Rattle.std.proofs.Common.{◌≡◌, ◌++◌, drop}
use Rattle.link65.specs.Names.{weak_symbols}
use Rattle.link65.proofs.naming.weak_symbols.Given as goal

abbrev pub invariant-loop-symbol : goal.invariant-loop-symbol
invariant-loop-symbol l = l.definitions ++ weak_symbols (drop l.symbol-index l.symbols) ≡ weak_symbols l.symbols
