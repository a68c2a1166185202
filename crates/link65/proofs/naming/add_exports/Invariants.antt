use Rattle.std.proofs.Common.{◌≡◌, ◌++◌, drop}
use Rattle.link65.specs.Names.{symbol_exports}
use Rattle.link65.proofs.naming.add_exports.Given as goal

abbrev pub invariant-loop-symbol : goal.invariant-loop-symbol
invariant-loop-symbol l = l.definitions ++ symbol_exports (drop l.symbol-index l.symbols) ≡ l.fn.definitions ++ symbol_exports l.symbols
