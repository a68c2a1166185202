use Rattle.std.proofs.Common.{◌≡◌, ◌++◌, drop, map}
use Rattle.link65.specs.Names.{script_names, symbol_exports}
use Rattle.link65.proofs.naming.script_names.Given as goal

abbrev pub invariant-loop-symbol : goal.invariant-loop-symbol
invariant-loop-symbol l = l.names ++ map (λ d. d.name) (symbol_exports (drop l.symbol-index l.symbol-items)) ≡ script_names l.script
