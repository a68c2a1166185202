use Rattle.std.proofs.Common.{◌≡◌}
use Rattle.symbols65.specs.Views.{table_of}
use Rattle.symbols65.proofs.measuring.trees.search_statement.Given as goal

abbrev pub invariant-loop-item : goal.invariant-loop-item
invariant-loop-item l = table_of l.symbols ≡ table_of l.fn.symbols
