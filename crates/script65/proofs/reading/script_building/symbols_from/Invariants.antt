use Rattle.std.proofs.Common.{◌≡◌, ◌-◌, ◌++◌, length, map, drop}
use Rattle.script65.specs.Scripts.{symbol_from}
use Rattle.script65.proofs.reading.script_building.symbols_from.Given as goal

abbrev pub invariant-symbols : goal.invariant-symbols
invariant-symbols l = l.symbols ++ map symbol_from (drop (length l.symbols) l.table) ≡ map symbol_from l.table

abbrev pub decreases-symbols : goal.decreases-symbols
decreases-symbols l = length l.table - length l.symbols
