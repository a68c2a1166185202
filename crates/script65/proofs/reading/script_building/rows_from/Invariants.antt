use Rattle.std.proofs.Common.{◌≡◌, ◌-◌, length, drop}
use Rattle.base65.specs.Outcome.{try_map}
use Rattle.script65.specs.Scripts.{row_from}
use Rattle.script65.proofs.ListLemmas.{following}
use Rattle.script65.proofs.reading.script_building.rows_from.Given as goal

abbrev pub invariant-rows : goal.invariant-rows
invariant-rows l = following l.rows (try_map (row_from l.entries) (drop (length l.rows) l.entries.rows)) ≡ try_map (row_from l.entries) l.entries.rows

abbrev pub decreases-rows : goal.decreases-rows
decreases-rows l = length l.entries.rows - length l.rows
