use Rattle.std.proofs.Common.{◌≡◌, ◌++◌, drop, map}
use Rattle.script65.specs.Placing.{unplaced_row}
use Rattle.script65.proofs.placing.areas.unplaced_rows.Given as goal

abbrev pub invariant-loop-row : goal.invariant-loop-row
invariant-loop-row l = l.row_states.items ++ map (unplaced_row l.needs) (drop l.row-index l.rows) ≡ map (unplaced_row l.needs) l.rows
