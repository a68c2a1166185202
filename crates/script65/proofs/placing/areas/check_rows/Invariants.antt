use Rattle.std.proofs.Common.{◌≡◌, drop}
use Rattle.script65.specs.Placing.{rows_exist}
use Rattle.script65.proofs.placing.areas.check_rows.Given as goal

abbrev pub invariant-loop-need : goal.invariant-loop-need
invariant-loop-need l = rows_exist l.rows (drop l.need-index l.needs) ≡ rows_exist l.rows l.needs
