use Rattle.std.proofs.Common.{◌≤◌, drop}
use Rattle.script65.specs.Placing.{rows_from}
use Rattle.script65.proofs.AreaLemmas.{Walk}
use Rattle.script65.proofs.placing.areas.place_area.Given as goal

abbrev pub invariant-loop-member : goal.invariant-loop-member
invariant-loop-member l = record {
  capacity : l.cursor ≤ l.context.bounds.end;
  walk : Walk l.context.index l.context.area.now l.context.bounds l.rows (rows_from l.context.index l.context.area.now l.context.bounds l.rows l.initial.row_states l.context.bounds.start) l.row_states l.cursor (drop l.member-index l.members);
}
