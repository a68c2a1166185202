-- The context of an area's sums, as the code represents it.
use Rattle.std.specs.Prelude.{map}
use Rattle.script65.specs.declared.placing.sums.SumContext as code
use Rattle.script65.specs.Placing.{row_placement}
use Rattle.script65.specs.AreaSums.{SumContextView}

abbrev pub sum_context_in : code.SumContext → SumContextView
sum_context_in s = record {
  k = s.index;
  own = s.area.now;
  areas = s.areas.now;
  rows = s.rows.now;
  area_placements = s.area_placements.now;
  row_placements = map row_placement s.row_states.now;
  start = s.start;
}
