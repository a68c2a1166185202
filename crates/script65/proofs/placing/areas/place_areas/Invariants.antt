use Rattle.std.proofs.Common.{◌≡◌, drop, []}
use Rattle.script65.specs.Placing.{areas_from}
use Rattle.script65.proofs.placing.areas.place_areas.Given as goal

abbrev pub invariant-loop-index : goal.invariant-loop-index
invariant-loop-index l = areas_from l.index l.areas l.rows (drop l.index l.areas) l.placements l.row_states ≡ areas_from 0 l.areas l.rows l.areas [] l.initial.row_states
