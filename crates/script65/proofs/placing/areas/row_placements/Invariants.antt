use Rattle.std.proofs.Common.{◌≡◌, ◌++◌, drop, map}
use Rattle.script65.specs.Placing.{row_placement}
use Rattle.script65.proofs.placing.areas.row_placements.Given as goal

abbrev pub invariant-loop-row_state : goal.invariant-loop-row_state
invariant-loop-row_state l = l.placements ++ map row_placement (drop l.row_state-index l.row_states) ≡ map row_placement l.row_states
