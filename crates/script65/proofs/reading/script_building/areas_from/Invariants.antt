use Rattle.std.proofs.Common.{◌≡◌, ◌-◌, length, drop}
use Rattle.base65.specs.Outcome.{try_map}
use Rattle.script65.specs.Scripts.{area_from}
use Rattle.script65.proofs.ListLemmas.{following}
use Rattle.script65.proofs.reading.script_building.areas_from.Given as goal

abbrev pub invariant-areas : goal.invariant-areas
invariant-areas l = following l.areas (try_map (area_from l.entries) (drop (length l.areas) l.entries.areas)) ≡ try_map (area_from l.entries) l.entries.areas

abbrev pub decreases-areas : goal.decreases-areas
decreases-areas l = length l.entries.areas - length l.areas
