use Rattle.std.proofs.Common.{◌≡◌, ◌++◌, drop}
use Rattle.std.specs.List.{flat_map}
use Rattle.link65.specs.Names.{area_names}
use Rattle.link65.proofs.naming.add_names_of_areas.Given as goal

abbrev pub invariant-loop-area : goal.invariant-loop-area
invariant-loop-area l = l.names ++ flat_map area_names (drop l.area-index l.areas) ≡ l.fn.names ++ flat_map area_names l.areas
