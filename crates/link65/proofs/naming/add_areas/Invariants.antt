use Rattle.std.proofs.Common.{◌≡◌, ◌++◌}
use Rattle.link65.specs.Programs.{flat_zip}
use Rattle.link65.specs.Names.{area_definitions}
use Rattle.link65.proofs.naming.add_areas.Given as goal

abbrev pub invariant-loop-area : goal.invariant-loop-area
invariant-loop-area l = l.definitions ++ flat_zip area_definitions l.area-iterator.a.rest.now l.area-iterator.b.rest.now ≡ l.fn.definitions ++ flat_zip area_definitions l.areas l.placements
