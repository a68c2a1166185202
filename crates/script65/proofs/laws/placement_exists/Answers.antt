use Rattle.script65.proofs.PlacementExistence.{some_placement}
use Rattle.script65.proofs.laws.placement_exists.Goals as goal

pub returns : goal.returns
returns c = some_placement
