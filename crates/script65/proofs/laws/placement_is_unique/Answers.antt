use Rattle.script65.proofs.PlacementCorrectness.{one_placement}
use Rattle.script65.proofs.laws.placement_is_unique.Goals as goal

pub returns : goal.returns
returns c = one_placement
