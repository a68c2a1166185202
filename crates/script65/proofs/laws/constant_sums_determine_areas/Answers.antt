use Rattle.script65.proofs.ConstantSums.{only_numbers}
use Rattle.script65.proofs.laws.constant_sums_determine_areas.Goals as goal

pub returns : goal.returns
returns c = only_numbers
