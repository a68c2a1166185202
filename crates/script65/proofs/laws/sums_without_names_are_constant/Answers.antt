use Rattle.script65.proofs.ConstantSums.{no_names_fixed}
use Rattle.script65.proofs.laws.sums_without_names_are_constant.Goals as goal

pub returns : goal.returns
returns c = no_names_fixed
