use Rattle.whole65.proofs.SameValues.{one_value_law}
use Rattle.whole65.proofs.laws.value_is_unique.Goals as goal

pub returns : goal.returns
returns c = one_value_law
