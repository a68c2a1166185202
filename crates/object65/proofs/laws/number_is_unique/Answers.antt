use Rattle.object65.proofs.Numbers.{one_number}
use Rattle.object65.proofs.laws.number_is_unique.Goals as goal

pub returns : goal.returns
returns c = one_number
