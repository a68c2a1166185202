use Rattle.whole65.proofs.Circular.{circular_law}
use Rattle.whole65.proofs.laws.circular_has_no_value.Goals as goal

pub returns : goal.returns
returns c = circular_law
