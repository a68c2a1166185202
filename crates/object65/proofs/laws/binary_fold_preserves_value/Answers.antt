use Rattle.object65.proofs.Foldings.{binary_fold_law}
use Rattle.object65.proofs.laws.binary_fold_preserves_value.Goals as goal

pub returns : goal.returns
returns g c = binary_fold_law _
