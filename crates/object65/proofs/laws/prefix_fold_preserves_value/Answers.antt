use Rattle.object65.proofs.Foldings.{prefix_fold_law}
use Rattle.object65.proofs.laws.prefix_fold_preserves_value.Goals as goal

pub returns : goal.returns
returns g c = prefix_fold_law _
