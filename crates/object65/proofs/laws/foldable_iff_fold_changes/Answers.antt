use Rattle.object65.proofs.Foldings.{stays_law}
use Rattle.object65.proofs.laws.foldable_iff_fold_changes.Goals as goal

pub returns : goal.returns
returns c = stays_law
