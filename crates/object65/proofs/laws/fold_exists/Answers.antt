use Rattle.object65.proofs.ObjectExistence.{some_fold}
use Rattle.object65.proofs.laws.fold_exists.Goals as goal

pub returns : goal.returns
returns c = some_fold
