use Rattle.object65.proofs.ObjectExistence.{some_object}
use Rattle.object65.proofs.laws.object_exists.Goals as goal

pub returns : goal.returns
returns c = some_object
