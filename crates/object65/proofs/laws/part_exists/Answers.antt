use Rattle.object65.proofs.ObjectExistence.{some_part}
use Rattle.object65.proofs.laws.part_exists.Goals as goal

pub returns : goal.returns
returns c = some_part
