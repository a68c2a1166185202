use Rattle.link65.proofs.OutcomeExistence.{some_value}
use Rattle.link65.proofs.laws.link_value_exists.Goals as goal

pub returns : goal.returns
returns c = some_value
