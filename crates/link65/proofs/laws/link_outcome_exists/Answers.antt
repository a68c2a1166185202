use Rattle.link65.proofs.OutcomeExistence.{some_outcome}
use Rattle.link65.proofs.laws.link_outcome_exists.Goals as goal

pub returns : goal.returns
returns c = some_outcome
