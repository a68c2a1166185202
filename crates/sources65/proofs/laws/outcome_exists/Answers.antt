use Rattle.sources65.proofs.LayoutExistence.{some_answer}
use Rattle.sources65.proofs.laws.outcome_exists.Goals as goal

pub returns : goal.returns
returns c = some_answer
