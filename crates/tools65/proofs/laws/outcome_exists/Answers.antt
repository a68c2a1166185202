use Rattle.tools65.proofs.OutcomeTotality.{an_outcome_exists}
use Rattle.tools65.proofs.laws.outcome_exists.Goals as goal

pub returns : goal.returns
returns c = an_outcome_exists
