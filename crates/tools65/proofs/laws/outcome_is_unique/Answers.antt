use Rattle.tools65.proofs.UniqueOutcome.{one_outcome}
use Rattle.tools65.proofs.laws.outcome_is_unique.Goals as goal

pub returns : goal.returns
returns c = one_outcome
