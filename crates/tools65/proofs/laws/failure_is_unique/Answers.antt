use Rattle.tools65.proofs.UniqueFailure.{one_failure}
use Rattle.tools65.proofs.laws.failure_is_unique.Goals as goal

pub returns : goal.returns
returns c = one_failure
