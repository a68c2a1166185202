use Rattle.sources65.proofs.LayoutUniqueness.{one_answer}
use Rattle.sources65.proofs.laws.outcome_is_unique.Goals as goal

pub returns : goal.returns
returns c = one_answer
