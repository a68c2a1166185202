use Rattle.link65.proofs.OutcomeLemmas.{link_once}
use Rattle.link65.proofs.laws.link_outcome_is_unique.Goals as goal

pub returns : goal.returns
returns c = λ output s modules r q h k. link_once output s modules r q h k
