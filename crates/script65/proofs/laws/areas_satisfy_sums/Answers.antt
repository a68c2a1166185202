use Rattle.script65.proofs.SumLemmas.{sums_hold}
use Rattle.script65.proofs.laws.areas_satisfy_sums.Goals as goal

pub returns : goal.returns
returns c = sums_hold
