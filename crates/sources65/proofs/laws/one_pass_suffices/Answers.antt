use Rattle.sources65.proofs.TwoPasses.{one_pass}
use Rattle.sources65.proofs.laws.one_pass_suffices.Goals as goal

pub returns : goal.returns
returns c = one_pass
