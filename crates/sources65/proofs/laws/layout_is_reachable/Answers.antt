use Rattle.sources65.proofs.TwoPasses.{laid_runs}
use Rattle.sources65.proofs.laws.layout_is_reachable.Goals as goal

pub returns : goal.returns
returns c = laid_runs
