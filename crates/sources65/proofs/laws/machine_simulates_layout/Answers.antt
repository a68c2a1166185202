use Rattle.sources65.proofs.TwoPasses.{runs_laid}
use Rattle.sources65.proofs.laws.machine_simulates_layout.Goals as goal

pub returns : goal.returns
returns c = runs_laid
