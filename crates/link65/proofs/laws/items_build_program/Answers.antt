use Rattle.link65.proofs.GrowingLaw.{growth_law}
use Rattle.link65.proofs.laws.items_build_program.Goals as goal

pub returns : goal.returns
returns c = growth_law
