use Rattle.object65.proofs.Foldings.{normal_law}
use Rattle.object65.proofs.laws.folded_is_normal.Goals as goal

pub returns : goal.returns
returns c = normal_law
