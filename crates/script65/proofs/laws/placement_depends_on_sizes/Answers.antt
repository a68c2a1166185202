use Rattle.script65.proofs.DisjointRows.{same_needs}
use Rattle.script65.proofs.laws.placement_depends_on_sizes.Goals as goal

pub returns : goal.returns
returns c = same_needs
