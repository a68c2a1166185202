use Rattle.whole65.proofs.Rows.{placement_law}
use Rattle.whole65.proofs.laws.link_preserves_placement.Goals as goal

pub returns : goal.returns
returns c = placement_law
