use Rattle.script65.proofs.DisjointRows.{all_placed}
use Rattle.script65.proofs.laws.placement_is_complete.Goals as goal

pub returns : goal.returns
returns c = all_placed
