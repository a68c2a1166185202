use Rattle.script65.proofs.DisjointRows.{all_within}
use Rattle.script65.proofs.laws.rows_are_within_areas.Goals as goal

pub returns : goal.returns
returns c = all_within
