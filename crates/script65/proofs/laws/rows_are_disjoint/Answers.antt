use Rattle.script65.proofs.DisjointRows.{none_overlap}
use Rattle.script65.proofs.laws.rows_are_disjoint.Goals as goal

pub returns : goal.returns
returns c = none_overlap
