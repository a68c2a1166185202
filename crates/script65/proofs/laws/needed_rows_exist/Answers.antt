use Rattle.script65.proofs.DisjointRows.{rows_there}
use Rattle.script65.proofs.laws.needed_rows_exist.Goals as goal

pub returns : goal.returns
returns c = rows_there
