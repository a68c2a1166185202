use Rattle.whole65.proofs.Equality.{equality_law}
use Rattle.whole65.proofs.laws.link_equals_whole_program.Goals as goal

pub returns : goal.returns
returns c = equality_law
