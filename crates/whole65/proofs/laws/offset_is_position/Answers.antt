use Rattle.whole65.proofs.Offsets.{offset_law}
use Rattle.whole65.proofs.laws.offset_is_position.Goals as goal

pub returns : goal.returns
returns c = offset_law
