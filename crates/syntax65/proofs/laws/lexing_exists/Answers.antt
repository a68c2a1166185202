use Rattle.syntax65.proofs.LexingTotality.{some_reading}
use Rattle.syntax65.proofs.laws.lexing_exists.Goals as goal

pub returns : goal.returns
returns c = some_reading
