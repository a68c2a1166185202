use Rattle.syntax65.proofs.ParseTotality.{some_parse}
use Rattle.syntax65.proofs.laws.parse_exists.Goals as goal

pub returns : goal.returns
returns c = some_parse
