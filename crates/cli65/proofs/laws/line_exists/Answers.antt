use Rattle.cli65.proofs.LineExistence.{some_line}
use Rattle.cli65.proofs.laws.line_exists.Goals as goal

pub returns : goal.returns
returns c = some_line
