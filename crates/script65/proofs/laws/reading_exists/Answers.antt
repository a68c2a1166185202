use Rattle.script65.proofs.ScriptExistence.{some_reading}
use Rattle.script65.proofs.laws.reading_exists.Goals as goal

pub returns : goal.returns
returns c = some_reading
