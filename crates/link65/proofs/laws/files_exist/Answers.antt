use Rattle.link65.proofs.OutcomeExistence.{some_files}
use Rattle.link65.proofs.laws.files_exist.Goals as goal

pub returns : goal.returns
returns c = some_files
