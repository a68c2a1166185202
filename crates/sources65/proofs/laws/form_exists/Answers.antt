use Rattle.sources65.proofs.FormExistence.{some_form}
use Rattle.sources65.proofs.laws.form_exists.Goals as goal

pub returns : goal.returns
returns c = some_form
