use Rattle.library65.proofs.SelectionExistence.{some_selection}
use Rattle.library65.proofs.laws.selection_exists.Goals as goal

pub returns : goal.returns
returns c = some_selection
