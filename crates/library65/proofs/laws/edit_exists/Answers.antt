use Rattle.library65.proofs.LibraryExistence.{some_edit}
use Rattle.library65.proofs.laws.edit_exists.Goals as goal

pub returns : goal.returns
returns c = some_edit
