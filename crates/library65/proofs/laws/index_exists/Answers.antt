use Rattle.library65.proofs.LibraryExistence.{some_index}
use Rattle.library65.proofs.laws.index_exists.Goals as goal

pub returns : goal.returns
returns c = some_index
