use Rattle.library65.proofs.LibraryExistence.{some_library}
use Rattle.library65.proofs.laws.library_exists.Goals as goal

pub returns : goal.returns
returns c = some_library
