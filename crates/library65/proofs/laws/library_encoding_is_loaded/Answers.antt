use Rattle.library65.proofs.LoadedLibraries.{library_loaded}
use Rattle.library65.proofs.laws.library_encoding_is_loaded.Goals as goal

pub returns : goal.returns
returns c = library_loaded
