use Rattle.library65.proofs.LoadedLibraries.{library_taken}
use Rattle.library65.proofs.laws.loaded_library_is_encoded.Goals as goal

pub returns : goal.returns
returns c = library_taken
