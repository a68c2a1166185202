use Rattle.ar65.proofs.ValidLibraries.{kept_library}
use Rattle.ar65.proofs.laws.edits_preserve_library.Goals as goal

pub returns : goal.returns
returns c = kept_library
