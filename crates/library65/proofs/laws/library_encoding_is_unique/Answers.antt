use Rattle.library65.proofs.WrittenLibraries.{one_library}
use Rattle.library65.proofs.laws.library_encoding_is_unique.Goals as goal

pub returns : goal.returns
returns c = one_library
