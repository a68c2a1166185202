use Rattle.library65.proofs.WrittenLibraries.{written_is}
use Rattle.library65.proofs.laws.written_bytes_are_library.Goals as goal

pub returns : goal.returns
returns c = written_is
