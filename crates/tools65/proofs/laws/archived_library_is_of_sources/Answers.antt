use Rattle.tools65.proofs.WrittenFiles.{archived_sources}
use Rattle.tools65.proofs.laws.archived_library_is_of_sources.Goals as goal

pub returns : goal.returns
returns c = archived_sources
