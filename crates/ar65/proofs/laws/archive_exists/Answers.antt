use Rattle.ar65.proofs.SomeArchive.{some_archive}
use Rattle.ar65.proofs.laws.archive_exists.Goals as goal

pub returns : goal.returns
returns c = some_archive
