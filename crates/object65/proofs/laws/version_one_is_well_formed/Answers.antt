use Rattle.object65.proofs.Versions.{version_law}
use Rattle.object65.proofs.laws.version_one_is_well_formed.Goals as goal

pub returns : goal.returns
returns c = version_law
