use Rattle.ar65.proofs.NamingUniqueness.{one_naming}
use Rattle.ar65.proofs.laws.archive_naming_is_unique.Goals as goal

pub returns : goal.returns
returns c = one_naming
