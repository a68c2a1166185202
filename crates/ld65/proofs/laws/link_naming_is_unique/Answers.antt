use Rattle.ld65.proofs.NamingUniqueness.{one_naming}
use Rattle.ld65.proofs.laws.link_naming_is_unique.Goals as goal

pub returns : goal.returns
returns c = one_naming
