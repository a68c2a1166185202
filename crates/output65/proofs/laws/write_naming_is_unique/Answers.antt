use Rattle.output65.proofs.ExactEffects.{one_naming}
use Rattle.output65.proofs.laws.write_naming_is_unique.Goals as goal

pub returns : goal.returns
returns c = one_naming
