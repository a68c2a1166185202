use Rattle.output65.proofs.ExactEffects.{prints_exactly}
use Rattle.output65.proofs.laws.print_effects_are_exact.Goals as goal

pub returns : goal.returns
returns c = prints_exactly
