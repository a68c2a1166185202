use Rattle.output65.proofs.ExactEffects.{says_exactly}
use Rattle.output65.proofs.laws.print_both_effects_are_exact.Goals as goal

pub returns : goal.returns
returns c = says_exactly
