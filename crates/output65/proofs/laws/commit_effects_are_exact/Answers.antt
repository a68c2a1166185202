use Rattle.output65.proofs.ExactEffects.{performs_exactly}
use Rattle.output65.proofs.laws.commit_effects_are_exact.Goals as goal

pub returns : goal.returns
returns c = performs_exactly
