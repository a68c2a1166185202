use Rattle.output65.proofs.ExactEffects.{writers_perform_exactly}
use Rattle.output65.proofs.laws.commit_effects_on_writers_are_exact.Goals as goal

pub returns : goal.returns
returns c = writers_perform_exactly
