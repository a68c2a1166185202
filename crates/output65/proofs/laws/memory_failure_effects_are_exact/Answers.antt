use Rattle.output65.proofs.ExactEffects.{stops_short_exactly}
use Rattle.output65.proofs.laws.memory_failure_effects_are_exact.Goals as goal

pub returns : goal.returns
returns c = stops_short_exactly
