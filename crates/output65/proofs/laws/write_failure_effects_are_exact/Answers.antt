use Rattle.output65.proofs.ExactEffects.{stops_writing_exactly}
use Rattle.output65.proofs.laws.write_failure_effects_are_exact.Goals as goal

pub returns : goal.returns
returns c = stops_writing_exactly
