use Rattle.output65.proofs.ExactEffects.{says_after_exactly}
use Rattle.output65.proofs.laws.message_effects_are_exact.Goals as goal

pub returns : goal.returns
returns c = says_after_exactly
