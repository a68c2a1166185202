use Rattle.script65.proofs.NoContinuation.{no_continuation}
use Rattle.script65.proofs.laws.no_continuation.Goals as goal

pub returns : goal.returns
returns c = no_continuation
