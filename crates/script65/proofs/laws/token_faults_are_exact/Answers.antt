use Rattle.script65.proofs.TokenFaults.{numbered_faults}
use Rattle.script65.proofs.laws.token_faults_are_exact.Goals as goal

pub returns : goal.returns
returns c = numbered_faults
