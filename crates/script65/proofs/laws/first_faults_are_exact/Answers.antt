use Rattle.script65.proofs.SyntaxErrors.{first_faults}
use Rattle.script65.proofs.laws.first_faults_are_exact.Goals as goal

pub returns : goal.returns
returns c = first_faults
