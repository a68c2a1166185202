use Rattle.tools65.proofs.WholePrograms.{one_program}
use Rattle.tools65.proofs.laws.one_program.Goals as goal

pub returns : goal.returns
returns c = one_program
