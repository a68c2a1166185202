use Rattle.tools65.proofs.Inputs.{written_input}
use Rattle.tools65.proofs.laws.written_is_an_input.Goals as goal

pub returns : goal.returns
returns c = written_input
