use Rattle.tools65.proofs.Inputs.{written_object}
use Rattle.tools65.proofs.laws.written_is_an_object.Goals as goal

pub returns : goal.returns
returns c = written_object
