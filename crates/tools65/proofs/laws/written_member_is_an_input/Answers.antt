use Rattle.tools65.proofs.Inputs.{written_member}
use Rattle.tools65.proofs.laws.written_member_is_an_input.Goals as goal

pub returns : goal.returns
returns c = written_member
