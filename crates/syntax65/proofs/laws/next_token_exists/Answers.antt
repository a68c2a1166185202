use Rattle.syntax65.proofs.LexingTotality.{some_next}
use Rattle.syntax65.proofs.laws.next_token_exists.Goals as goal

pub returns : goal.returns
returns c = some_next
