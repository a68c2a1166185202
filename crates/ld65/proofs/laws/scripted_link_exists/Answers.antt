use Rattle.ld65.proofs.LinkExistence.{some_scripted_link}
use Rattle.ld65.proofs.laws.scripted_link_exists.Goals as goal

pub returns : goal.returns
returns c = some_scripted_link
