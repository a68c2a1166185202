use Rattle.ld65.proofs.LinkExistence.{some_link}
use Rattle.ld65.proofs.laws.command_link_exists.Goals as goal

pub returns : goal.returns
returns c = some_link
