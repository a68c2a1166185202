use Rattle.script65.proofs.ValidReferences.{all_there}
use Rattle.script65.proofs.laws.references_are_valid.Goals as goal

pub returns : goal.returns
returns c = all_there
