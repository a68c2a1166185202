use Rattle.object65.proofs.ScanInvariants.{items_make}
use Rattle.object65.proofs.laws.items_build_object.Goals as goal

pub returns : goal.returns
returns c = items_make
