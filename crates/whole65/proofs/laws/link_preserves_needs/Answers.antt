use Rattle.whole65.proofs.SegmentNeeds.{same_needs}
use Rattle.whole65.proofs.laws.link_preserves_needs.Goals as goal

pub returns : goal.returns
returns c = same_needs
