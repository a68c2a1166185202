use Rattle.whole65.proofs.SegmentNeeds.{laid_is_a_source}
use Rattle.whole65.proofs.laws.layout_is_source_of_object.Goals as goal

pub returns : goal.returns
returns c = laid_is_a_source
