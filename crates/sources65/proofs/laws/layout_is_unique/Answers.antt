use Rattle.sources65.proofs.LayoutUniqueness.{one_layout}
use Rattle.sources65.proofs.laws.layout_is_unique.Goals as goal

pub returns : goal.returns
returns c = one_layout
