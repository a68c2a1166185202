use Rattle.sources65.proofs.LayoutExistence.{some_layout}
use Rattle.sources65.proofs.laws.layout_exists.Goals as goal

pub returns : goal.returns
returns c = some_layout
