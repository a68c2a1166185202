use Rattle.library65.proofs.Selections.{one_selection}
use Rattle.library65.proofs.laws.selection_is_unique.Goals as goal

pub returns : goal.returns
returns c = one_selection
