use Rattle.library65.proofs.Selections.{selection_grows}
use Rattle.library65.proofs.laws.selection_is_monotone.Goals as goal

pub returns : goal.returns
returns c = selection_grows
