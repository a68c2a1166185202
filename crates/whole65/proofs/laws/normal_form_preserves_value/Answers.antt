use Rattle.whole65.proofs.SameValues.{same_values_law}
use Rattle.whole65.proofs.laws.normal_form_preserves_value.Goals as goal

pub returns : goal.returns
returns g c = same_values_law _
