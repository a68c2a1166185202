use Rattle.sources65.proofs.Resolving.{final_settles}
use Rattle.sources65.proofs.laws.final_form_is_resolved.Goals as goal

pub returns : goal.returns
returns c = final_settles
