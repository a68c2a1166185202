use Rattle.tools65.proofs.OutcomeTotality.{image_is_decidable}
use Rattle.tools65.proofs.laws.image_is_decidable.Goals as goal

pub returns : goal.returns
returns c = image_is_decidable
