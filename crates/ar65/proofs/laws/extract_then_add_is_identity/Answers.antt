use Rattle.ar65.proofs.ExtractThenAdd.{put_together}
use Rattle.ar65.proofs.laws.extract_then_add_is_identity.Goals as goal

pub returns : goal.returns
returns c = put_together
