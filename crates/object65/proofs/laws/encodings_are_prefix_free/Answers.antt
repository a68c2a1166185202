use Rattle.object65.proofs.Encodings.{no_prefix}
use Rattle.object65.proofs.laws.encodings_are_prefix_free.Goals as goal

pub returns : goal.returns
returns c = no_prefix
