use Rattle.object65.proofs.Encodings.{object_is_read}
use Rattle.object65.proofs.laws.encoding_is_read.Goals as goal

pub returns : goal.returns
returns c = object_is_read
