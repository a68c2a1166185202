use Rattle.object65.proofs.Encodings.{read_is_object}
use Rattle.object65.proofs.laws.read_bytes_are_encoding.Goals as goal

pub returns : goal.returns
returns c = read_is_object
