use Rattle.library65.proofs.ReadIndexes.{index_takes}
use Rattle.library65.proofs.laws.read_index_is_encoded.Goals as goal

pub returns : goal.returns
returns c = index_takes
