use Rattle.library65.proofs.IndexEncodings.{index_again}
use Rattle.library65.proofs.laws.index_encoding_is_read.Goals as goal

pub returns : goal.returns
returns c = index_again
