use Rattle.syntax65.proofs.UniqueLexing as readings
use Rattle.syntax65.proofs.laws.lexing_is_unique.Goals as goal

pub returns : goal.returns
returns c = readings.one_reading
