use Rattle.script65.proofs.ReadingUniqueness.{one_reading}
use Rattle.script65.proofs.laws.reading_is_unique.Goals as goal

pub returns : goal.returns
returns c = one_reading
