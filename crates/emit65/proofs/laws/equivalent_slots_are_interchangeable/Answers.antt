use Rattle.emit65.proofs.Pieces.{alike_stands}
use Rattle.emit65.proofs.laws.equivalent_slots_are_interchangeable.Goals as goal

pub returns : goal.returns
returns c = alike_stands
