use Rattle.std.proofs.Common.{refl}
use Rattle.emit65.proofs.RepresentedSlots.{takes_moved, takes_nothing}
use Rattle.emit65.proofs.entries.Entries.open_part.Goals as goal

pub returns-then-self-segment-clause-same : goal.returns-then-self-segment-clause-same
returns-then-self-segment-clause-same c = λ files. takes_nothing files c.args.self.now

pub returns-clause-same : goal.returns-clause-same
returns-clause-same c = λ files. takes_moved files c.args.self.now _ _ (c.in_ok-close.ensures.same files) c.in_ok-close.ensures.bytes c.in_ok-close.ensures.reserve refl refl refl
