use Rattle.std.proofs.Common.{◌∷◌, []}
use Rattle.emit65.specs.SectionContents.{slot_of}
use Rattle.emit65.proofs.RepresentedSlots.{takes_both, takes_pushed}
use Rattle.emit65.proofs.entries.Entries.push.Goals as goal

pub returns : goal.returns
returns c =
    let closed = c.in_ok-close.ensures in
    λ files standing. takes_both files c.args.self.now _ _ [] (slot_of files c.args.entry ∷ []) (closed.same files) (takes_pushed files _ _ c.args.entry standing closed.bytes closed.reserve c.in_ok-add.ensures)
