use Rattle.std.proofs.Common.{refl}
use Rattle.emit65.proofs.RepresentedSlots.{added_room}
use Rattle.emit65.proofs.entries.Entries.add_reserved.Goals as goal

pub returns : goal.returns
returns c =
    let begun = c.in_ok-open_part.ensures in
    λ files. added_room files c.args.self.now _ _ c.args.segment c.args.count (begun.same files) begun.segment refl refl refl c.in_ok-self.ensures
