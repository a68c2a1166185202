use Rattle.std.proofs.Common.{[], refl}
use Rattle.emit65.proofs.RepresentedSlots.{room_closed, takes_both}
use Rattle.emit65.proofs.entries.Entries.close.Goals as goal

pub returns-in_ok-add-clause-same : goal.returns-in_ok-add-clause-same
returns-in_ok-add-clause-same c =
    let closed = c.in_ok-close_bytes.ensures in
    λ files. takes_both files c.args.self.now c.close_bytes.new.self c.add.new.self [] [] (closed.same files) (room_closed files c.close_bytes.new.self _ _ _ closed.none refl refl refl refl refl c.in_ok-add.ensures)
