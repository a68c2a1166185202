use Rattle.std.proofs.Common.{◌∙◌, refl}
use Rattle.emit65.proofs.RepresentedSlots.{bytes_closed}
use Rattle.emit65.proofs.entries.Entries.close_bytes.Goals as goal

pub returns-in_ok-add-clause-same : goal.returns-in_ok-add-clause-same
returns-in_ok-add-clause-same c = λ files. bytes_closed files c.args.self.now _ c.add.new.self _ c.replace-bytes.result refl c.replace-bytes.ensures.value (c.replace-bytes.ensures.after ∙ c.from_vec-following.ensures ∙ c.in_ok-with_capacity.ensures.items) refl refl refl c.in_ok-add.ensures
