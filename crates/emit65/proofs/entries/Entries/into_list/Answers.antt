use Rattle.emit65.proofs.RepresentedSlots.{closed_entries}
use Rattle.emit65.proofs.entries.Entries.into_list.Goals as goal

pub returns-clause-equivalent : goal.returns-clause-equivalent
returns-clause-equivalent c = λ files. closed_entries files c.args.self _ (c.in_ok-close.ensures.same files) c.in_ok-close.ensures.bytes c.in_ok-close.ensures.reserve

pub returns-clause-file_bounds : goal.returns-clause-file_bounds
returns-clause-file_bounds c = λ files. (c.in_ok-close.ensures.same files).standing
