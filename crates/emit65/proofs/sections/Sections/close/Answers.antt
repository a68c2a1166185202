use Rattle.std.proofs.Common.{refl}
use Rattle.emit65.specs.SectionContents.{names_in}
use Rattle.emit65.proofs.RepresentedSlots.{stands_closed}
use Rattle.emit65.proofs.sections.Sections.close.Goals as goal

pub returns : goal.returns
returns c = λ xs h.
    let files = names_in c.args.self.files in
    let list = c.in_ok-entries.ensures in
    stands_closed c.args.self _ xs refl refl (list.equivalent files) (list.file_bounds files) h
