use Rattle.std.proofs.Common.{◌≡◌, [], arith, refl}
use Rattle.emit65.specs.SectionContents.{AppendsSlotsWithFiles}
use Rattle.emit65.proofs.RepresentedSlots.{added_bytes, takes_both, takes_nothing}
use Rattle.emit65.proofs.entries.Entries.add_bytes.Goals.{else-self-gt0, then-self-gt0+in_ok-close}
use Rattle.emit65.proofs.entries.Entries.add_bytes.Goals as goal

pub returns : goal.returns
returns c =
    let old = c.args.self.now in
    let mid = c.if-self-gt0.self in
    let begun = c.in_ok-open_part.ensures in
    let no_room : mid.reserve ≡ 0 = elim c.if-self-gt0.branch [ then-self-gt0+in_ok-close w ↦ rw w.self-is w.in_ok-close.ensures.reserve | else-self-gt0 w ↦ rw w.self-is (omega arith) ] in
    λ files.
    let closed : AppendsSlotsWithFiles files old mid [] = elim c.if-self-gt0.branch [ then-self-gt0+in_ok-close w ↦ rw w.self-is (w.in_ok-close.ensures.same files) | else-self-gt0 w ↦ rw w.self-is (takes_nothing files old) ] in
    added_bytes files old c.open_part.new.self _ c.args.segment c.args.bytes.now (takes_both files old mid c.open_part.new.self [] [] closed (begun.same files)) begun.segment (begun.reserve no_room) refl refl c.in_ok-extend_from_slice.ensures.ok refl
