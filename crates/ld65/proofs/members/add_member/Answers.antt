use Rattle.std.proofs.Common.{◌∙◌}
use Rattle.std.proofs.lemmas.Result.{err_from_is_err_and}
use Rattle.ld65.proofs.NeededMembers.{member_fed, member_refused, member_unnamed}
use Rattle.ld65.proofs.Frames.{member_left, object_left}
use Rattle.ld65.proofs.members.add_member.Goals as goal

pub returns-in_err-name-clause-added : goal.returns-in_err-name-clause-added
returns-in_err-name-clause-added g c =
    let p = err_from_is_err_and c.from_residual.result c.from_residual.ensures.1 in
    rw (p.1, p.2) (member_unnamed _ c.args.member.now.library.now c.args.member.now.entry.now c.args.linker.now c.args.linker.now)

pub returns-in-Ok-clause-added : goal.returns-in-Ok-clause-added
returns-in-Ok-clause-added g c =
    member_fed _ c.args.member.now.library.now c.args.member.now.entry.now c.args.linker.now c.add_object.new.linker _ (c.as_slice.ensures ∙ c.in_ok-name.ensures) c.in-Ok.ensures.added

pub returns-in-Ok-clause-frame : goal.returns-in-Ok-clause-frame
returns-in-Ok-clause-frame g c =
    let fed = c.in-Ok.ensures in
    object_left _ _ _ _ fed.keeps fed.files _ c.args.member.now.library.now fed.opened fed.frame

pub returns-in-Err-clause-added : goal.returns-in-Err-clause-added
returns-in-Err-clause-added g c =
    let called = c.as_slice.ensures in
    rw c.of_member.ensures (member_refused _ c.args.member.now.library.now c.args.member.now.entry.now c.args.linker.now c.add_object.new.linker _ c.in-Err.fault (c.in_ok-name.ensures) (rw called at c.in-Err.ensures.added))

pub returns-in-Err-clause-frame : goal.returns-in-Err-clause-frame
returns-in-Err-clause-frame g c =
    let refused = c.in-Err.ensures in
    rw c.of_member.ensures (member_left _ _ _ _ refused.keeps refused.files c.args.member.now.library.now c.in_ok-name.name c.args.member.now.entry.now c.in-Err.fault c.in_ok-name.ensures refused.frame refused.within)
