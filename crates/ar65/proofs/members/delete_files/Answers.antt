use Rattle.std.proofs.Common.{◌∙◌}
use Rattle.std.proofs.lemmas.Result.{err_from_is_err_and}
use Rattle.ar65.proofs.DeletionsAndExtractions.{deleted_more, not_deleted}
use Rattle.ar65.proofs.LoopSteps.{name_next}
use Rattle.ar65.proofs.members.delete_files.Goals as goal

pub returns-in_err-delete-clause-deleted : goal.returns-in_err-delete-clause-deleted
returns-in_err-delete-clause-deleted c =
    let p = err_from_is_err_and c.from_residual.result c.from_residual.ensures.1 in
    let next = name_next (λ s. s.now) c.args.files.now c.loop-file.file-index _ c.loop-file-test.true in
    rw (p.1, p.2) (not_deleted c.args.library.now c.loop-file.library _ c.loop-file.file-index _ _ c.in_err-delete.field-0.0 next (c.as_bytes.ensures.value ∙ c.member_name.ensures) c.loop-file.invariant c.in_err-delete.ensures.deleted)

pub loop-file-preserved : goal.loop-file-preserved
loop-file-preserved c =
    let next = name_next (λ s. s.now) c.args.files.now c.loop-file.file-index _ c.loop-file-test.true in
    deleted_more c.args.library.now c.loop-file.library c.delete.new.self _ c.loop-file.file-index _ _ next (c.as_bytes.ensures.value ∙ c.member_name.ensures) c.loop-file.invariant c.in_ok-delete.ensures.deleted
