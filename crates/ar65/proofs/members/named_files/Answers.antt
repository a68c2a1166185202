use Rattle.std.proofs.Common.{◌∙◌, ◌+◌, ap, drop, map, sym}
use Rattle.std.proofs.lemmas.Result.{err_from_is_err_and}
use Rattle.ar65.specs.Librarian.{file_of, files_of, member_name}
use Rattle.ar65.proofs.LoopSteps.{ahead, each_one, member_next}
use Rattle.ar65.proofs.DeletionsAndExtractions.{file_missing}
use Rattle.ar65.proofs.members.named_files.Goals as goal

pub returns-in_err-file_of-clause-found : goal.returns-in_err-file_of-clause-found
returns-in_err-file_of-clause-found c =
    let p = err_from_is_err_and c.from_residual.result c.from_residual.ensures.1 in
    let next = member_next c.args.files.now c.loop-file.file-index _ c.loop-file-test.true in
    rw (p.1, p.2) (file_missing c.args.library.now c.loop-file.found _ _ _ c.member_name.result.now c.in_err-file_of.field-0.0 next c.member_name.ensures c.loop-file.invariant c.in_err-file_of.ensures.found)

pub loop-file-preserved : goal.loop-file-preserved
loop-file-preserved c =
    let library = c.args.library.now in
    let next = member_next c.args.files.now c.loop-file.file-index _ c.loop-file-test.true in
    let more = drop (c.loop-file.file-index + 1) (map member_name (map (λ s. s.now) c.args.files.now)) in
    ap (λ xs. ahead xs (files_of library more)) c.in_ok-push.ensures.ok
    ∙ each_one (file_of library) c.loop-file.found _ _ more c.in_ok-file_of.field-0 next (ap (file_of library) (sym c.member_name.ensures) ∙ c.in_ok-file_of.ensures.found)
    ∙ c.loop-file.invariant
