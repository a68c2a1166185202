use Rattle.std.proofs.Common.{◌∙◌, Err, Ok, ap, map, subst, sym}
use Rattle.std.specs.Prelude.{IfSome}
use Rattle.std.proofs.lemmas.Result.{err_from_is_err_and}
use Rattle.base65.specs.Outcome.{Refines}
use Rattle.cli65.specs.declared.line.Operation.{Operation}
use Rattle.cli65.specs.Line.{archive_view}
use Rattle.ar65.specs.declared.archiving.ArchiveResult.{ArchiveResult}
use Rattle.ar65.specs.declared.archiving.ArchiveResult.TheVariants as archived
use Rattle.ar65.specs.declared.fault.ArchiveFault.TheVariants as error
use Rattle.ar65.specs.Librarian.{operation_result}
use Rattle.ar65.specs.Faults.{is_system_error}
use Rattle.ar65.proofs.DeletionsAndExtractions.{added_too_long, addition_fails, deleted_too_long, deletion_fails, extracts, not_extracted}
use Rattle.library65.proofs.Steps.{kept_count}
use Rattle.ar65.proofs.QuietErrors.{kept_errors, memory_quiet, quiet, quiet_count, quiet_named, too_long}
use Rattle.ar65.proofs.archiving.archive.Goals as goal

pub returns-in_err-files-in-Extract-clause-archived : goal.returns-in_err-files-in-Extract-clause-archived
returns-in_err-files-in-Extract-clause-archived g c =
    let p = err_from_is_err_and c.from_residual-in_err-files-in-Extract.result c.from_residual-in_err-files-in-Extract.ensures.1 in
    let e = c.in_err-files-in-Extract.field-0.0 in
    let names = ap (map (λ s. s.now)) c.as_slice-in-Extract.ensures in
    rw (p.1, p.2)
    (subst (λ (o : Operation). IfSome (g.S.Store.files c.args.store.now) (λ m. Refines is_system_error (λ (a : ArchiveResult). a) (Err (error.Library e)) (operation_result o m (archive_view c.args.line.now)))) (sym c.in-Extract.is)
    (not_extracted _ (archive_view c.args.line.now) c.in_ok-library-in-Extract.library _ e names c.in_ok-library-in-Extract.ensures.read c.in_err-files-in-Extract.ensures.found))

pub returns-in_ok-files-in-Extract-clause-archived : goal.returns-in_ok-files-in-Extract-clause-archived
returns-in_ok-files-in-Extract-clause-archived g c =
    let names = ap (map (λ s. s.now)) c.as_slice-in-Extract.ensures in
    subst (λ (o : Operation). IfSome (g.S.Store.files c.args.store.now) (λ m. Refines is_system_error (λ (a : ArchiveResult). a) (Ok (archived.Members c.in_ok-files-in-Extract.files)) (operation_result o m (archive_view c.args.line.now)))) (sym c.in-Extract.is)
    (extracts _ (archive_view c.args.line.now) c.in_ok-library-in-Extract.library _ _ names c.in_ok-library-in-Extract.ensures.read c.in_ok-files-in-Extract.ensures.found)

pub returns-in_ok-library_bytes-in-Replace-clause-files : goal.returns-in_ok-library_bytes-in-Replace-clause-files
returns-in_ok-library_bytes-in-Replace-clause-files g c =
    c.in_ok-add_files-in-Replace.ensures.files ∙ c.in_ok-library-in-Replace.ensures.frame.files

pub returns-in_err-library_bytes-in-Delete-clause-count : goal.returns-in_err-library_bytes-in-Delete-clause-count
returns-in_err-library_bytes-in-Delete-clause-count g c =
    quiet_count c.from_residual-in_err-library_bytes-in-Delete.result (quiet c.in_err-library_bytes-in-Delete.field-0.0 c.from_residual-in_err-library_bytes-in-Delete.result (too_long _ _ c.in_err-library_bytes-in-Delete.ensures) c.from_residual-in_err-library_bytes-in-Delete.ensures.1) (kept_count _ _ _ c.in_ok-library-in-Delete.ensures.frame.count)

pub returns-in_err-library_bytes-in-Delete-clause-named : goal.returns-in_err-library_bytes-in-Delete-clause-named
returns-in_err-library_bytes-in-Delete-clause-named g c =
    quiet_named _ (archive_view c.args.line.now) c.from_residual-in_err-library_bytes-in-Delete.result (quiet c.in_err-library_bytes-in-Delete.field-0.0 c.from_residual-in_err-library_bytes-in-Delete.result (too_long _ _ c.in_err-library_bytes-in-Delete.ensures) c.from_residual-in_err-library_bytes-in-Delete.ensures.1)

pub returns-in_err-files-in-Extract-clause-count : goal.returns-in_err-files-in-Extract-clause-count
returns-in_err-files-in-Extract-clause-count g c =
    quiet_count c.from_residual-in_err-files-in-Extract.result (quiet c.in_err-files-in-Extract.field-0.0 c.from_residual-in_err-files-in-Extract.result (λ h. c.in_err-files-in-Extract.ensures.cause (ap Err h)) c.from_residual-in_err-files-in-Extract.ensures.1) (kept_count _ _ _ c.in_ok-library-in-Extract.ensures.frame.count)

pub returns-in_err-files-in-Extract-clause-named : goal.returns-in_err-files-in-Extract-clause-named
returns-in_err-files-in-Extract-clause-named g c =
    quiet_named _ (archive_view c.args.line.now) c.from_residual-in_err-files-in-Extract.result (quiet c.in_err-files-in-Extract.field-0.0 c.from_residual-in_err-files-in-Extract.result (λ h. c.in_err-files-in-Extract.ensures.cause (ap Err h)) c.from_residual-in_err-files-in-Extract.ensures.1)

pub returns-in_err-delete_files-in-Delete-clause-count : goal.returns-in_err-delete_files-in-Delete-clause-count
returns-in_err-delete_files-in-Delete-clause-count g c =
    quiet_count c.from_residual-in_err-delete_files-in-Delete.result (quiet c.in_err-delete_files-in-Delete.field-0.0 c.from_residual-in_err-delete_files-in-Delete.result (λ h. c.in_err-delete_files-in-Delete.ensures.cause (ap Err h)) c.from_residual-in_err-delete_files-in-Delete.ensures.1) (kept_count _ _ _ c.in_ok-library-in-Delete.ensures.frame.count)

pub returns-in_err-delete_files-in-Delete-clause-named : goal.returns-in_err-delete_files-in-Delete-clause-named
returns-in_err-delete_files-in-Delete-clause-named g c =
    quiet_named _ (archive_view c.args.line.now) c.from_residual-in_err-delete_files-in-Delete.result (quiet c.in_err-delete_files-in-Delete.field-0.0 c.from_residual-in_err-delete_files-in-Delete.result (λ h. c.in_err-delete_files-in-Delete.ensures.cause (ap Err h)) c.from_residual-in_err-delete_files-in-Delete.ensures.1)

pub returns-in_err-list_names-in-List-clause-count : goal.returns-in_err-list_names-in-List-clause-count
returns-in_err-list_names-in-List-clause-count g c =
    quiet_count c.from_residual-in_err-list_names-in-List.result (memory_quiet c.from_residual-in_err-list_names-in-List.result c.from_residual-in_err-list_names-in-List.ensures.1) (kept_count _ _ _ c.in_ok-library-in-List.ensures.frame.count)

pub returns-in_err-list_names-in-List-clause-named : goal.returns-in_err-list_names-in-List-clause-named
returns-in_err-list_names-in-List-clause-named g c =
    quiet_named _ (archive_view c.args.line.now) c.from_residual-in_err-list_names-in-List.result (memory_quiet c.from_residual-in_err-list_names-in-List.result c.from_residual-in_err-list_names-in-List.ensures.1)

pub returns-in_err-library_bytes-in-Replace-clause-count : goal.returns-in_err-library_bytes-in-Replace-clause-count
returns-in_err-library_bytes-in-Replace-clause-count g c =
    quiet_count c.from_residual-in_err-library_bytes-in-Replace.result (quiet c.in_err-library_bytes-in-Replace.field-0.0 c.from_residual-in_err-library_bytes-in-Replace.result (too_long _ _ c.in_err-library_bytes-in-Replace.ensures) c.from_residual-in_err-library_bytes-in-Replace.ensures.1)
    (kept_errors _ c.in_ok-add_files-in-Replace.ensures.count ∙ kept_count _ _ _ c.in_ok-library-in-Replace.ensures.frame.count)

pub returns-in_err-library_bytes-in-Replace-clause-named : goal.returns-in_err-library_bytes-in-Replace-clause-named
returns-in_err-library_bytes-in-Replace-clause-named g c =
    quiet_named _ (archive_view c.args.line.now) c.from_residual-in_err-library_bytes-in-Replace.result
    (quiet c.in_err-library_bytes-in-Replace.field-0.0 c.from_residual-in_err-library_bytes-in-Replace.result (too_long _ _ c.in_err-library_bytes-in-Replace.ensures) c.from_residual-in_err-library_bytes-in-Replace.ensures.1)

pub returns-in_err-delete_files-in-Delete-clause-archived : goal.returns-in_err-delete_files-in-Delete-clause-archived
returns-in_err-delete_files-in-Delete-clause-archived g c =
    let p = err_from_is_err_and c.from_residual-in_err-delete_files-in-Delete.result c.from_residual-in_err-delete_files-in-Delete.ensures.1 in
    let e = c.in_err-delete_files-in-Delete.field-0.0 in
    let names = ap (map (λ s. s.now)) c.as_slice-in-Delete.ensures in
    let is = c.in-Delete.is in
    rw (p.1, p.2)
    (subst (λ (o : Operation). IfSome (g.S.Store.files c.args.store.now) (λ m. Refines is_system_error (λ (a : ArchiveResult). a) (Err (error.Library e)) (operation_result o m (archive_view c.args.line.now)))) (sym is)
    (deletion_fails _ (archive_view c.args.line.now) c.in_ok-library-in-Delete.library _ e names c.in_ok-library-in-Delete.ensures.read c.in_err-delete_files-in-Delete.ensures.deleted))

pub returns-in_err-library_bytes-in-Delete-clause-archived : goal.returns-in_err-library_bytes-in-Delete-clause-archived
returns-in_err-library_bytes-in-Delete-clause-archived g c =
    let p = err_from_is_err_and c.from_residual-in_err-library_bytes-in-Delete.result c.from_residual-in_err-library_bytes-in-Delete.ensures.1 in
    let e = c.in_err-library_bytes-in-Delete.field-0.0 in
    let names = ap (map (λ s. s.now)) c.as_slice-in-Delete.ensures in
    let is = c.in-Delete.is in
    rw (p.1, p.2)
    (subst (λ (o : Operation). IfSome (g.S.Store.files c.args.store.now) (λ m. Refines is_system_error (λ (a : ArchiveResult). a) (Err (error.Library e)) (operation_result o m (archive_view c.args.line.now)))) (sym is)
    (deleted_too_long _ (archive_view c.args.line.now) c.in_ok-library-in-Delete.library _ _ e names c.in_ok-library-in-Delete.ensures.read c.in_ok-delete_files-in-Delete.ensures.deleted c.in_err-library_bytes-in-Delete.ensures))

pub returns-in_err-add_files-in-Replace-clause-archived : goal.returns-in_err-add_files-in-Replace-clause-archived
returns-in_err-add_files-in-Replace-clause-archived g c =
    let p = err_from_is_err_and c.from_residual-in_err-add_files-in-Replace.result c.from_residual-in_err-add_files-in-Replace.ensures.1 in
    let e = c.in_err-add_files-in-Replace.field-0.0 in
    let names = ap (map (λ s. s.now)) c.as_slice.ensures in
    let is = c.in-Replace.is in
    rw (p.1, p.2)
    (subst (λ (o : Operation). IfSome (g.S.Store.files c.args.store.now) (λ m. Refines is_system_error (λ (a : ArchiveResult). a) (Err e) (operation_result o m (archive_view c.args.line.now)))) (sym is)
    (addition_fails _ _ (archive_view c.args.line.now) c.in_ok-library-in-Replace.library _ e c.in_ok-library-in-Replace.ensures.frame.files names c.in_ok-library-in-Replace.ensures.read c.in_err-add_files-in-Replace.ensures.inserted))

pub returns-in_err-library_bytes-in-Replace-clause-archived : goal.returns-in_err-library_bytes-in-Replace-clause-archived
returns-in_err-library_bytes-in-Replace-clause-archived g c =
    let p = err_from_is_err_and c.from_residual-in_err-library_bytes-in-Replace.result c.from_residual-in_err-library_bytes-in-Replace.ensures.1 in
    let e = c.in_err-library_bytes-in-Replace.field-0.0 in
    let names = ap (map (λ s. s.now)) c.as_slice.ensures in
    let is = c.in-Replace.is in
    rw (p.1, p.2)
    (subst (λ (o : Operation). IfSome (g.S.Store.files c.args.store.now) (λ m. Refines is_system_error (λ (a : ArchiveResult). a) (Err (error.Library e)) (operation_result o m (archive_view c.args.line.now)))) (sym is)
    (added_too_long _ _ (archive_view c.args.line.now) c.in_ok-library-in-Replace.library _ _ e c.in_ok-library-in-Replace.ensures.frame.files names c.in_ok-library-in-Replace.ensures.read c.in_ok-add_files-in-Replace.ensures.inserted c.in_err-library_bytes-in-Replace.ensures))
