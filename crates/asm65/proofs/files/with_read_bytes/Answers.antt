use Rattle.std.proofs.Common.{◌≡◌, subst, take, option_map}
use Rattle.std.proofs.lemmas.Result.{err_from_is_err_and}
use Rattle.std.specs.Prelude.{IfSome, length}
use Rattle.std.specs.FinMap.{get}
use Rattle.base65.specs.Store.{FailedOn, FailedWithin, bytes_in}
use Rattle.expand65.specs.Expansion.{sibling_path, file_named}
use Rattle.semantics65.specs.Views.{location_in}
use Rattle.asm65.proofs.WholeFiles.{part_read}
use Rattle.asm65.proofs.Runs.{some_then}
use Rattle.asm65.proofs.StatementSteps.{failed_unread, refused_unread}
use Rattle.asm65.proofs.files.with_read_bytes.Goals as goal

pub returns-in_err-check_range-in-IncbinPath-clause-refused : goal.returns-in_err-check_range-in-IncbinPath-clause-refused
returns-in_err-check_range-in-IncbinPath-clause-refused g c = λ count t h.
    (let p = err_from_is_err_and c.from_residual.result c.from_residual.ensures.1 in
    let part = c.in-IncbinPath in
    rw (p.1, p.2) (refused_unread t (location_in c.args.at.file.now c.args.at.line) part.name part.start part.len c.args.statement part.is c.in_err-check_range-in-IncbinPath.field-0.0 (g.S.Store.files c.args.store.now) (g.S.Store.last_failure c.args.store.now) c.in_err-check_range-in-IncbinPath.ensures.no_failure (c.in_err-check_range-in-IncbinPath.ensures.checked count t h)))

pub returns-in_err-bytes-in-IncbinPath-clause-refused : goal.returns-in_err-bytes-in-IncbinPath-clause-refused
returns-in_err-bytes-in-IncbinPath-clause-refused g c = λ count t h.
    (let p = err_from_is_err_and c.from_residual-in_err-bytes-in-IncbinPath.result c.from_residual-in_err-bytes-in-IncbinPath.ensures.1 in
    let part = c.in-IncbinPath in
    rw (p.1, p.2) (failed_unread t (location_in c.args.at.file.now c.args.at.line) part.name part.start part.len c.args.statement part.is c.in_err-bytes-in-IncbinPath.field-0.0 (g.S.Store.files c.args.store.now) (g.S.Store.last_failure c.bytes_beside.new.store) c.in_ok-check_range-in-IncbinPath.field-0 c.in_err-bytes-in-IncbinPath.ensures.outside (λ so. subst (λ n. FailedOn (g.S.Store.last_failure c.bytes_beside.new.store) (sibling_path c.args.at.file.now n)) c.as_slice.ensures (c.in_err-bytes-in-IncbinPath.ensures.last_failure so)) (λ so. subst (λ n. IfSome (g.S.Store.files c.args.store.now) (λ m. FailedWithin (g.S.Store.last_failure c.bytes_beside.new.store) (sibling_path c.args.at.file.now n) 0 (length (bytes_in (get m (sibling_path c.args.at.file.now n)))))) c.as_slice.ensures (c.in_err-bytes-in-IncbinPath.ensures.within so)) (c.in_ok-check_range-in-IncbinPath.ensures.checked count t h)))

pub returns-in_ok-bytes-in-IncbinPath-clause-bytes : goal.returns-in_ok-bytes-in-IncbinPath-clause-bytes
returns-in_ok-bytes-in-IncbinPath-clause-bytes g c =
    some_then (λ m. c.in_ok-bytes-in-IncbinPath.bytes ≡ option_map (take 16777217) (file_named m (sibling_path c.args.at.file.now c.as_slice.result.now))) _ (g.S.Store.files c.args.store.now)
    (λ m h. part_read m c.args.at.file.now c.in-IncbinPath.name c.as_slice.result.now c.args.at.line c.in_ok-bytes-in-IncbinPath.bytes c.in-IncbinPath.start c.in-IncbinPath.len c.args.statement c.in-IncbinPath.is c.as_slice.ensures h) c.in_ok-bytes-in-IncbinPath.ensures.read
