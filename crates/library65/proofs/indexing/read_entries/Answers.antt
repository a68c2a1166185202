use Rattle.std.proofs.Common.{◌∙◌, ◌+◌, ◌-◌, ◌++◌, ◌∷◌, [], ap, map, arith, refl}
use Rattle.std.proofs.lemmas.Result.{err_from_is_err_and}
use Rattle.library65.specs.Reading.{count_at, member_entries_at, unplaced_entry_at, unplaced_entries_at}
use Rattle.object65.proofs.Names.{pushed_name}
use Rattle.library65.proofs.FailedRequests.{fault_of, listing_failed, members_failed}
use Rattle.library65.proofs.Steps.{begins, error_bytes, goes_on, kept_count, memory_elsewhere, memory_frame, memory_last, memory_refines, no_value, passed_frame, still_frame, stops, list_begins, listings_more, name_pushed}
use Rattle.library65.proofs.indexing.read_entries.Goals as goal

pub loop-init : goal.loop-init
loop-init g c = record {
  files = c.in_ok-count.ensures.frame.files;
  count = kept_count _ _ _ c.in_ok-count.ensures.frame.count;
  limit = omega arith;
  some = omega arith;
  names = rw (c.new-names.ensures.empty, c.new-members.ensures.items) refl;
  read = rw c.new-members.ensures.items (goes_on c.args.file.now member_entries_at member_entries_at count_at (λ n. unplaced_entries_at (n - 0) [] 9) list_begins _ _ c.in_ok-count.count refl (begins _ c.args.file.now member_entries_at) c.in_ok-count.ensures.read);
}

pub returns-in_err-count-clause-read : goal.returns-in_err-count-clause-read
returns-in_err-count-clause-read g c =
    let p = err_from_is_err_and c.from_residual.result c.from_residual.ensures.1 in
    rw (p.1, p.2) (stops c.args.file.now member_entries_at member_entries_at count_at (λ n. unplaced_entries_at (n - 0) [] 9) list_begins _ _ c.in_err-count.field-0.0 refl (begins _ c.args.file.now member_entries_at) c.in_err-count.ensures.read)

pub returns-in_err-member-clause-read : goal.returns-in_err-member-clause-read
returns-in_err-member-clause-read g c =
    let p = err_from_is_err_and c.from_residual-in_err-member.result c.from_residual-in_err-member.ensures.1 in
    let n = c.in_ok-count.count in
    let i = c.loop.counter in
    let ms = c.loop.members.items in
    let names = map (λ n. n.items) c.loop.names.keys in
    rw (p.1, p.2) (stops c.args.file.now member_entries_at (unplaced_entries_at (n - i) ms c.loop.end) (unplaced_entry_at names c.loop.end) (λ m. unplaced_entries_at (n - (i + 1)) (ms ++ m.0 ∷ []) m.1) (listings_more n i ms names c.loop.end c.loop.invariant.names c.loop-test.true) _ _ c.in_err-member.field-0.0 c.loop.invariant.files c.loop.invariant.read c.in_err-member.ensures.read)

pub loop-preserved : goal.loop-preserved
loop-preserved g c =
    let n = c.in_ok-count.count in
    let i = c.loop.counter in
    let ms = c.loop.members.items in
    let names = map (λ n. n.items) c.loop.names.keys in
    let name = c.in_ok-name.ensures.items ∙ c.as_slice.ensures in
    let new = pushed_name (λ n. n.items) c.loop.names.keys c.in_ok-name.name names refl (rw name c.in_ok-member.ensures.new) in
    record {
      files = c.in_ok-member.ensures.frame.files ∙ c.loop.invariant.files;
      count = kept_count _ _ _ c.in_ok-member.ensures.frame.count ∙ c.loop.invariant.count;
      limit = c.in_ok-member.ensures.end.1;
      some = omega (arith, c.in_ok-member.ensures.end.0);
      names = ap (map (λ n. n.items)) c.in_ok-insert.ensures.keys ∙ new ∙ name_pushed ms c.in_ok-member.member _ names c.in_ok-name.name.items c.loop.invariant.names name c.in_ok-push.ensures.items;
      read = rw c.in_ok-push.ensures.items (goes_on c.args.file.now member_entries_at (unplaced_entries_at (n - i) ms c.loop.end) (unplaced_entry_at names c.loop.end) (λ m. unplaced_entries_at (n - (i + 1)) (ms ++ m.0 ∷ []) m.1) (listings_more n i ms names c.loop.end c.loop.invariant.names c.loop-test.true) _ _ (c.in_ok-member.member, c.in_ok-member.next) c.loop.invariant.files c.loop.invariant.read c.in_ok-member.ensures.read);
    }

pub returns-in_err-insert-clause-frame : goal.returns-in_err-insert-clause-frame
returns-in_err-insert-clause-frame g c =
    memory_frame (c.in_ok-member.member, c.in_ok-member.next) c.from_residual-in_err-insert.result c.from_residual-in_err-insert.ensures.1
    c.loop.invariant.files c.loop.invariant.count c.in_ok-member.ensures.frame

pub returns-in_err-name-clause-frame : goal.returns-in_err-name-clause-frame
returns-in_err-name-clause-frame g c =
    memory_frame (c.in_ok-member.member, c.in_ok-member.next) c.from_residual-in_err-name.result c.from_residual-in_err-name.ensures.1
    c.loop.invariant.files c.loop.invariant.count c.in_ok-member.ensures.frame

pub returns-in_err-push-clause-frame : goal.returns-in_err-push-clause-frame
returns-in_err-push-clause-frame g c =
    memory_frame (c.in_ok-member.member, c.in_ok-member.next) c.from_residual-in_err-push.result c.from_residual-in_err-push.ensures.1
    c.loop.invariant.files c.loop.invariant.count c.in_ok-member.ensures.frame

pub returns-in_err-push-clause-read : goal.returns-in_err-push-clause-read
returns-in_err-push-clause-read g c = memory_refines _ c.from_residual-in_err-push.result _ _ c.from_residual-in_err-push.ensures.1

pub returns-in_err-push-clause-bytes : goal.returns-in_err-push-clause-bytes
returns-in_err-push-clause-bytes g c = error_bytes _ c.args.file.now _ c.from_residual-in_err-push.result c.from_residual-in_err-push.ensures.1

pub returns-in_err-insert-clause-read : goal.returns-in_err-insert-clause-read
returns-in_err-insert-clause-read g c = memory_refines _ c.from_residual-in_err-insert.result _ _ c.from_residual-in_err-insert.ensures.1

pub returns-in_err-insert-clause-bytes : goal.returns-in_err-insert-clause-bytes
returns-in_err-insert-clause-bytes g c = error_bytes _ c.args.file.now _ c.from_residual-in_err-insert.result c.from_residual-in_err-insert.ensures.1

pub returns-in_err-name-clause-read : goal.returns-in_err-name-clause-read
returns-in_err-name-clause-read g c = memory_refines _ c.from_residual-in_err-name.result _ _ c.from_residual-in_err-name.ensures.1

pub returns-in_err-name-clause-bytes : goal.returns-in_err-name-clause-bytes
returns-in_err-name-clause-bytes g c = error_bytes _ c.args.file.now _ c.from_residual-in_err-name.result c.from_residual-in_err-name.ensures.1

pub returns-in_err-member-clause-bytes : goal.returns-in_err-member-clause-bytes
returns-in_err-member-clause-bytes g c = error_bytes _ c.args.file.now _ c.from_residual-in_err-member.result c.from_residual-in_err-member.ensures.1

pub returns-in_err-count-clause-before : goal.returns-in_err-count-clause-before
returns-in_err-count-clause-before g c =
    let p = err_from_is_err_and c.from_residual.result c.from_residual.ensures.1 in
    rw (p.1, p.2) (λ h. members_failed _ _ _ c.args.file.now refl (c.in_err-count.ensures.within (fault_of c.in_err-count.field-0.0 h)))

pub returns-in_err-member-clause-before : goal.returns-in_err-member-clause-before
returns-in_err-member-clause-before g c =
    let p = err_from_is_err_and c.from_residual-in_err-member.result c.from_residual-in_err-member.ensures.1 in
    let names = map (λ n. n.items) c.loop.names.keys in
    rw (p.1, p.2) (λ h. listing_failed _ _ _ c.args.file.now c.loop.invariant.files c.in_ok-count.count c.loop.counter c.loop.end c.loop.members.items names c.loop.invariant.names c.loop-test.true c.loop.invariant.read (c.in_err-member.ensures.before (fault_of c.in_err-member.field-0.0 h)))

pub returns-in_err-member-clause-frame : goal.returns-in_err-member-clause-frame
returns-in_err-member-clause-frame g c =
    passed_frame c.in_err-member.field-0.0 c.from_residual-in_err-member.result c.from_residual-in_err-member.ensures.1
    c.loop.invariant.files c.loop.invariant.count c.in_err-member.ensures.frame

pub returns-in_err-name-clause-before : goal.returns-in_err-name-clause-before
returns-in_err-name-clause-before g c = λ h. absurd (memory_elsewhere c.from_residual-in_err-name.result c.from_residual-in_err-name.ensures.1 h)

pub returns-in_err-name-clause-at_last_count : goal.returns-in_err-name-clause-at_last_count
returns-in_err-name-clause-at_last_count g c = memory_last _ c.from_residual-in_err-name.result c.from_residual-in_err-name.ensures.1

pub returns-in_err-name-clause-end : goal.returns-in_err-name-clause-end
returns-in_err-name-clause-end g c = no_value _ _ c.from_residual-in_err-name.result c.from_residual-in_err-name.ensures.1

pub returns-in_err-insert-clause-before : goal.returns-in_err-insert-clause-before
returns-in_err-insert-clause-before g c = λ h. absurd (memory_elsewhere c.from_residual-in_err-insert.result c.from_residual-in_err-insert.ensures.1 h)

pub returns-in_err-insert-clause-at_last_count : goal.returns-in_err-insert-clause-at_last_count
returns-in_err-insert-clause-at_last_count g c = memory_last _ c.from_residual-in_err-insert.result c.from_residual-in_err-insert.ensures.1

pub returns-in_err-insert-clause-end : goal.returns-in_err-insert-clause-end
returns-in_err-insert-clause-end g c = no_value _ _ c.from_residual-in_err-insert.result c.from_residual-in_err-insert.ensures.1

pub returns-in_err-push-clause-before : goal.returns-in_err-push-clause-before
returns-in_err-push-clause-before g c = λ h. absurd (memory_elsewhere c.from_residual-in_err-push.result c.from_residual-in_err-push.ensures.1 h)

pub returns-in_err-push-clause-at_last_count : goal.returns-in_err-push-clause-at_last_count
returns-in_err-push-clause-at_last_count g c = memory_last _ c.from_residual-in_err-push.result c.from_residual-in_err-push.ensures.1

pub returns-in_err-push-clause-end : goal.returns-in_err-push-clause-end
returns-in_err-push-clause-end g c = no_value _ _ c.from_residual-in_err-push.result c.from_residual-in_err-push.ensures.1

pub returns-clause-frame : goal.returns-clause-frame
returns-clause-frame g c = still_frame _ c.loop.invariant.files c.loop.invariant.count
