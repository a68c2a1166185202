use Rattle.std.proofs.lemmas.Grind.{common_steps}
use Rattle.std.proofs.Common.{[], refl, arith}
use Rattle.std.proofs.lemmas.Result.{err_from_is_err_and}
use Rattle.library65.specs.Libraries.{with_library_entries, library_at}
use Rattle.library65.specs.Reading.{index_at}
use Rattle.library65.proofs.Steps.{begins, goes_on, kept_count, passed_frame, still_frame, stops, library_begins}
use Rattle.library65.proofs.loading.read_members.Goals as goal

pub returns-in_err-index-clause-read : goal.returns-in_err-index-clause-read
returns-in_err-index-clause-read g c =
    let p = err_from_is_err_and c.from_residual.result c.from_residual.ensures.1 in
    rw (p.1, p.2) (stops c.args.file.now library_at library_at index_at (λ es. with_library_entries [] es) library_begins _ _ c.in_err-index.field-0.0 refl (begins _ c.args.file.now library_at) c.in_err-index.ensures.read)

pub loop-entry-init : goal.loop-entry-init
loop-entry-init g c = record {
  files = c.in_ok-index.ensures.frame.files;
  count = kept_count _ _ _ c.in_ok-index.ensures.frame.count;
  sound = record { names = rw c.with_hasher.ensures.empty refl; stored = rw c.with_hasher.ensures.empty tt };
  read = rw (c.with_hasher.ensures.empty, c.as_slice-entry-items.ensures) (goes_on c.args.file.now library_at library_at index_at (λ es. with_library_entries [] es) library_begins _ _ c.in_ok-index.index.entries refl (begins _ c.args.file.now library_at) c.in_ok-index.ensures.read);
}

pub loop-entry-preserved : goal.loop-entry-preserved
loop-entry-preserved g c = grind (arith, common_steps)

pub returns-in_err-load_member-clause-read : goal.returns-in_err-load_member-clause-read
returns-in_err-load_member-clause-read g c = grind (arith, common_steps)

pub returns-in_err-load_member-clause-frame : goal.returns-in_err-load_member-clause-frame
returns-in_err-load_member-clause-frame g c =
    passed_frame c.in_err-load_member.field-0.0 c.from_residual-in_err-load_member.result c.from_residual-in_err-load_member.ensures.1
    c.loop-entry.invariant.files c.loop-entry.invariant.count c.in_err-load_member.ensures.frame

pub returns-clause-read : goal.returns-clause-read
returns-clause-read g c = grind (arith, common_steps)

pub load_member-requires-clause-within : goal.load_member-requires-clause-within
load_member-requires-clause-within g c = grind (arith, common_steps)

pub returns-clause-frame : goal.returns-clause-frame
returns-clause-frame g c = still_frame _ c.loop-entry.invariant.files c.loop-entry.invariant.count
