use Rattle.std.proofs.Common.{arith, inl, sym, Ok, Err}
use Rattle.std.proofs.lemmas.Result.{err_from_is_err_and}
use Rattle.script65.proofs.ListLemmas.{none_mapped}
use Rattle.ld65.specs.Linkage.{selected_entries}
use Rattle.ld65.specs.Naming.{IsLibraryFailure}
use Rattle.ld65.proofs.NeededMembers.{after_all, after_none, entry_there, library_fed, none_there, turn_fed, turn_refused}
use Rattle.ld65.proofs.Frames.{after_others, read_left, unasked, unread_left}
use Rattle.ld65.proofs.FailureOrder.{first_turn, next_turn, of_needed}
use Rattle.ld65.proofs.members.add_library.Goals as goal
use Rattle.ld65.proofs.members.add_library.Goals.{in-Some+in_ok-add_member, in_default}

pub returns-in_err-index-clause-frame : goal.returns-in_err-index-clause-frame
returns-in_err-index-clause-frame g c =
    let p = err_from_is_err_and c.from_residual.result c.from_residual.ensures.1 in
    rw (p.1, p.2) (unread_left _ _ _ _ _ c.in_err-index.field-0.0 (λ modules b h failed. inl (h failed)) c.in_err-index.ensures.frame)

pub returns-in_err-entry_indices-clause-frame : goal.returns-in_err-entry_indices-clause-frame
returns-in_err-entry_indices-clause-frame g c =
    let p = err_from_is_err_and c.from_residual-in_err-entry_indices.result c.from_residual-in_err-entry_indices.ensures.1 in
    rw (p.1, p.2) (after_others _ _ _ _ _ _ _ _ (Err c.in_err-entry_indices.field-0.0) (λ modules stands. (modules, stands, λ h. h)) (read_left _ _ _ _ _ c.in_ok-index.index c.requires c.in_ok-index.ensures.frame) (unasked (λ before b. IsLibraryFailure (g.S.Store.files c.args.store.now) c.args.linker.now.script before b c.args.input.now.input_index c.args.input.now.name.now) _ _ _ c.in_err-entry_indices.ensures.cause))

pub loop-entry_index-init : goal.loop-entry_index-init
loop-entry_index-init g c = record {
  kept = read_left _ _ _ _ _ c.in_ok-index.index c.requires c.in_ok-index.ensures.frame;
  stands = after_none _ c.args.input.now.name.now (selected_entries c.as_slice-entries.result.now c.as_slice-entry_index-items.result.now) c.args.linker.now;
  turned = first_turn _ c.args.input.now.name.now c.as_slice-entries.result.now c.as_slice-entry_index-items.result.now c.args.linker.now;
}

pub loop-entry_index-preserved : goal.loop-entry_index-preserved
loop-entry_index-preserved g c =
    let inv = c.loop-entry_index.invariant in
    let library = c.args.input.now.name.now in
    let entries = c.as_slice-entries.result.now in
    let entry_indices = c.as_slice-entry_index-items.result.now in
    let k = c.loop-entry_index.entry_index-index in
    let files = g.S.Store.files c.loop-entry_index.store in
    let old = c.args.linker.now in
    let mid = c.loop-entry_index.linker in
    elim c.match-entry_at.branch [
      | in-Some+in_ok-add_member w ↦ rw (w.linker-is, w.store-is) (record {
        kept = after_others _ _ _ _ _ _ _ _ (Ok tt) (λ modules stands. let m = inv.stands modules stands in (m.0, m.1, λ h. tt)) inv.kept w.in_ok-add_member.ensures.frame;
        stands = turn_fed _ files library entries entry_indices k 0 old mid w.add_member.new.linker (omega arith) inv.kept.files inv.kept.config.script inv.stands (entry_there files library entries _ w.in-Some.entry.now mid w.add_member.new.linker (Ok tt) w.in-Some.ensures w.in_ok-add_member.ensures.added);
        turned = next_turn _ files library entries entry_indices k 0 old mid w.add_member.new.linker (omega arith) inv.kept.files inv.kept.config.script inv.turned (entry_there files library entries _ w.in-Some.entry.now mid w.add_member.new.linker (Ok tt) w.in-Some.ensures w.in_ok-add_member.ensures.added);
      })
      | in_default w ↦ rw (w.linker-is, w.store-is) (record {
        kept = inv.kept;
        stands = turn_fed _ files library entries entry_indices k 0 old mid mid (omega arith) inv.kept.files inv.kept.config.script inv.stands (none_there files library entries _ mid (sym (none_mapped _ c.entry_at.result _ w.in_default.not-Some c.entry_at.ensures)));
        turned = next_turn _ files library entries entry_indices k 0 old mid mid (omega arith) inv.kept.files inv.kept.config.script inv.turned (none_there files library entries _ mid (sym (none_mapped _ c.entry_at.result _ w.in_default.not-Some c.entry_at.ensures)));
      })
    ]

pub returns-in_err-add_member-clause-added : goal.returns-in_err-add_member-clause-added
returns-in_err-add_member-clause-added g c =
    let p = err_from_is_err_and c.from_residual-in_err-add_member.result c.from_residual-in_err-add_member.ensures.1 in
    let inv = c.loop-entry_index.invariant in
    let library = c.args.input.now.name.now in
    let entries = c.as_slice-entries.result.now in
    let e = c.in_err-add_member.field-0.0 in
    rw (p.1, p.2) (library_fed _ c.args.input.now.input_index library c.in_ok-index.index.entries entries c.in_ok-entry_indices.entry_indices.items c.as_slice-entry_index-items.result.now c.args.linker.now c.add_member.new.linker (Err e) c.as_slice-entries.ensures c.as_slice-entry_index-items.ensures.value c.in_ok-index.ensures.read c.in_ok-entry_indices.ensures.chosen
    (turn_refused _ _ library entries c.as_slice-entry_index-items.result.now c.loop-entry_index.entry_index-index _ c.args.linker.now c.loop-entry_index.linker c.add_member.new.linker (omega arith) inv.kept.files inv.kept.config.script inv.stands e
    (entry_there _ library entries _ c.in-Some.entry.now c.loop-entry_index.linker c.add_member.new.linker (Err e) c.in-Some.ensures c.in_err-add_member.ensures.added)))

pub returns-in_err-add_member-clause-frame : goal.returns-in_err-add_member-clause-frame
returns-in_err-add_member-clause-frame g c =
    let p = err_from_is_err_and c.from_residual-in_err-add_member.result c.from_residual-in_err-add_member.ensures.1 in
    let inv = c.loop-entry_index.invariant in
    let library = c.args.input.now.name.now in
    let entries = c.as_slice-entries.result.now in
    let entry_indices = c.as_slice-entry_index-items.result.now in
    let e = c.in_err-add_member.field-0.0 in
    rw (p.1, p.2) (after_others _ _ _ _ _ _ _ _ (Err e) (of_needed _ c.args.input.now.input_index library entries entry_indices c.loop-entry_index.entry_index-index _ c.in-Some.entry.now c.args.linker.now c.loop-entry_index.linker _ e c.args.input.now.input_index (rw c.as_slice-entries.ensures c.in_ok-index.ensures.read) (rw (c.as_slice-entries.ensures, c.as_slice-entry_index-items.ensures.value) c.in_ok-entry_indices.ensures.chosen) (omega arith) c.in-Some.ensures inv.turned) inv.kept c.in_err-add_member.ensures.frame)

pub returns-clause-added : goal.returns-clause-added
returns-clause-added g c =
    let library = c.args.input.now.name.now in
    let entries = c.as_slice-entries.result.now in
    let entry_indices = c.as_slice-entry_index-items.result.now in
    library_fed _ c.args.input.now.input_index library c.in_ok-index.index.entries entries c.in_ok-entry_indices.entry_indices.items entry_indices c.args.linker.now c.loop-entry_index.linker (Ok tt) c.as_slice-entries.ensures c.as_slice-entry_index-items.ensures.value c.in_ok-index.ensures.read c.in_ok-entry_indices.ensures.chosen
    (after_all _ library entries entry_indices c.loop-entry_index.entry_index-index c.args.linker.now c.loop-entry_index.linker (omega arith) c.loop-entry_index.invariant.stands)
