use Rattle.std.proofs.Common.{◌≡◌, ◌+◌, ◌<◌, ◌≤◌, List, ℕ, [], ◌∷◌, add-one, ap, arith, drop, get_or, length, map, string_bytes, subst, sym, take, Global}
use Rattle.std.proofs.Math.Seq.{drop-cons}
use Rattle.std.proofs.lemmas.List.{drop-set-lt, drop_all, take_all, take_at, take_more_set}
use Rattle.std.proofs.lemmas.Result.{err_from_is_err_and}
use Rattle.symbols65.specs.Views.{table_of}
use Rattle.emit65.specs.declared.entries.SectionEntry.{SectionEntry}
use Rattle.emit65.specs.SectionContents.{slot_of}
use Rattle.asm65.specs.Internal.RunState.{AreInitialEntries}
use Rattle.asm65.proofs.SlotResolution.{SoFar, begins, ends, goes_on, stops}
use Rattle.asm65.proofs.finish.resolve_entries.Goals as goal

pub loop-entry-init : goal.loop-entry-init
loop-entry-init c =
    let y = table_of c.args.tables.symbols.now in
    let files : List (List ℕ) = map (string_bytes {Z = Global}) c.args.tables.files.now in
    let es : List SectionEntry = c.args.entries.now.items in
    let e = c.args.resolve_state.now in
    record {
      known = c.requires;
      resolved = λ (h : AreInitialEntries files es). subst (λ (all : List SectionEntry). SoFar y files (map (slot_of files) es) (take 0 all) (drop 0 all) e e) (sym c.deref_mut-entry-items.ensures.value) (begins y files es e h);
    }

pub loop-entry-preserved : goal.loop-entry-preserved
loop-entry-preserved c =
    let y = table_of c.args.tables.symbols.now in
    let files : List (List ℕ) = map (string_bytes {Z = Global}) c.args.tables.files.now in
    let all = map (slot_of files) c.args.entries.now.items in
    let es : List SectionEntry = c.loop-entry.entry-items in
    let i = c.loop-entry.entry-index in
    let e : SectionEntry = get_or es i c.entry-item.result in
    let f : SectionEntry = c.resolve_entry.new.entry in
    let old = c.args.resolve_state.now in
    let lt : i < length es = omega arith in
    let next : drop i es ≡ e ∷ drop (i + 1) es = rw add-one (drop-cons es i c.entry-item.result lt) in
    record {
      known = c.in_ok-resolve_entry.ensures.found;
      resolved = λ (h : AreInitialEntries files c.args.entries.now.items).
          rw (take_more_set es i f lt, drop-set-lt (i + 1) es i f (omega arith))
          (goes_on y files all (take i es) e f (drop (i + 1) es) old c.loop-entry.resolve_state c.resolve_entry.new.resolve_state (subst (λ (left : List SectionEntry). SoFar y files all (take i es) left old c.loop-entry.resolve_state) next (c.loop-entry.invariant.resolved h)) c.in_ok-resolve_entry.ensures.resolved);
    }

pub returns-in_err-resolve_entry-clause-resolved : goal.returns-in_err-resolve_entry-clause-resolved
returns-in_err-resolve_entry-clause-resolved c =
    let y = table_of c.args.tables.symbols.now in
    let files : List (List ℕ) = map (string_bytes {Z = Global}) c.args.tables.files.now in
    let all = map (slot_of files) c.args.entries.now.items in
    let es : List SectionEntry = c.loop-entry.entry-items in
    let i = c.loop-entry.entry-index in
    let e : SectionEntry = get_or es i c.entry-item.result in
    let old = c.args.resolve_state.now in
    let lt : i < length es = omega arith in
    let next : drop i es ≡ e ∷ drop (i + 1) es = rw add-one (drop-cons es i c.entry-item.result lt) in
    let p = err_from_is_err_and c.from_residual.result c.from_residual.ensures.1 in
    λ (h : AreInitialEntries files c.args.entries.now.items).
    rw (p.1, p.2) (stops y files all (take i es) e (drop (i + 1) es) old c.loop-entry.resolve_state c.resolve_entry.new.resolve_state c.in_err-resolve_entry.field-0.0 (subst (λ (left : List SectionEntry). SoFar y files all (take i es) left old c.loop-entry.resolve_state) next (c.loop-entry.invariant.resolved h)) c.in_err-resolve_entry.ensures.resolved)

pub returns-clause-resolved : goal.returns-clause-resolved
returns-clause-resolved c =
    let y = table_of c.args.tables.symbols.now in
    let files : List (List ℕ) = map (string_bytes {Z = Global}) c.args.tables.files.now in
    let fed : List SectionEntry = c.args.entries.now.items in
    let all = map (slot_of files) fed in
    let es : List SectionEntry = c.loop-entry.entry-items in
    let i = c.loop-entry.entry-index in
    let old = c.args.resolve_state.now in
    let new = c.loop-entry.resolve_state in
    let long : length es ≡ c.args.entries.now.len = omega (arith, c.args.entries.now.ok.0, ap length c.deref_mut-entry-items.ensures.value) in
    let end : length es ≤ i = omega arith in
    λ (h : AreInitialEntries files fed).
    let none = subst (λ (left : List SectionEntry). SoFar y files all (take i es) left old new) (drop_all i es end) (c.loop-entry.invariant.resolved h) in
    rw (take_at es (drop (length es) fed) c.args.entries.now.len long)
    (ends y files all es old new (subst (λ (done : List SectionEntry). SoFar y files all done [] old new) (take_all i es end) none))
