use Rattle.std.proofs.Common.{◌≡◌, List, ℕ, [], ap, map, string_bytes, subst, refl, Global}
use Rattle.std.specs.Prelude.{Ok, Err}
use Rattle.std.proofs.lemmas.Result.{err_from_is_err_and}
use Rattle.semantics65.specs.Module.{Slot}
use Rattle.semantics65.specs.Numbering.{all_declarations}
use Rattle.semantics65.specs.Symbols.{Symbols}
use Rattle.emit65.specs.SectionContents.{RepresentsSlots, contents_so_far, names_in, names_of, slot_of}
use Rattle.emit65.specs.declared.sections.ClosedSections.{ClosedSections}
use Rattle.symbols65.specs.Views.{table_of}
use Rattle.asm65.specs.Internal.RunState.{AreInitialEntries, ResolvesSlots}
use Rattle.asm65.proofs.SlotResolution.{fault_come, fed_closed, object_come}
use Rattle.asm65.proofs.finish.object_of.Goals as goal

pub returns-in_err-resolve_entries-clause-found : goal.returns-in_err-resolve_entries-clause-found
returns-in_err-resolve_entries-clause-found c =
    let y : Symbols = table_of c.args.symbols.now in
    let t : ClosedSections = c.in_ok-closed.closed in
    let es = t.entries.items in
    let old = c.args.resolve_state.now in
    let new = c.resolve_entries.new.resolve_state in
    let e = c.in_err-resolve_entries.field-0.0 in
    let p = err_from_is_err_and c.from_residual-in_err-resolve_entries.result c.from_residual-in_err-resolve_entries.ensures.1 in
    let encoding : AreInitialEntries (names_in t.files) es → ResolvesSlots y (names_in t.files) (map (slot_of (names_in t.files)) es) old new (Err e) = subst (λ (fs : List (List ℕ)). AreInitialEntries fs es → ResolvesSlots y fs (map (slot_of fs) es) old new (Err e)) (ap (map (string_bytes {Z = Global})) c.as_slice.ensures.keys) c.in_err-resolve_entries.ensures.resolved in
    λ (xs : List Slot). λ (s : RepresentsSlots xs c.args.sections). λ (unsaid : all_declarations (contents_so_far xs) ≡ []).
    let h = c.in_ok-closed.ensures xs s in
    rw (p.1, p.2) (fault_come y xs t e (names_of old.exported) old.err new.err c.requires.none h (encoding (fed_closed xs t h unsaid)))

pub returns-clause-found : goal.returns-clause-found
returns-clause-found c =
    let y : Symbols = table_of c.args.symbols.now in
    let t : ClosedSections = c.in_ok-closed.closed in
    let es = t.entries.items in
    let old = c.args.resolve_state.now in
    let new = c.resolve_entries.new.resolve_state in
    let u : ClosedSections = record { requested = t.requested; files = t.files; entries = c.resolve_entries.new.entries } in
    let encoding : AreInitialEntries (names_in t.files) es → ResolvesSlots y (names_in t.files) (map (slot_of (names_in t.files)) es) old new (Ok u.entries.items) = subst (λ (fs : List (List ℕ)). AreInitialEntries fs es → ResolvesSlots y fs (map (slot_of fs) es) old new (Ok u.entries.items)) (ap (map (string_bytes {Z = Global})) c.as_slice.ensures.keys) c.in_ok-resolve_entries.ensures.resolved in
    λ (xs : List Slot). λ (s : RepresentsSlots xs c.args.sections). λ (unsaid : all_declarations (contents_so_far xs) ≡ []).
    let h = c.in_ok-closed.ensures xs s in
    object_come y c.args.segments.now xs t u old new c.in_ok-finish.field-0 refl refl c.requires.none h (encoding (fed_closed xs t h unsaid)) c.in_ok-finish.ensures.object c.in_ok-finish.ensures.good
