-- The resolution of slots, and the result of an assembler after the last line.
use Rattle.std.proofs.lemmas.Grind.{common_steps}
use Rattle.std.proofs.Common.{◌≡◌, ◌∙◌, ◌||◌, ℕ, Bool, true, false, List, refl, sym, ap, [], ◌∷◌, ◌++◌, subst, append_assoc, arith, length, map}
use Rattle.base65.specs.Outcome.{◌>>=◌, Unless}
use Rattle.ast65.specs.declared.fault.AsmFault.{AsmFault}
use Rattle.ast65.specs.Faults.{is_failure, is_out_of_memory, is_system_error}
use Rattle.std.specs.Prelude.{IfOk, Result, Ok, Err, None, nat_lt}
use Rattle.std.specs.List.{list_all}
use Rattle.std.proofs.lemmas.List.{append-nil, map-append}
use Rattle.object65.specs.declared.object.Object.{Object}
use Rattle.object65.specs.Objects.{is_well_formed_object}
use Rattle.semantics65.specs.Contents.{Content, exported_names}
use Rattle.semantics65.specs.declared.contents.Segment.{Segment}
use Rattle.semantics65.specs.Layout.{Cursor}
use Rattle.sources65.specs.Machine.{State, outcome_of_state, resolution_of_state}
use Rattle.semantics65.specs.Module.{Outcome, without_warning, Resolution, Slot, slot_result, resolved, resolution_of}
use Rattle.semantics65.specs.Numbering.{AreWellFormedContents, all_declarations, object_with, section_keys}
use Rattle.semantics65.specs.Symbols.{Symbols}
use Rattle.semantics65.proofs.SlotResolution.{after, found_all, nothing_after, resolved_more, resolved_stops}
use Rattle.emit65.specs.SectionContents.{AreEquivalentContents, AreEquivalentSlots, HasSlots, HaveFilesBelow, RepresentsSlots, content_of, contents_so_far, names_in, names_of, slot_of, content_so_far, has_file_below}
use Rattle.emit65.specs.declared.files.Files.{Files}
use Rattle.emit65.specs.declared.entries.SectionEntry.{SectionEntry}
use Rattle.emit65.specs.declared.entries.SectionEntry.TheVariants.{Bytes, Reserve, Value, DeclarationEntry, FixupEntry}
use Rattle.emit65.specs.declared.entries.SourcePos.{SourcePos}
use Rattle.emit65.specs.declared.fixups.Fixup.{Fixup}
use Rattle.std.specs.Global.{Box}
use Rattle.emit65.specs.declared.sections.ClosedSections.{ClosedSections}
use Rattle.emit65.proofs.GrownSlots.{standing_more}
use Rattle.object65.proofs.SmallParts.{and, left, right}
use Rattle.emit65.proofs.Slots.{comes_alike, faulty_alike, held_alike, held_contents, keys_found, slots_back, slots_front, slots_same, slots_trans}
use Rattle.symbols65.proofs.StatementLayouts.{unless_then}
use Rattle.symbols65.specs.Views.{table_of}
use Rattle.asm65.specs.declared.assembler.Assembler.{Assembler}
use Rattle.asm65.specs.declared.finish.ResolveState.{ResolveState}
use Rattle.asm65.specs.declared.texts.Diagnostic.{Diagnostic}
use Rattle.asm65.specs.Assembly.{located_result, is_system_error_result, is_diagnostic_system_error, located_fault}
use Rattle.asm65.specs.Internal.AssemblerState.{Represents}
use Rattle.asm65.specs.Internal.RunState.{AreFaultySlots, AreInitialEntries, AreResolvedSlots, RefinesObject, IsFaultySlot, IsObjectOf, IsResolvedSlot, CanReplace, HasLocation}

-- ---- System errors.

pub unless : (b : Bool) (P : Type 0) → (b ≡ false → P) → Unless b P
unless true P h = tt
unless false P h = h refl

either_false : (b c : Bool) → (b || c) ≡ false → b ≡ false
either_false b c h = grind (arith, common_steps)

pub certain : (b : Bool) (P : Type 0) → Unless b P → b ≡ false → P
certain true P u e = absurd cc
certain false P u e = u

-- if an error is no system error, memory didn't run out
pub found_inside : (e : AsmFault) (P : Type 0) → Unless (is_out_of_memory e) P → is_system_error e ≡ false → P
found_inside e P h k = certain (is_out_of_memory e) P h (either_false (is_out_of_memory e) (is_failure e) k)

pub no_more : (b c : Bool) → (b ≡ true → c ≡ true) → c ≡ false → b ≡ false
no_more true c h e = absurd (let both : true ≡ false = sym (h refl) ∙ e in cc)
no_more false c h e = refl

-- ---- A further entry.

-- both parts of an empty concatenation are empty
pub none_first : {A : Type 0} (xs ys : List A) → xs ++ ys ≡ [] → xs ≡ []
none_first [] ys h = refl
none_first (x ∷ xs) ys h = absurd cc

none_last : {A : Type 0} (xs ys : List A) → xs ++ ys ≡ [] → ys ≡ []
none_last [] ys h = h
none_last (x ∷ xs) ys h = absurd cc

-- an entry that isn't deferred represents a resolved slot
known_slot : (files : List (List ℕ)) (e : SectionEntry) → ((w : Box Fixup) → e ≡ FixupEntry w → ⊥) → slot_of files e ≡ resolved (content_of files e)
known_slot files (FixupEntry w) h = absurd (h w refl)
known_slot files _ h = refl

-- the resolution of such an entry is the entry itself, without a warning
pub known_settled : (y : Symbols) (files : List (List ℕ)) (e : SectionEntry) (now : ResolveState) → ((w : Box Fixup) → e ≡ FixupEntry w → ⊥) → AreInitialEntries files (e ∷ []) → IsResolvedSlot y files (slot_of files e) e now now
known_settled y files e now h fed =
    let is = known_slot files e h in
    let unsaid : (content_of files e).said ≡ [] = none_first (content_of files e).said [] (subst (λ (x : Slot). all_declarations (contents_so_far (x ∷ [])) ≡ []) is fed.no_declarations) in
    record {
      made = without_warning (content_of files e);
      found = ap (slot_result y (names_of now.exported)) is;
      entry = subst (λ (x : Slot). AreEquivalentSlots (x ∷ []) (slot_of files e ∷ [])) is (slots_same (slot_of files e ∷ []));
      standing = left (has_file_below (length files) e) true fed.standing;
      names = sym (append-nil (names_of now.exported)) ∙ ap (λ ss. names_of now.exported ++ exported_names ss) (sym unsaid);
      err = sym (append-nil now.err);
    }

-- an entry that isn't deferred may replace its content
pub replaced : (files : List (List ℕ)) (pos : SourcePos) (e : SectionEntry) → HasLocation pos e → CanReplace files (content_of files e) e
replaced files pos (Bytes g bytes) h = slots_same (resolved (content_of files (Bytes g bytes)) ∷ [])
replaced files pos (Reserve g n) h = slots_same (resolved (content_of files (Reserve g n)) ∷ [])
replaced files pos (Value width g o f) h = slots_same (resolved (content_of files (Value width g o f)) ∷ [])
replaced files pos (DeclarationEntry t) h = slots_same (resolved (content_of files (DeclarationEntry t)) ∷ [])
replaced files pos (FixupEntry w) h = absurd h

-- if the file index of its location is below a bound, so is that of the entry
pub stands_there : (count : ℕ) (pos : SourcePos) (e : SectionEntry) → nat_lt pos.file count ≡ true → HasLocation pos e → has_file_below count e ≡ true
stands_there count pos (Bytes g bytes) lt h = refl
stands_there count pos (Reserve g n) lt h = refl
stands_there count pos (Value width g o f) lt h = ap (λ (p : SourcePos). nat_lt p.file count) h ∙ lt
stands_there count pos (DeclarationEntry t) lt h = ap (λ (p : SourcePos). nat_lt p.file count) h ∙ lt
stands_there count pos (FixupEntry w) lt h = absurd h

-- ---- The resolution of slots in order.

fed_first : (files : List (List ℕ)) (e : SectionEntry) (es : List SectionEntry) → AreInitialEntries files (e ∷ es) → AreInitialEntries files (e ∷ [])
fed_first files e es h =
    let said = (content_so_far (slot_of files e)).said in
    record {
      standing = and (has_file_below (length files) e) true (left (has_file_below (length files) e) (list_all (has_file_below (length files)) es) h.standing) refl;
      no_declarations = append-nil said ∙ none_first said (all_declarations (contents_so_far (map (slot_of files) es))) h.no_declarations;
    }

fed_rest : (files : List (List ℕ)) (e : SectionEntry) (es : List SectionEntry) → AreInitialEntries files (e ∷ es) → AreInitialEntries files es
fed_rest files e es h = record {
  standing = right (has_file_below (length files) e) (list_all (has_file_below (length files)) es) h.standing;
  no_declarations = none_last (content_so_far (slot_of files e)).said (all_declarations (contents_so_far (map (slot_of files) es))) h.no_declarations;
}

-- the loop invariant: the entries so far represent the contents of the first slots, and the remaining slots are still to be
-- resolved
pub record SoFar (y : Symbols) (files : List (List ℕ)) (all : List Slot) (done left : List SectionEntry) (old new : ResolveState) : Type 0 where
  pub contents : List Content
  pub said : List ℕ
  pub found : resolution_of y (names_of old.exported) all ≡ after (found_all contents said) (resolution_of y (names_of new.exported) (map (slot_of files) left))
  pub entries : AreEquivalentSlots (map resolved contents) (map (slot_of files) done)
  pub standing : HaveFilesBelow (length files) done
  pub others : AreInitialEntries files left
  pub err : new.err ≡ old.err ++ said

pub begins : (y : Symbols) (files : List (List ℕ)) (left : List SectionEntry) (e : ResolveState) → AreInitialEntries files left → SoFar y files (map (slot_of files) left) [] left e e
begins y files left e fed = record {
  contents = [];
  said = [];
  found = sym (nothing_after (resolution_of y (names_of e.exported) (map (slot_of files) left)));
  entries = slots_same [];
  standing = refl;
  others = fed;
  err = sym (append-nil e.err);
}

pub goes_on : (y : Symbols) (files : List (List ℕ)) (all : List Slot) (done : List SectionEntry) (e f : SectionEntry) (left : List SectionEntry) (old mid new : ResolveState) → SoFar y files all done (e ∷ left) old mid → (AreInitialEntries files (e ∷ []) → IsResolvedSlot y files (slot_of files e) f mid new) → SoFar y files all (done ++ f ∷ []) left old new
goes_on y files all done e f rest old mid new so encoding =
    let k = encoding (fed_first files e rest so.others) in
    record {
      contents = so.contents ++ k.made.content ∷ [];
      said = so.said ++ k.made.warning;
      found =
          so.found ∙ resolved_more y (names_of mid.exported) so.contents so.said (slot_of files e) (map (slot_of files) rest) k.made k.found
          ∙ ap (λ names. after (found_all (so.contents ++ k.made.content ∷ []) (so.said ++ k.made.warning)) (resolution_of y names (map (slot_of files) rest))) (sym k.names);
      entries =
          let held = map resolved so.contents in
          let slots = map (slot_of files) done in
          subst (λ (xs : List Slot). AreEquivalentSlots xs (map (slot_of files) (done ++ f ∷ []))) (sym (map-append resolved so.contents (k.made.content ∷ [])))
          (subst (λ (ys : List Slot). AreEquivalentSlots (held ++ resolved k.made.content ∷ []) ys) (sym (map-append (slot_of files) done (f ∷ [])))
          (slots_trans (held ++ resolved k.made.content ∷ []) (slots ++ resolved k.made.content ∷ []) (slots ++ slot_of files f ∷ [])
          (slots_front held slots (resolved k.made.content ∷ []) so.entries)
          (slots_back slots (resolved k.made.content ∷ []) (slot_of files f ∷ []) k.entry)));
      standing = standing_more (length files) done f k.standing so.standing;
      others = fed_rest files e rest so.others;
      err = k.err ∙ ap (λ (x : List ℕ). x ++ k.made.warning) so.err ∙ append_assoc old.err so.said k.made.warning;
    }

pub stops : (y : Symbols) (files : List (List ℕ)) (all : List Slot) (done : List SectionEntry) (e : SectionEntry) (left : List SectionEntry) (old mid new : ResolveState) (f : Diagnostic) → SoFar y files all done (e ∷ left) old mid → (AreInitialEntries files (e ∷ []) → Unless (is_diagnostic_system_error f) (IsFaultySlot y (slot_of files e) f mid new)) → Unless (is_diagnostic_system_error f) (AreFaultySlots y (names_of old.exported) all f old.err new.err)
stops y files all done e rest old mid new f so faulty = unless_then (is_diagnostic_system_error f) one (faulty (fed_first files e rest so.others))
  where
    one : IsFaultySlot y (slot_of files e) f mid new → AreFaultySlots y (names_of old.exported) all f old.err new.err
    one k = record {
      said = so.said;
      found = so.found ∙ resolved_stops y (names_of mid.exported) so.contents so.said (slot_of files e) (map (slot_of files) rest) (located_fault f) k.found;
      err = k.err ∙ so.err;
    }

after_none : (cs : List Content) (said : List ℕ) → after (found_all cs said) (found_all [] []) ≡ found_all cs said
after_none cs said = λ n. found_all (append-nil cs n) (append-nil said n)

pub ends : (y : Symbols) (files : List (List ℕ)) (all : List Slot) (done : List SectionEntry) (old new : ResolveState) → SoFar y files all done [] old new → AreResolvedSlots y files all done old new
ends y files all done old new so = record {
  contents = so.contents;
  said = so.said;
  found = so.found ∙ after_none so.contents so.said;
  entries = so.entries;
  standing = so.standing;
  err = so.err;
}

-- ---- The object of the slots.

-- the entries of closed sections without declarations have valid file indices and no declarations
pub fed_closed : (xs : List Slot) (t : ClosedSections) → HasSlots xs t → all_declarations (contents_so_far xs) ≡ [] → AreInitialEntries (names_in t.files) t.entries.items
fed_closed xs t h unsaid = record { standing = h.standing; no_declarations = sym h.equivalent.held.said ∙ unsaid }

-- the closed sections represent the resolved contents instead of the slots
settled_slots : (y : Symbols) (xs : List Slot) (t u : ClosedSections) (cs ds : List Content) → u.requested ≡ t.requested → u.files ≡ t.files → HasSlots xs t → (resolution_of y [] xs).found ≡ Ok cs → AreEquivalentContents cs ds → AreEquivalentSlots (map resolved ds) (map (slot_of (names_in t.files)) u.entries.items) → HaveFilesBelow (length (names_in t.files)) u.entries.items → HasSlots (map resolved cs) u
settled_slots y xs t u cs ds requested files h found alike entries standing = record {
  requested = ap section_keys (held_contents cs) ∙ keys_found y [] xs cs found ∙ h.requested ∙ ap (λ s. s.keys) (sym requested);
  equivalent =
      subst (λ (fs : Files). AreEquivalentSlots (map resolved cs) (map (slot_of (names_in fs)) u.entries.items)) (sym files)
      (slots_trans (map resolved cs) (map resolved ds) (map (slot_of (names_in t.files)) u.entries.items) (held_alike cs ds alike) entries);
  standing = subst (λ (fs : Files). HaveFilesBelow (length (names_in fs)) u.entries.items) (sym files) standing;
}

-- the object of the resolved entries is the object of the slots
pub object_come : (y : Symbols) (segments : List Segment) (xs : List Slot) (t u : ClosedSections) (old new : ResolveState) (o : Object) → u.requested ≡ t.requested → u.files ≡ t.files → names_of old.exported ≡ [] → HasSlots xs t → AreResolvedSlots y (names_in t.files) (map (slot_of (names_in t.files)) t.entries.items) u.entries.items old new → ((cs : List Content) → HasSlots (map resolved cs) u → o ≡ object_with segments y.imports cs) → ((cs : List Content) → HasSlots (map resolved cs) u → AreWellFormedContents segments y.imports cs → is_well_formed_object o ≡ true) → IsObjectOf y segments xs o old.err new.err
object_come y segments xs t u old new o requested files none h k made good =
    let slots : List Slot = map (slot_of (names_in t.files)) t.entries.items in
    let found : resolution_of y [] slots ≡ found_all k.contents k.said = subst (λ (names : List (List ℕ)). resolution_of y names slots ≡ found_all k.contents k.said) none k.found in
    let come = comes_alike y [] xs slots k.contents k.said h.equivalent found in
    let has = settled_slots y xs t u come.contents k.contents requested files h (ap (λ (f : Resolution). f.found) come.is) come.equivalent k.entries k.standing in
    record {
      contents = come.contents;
      said = k.said;
      found = come.is;
      object = made come.contents has;
      good = good come.contents has;
      err = k.err;
    }

-- the case of an error: the first error of the entries is that of the slots
pub fault_come : (y : Symbols) (xs : List Slot) (t : ClosedSections) (e : Diagnostic) (names : List (List ℕ)) (old new : List ℕ) → names ≡ [] → HasSlots xs t → Unless (is_diagnostic_system_error e) (AreFaultySlots y names (map (slot_of (names_in t.files)) t.entries.items) e old new) → Unless (is_diagnostic_system_error e) (AreFaultySlots y [] xs e old new)
fault_come y xs t e names old new none h = unless_then (is_diagnostic_system_error e) (λ k.
    let slots : List Slot = map (slot_of (names_in t.files)) t.entries.items in
    record {
      said = k.said;
      found = faulty_alike y [] xs slots (located_fault e) k.said h.equivalent (subst (λ (ns : List (List ℕ)). resolution_of y ns slots ≡ record { found = Err (located_fault e); printed_warnings = k.said }) none k.found);
      err = k.err;
    })

-- ---- The result after the last line.

-- the assembler's symbol table and segments are those of the state that it represents
held_comes : (count : ℕ) (t : State) (a : Assembler) (new : List ℕ) (r : Result Object Diagnostic) → Represents count t a → RefinesObject (table_of a.symbols) a.cursor.segments t.slots a.texts.err new r → RefinesObject t.symbols t.cursor.segments t.slots t.err new r
held_comes count t a new r h k =
    let first : RefinesObject t.symbols a.cursor.segments t.slots a.texts.err new r = subst (λ (y : Symbols). RefinesObject y a.cursor.segments t.slots a.texts.err new r) h.symbols k in
    let second : RefinesObject t.symbols t.cursor.segments t.slots a.texts.err new r = subst (λ (w : Cursor). RefinesObject t.symbols w.segments t.slots a.texts.err new r) h.cursor first in
    subst (λ (e : List ℕ). RefinesObject t.symbols t.cursor.segments t.slots e new r) h.err second

abbrev concluded_by : State → Resolution → Outcome
concluded_by t r = record { result = r.found >>= (λ cs. Ok (object_with t.cursor.segments t.symbols.imports cs)); out = t.out; err = t.err ++ r.printed_warnings }

answer_concluded : (t : State) (out new : List ℕ) (r : Result Object Diagnostic) → out ≡ t.out → RefinesObject t.symbols t.cursor.segments t.slots t.err new r → is_system_error_result r ≡ false → record { result = located_result r; out = out; err = new } ≡ outcome_of_state t None
answer_concluded t out new (Ok o) same k inside =
    let answer : Object → List ℕ → List ℕ → Outcome = λ x said err. record { result = Ok x; out = said; err = err } in
    (λ n. answer (k.object n) (same n) (k.err n)) ∙ ap (concluded_by t) (sym k.found)
answer_concluded t out new (Err e) same u inside =
    let k = certain (is_diagnostic_system_error e) (AreFaultySlots t.symbols [] t.slots e t.err new) u inside in
    let answer : List ℕ → List ℕ → Outcome = λ said err. record { result = Err (located_fault e); out = said; err = err } in
    (λ n. answer (same n) (k.err n)) ∙ ap (concluded_by t) (sym k.found)

pub comes_concluded : (count : ℕ) (t : State) (a : Assembler) (new : List ℕ) (r : Result Object Diagnostic) → Represents count t a → RefinesObject (table_of a.symbols) a.cursor.segments t.slots a.texts.err new r → is_system_error_result r ≡ false → record { result = located_result r; out = a.texts.out; err = new } ≡ outcome_of_state t None
comes_concluded count t a new r h k inside = answer_concluded t a.texts.out new r h.out (held_comes count t a new r h k) inside

-- the object is well-formed if its contents are
abbrev pub IsGoodIf : Assembler → Object → Type 0
IsGoodIf a o =
    (count : ℕ) (t : State) → Represents count t a →
    ((cs : List Content) → (resolution_of_state t).found ≡ Ok cs → AreWellFormedContents t.cursor.segments t.symbols.imports cs) →
    is_well_formed_object o ≡ true

pub comes_good : (a : Assembler) (new : List ℕ) (r x : Result Object Diagnostic) → x ≡ r → ((xs : List Slot) → RepresentsSlots xs a.sections → all_declarations (contents_so_far xs) ≡ [] → RefinesObject (table_of a.symbols) a.cursor.segments xs a.texts.err new r) → IfOk x (IsGoodIf a)
comes_good a new r x same comes = subst (λ (z : Result Object Diagnostic). IfOk z (IsGoodIf a)) (sym same) (by r comes)
  where
    by : (z : Result Object Diagnostic) → ((xs : List Slot) → RepresentsSlots xs a.sections → all_declarations (contents_so_far xs) ≡ [] → RefinesObject (table_of a.symbols) a.cursor.segments xs a.texts.err new z) → IfOk z (IsGoodIf a)
    by (Ok o) k = λ count t h sound.
        (let found = held_comes count t a new (Ok o) h (k t.slots h.sections h.no_declarations) in
        found.good (sound found.contents (ap (λ (f : Resolution). f.found) found.found)))
    by (Err e) k = tt
