-- The draft of each section contains the entries of its segment.
use Rattle.std.proofs.lemmas.Grind.{common_steps}
use Rattle.std.proofs.Common.{◌≡◌, ◌∙◌, ℕ, zero, suc, ◌+◌, Bool, true, false, not, nat_eq, cond, List, [], ◌∷◌, ◌++◌, map, get_or, slice_set, Some, None, refl, sym, ap, append-nil, arith}
use Rattle.std.specs.Prelude.{if◌then◌else◌}
use Rattle.std.specs.List.{AllByRecursion, IsDistinct, list_any, position, position_or_len}
use Rattle.std.proofs.lemmas.Bool.Decides.{nat_tests}
use Rattle.std.proofs.lemmas.List.{map-id}
use Rattle.std.proofs.lemmas.Map.Keys.{IsDistinct-head, IsDistinct-tail}
use Rattle.emit65.specs.declared.entries.SectionEntry.{SectionEntry}
use Rattle.emit65.specs.declared.numbering.drafts.SectionDraft.{SectionDraft}
use Rattle.emit65.specs.Internal.Drafts.{draft_of, is_segment, entries_in, segment_of, with_entry}

-- ---- Changing the item of a list that has a given key, if keys are distinct.

position_is : {A : Type 0} (p : A → Bool) (xs : List A) (i : ℕ) → position p xs ≡ Some i → i ≡ position_or_len p xs
position_is p xs i h = grind (arith, common_steps)

abbrev changed : {A : Type 0} → (A → ℕ) → ℕ → (A → A) → A → A
changed key g h d = if nat_eq g (key d) then h d else d

others_stay : {A : Type 0} (key : A → ℕ) (g k : ℕ) (h : A → A) (ds : List A) → g ≡ k → AllByRecursion (λ y. nat_eq k y ≡ false) (map key ds) → map (changed key g h) ds ≡ ds
others_stay key g k h [] e all = refl
others_stay key g k h (d ∷ ds) e all =
    let no : nat_eq g (key d) ≡ false = ap (λ x. nat_eq x (key d)) e ∙ all.0 in
    rw (no, others_stay key g k h ds e all.1) refl

pub none_stands : {A : Type 0} (key : A → ℕ) (g : ℕ) (h : A → A) (ds : List A) → list_any (nat_eq g) (map key ds) ≡ false → map (changed key g h) ds ≡ ds
none_stands key g h [] e = refl
none_stands key g h (d ∷ ds) e = grind (arith, common_steps, (none_stands key g h ds))

at_length : {A : Type 0} (key : A → ℕ) (g : ℕ) (h : A → A) (ds : List A) (i : ℕ) (d e : A) → i ≡ position_or_len (nat_eq g) (map key ds) → IsDistinct nat_eq (map key ds) → d ≡ get_or ds i d → e ≡ h d → slice_set ds i e ≡ map (changed key g h) ds
at_length key g h [] i d e at distinct is new = refl
at_length key g h (x ∷ ds) zero d e at distinct is new = by (nat_eq g (key x)) refl at
  where
    by : (b : Bool) → nat_eq g (key x) ≡ b → 0 ≡ cond (not b) (1 + position_or_len (nat_eq g) (map key ds)) 0 → e ∷ ds ≡ map (changed key g h) (x ∷ ds)
    by true eq index = let same : g ≡ key x = grind (arith, nat_tests) in rw (eq, others_stay key g (key x) h ds same (IsDistinct-head nat_eq (key x) (map key ds) distinct), new, is) refl
    by false eq index = absurd (omega (arith, index))
at_length key g h (x ∷ ds) (suc i) d e at distinct is new = by (nat_eq g (key x)) refl at (λ index. at_length key g h ds i d e index (IsDistinct-tail nat_eq (key x) (map key ds) distinct) is new)
  where
    by : (b : Bool) → nat_eq g (key x) ≡ b → suc i ≡ cond (not b) (1 + position_or_len (nat_eq g) (map key ds)) 0 → (i ≡ position_or_len (nat_eq g) (map key ds) → slice_set ds i e ≡ map (changed key g h) ds) → x ∷ slice_set ds i e ≡ map (changed key g h) (x ∷ ds)
    by true eq index again = absurd (omega (arith, index))
    by false eq index again = let next : i ≡ position_or_len (nat_eq g) (map key ds) = omega (arith, index) in rw (eq, again next) refl

pub one_changed : {A : Type 0} (key : A → ℕ) (g : ℕ) (h : A → A) (keys : List ℕ) (ds : List A) (i : ℕ) (d e : A) → map key ds ≡ keys → IsDistinct nat_eq keys → Some i ≡ position (nat_eq g) keys → d ≡ get_or ds i d → e ≡ h d → slice_set ds i e ≡ map (changed key g h) ds
one_changed key g h keys ds i d e same distinct at is new = grind (arith, common_steps, at_length, position_is)

-- ---- Drafts after an entry.

abbrev pub pushed : SectionEntry → SectionDraft → SectionDraft
pushed e d = record d { entries = d.entries ++ e ∷ [] }

-- an entry of a segment changes the draft of this segment only
pub put_there : (e : SectionEntry) (g : ℕ) (ds : List SectionDraft) → segment_of e ≡ Some g → map (λ (d : SectionDraft). if nat_eq g d.segment then pushed e d else d) ds ≡ map (with_entry e) ds
put_there e g ds is = ap (λ o. map (λ (d : SectionDraft). if is_segment d.segment o then pushed e d else d) ds) (sym is)

-- declarations and fixups change no draft
pub nothing_put : (e : SectionEntry) (ds : List SectionDraft) → segment_of e ≡ None → ds ≡ map (with_entry e) ds
nothing_put e ds none = sym (map-id ds) ∙ ap (λ o. map (λ (d : SectionDraft). if is_segment d.segment o then pushed e d else d) ds) (sym none)

entry_segment : (e : SectionEntry) (d : SectionDraft) → (with_entry e d).segment ≡ d.segment
entry_segment e d = grind (arith, common_steps)

pub segments_stay : (e : SectionEntry) (ds : List SectionDraft) → map (λ d. d.segment) (map (with_entry e) ds) ≡ map (λ d. d.segment) ds
segments_stay e [] = refl
segments_stay e (d ∷ ds) = λ n. entry_segment e d n ∷ segments_stay e ds n

pub segments_begin : (keys : List ℕ) → map (λ d. d.segment) (map (draft_of []) keys) ≡ keys
segments_begin [] = refl
segments_begin (k ∷ keys) = ap (λ ks. k ∷ ks) (segments_begin keys)

-- ---- Drafts after all entries.

abbrev pub following : List SectionEntry → SectionDraft → SectionDraft
following es d = record d { entries = d.entries ++ entries_in d.segment es }

after_entry : (e : SectionEntry) (es : List SectionEntry) (d : SectionDraft) → following es (with_entry e d) ≡ following (e ∷ es) d
after_entry e es d = grind (arith, common_steps)

pub one_after : (e : SectionEntry) (es : List SectionEntry) (ds : List SectionDraft) → map (following es) (map (with_entry e) ds) ≡ map (following (e ∷ es)) ds
one_after e es [] = refl
one_after e es (d ∷ ds) = λ n. after_entry e es d n ∷ one_after e es ds n

pub all_after : (es : List SectionEntry) (keys : List ℕ) → map (following es) (map (draft_of []) keys) ≡ map (draft_of es) keys
all_after es [] = refl
all_after es (k ∷ keys) = ap (λ ds. draft_of es k ∷ ds) (all_after es keys)

pub none_after : (ds : List SectionDraft) → ds ≡ map (following []) ds
none_after [] = refl
none_after (d ∷ ds) = λ n. record { segment = d.segment; entries = sym (append-nil d.entries) n } ∷ none_after ds n
