-- The properties of a state that a list of records leads to.
use Rattle.std.proofs.Common.{◌≡◌, ◌∙◌, ℕ, zero, suc, Option, Some, None, ◌+◌, ◌-◌, ◌%◌, ◌<◌, ◌≤◌, List, [], ◌∷◌, ◌++◌, length, drop, map, get_or, Bool, true, false, ◌&&◌, ◌||◌, not, nat_lt, nat_le, nat_eq, ◌==◌, if◌then◌else◌, Ok, refl, sym, ap, arith, append_assoc, length-append, ◌⊎◌, inl, inr, subst}
use Rattle.std.proofs.lemmas.Bool.Decides.{nat_tests}
use Rattle.std.proofs.lemmas.Grind.{common_steps}
use Rattle.std.proofs.lemmas.List.Folds.{list_any-append, list_all-append}
use Rattle.std.proofs.lemmas.List.Sums.{sum_by-append}
use Rattle.std.specs.Cmp.{nat_eq_equiv}
use Rattle.std.specs.Cmp.Lexicographic.{pointwise, lists_equiv}
use Rattle.std.specs.List.{flat_map, list_all, sum_by, AllByRecursion}
use Rattle.std.specs.Prelude.{slice_get, slice_set}
use Rattle.std.specs.Str.{is_utf8}
use Rattle.byteorder.specs.Endian.{little_number, little_bytes}
use Rattle.object65.specs.declared.builder.Draft.{Draft}
use Rattle.object65.specs.declared.fault.ObjectError.TheVariants.{BadSize, NotCanonical, IndexOutOfRange}
use Rattle.object65.specs.declared.object.Export.{Export}
use Rattle.object65.specs.declared.object.Assert.{Assert}
use Rattle.object65.specs.declared.object.Fragment.{Fragment}
use Rattle.object65.specs.declared.object.Origin.{Origin}
use Rattle.object65.specs.declared.object.Fragment.TheVariants.{Literal, Fill, Value}
use Rattle.object65.specs.declared.scan.SectionFill.{SectionFill}
use Rattle.object65.specs.Bodies.{SectionHeader, section_of, literal_of, fill_of, value_of}
use Rattle.object65.specs.Record.{IsBytes, RawRecord, is_version}
use Rattle.object65.specs.Folding.{is_literal}
use Rattle.object65.specs.Form.{Form}
use Rattle.object65.specs.Objects.{is_name, is_among, are_distinct, are_files_of, are_names, has_file, has_file_by, has_well_formed_origin, is_well_formed_origin, section_limit, fragment_len, width_len, is_well_formed_form, is_well_formed_fragment, can_merge, are_all_merged, FragmentFits, FitsBits, OriginFits}
use Rattle.object65.specs.Small.{is_small_text}
use Rattle.object65.specs.Spelling.{file_record, import_record, literal_record, literal_records, fragment_records, export_record, assert_record, end_record, body_limit}
use Rattle.object65.specs.Items.{State, closed_fragments, draft_with_fragment, is_none, with_fragment, drafts_with_fragment, drafts_with_fragment_at}
use Rattle.object65.specs.Scanning.{check_canonical_open, ends_in_fill, is_fill, is_short, check_form_indices, check_file_index, check_indices, last_of, with_fill, check_capacity, with_literal, section_fill, with_value, ok_if}
use Rattle.object65.proofs.Drafts.{turned, nil, last_joins, last_push, apart_push, value_apart, fill_last, shut_len, shut_good, shut_apart, Opened, is_full, piece_there, joined_piece}
use Rattle.object65.proofs.Fields.{fill_reads, value_by, value_reads}
use Rattle.object65.proofs.SmallParts.{left, right, and}
use Rattle.object65.proofs.Numbers.{front}
use Rattle.object65.proofs.RecordSequences.{bound, passes, IsReadEntry}
use Rattle.object65.proofs.Scannings.{fill_is, short_is, wanted, whole}

-- the record with which a section began
abbrev pub heading_entry : Draft → RawRecord
heading_entry d = record { kind = 2; body = little_bytes 4 d.size ++ d.align ∷ d.name }

-- the records that filled the section
abbrev pub content_entries : Draft → List RawRecord
content_entries d = flat_map fragment_records d.fragments ++ literal_records d.literal

-- the invariant of a section of an object with `n` sections and `i` imports
pub record GoodDraft (n i : ℕ) (d : Draft) : Type 0 where
  pub align : nat_le d.align 15 ≡ true
  pub size : d.size ≤ section_limit
  pub filled : d.filled ≡ sum_by fragment_len d.fragments + length d.literal
  pub within : d.filled ≤ d.size
  pub well_formed : list_all (is_well_formed_fragment n i) d.fragments ≡ true
  pub apart : are_all_merged d.fragments ≡ true
  -- the unfinished literal can't be merged with the fragment before it
  pub bare : (bytes : List ℕ) → last_joins d.fragments (Literal bytes) ≡ false

pub record IsEmptyDraft (d : Draft) : Type 0 where
  pub fragments : d.fragments ≡ []
  pub literal : d.literal ≡ []

-- a section that isn't full is followed by empty ones
abbrev pub Filling : List Draft → Type 0
Filling [] = Unit {0}
Filling (d ∷ ds) = (is_full d ≡ false → AllByRecursion IsEmptyDraft ds) × Filling ds

abbrev pub is_open_form : ℕ → ℕ → Form → Bool
is_open_form n i f = is_well_formed_form n i f && not (is_literal f)

-- the origins of a section's values are well-formed
abbrev pub has_good_values : ℕ → ℕ → Draft → Bool
has_good_values v m d = list_all (has_well_formed_origin v m) d.fragments

-- the invariant of all reached states
pub record GoodState (s : State) : Type 0 where
  pub version : is_version s.version ≡ true
  pub files : are_files_of s.version s.files ≡ true
  pub values : list_all (has_good_values s.version (length s.files)) s.drafts ≡ true
  pub export_origins : list_all (λ e. is_well_formed_origin s.version (length s.files) e.origin) s.exports ≡ true
  pub assert_origins : list_all (λ a. is_well_formed_origin s.version (length s.files) a.origin) s.asserts ≡ true
  pub imports : are_names s.imports ≡ true
  pub names : are_names (map (λ d. d.name) s.drafts) ≡ true
  pub export_names : are_names (map (λ e. e.name) s.exports) ≡ true
  pub drafts : AllByRecursion (GoodDraft (length s.drafts) (length s.imports)) s.drafts
  pub search_start : Filling s.drafts
  pub has_fragment : s.has_fragment ≡ false → AllByRecursion IsEmptyDraft s.drafts
  -- exports and assertions follow the fragments
  pub exported : is_none s.exports ≡ false → list_all is_full s.drafts ≡ true
  pub asserted : is_none s.asserts ≡ false → list_all is_full s.drafts ≡ true
  pub full : s.ended ≡ true → list_all is_full s.drafts ≡ true
  pub exports : list_all (λ e. is_well_formed_form (length s.drafts) (length s.imports) e.form) s.exports ≡ true
  pub asserts : list_all (λ a. is_open_form (length s.drafts) (length s.imports) a.form) s.asserts ≡ true
  pub failed : s.failed ≡ false

abbrev pub FitDraft : Draft → Type 0
FitDraft d = AllByRecursion FragmentFits d.fragments

abbrev pub FitExport : Export → Type 0
FitExport e = OriginFits e.origin × FitsBits e.form

abbrev pub FitAssert : Assert → Type 0
FitAssert a = OriginFits a.origin × FitsBits a.form

-- six lists of records, concatenated
abbrev pub rows : (a b c d f g : List RawRecord) → List RawRecord
rows a b c d f g = ((((a ++ b) ++ c) ++ d) ++ f) ++ g

abbrev pub end_entries : Bool → List RawRecord
end_entries ended = if ended then end_record ∷ [] else []

-- the records after those of the files
abbrev pub entries_so_far : State → List RawRecord
entries_so_far s = rows (map import_record s.imports) (map heading_entry s.drafts) (flat_map content_entries s.drafts) (map export_record s.exports) (map assert_record s.asserts) (end_entries s.ended)

-- these records lead to the state, and its parts fit into records
pub record Reached (s : State) (es : List RawRecord) : Type 0 where
  pub entries : es ≡ map file_record s.files ++ entries_so_far s
  pub files : AllByRecursion (λ name. is_utf8 name ≡ true) s.files
  pub drafts : AllByRecursion FitDraft s.drafts
  pub exports : AllByRecursion FitExport s.exports
  pub asserts : AllByRecursion FitAssert s.asserts
  pub texts : list_all (λ a. is_small_text a.text) s.asserts ≡ true

-- ---- Auxiliary lemmas.

-- if the mapped list is empty, so is the list
pub none_of : {A B : Type 0} (f : A → B) (xs : List A) → is_none (map f xs) ≡ true → xs ≡ []
none_of f x e = grind (arith, common_steps)

pub either : (b : Bool) → (b ≡ true) ⊎ (b ≡ false)
either true = inl refl
either false = inr refl

pub none_is : {A : Type 0} (xs : List A) → is_none xs ≡ true → xs ≡ []
none_is x e = grind (arith, common_steps)

pub empties_none : (ds : List Draft) → AllByRecursion IsEmptyDraft ds → flat_map content_entries ds ≡ []
empties_none [] all = refl
empties_none (d ∷ ds) all = λ i. (flat_map fragment_records (all.0.fragments i) ++ literal_records (all.0.literal i)) ++ empties_none ds all.1 i

pub empties_fill : (ds : List Draft) → AllByRecursion IsEmptyDraft ds → Filling ds
empties_fill [] all = tt
empties_fill (d ∷ ds) all = (λ h. all.1, empties_fill ds all.1)

-- an empty section satisfies the invariant in any object
pub empties_good : (n i m j : ℕ) (ds : List Draft) → AllByRecursion (GoodDraft n i) ds → AllByRecursion IsEmptyDraft ds → AllByRecursion (GoodDraft m j) ds
empties_good n i m j [] good all = tt
empties_good n i m j (d ∷ ds) good all = (
  record {
    align = good.0.align;
    size = good.0.size;
    filled = good.0.filled;
    within = good.0.within;
    well_formed = ap (list_all (is_well_formed_fragment m j)) all.0.fragments;
    apart = good.0.apart;
    bare = good.0.bare;
  },
  empties_good n i m j ds good.1 all.1,
)

pub empties_fit : (ds : List Draft) → AllByRecursion IsEmptyDraft ds → AllByRecursion FitDraft ds
empties_fit [] all = tt
empties_fit (d ∷ ds) all = (subst (AllByRecursion FragmentFits) (sym all.0.fragments) tt, empties_fit ds all.1)

-- ---- A SECTION record.

-- appending a new valid name to distinct valid names
pub distinct_push : (p : List ℕ → Bool) (names : List (List ℕ)) (name : List ℕ) → are_distinct p names ≡ true → p name ≡ true → is_among names name ≡ false → are_distinct p (names ++ name ∷ []) ≡ true
distinct_push p [] name good fine new = rw fine refl
distinct_push p (x ∷ xs) name good fine new =
    let apart : pointwise nat_eq name x ≡ false = first_false (pointwise nat_eq name x) (is_among xs name) new in
    let others : is_among xs name ≡ false = second_false (pointwise nat_eq name x) (is_among xs name) new in
    let flipped : pointwise nat_eq x name ≡ false = (lists_equiv nat_eq_equiv).symm x name ∙ apart in
    let front = left (p x && not (is_among xs x)) (are_distinct p xs) good in
    let new_there : is_among (xs ++ name ∷ []) x ≡ false = list_any-append (λ n. pointwise nat_eq x n) xs (name ∷ []) ∙ rw (turned (is_among xs x) (right (p x) (not (is_among xs x)) front), flipped) refl in
    and (p x && not (is_among (xs ++ name ∷ []) x)) (are_distinct p (xs ++ name ∷ []))
    (and (p x) (not (is_among (xs ++ name ∷ []) x)) (left (p x) (not (is_among xs x)) front) (ap not new_there))
    (distinct_push p xs name (right (p x && not (is_among xs x)) (are_distinct p xs) good) fine others)
  where
    first_false : (a b : Bool) → (a || b) ≡ false → a ≡ false
    first_false true b e = cc
    first_false false b e = refl

    second_false : (a b : Bool) → (a || b) ≡ false → b ≡ false
    second_false true b e = cc
    second_false false b e = e

pub names_push : (names : List (List ℕ)) (name : List ℕ) → are_names names ≡ true → is_name name ≡ true → is_among names name ≡ false → are_names (names ++ name ∷ []) ≡ true
names_push = distinct_push is_name

-- a decoded section
pub record ReadsHeading (body : List ℕ) (h : SectionHeader) : Type 0 where
  pub long : 5 ≤ length body
  pub fresh : h ≡ record { size = little_number 4 body; align = get_or body 4 0; name = drop 5 body }
  pub small : little_number 4 body ≤ section_limit

five : (body : List ℕ) → IsBytes body → 5 ≤ length body → little_bytes 4 (little_number 4 body) ++ get_or body 4 0 ∷ drop 5 body ≡ body
five x is long = grind (arith, common_steps)

pub heading_read : (body : List ℕ) (h : SectionHeader) → section_of body ≡ Ok h → ReadsHeading body h
heading_read body h e = grind (arith, common_steps)

-- the encoding of the section is the body
pub heading_spelled : (body : List ℕ) (h : SectionHeader) → IsBytes body → ReadsHeading body h → little_bytes 4 h.size ++ h.align ∷ h.name ≡ body
heading_spelled body h is reads = ap (λ (x : SectionHeader). little_bytes 4 x.size ++ x.align ∷ x.name) reads.fresh ∙ five body is reads.long

-- ---- A fragment in its section.

-- the effect of a fragment's record on its section
pub record Grows (n i : ℕ) (e : RawRecord) (d x : Draft) : Type 0 where
  pub well_formed : GoodDraft n i x
  pub name : x.name ≡ d.name
  pub heading : heading_entry x ≡ heading_entry d
  pub contents : IsReadEntry e → content_entries x ≡ content_entries d ++ e ∷ []
  pub fits : IsReadEntry e → FitDraft d → FitDraft x

room_left : (d : Draft) (len : ℕ) (u : Unit {0}) → check_capacity (section_fill d) len ≡ Ok u → len ≤ d.size - d.filled
room_left d len u e = let capacity = wanted (nat_le len (d.size - d.filled)) BadSize u e in grind (arith, nat_tests)

pub literal_grows : (n i : ℕ) (e : RawRecord) (d : Draft) (x : SectionFill × Fragment) → e.kind ≡ 3 → GoodDraft n i d → with_literal e.body (section_fill d) ≡ Ok x → Grows n i e d (draft_with_fragment d x.1)
unfolding with_literal
literal_grows n i e d x kind good h =
    let b = bound (literal_of e.body) _ _ h in
    let a = passes (length e.body == 0) BadSize _ _ b.1 in
    let some : 0 < length e.body = (let t = a.0 in grind (arith, nat_tests)) in
    let same : e.body ≡ b.0 = cc (a.1) in
    let u = bound (check_capacity (section_fill d) (length b.0)) _ _ b.2 in
    let within = room_left d (length b.0) u.0 u.1 in
    let v = bound (ok_if (not (is_short (last_of d))) NotCanonical) _ _ u.2 in
    let full : whole d.literal ≡ true = sym (short_is d) ∙ wanted (not (is_short (last_of d))) NotCanonical v.0 v.1 in
    let even : length d.literal % body_limit ≡ 0 = grind (arith, nat_tests) in
    let item : Literal b.0 ≡ x.1 = (let z = v.2 in cc) in
    let x_is : draft_with_fragment d (Literal e.body) ≡ draft_with_fragment d x.1 = ap (λ (f : Fragment). draft_with_fragment d f) (ap (λ (xs : List ℕ). Literal xs) same ∙ item) in
    let e_is : literal_record e.body ≡ e = (λ k. record { kind = sym kind k; body = e.body }) in
    rw (← x_is) (record {
      well_formed = record {
        align = good.align;
        size = good.size;
        filled = omega (arith, good.filled, length-append d.literal e.body);
        within = omega (arith, good.within, within, ap length same);
        well_formed = good.well_formed;
        apart = good.apart;
        bare = good.bare;
      };
      name = refl;
      heading = refl;
      contents = λ read.
          ap (λ es. flat_map fragment_records d.fragments ++ es) (joined_piece d.literal e.body even some read.short)
          ∙ sym (append_assoc (flat_map fragment_records d.fragments) (literal_records d.literal) (literal_record e.body ∷ []))
          ∙ ap (λ y. (flat_map fragment_records d.fragments ++ literal_records d.literal) ++ y ∷ []) e_is;
      fits = λ read fits. fits;
    })

fragment_grows : (n i : ℕ) (e : RawRecord) (d : Draft) (f : Fragment) → GoodDraft n i d → fragment_len f ≤ d.size - d.filled → is_well_formed_fragment n i f ≡ true → last_joins (closed_fragments d) f ≡ false → ((bytes : List ℕ) → can_merge f (Literal bytes) ≡ false) → (IsReadEntry e → (fragment_records f ≡ e ∷ []) × FragmentFits f) → Grows n i e d (with_fragment d (fragment_len f) f)
fragment_grows n i e d f good capacity fine apart bare read = grind (arith, common_steps, shut_len, sum_by-append, list_all-append, and, shut_good, apart_push, shut_apart, last_push)

fill_some : (body : List ℕ) (n : ℕ) → fill_of body ≡ Ok n → 0 < n
fill_some body n e = grind (arith, common_steps)

pub fill_grows : (n i : ℕ) (e : RawRecord) (d : Draft) (x : SectionFill × Fragment) → e.kind ≡ 4 → GoodDraft n i d → with_fill e.body (section_fill d) ≡ Ok x → Grows n i e d (draft_with_fragment d x.1)
unfolding with_fill
fill_grows n i e d x kind good h =
    let c = bound (fill_of e.body) _ _ h in
    let u = bound (check_capacity (section_fill d) c.0) _ _ c.2 in
    let v = bound (ok_if (not (is_fill (last_of d))) NotCanonical) _ _ u.2 in
    let alone : ends_in_fill (closed_fragments d) ≡ false = sym (fill_is d) ∙ turned (is_fill (last_of d)) (wanted (not (is_fill (last_of d))) NotCanonical v.0 v.1) in
    let item : Fill c.0 ≡ x.1 = (let z = v.2 in cc) in
    let x_is : draft_with_fragment d (Fill c.0) ≡ draft_with_fragment d x.1 = ap (λ (f : Fragment). draft_with_fragment d f) item in
    let some : nat_lt 0 c.0 ≡ true = (let t = fill_some e.body c.0 c.1 in grind (arith, nat_tests)) in
    rw (← x_is) (fragment_grows n i e d (Fill c.0) good (room_left d c.0 u.0 u.1) some (sym (fill_last (closed_fragments d) c.0) ∙ alone) (λ bytes. refl)
    (λ read. let is = fill_reads e.body c.0 read.bytes c.1 in ((λ k. record { kind = sym kind k; body = sym is.0 k } ∷ []), is.1)))

-- the indices in a part are valid
pub parts_known : (m n i : ℕ) (o : Origin) (f : Form) (u : Unit {0}) → check_indices m n i o f ≡ Ok u → (has_file m o.file ≡ true) × (check_form_indices n i f ≡ Ok u)
unfolding check_indices
parts_known m n i o f u h = let t = bound (check_file_index m o) _ _ h in (wanted (has_file m o.file) IndexOutOfRange t.0 t.1, t.2)

-- the form of a value or an assertion satisfies its conditions
pub open_form : (n i : ℕ) (f : Form) (u v : Unit {0}) → check_form_indices n i f ≡ Ok u → check_canonical_open f ≡ Ok v → is_open_form n i f ≡ true
open_form n i f u v k c = grind (arith, common_steps)

pub value_grows : (v m n i : ℕ) (e : RawRecord) (d : Draft) (x : SectionFill × Fragment) → e.kind ≡ 5 → GoodDraft n i d → with_value v m n i e.body (section_fill d) ≡ Ok x → Grows n i e d (draft_with_fragment d x.1)
unfolding with_value
value_grows v m n i e d x kind good h =
    let c = bound (value_of v e.body) _ _ h in
    let u = bound (check_capacity (section_fill d) (width_len c.0.0)) _ _ c.2 in
    let k = bound (check_indices m n i c.0.1 c.0.2) _ _ u.2 in
    let w = bound (check_canonical_open c.0.2) _ _ k.2 in
    let item : Value c.0.0 c.0.1 c.0.2 ≡ x.1 = (let z = w.2 in cc) in
    let x_is : draft_with_fragment d (Value c.0.0 c.0.1 c.0.2) ≡ draft_with_fragment d x.1 = ap (λ (f : Fragment). draft_with_fragment d f) item in
    rw (← x_is) (fragment_grows n i e d (Value c.0.0 c.0.1 c.0.2) good (room_left d (width_len c.0.0) u.0 u.1) (open_form n i c.0.2 k.0 w.0 (parts_known m n i c.0.1 c.0.2 k.0 k.1).1 w.1) (value_apart (closed_fragments d) c.0.0 c.0.1 c.0.2) (λ bytes. refl)
    (λ read. let is = value_reads v e.body c.0 read.bytes c.1 in ((λ k. record { kind = sym kind k; body = sym is.0 k } ∷ []), (is.1, is.2))))

-- ---- The origins of values.

pub literal_placed : (v m : ℕ) (body : List ℕ) (r : SectionFill) (y : SectionFill × Fragment) → with_literal body r ≡ Ok y → has_well_formed_origin v m y.1 ≡ true
unfolding with_literal
literal_placed v m body r y h = grind (arith, common_steps)

pub fill_placed : (v m : ℕ) (body : List ℕ) (r : SectionFill) (y : SectionFill × Fragment) → with_fill body r ≡ Ok y → has_well_formed_origin v m y.1 ≡ true
unfolding with_fill
fill_placed v m body r y h = grind (arith, common_steps)

pub value_placed : (v m n i : ℕ) (body : List ℕ) (r : SectionFill) (y : SectionFill × Fragment) → with_value v m n i body r ≡ Ok y → has_well_formed_origin v m y.1 ≡ true
unfolding with_value
value_placed v m n i body r y h =
    let c = bound (value_of v body) _ _ h in
    let u = bound (check_capacity r (width_len c.0.0)) _ _ c.2 in
    let k = bound (check_indices m n i c.0.1 c.0.2) _ _ u.2 in
    let w = bound (check_canonical_open c.0.2) _ _ k.2 in
    let item : Value c.0.0 c.0.1 c.0.2 ≡ y.1 = (let z = w.2 in cc) in
    ap (has_well_formed_origin v m) (sym item) ∙ and (has_file_by v c.0.1.file) (has_file m c.0.1.file) (value_by v body c.0 c.1) (parts_known m n i c.0.1 c.0.2 k.0 k.1).0

values_grown : (v m : ℕ) (d : Draft) (f : Fragment) → has_good_values v m d ≡ true → has_well_formed_origin v m f ≡ true → has_good_values v m (draft_with_fragment d f) ≡ true
values_grown v m d x good fine = grind (arith, common_steps)

-- a section with one further fragment
pub values_with_piece : (v m : ℕ) (f : Fragment) → has_well_formed_origin v m f ≡ true → (ds : List Draft) (k : ℕ) → list_all (has_good_values v m) ds ≡ true → list_all (has_good_values v m) (drafts_with_fragment ds k f) ≡ true
values_with_piece v m f fine ds k good = go (slice_get ds k) refl where
  there : (ds : List Draft) (k : ℕ) (d : Draft) → slice_get ds k ≡ Some d → list_all (λ x. has_good_values v m x) ds ≡ true → list_all (λ x. has_good_values v m x) (slice_set ds k (draft_with_fragment d f)) ≡ true
  there [] k d is all = all
  there (x ∷ ds) zero d is all =
      let same : x ≡ d = cc in
      let one = left (has_good_values v m x) (list_all (λ y. has_good_values v m y) ds) all in
      and (has_good_values v m (draft_with_fragment d f)) (list_all (λ y. has_good_values v m y) ds)
      (values_grown v m d f (ap (λ (y : Draft). has_good_values v m y) (sym same) ∙ one) fine)
      (right (has_good_values v m x) (list_all (λ y. has_good_values v m y) ds) all)
  there (x ∷ ds) (suc k) d is all =
      and (has_good_values v m x) (list_all (λ y. has_good_values v m y) (slice_set ds k (draft_with_fragment d f)))
      (left (has_good_values v m x) (list_all (λ y. has_good_values v m y) ds) all)
      (there ds k d is (right (has_good_values v m x) (list_all (λ y. has_good_values v m y) ds) all))

  go : (o : Option Draft) → slice_get ds k ≡ o → list_all (has_good_values v m) (drafts_with_fragment_at ds k f o) ≡ true
  go None is = good
  go (Some d) is = there ds k d is good

-- ---- A fragment among the sections.

-- the effect of a fragment's record on the list of sections
pub record Goes (n i : ℕ) (e : RawRecord) (ds es : List Draft) : Type 0 where
  pub headings : map heading_entry es ≡ map heading_entry ds
  pub names : map (λ d. d.name) es ≡ map (λ d. d.name) ds
  pub count : length es ≡ length ds
  pub contents : IsReadEntry e → flat_map content_entries es ≡ flat_map content_entries ds ++ e ∷ []
  pub fits : IsReadEntry e → AllByRecursion FitDraft ds → AllByRecursion FitDraft es
  pub well_formed : AllByRecursion (GoodDraft n i) es
  pub search_start : Filling es

past : (n i : ℕ) (e : RawRecord) (d : Draft) (ds es : List Draft) → GoodDraft n i d → is_full d ≡ true → Goes n i e ds es → Goes n i e (d ∷ ds) (d ∷ es)
past n i e d ds es good full rest = grind (arith, common_steps)

here : (n i : ℕ) (e : RawRecord) (d x : Draft) (ds : List Draft) → AllByRecursion (GoodDraft n i) ds → AllByRecursion IsEmptyDraft ds → Grows n i e d x → Goes n i e (d ∷ ds) (x ∷ ds)
here n i e d x ds goods empties grows = grind (arith, common_steps, empties_none, nil, empties_fill)

-- adding a fragment to the first section that isn't full
goes : (n i : ℕ) (e : RawRecord) (front : List Draft) (d x : Draft) (following : List Draft) → list_all is_full front ≡ true → is_full d ≡ false → AllByRecursion (GoodDraft n i) (front ++ d ∷ following) → Filling (front ++ d ∷ following) → (GoodDraft n i d → Grows n i e d x) → Goes n i e (front ++ d ∷ following) (front ++ x ∷ following)
goes n i e [] d x following full free goods filling grows = here n i e d x following goods.1 (filling.0 free) (grows goods.0)
goes n i e (y ∷ front) d x following full free goods filling grows =
    past n i e y (front ++ d ∷ following) (front ++ x ∷ following) goods.0 (left (is_full y) (list_all is_full front) full)
    (goes n i e front d x following (right (is_full y) (list_all is_full front) full) free goods.1 filling.1 grows)

pub goes_in : (n i : ℕ) (e : RawRecord) (ds : List Draft) (section : ℕ × SectionFill) (f : Fragment) (o : Opened ds section) → AllByRecursion (GoodDraft n i) ds → Filling ds → (GoodDraft n i o.split.draft → Grows n i e o.split.draft (draft_with_fragment o.split.draft f)) → Goes n i e ds (drafts_with_fragment ds section.0 f)
goes_in n i e ds section f o goods filling grows =
    let p = o.split in
    let k = length p.front in
    let at : k ≡ section.0 = ap (λ (x : ℕ × SectionFill). x.0) o.here in
    let ok : Goes n i e (p.front ++ p.draft ∷ p.following) (p.front ++ draft_with_fragment p.draft f ∷ p.following) = goes n i e p.front p.draft (draft_with_fragment p.draft f) p.following p.full p.free (subst (AllByRecursion (GoodDraft n i)) p.all goods) (subst Filling p.all filling) grows in
    let put : drafts_with_fragment ds section.0 f ≡ p.front ++ draft_with_fragment p.draft f ∷ p.following = ap (λ j. drafts_with_fragment ds j f) (sym at) ∙ ap (λ xs. drafts_with_fragment xs k f) p.all ∙ piece_there p.front p.draft p.following f in
    subst (λ (xs : List Draft). Goes n i e xs (drafts_with_fragment ds section.0 f)) (sym p.all) (subst (λ (ys : List Draft). Goes n i e (p.front ++ p.draft ∷ p.following) ys) (sym put) ok)
