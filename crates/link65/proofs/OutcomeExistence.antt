-- Every form has a result, and any modules and script have an outcome.
use Rattle.std.proofs.Common.{◌≡◌, ◌∙◌, ◌⊎◌, inl, inr, ℕ, zero, suc, ◌+◌, ◌<◌, ◌≤◌, Bool, true, false, List, [], ◌∷◌, ◌++◌, length, map, nat_lt, nat_eq, Option, Some, None, Result, Ok, Err, refl, sym, ap, subst, arith, slice_get}
use Rattle.std.specs.Prelude.{ℤ, pos, ◌==◌}
use Rattle.std.specs.Ordering.{int_eq}
use Rattle.std.specs.List.{range_with_len}
use Rattle.std.proofs.lemmas.Bool.Decides.{nat_tests}
use Rattle.std.proofs.lemmas.List.FromFn.{get_or-map-range_with_len, length-map-range_with_len}
use Rattle.base65.proofs.SystemErrors.{Has, Own, bad, choice, first_own, good, next}
use Rattle.base65.specs.Outcome.{◌>>=◌}
use Rattle.base65.specs.declared.output.OutputFile.{OutputFile}
use Rattle.base65.specs.declared.action.Action.{Action}
use Rattle.base65.specs.declared.action.Action.TheVariants as action
use Rattle.object65.specs.Objects.{fits_width}
use Rattle.script65.specs.Faults.{is_place_system_error}
use Rattle.script65.specs.Placing.{place_of}
use Rattle.script65.specs.declared.placement.PlaceFault.{PlaceFault}
use Rattle.script65.specs.declared.placement.Placement.{Placement}
use Rattle.script65.specs.declared.script.MemoryArea.{MemoryArea}
use Rattle.script65.specs.declared.script.Script.{Script}
use Rattle.link65.specs.declared.fault.LinkFault.{LinkFault}
use Rattle.link65.specs.declared.fault.ModuleLocation.{ModuleLocation}
use Rattle.link65.specs.declared.parts.ModuleAssertion.{ModuleAssertion}
use Rattle.link65.specs.declared.parts.ModuleExport.{ModuleExport}
use Rattle.link65.specs.declared.parts.ValueFixup.{ValueFixup}
use Rattle.link65.specs.declared.parts.LinkedModule.{LinkedModule}
use Rattle.link65.specs.declared.parts.ValueFault.{ValueFault}
use Rattle.link65.specs.declared.parts.ValueFault.TheVariants.{Circular, NoValue, Unresolved}
use Rattle.link65.specs.Files.{AddsArea, AddsAreas, IsAreaFile, IsImage, RowPiece, image_byte, file_name, with_bytes}
use Rattle.link65.specs.Laws.{FilesExist, LinkOutcomeExists, LinkValueExists, is_system_error}
use Rattle.link65.specs.Links.{IsSuccessfulLink, IsPlacedLink, IsProgramLink, as_placement, assertion_result, check_assert, check_asserts, check_export, check_fixup, check_result, check_each, fixups_by_row, check_imports_defined, check_unique_names, none_duplicate, none_unresolved, placement_result, located_value}
use Rattle.link65.specs.Programs.{Program, program_of}
use Rattle.link65.specs.Texts.{map_text, warnings_of_rows}
use Rattle.link65.specs.Values.{AreExports, Exports, Linkage, ConvergesTo, export_value, exports_to_depth, table_exports, linkage_of, needs_of, row_bytes, value_of_form}
use Rattle.script65.proofs.PlacementExistence.{place_own}
use Rattle.link65.proofs.Attempts.{Answer, Grows, Known, circular_before, exports_grow, form_grows}

-- ---- From some depth of nested exports on, no result changes.
-- From depth 1 on, each depth that changes a result increases the number of exports whose result isn't circular, and this
-- number is bounded by the number of exports.

is_circular : Answer → Bool
is_circular (Err Circular) = true
is_circular r = false

circular_is : (r : Answer) → is_circular r ≡ true → r ≡ Err Circular
unfolding is_circular
circular_is (Err Circular) e = refl
circular_is (Err NoValue) e = cc
circular_is (Err Unresolved) e = cc
circular_is (Ok v) e = cc

known_is : (r s : Answer) → Known r s → is_circular r ≡ false → s ≡ r
unfolding is_circular
known_is (Err Circular) s h e = cc
known_is (Err NoValue) s h e = h
known_is (Err Unresolved) s h e = h
known_is (Ok v) s h e = h

step : Bool → ℕ
step true = 0
step false = 1

-- the number of exports before an index with a result that isn't circular at depth `n`
answered : Linkage → ℕ → ℕ → ℕ
answered l n zero = 0
answered l n (suc x) = step (is_circular (exports_to_depth l n x)) + answered l n x

step_bound : (b : Bool) → step b ≤ 1
unfolding step
step_bound true = omega arith
step_bound false = omega arith

answered_bound : (l : Linkage) (n m : ℕ) → answered l n m ≤ m
unfolding answered
answered_bound l n zero = omega arith
answered_bound l n (suc m) = omega (arith, answered_bound l n m, step_bound (is_circular (exports_to_depth l n m)))

step_grows : (r s : Answer) → Known r s → (b c : Bool) → is_circular r ≡ b → is_circular s ≡ c → step b ≤ step c
unfolding step
step_grows r s h true true e f = omega arith
step_grows r s h true false e f = omega arith
step_grows r s h false false e f = omega arith
step_grows r s h false true e f = absurd (let same : true ≡ false = sym f ∙ ap is_circular (known_is r s h e) ∙ e in cc)

exports_step : (l : Linkage) (n x : ℕ) → step (is_circular (exports_to_depth l n x)) ≤ step (is_circular (exports_to_depth l (suc n) x))
exports_step l n x = step_grows (exports_to_depth l n x) (exports_to_depth l (suc n) x) (exports_grow l n x) (is_circular (exports_to_depth l n x)) (is_circular (exports_to_depth l (suc n) x)) refl refl

answered_grows : (l : Linkage) (n m : ℕ) → answered l n m ≤ answered l (suc n) m
unfolding answered
answered_grows l n zero = omega arith
answered_grows l n (suc m) = omega (arith, answered_grows l n m, exports_step l n m)

step_same : (r s : Answer) → Known r s → (b c : Bool) → is_circular r ≡ b → is_circular s ≡ c → step b ≡ step c → s ≡ r
unfolding step
step_same r s h false c e f same = known_is r s h e
step_same r s h true true e f same = circular_is s f ∙ sym (circular_is r e)
step_same r s h true false e f same = absurd (omega arith)

-- if this number doesn't increase at the next depth, no result changes
answered_same : (l : Linkage) (n m : ℕ) → answered l n m ≡ answered l (suc n) m → (x : ℕ) → x < m → exports_to_depth l (suc n) x ≡ exports_to_depth l n x
unfolding answered
answered_same l n zero e x lt = absurd (omega arith)
answered_same l n (suc m) e x lt =
    let rest = answered_grows l n m in
    let one = exports_step l n m in
    here (nat_lt x m) refl (answered_same l n m (omega arith))
    (step_same (exports_to_depth l n m) (exports_to_depth l (suc n) m) (exports_grow l n m) (is_circular (exports_to_depth l n m)) (is_circular (exports_to_depth l (suc n) m)) refl refl (omega arith))
  where
    here : (b : Bool) → nat_lt x m ≡ b → ((y : ℕ) → y < m → exports_to_depth l (suc n) y ≡ exports_to_depth l n y) → exports_to_depth l (suc n) m ≡ exports_to_depth l n m → exports_to_depth l (suc n) x ≡ exports_to_depth l n x
    here true e before last = before x (grind (arith, nat_tests))
    here false e before last = let is : x ≡ m = grind (arith, nat_tests) in subst (λ (y : ℕ). exports_to_depth l (suc n) y ≡ exports_to_depth l n y) (sym is) last

-- no result changes at the next depth
abbrev StandsStill : Linkage → ℕ → Type 0
StandsStill l n = (x : ℕ) → exports_to_depth l (suc n) x ≡ exports_to_depth l n x

none_past : {A : Type 0} (xs : List A) (i : ℕ) → length xs ≤ i → slice_get xs i ≡ None
none_past [] i le = refl
none_past (x ∷ xs) zero le = absurd (omega arith)
none_past (x ∷ xs) (suc i) le = none_past xs i (omega arith)

past : (l : Linkage) (n x : ℕ) → length l.exports ≤ x → exports_to_depth l (suc n) x ≡ Err Unresolved
past l n x le = ap (export_value l (exports_to_depth l n)) (none_past l.exports x le)

same_stands : (l : Linkage) (n : ℕ) → answered l (suc n) (length l.exports) ≡ answered l (suc (suc n)) (length l.exports) → StandsStill l (suc n)
same_stands l n e x = by (nat_lt x (length l.exports)) refl
  where
    by : (b : Bool) → nat_lt x (length l.exports) ≡ b → exports_to_depth l (suc (suc n)) x ≡ exports_to_depth l (suc n) x
    by true lt = answered_same l (suc n) (length l.exports) e x (grind (arith, nat_tests))
    by false le = let following : length l.exports ≤ x = grind (arith, nat_tests) in past l (suc n) x following ∙ sym (past l n x following)

search : (l : Linkage) (k : ℕ) → ((n : ℕ) × StandsStill l n) ⊎ (k ≤ answered l (suc k) (length l.exports))
search l zero = inr (omega arith)
search l (suc k) = by (search l k)
  where
    more : k ≤ answered l (suc k) (length l.exports) → (b : Bool) → nat_eq (answered l (suc k) (length l.exports)) (answered l (suc (suc k)) (length l.exports)) ≡ b → ((n : ℕ) × StandsStill l n) ⊎ (suc k ≤ answered l (suc (suc k)) (length l.exports))
    more le true e = let same : answered l (suc k) (length l.exports) ≡ answered l (suc (suc k)) (length l.exports) = grind (arith, nat_tests) in inl (suc k, same_stands l k same)
    more le false e = let other : answered l (suc k) (length l.exports) ≡ answered l (suc (suc k)) (length l.exports) → ⊥ = grind (arith, nat_tests) in inr (omega (arith, answered_grows l (suc k) (length l.exports), other))

    by : (((n : ℕ) × StandsStill l n) ⊎ (k ≤ answered l (suc k) (length l.exports))) → ((n : ℕ) × StandsStill l n) ⊎ (suc k ≤ answered l (suc (suc k)) (length l.exports))
    by (inl found) = inl found
    by (inr le) = more le (nat_eq (answered l (suc k) (length l.exports)) (answered l (suc (suc k)) (length l.exports))) refl

some_still : (l : Linkage) → (n : ℕ) × StandsStill l n
some_still l = by (search l (suc (length l.exports)))
  where
    by : (((n : ℕ) × StandsStill l n) ⊎ (suc (length l.exports) ≤ answered l (suc (suc (length l.exports))) (length l.exports))) → (n : ℕ) × StandsStill l n
    by (inl found) = found
    by (inr le) = absurd (omega (arith, answered_bound l (suc (suc (length l.exports))) (length l.exports)))

-- no result changes at any greater depth
still_on : (l : Linkage) (n : ℕ) → StandsStill l n → (k x : ℕ) → exports_to_depth l (k + n) x ≡ exports_to_depth l n x
still_on l n still zero x = let same : zero + n ≡ n = omega arith in ap (λ (m : ℕ). exports_to_depth l m x) same
still_on l n still (suc k) x =
    let same : suc k + n ≡ suc (k + n) = omega arith in
    let before : exports_to_depth l (k + n) ≡ exports_to_depth l n = λ i y. still_on l n still k y i in
    ap (λ (m : ℕ). exports_to_depth l m x) same ∙ ap (λ (e : Exports). export_value l e (slice_get l.exports x)) before ∙ still x

-- ---- A sequence that doesn't change from some index on converges to its value there.

settles_at : (at : ℕ → Answer) → Grows at → (n : ℕ) → ((k : ℕ) → at (k + n) ≡ at n) → ConvergesTo at (at n)
settles_at at g n still = by (at n) refl
  where
    by : (r : Answer) → at n ≡ r → ConvergesTo at r
    by (Err Circular) e = λ m. (let same : n + m ≡ m + n = omega arith in circular_before at g n m (ap at same ∙ still m ∙ e))
    by (Err NoValue) e = (n, e)
    by (Err Unresolved) e = (n, e)
    by (Ok v) e = (n, e)

export_settles : (l : Linkage) (n : ℕ) → StandsStill l n → (x : ℕ) → ConvergesTo (λ m. exports_to_depth l m x) (exports_to_depth l n x)
export_settles l n still x = settles_at (λ m. exports_to_depth l m x) (λ m. exports_grow l m x) n (λ k. still_on l n still k x)

pub some_value : LinkValueExists
some_value l owner f =
    let found = some_still l in
    let at : ℕ → Answer = λ m. value_of_form l (exports_to_depth l m) owner f in
    let same : (k : ℕ) → exports_to_depth l (k + found.0) ≡ exports_to_depth l found.0 = λ k i y. still_on l found.0 found.1 k y i in
    (at found.0, settles_at at (form_grows l owner f) found.0 (λ k. ap (λ (e : Exports). value_of_form l e owner f) (same k)))

some_table : (l : Linkage) → (table : List Answer) × AreExports l table
some_table l =
    let found = some_still l in
    let size = length l.exports in
    let table = map (exports_to_depth l found.0) (range_with_len 0 size) in (
      table,
      record {
        long = length-map-range_with_len (exports_to_depth l found.0) 0 size;
        each = λ x lt. subst (λ (r : Answer). ConvergesTo (λ m. exports_to_depth l m x) r) (sym (get_or-map-range_with_len (exports_to_depth l found.0) 0 size x x (Err Unresolved) lt (omega arith))) (export_settles l found.0 found.1 x);
      },
    )

-- ---- Files.

some_image : (size fill : ℕ) (pieces : List RowPiece) → (image : List ℕ) × IsImage size fill pieces image
some_image size fill pieces =
    let byte : ℕ → ℕ = λ i. image_byte pieces i fill in (
      map byte (range_with_len 0 size),
      record {
        size = length-map-range_with_len byte 0 size;
        bytes = λ i lt. get_or-map-range_with_len byte 0 size i i 0 lt (omega arith);
      },
    )

some_area : (unnamed : Bool) (name : List ℕ) (IsFile : List ℕ → Type 0) (before : List OutputFile) → (image : List ℕ) × IsFile image → (after : List OutputFile) × AddsArea unnamed name IsFile before after
some_area true name IsFile before x = (before, refl)
some_area false name IsFile before (image, is) = (with_bytes name image before, (image, is, refl))

some_areas : (output : List ℕ) (IsFile : ℕ → MemoryArea → List ℕ → Type 0) → ((k : ℕ) (a : MemoryArea) → (image : List ℕ) × IsFile k a image) → (areas : List MemoryArea) (k : ℕ) (before : List OutputFile) → (after : List OutputFile) × AddsAreas output IsFile k areas before after
some_areas output IsFile some [] k before = (before, refl)
some_areas output IsFile some (a ∷ rest) k before =
    let mid = some_area (length (file_name output a.file) == 0) (file_name output a.file) (IsFile k a) before (some k a) in
    let more = some_areas output IsFile some rest (k + 1) mid.0 in
    (more.0, (mid.0, mid.1, more.1))

pub some_files : FilesExist
some_files output s placement bytes = some_areas output (IsAreaFile s.rows placement bytes) (λ k a. some_image _ _ _) s.areas 0 []

-- ---- Errors other than *out of memory*.

once_own : (o : Option (List ℕ)) → Own is_system_error (none_duplicate o)
once_own None = good _
once_own (Some name) = bad _ refl

unresolved_own : (names : List (List ℕ)) → Own is_system_error (none_unresolved names)
unresolved_own [] = good _
unresolved_own (name ∷ names) = bad _ refl

placement_own : (r : Result Placement PlaceFault) → Own is_place_system_error r → Own is_system_error (as_placement r)
placement_own (Ok p) h = good p
placement_own (Err e) h = bad _ h.own

placed_own : (s : Script) (p : Program) → Own is_system_error (placement_result s p)
placed_own s p = next (check_imports_defined s p) _ (unresolved_own _) (λ u. placement_own (place_of s (needs_of p)) (place_own s (needs_of p)))

value_own : (s : ModuleLocation) (r : Result ℤ ValueFault) → Own is_system_error (located_value s r)
value_own s (Ok v) = good v
value_own s (Err Circular) = bad _ refl
value_own s (Err NoValue) = bad _ refl
value_own s (Err Unresolved) = bad _ refl

passes_own : {A : Type 0} (check : A → Result (Unit {0}) LinkFault) → ((x : A) → Own is_system_error (check x)) → (xs : List A) → Own is_system_error (check_each check xs)
passes_own check own [] = good _
passes_own check own (x ∷ xs) = next (check x) _ (own x) (λ u. passes_own check own xs)

module _ (l : Linkage) (members : List LinkedModule) (exports : Exports) where
  fixup_own : (w : ValueFixup) → Own is_system_error (check_fixup l members exports w)
  fixup_own w = next (located_value _ _) _ (value_own _ (value_of_form l exports w.owner w.form)) (λ v. choice (fits_width w.width v) _ _ (good _) (bad _ refl))

  export_own : (e : ModuleExport) → Own is_system_error (check_export l members exports e)
  export_own e = next (located_value _ _) _ (value_own _ (value_of_form l exports e.owner e.form)) (λ v. good _)

  result_own : (at : ModuleLocation) (action : Action) (text : List ℕ) (v : ℤ) → Own is_system_error (assertion_result at action text v)
  result_own at action.Warning text v = choice (int_eq v (pos 0)) _ _ (good _) (good _)
  result_own at action.Error text v = choice (int_eq v (pos 0)) _ _ (bad _ refl) (good _)

  assert_own : (a : ModuleAssertion) → Own is_system_error (check_assert l members exports a)
  assert_own a = next (located_value _ _) _ (value_own _ (value_of_form l exports a.owner a.form)) (λ v. result_own _ a.action a.text v)

  asserts_own : (asserts : List ModuleAssertion) → Own is_system_error (check_asserts l members exports asserts)
  asserts_own [] = good _
  asserts_own (a ∷ rest) = next (check_assert l members exports a) _ (assert_own a) (λ text. next (check_asserts l members exports rest) _ (asserts_own rest) (λ more. good _))

checked_own : (s : Script) (p : Program) (l : Linkage) (exports : Exports) → Own is_system_error (check_result s p l exports)
checked_own s p l exports =
    next (check_each (check_fixup l p.members exports) (fixups_by_row s.rows p.segments) >>= (λ u. check_each (check_export l p.members exports) p.exports)) _
    (next (check_each (check_fixup l p.members exports) (fixups_by_row s.rows p.segments)) _ (passes_own _ (fixup_own l p.members exports) (fixups_by_row s.rows p.segments)) (λ u. passes_own _ (export_own l p.members exports) p.exports))
    (λ u. asserts_own l p.members exports p.asserts)

-- ---- Outcomes.

some_imaged : (output : List ℕ) (s : Script) (p : Program) (placement : Placement) (l : Linkage) (exports : Exports) (warnings : List ℕ) → Has is_system_error (IsSuccessfulLink output s p placement l exports warnings)
some_imaged output s p placement l exports warnings =
    let made = some_files output s placement (row_bytes l exports p.segments) in
    (Ok (record { files = made.0; warnings = warnings_of_rows s.rows p.segments ++ warnings; map = map_text s p placement l exports }), (made.0, made.1, refl), good _)

some_placed : (output : List ℕ) (s : Script) (p : Program) (placement : Placement) → Has is_system_error (IsPlacedLink output s p placement)
some_placed output s p placement =
    let l = linkage_of s p placement in
    let made = some_table l in
    let end = first_own is_system_error (check_result s p l (table_exports made.0)) (IsSuccessfulLink output s p placement l (table_exports made.0)) (checked_own s p l (table_exports made.0)) (some_imaged output s p placement l (table_exports made.0)) in
    (end.0, (made.0, made.1, end.1), end.2)

some_program : (output : List ℕ) (s : Script) (p : Program) → Has is_system_error (IsProgramLink output s p)
some_program output s p = first_own is_system_error (placement_result s p) (IsPlacedLink output s p) (placed_own s p) (some_placed output s p)

pub some_outcome : LinkOutcomeExists
some_outcome output s modules =
    let r = first_own is_system_error (check_unique_names s (program_of modules)) (λ u. IsProgramLink output s (program_of modules)) (once_own _) (λ u. some_program output s (program_of modules)) in
    (r.0, r.1, (r.2).own)
