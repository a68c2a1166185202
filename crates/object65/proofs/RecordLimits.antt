-- The records of an object are of known kinds, and no body is too long.
use Rattle.std.proofs.lemmas.Grind.{common_steps}
use Rattle.std.proofs.Common.{◌≡◌, ℕ, zero, suc, ◌+◌, ◌/◌, ◌≤◌, List, [], ◌∷◌, ◌++◌, length, drop, map, Bool, true, false, not, ◌&&◌, ◌==◌, if◌then◌else◌, refl, ap, arith, length-append}
use Rattle.std.proofs.lemmas.List.{length-take}
use Rattle.std.specs.List.{flat_map, list_all, AllByRecursion}
use Rattle.byteorder.specs.Numbers.{length-bytes_low_first}
use Rattle.object65.specs.declared.object.Assert.{Assert}
use Rattle.object65.specs.declared.object.Export.{Export}
use Rattle.object65.specs.declared.object.Fragment.{Fragment}
use Rattle.object65.specs.declared.object.Fragment.TheVariants.{Literal, Fill, Value}
use Rattle.object65.specs.declared.object.Object.{Object}
use Rattle.object65.specs.declared.object.Section.{Section}
use Rattle.object65.specs.Objects.{are_distinct, is_file_name, are_files_of, is_well_formed_object, section_len, section_limit}
use Rattle.object65.specs.Record.{RawRecord, is_record_kind}
use Rattle.object65.specs.Small.{is_small_text, is_small_fragment, is_small_section, is_small_export, is_small_assert}
use Rattle.object65.specs.Spelling.{object_records, file_record, import_record, origin_bytes, section_record, fragment_records, literal_record, export_record, assert_record, end_record, pieces, form_bytes, body_limit}
use Rattle.object65.proofs.Forms.{origin_len, small_text, small_form, small_export, small_assert}
use Rattle.object65.proofs.SmallParts.{left, right, parts, small_names_of, good_imports, good_sections, good_exports, good_asserts}
use Rattle.std.specs.Prelude.{nat_le}
use Rattle.std.proofs.lemmas.Bool.Decides.{nat_tests}

-- a record that an object of this version may have
abbrev pub IsShortEntry : ℕ → RawRecord → Type 0
IsShortEntry v e = (is_record_kind v e.kind ≡ true) × (length e.body ≤ body_limit)

both_all : {X : Type 0} (P : X → Type 0) (xs ys : List X) → AllByRecursion P xs → AllByRecursion P ys → AllByRecursion P (xs ++ ys)
both_all P [] ys a b = b
both_all P (x ∷ xs) ys a b = (a.0, both_all P xs ys a.1 b)

-- the records of a list of small items
all_short : (v : ℕ) {X : Type 0} (small : X → Bool) (f : X → RawRecord) (xs : List X) → ((x : X) → small x ≡ true → IsShortEntry v (f x)) → list_all small xs ≡ true → AllByRecursion (IsShortEntry v) (map f xs)
all_short v small f [] h e = tt
all_short v small f (x ∷ xs) h e = (h x (left (small x) (list_all small xs) e), all_short v small f xs h (right (small x) (list_all small xs) e))

import_short : (v : ℕ) (name : List ℕ) → is_small_text name ≡ true → IsShortEntry v (import_record name)
import_short v name small = (refl, omega (arith, small_text name small))

section_short : (v : ℕ) (s : Section) → is_small_section s ≡ true → IsShortEntry v (section_record s)
section_short v s small = grind (arith, common_steps)

export_short : (v : ℕ) (x : Export) → is_small_export x ≡ true → IsShortEntry v (export_record x)
export_short v x small = grind (arith, common_steps, parts, small_export, length-append, origin_len)

assert_short : (v : ℕ) (x : Assert) → is_small_assert x ≡ true → IsShortEntry v (assert_record x)
assert_short v x small = grind (arith, common_steps, parts, small_assert, length-append, origin_len)

pieces_short : (v : ℕ) (n : ℕ) (bytes : List ℕ) → AllByRecursion (IsShortEntry v) (map literal_record (pieces n bytes))
pieces_short v zero bytes = tt
pieces_short v (suc n) bytes = ((refl, omega (arith, length-take body_limit bytes)), pieces_short v n (drop body_limit bytes))

fragment_short : (v : ℕ) (f : Fragment) → is_small_fragment f ≡ true → AllByRecursion (IsShortEntry v) (fragment_records f)
fragment_short v (Literal bytes) small = pieces_short v ((length bytes + 4095) / body_limit) bytes
fragment_short v (Fill n) small = ((refl, omega (arith, length-bytes_low_first 0 4 n)), tt)
fragment_short v (Value width origin form) small = ((refl, omega (arith, length-append (origin_bytes origin) (form_bytes form), origin_len origin, small_form form small)), tt)

fragments_short : (v : ℕ) (fs : List Fragment) → list_all is_small_fragment fs ≡ true → AllByRecursion (IsShortEntry v) (flat_map fragment_records fs)
fragments_short v [] small = tt
fragments_short v (f ∷ fs) small = both_all (IsShortEntry v) (fragment_records f) (flat_map fragment_records fs) (fragment_short v f (left (is_small_fragment f) (list_all is_small_fragment fs) small)) (fragments_short v fs (right (is_small_fragment f) (list_all is_small_fragment fs) small))

contents_short : (v : ℕ) (ss : List Section) → list_all is_small_section ss ≡ true → AllByRecursion (IsShortEntry v) (flat_map (λ (s : Section). flat_map fragment_records s.fragments) ss)
contents_short v [] small = tt
contents_short v (s ∷ ss) small =
    let one = left (is_small_section s) (list_all is_small_section ss) small in
    both_all (IsShortEntry v) (flat_map fragment_records s.fragments) (flat_map (λ (x : Section). flat_map fragment_records x.fragments) ss)
    (fragments_short v s.fragments (right (is_small_text s.name && nat_le (section_len s) section_limit) (list_all is_small_fragment s.fragments) one))
    (contents_short v ss (right (is_small_section s) (list_all is_small_section ss) small))

-- version 1 has no files
files_short : (v : ℕ) (files : List (List ℕ)) → are_files_of v files ≡ true → AllByRecursion (IsShortEntry v) (map file_record files)
files_short v files good = go (v == 1) refl files good where
  go : (b : Bool) → (v == 1) ≡ b → (files : List (List ℕ)) → (if b then length files == 0 else are_distinct is_file_name files) ≡ true → AllByRecursion (IsShortEntry v) (map file_record files)
  go true is [] e = tt
  go true is (name ∷ files) e = let some : (length (name ∷ files) == 0) ≡ false = grind (arith, nat_tests) in cc
  go false is files e = all_short v is_file_name file_record files (λ name small. (ap (λ b. not b && true) is, (let t = small in grind (arith, nat_tests)))) (small_names_of files e)

pub short_entries : (o : Object) → is_well_formed_object o ≡ true → AllByRecursion (IsShortEntry o.version) (object_records o)
short_entries o good =
    let v = o.version in
    let z = map file_record o.files in
    let a = map import_record o.imports in
    let b = map section_record o.sections in
    let c = flat_map (λ (s : Section). flat_map fragment_records s.fragments) o.sections in
    let d = map export_record o.exports in
    let f = map assert_record o.asserts in
    both_all (IsShortEntry v) z (((((a ++ b) ++ c) ++ d) ++ f) ++ end_record ∷ [])
    (files_short v o.files (parts o good).files)
    (both_all (IsShortEntry v) ((((a ++ b) ++ c) ++ d) ++ f) (end_record ∷ [])
    (both_all (IsShortEntry v) (((a ++ b) ++ c) ++ d) f
    (both_all (IsShortEntry v) ((a ++ b) ++ c) d
    (both_all (IsShortEntry v) (a ++ b) c
    (both_all (IsShortEntry v) a b (all_short v is_small_text import_record o.imports (import_short v) (good_imports o good)) (all_short v is_small_section section_record o.sections (section_short v) (good_sections o good)))
    (contents_short v o.sections (good_sections o good)))
    (all_short v is_small_export export_record o.exports (export_short v) (good_exports o good)))
    (all_short v is_small_assert assert_record o.asserts (assert_short v) (good_asserts o good)))
    ((refl, omega arith), tt))
