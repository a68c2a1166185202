-- The parts of a well-formed object are within their size limits.
use Rattle.std.proofs.lemmas.Grind.{common_steps}
use Rattle.std.proofs.Common.{◌≡◌, ℕ, List, [], ◌∷◌, length, map, Bool, true, false, ◌&&◌, not, nat_lt, arith, refl}
use Rattle.std.proofs.lemmas.Bool.Decides.{nat_tests}
use Rattle.std.specs.List.{list_all}
use Rattle.object65.specs.declared.object.Object.{Object}
use Rattle.object65.specs.declared.object.Section.{Section}
use Rattle.object65.specs.declared.object.Export.{Export}
use Rattle.object65.specs.declared.object.Assert.{Assert}
use Rattle.object65.specs.declared.object.Fragment.{Fragment}
use Rattle.object65.specs.Folding.{is_normal, has_valid_indices}
use Rattle.object65.specs.Form.{Form}
use Rattle.object65.specs.Objects.{is_file_name, is_name, is_printed, is_among, are_names, is_well_formed_form, is_well_formed_fragment, is_well_formed_section, is_well_formed_assert, is_well_formed_object, are_distinct, are_files_of, has_well_formed_origin, is_well_formed_origin}
use Rattle.object65.specs.Record.{is_version}
use Rattle.object65.specs.Small.{is_small_text, is_small_form, is_small_fragment, is_small_section, is_small_export, is_small_assert}

-- a conjunction implies each of its operands
pub left : (a b : Bool) → (a && b) ≡ true → a ≡ true
left true b e = refl
left false b e = cc

pub right : (a b : Bool) → (a && b) ≡ true → b ≡ true
right true b e = e
right false b e = cc

pub and : (a b : Bool) → a ≡ true → b ≡ true → (a && b) ≡ true
and true b p q = q
and false b p q = cc

-- a predicate that follows for each item follows for all
pub all_weaker : {X : Type 0} (p q : X → Bool) (xs : List X) → ((x : X) → p x ≡ true → q x ≡ true) → list_all p xs ≡ true → list_all q xs ≡ true
all_weaker p q [] h e = refl
all_weaker p q (x ∷ xs) h e = and (q x) (list_all q xs) (h x (left (p x) (list_all p xs) e)) (all_weaker p q xs h (right (p x) (list_all p xs) e))

pub name_short : (name : List ℕ) → is_name name ≡ true → is_small_text name ≡ true
name_short name e = right (nat_lt 0 (length name)) (is_small_text name) (left (nat_lt 0 (length name) && is_small_text name) (list_all is_printed name) e)

first_name : (name : List ℕ) (names : List (List ℕ)) → are_names (name ∷ names) ≡ true → is_small_text name ≡ true
first_name name names e = name_short name (left (is_name name) (not (is_among names name)) (left (is_name name && not (is_among names name)) (are_names names) e))

other_names : (name : List ℕ) (names : List (List ℕ)) → are_names (name ∷ names) ≡ true → are_names names ≡ true
other_names name names e = right (is_name name && not (is_among names name)) (are_names names) e

pub small_names : (names : List (List ℕ)) → are_names names ≡ true → list_all is_small_text names ≡ true
small_names [] e = refl
small_names (name ∷ names) e = and (is_small_text name) (list_all is_small_text names) (first_name name names e) (small_names names (other_names name names e))

good_form_small : (s i : ℕ) (f : Form) → is_well_formed_form s i f ≡ true → is_small_form f ≡ true
good_form_small s i f e = right (has_valid_indices s i f && is_normal f) (is_small_form f) e

good_fragment_small : (s i : ℕ) (f : Fragment) → is_well_formed_fragment s i f ≡ true → is_small_fragment f ≡ true
good_fragment_small s i x e = grind (arith, common_steps, good_form_small, left)

good_section_small : (s i : ℕ) (x : Section) → is_small_text x.name ≡ true → is_well_formed_section s i x ≡ true → is_small_section x ≡ true
good_section_small s i x name e = grind (arith, common_steps, left, right, and, all_weaker, good_fragment_small)

small_sections : (s i : ℕ) (xs : List Section) → are_names (map (λ x. x.name) xs) ≡ true → list_all (is_well_formed_section s i) xs ≡ true → list_all is_small_section xs ≡ true
small_sections s i [] names e = refl
small_sections s i (x ∷ xs) names e =
    and (is_small_section x) (list_all is_small_section xs)
    (good_section_small s i x (first_name x.name (map (λ y. y.name) xs) names) (left (is_well_formed_section s i x) (list_all (is_well_formed_section s i) xs) e))
    (small_sections s i xs (other_names x.name (map (λ y. y.name) xs) names) (right (is_well_formed_section s i x) (list_all (is_well_formed_section s i) xs) e))

small_exports : (s i : ℕ) (xs : List Export) → are_names (map (λ x. x.name) xs) ≡ true → list_all (λ x. is_well_formed_form s i x.form) xs ≡ true → list_all is_small_export xs ≡ true
small_exports s i [] names e = refl
small_exports s i (x ∷ xs) names e =
    let rest = λ (y : Export). is_well_formed_form s i y.form in
    and (is_small_export x) (list_all is_small_export xs)
    (and (is_small_text x.name) (is_small_form x.form) (first_name x.name (map (λ y. y.name) xs) names) (good_form_small s i x.form (left (is_well_formed_form s i x.form) (list_all rest xs) e)))
    (small_exports s i xs (other_names x.name (map (λ y. y.name) xs) names) (right (is_well_formed_form s i x.form) (list_all rest xs) e))

good_assert_small : (s i : ℕ) (a : Assert) → is_well_formed_assert s i a ≡ true → is_small_assert a ≡ true
good_assert_small s i a e = grind (arith, common_steps, left, and, good_form_small, right)

-- the parts of well-formedness
pub record Parts (o : Object) : Type 0 where
  pub version : is_version o.version ≡ true
  pub files : are_files_of o.version o.files ≡ true
  pub values : list_all (λ s. list_all (has_well_formed_origin o.version (length o.files)) s.fragments) o.sections ≡ true
  pub export_origins : list_all (λ e. is_well_formed_origin o.version (length o.files) e.origin) o.exports ≡ true
  pub assert_origins : list_all (λ a. is_well_formed_origin o.version (length o.files) a.origin) o.asserts ≡ true
  pub imports : are_names o.imports ≡ true
  pub section_names : are_names (map (λ s. s.name) o.sections) ≡ true
  pub export_names : are_names (map (λ e. e.name) o.exports) ≡ true
  pub sections : list_all (is_well_formed_section (length o.sections) (length o.imports)) o.sections ≡ true
  pub exports : list_all (λ e. is_well_formed_form (length o.sections) (length o.imports) e.form) o.exports ≡ true
  pub asserts : list_all (is_well_formed_assert (length o.sections) (length o.imports)) o.asserts ≡ true

pub parts : (o : Object) → is_well_formed_object o ≡ true → Parts o
parts o e = grind (arith, common_steps)

pub small_names_of : (names : List (List ℕ)) → are_distinct is_file_name names ≡ true → list_all is_file_name names ≡ true
small_names_of [] e = refl
small_names_of (name ∷ names) e =
    let front = left (is_file_name name && not (is_among names name)) (are_distinct is_file_name names) e in
    and (is_file_name name) (list_all is_file_name names) (left (is_file_name name) (not (is_among names name)) front) (small_names_of names (right (is_file_name name && not (is_among names name)) (are_distinct is_file_name names) e))

pub small_files : (version : ℕ) (files : List (List ℕ)) → are_files_of version files ≡ true → list_all is_file_name files ≡ true
small_files version files e = grind (arith, common_steps, nat_tests, small_names_of)

pub good_files : (o : Object) → is_well_formed_object o ≡ true → list_all is_file_name o.files ≡ true
good_files o e = small_files o.version o.files (parts o e).files

pub good_imports : (o : Object) → is_well_formed_object o ≡ true → list_all is_small_text o.imports ≡ true
good_imports o e = small_names o.imports (parts o e).imports

pub good_sections : (o : Object) → is_well_formed_object o ≡ true → list_all is_small_section o.sections ≡ true
good_sections o e = small_sections (length o.sections) (length o.imports) o.sections (parts o e).section_names (parts o e).sections

pub good_exports : (o : Object) → is_well_formed_object o ≡ true → list_all is_small_export o.exports ≡ true
good_exports o e = small_exports (length o.sections) (length o.imports) o.exports (parts o e).export_names (parts o e).exports

pub good_asserts : (o : Object) → is_well_formed_object o ≡ true → list_all is_small_assert o.asserts ≡ true
good_asserts o e = all_weaker (is_well_formed_assert (length o.sections) (length o.imports)) is_small_assert o.asserts (good_assert_small (length o.sections) (length o.imports)) (parts o e).asserts
