-- Version 1 of a well-formed object is well-formed.
use Rattle.std.proofs.lemmas.Grind.{common_steps}
use Rattle.std.proofs.Common.{arith, ◌≡◌, ℕ, ◌+◌, List, [], ◌∷◌, length, map, Bool, true, ◌&&◌, not, refl, sym, ◌∙◌, ap}
use Rattle.std.specs.Prelude.{sum_by}
use Rattle.std.specs.List.{list_all, AllByRecursion}
use Rattle.std.proofs.lemmas.List.{length-map}
use Rattle.std.proofs.lemmas.List.Sums.{sum_by-cons}
use Rattle.object65.specs.declared.object.Object.{Object}
use Rattle.object65.specs.declared.object.Section.{Section}
use Rattle.object65.specs.declared.object.Export.{Export}
use Rattle.object65.specs.declared.object.Assert.{Assert}
use Rattle.object65.specs.declared.object.Fragment.{Fragment}
use Rattle.object65.specs.Laws.{VersionOneIsWellFormed}
use Rattle.object65.specs.Objects.{FragmentFits, FitsBits, ObjectFits, OriginFits, are_all_merged, are_names, fragment_len, has_well_formed_origin, has_well_formed_parts, is_well_formed_assert, is_well_formed_form, is_well_formed_fragment, is_well_formed_object, is_well_formed_origin, is_well_formed_section, can_merge}
use Rattle.object65.specs.Versions.{version_one_assert, version_one_export, version_one_fragment, version_one_object, version_one_section}
use Rattle.object65.proofs.SmallParts.{Parts, and, parts}

-- ---- Properties that a map preserves.

all_mapped : {X Y : Type 0} (p : X → Bool) (q : Y → Bool) (f : X → Y) (xs : List X) → ((x : X) → q (f x) ≡ p x) → list_all q (map f xs) ≡ list_all p xs
all_mapped p q f [] h = refl
all_mapped p q f (x ∷ xs) h = ap (λ b. b && list_all q (map f xs)) (h x) ∙ ap (λ b. p x && b) (all_mapped p q f xs h)

all_kept : {X Y : Type 0} (q : Y → Bool) (f : X → Y) (xs : List X) → ((x : X) → q (f x) ≡ true) → list_all q (map f xs) ≡ true
all_kept q f [] h = refl
all_kept q f (x ∷ xs) h = and (q (f x)) (list_all q (map f xs)) (h x) (all_kept q f xs h)

each_mapped : {X Y : Type 0} (P : X → Type 0) (Q : Y → Type 0) (f : X → Y) (xs : List X) → ((x : X) → P x → Q (f x)) → AllByRecursion P xs → AllByRecursion Q (map f xs)
each_mapped P Q f [] h a = tt
each_mapped P Q f (x ∷ xs) h a = (h x a.0, each_mapped P Q f xs h a.1)

same_maps : {X Y Z : Type 0} (g : Y → Z) (k : X → Z) (f : X → Y) (xs : List X) → ((x : X) → g (f x) ≡ k x) → map g (map f xs) ≡ map k xs
same_maps g k f [] h = refl
same_maps g k f (x ∷ xs) h = ap (λ z. z ∷ map g (map f xs)) (h x) ∙ ap (λ zs. k x ∷ zs) (same_maps g k f xs h)

-- ---- Fragments.

same_len : (f : Fragment) → fragment_len (version_one_fragment f) ≡ fragment_len f
same_len x = grind (arith, common_steps)

same_fragment : (s i : ℕ) (f : Fragment) → is_well_formed_fragment s i (version_one_fragment f) ≡ is_well_formed_fragment s i f
same_fragment s i x = grind (arith, common_steps)

same_joins : (f g : Fragment) → can_merge (version_one_fragment f) (version_one_fragment g) ≡ can_merge f g
same_joins x y = grind (arith, common_steps)

same_apart : (fs : List Fragment) → are_all_merged (map version_one_fragment fs) ≡ are_all_merged fs
same_apart [] = refl
same_apart (f ∷ []) = refl
same_apart (f ∷ g ∷ fs) =
    ap (λ b. not b && are_all_merged (map version_one_fragment (g ∷ fs))) (same_joins f g)
    ∙ ap (λ b. not (can_merge f g) && b) (same_apart (g ∷ fs))

-- version 1 has no files, and no value has a file
one_origin : (f : Fragment) → has_well_formed_origin 1 0 (version_one_fragment f) ≡ true
one_origin x = grind (arith, common_steps)

one_fits : (f : Fragment) → FragmentFits f → FragmentFits (version_one_fragment f)
one_fits x h = grind (arith, common_steps)

-- ---- Sections.

same_sum : (fs : List Fragment) → sum_by fragment_len (map version_one_fragment fs) ≡ sum_by fragment_len fs
same_sum [] = refl
same_sum (f ∷ fs) =
    sum_by-cons fragment_len (version_one_fragment f) (map version_one_fragment fs)
    ∙ ap (λ n. n + sum_by fragment_len (map version_one_fragment fs)) (same_len f)
    ∙ ap (λ n. fragment_len f + n) (same_sum fs)
    ∙ sym (sum_by-cons fragment_len f fs)

same_section : (s i : ℕ) (x : Section) → is_well_formed_section s i (version_one_section x) ≡ is_well_formed_section s i x
same_section s i x = grind (arith, common_steps, same_sum, all_mapped, same_fragment, same_apart)

-- ---- Objects.

good_parts_in_one : (o : Object) → Parts o → has_well_formed_parts (version_one_object o) ≡ true
good_parts_in_one o h =
    let s : ℕ = length o.sections in
    let i : ℕ = length o.imports in
    let lengths : length (map version_one_section o.sections) ≡ s = length-map o.sections version_one_section in
    let a = are_names o.imports in
    let b = are_names (map (λ (x : Section). x.name) (map version_one_section o.sections)) in
    let c = are_names (map (λ (e : Export). e.name) (map version_one_export o.exports)) in
    let sections : ℕ → Bool = λ n. list_all (is_well_formed_section n i) (map version_one_section o.sections) in
    let exports : ℕ → Bool = λ n. list_all (λ (e : Export). is_well_formed_form n i e.form) (map version_one_export o.exports) in
    let asserts : ℕ → Bool = λ n. list_all (is_well_formed_assert n i) (map version_one_assert o.asserts) in
    let section_names : b ≡ true = ap are_names (same_maps (λ (x : Section). x.name) (λ (x : Section). x.name) version_one_section o.sections (λ x. refl)) ∙ h.section_names in
    let export_names : c ≡ true = ap are_names (same_maps (λ (e : Export). e.name) (λ (e : Export). e.name) version_one_export o.exports (λ e. refl)) ∙ h.export_names in
    let good_sections : sections s ≡ true = all_mapped (is_well_formed_section s i) (is_well_formed_section s i) version_one_section o.sections (same_section s i) ∙ h.sections in
    let good_exports : exports s ≡ true = all_mapped (λ (e : Export). is_well_formed_form s i e.form) (λ (e : Export). is_well_formed_form s i e.form) version_one_export o.exports (λ e. refl) ∙ h.exports in
    let good_asserts : asserts s ≡ true = all_mapped (is_well_formed_assert s i) (is_well_formed_assert s i) version_one_assert o.asserts (λ x. refl) ∙ h.asserts in
    let front = and a b h.imports section_names in
    let names = and (a && b) c front export_names in
    ap (λ n. a && b && c && sections n && exports n && asserts n) lengths
    ∙ and (a && b && c && sections s && exports s) (asserts s) (and (a && b && c && sections s) (exports s) (and (a && b && c) (sections s) names good_sections) good_exports) good_asserts

good_in_one : (o : Object) → is_well_formed_object o ≡ true → is_well_formed_object (version_one_object o) ≡ true
good_in_one o e =
    let values = list_all (λ (s : Section). list_all (has_well_formed_origin 1 0) s.fragments) (map version_one_section o.sections) in
    let exports = list_all (λ (x : Export). is_well_formed_origin 1 0 x.origin) (map version_one_export o.exports) in
    let asked = list_all (λ (x : Assert). is_well_formed_origin 1 0 x.origin) (map version_one_assert o.asserts) in
    let good_values : values ≡ true = all_kept (λ (s : Section). list_all (has_well_formed_origin 1 0) s.fragments) version_one_section o.sections (λ s. all_kept (has_well_formed_origin 1 0) version_one_fragment s.fragments one_origin) in
    let good_exports : exports ≡ true = all_kept (λ (x : Export). is_well_formed_origin 1 0 x.origin) version_one_export o.exports (λ x. refl) in
    let good_asked : asked ≡ true = all_kept (λ (x : Assert). is_well_formed_origin 1 0 x.origin) version_one_assert o.asserts (λ x. refl) in
    let origins = and (values && exports) asked (and values exports good_values good_exports) good_asked in
    and (values && exports && asked) (has_well_formed_parts (version_one_object o)) origins (good_parts_in_one o (parts o e))

fits_in_one : (o : Object) → ObjectFits o → ObjectFits (version_one_object o)
fits_in_one o h = record {
  files = tt;
  sections = each_mapped (λ (s : Section). AllByRecursion FragmentFits s.fragments) (λ (s : Section). AllByRecursion FragmentFits s.fragments) version_one_section o.sections (λ s a. each_mapped FragmentFits FragmentFits version_one_fragment s.fragments one_fits a) h.sections;
  exports = each_mapped (λ (e : Export). OriginFits e.origin × FitsBits e.form) (λ (e : Export). OriginFits e.origin × FitsBits e.form) version_one_export o.exports (λ e a. ((tt, a.0.1), a.1)) h.exports;
  asserts = each_mapped (λ (x : Assert). OriginFits x.origin × FitsBits x.form) (λ (x : Assert). OriginFits x.origin × FitsBits x.form) version_one_assert o.asserts (λ x a. ((tt, a.0.1), a.1)) h.asserts;
}

pub version_law : VersionOneIsWellFormed
version_law o = (good_in_one o, fits_in_one o)
