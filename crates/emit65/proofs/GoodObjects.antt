-- The object of well-formed contents is well-formed.
use borrow.Author.Rules.{rules}
use Rattle.std.proofs.Common.{◌≡◌, ◌∙◌, ℕ, ◌<◌, Bool, true, not, ◌&&◌, nat_eq, nat_lt, cond, List, [], ◌∷◌, ◌++◌, length, map, Some, None, refl, sym, ap, subst, arith}
use Rattle.std.specs.Prelude.{filter_map}
use Rattle.std.specs.List.{AllByRecursion, IsDistinct, flat_map, list_all}
use Rattle.std.proofs.lemmas.Bool.Decides.{nat_tests}
use Rattle.std.proofs.lemmas.Grind.{common_steps, flat_map-append}
use Rattle.std.proofs.lemmas.List.Folds.{list_all-append}
use Rattle.object65.specs.declared.object.Assert.{Assert}
use Rattle.object65.specs.declared.object.Export.{Export}
use Rattle.object65.specs.declared.object.Origin.{Origin}
use Rattle.object65.specs.declared.object.Section.{Section}
use Rattle.syntax65.specs.declared.source_location.SourceLocation.{SourceLocation}
use Rattle.object65.specs.Folding.{is_literal}
use Rattle.object65.specs.Objects.{are_names, has_well_formed_parts, is_well_formed_assert, is_well_formed_form, is_well_formed_object, is_well_formed_section}
use Rattle.semantics65.specs.Contents.{Content, Part, Declaration, ExportedSymbol, ForcedImport, LinkAssertion}
use Rattle.semantics65.specs.declared.contents.Segment.{Segment}
use Rattle.semantics65.specs.Numbering.{all_declarations, assert_of, content_imports, export_of, files_of, import_keys, origin_in_files, imports_in, key_of, name_of, renumbered_form, object_with, optional_key, part_imports, declaration_imports, section_keys, section_of, segment_requests, AreWellFormedContents, IsWellFormedContent, IsWellFormedPart, IsWellFormedDeclaration}
use Rattle.emit65.proofs.ConcatenatedItems.{all_more}
use Rattle.emit65.proofs.GoodFiles.{files_good, origins_good}
use Rattle.emit65.proofs.GoodNames.{names_at, segment_named}
use Rattle.semantics65.proofs.SlotResolution.{exports_named}
use Rattle.emit65.proofs.GoodSections.{parts_in_good, section_good}
use Rattle.ast65.proofs.Lists.{map_length}
use Rattle.object65.proofs.SmallParts.{left, right, and}
use Rattle.emit65.proofs.Renumbering.{HasAll, has, first_has, second_has, good_form, once_all, once_distinct, once_has, same_literal}

-- ---- Keys of imports and sections.

abbrev AllBelow : ℕ → List ℕ → Type 0
AllBelow n ks = list_all (λ k. nat_lt k n) ks ≡ true

below_each : (n : ℕ) (ks : List ℕ) → AllBelow n ks → AllByRecursion (λ k. k < n) ks
below_each n [] h = tt
below_each n (k ∷ ks) h =
    let yes : nat_lt k n ≡ true = left (nat_lt k n) (list_all (λ k. nat_lt k n) ks) h in
    ((grind (arith, nat_tests)), below_each n ks (right (nat_lt k n) (list_all (λ k. nat_lt k n) ks) h))

below_both : (n : ℕ) (a b : List ℕ) → AllBelow n a → AllBelow n b → AllBelow n (a ++ b)
below_both n a b h g = list_all-append (λ k. nat_lt k n) a b ∙ and (list_all (λ k. nat_lt k n) a) (list_all (λ k. nat_lt k n) b) h g

place_below : (n : ℕ) (length : ℕ) → AllBelow length (optional_key (cond (nat_lt n length) (Some n) None))
place_below n length = grind (arith, common_steps)

module _ (requested : List ℕ) (names : List (List ℕ)) where
  parts_below : (ps : List Part) → AllByRecursion (IsWellFormedPart requested (length names)) ps → AllBelow (length names) (flat_map part_imports ps)
  parts_below [] sound = refl
  parts_below (x ∷ ps) sound = grind (arith, common_steps, (parts_below ps sound.1), below_both)

  said_below : (ss : List Declaration) → AllByRecursion (IsWellFormedDeclaration requested (length names)) ss → AllBelow (length names) (flat_map (declaration_imports names) ss)
  said_below [] sound = refl
  said_below (x ∷ ss) sound = grind (arith, common_steps, (said_below ss sound.1), below_both, place_below)

  contents_below : (cs : List Content) → AllByRecursion (IsWellFormedContent requested (length names)) cs → AllBelow (length names) (flat_map (content_imports names) cs)
  contents_below [] sound = refl
  contents_below (c ∷ cs) sound = grind (arith, common_steps, (contents_below cs sound.1), below_both, parts_below, said_below)

asked_below : (n : ℕ) (cs : List Content) → AllByRecursion (λ c. c.segment < n) cs → AllByRecursion (λ k. k < n) (segment_requests cs)
asked_below n [] h = tt
asked_below n (c ∷ cs) h = grind (arith, common_steps, (asked_below n cs h.1))

-- ---- Declarations.

module _ (at : SourceLocation → Origin) (s i : List ℕ) (names : List (List ℕ)) where
  said_sound : (count : ℕ) (cs : List Content) → AllByRecursion (IsWellFormedContent s count) cs → AllByRecursion (IsWellFormedDeclaration s count) (all_declarations cs)
  said_sound count [] sound = tt
  said_sound count (c ∷ cs) sound = all_more (IsWellFormedDeclaration s count) c.said (all_declarations cs) sound.0.said (said_sound count cs sound.1)

  has_both : (a b : List ℕ) → HasAll i a → HasAll i b → HasAll i (a ++ b)
  has_both a b h g = list_all-append (has i) a b ∙ and (list_all (has i) a) (list_all (has i) b) h g

  has_parts : (xs ys : List Declaration) → HasAll i (flat_map (declaration_imports names) xs) → HasAll i (flat_map (declaration_imports names) ys) → HasAll i (flat_map (declaration_imports names) (xs ++ ys))
  has_parts xs ys h g = subst (HasAll i) (sym (flat_map-append (declaration_imports names) xs ys)) (has_both (flat_map (declaration_imports names) xs) (flat_map (declaration_imports names) ys) h g)

  said_has : (cs : List Content) → HasAll i (flat_map (content_imports names) cs) → HasAll i (flat_map (declaration_imports names) (all_declarations cs))
  said_has [] h = refl
  said_has (c ∷ cs) h = grind (arith, common_steps, (said_has cs (second_has i (content_imports names c) (flat_map (content_imports names) cs) h)), has_parts, second_has, first_has)

  abbrev is_good_export : Export → Bool
  is_good_export e = is_well_formed_form (length s) (length i) e.form

  exports_good : (count : ℕ) (ss : List Declaration) → AllByRecursion (IsWellFormedDeclaration s count) ss → HasAll i (flat_map (declaration_imports names) ss) → list_all is_good_export (filter_map (export_of at s i) ss) ≡ true
  exports_good count [] sound g = refl
  exports_good count (ForcedImport n ∷ ss) sound g = exports_good count ss sound.1 (second_has i (optional_key (key_of names n)) (flat_map (declaration_imports names) ss) g)
  exports_good count (LinkAssertion act line message f ∷ ss) sound g = exports_good count ss sound.1 (second_has i (imports_in f) (flat_map (declaration_imports names) ss) g)
  exports_good count (ExportedSymbol n line f ∷ ss) sound g =
      and (is_well_formed_form (length s) (length i) (renumbered_form s i f)) (list_all is_good_export (filter_map (export_of at s i) ss))
      (good_form s i count f sound.0.1.form (first_has i (imports_in f) (flat_map (declaration_imports names) ss) g))
      (exports_good count ss sound.1 (second_has i (imports_in f) (flat_map (declaration_imports names) ss) g))

  asserts_good : (count : ℕ) (ss : List Declaration) → AllByRecursion (IsWellFormedDeclaration s count) ss → HasAll i (flat_map (declaration_imports names) ss) → list_all (is_well_formed_assert (length s) (length i)) (filter_map (assert_of at s i) ss) ≡ true
  asserts_good count [] sound g = refl
  asserts_good count (ExportedSymbol n line f ∷ ss) sound g = asserts_good count ss sound.1 (second_has i (imports_in f) (flat_map (declaration_imports names) ss) g)
  asserts_good count (ForcedImport n ∷ ss) sound g = asserts_good count ss sound.1 (second_has i (optional_key (key_of names n)) (flat_map (declaration_imports names) ss) g)
  asserts_good count (LinkAssertion act line message f ∷ ss) sound g =
      and (nat_lt (length message) 256 && is_well_formed_form (length s) (length i) (renumbered_form s i f) && not (is_literal (renumbered_form s i f))) (list_all (is_well_formed_assert (length s) (length i)) (filter_map (assert_of at s i) ss))
      (and (nat_lt (length message) 256 && is_well_formed_form (length s) (length i) (renumbered_form s i f)) (not (is_literal (renumbered_form s i f)))
      (and (nat_lt (length message) 256) (is_well_formed_form (length s) (length i) (renumbered_form s i f)) short good)
      (ap not (same_literal s i f ∙ sound.0.2)))
      (asserts_good count ss sound.1 (second_has i (imports_in f) (flat_map (declaration_imports names) ss) g))
    where
      short : nat_lt (length message) 256 ≡ true
      short = (let few : length message < 256 = sound.0.0 in grind (arith, nat_tests))

      good : is_well_formed_form (length s) (length i) (renumbered_form s i f) ≡ true
      good = good_form s i count f sound.0.1.form (first_has i (imports_in f) (flat_map (declaration_imports names) ss) g)

-- ---- The object.

sections_good : (at : SourceLocation → Origin) (segments : List Segment) (s i : List ℕ) (cs : List Content) (keys : List ℕ) → ((g : ℕ) → is_well_formed_section (length s) (length i) (section_of at segments s i cs g) ≡ true) → list_all (is_well_formed_section (length s) (length i)) (map (section_of at segments s i cs) keys) ≡ true
sections_good at segments s i cs [] h = refl
sections_good at segments s i cs (k ∷ keys) h = and (is_well_formed_section (length s) (length i) (section_of at segments s i cs k)) (list_all (is_well_formed_section (length s) (length i)) (map (section_of at segments s i cs) keys)) (h k) (sections_good at segments s i cs keys h)

sections_named : (at : SourceLocation → Origin) (segments : List Segment) (s i : List ℕ) (cs : List Content) (keys : List ℕ) → map (λ (x : Section). x.name) (map (section_of at segments s i cs) keys) ≡ map (name_of (map (λ g. g.name) segments)) keys
sections_named at segments s i cs [] = refl
sections_named at segments s i cs (k ∷ keys) = λ j. segment_named segments k j ∷ sections_named at segments s i cs keys j

none_twice : IsDistinct nat_eq []
unfolding IsDistinct
none_twice = tt

parts_are_good : (segments : List Segment) (names : List (List ℕ)) (cs : List Content) → AreWellFormedContents segments names cs → has_well_formed_parts (object_with segments names cs) ≡ true
parts_are_good segments names cs sound =
    let at : SourceLocation → Origin = origin_in_files (files_of cs) in
    let s : List ℕ = section_keys cs in
    let i : List ℕ = import_keys names cs in
    let count = length names in
    let has_imports : HasAll i (flat_map (content_imports names) cs) = once_has [] (flat_map (content_imports names) cs) in
    let below = once_all (λ k. k < count) [] (flat_map (content_imports names) cs) tt (below_each count (flat_map (content_imports names) cs) (contents_below s names cs sound.contents)) in
    let imports : are_names (map (name_of names) i) ≡ true = names_at names i sound.imported (once_distinct [] (flat_map (content_imports names) cs) none_twice) below in
    let standing : AllByRecursion (λ k. k < length (map (λ g. g.name) segments)) s =
    subst (λ n. AllByRecursion (λ k. k < n) s) (sym (map_length (λ (g : Segment). g.name) segments)) (once_all (λ k. k < length segments) [] (segment_requests cs) tt (asked_below (length segments) cs sound.segments_exist)) in
    let section_names : are_names (map (λ (x : Section). x.name) (map (section_of at segments s i cs) s)) ≡ true =
    ap are_names (sections_named at segments s i cs s) ∙ names_at (map (λ g. g.name) segments) s sound.named (once_distinct [] (segment_requests cs) none_twice) standing in
    let declarations = said_sound at s i names count cs sound.contents in
    let said_imports_had = said_has at s i names cs has_imports in
    let es : List Export = filter_map (export_of at s i) (all_declarations cs) in
    let ts : List Assert = filter_map (assert_of at s i) (all_declarations cs) in
    let export_names : are_names (map (λ (e : Export). e.name) es) ≡ true = ap are_names (exports_named at s i (all_declarations cs)) ∙ sound.exported in
    let a = are_names (map (name_of names) i) in
    let b = are_names (map (λ (x : Section). x.name) (map (section_of at segments s i cs) s)) in
    let c = are_names (map (λ (e : Export). e.name) es) in
    let d : ℕ → ℕ → Bool = λ m n. list_all (is_well_formed_section m n) (map (section_of at segments s i cs) s) in
    let e : ℕ → ℕ → Bool = λ m n. list_all (λ (x : Export). is_well_formed_form m n x.form) es in
    let f : ℕ → ℕ → Bool = λ m n. list_all (is_well_formed_assert m n) ts in
    let whole : ℕ → ℕ → Bool = λ m n. a && b && c && d m n && e m n && f m n in
    let m = length s in
    let n = length i in
    let all_sections : d m n ≡ true = sections_good at segments s i cs s (λ g. section_good at s i segments cs g (sound.sections_fit g) (parts_in_good at s i names count g cs sound.contents has_imports)) in
    let all_exports : e m n ≡ true = exports_good at s i names count (all_declarations cs) declarations said_imports_had in
    let all_asserts : f m n ≡ true = asserts_good at s i names count (all_declarations cs) declarations said_imports_had in
    (λ j. whole (map_length (section_of at segments s i cs) s j) (map_length (name_of names) i j))
    ∙ and (a && b && c && d m n && e m n) (f m n) (and (a && b && c && d m n) (e m n) (and (a && b && c) (d m n) (and (a && b) c (and a b imports section_names) export_names) all_sections) all_exports) all_asserts

pub good_object : (segments : List Segment) (names : List (List ℕ)) (cs : List Content) → AreWellFormedContents segments names cs → is_well_formed_object (object_with segments names cs) ≡ true
good_object segments names cs sound = search (rules, files_good, origins_good, and, parts_are_good)
