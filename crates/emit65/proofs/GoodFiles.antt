-- The files of an object have valid, distinct names, and contain the file of each origin.
use Rattle.std.proofs.lemmas.Grind.{common_steps}
use Rattle.std.proofs.Common.{◌≡◌, ◌∙◌, ℕ, zero, suc, Bool, true, false, ◌&&◌, ◌||◌, List, [], ◌∷◌, ◌++◌, length, map, refl, ap, arith}
use Rattle.std.specs.Prelude.{filter_map, if◌then◌else◌}
use Rattle.std.specs.List.{AllByRecursion, flat_map, list_all, list_any}
use Rattle.std.specs.Str.{bytes_eq}
use Rattle.std.proofs.lemmas.Bool.Decides.{nat_tests}
use Rattle.std.proofs.lemmas.List.Folds.{list_any-append}
use Rattle.syntax65.specs.declared.source_location.SourceLocation.{SourceLocation}
use Rattle.object65.specs.declared.object.Assert.{Assert}
use Rattle.object65.specs.declared.object.Export.{Export}
use Rattle.object65.specs.declared.object.Fragment.{Fragment}
use Rattle.object65.specs.declared.object.Origin.{Origin}
use Rattle.object65.specs.declared.object.Section.{Section}
use Rattle.object65.specs.Objects.{are_distinct, has_well_formed_origin, has_well_formed_origins, is_file_name, is_well_formed_origin}
use Rattle.semantics65.specs.Contents.{Content, Part, Known, ReservedBytes, LinkTimeValue, Declaration, ExportedSymbol, ForcedImport, LinkAssertion}
use Rattle.semantics65.specs.declared.contents.Segment.{Segment}
use Rattle.semantics65.specs.Numbering.{merged_neighbours, all_declarations, assert_files, assert_of, export_files, export_of, referenced_files, files_of, fragments_of, import_keys, origin_in_files, merged_fragments, distinct_names, object_with, part_files, parts_in, section_keys, section_of, IsWellFormedContent, IsWellFormedPart, IsWellFormedDeclaration}
use Rattle.emit65.proofs.ConcatenatedItems.{all_more}
use Rattle.emit65.proofs.GoodNames.{names_push}
use Rattle.emit65.proofs.Naming.{any_below, itself, position_at}
use Rattle.object65.proofs.SmallParts.{and, left, right}

all_first : {A : Type 0} (P : A → Type 0) (xs ys : List A) → AllByRecursion P (xs ++ ys) → AllByRecursion P xs
all_first P [] ys h = tt
all_first P (x ∷ xs) ys h = (h.0, all_first P xs ys h.1)

all_second : {A : Type 0} (P : A → Type 0) (xs ys : List A) → AllByRecursion P (xs ++ ys) → AllByRecursion P ys
all_second P [] ys h = h
all_second P (x ∷ xs) ys h = all_second P xs ys h.1

-- ---- Distinct names.

abbrev with_name : List (List ℕ) → List ℕ → List (List ℕ)
with_name found n = if list_any (bytes_eq n) found then found else found ++ n ∷ []

once_good : (found ns : List (List ℕ)) → are_distinct is_file_name found ≡ true → AllByRecursion (λ n. is_file_name n ≡ true) ns → are_distinct is_file_name (distinct_names found ns) ≡ true
once_good found [] h good = h
once_good found (n ∷ ns) h good = once_good (with_name found n) ns (by (list_any (bytes_eq n) found) refl) good.1
  where
    by : (b : Bool) → list_any (bytes_eq n) found ≡ b → are_distinct is_file_name (if b then found else found ++ n ∷ []) ≡ true
    by true e = h
    by false e = names_push is_file_name found n h good.0 e

-- the list contains the name
abbrev pub IsAmong : List (List ℕ) → List ℕ → Type 0
IsAmong files n = list_any (bytes_eq n) files ≡ true

abbrev AreAmong : List (List ℕ) → List (List ℕ) → Type 0
AreAmong files ns = AllByRecursion (IsAmong files) ns

once_keeps : (found ns : List (List ℕ)) (m : List ℕ) → IsAmong found m → IsAmong (distinct_names found ns) m
once_keeps found [] m h = h
once_keeps found (n ∷ ns) m h = once_keeps (with_name found n) ns m (by (list_any (bytes_eq n) found))
  where
    by : (b : Bool) → IsAmong (if b then found else found ++ n ∷ []) m
    by true = h
    by false = list_any-append (bytes_eq m) found (n ∷ []) ∙ ap (λ b. b || list_any (bytes_eq m) (n ∷ [])) h

once_has : (found ns : List (List ℕ)) → AreAmong (distinct_names found ns) ns
once_has found [] = tt
once_has found (n ∷ ns) = (once_keeps (with_name found n) ns n (by (list_any (bytes_eq n) found) refl), once_has (with_name found n) ns)
  where
    last : (b : Bool) → (b || list_any (bytes_eq n) (n ∷ [])) ≡ true
    last true = refl
    last false = ap (λ b. b || false) (itself n)

    by : (b : Bool) → list_any (bytes_eq n) found ≡ b → IsAmong (if b then found else found ++ n ∷ []) n
    by true e = e
    by false e = list_any-append (bytes_eq n) found (n ∷ []) ∙ last (list_any (bytes_eq n) found)

-- ---- The files of well-formed contents.

abbrev AreFileNames : List (List ℕ) → Type 0
AreFileNames ns = AllByRecursion (λ n. is_file_name n ≡ true) ns

module _ (requested : List ℕ) (count : ℕ) where
  parts_files : (ps : List Part) → AllByRecursion (IsWellFormedPart requested count) ps → AreFileNames (flat_map part_files ps)
  parts_files [] h = tt
  parts_files (x ∷ ps) h = grind (arith, common_steps, (parts_files ps h.1))

  segment_files : (g : ℕ) (cs : List Content) → AllByRecursion (IsWellFormedContent requested count) cs → AllByRecursion (IsWellFormedPart requested count) (parts_in cs g)
  segment_files g [] h = tt
  segment_files g (c ∷ cs) h = grind (arith, common_steps, (segment_files g cs h.1), all_more)

  sections_files : (keys : List ℕ) (cs : List Content) → AllByRecursion (IsWellFormedContent requested count) cs → AreFileNames (flat_map (λ g. flat_map part_files (parts_in cs g)) keys)
  sections_files [] cs h = tt
  sections_files (g ∷ keys) cs h = grind (arith, common_steps, (sections_files keys cs h), all_more, parts_files, segment_files)

  all_said_sound : (cs : List Content) → AllByRecursion (IsWellFormedContent requested count) cs → AllByRecursion (IsWellFormedDeclaration requested count) (all_declarations cs)
  all_said_sound [] h = tt
  all_said_sound (c ∷ cs) h = all_more (IsWellFormedDeclaration requested count) c.said (all_declarations cs) h.0.said (all_said_sound cs h.1)

  exports_files : (ss : List Declaration) → AllByRecursion (IsWellFormedDeclaration requested count) ss → AreFileNames (flat_map export_files ss)
  exports_files [] h = tt
  exports_files (x ∷ ss) h = grind (arith, common_steps, (exports_files ss h.1))

  asserts_files : (ss : List Declaration) → AllByRecursion (IsWellFormedDeclaration requested count) ss → AreFileNames (flat_map assert_files ss)
  asserts_files [] h = tt
  asserts_files (x ∷ ss) h = grind (arith, common_steps, (asserts_files ss h.1))

  pub files_good : (cs : List Content) → AllByRecursion (IsWellFormedContent requested count) cs → are_distinct is_file_name (files_of cs) ≡ true
  files_good cs h = grind (arith, common_steps, all_said_sound, once_good, all_more, sections_files, exports_files, asserts_files)

-- ---- Origins.

module _ (files : List (List ℕ)) (s i : List ℕ) where
  abbrev at : SourceLocation → Origin
  at = origin_in_files files

  abbrev is_good : Origin → Bool
  is_good origin = is_well_formed_origin 2 (length files) origin

  abbrev has_good : Fragment → Bool
  has_good f = has_well_formed_origin 2 (length files) f

  pub origin_good : (location : SourceLocation) → IsAmong files location.file → is_good (at location) ≡ true
  origin_good location h = grind (arith, common_steps, any_below, nat_tests, position_at)

  parts_origins : (ps : List Part) → AreAmong files (flat_map part_files ps) → list_all has_good (fragments_of at s i ps) ≡ true
  parts_origins [] h = refl
  parts_origins (Known [] ∷ ps) h = parts_origins ps h
  parts_origins (Known (b ∷ bytes) ∷ ps) h = parts_origins ps h
  parts_origins (ReservedBytes zero ∷ ps) h = parts_origins ps h
  parts_origins (ReservedBytes (suc n) ∷ ps) h = parts_origins ps h
  parts_origins (LinkTimeValue width location f ∷ ps) h = and (is_good (at location)) (list_all has_good (fragments_of at s i ps)) (origin_good location h.0) (parts_origins ps h.1)

  joined_origins : (f : Fragment) (fs : List Fragment) → has_good f ≡ true → list_all has_good fs ≡ true → list_all has_good (merged_fragments f fs) ≡ true
  joined_origins x [] h all = and (has_good x) true h refl
  joined_origins x (y ∷ fs) h all =
      let again : (f : Fragment) → has_good f ≡ true → list_all has_good fs ≡ true → list_all has_good (merged_fragments f fs) ≡ true = λ f. joined_origins f fs in
      grind (arith, common_steps, again, and, left, right)

  all_joined_origins : (fs : List Fragment) → list_all has_good fs ≡ true → list_all has_good (merged_neighbours fs) ≡ true
  all_joined_origins x h = grind (arith, common_steps, joined_origins, left, right)

  sections_origins : (segments : List Segment) (cs : List Content) (keys : List ℕ) → AreAmong files (flat_map (λ g. flat_map part_files (parts_in cs g)) keys) → list_all (λ (x : Section). list_all has_good x.fragments) (map (section_of at segments s i cs) keys) ≡ true
  sections_origins segments cs [] h = refl
  sections_origins segments cs (g ∷ keys) h =
      let mine = flat_map part_files (parts_in cs g) in
      let others = flat_map (λ g. flat_map part_files (parts_in cs g)) keys in
      and (list_all has_good (merged_neighbours (fragments_of at s i (parts_in cs g)))) (list_all (λ (x : Section). list_all has_good x.fragments) (map (section_of at segments s i cs) keys))
      (all_joined_origins (fragments_of at s i (parts_in cs g)) (parts_origins (parts_in cs g) (all_first (IsAmong files) mine others h)))
      (sections_origins segments cs keys (all_second (IsAmong files) mine others h))

  exports_origins : (ss : List Declaration) → AreAmong files (flat_map export_files ss) → list_all (λ (e : Export). is_good e.origin) (filter_map (export_of at s i) ss) ≡ true
  exports_origins [] h = refl
  exports_origins (ExportedSymbol n location f ∷ ss) h = and (is_good (at location)) (list_all (λ (e : Export). is_good e.origin) (filter_map (export_of at s i) ss)) (origin_good location h.0) (exports_origins ss h.1)
  exports_origins (ForcedImport n ∷ ss) h = exports_origins ss h
  exports_origins (LinkAssertion act location message f ∷ ss) h = exports_origins ss h

  asserts_origins : (ss : List Declaration) → AreAmong files (flat_map assert_files ss) → list_all (λ (a : Assert). is_good a.origin) (filter_map (assert_of at s i) ss) ≡ true
  asserts_origins [] h = refl
  asserts_origins (ExportedSymbol n location f ∷ ss) h = asserts_origins ss h
  asserts_origins (ForcedImport n ∷ ss) h = asserts_origins ss h
  asserts_origins (LinkAssertion act location message f ∷ ss) h = and (is_good (at location)) (list_all (λ (a : Assert). is_good a.origin) (filter_map (assert_of at s i) ss)) (origin_good location h.0) (asserts_origins ss h.1)

pub origins_good : (segments : List Segment) (names : List (List ℕ)) (cs : List Content) → has_well_formed_origins (object_with segments names cs) ≡ true
origins_good segments names cs =
    let files = files_of cs in
    let s = section_keys cs in
    let i = import_keys names cs in
    let a = flat_map (λ g. flat_map part_files (parts_in cs g)) s in
    let b = flat_map export_files (all_declarations cs) in
    let c = flat_map assert_files (all_declarations cs) in
    let all : AreAmong files (referenced_files cs) = once_has [] (referenced_files cs) in
    let front = all_first (IsAmong files) (a ++ b) c all in
    let p = list_all (λ (x : Section). list_all (has_well_formed_origin 2 (length files)) x.fragments) (map (section_of (origin_in_files files) segments s i cs) s) in
    let q = list_all (λ (e : Export). is_well_formed_origin 2 (length files) e.origin) (filter_map (export_of (origin_in_files files) s i) (all_declarations cs)) in
    let r = list_all (λ (t : Assert). is_well_formed_origin 2 (length files) t.origin) (filter_map (assert_of (origin_in_files files) s i) (all_declarations cs)) in
    and (p && q) r
    (and p q (sections_origins files s i segments cs s (all_first (IsAmong files) a b front)) (exports_origins files s i (all_declarations cs) (all_second (IsAmong files) a b front)))
    (asserts_origins files s i (all_declarations cs) (all_second (IsAmong files) (a ++ b) c all))
