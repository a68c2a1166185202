-- The merged fragments of a section: none is empty, no two neighbours can be merged, and their length is that of the parts.
use Rattle.std.proofs.lemmas.Grind.{common_steps}
use Rattle.std.proofs.Common.{◌≡◌, ◌∙◌, ℕ, ◌+◌, ◌≤◌, Bool, true, false, not, ◌||◌, nat_eq, nat_lt, cond, List, [], ◌∷◌, ◌++◌, length, Option, refl, sym, ap, arith, length-append}
use Rattle.std.specs.Prelude.{sum_by}
use Rattle.std.specs.List.{AllByRecursion, filter, flat_map, list_all}
use Rattle.std.proofs.lemmas.Bool.Decides.{nat_tests}
use Rattle.std.proofs.lemmas.List.Folds.{list_all-append}
use Rattle.std.proofs.lemmas.List.Sums.{sum_by-cons}
use Rattle.syntax65.specs.declared.source_location.SourceLocation.{SourceLocation}
use Rattle.object65.specs.declared.object.Origin.{Origin}
use Rattle.object65.specs.declared.object.Fragment.{Fragment}
use Rattle.object65.specs.declared.object.Fragment.TheVariants.{Literal, Fill}
use Rattle.object65.specs.Objects.{are_all_merged, fragment_len, is_well_formed_fragment, is_well_formed_section, can_merge, section_limit}
use Rattle.semantics65.specs.Contents.{Content, Part}
use Rattle.semantics65.specs.declared.contents.Segment.{Segment}
use Rattle.semantics65.specs.Numbering.{merged_neighbours, content_imports, fragment_of, fragments_of, is_empty, merged_fragments, part_imports, parts_in, declaration_imports, section_of, segment_power, IsWellFormedContent, IsWellFormedPart, part_len}
use Rattle.object65.proofs.SmallParts.{left, right, and}
use Rattle.emit65.proofs.Renumbering.{HasAll, first_has, good_form, same_literal, second_has}

-- ---- Merged neighbours.

more_bytes : (a b : List ℕ) → nat_lt 0 (length a) ≡ true → nat_lt 0 (length (a ++ b)) ≡ true
more_bytes a b h = let both : length (a ++ b) ≡ length a + length b = length-append a b in grind (arith, nat_tests)

more_fill : (m n : ℕ) → nat_lt 0 m ≡ true → nat_lt 0 (m + n) ≡ true
more_fill m n h = grind (arith, nat_tests)

abbrev AllGood : (s i : ℕ) → List Fragment → Type 0
AllGood s i fs = list_all (is_well_formed_fragment s i) fs ≡ true

pub joined_good : (s i : ℕ) (f : Fragment) (fs : List Fragment) → is_well_formed_fragment s i f ≡ true → AllGood s i fs → AllGood s i (merged_fragments f fs)
joined_good s i f [] h all = and (is_well_formed_fragment s i f) true h refl
joined_good s i (Literal a) (Literal b ∷ fs) h all = joined_good s i (Literal (a ++ b)) fs (more_bytes a b h) (right (is_well_formed_fragment s i (Literal b)) (list_all (is_well_formed_fragment s i) fs) all)
joined_good s i (Fill m) (Fill n ∷ fs) h all = joined_good s i (Fill (m + n)) fs (more_fill m n h) (right (is_well_formed_fragment s i (Fill n)) (list_all (is_well_formed_fragment s i) fs) all)
joined_good s i f (g ∷ fs) h all =
    and (is_well_formed_fragment s i f) (list_all (is_well_formed_fragment s i) (merged_fragments g fs)) h
    (joined_good s i g fs (left (is_well_formed_fragment s i g) (list_all (is_well_formed_fragment s i) fs) all) (right (is_well_formed_fragment s i g) (list_all (is_well_formed_fragment s i) fs) all))

abbrev len_of : List Fragment → ℕ
len_of fs = sum_by fragment_len fs

pub joined_len : (f : Fragment) (fs : List Fragment) → len_of (merged_fragments f fs) ≡ fragment_len f + len_of fs
joined_len f [] = sum_by-cons fragment_len f []
joined_len (Literal a) (Literal b ∷ fs) =
    let again : len_of (merged_fragments (Literal (a ++ b)) fs) ≡ length (a ++ b) + len_of fs = joined_len (Literal (a ++ b)) fs in
    let more : len_of (Literal b ∷ fs) ≡ length b + len_of fs = sum_by-cons fragment_len (Literal b) fs in
    let both : length (a ++ b) ≡ length a + length b = length-append a b in
    omega (arith, again, more, both)
joined_len (Fill m) (Fill n ∷ fs) =
    let again : len_of (merged_fragments (Fill (m + n)) fs) ≡ (m + n) + len_of fs = joined_len (Fill (m + n)) fs in
    let more : len_of (Fill n ∷ fs) ≡ n + len_of fs = sum_by-cons fragment_len (Fill n) fs in
    omega (arith, again, more)
joined_len f (g ∷ fs) = sum_by-cons fragment_len f (merged_fragments g fs) ∙ ap (λ n. fragment_len f + n) (joined_len g fs ∙ sym (sum_by-cons fragment_len g fs))

literals_alike : (f : Fragment) (a b : List ℕ) → can_merge f (Literal a) ≡ can_merge f (Literal b)
literals_alike x a b = grind (arith, common_steps)

fills_alike : (f : Fragment) (m n : ℕ) → can_merge f (Fill m) ≡ can_merge f (Fill n)
fills_alike x m n = grind (arith, common_steps)

-- the case of a fragment that can't be merged with the first of the fragments after it
pub front_apart : (f g : Fragment) (fs : List Fragment) → can_merge f g ≡ false → are_all_merged (merged_fragments g fs) ≡ true → are_all_merged (f ∷ merged_fragments g fs) ≡ true
front_apart f g [] h all = and (not (can_merge f g)) true (ap not h) refl
front_apart f (Literal a) (Literal b ∷ fs) h all = front_apart f (Literal (a ++ b)) fs (literals_alike f (a ++ b) a ∙ h) all
front_apart f (Fill m) (Fill n ∷ fs) h all = front_apart f (Fill (m + n)) fs (fills_alike f (m + n) m ∙ h) all
front_apart f g (e ∷ fs) h all = and (not (can_merge f g)) (are_all_merged (g ∷ merged_fragments e fs)) (ap not h) all

pub joined_apart : (f : Fragment) (fs : List Fragment) → are_all_merged (merged_fragments f fs) ≡ true
joined_apart f [] = refl
joined_apart x (y ∷ fs) =
    let again : (f : Fragment) → are_all_merged (merged_fragments f fs) ≡ true = λ f. joined_apart f fs in
    grind (arith, common_steps, again, front_apart)

-- ---- The fragments of parts.

module _ (at : SourceLocation → Origin) (s i : List ℕ) where
  abbrev pub made : Part → Fragment
  made p = fragment_of at s i p

  -- a part is empty, and therefore omitted, or its fragment is well-formed
  abbrev pub is_good_part : Part → Bool
  is_good_part p = is_empty (made p) || is_well_formed_fragment (length s) (length i) (made p)

  made_len : (p : Part) → fragment_len (made p) ≡ part_len p
  made_len x = grind (arith, common_steps)

  empty_len : (f : Fragment) → is_empty f ≡ true → fragment_len f ≡ 0
  empty_len x h = grind (arith, common_steps)

  pub fragments_len : (ps : List Part) → len_of (fragments_of at s i ps) ≡ sum_by part_len ps
  fragments_len [] = refl
  fragments_len (p ∷ ps) = grind (arith, common_steps, (fragments_len ps), empty_len, made_len, sum_by-cons)

  pub fragments_good : (ps : List Part) → list_all is_good_part ps ≡ true → AllGood (length s) (length i) (fragments_of at s i ps)
  fragments_good [] h = refl
  fragments_good (p ∷ ps) h = grind (arith, common_steps, (fragments_good ps), and, left, right)

  part_good : (count : ℕ) (p : Part) → IsWellFormedPart s count p → HasAll i (part_imports p) → is_good_part p ≡ true
  part_good count x sound has_imports = grind (arith, common_steps, nat_tests, and, good_form, same_literal)

  parts_good : (count : ℕ) (ps : List Part) → AllByRecursion (IsWellFormedPart s count) ps → HasAll i (flat_map part_imports ps) → list_all is_good_part ps ≡ true
  parts_good count [] sound has_imports = refl
  parts_good count (p ∷ ps) sound has_imports = grind (arith, common_steps, (parts_good count ps sound.1 (second_has i (part_imports p) (flat_map part_imports ps) has_imports)), and, part_good, first_has, second_has)

  -- all parts in a segment satisfy this condition
  pub parts_in_good : (names : List (List ℕ)) (count g : ℕ) (cs : List Content) → AllByRecursion (IsWellFormedContent s count) cs → HasAll i (flat_map (content_imports names) cs) → list_all is_good_part (parts_in cs g) ≡ true
  parts_in_good names count g [] sound has_imports = refl
  parts_in_good names count g (c ∷ cs) sound has_imports =
      by (nat_eq c.segment g) (parts_in_good names count g cs sound.1 (second_has i (content_imports names c) (flat_map (content_imports names) cs) has_imports))
    where
      here : list_all is_good_part c.parts ≡ true
      here = parts_good count c.parts sound.0.parts (first_has i (flat_map part_imports c.parts) (flat_map (declaration_imports names) c.said) (first_has i (content_imports names c) (flat_map (content_imports names) cs) has_imports))

      by : (b : Bool) → list_all is_good_part (parts_in cs g) ≡ true → list_all is_good_part (flat_map (λ c. c.parts) (cond b (c ∷ filter (λ c. nat_eq c.segment g) cs) (filter (λ c. nat_eq c.segment g) cs))) ≡ true
      by true rest = list_all-append is_good_part c.parts (parts_in cs g) ∙ and (list_all is_good_part c.parts) (list_all is_good_part (parts_in cs g)) here rest
      by false rest = rest

  -- ---- Sections.

  all_joined_good : (fs : List Fragment) → AllGood (length s) (length i) fs → AllGood (length s) (length i) (merged_neighbours fs)
  all_joined_good x h = grind (arith, common_steps, joined_good, left, right)

  all_joined_len : (fs : List Fragment) → len_of (merged_neighbours fs) ≡ len_of fs
  all_joined_len x = grind (arith, common_steps, joined_len, sum_by-cons)

  all_joined_apart : (fs : List Fragment) → are_all_merged (merged_neighbours fs) ≡ true
  all_joined_apart x = grind (arith, common_steps, joined_apart)

  power_small : (o : Option Segment) → segment_power o ≤ 15
  power_small x = grind (arith, common_steps)

  pub section_good : (segments : List Segment) (cs : List Content) (g : ℕ) → sum_by part_len (parts_in cs g) ≤ section_limit → list_all is_good_part (parts_in cs g) ≡ true → is_well_formed_section (length s) (length i) (section_of at segments s i cs g) ≡ true
  section_good segments cs g capacity good = grind (arith, common_steps, power_small, nat_tests, all_joined_len, fragments_len, and, all_joined_good, fragments_good, all_joined_apart)
