-- The names of imports, sections and exports are valid and distinct.
use Rattle.std.proofs.lemmas.Grind.{common_steps}
use Rattle.std.proofs.Common.{◌≡◌, ◌∙◌, ℕ, zero, suc, ◌<◌, Bool, true, false, not, ◌&&◌, ◌||◌, nat_eq, List, [], ◌∷◌, ◌++◌, length, map, refl, ap, arith}
use Rattle.std.specs.Prelude.{slice_get}
use Rattle.std.specs.Cmp.{nat_eq_equiv}
use Rattle.std.specs.Cmp.Lexicographic.{pointwise, lists_equiv}
use Rattle.std.specs.List.{AllByRecursion, IsDistinct}
use Rattle.std.proofs.lemmas.Bool.Decides.{nat_tests}
use Rattle.std.proofs.lemmas.List.Folds.{list_any-append}
use Rattle.std.proofs.lemmas.Map.Keys.{IsDistinct-head, IsDistinct-tail}
use Rattle.object65.specs.Objects.{are_distinct, are_names, is_among, is_name}
use Rattle.semantics65.specs.declared.contents.Segment.{Segment}
use Rattle.semantics65.specs.Numbering.{name_of, segment_name}
use Rattle.object65.proofs.SmallParts.{left, right, and}
use Rattle.emit65.proofs.Renumbering.{turned}

abbrev same_name : List ℕ → List ℕ → Bool
same_name n m = pointwise nat_eq n m

-- ---- Lists of distinct names that pass a test.

flipped : (n m : List ℕ) → same_name n m ≡ same_name m n
flipped n m = (lists_equiv nat_eq_equiv).symm n m

among_push : (ns : List (List ℕ)) (n m : List ℕ) → is_among ns m ≡ false → same_name n m ≡ false → is_among (ns ++ n ∷ []) m ≡ false
among_push ns n m h g = grind (arith, common_steps, flipped, list_any-append)

module _ (passes : List ℕ → Bool) where
  head_good : (n : List ℕ) (ns : List (List ℕ)) → are_distinct passes (n ∷ ns) ≡ true → passes n ≡ true
  head_good n ns h = left (passes n) (not (is_among ns n)) (left (passes n && not (is_among ns n)) (are_distinct passes ns) h)

  head_apart : (n : List ℕ) (ns : List (List ℕ)) → are_distinct passes (n ∷ ns) ≡ true → is_among ns n ≡ false
  head_apart n ns h = turned (is_among ns n) (right (passes n) (not (is_among ns n)) (left (passes n && not (is_among ns n)) (are_distinct passes ns) h))

  rest_good : (n : List ℕ) (ns : List (List ℕ)) → are_distinct passes (n ∷ ns) ≡ true → are_distinct passes ns ≡ true
  rest_good n ns h = right (passes n && not (is_among ns n)) (are_distinct passes ns) h

  -- prepending a name
  with_head : (n : List ℕ) (ns : List (List ℕ)) → passes n ≡ true → is_among ns n ≡ false → are_distinct passes ns ≡ true → are_distinct passes (n ∷ ns) ≡ true
  with_head n ns good apart rest = and (passes n && not (is_among ns n)) (are_distinct passes ns) (and (passes n) (not (is_among ns n)) good (ap not apart)) rest

  -- appending a name
  pub names_push : (ns : List (List ℕ)) (n : List ℕ) → are_distinct passes ns ≡ true → passes n ≡ true → is_among ns n ≡ false → are_distinct passes (ns ++ n ∷ []) ≡ true
  names_push [] n h good apart = with_head n [] good refl refl
  names_push (m ∷ ns) n h good apart = grind (arith, common_steps, (names_push ns n (rest_good m ns h) good), rest_good, with_head, head_good, among_push, head_apart)

-- ---- Names by their keys.

name_good : (names : List (List ℕ)) (k : ℕ) → are_names names ≡ true → k < length names → is_name (name_of names k) ≡ true
name_good [] k h lt = absurd (omega arith)
name_good (n ∷ ns) zero h lt = head_good is_name n ns h
name_good (n ∷ ns) (suc k) h lt = name_good ns k (rest_good is_name n ns h) (omega arith)

none_is : (names : List (List ℕ)) (n : List ℕ) (k : ℕ) → is_among names n ≡ false → k < length names → same_name n (name_of names k) ≡ false
none_is [] n k h lt = absurd (omega arith)
none_is (m ∷ ns) n zero h lt = first (same_name n m) (is_among ns n) h
  where
    first : (a b : Bool) → (a || b) ≡ false → a ≡ false
    first true b e = cc
    first false b e = refl
none_is (m ∷ ns) n (suc k) h lt = none_is ns n k (other (same_name n m) (is_among ns n) h) (omega arith)
  where
    other : (a b : Bool) → (a || b) ≡ false → b ≡ false
    other true b e = cc
    other false b e = e

names_apart : (names : List (List ℕ)) (j k : ℕ) → are_names names ≡ true → j < length names → k < length names → nat_eq j k ≡ false → same_name (name_of names j) (name_of names k) ≡ false
names_apart [] j k h lt gt other = absurd (omega arith)
names_apart (n ∷ ns) zero zero h lt gt other = absurd cc
names_apart (n ∷ ns) zero (suc k) h lt gt other = none_is ns n k (head_apart is_name n ns h) (omega arith)
names_apart (n ∷ ns) (suc j) zero h lt gt other = flipped (name_of ns j) n ∙ none_is ns n j (head_apart is_name n ns h) (omega arith)
names_apart (n ∷ ns) (suc j) (suc k) h lt gt other = names_apart ns j k (rest_good is_name n ns h) (omega arith) (omega arith) (grind (arith, nat_tests))

abbrev AreBelow : List (List ℕ) → List ℕ → Type 0
AreBelow names keys = AllByRecursion (λ k. k < length names) keys

key_apart : (names : List (List ℕ)) (k : ℕ) (keys : List ℕ) → are_names names ≡ true → k < length names → AreBelow names keys → AllByRecursion (λ j. nat_eq k j ≡ false) keys → is_among (map (name_of names) keys) (name_of names k) ≡ false
key_apart names k [] h lt below apart = refl
key_apart names k (j ∷ keys) h lt below apart =
    let first : same_name (name_of names k) (name_of names j) ≡ false = names_apart names k j h lt below.0 apart.0 in
    ap (λ b. b || is_among (map (name_of names) keys) (name_of names k)) first ∙ key_apart names k keys h lt below.1 apart.1

-- the names at distinct keys are valid and distinct
pub names_at : (names : List (List ℕ)) (keys : List ℕ) → are_names names ≡ true → IsDistinct nat_eq keys → AreBelow names keys → are_names (map (name_of names) keys) ≡ true
names_at names [] h distinct below = refl
names_at names (k ∷ keys) h distinct below =
    with_head is_name (name_of names k) (map (name_of names) keys) (name_good names k h below.0)
    (key_apart names k keys h below.0 below.1 (IsDistinct-head nat_eq k keys distinct))
    (names_at names keys h (IsDistinct-tail nat_eq k keys distinct) below.1)

-- the name of a segment is the name at its index
pub segment_named : (segments : List Segment) (g : ℕ) → segment_name (slice_get segments g) ≡ name_of (map (λ g. g.name) segments) g
segment_named [] g = refl
segment_named (s ∷ segments) zero = refl
segment_named (s ∷ segments) (suc g) = segment_named segments g
