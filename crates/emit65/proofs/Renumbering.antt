-- Renumbering the sections and imports of a form preserves its properties.
use Rattle.std.proofs.lemmas.Grind.{common_steps}
use Rattle.std.proofs.Common.{◌≡◌, ◌∙◌, ℕ, ◌+◌, ◌<◌, Bool, true, false, not, ◌&&◌, nat_eq, nat_le, List, [], ◌∷◌, ◌++◌, length, get_or, refl, sym, ap, subst, arith}
use Rattle.std.specs.Prelude.{if◌then◌else◌, ◌==◌}
use Rattle.std.specs.Cmp.{nat_eq_equiv}
use Rattle.std.specs.List.{AllByRecursion, IsDistinct, list_any, list_all, position_or_len}
use Rattle.std.proofs.lemmas.Bool.Decides.{nat_tests}
use Rattle.std.proofs.lemmas.List.Folds.{list_all-append}
use Rattle.std.proofs.lemmas.List.Sums.{passes_at_first}
use Rattle.std.proofs.lemmas.Map.Keys.{IsDistinct-push}
use Rattle.base65.specs.declared.values.Op1.{Op1}
use Rattle.base65.specs.declared.values.Op2.{Op2}
use Rattle.object65.specs.Folding.{is_literal, is_normal, has_valid_indices, folds1, folds2, folds_sum, folds_difference}
use Rattle.object65.specs.Form.{Form, lit, sec, imp, prefix, binary, nodes}
use Rattle.object65.proofs.SmallParts.{left, right, and}
use Rattle.object65.specs.Objects.{is_well_formed_form}
use Rattle.semantics65.specs.Numbering.{imports_in, number_of, renumbered_form, distinct_keys, sections_in, IsWellFormedForm}

-- ---- Booleans.

pub turned : (b : Bool) → not b ≡ true → b ≡ false
turned true e = cc
turned false e = refl

-- ---- Keys.

abbrev pub has : List ℕ → ℕ → Bool
has keys k = list_any (nat_eq k) keys

abbrev pub HasAll : List ℕ → List ℕ → Type 0
HasAll keys ks = list_all (has keys) ks ≡ true

pub place_below : (keys : List ℕ) (k : ℕ) → has keys k ≡ true → position_or_len (nat_eq k) keys < length keys
place_below [] k h = absurd cc
place_below (m ∷ keys) k h = grind (arith, common_steps, (place_below keys k))

pub number_is : (keys : List ℕ) (k : ℕ) → has keys k ≡ true → number_of keys k ≡ position_or_len (nat_eq k) keys
number_is keys k h = grind (arith, common_steps, place_below, nat_tests)

pub number_below : (keys : List ℕ) (k : ℕ) → has keys k ≡ true → number_of keys k < length keys
number_below keys k h = subst (λ n. n < length keys) (sym (number_is keys k h)) (place_below keys k h)

pub number_at : (keys : List ℕ) (k : ℕ) → has keys k ≡ true → get_or keys (number_of keys k) 0 ≡ k
number_at keys k h = grind (arith, common_steps, passes_at_first, place_below, number_is, nat_tests)

-- the numbers of two keys in the list are equal if and only if the keys are
one_number : (keys : List ℕ) (k m : ℕ) → has keys k ≡ true → has keys m ≡ true → (number_of keys k == number_of keys m) ≡ (k == m)
one_number keys k m h g = by (k == m) refl
  where
    by : (b : Bool) → (k == m) ≡ b → (number_of keys k == number_of keys m) ≡ b
    by true e =
        let same : k ≡ m = grind (arith, nat_tests) in
        let numbers : number_of keys k ≡ number_of keys m = ap (number_of keys) same in
        grind (arith, nat_tests)
    by false e = apart (number_of keys k == number_of keys m) refl
      where
        apart : (c : Bool) → (number_of keys k == number_of keys m) ≡ c → c ≡ false
        apart true d =
            let numbers : number_of keys k ≡ number_of keys m = grind (arith, nat_tests) in
            let same : k ≡ m = sym (number_at keys k h) ∙ ap (λ n. get_or keys n 0) numbers ∙ number_at keys m g in
            grind (arith, nat_tests)
        apart false d = refl

-- if a list contains the keys of a concatenation, it contains those of each part
pub first_has : (keys a b : List ℕ) → HasAll keys (a ++ b) → HasAll keys a
first_has keys a b h = left (list_all (has keys) a) (list_all (has keys) b) (sym (list_all-append (has keys) a b) ∙ h)

pub second_has : (keys a b : List ℕ) → HasAll keys (a ++ b) → HasAll keys b
second_has keys a b h = right (list_all (has keys) a) (list_all (has keys) b) (sym (list_all-append (has keys) a b) ∙ h)

-- ---- Forms.

module _ (s i : List ℕ) where
  pub same_nodes : (f : Form) → nodes (renumbered_form s i f) ≡ nodes f
  same_nodes (prefix op f) = ap (λ n. n + 1) (same_nodes f)
  same_nodes (binary op f g) = λ j. same_nodes f j + same_nodes g j + 1
  same_nodes _ = refl

  pub same_literal : (f : Form) → is_literal (renumbered_form s i f) ≡ is_literal f
  same_literal x = grind (arith, common_steps)

  same_prefix : (op : Op1) (f : Form) → folds1 op (renumbered_form s i f) ≡ folds1 op f
  same_prefix x f = grind (arith, common_steps)

  same_sum : (f g : Form) → folds_sum (renumbered_form s i f) (renumbered_form s i g) ≡ folds_sum f g
  same_sum x y = grind (arith, common_steps)

  same_difference : (f g : Form) → HasAll s (sections_in f) → HasAll s (sections_in g) → folds_difference (renumbered_form s i f) (renumbered_form s i g) ≡ folds_difference f g
  same_difference x y p q = grind (arith, common_steps, one_number, left)

  same_binary : (op : Op2) (f g : Form) → HasAll s (sections_in f) → HasAll s (sections_in g) → folds2 op (renumbered_form s i f) (renumbered_form s i g) ≡ folds2 op f g
  same_binary x f g p q = grind (arith, common_steps, same_literal, same_sum, same_difference)

  pub same_normal : (f : Form) → HasAll s (sections_in f) → is_normal (renumbered_form s i f) ≡ is_normal f
  same_normal (prefix op f) h = λ j. same_normal f h j && not (same_prefix op f j)
  same_normal (binary op f g) h =
      let p = first_has s (sections_in f) (sections_in g) h in
      let q = second_has s (sections_in f) (sections_in g) h in
      λ j. same_normal f p j && same_normal g q j && not (same_binary op f g p q j)
  same_normal _ h = refl

  number_within : (keys : List ℕ) (k : ℕ) → has keys k ≡ true → nat_le (number_of keys k + 1) (length keys) ≡ true
  number_within keys k h = let below = number_below keys k h in grind (arith, nat_tests)

  pub now_within : (f : Form) → HasAll s (sections_in f) → HasAll i (imports_in f) → has_valid_indices (length s) (length i) (renumbered_form s i f) ≡ true
  now_within (lit v) h g = refl
  now_within (sec k a) h g = number_within s k (left (has s k) true h)
  now_within (imp k) h g = number_within i k (left (has i k) true g)
  now_within (prefix op f) h g = now_within f h g
  now_within (binary op e f) h g =
      and (has_valid_indices (length s) (length i) (renumbered_form s i e)) (has_valid_indices (length s) (length i) (renumbered_form s i f))
      (now_within e (first_has s (sections_in e) (sections_in f) h) (first_has i (imports_in e) (imports_in f) g))
      (now_within f (second_has s (sections_in e) (sections_in f) h) (second_has i (imports_in e) (imports_in f) g))

  pub good_form : (count : ℕ) (f : Form) → IsWellFormedForm s count f → HasAll i (imports_in f) → is_well_formed_form (length s) (length i) (renumbered_form s i f) ≡ true
  good_form count f sound has_imports = grind (arith, common_steps, same_nodes, nat_tests, and, now_within, same_normal)

-- ---- Distinct keys.

abbrev with_key : List ℕ → ℕ → List ℕ
with_key found k = if has found k then found else found ++ k ∷ []

pub once_distinct : (found ks : List ℕ) → IsDistinct nat_eq found → IsDistinct nat_eq (distinct_keys found ks)
once_distinct found [] d = d
once_distinct found (k ∷ ks) d = once_distinct (with_key found k) ks (by (has found k) refl)
  where
    by : (b : Bool) → has found k ≡ b → IsDistinct nat_eq (if b then found else found ++ k ∷ [])
    by true e = d
    by false e = IsDistinct-push nat_eq_equiv found k d e

-- a property of all keys is one of the distinct keys
pub once_all : (P : ℕ → Type 0) (found ks : List ℕ) → AllByRecursion P found → AllByRecursion P ks → AllByRecursion P (distinct_keys found ks)
once_all P found [] f g = f
once_all P found (k ∷ ks) f g = once_all P (with_key found k) ks (by (has found k)) g.1
  where
    push : (xs : List ℕ) → AllByRecursion P xs → AllByRecursion P (xs ++ k ∷ [])
    push [] h = (g.0, tt)
    push (x ∷ xs) h = (h.0, push xs h.1)

    by : (b : Bool) → AllByRecursion P (if b then found else found ++ k ∷ [])
    by true = f
    by false = push found f

has_more : (found : List ℕ) (k m : ℕ) → has found m ≡ true → has (with_key found k) m ≡ true
has_more found k m h = grind (arith, common_steps)

has_it : (found : List ℕ) (k : ℕ) → has (with_key found k) k ≡ true
has_it found k = grind (arith, common_steps)

once_keeps : (found ks : List ℕ) (m : ℕ) → has found m ≡ true → has (distinct_keys found ks) m ≡ true
once_keeps found [] m h = h
once_keeps found (k ∷ ks) m h = once_keeps (with_key found k) ks m (has_more found k m h)

-- the distinct keys contain each key
pub once_has : (found ks : List ℕ) → HasAll (distinct_keys found ks) ks
once_has found [] = refl
once_has found (k ∷ ks) = and (has (distinct_keys (with_key found k) ks) k) (list_all (has (distinct_keys (with_key found k) ks)) ks) (once_keeps (with_key found k) ks k (has_it found k)) (once_has (with_key found k) ks)
