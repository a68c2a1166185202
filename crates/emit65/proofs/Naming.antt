-- The names of files, by their indices in a table of distinct names.
use Rattle.std.proofs.Common.{◌≡◌, ◌∙◌, ℕ, ◌<◌, Bool, true, false, cond, get_or, List, [], ◌∷◌, ◌++◌, length, map, position, Some, None, refl, sym, ap, arith, append-nil, ◌+◌, not, ◌||◌, nat_eq, nat_lt}
use Rattle.std.specs.Prelude.{slice_get, if◌then◌else◌}
use Rattle.std.specs.List.{position_or_len, AllByRecursion, IsDistinct, list_any}
use Rattle.std.specs.Str.{bytes_eq}
use Rattle.std.proofs.lemmas.Bool.Decides.{nat_tests}
use Rattle.std.proofs.lemmas.List.Sums.{passes_at_first}
use Rattle.std.proofs.lemmas.Option.{slice_get-get_or, unwrap_or-slice_get}
use Rattle.ast65.proofs.Lists.{same_bytes, bytes_swap, position_mapped}
use Rattle.emit65.specs.SectionContents.{IsPrefix}
use Rattle.std.proofs.lemmas.Grind.{common_steps}
use Rattle.std.proofs.lemmas.List.{map-append}
use Rattle.std.proofs.lemmas.Map.Keys.{IsDistinct-cons, IsDistinct-head, IsDistinct-tail, apart_from_distinct}
use Rattle.std.proofs.lemmas.Slice.Eq.{bytes_eq-Decides}
use Rattle.semantics65.specs.Numbering.{name_of, distinct_names, distinct_keys}
use Rattle.emit65.proofs.ConcatenatedItems.{all_more}

-- ---- A table of distinct names of files.

-- the item at the position of a name is this name
pub named_there : (names : List (List ℕ)) (n : List ℕ) (i : ℕ) → position (bytes_eq n) names ≡ Some i → slice_get names i ≡ Some n
named_there names n i e = by (nat_lt at (length names)) refl e
  where
    at : ℕ
    at = position_or_len (bytes_eq n) names

    by : (b : Bool) → nat_lt at (length names) ≡ b → cond b (Some at) None ≡ Some i → slice_get names i ≡ Some n
    by true q e =
        let lt : at < length names = grind (arith, nat_tests) in
        let here : at ≡ i = cc in
        ap (slice_get names) (sym here) ∙ slice_get-get_or names at [] lt
        ∙ ap Some (sym (same_bytes n (get_or names at []) (passes_at_first (bytes_eq n) names [] lt)))
    by false q e = absurd cc

map_more : {A : Type 0} (f : A → List ℕ) (xs : List A) (x : A) → map f (xs ++ x ∷ []) ≡ map f xs ++ f x ∷ []
map_more f [] x = refl
map_more f (y ∷ xs) x = ap (λ l. f y ∷ l) (map_more f xs x)

-- the names before an insertion are a prefix of those after it
pub begins_inserted : {A : Type 0} (f : A → List ℕ) (known new : List A) (x : A) (b : Bool) → new ≡ (if b then known else known ++ x ∷ []) → IsPrefix (map f known) (map f new)
begins_inserted f known new x true e = ([], ap (map f) e ∙ sym (append-nil (map f known)))
begins_inserted f known new x false e = (f x ∷ [], ap (map f) e ∙ map_more f known x)

-- ---- Positions and distinct names.

pub any_below : {A : Type 0} (p : A → Bool) (xs : List A) → list_any p xs ≡ true → position_or_len p xs < length xs
any_below p [] h = absurd cc
any_below p (x ∷ xs) h = grind (arith, common_steps, (any_below p xs))

pub position_at : {A : Type 0} (p : A → Bool) (xs : List A) → position_or_len p xs < length xs → position p xs ≡ Some (position_or_len p xs)
position_at p xs lt = grind (arith, common_steps)

pub itself : (n : List ℕ) → bytes_eq n n ≡ true
itself n = grind (arith, bytes_eq-Decides n n)

nothing_twice : IsDistinct bytes_eq []
unfolding IsDistinct
nothing_twice = tt

-- items that are distinct by their names have distinct names
pub distinct_mapped : {A : Type 0} (f : A → List ℕ) (xs : List A) → IsDistinct (λ a b. bytes_eq (f a) (f b)) xs → IsDistinct bytes_eq (map f xs)
distinct_mapped f [] d = nothing_twice
distinct_mapped f (x ∷ xs) d =
    IsDistinct-cons bytes_eq (f x) (map f xs) (apart xs (IsDistinct-head (λ a b. bytes_eq (f a) (f b)) x xs d))
    (distinct_mapped f xs (IsDistinct-tail (λ a b. bytes_eq (f a) (f b)) x xs d))
  where
    apart : (ys : List _) → AllByRecursion (λ b. bytes_eq (f x) (f b) ≡ false) ys → AllByRecursion (λ m. bytes_eq (f x) m ≡ false) (map f ys)
    apart [] h = tt
    apart (y ∷ ys) h = (h.0, apart ys h.1)

module _ (files : List (List ℕ)) (apart : IsDistinct bytes_eq files) where
  abbrev pub AreBelow : List ℕ → Type 0
  AreBelow ks = AllByRecursion (λ k. k < length files) ks

  name_at : (k : ℕ) → name_of files k ≡ get_or files k []
  name_at k = unwrap_or-slice_get files k []

  -- the names at two indices are equal if and only if the indices are
  one_name : (k j : ℕ) → k < length files → j < length files → bytes_eq (name_of files k) (name_of files j) ≡ nat_eq k j
  one_name k j below_k below_j = by (nat_eq k j) refl
    where
      differ : (c : Bool) → nat_lt k j ≡ c → nat_eq k j ≡ false → bytes_eq (get_or files k []) (get_or files j []) ≡ false
      differ true e other = let lt : k < j = grind (arith, nat_tests) in apart_from_distinct bytes_eq files k j [] apart lt below_j
      differ false e other =
          let lt : j < k = grind (arith, nat_tests) in
          bytes_swap (get_or files k []) (get_or files j []) ∙ apart_from_distinct bytes_eq files j k [] apart lt below_k

      by : (b : Bool) → nat_eq k j ≡ b → bytes_eq (name_of files k) (name_of files j) ≡ b
      by true e =
          let same : k ≡ j = grind (arith, nat_tests) in
          ap (λ n. bytes_eq (name_of files k) (name_of files n)) (sym same) ∙ itself (name_of files k)
      by false e = (λ n. bytes_eq (name_at k n) (name_at j n)) ∙ differ (nat_lt k j) refl e

  first_same : (k : ℕ) (order : List ℕ) → k < length files → AreBelow order → position_or_len (λ j. bytes_eq (name_of files k) (name_of files j)) order ≡ position_or_len (nat_eq k) order
  first_same k [] lt below = refl
  first_same k (j ∷ order) lt below = λ n. cond (not (one_name k j lt below.0 n)) (1 + first_same k order lt below.1 n) 0

  -- the position of a name in a list of names is the position of its index in the list of indices
  pub found_by : (k : ℕ) (order : List ℕ) → k < length files → AreBelow order → position (bytes_eq (name_of files k)) (map (name_of files) order) ≡ position (nat_eq k) order
  found_by k order lt below =
      position_mapped (bytes_eq (name_of files k)) (name_of files) order
      ∙ ap (λ m. cond (nat_lt m (length order)) (Some m) None) (first_same k order lt below)

  any_same : (k : ℕ) (found : List ℕ) → k < length files → AreBelow found → list_any (bytes_eq (name_of files k)) (map (name_of files) found) ≡ list_any (nat_eq k) found
  any_same k [] lt below = refl
  any_same k (j ∷ found) lt below = λ n. one_name k j lt below.0 n || any_same k found lt below.1 n

  -- the distinct names of a list of indices are the names of its distinct indices
  pub once_named : (found ks : List ℕ) → AreBelow found → AreBelow ks → distinct_names (map (name_of files) found) (map (name_of files) ks) ≡ map (name_of files) (distinct_keys found ks)
  once_named found [] f g = refl
  once_named found (k ∷ ks) f g =
      ap (λ b. distinct_names (if b then map (name_of files) found else map (name_of files) found ++ name_of files k ∷ []) (map (name_of files) ks)) (any_same k found g.0 f)
      ∙ by (list_any (nat_eq k) found) (once_named found ks f g.1)
      (once_named (found ++ k ∷ []) ks (all_more (λ k. k < length files) found (k ∷ []) f (g.0, tt)) g.1)
    where
      push : map (name_of files) found ++ name_of files k ∷ [] ≡ map (name_of files) (found ++ k ∷ [])
      push = sym (map-append (name_of files) found (k ∷ []))

      by : (b : Bool) →
          distinct_names (map (name_of files) found) (map (name_of files) ks) ≡ map (name_of files) (distinct_keys found ks) →
          distinct_names (map (name_of files) (found ++ k ∷ [])) (map (name_of files) ks) ≡ map (name_of files) (distinct_keys (found ++ k ∷ []) ks) →
          distinct_names (if b then map (name_of files) found else map (name_of files) found ++ name_of files k ∷ []) (map (name_of files) ks) ≡ map (name_of files) (distinct_keys (if b then found else found ++ k ∷ []) ks)
      by true old new = old
      by false old new = ap (λ ns. distinct_names ns (map (name_of files) ks)) push ∙ new

  -- ---- Names of a list of indices.

  pub record IsNaming (ks : List ℕ) (ns : List (List ℕ)) : Type 0 where
    pub names : map (name_of files) ks ≡ ns
    pub below : AreBelow ks

  pub naming_none : IsNaming [] []
  naming_none = record { names = refl; below = tt }

  pub naming_more : (ks js : List ℕ) (ns ms : List (List ℕ)) → IsNaming ks ns → IsNaming js ms → IsNaming (ks ++ js) (ns ++ ms)
  naming_more ks js ns ms a b = grind (arith, common_steps)

  pub naming_one : (k : ℕ) → k < length files → IsNaming (k ∷ []) (name_of files k ∷ [])
  naming_one k lt = record { names = refl; below = (lt, tt) }
