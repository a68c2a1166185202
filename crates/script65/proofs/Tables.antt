-- A map by names, compared with the list of its entries.
use Rattle.std.proofs.lemmas.Grind.{common_steps}
use Rattle.std.proofs.Common.{arith, ◌≡◌, ℕ, suc, Bool, false, List, [], ◌∷◌, ◌++◌, length, map, Some, None, refl, ap, ◌∙◌, cond, nat_lt, position, is_some}
use Rattle.std.specs.List.{AllByRecursion, list_any, position_or_len}
use Rattle.std.specs.Map.{lookup}
use Rattle.std.specs.Str.{bytes_eq}
use Rattle.indexmap.specs.IndexMap.{insert_entry}
use Rattle.script65.specs.declared.reading.entries.ConfigEntry.{ConfigEntry}
use Rattle.script65.specs.Internal.Tables.{KeysMatchNames}

module _ {X Y Z : Type 0} (f : X → Y) (g : X → Z) (p : Y → Bool) (q : Z → Bool) where
  lengths : (xs : List X) → length (map f xs) ≡ length (map g xs)
  lengths [] = refl
  lengths (x ∷ xs) = ap suc (lengths xs)

  firsts : (xs : List X) → AllByRecursion (λ (x : X). p (f x) ≡ q (g x)) xs → position_or_len p (map f xs) ≡ position_or_len q (map g xs)
  firsts [] h = refl
  firsts (x ∷ xs) h = rw (h.0, firsts xs h.1) refl

  -- the first index is the same in two lists that are mapped from one list
  pub position-same : (xs : List X) → AllByRecursion (λ (x : X). p (f x) ≡ q (g x)) xs → position p (map f xs) ≡ position q (map g xs)
  position-same xs h = ap (λ n. cond (nat_lt n (length (map f xs))) (Some n) None) (firsts xs h) ∙ ap (λ m. cond (nat_lt (position_or_len q (map g xs)) m) (Some (position_or_len q (map g xs))) None) (lengths xs)

module _ {K V : Type 0} (p : K → Bool) (q : V → Bool) where
  abbrev Same : K × V → Type 0
  Same e = p e.0 ≡ q e.1

  -- a key is found if and only if an element satisfies the test
  pub is_some-lookup : (es : List (K × V)) → AllByRecursion Same es → is_some (lookup p es) ≡ list_any q (map (λ e. e.1) es)
  is_some-lookup [] h = refl
  is_some-lookup (e ∷ es) h = grind (arith, common_steps, (is_some-lookup es h.1))

module _ {K V Z : Type 0} (eq : K → K → Bool) (g : K × V → Z) (q : V → Bool) (k : K) (v : V) where
  -- a new key is appended
  pub map-insert_entry : (es : List (K × V)) → AllByRecursion (Same (eq k) q) es → list_any q (map (λ e. e.1) es) ≡ false → map g (insert_entry eq es k v) ≡ map g es ++ g (k, v) ∷ []
  map-insert_entry [] same h = refl
  map-insert_entry (e ∷ es) same h = grind (arith, common_steps, (map-insert_entry es same.1))

-- each entry is found by its own name
module _ {K : Type 0} (key : K → List ℕ) (name : List ℕ) where
  pub by_names : (es : List (K × ConfigEntry)) → KeysMatchNames (map (λ e. (key e.0, e.1)) es) → AllByRecursion (λ (e : K × ConfigEntry). bytes_eq name (key e.0) ≡ bytes_eq name e.1.name) es
  by_names [] h = tt
  by_names (e ∷ es) h = (ap (bytes_eq name) h.0, by_names es h.1)

pub named_too : (es : List (List ℕ × ConfigEntry)) (e : List ℕ × ConfigEntry) → KeysMatchNames es → e.0 ≡ e.1.name → KeysMatchNames (es ++ e ∷ [])
named_too [] e h own = (own, tt)
named_too (f ∷ es) e h own = (h.0, named_too es e h.1 own)

module _ {K : Type 0} (key : K → List ℕ) (eq : K → K → Bool) (is : (k l : K) → eq k l ≡ bytes_eq (key k) (key l)) where
  -- an entry with a new name is appended
  pub pushed : (es : List (K × ConfigEntry)) (k : K) (v : ConfigEntry) (old : List ConfigEntry) → map (λ e. e.1) es ≡ old → key k ≡ v.name → KeysMatchNames (map (λ e. (key e.0, e.1)) es) → list_any (λ (e : ConfigEntry). bytes_eq v.name e.name) old ≡ false → {Z : Type 0} (g : K × ConfigEntry → Z) → map g (insert_entry eq es k v) ≡ map g es ++ g (k, v) ∷ []
  pushed es k v old seen own named new g = map-insert_entry eq g (λ (e : ConfigEntry). bytes_eq v.name e.name) k v es (same es named) (rw seen new)
    where
      same : (es : List (K × ConfigEntry)) → KeysMatchNames (map (λ e. (key e.0, e.1)) es) → AllByRecursion (λ (e : K × ConfigEntry). eq k e.0 ≡ bytes_eq v.name e.1.name) es
      same [] h = tt
      same (e ∷ es) h = (is k e.0 ∙ ap (λ n. bytes_eq n (key e.0)) own ∙ ap (bytes_eq v.name) h.0, same es h.1)
