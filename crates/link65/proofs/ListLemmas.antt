-- Lists: copies of names, tables of names, and pairs of lists.
use Rattle.std.proofs.lemmas.Grind.{common_steps}
use Rattle.std.proofs.Common.{◌≡◌, ◌∙◌, ℕ, List, [], ◌∷◌, map, Result, refl, ap, vec_len, ◌<◌, ◌≤◌, ◌-◌, ◌+◌, Bool, true, false, cond, length, drop, slice_get, add-one, get_or, Option, Some, sym, arith, ◌++◌, append_assoc, append-nil, ◌⊎◌, inl, inr}
use Rattle.std.specs.Prelude.{IfOk, MatchResult, option_map}
use Rattle.std.specs.Global.{Vec}
use Rattle.std.specs.List.{AllZip, position_from, flat_map}
use Rattle.std.specs.Borrow.{Bor}
use Rattle.std.specs.Str.{bytes_eq}
use Rattle.std.proofs.lemmas.List.{drop_all}
use Rattle.script65.proofs.ListLemmas.{drop_at}
use Rattle.std.specs.Option.{option_or}
use Rattle.std.proofs.lemmas.Option.{slice_get_read}
use Rattle.indexmap.specs.IndexMap.{IndexMap}
use Rattle.link65.specs.Placed.{provider_found}
use Rattle.link65.specs.Programs.{position_in, flat_zip}

-- ---- Copies of names.

-- lists with pairwise equal items are equal
same_items : (xs ys : List ℕ) → AllZip (λ x y. y ≡ x) xs ys → ys ≡ xs
same_items [] [] h = refl
same_items [] (y ∷ ys) h = absurd h
same_items (x ∷ xs) [] h = absurd h
same_items (x ∷ xs) (y ∷ ys) h =
    let one : y ≡ x = h.0 in
    let more : ys ≡ xs = same_items xs ys h.1 in
    ap (λ a. a ∷ ys) one ∙ ap (λ b. x ∷ b) more

-- a name is a copy of another
abbrev pub IsCopy : Vec ℕ → Vec ℕ → Type 0
IsCopy v w = AllZip (λ x y. y ≡ x) v.items w.items × (vec_len w ≡ vec_len v)

same_names : (vs ws : List (Vec ℕ)) → AllZip IsCopy vs ws → map (λ n. n.items) ws ≡ map (λ n. n.items) vs
same_names [] [] h = refl
same_names [] (w ∷ ws) h = absurd h
same_names (v ∷ vs) [] h = absurd h
same_names (v ∷ vs) (w ∷ ws) h =
    let one : w.items ≡ v.items = same_items v.items w.items h.0.0 in
    let more = same_names vs ws h.1 in
    ap (λ a. a ∷ map (λ n. n.items) ws) one ∙ ap (λ b. v.items ∷ b) more

pub copied : {S E : Type 0} (keys : S → List (Vec ℕ)) (old : List (Vec ℕ)) (r : Result S E) (Q : E → Type 0) → MatchResult r (λ s. AllZip IsCopy old (keys s)) Q → IfOk r (λ s. map (λ n. n.items) (keys s) ≡ map (λ n. n.items) old)
copied keys old x y h = grind (arith, common_steps, same_names)

-- ---- Tables of names: of several items with the same name the first one counts.

-- the index of the first item with a name, from index `i` on
abbrev pub first_from : {X : Type 0} → (X → List ℕ) → List X → ℕ → List ℕ → Option ℕ
first_from name_of xs i name = position_from (λ x. bytes_eq (name_of x) name) i (drop i xs)

nearer : {A : Type 0} (provided : ℕ → A) (b : Bool) (i : ℕ) (o : Option ℕ) (old mid : Option A) → mid ≡ option_or (option_map provided o) old → cond b (Some (provided i)) mid ≡ option_or (option_map provided (cond b (Some i) o)) old
nearer provided true i o old mid e = refl
nearer provided false i o old mid e = e

module _ {X A S : Type 0} (name_of : X → List ℕ) (provided : ℕ → A) (xs : List X) where
  -- the table contains the items from index `i` on, and otherwise its old items
  abbrev pub AreKnown : ℕ → (List ℕ → Option A) → IndexMap (Bor (List ℕ)) A S → Type 0
  AreKnown i old new = (name : List ℕ) → provider_found new name ≡ option_or (option_map provided (first_from name_of xs i name)) (old name)

  pub known_none : (i : ℕ) (old : List ℕ → Option A) (new : IndexMap (Bor (List ℕ)) A S) → i ≡ length xs → ((name : List ℕ) → provider_found new name ≡ old name) → AreKnown i old new
  known_none i old new all same name =
      same name ∙ sym (ap (λ l. option_or (option_map provided (position_from (λ x. bytes_eq (name_of x) name) i l)) (old name)) (drop_all i xs (omega arith)))

  -- one further item, before the items that were added so far
  pub known_more : (i : ℕ) (x : X) (n : List ℕ) (v : A) (old : List ℕ → Option A) (mid new : IndexMap (Bor (List ℕ)) A S) → 0 < i → i ≤ length xs → x ≡ get_or xs (i - 1) x → n ≡ name_of x → v ≡ provided (i - 1) → ((name : List ℕ) → provider_found new name ≡ cond (bytes_eq n name) (Some v) (provider_found mid name)) → AreKnown i old mid → AreKnown (i - 1) old new
  known_more i x n v old mid new pos le is named same e inv name =
      let next : i - 1 + 1 ≡ i = omega arith in
      let at : slice_get xs (i - 1) ≡ Some x = slice_get_read xs (length xs) (i - 1) x refl (omega arith) is in
      let there : drop (i - 1) xs ≡ x ∷ drop (i - 1 + 1) xs = rw add-one (drop_at xs (i - 1) x at) in
      let known : List X → Option A = λ l. option_or (option_map provided (position_from (λ y. bytes_eq (name_of y) name) (i - 1) l)) (old name) in
      e name
      ∙ ap (λ (m : List ℕ). cond (bytes_eq m name) (Some v) (provider_found mid name)) named
      ∙ ap (λ (w : A). cond (bytes_eq (name_of x) name) (Some w) (provider_found mid name)) same
      ∙ nearer provided (bytes_eq (name_of x) name) (i - 1) (first_from name_of xs (i - 1 + 1) name) (old name) (provider_found mid name) (inv name ∙ sym (ap (λ j. option_or (option_map provided (first_from name_of xs j name)) (old name)) next))
      ∙ sym (ap known there)

  pub known_all : (i : ℕ) (old : List ℕ → Option A) (new : IndexMap (Bor (List ℕ)) A S) → i ≡ 0 → AreKnown i old new → (name : List ℕ) → provider_found new name ≡ option_or (option_map provided (position_in (map name_of xs) name)) (old name)
  known_all i old new none inv name =
      inv name
      ∙ ap (λ j. option_or (option_map provided (first_from name_of xs j name)) (old name)) none
      ∙ ap (λ o. option_or (option_map provided o) (old name)) (mapped 0 xs)
    where
      mapped : (i : ℕ) (ys : List X) → position_from (λ x. bytes_eq (name_of x) name) i ys ≡ position_from (λ n. bytes_eq n name) i (map name_of ys)
      mapped i [] = refl
      mapped i (y ∷ ys) = ap (cond (bytes_eq (name_of y) name) (Some i)) (mapped (i + 1) ys)

-- ---- Pairs of lists.

-- the results for pairs of items; either list may end first
module _ {A B C : Type 0} (f : A → B → List C) where
  pub pair_next : (xs rest : List A) (ys more : List B) (x : A) (y : B) (done next all : List C) → xs ≡ x ∷ rest → ys ≡ y ∷ more → next ≡ done ++ f x y → done ++ flat_zip f xs ys ≡ all → next ++ flat_zip f rest more ≡ all
  pair_next xs rest ys more x y done next all a b e inv = grind (arith, common_steps, append_assoc)

  pub pair_end : {P Q : Type 0} (xs : List A) (ys : List B) (done all : List C) → P ⊎ Q → (P → length xs ≡ 0) → (Q → length ys ≡ 0) → done ++ flat_zip f xs ys ≡ all → done ≡ all
  pair_end {P} {Q} xs ys done all ends first second inv = sym (append-nil done) ∙ ap (λ zs. done ++ zs) (sym (none ends xs ys first second)) ∙ inv
    where
      none : P ⊎ Q → (xs : List A) (ys : List B) → (P → length xs ≡ 0) → (Q → length ys ≡ 0) → flat_zip f xs ys ≡ []
      none h [] ys first second = refl
      none h (x ∷ xs) [] first second = refl
      none (inl p) (x ∷ xs) (y ∷ ys) first second = absurd (omega (arith, first p))
      none (inr q) (x ∷ xs) (y ∷ ys) first second = absurd (omega (arith, second q))

-- pairs of each item and a function of it
pub zip_mapped : {A B C : Type 0} (f : A → B → List C) (g : A → B) (h : A → List C) → ((x : A) → f x (g x) ≡ h x) → (xs : List A) → flat_zip f xs (map g xs) ≡ flat_map h xs
zip_mapped f g h same [] = refl
zip_mapped f g h same (x ∷ xs) = ap (λ l. l ++ flat_zip f xs (map g xs)) (same x) ∙ ap (λ l. h x ++ l) (zip_mapped f g h same xs)
