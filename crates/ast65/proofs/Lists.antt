-- Lemmas about lists, names and results that several crates use.
use Rattle.std.proofs.Common.{◌≡◌, ℕ, zero, suc, ◌+◌, ◌<◌, Bool, true, false, cond, List, [], ◌∷◌, length, map, drop, get_or, position, Some, refl, sym, ap, ◌∙◌, subst, arith}
use Rattle.std.specs.Prelude.{OnOk, Result, Ok, Err}
use Rattle.std.specs.List.{position_from}
use Rattle.std.specs.Str.{bytes_eq}
use Rattle.std.proofs.lemmas.Iterator.Adapters.{position_from-zero}
use Rattle.std.proofs.lemmas.Slice.Eq.{bytes_eq-Decides}

-- ---- Lists.

-- the rest of a list from an index begins with the item at that index
pub drop_item : {A : Type 0} (xs : List A) (i : ℕ) (x : A) → i < length xs → x ≡ get_or xs i x → drop i xs ≡ x ∷ drop (suc i) xs
drop_item [] i x lt e = absurd (omega arith)
drop_item (y ∷ xs) zero x lt e = ap (λ z. z ∷ xs) (sym e)
drop_item (y ∷ xs) (suc i) x lt e = drop_item xs i x (omega arith) e

pub map_length : {A B : Type 0} (f : A → B) (xs : List A) → length (map f xs) ≡ length xs
map_length f [] = refl
map_length f (x ∷ xs) = ap suc (map_length f xs)

from_mapped : {A B : Type 0} (p : B → Bool) (f : A → B) (i : ℕ) (xs : List A) → position_from p i (map f xs) ≡ position_from (λ x. p (f x)) i xs
from_mapped p f i [] = refl
from_mapped p f i (x ∷ xs) = ap (cond (p (f x)) (Some i)) (from_mapped p f (i + 1) xs)

pub position_mapped : {A B : Type 0} (p : B → Bool) (f : A → B) (xs : List A) → position p (map f xs) ≡ position (λ x. p (f x)) xs
position_mapped p f xs = position_from-zero p (map f xs) ∙ from_mapped p f 0 xs ∙ sym (position_from-zero (λ x. p (f x)) xs)

-- ---- Names.

-- two names with the same bytes are equal
pub same_bytes : (xs ys : List ℕ) → bytes_eq xs ys ≡ true → xs ≡ ys
same_bytes xs ys e = grind (arith, bytes_eq-Decides xs ys)

pub bytes_swap : (xs ys : List ℕ) → bytes_eq xs ys ≡ bytes_eq ys xs
bytes_swap xs ys = by (bytes_eq xs ys) (bytes_eq ys xs) (λ e. same_bytes xs ys e) (λ e. same_bytes ys xs e) (λ e. subst (λ zs. bytes_eq ys zs ≡ true) e (itself ys)) (λ e. subst (λ zs. bytes_eq xs zs ≡ true) e (itself xs))
  where
    itself : (zs : List ℕ) → bytes_eq zs zs ≡ true
    itself zs = grind (arith, bytes_eq-Decides zs zs)

    by : (b c : Bool) → (b ≡ true → xs ≡ ys) → (c ≡ true → ys ≡ xs) → (ys ≡ xs → c ≡ true) → (xs ≡ ys → b ≡ true) → b ≡ c
    by true true f g h k = refl
    by false false f g h k = refl
    by true false f g h k = sym (h (sym (f refl)))
    by false true f g h k = k (sym (g refl))

-- ---- Results.

pub on_ok : {A E P Q : Type 0} (r : Result A E) → (P → Q) → OnOk r P → OnOk r Q
on_ok (Ok x) f h = f h
on_ok (Err e) f h = tt
