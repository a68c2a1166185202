-- Names in insertion order, found through a set.
use Rattle.std.proofs.lemmas.Grind.{common_steps}
use Rattle.std.proofs.Common.{arith, ◌≡◌, Bool, List, [], ◌∷◌, ◌||◌, ◌++◌, map, refl, ap, ◌∙◌, append_assoc, false, ℕ, nat_eq, if◌then◌else◌}
use Rattle.std.specs.List.{list_any}
use Rattle.std.proofs.lemmas.List.{map-append}
use Rattle.std.specs.Cmp.Lexicographic.{pointwise}
use Rattle.object65.specs.Objects.{is_among}

-- ---- Combinations of std's list functions.

pub list_any-map : {A B : Type 0} (p : B → Bool) (f : A → B) (xs : List A) → list_any p (map f xs) ≡ list_any (λ x. p (f x)) xs
list_any-map p f [] = refl
list_any-map p f (x ∷ xs) = ap (λ b. p (f x) || b) (list_any-map p f xs)

-- three appended lists
pub joined : {A : Type 0} (old a b c m n new : List A) → m ≡ old ++ a → n ≡ m ++ b → new ≡ n ++ c → new ≡ old ++ (a ++ (b ++ c))
joined old a b c m n new p q r = r ∙ ap (λ xs. xs ++ c) (q ∙ ap (λ xs. xs ++ b) p) ∙ append_assoc (old ++ a) b c ∙ append_assoc old a (b ++ c)

-- ---- Names in insertion order, found through a set.

-- a new name is appended
pub pushed_name : {A : Type 0} (f : A → List ℕ) (ks : List A) (k : A) (names : List (List ℕ)) → map f ks ≡ names → is_among names (f k) ≡ false → map f (if list_any (λ y. pointwise nat_eq (f k) (f y)) ks then ks else ks ++ k ∷ []) ≡ names ++ f k ∷ []
pushed_name f ks k names same new = grind (arith, common_steps, list_any-map, map-append)
