-- Lists that are built element by element, and how errors propagate.
use Rattle.std.proofs.lemmas.Grind.{common_steps}
use Rattle.std.proofs.Common.{◌≡◌, ◌<◌, ◌≤◌, ◌+◌, ℕ, zero, suc, add-one, get_or, List, [], ◌∷◌, ◌++◌, length, map, drop, slice_get, Option, Some, None, refl, sym, ap, ◌∙◌, Ok, Err, Bool, true, false, arith}
use Rattle.std.specs.Prelude.{Result}
use Rattle.std.specs.Option.{option_map}
use Rattle.std.proofs.lemmas.Option.{slice_get_read}
use Rattle.base65.specs.Outcome.{try_map, ◌>>=◌, Unless}

-- ---- Lists that are built element by element.

pub drop_at : {A : Type 0} (xs : List A) (n : ℕ) (x : A) → slice_get xs n ≡ Some x → drop n xs ≡ x ∷ drop (suc n) xs
drop_at [] n x h = absurd cc
drop_at (y ∷ ys) zero x h = let e : y ≡ x = cc in ap (λ z. z ∷ ys) e
drop_at (y ∷ ys) (suc n) x h = drop_at ys n x h

-- a suffix begins with the element at its index
pub drop_item : {A : Type 0} (xs : List A) (i : ℕ) (x : A) → i < length xs → x ≡ get_or xs i x → drop i xs ≡ x ∷ drop (i + 1) xs
drop_item xs i x lt e = rw add-one (drop_at xs i x (slice_get_read xs (length xs) i x refl lt e))

pub drop_end : {A : Type 0} (xs : List A) (n : ℕ) → slice_get xs n ≡ None → drop n xs ≡ []
drop_end [] zero h = refl
drop_end [] (suc n) h = refl
drop_end (y ∷ ys) zero h = absurd cc
drop_end (y ∷ ys) (suc n) h = drop_end ys n h

pub longer : {A : Type 0} (xs : List A) (x : A) → length (xs ++ x ∷ []) ≡ suc (length xs)
longer [] x = refl
longer (y ∷ ys) x = ap suc (longer ys x)

pub append_none : {A : Type 0} (xs : List A) → xs ++ [] ≡ xs
append_none [] = refl
append_none (x ∷ xs) = ap (λ l. x ∷ l) (append_none xs)

pub regroup : {A : Type 0} (xs : List A) (x : A) (ys : List A) → (xs ++ x ∷ []) ++ ys ≡ xs ++ x ∷ ys
regroup [] x ys = refl
regroup (y ∷ xs) x ys = ap (λ l. y ∷ l) (regroup xs x ys)

pub map_step : {A B : Type 0} (f : A → B) (done : List B) (xs : List A) (x : A) (y : B) → done ++ map f (drop (length done) xs) ≡ map f xs → slice_get xs (length done) ≡ Some x → y ≡ f x → (done ++ y ∷ []) ++ map f (drop (length (done ++ y ∷ [])) xs) ≡ map f xs
map_step f done xs x y inv at e = grind (arith, common_steps, longer, regroup, drop_at)

pub map_end : {A B : Type 0} (f : A → B) (done : List B) (xs : List A) → done ++ map f (drop (length done) xs) ≡ map f xs → slice_get xs (length done) ≡ None → done ≡ map f xs
map_end f done xs inv at = sym (ap (λ l. done ++ map f l) (drop_end xs (length done) at) ∙ append_none done) ∙ inv

-- the elements so far, followed by the rest
abbrev pub following : {E B : Type 0} → List B → Result (List B) E → Result (List B) E
following done rest = rest >>= (λ ys. Ok (done ++ ys))

after_one : {E B : Type 0} (done : List B) (y : B) (rest : Result (List B) E) → following done (rest >>= (λ ys. Ok (y ∷ ys))) ≡ following (done ++ y ∷ []) rest
after_one done y x = grind (arith, common_steps)

pub each_step : {E A B : Type 0} (f : A → Result B E) (done : List B) (xs : List A) (x : A) (y : B) → following done (try_map f (drop (length done) xs)) ≡ try_map f xs → slice_get xs (length done) ≡ Some x → f x ≡ Ok y → following (done ++ y ∷ []) (try_map f (drop (length (done ++ y ∷ [])) xs)) ≡ try_map f xs
each_step f done xs x y inv at e =
    ap (λ n. following (done ++ y ∷ []) (try_map f (drop n xs))) (longer done y)
    ∙ sym (after_one done y (try_map f (drop (suc (length done)) xs)))
    ∙ sym (ap (λ r. following done (r >>= λ y. try_map f (drop (suc (length done)) xs) >>= λ ys. Ok (y ∷ ys))) e)
    ∙ sym (ap (λ l. following done (try_map f l)) (drop_at xs (length done) x at))
    ∙ inv

pub each_stops : {E A B : Type 0} (f : A → Result B E) (done : List B) (xs : List A) (x : A) (e : E) → following done (try_map f (drop (length done) xs)) ≡ try_map f xs → slice_get xs (length done) ≡ Some x → f x ≡ Err e → try_map f xs ≡ Err e
each_stops f done xs x e inv at h = grind (arith, common_steps, drop_at)

pub each_end : {E A B : Type 0} (f : A → Result B E) (done : List B) (xs : List A) → following done (try_map f (drop (length done) xs)) ≡ try_map f xs → slice_get xs (length done) ≡ None → try_map f xs ≡ Ok done
each_end f done xs inv at = grind (arith, common_steps, drop_end, append_none)

-- no element, mapped by `f`
pub none_mapped : {A B : Type 0} (f : A → B) (o : Option A) (s : Option B) → ((x : A) → o ≡ Some x → ⊥) → option_map f o ≡ s → s ≡ None
none_mapped f x s h e = grind (arith, common_steps)

-- ---- Elements in order, and how errors propagate.

-- an error of a part is an error of the whole
pub unless_map : (P Q : Type 0) (b : Bool) → (P → Q) → Unless b P → Unless b Q
unless_map P Q true g h = tt
unless_map P Q false g h = g h
