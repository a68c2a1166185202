-- Steps of a loop that finds or changes one item at a time.
use Rattle.std.proofs.Common.{◌≡◌, ◌∙◌, ℕ, zero, suc, ◌+◌, ◌<◌, Bool, true, false, List, [], ◌∷◌, ◌++◌, length, get_or, slice_get, drop, map, Some, refl, sym, ap, add-one, append_assoc, arith, Result, Ok, Err}
use Rattle.std.specs.Borrow.{Bor}
use Rattle.base65.specs.Outcome.{◌>>=◌, RefinesErr, Unless, try_map}
use Rattle.ar65.specs.Librarian.{member_name}

-- the result of the rest, with the items found so far before it
abbrev pub ahead : {E A : Type 0} → List A → Result (List A) E → Result (List A) E
ahead found r = r >>= (λ more. Ok (found ++ more))

further : {E B : Type 0} (found : List B) (y : B) (r : Result (List B) E) → ahead (found ++ y ∷ []) r ≡ ahead found (r >>= (λ ys. Ok (y ∷ ys)))
further found y (Ok ys) = ap Ok (append_assoc found (y ∷ []) ys)
further found y (Err e) = refl

-- the step of an item that is found
pub each_one : {E A B : Type 0} (f : A → Result B E) (found : List B) (left : List A) (x : A) (more : List A) (y : B) → left ≡ x ∷ more → f x ≡ Ok y → ahead (found ++ y ∷ []) (try_map f more) ≡ ahead found (try_map f left)
each_one f found left x more y l e =
    further found y (try_map f more)
    ∙ sym (ap (λ r. ahead found (r >>= (λ z. try_map f more >>= (λ zs. Ok (z ∷ zs))))) e)
    ∙ sym (ap (λ xs. ahead found (try_map f xs)) l)

-- the step of an item that isn't found
pub each_none : {E A B : Type 0} (f : A → Result B E) (found : List B) (left : List A) (x : A) (more : List A) (e : E) → left ≡ x ∷ more → f x ≡ Err e → ahead found (try_map f left) ≡ Err e
each_none f found left x more e l h =
    ap (λ xs. ahead found (try_map f xs)) l
    ∙ ap (λ r. ahead found (r >>= (λ z. try_map f more >>= (λ zs. Ok (z ∷ zs))))) h

-- if every error of a part is the error of the whole, so is an error up to `is_out`
pub refused_so : {E A B : Type 0} (is_out : E → Bool) (e : E) (part : Result A E) (whole : Result B E) → (part ≡ Err e → whole ≡ Err e) → RefinesErr is_out e part → RefinesErr is_out e whole
refused_so is_out e part whole f h = go (is_out e) h
  where
    go : (b : Bool) → Unless b (part ≡ Err e) → Unless b (whole ≡ Err e)
    go true h = tt
    go false h = f h

next_here : {B : Type 0} (f : Bor (List ℕ) → B) (files : List (Bor (List ℕ))) (k : ℕ) (x : Bor (List ℕ)) → k < length files → drop k (map f files) ≡ f (get_or files k x) ∷ drop (suc k) (map f files)
next_here f [] k x h = absurd (omega arith)
next_here f (y ∷ ys) zero x h = refl
next_here f (y ∷ ys) (suc k) x h = next_here f ys k x (omega (arith, h))

-- the next name of the command line, and the rest
pub name_next : {B : Type 0} (f : Bor (List ℕ) → B) (files : List (Bor (List ℕ))) (k : ℕ) (x : Bor (List ℕ)) → k < length files → drop k (map f files) ≡ f (get_or files k x) ∷ drop (k + 1) (map f files)
name_next f files k x h = rw add-one (next_here f files k x h)

pub name_there : (files : List (Bor (List ℕ))) (k : ℕ) (x : Bor (List ℕ)) → k < length files → slice_get (map (λ s. s.now) files) k ≡ Some (get_or files k x).now
name_there [] k x h = absurd (omega arith)
name_there (y ∷ ys) zero x h = refl
name_there (y ∷ ys) (suc k) x h = name_there ys k x (omega (arith, h))

member_here : (files : List (Bor (List ℕ))) (k : ℕ) (x : Bor (List ℕ)) → k < length files → drop k (map member_name (map (λ s. s.now) files)) ≡ member_name (get_or files k x).now ∷ drop (suc k) (map member_name (map (λ s. s.now) files))
member_here [] k x h = absurd (omega arith)
member_here (y ∷ ys) zero x h = refl
member_here (y ∷ ys) (suc k) x h = member_here ys k x (omega (arith, h))

-- the same for the members' names
pub member_next : (files : List (Bor (List ℕ))) (k : ℕ) (x : Bor (List ℕ)) → k < length files → drop k (map member_name (map (λ s. s.now) files)) ≡ member_name (get_or files k x).now ∷ drop (k + 1) (map member_name (map (λ s. s.now) files))
member_next files k x h = rw add-one (member_here files k x h)
