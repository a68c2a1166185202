-- Results of calls, for any error type of which some values are system errors (out of memory, or a failure
-- of the store).
use Rattle.std.specs.Prelude.{◌≡◌, Bool, true, false, List, [], ◌∷◌, Result, Ok, Err, ⊤}

infixl 10 ◌>>=◌
abbrev pub ◌>>=◌ : {E A B : Type 0} → Result A E → (A → Result B E) → Result B E
(Ok x) >>= f = f x
(Err e) >>= f = Err e

-- f of each item, up to the first error
abbrev pub try_map : {E A B : Type 0} → (A → Result B E) → List A → Result (List B) E
try_map f [] = Ok []
try_map f (x ∷ xs) = f x >>= (λ y. try_map f xs >>= (λ ys. Ok (y ∷ ys)))

abbrev pub Unless : Bool → Type 0 → Type 0
Unless true P = ⊤
Unless false P = P

-- the error is the spec's error, unless it is a system error
abbrev pub RefinesErr : {E Y : Type 0} → (E → Bool) → E → Result Y E → Type 0
RefinesErr is_system_error e read = Unless (is_system_error e) (read ≡ Err e)

-- the result, mapped by view, equals the spec's result, unless a system error occurred
abbrev pub Refines : {E X Y : Type 0} → (E → Bool) → (X → Y) → Result X E → Result Y E → Type 0
Refines is_system_error view (Ok x) read = read ≡ Ok (view x)
Refines is_system_error view (Err e) read = RefinesErr is_system_error e read

-- the relation Next for the value of the first result; an error of that is passed on
abbrev pub AndThen : {E A B : Type 0} → Result A E → (A → Result B E → Type 0) → Result B E → Type 0
AndThen (Ok x) Next r = Next x r
AndThen (Err e) Next r = r ≡ Err e

-- the result satisfies P, unless it is a system error
abbrev pub RefinesProp : {E A : Type 0} → (E → Bool) → (Result A E → Type 0) → Result A E → Type 0
RefinesProp is_system_error P (Ok x) = P (Ok x)
RefinesProp is_system_error P (Err e) = Unless (is_system_error e) (P (Err e))
