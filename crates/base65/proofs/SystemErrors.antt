-- Results that are no system errors, by their parts.
use Rattle.std.proofs.Common.{◌≡◌, Bool, true, false, List, [], ◌∷◌, Result, Ok, Err, refl, if◌then◌else◌}
use Rattle.base65.specs.Outcome.{◌>>=◌, AndThen, try_map}
use Rattle.base65.specs.SystemErrors.{IsNoSystemError}

-- the property as a record, from which proofs infer the predicate
pub record Own {E A : Type 0} (is_system_error : E → Bool) (r : Result A E) : Type 0 where
  pub own : IsNoSystemError is_system_error r

pub good : {E A : Type 0} {is_system_error : E → Bool} (x : A) → Own is_system_error (Ok x)
good x = record { own = tt }

pub bad : {E A : Type 0} {is_system_error : E → Bool} (e : E) → is_system_error e ≡ false → Own {A = A} is_system_error (Err e)
bad e h = record { own = h }

-- one result followed by another
pub next : {E A B : Type 0} {is_system_error : E → Bool} (r : Result A E) (f : A → Result B E) → Own is_system_error r → ((x : A) → Own is_system_error (f x)) → Own is_system_error (r >>= f)
next (Ok x) f h k = k x
next (Err e) f h k = record { own = h.own }

pub choice : {E A : Type 0} {is_system_error : E → Bool} (b : Bool) (r s : Result A E) → Own is_system_error r → Own is_system_error s → Own is_system_error (if b then r else s)
choice true r s h k = h
choice false r s h k = k

pub each_own : {E A B : Type 0} {is_system_error : E → Bool} (f : A → Result B E) → ((x : A) → Own is_system_error (f x)) → (xs : List A) → Own is_system_error (try_map f xs)
each_own f own [] = good []
each_own f own (x ∷ xs) = next (f x) _ (own x) (λ y. next (try_map f xs) _ (each_own f own xs) (λ ys. good (y ∷ ys)))

-- there is a result in the relation, and it is no system error
abbrev pub Has : {E A : Type 0} → (E → Bool) → (Result A E → Type 0) → Type 0
Has {E} {A} is_system_error Is = (r : Result A E) × Is r × Own is_system_error r

-- if `Next` has a result for each value of the first part, `AndThen` has a result
pub first_own : {E A B : Type 0} (is_system_error : E → Bool) (head : Result A E) (Next : A → Result B E → Type 0) → Own is_system_error head → ((x : A) → Has is_system_error (Next x)) → Has is_system_error (AndThen head Next)
first_own is_system_error (Ok x) Next h some = some x
first_own is_system_error (Err e) Next h some = (Err e, refl, record { own = h.own })
