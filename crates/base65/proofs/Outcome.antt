-- Properties of a part that imply properties of the whole.
use Rattle.std.proofs.Common.{◌≡◌, ◌∙◌, Bool, true, false, Result, Ok, Err, refl, sym}
use Rattle.base65.specs.Outcome.{◌>>=◌, AndThen, RefinesErr, Unless}

module _ {E : Type 0} (is_system_error : E → Bool) where
  pub refused-then : {A B : Type 0} (e : E) (read : Result A E) (f : A → Result B E) → RefinesErr is_system_error e read → RefinesErr is_system_error e (read >>= f)
  refused-then {A} {B} e read f = go (is_system_error e)
    where
      go : (b : Bool) → Unless b (read ≡ Err e) → Unless b ((read >>= f) ≡ Err e)
      go true h = tt
      go false h = rw h refl

-- if `Next` has at most one result for each value of the first part, `AndThen` has at most one result
pub first_once : {E A B : Type 0} (head : Result A E) (Next : A → Result B E → Type 0) (r q : Result B E) → ((x : A) → Next x r → Next x q → r ≡ q) → AndThen head Next r → AndThen head Next q → r ≡ q
first_once (Ok x) Next r q once h k = once x h k
first_once (Err e) Next r q once h k = h ∙ sym k
