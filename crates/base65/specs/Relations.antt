-- Results of calls that a relation describes, for any error type of which some values are system errors.
use Rattle.std.specs.Prelude.{Bool, Result, Ok, Err}
use Rattle.base65.specs.Outcome.{Unless}

-- the result, mapped by view, satisfies the relation, unless a system error occurred
abbrev pub RefinesRel : {E X Y : Type 0} → (E → Bool) → (X → Y) → Result X E → (Result Y E → Type 0) → Type 0
RefinesRel is_system_error view (Ok x) IsAnswer = IsAnswer (Ok (view x))
RefinesRel is_system_error view (Err e) IsAnswer = Unless (is_system_error e) (IsAnswer (Err e))
