-- Results that are no system error.
use Rattle.std.specs.Prelude.{◌≡◌, Bool, false, Result, IfErr}

-- a success, or an error other than a system error
abbrev pub IsNoSystemError : {E A : Type 0} → (E → Bool) → Result A E → Type 0
IsNoSystemError is_system_error r = IfErr r (λ e. is_system_error e ≡ false)
