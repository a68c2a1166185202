-- The value of a form, for some base addresses of sections and some values of imports. The error `none`
-- means that an operation has no value; imports may have other errors.
use Rattle.std.specs.Prelude.{ℕ, ℤ, ◌+ℤ◌, Option, Some, None, Result, Ok, Err}
use Rattle.base65.specs.declared.values.Op1.{Op1}
use Rattle.base65.specs.declared.values.Op2.{Op2}
use Rattle.base65.specs.Outcome.{◌>>=◌}
use Rattle.base65.specs.Values.{value1, value2, wrap_signed}
use Rattle.object65.specs.Form.{Form, lit, sec, imp, prefix, binary}

abbrev pub or_none : {E : Type 0} → E → Option ℤ → Result ℤ E
or_none none (Some v) = Ok v
or_none none None = Err none

abbrev pub value_in : {E : Type 0} → E → (ℕ → ℤ) → (ℕ → Result ℤ E) → Form → Result ℤ E
value_in none bases imports (lit v) = Ok v
value_in none bases imports (sec k a) = Ok (wrap_signed (bases k +ℤ a))
value_in none bases imports (imp j) = imports j
value_in none bases imports (prefix op f) = value_in none bases imports f >>= (λ a. Ok (value1 op a))
value_in none bases imports (binary op f g) = value_in none bases imports f >>= (λ a. value_in none bases imports g >>= (λ b. or_none none (value2 op a b)))

-- the value of an operation on a form, whether or not it is folded
abbrev pub value_of_one : {E : Type 0} → E → (ℕ → ℤ) → (ℕ → Result ℤ E) → Op1 → Form → Result ℤ E
value_of_one none bases imports op f = value_in none bases imports f >>= (λ a. Ok (value1 op a))

-- likewise on two forms; the left one is evaluated first
abbrev pub value_of_two : {E : Type 0} → E → (ℕ → ℤ) → (ℕ → Result ℤ E) → Op2 → Form → Form → Result ℤ E
value_of_two none bases imports op f g = value_in none bases imports f >>= (λ a. value_in none bases imports g >>= (λ b. or_none none (value2 op a b)))
