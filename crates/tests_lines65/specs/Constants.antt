-- The values of expressions without names.
use Rattle.std.specs.Prelude.{ℤ, pos, Bool, Option, Some, None}
use Rattle.syntax65.specs.Trees.{Tree, number, unary, binary}
use Rattle.base65.specs.Values.{value1, value2}
use Rattle.base65.specs.declared.values.Op1.{Op1}
use Rattle.base65.specs.declared.values.Op2.{Op2}
use Rattle.expand65.specs.State.{EnvironmentView}

abbrev pub of_one : Op1 → Option ℤ → Option ℤ
of_one op None = None
of_one op (Some a) = Some (value1 op a)

abbrev pub of_two : Op2 → Option ℤ → Option ℤ → Option ℤ
of_two op (Some a) (Some b) = value2 op a b
of_two op _ _ = None

abbrev pub value_of : Tree → Option ℤ
value_of (number n) = Some (pos n)
value_of (unary op t) = of_one op (value_of t)
value_of (binary op t u) = of_two op (value_of t) (value_of u)
value_of _ = None

-- all names are defined, or none
abbrev pub meaning_of : Bool → EnvironmentView
meaning_of all = record { value = value_of; defined = λ is_global parts. all }
