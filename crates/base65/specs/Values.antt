-- The values of operators.
use Rattle.std.specs.Prelude.{◌/◌, ◌%◌, ◌^◌, ℤ, pos, negsuc, ◌-ℤ◌, ◌+ℤ◌, ◌*ℤ◌, neg_ℤ, Bool, true, false, not, ◌&&◌, ◌||◌, Option, Some, None, int_div, int_rem, int_lt, int_le, nat_lt, if◌then◌else◌}
use Rattle.std.specs.Int.{w64, int_wrap, int_div_euclid, int_bit_and, int_bit_or, int_bit_xor, cast_unsigned}
use Rattle.std.specs.Ordering.{int_eq}
use Rattle.base65.specs.declared.values.Op1.{Op1}
use Rattle.base65.specs.declared.values.Op1.TheVariants.{Plus, Negate, BitNot, LowByte, HighByte, BankByte, Not}
use Rattle.base65.specs.declared.values.Op2.{Op2}
use Rattle.base65.specs.declared.values.Op2.TheVariants.{Multiply, Divide, Modulo, BitAnd, BitXor, ShiftLeft, ShiftRight, Add, Subtract, BitOr, Equal, NotEqual, Less, Greater, LessOrEqual, GreaterOrEqual, And, Xor, Or}

-- the integer modulo 2 ^ 64, in the signed 64-bit range
abbrev pub wrap_signed : ℤ → ℤ
wrap_signed z = int_wrap w64 z

abbrev pub truth : Bool → ℤ
truth true = pos 1
truth false = pos 0

-- every number except 0 is true
abbrev pub is_true : ℤ → Bool
is_true a = not (int_eq a (pos 0))

abbrev pub exclusive_or : Bool → Bool → Bool
exclusive_or true b = not b
exclusive_or false b = b

abbrev pub value1 : Op1 → ℤ → ℤ
value1 Plus a = a
value1 Negate a = wrap_signed (neg_ℤ a)
value1 BitNot a = neg_ℤ a -ℤ pos 1
value1 LowByte a = pos (cast_unsigned w64 a % 2 ^ 8)
value1 HighByte a = pos (cast_unsigned w64 a / 2 ^ 8 % 2 ^ 8)
value1 BankByte a = pos (cast_unsigned w64 a / 2 ^ 16 % 2 ^ 8)
value1 Not a = truth (not (is_true a))

-- a formula that has no value for the divisor 0
abbrev pub unless_zero_divisor : (ℤ → ℤ → ℤ) → ℤ → ℤ → Option ℤ
unless_zero_divisor f a b = if int_eq b (pos 0) then None else Some (wrap_signed (f a b))

-- a formula that has no value for a shift count outside 0 to 63
abbrev pub unless_bad_shift : (ℤ → ℤ → ℤ) → ℤ → ℤ → Option ℤ
unless_bad_shift f a (pos n) = if nat_lt n 64 then Some (wrap_signed (f a (pos (2 ^ n)))) else None
unless_bad_shift f a (negsuc n) = None

abbrev pub value2 : Op2 → ℤ → ℤ → Option ℤ
value2 Multiply a b = Some (wrap_signed (a *ℤ b))
value2 Divide a b = unless_zero_divisor int_div a b
value2 Modulo a b = unless_zero_divisor int_rem a b
value2 BitAnd a b = Some (int_bit_and w64 a b)
value2 BitXor a b = Some (int_bit_xor w64 a b)
value2 ShiftLeft a b = unless_bad_shift (λ x p. x *ℤ p) a b
value2 ShiftRight a b = unless_bad_shift int_div_euclid a b
value2 Add a b = Some (wrap_signed (a +ℤ b))
value2 Subtract a b = Some (wrap_signed (a -ℤ b))
value2 BitOr a b = Some (int_bit_or w64 a b)
value2 Equal a b = Some (truth (int_eq a b))
value2 NotEqual a b = Some (truth (not (int_eq a b)))
value2 Less a b = Some (truth (int_lt a b))
value2 Greater a b = Some (truth (int_lt b a))
value2 LessOrEqual a b = Some (truth (int_le a b))
value2 GreaterOrEqual a b = Some (truth (int_le b a))
value2 And a b = Some (truth (is_true a && is_true b))
value2 Xor a b = Some (truth (exclusive_or (is_true a) (is_true b)))
value2 Or a b = Some (truth (is_true a || is_true b))
