-- Operators by number, so that their codes in a file and in proofs have one source.
use Rattle.std.specs.Prelude.{◌≡◌, ℕ, zero, suc, refl}
use Rattle.base65.specs.declared.values.Op1.{Op1}
use Rattle.base65.specs.declared.values.Op1.TheVariants.{Plus, Negate, BitNot, LowByte, HighByte, BankByte, Not}
use Rattle.base65.specs.declared.values.Op2.{Op2}
use Rattle.base65.specs.declared.values.Op2.TheVariants.{Multiply, Divide, Modulo, BitAnd, BitXor, ShiftLeft, ShiftRight, Add, Subtract, BitOr, Equal, NotEqual, Less, Greater, LessOrEqual, GreaterOrEqual, And, Xor, Or}

-- the index of an operator in the list of its kind
abbrev pub number1 : Op1 → ℕ
number1 Plus = 0
number1 Negate = 1
number1 BitNot = 2
number1 LowByte = 3
number1 HighByte = 4
number1 BankByte = 5
number1 Not = 6

abbrev pub op1_of : ℕ → Op1
op1_of zero = Plus
op1_of (suc zero) = Negate
op1_of (suc (suc zero)) = BitNot
op1_of (suc (suc (suc zero))) = LowByte
op1_of (suc (suc (suc (suc zero)))) = HighByte
op1_of (suc (suc (suc (suc (suc zero))))) = BankByte
op1_of (suc (suc (suc (suc (suc (suc _)))))) = Not

pub op1_of-number1 : (op : Op1) → op1_of (number1 op) ≡ op
op1_of-number1 Plus = refl
op1_of-number1 Negate = refl
op1_of-number1 BitNot = refl
op1_of-number1 LowByte = refl
op1_of-number1 HighByte = refl
op1_of-number1 BankByte = refl
op1_of-number1 Not = refl

abbrev pub number2 : Op2 → ℕ
number2 Multiply = 0
number2 Divide = 1
number2 Modulo = 2
number2 BitAnd = 3
number2 BitXor = 4
number2 ShiftLeft = 5
number2 ShiftRight = 6
number2 Add = 7
number2 Subtract = 8
number2 BitOr = 9
number2 Equal = 10
number2 NotEqual = 11
number2 Less = 12
number2 Greater = 13
number2 LessOrEqual = 14
number2 GreaterOrEqual = 15
number2 And = 16
number2 Xor = 17
number2 Or = 18

abbrev pub op2_of : ℕ → Op2
op2_of zero = Multiply
op2_of (suc zero) = Divide
op2_of (suc (suc zero)) = Modulo
op2_of (suc (suc (suc zero))) = BitAnd
op2_of (suc (suc (suc (suc zero)))) = BitXor
op2_of (suc (suc (suc (suc (suc zero))))) = ShiftLeft
op2_of (suc (suc (suc (suc (suc (suc zero)))))) = ShiftRight
op2_of (suc (suc (suc (suc (suc (suc (suc zero))))))) = Add
op2_of (suc (suc (suc (suc (suc (suc (suc (suc zero)))))))) = Subtract
op2_of (suc (suc (suc (suc (suc (suc (suc (suc (suc zero))))))))) = BitOr
op2_of (suc (suc (suc (suc (suc (suc (suc (suc (suc (suc zero)))))))))) = Equal
op2_of (suc (suc (suc (suc (suc (suc (suc (suc (suc (suc (suc zero))))))))))) = NotEqual
op2_of (suc (suc (suc (suc (suc (suc (suc (suc (suc (suc (suc (suc zero)))))))))))) = Less
op2_of (suc (suc (suc (suc (suc (suc (suc (suc (suc (suc (suc (suc (suc zero))))))))))))) = Greater
op2_of (suc (suc (suc (suc (suc (suc (suc (suc (suc (suc (suc (suc (suc (suc zero)))))))))))))) = LessOrEqual
op2_of (suc (suc (suc (suc (suc (suc (suc (suc (suc (suc (suc (suc (suc (suc (suc zero))))))))))))))) = GreaterOrEqual
op2_of (suc (suc (suc (suc (suc (suc (suc (suc (suc (suc (suc (suc (suc (suc (suc (suc zero)))))))))))))))) = And
op2_of (suc (suc (suc (suc (suc (suc (suc (suc (suc (suc (suc (suc (suc (suc (suc (suc (suc zero))))))))))))))))) = Xor
op2_of (suc (suc (suc (suc (suc (suc (suc (suc (suc (suc (suc (suc (suc (suc (suc (suc (suc (suc _)))))))))))))))))) = Or

pub op2_of-number2 : (op : Op2) → op2_of (number2 op) ≡ op
op2_of-number2 Multiply = refl
op2_of-number2 Divide = refl
op2_of-number2 Modulo = refl
op2_of-number2 BitAnd = refl
op2_of-number2 BitXor = refl
op2_of-number2 ShiftLeft = refl
op2_of-number2 ShiftRight = refl
op2_of-number2 Add = refl
op2_of-number2 Subtract = refl
op2_of-number2 BitOr = refl
op2_of-number2 Equal = refl
op2_of-number2 NotEqual = refl
op2_of-number2 Less = refl
op2_of-number2 Greater = refl
op2_of-number2 LessOrEqual = refl
op2_of-number2 GreaterOrEqual = refl
op2_of-number2 And = refl
op2_of-number2 Xor = refl
op2_of-number2 Or = refl
