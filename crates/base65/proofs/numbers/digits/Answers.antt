use Rattle.std.proofs.lemmas.Grind.{common_steps}
use Rattle.std.proofs.Common.{arith, sym, ap}
use Rattle.std.specs.Char.{digit_value}
use Rattle.base65.proofs.Digit.{stops, ends}
use Rattle.base65.proofs.numbers.digits.Goals as goal

pub returns-in_err-checked_mul : goal.returns-in_err-checked_mul
returns-in_err-checked_mul c = rw c.from_residual-in_err-checked_mul.ensures (sym (stops c.args.text.now c.loop-byte.byte-index c.loop-byte.value c.args.radix (omega arith) c.loop-byte.invariant.same (omega arith) (omega (arith, c.in_err-checked_mul.ensures))))

pub returns-in_err-value : goal.returns-in_err-value
returns-in_err-value c = rw c.from_residual-in_err-value.ensures (sym (stops c.args.text.now c.loop-byte.byte-index c.loop-byte.value c.args.radix (omega arith) c.loop-byte.invariant.same (omega arith) (omega (arith, ap digit_value c.from.ensures, c.in_err-value.ensures, c.in_ok-checked_mul.ensures, c.in_ok-digit.ensures.value))))

pub returns : goal.returns
returns c = sym (ends c.args.text.now c.loop-byte.byte-index c.loop-byte.value c.args.radix c.loop-byte-test.false c.loop-byte.invariant.same (omega arith))

pub loop-byte-preserved : goal.loop-byte-preserved
loop-byte-preserved c = grind (arith, common_steps)

pub returns-in_err-digit : goal.returns-in_err-digit
returns-in_err-digit c = grind (arith, common_steps)
