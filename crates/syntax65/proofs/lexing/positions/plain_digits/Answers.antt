use Rattle.std.proofs.Common.{arith, refl}
use Rattle.std.proofs.lemmas.List.{take_rest}
use Rattle.syntax65.proofs.Numbers.{signed_by, unsigned}
use Rattle.syntax65.proofs.lexing.positions.plain_digits.Goals as goal

pub returns-in_ok-digits_ahead-in-36 : goal.returns-in_ok-digits_ahead-in-36
returns-in_ok-digits_ahead-in-36 c = signed_by 36 16 c.args.here.now c.in_ok-first.field-0.now c.in_ok-digits_ahead-in-36.field-0 c.with_prefix_len.result (λ l. refl) c.in_ok-first.ensures.value c.in-36.is (rw (take_rest c.args.here.now 1) at c.in_ok-digits_ahead-in-36.ensures) c.with_prefix_len.ensures

pub returns-in_ok-digits_ahead-in-37 : goal.returns-in_ok-digits_ahead-in-37
returns-in_ok-digits_ahead-in-37 c = signed_by 37 2 c.args.here.now c.in_ok-first.field-0.now c.in_ok-digits_ahead-in-37.field-0 c.with_prefix_len-in-37.result (λ l. refl) c.in_ok-first.ensures.value c.in-37.is (rw (take_rest c.args.here.now 1) at c.in_ok-digits_ahead-in-37.ensures) c.with_prefix_len-in-37.ensures

pub returns-in_default : goal.returns-in_default
returns-in_default c =
    unsigned c.args.here.now c.in_ok-first.field-0.now c.digits_ahead-in_default.result c.in_ok-first.ensures.value (λ e. absurd (omega (arith, e))) (λ e. absurd (omega (arith, e))) c.digits_ahead-in_default.ensures
