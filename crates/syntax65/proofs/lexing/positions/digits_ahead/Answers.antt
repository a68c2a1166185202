use Rattle.std.proofs.Common.{◌≡◌, ◌∙◌, ◌+◌, ◌*◌, ◌<◌, get_or, drop, take, arith, sym, ap}
use Rattle.std.specs.Char.{digit_value}
use Rattle.std.specs.List.{prefix_len}
use Rattle.syntax65.specs.Forms.{is_identifier_byte}
use Rattle.base65.proofs.Digit.{digits_from}
use Rattle.syntax65.proofs.Numbers.{are_ahead, goes_on, word_ends}
use Rattle.syntax65.proofs.lexing.positions.digits_ahead.Goals as goal

pub returns-in_default : goal.returns-in_default
returns-in_default c = are_ahead c.args.bytes.now c.digits.len c.digits.number c.args.radix (word_ends c.args.bytes.now c.digits.len c.digits.invariant.within (sym c.if-is_identifier_byte.ensures)) (omega arith) c.digits.invariant.small c.digits.invariant.same

pub digits-preserved : goal.digits-preserved
digits-preserved c =
    let bytes = c.args.bytes.now in
    let byte : get_or bytes c.digits.len 0 < 256 = omega (arith, c.type_inv.bytes c.digits.len) in
    let digit : c.in-Some.digit ≡ digit_value (get_or bytes c.digits.len 0) = c.in-Some.ensures.value.1 ∙ ap digit_value c.from.ensures in
    let next = goes_on bytes c.digits.len c.digits.number c.in-Some.digit c.args.radix c.requires.1 byte (omega arith) c.digits.invariant.within digit (omega (arith, c.in-Some.ensures.value.0, c.in-Some.ensures.value.1)) c.digits.invariant.same in
    let value : c.in_ok-number.number ≡ c.digits.number * c.args.radix + c.in-Some.digit = omega (arith, c.in_ok-number.ensures, c.in_ok-checked_mul.ensures) in
    record {
      within = next.0;
      same = ap (λ k. digits_from c.args.radix k (drop (c.digits.len + 1) (take (prefix_len is_identifier_byte bytes) bytes))) value ∙ next.1;
      small = omega (arith, c.in_ok-number.ensures);
    }
