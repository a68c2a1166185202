use Rattle.std.proofs.lemmas.Grind.{common_steps}
use Rattle.std.proofs.Common.{arith, sym, ◌∙◌}
use Rattle.script65.proofs.LeadingTokens.{front_number, front_word}
use Rattle.script65.proofs.reading.tokens.leading_token.Goals as goal

pub returns-then-is_letter-clause-value : goal.returns-then-is_letter-clause-value
returns-then-is_letter-clause-value c = rw (c.of.ensures, c.identifier_len-len.ensures.count) (front_word c.args.here.now c.in-len1-up.len_at_least (sym c.is_letter.ensures ∙ c.if-is_letter.true))

pub returns-then-is_ascii_digit-clause-value : goal.returns-then-is_ascii_digit-clause-value
returns-then-is_ascii_digit-clause-value c =
    rw (c.digits.ensures, c.decimal_len-len.ensures.count)
    (front_number c.args.here.now c.in-len1-up.len_at_least (sym c.is_letter.ensures ∙ c.if-is_letter.false) (sym c.is_ascii_digit.ensures.value ∙ c.if-is_ascii_digit.true))

pub returns-in_default-rest-clause-value : goal.returns-in_default-rest-clause-value
returns-in_default-rest-clause-value c = grind (arith, common_steps)

pub returns-in-34-clause-value : goal.returns-in-34-clause-value
returns-in-34-clause-value c = grind (arith, common_steps)

pub returns-in-79-clause-value : goal.returns-in-79-clause-value
returns-in-79-clause-value c = grind (arith, common_steps)

pub returns-in-36-clause-value : goal.returns-in-36-clause-value
returns-in-36-clause-value c = grind (arith, common_steps)
