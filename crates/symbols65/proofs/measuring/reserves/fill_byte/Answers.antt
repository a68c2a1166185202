use Rattle.std.proofs.lemmas.Grind.{common_steps}
use Rattle.std.proofs.Common.{◌∙◌, arith, ap, not}
use Rattle.std.specs.Prelude.{pos}
use Rattle.semantics65.specs.Norms.{nat_or_zero}
use Rattle.semantics65.specs.declared.contexts.EncodingChoice.TheVariants.{FillByte}
use Rattle.symbols65.proofs.Evaluations.{found_fill, found_number}
use Rattle.symbols65.proofs.measuring.reserves.fill_byte.Goals as goal

pub returns-in-Some : goal.returns-in-Some
returns-in-Some c = λ y s own e h.
    (let there = c.is_none.ensures ∙ ap not c.if-is_none.false in
    let value = found_number y s own e c.args.found.now c.constant_value.result h there (λ t q. c.constant_value.ensures y s own t q) (pos 0) ∙ c.in-Some.is in
    let filled = found_fill y s own e c.args.found.now c.constant_value.result h there (λ t q. c.constant_value.ensures y s own t q) ∙ ap (λ k. FillByte (nat_or_zero k)) c.in-Some.is in
    grind (arith, common_steps, value, filled))

pub returns-in_default : goal.returns-in_default
returns-in_default c = λ y s own e h.
    (let value = found_number y s own e c.args.found.now c.constant_value.result h (c.is_none.ensures ∙ ap not c.if-is_none.false) (λ t q. c.constant_value.ensures y s own t q) (pos 0) in
    grind (arith, common_steps, value))
