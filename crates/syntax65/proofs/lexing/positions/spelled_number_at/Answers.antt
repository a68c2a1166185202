use Rattle.std.proofs.Common.{◌≡◌, ◌+◌, ◌∙◌, ap, sym, arith, take, Some}
use Rattle.std.proofs.lemmas.List.{take_rest}
use Rattle.syntax65.specs.Forms.{number_of, IsLongest}
use Rattle.syntax65.specs.declared.lexing.tokens.TokenKind.TheVariants.{Number}
use Rattle.syntax65.proofs.FirstToken.{number_here}
use Rattle.syntax65.proofs.lexing.positions.spelled_number_at.Goals as goal

pub returns-in-Some : goal.returns-in-Some
returns-in-Some c = λ first.
    let tail = take_rest c.args.here.now 1 in
    let longest : IsLongest first (Number c.in-Some.value) (1 + c.identifier_len-len.result) c.args.here.now = number_here first c.args.here.now c.in-Some.value (1 + c.identifier_len-len.result) c.requires (ap (λ n. 1 + n) (rw tail at c.identifier_len-len.ensures.count)) in
    let value : number_of (take (1 + c.identifier_len-len.result) c.args.here.now) ≡ Some c.in-Some.value = sym c.number_of.ensures ∙ c.in-Some.is in
    record { longest = longest; short = omega arith; value = value }

pub returns-in-None : goal.returns-in-None
returns-in-None c = λ first.
    let tail = take_rest c.args.here.now 1 in
    let longest : IsLongest first (Number 0) (1 + c.identifier_len-len.result) c.args.here.now = number_here first c.args.here.now 0 (1 + c.identifier_len-len.result) c.requires (ap (λ n. 1 + n) (rw tail at c.identifier_len-len.ensures.count)) in
    (0, 1 + c.identifier_len-len.result, longest, sym c.number_of.ensures ∙ c.in-None.is)
