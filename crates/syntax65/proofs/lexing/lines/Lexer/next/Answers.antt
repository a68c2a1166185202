use Rattle.std.proofs.lemmas.Grind.{common_steps}
use Rattle.std.proofs.Common.{arith, sym, subst, false, IsTrue}
use Rattle.std.proofs.lemmas.Result.{err_from_is_err_and}
use Rattle.syntax65.specs.Forms.{BeginsWithClass, HasFaultAt}
use Rattle.syntax65.specs.Tokens.{IsEnd, without_leading_blanks}
use Rattle.syntax65.specs.declared.lexing.positions.Class.TheVariants.{Blank}
use Rattle.syntax65.proofs.Lines.{cut_off, no_blank_after}
use Rattle.syntax65.proofs.lexing.lines.Lexer.next.Goals as goal

pub token_at-requires-clause-no_blank : goal.token_at-requires-clause-no_blank
token_at-requires-clause-no_blank c = λ b. no_blank_after c.args.self.now.rest.now (subst (BeginsWithClass Blank) c.skip_blanks-here.ensures b)

pub returns-in_err-kind-clause-next : goal.returns-in_err-kind-clause-next
returns-in_err-kind-clause-next c =
    let p = err_from_is_err_and c.from_residual.result c.from_residual.ensures.1 in
    let same = c.skip_blanks-here.ensures in
    let not_end : IsEnd (without_leading_blanks c.args.self.now.rest.now) → ⊥ = λ e. (let f : IsTrue false = c.if-is_end.ensures.1 (subst IsEnd (sym same) e) in cc) in
    let at : HasFaultAt c.args.self.now.first (without_leading_blanks c.args.self.now.rest.now) c.in_err-kind.field-0.0 = rw (← same) c.in_err-kind.ensures in
    rw (p.1, p.2) (not_end, at)

pub returns-clause-cut : goal.returns-clause-cut
returns-clause-cut c = cut_off c.args.self.now.rest.now c.skip_blanks-here.result.now c.split_at.result.0.now c.split_at.result.1.now c.in_ok-kind.len c.skip_blanks-here.ensures c.split_at.ensures.front c.split_at.ensures.back

pub returns-clause-less : goal.returns-clause-less
returns-clause-less c = grind (arith, common_steps)
