use Rattle.std.proofs.lemmas.Grind.{common_steps}
use Rattle.std.proofs.Common.{Ok, Some, arith}
use Rattle.syntax65.specs.Tokens.{lexemes}
use Rattle.ast65.specs.Parsing.{IsExpression, AndThenReturn}
use Rattle.ast65.proofs.CommaLists.{first_fault, first_goes, then_fault, parses_fault}
use Rattle.ast65.proofs.reading.operands.two_expressions.Goals as goal

pub returns-in_err-first : goal.returns-in_err-first
returns-in_err-first c =
    parses_fault _ _ c.from_residual.result c.in_err-first.field-0.0 c.from_residual.ensures.1 c.in_err-first.ensures.inside
    (first_fault (IsExpression (lexemes c.args.first.now)) (λ x. AndThenReturn (IsExpression (lexemes c.args.second.now)) (λ y. Ok (x, Some y))) (λ x. x) c.from_residual.result c.in_err-first.field-0.0 c.from_residual.ensures.1 c.in_err-first.ensures.value)

pub returns-in_err-second : goal.returns-in_err-second
returns-in_err-second c =
    parses_fault _ _ c.from_residual-in_err-second.result c.in_err-second.field-0.0 c.from_residual-in_err-second.ensures.1 c.in_err-second.ensures.inside
    (first_goes (IsExpression (lexemes c.args.first.now)) (λ x. AndThenReturn (IsExpression (lexemes c.args.second.now)) (λ y. Ok (x, Some y))) (λ x. x) c.from_residual-in_err-second.result c.in_ok-first.first c.in_ok-first.ensures.value
    (then_fault _ _ _ c.from_residual-in_err-second.result c.in_err-second.field-0.0 c.from_residual-in_err-second.ensures.1 c.in_err-second.ensures.value))

pub returns : goal.returns
returns c = grind (arith, common_steps)
