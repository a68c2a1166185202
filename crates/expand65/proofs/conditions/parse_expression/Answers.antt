use Rattle.std.proofs.lemmas.Result.{err_from_is_err_and}
use Rattle.syntax65.specs.Tokens.{lexemes}
use Rattle.expand65.proofs.CompleteExpressions.{is_whole, is_short, is_none}
use Rattle.expand65.proofs.conditions.parse_expression.Goals as goal

pub returns-in_err-value-clause-value : goal.returns-in_err-value-clause-value
returns-in_err-value-clause-value c =
    let p = err_from_is_err_and c.from_residual.result c.from_residual.ensures.1 in
    rw (p.1, p.2) (is_none (lexemes c.args.tokens.now) c.in_err-value.field-0.0 c.in_err-value.ensures.read)

pub returns-then-count-tokens-clause-value : goal.returns-then-count-tokens-clause-value
returns-then-count-tokens-clause-value c = is_short c.args.tokens.now c.in_ok-value.value c.in_ok-value.count c.in_ok-value.ensures.read c.if-count-tokens.true

pub returns-clause-value : goal.returns-clause-value
returns-clause-value c = is_whole c.args.tokens.now c.in_ok-value.value c.in_ok-value.count c.in_ok-value.ensures.read c.if-count-tokens.false
