use Rattle.std.proofs.lemmas.Result.{err_from_is_err_and}
use Rattle.std.proofs.Common.{map}
use Rattle.syntax65.specs.Tokens.{lexemes}
use Rattle.expand65.proofs.Definitions.{a_header, no_expression, no_variable}
use Rattle.expand65.proofs.repeats.header_of.Goals as goal

pub returns-in_err-count-clause-header : goal.returns-in_err-count-clause-header
returns-in_err-count-clause-header c =
    let p = err_from_is_err_and c.from_residual.result c.from_residual.ensures.1 in
    rw (p.1, p.2) (no_expression (lexemes c.args.tokens.now) c.in_err-count.field-0.0 c.in_err-count.ensures.read)

pub returns-in_err-variable-clause-header : goal.returns-in_err-variable-clause-header
returns-in_err-variable-clause-header c =
    let p = err_from_is_err_and c.from_residual-in_err-variable.result c.from_residual-in_err-variable.ensures.1 in
    rw (p.1, p.2) (no_variable c.args.tokens.now c.split_at.result.1.now c.in_ok-count.count c.in_ok-count.len c.in_err-variable.field-0.0 c.in_ok-count.ensures.read c.split_at.ensures.back c.in_err-variable.ensures.variable)

pub returns-clause-header : goal.returns-clause-header
returns-clause-header c =
    a_header c.args.tokens.now c.split_at.result.1.now c.in_ok-count.count c.in_ok-count.len (map (λ k. k.items) c.in_ok-variable.variable.keys) c.in_ok-count.ensures.read c.split_at.ensures.back c.in_ok-variable.ensures.variable
