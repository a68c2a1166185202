use Rattle.std.proofs.lemmas.Grind.{common_steps}
use Rattle.std.proofs.Common.{arith, [], None, Some}
use Rattle.std.proofs.lemmas.Result.{err_from_is_err_and}
use Rattle.syntax65.specs.Tokens.{HasTokens}
use Rattle.syntax65.proofs.Scanning.{read_all, refused}
use Rattle.syntax65.proofs.lexing.lines.first_tokens.Goals as goal

pub returns-in_err-token : goal.returns-in_err-token
returns-in_err-token c =
    let p = err_from_is_err_and c.from_residual-in_err-token.result c.from_residual-in_err-token.ensures.1 in
    let end : HasTokens c.line.lexer.first c.line.lexer.rest.now [] (Some c.in_err-token.field-0.0) = c.in_err-token.ensures.next in
    rw (p.1, p.2) (refused c.args.line.now c.line.lexer.rest.now c.line.found c.line.lexer.first c.line.invariant.so_far.0 c.in_err-token.field-0.0 c.line.invariant.short c.line.invariant.so_far.1 end.0 end.1)

pub returns-in-None : goal.returns-in-None
returns-in-None c =
    let end : HasTokens c.line.lexer.first c.line.lexer.rest.now [] None = rw c.in-None.is at c.in_ok-token.ensures.next in
    read_all c.args.line.now c.line.lexer.rest.now c.line.found c.line.lexer.first c.line.invariant.so_far.0 c.line.invariant.short c.line.invariant.so_far.1 end

pub line-preserved : goal.line-preserved
line-preserved c = grind (arith, common_steps)
