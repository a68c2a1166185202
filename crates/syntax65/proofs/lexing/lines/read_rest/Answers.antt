use Rattle.std.proofs.lemmas.Grind.{common_steps}
use Rattle.std.proofs.Common.{arith, subst, List, [], None, Some, true}
use Rattle.std.proofs.lemmas.List.{append-nil}
use Rattle.std.proofs.lemmas.Result.{err_from_is_err_and}
use Rattle.syntax65.specs.Tokens.{Lexeme, lexemes, HasTokens, without_leading_blanks}
use Rattle.syntax65.proofs.Lines.{refuse}
use Rattle.syntax65.proofs.lexing.lines.read_rest.Goals as goal

pub returns-in_err-token : goal.returns-in_err-token
returns-in_err-token c = λ line short before.
    let p = err_from_is_err_and c.from_residual.result c.from_residual.ensures.1 in
    let fault = c.in_err-token.field-0.0 in
    let tokens = lexemes c.line.tokens.items in
    let P : List Lexeme → Type 0 = λ ts. HasTokens true line ts (Some fault) in
    let end : HasTokens c.line.lexer.first c.line.lexer.rest.now [] (Some fault) = c.in_err-token.ensures.next in
    rw (p.1, p.2) (refuse c.line.lexer.first line (without_leading_blanks c.line.lexer.rest.now) tokens fault short end.1 (subst P (append-nil tokens) (c.line.invariant line before [] (Some fault) end)))

pub returns-in-None : goal.returns-in-None
returns-in-None c = λ line short before.
    let tokens = lexemes c.line.tokens.items in
    let P : List Lexeme → Type 0 = λ ts. HasTokens true line ts None in
    let end : HasTokens c.line.lexer.first c.line.lexer.rest.now [] None = rw c.in-None.is at c.in_ok-token.ensures.next in
    (short, subst P (append-nil tokens) (c.line.invariant line before [] None end))

pub line-preserved : goal.line-preserved
line-preserved c = grind (arith, common_steps)
