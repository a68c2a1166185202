use Rattle.std.proofs.Common.{List, ◌++◌, length, Option, true, ℕ}
use Rattle.syntax65.specs.Tokens.{Lexeme, lexemes, HasTokens}
use Rattle.syntax65.specs.declared.lexing.tokens.LexFault.{LexFault}
use Rattle.syntax65.proofs.lexing.lines.read_rest.Given as goal

abbrev pub invariant-line : goal.invariant-line
invariant-line l = (line : List ℕ) → ((us : List Lexeme) (end : Option LexFault) → HasTokens l.fn.lexer.first l.fn.lexer.rest.now us end → HasTokens true line (lexemes l.fn.tokens.items ++ us) end) → (us : List Lexeme) (end : Option LexFault) → HasTokens l.lexer.first l.lexer.rest.now us end → HasTokens true line (lexemes l.tokens.items ++ us) end

abbrev pub decreases-line : goal.decreases-line
decreases-line l = length l.lexer.rest.now
