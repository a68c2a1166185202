use Rattle.std.proofs.Common.{◌≡◌, ◌≤◌, List, ◌++◌, length, take, None, Option, true}
use Rattle.syntax65.specs.Tokens.{Lexeme, lexemes, HasTokens}
use Rattle.syntax65.specs.declared.lexing.tokens.LexFault.{LexFault}
use Rattle.syntax65.proofs.lexing.lines.LineTokens.read.Given as goal

abbrev pub invariant-line : goal.invariant-line
invariant-line l = record {
  short : length l.line ≤ 4096;
  capacity : length l.self.few.tokens ≡ 8;
  within : l.self.few.count ≤ 8;
  few : l.self.many ≡ None;
  so_far : (us : List Lexeme) (end : Option LexFault) → HasTokens l.lexer.first l.lexer.rest.now us end → HasTokens true l.line (lexemes (take l.self.few.count l.self.few.tokens) ++ us) end;
}

abbrev pub decreases-line : goal.decreases-line
decreases-line l = length l.lexer.rest.now
