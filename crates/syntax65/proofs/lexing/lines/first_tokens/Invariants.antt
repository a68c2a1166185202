use Rattle.std.proofs.Common.{◌≤◌, List, length}
use Rattle.syntax65.specs.Tokens.{Lexeme}
use Rattle.syntax65.proofs.Scanning.{SoFar}
use Rattle.syntax65.proofs.lexing.lines.first_tokens.Given as goal

abbrev pub invariant-line : goal.invariant-line
invariant-line l = record {
  short : length l.line ≤ 4096;
  so_far : (ts : List Lexeme) × SoFar l.line l.found l.lexer.first l.lexer.rest.now ts;
}

abbrev pub decreases-line : goal.decreases-line
decreases-line l = length l.lexer.rest.now
