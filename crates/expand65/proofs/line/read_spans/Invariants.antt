use Rattle.std.proofs.Common.{◌≡◌, ℕ, ◌≤◌, ◌++◌, List, Option, length, true}
use Rattle.syntax65.specs.Tokens.{Lexeme, HasTokens}
use Rattle.syntax65.specs.declared.lexing.tokens.LexFault.{LexFault}
use Rattle.expand65.proofs.StoredTokens.{AreKept}
use Rattle.expand65.proofs.line.read_spans.Given as goal

abbrev pub invariant-tokens : goal.invariant-tokens
invariant-tokens l = record {
  short : length l.bytes ≤ 4096;
  so_far : (ts : List Lexeme) × ((pending : List ℕ) × (l.bytes ≡ pending ++ l.lexer.rest.now) × AreKept l.spans.items pending ts) × ((us : List Lexeme) (end : Option LexFault) → HasTokens l.lexer.first l.lexer.rest.now us end → HasTokens true l.bytes (ts ++ us) end);
}

abbrev pub decreases-tokens : goal.decreases-tokens
decreases-tokens l = length l.lexer.rest.now
