use Rattle.std.proofs.Common.{◌≤◌, ◌++◌, List, ℕ, length, ◌-◌}
use Rattle.syntax65.specs.Tokens.{lexemes}
use Rattle.syntax65.specs.Expressions.{HasParts, LacksPart}
use Rattle.syntax65.proofs.expressions.reading.read_parts.Given as goal

abbrev pub invariant-parts : goal.invariant-parts
invariant-parts l = record {
  later : l.at ≤ l.end;
  within : l.end ≤ length l.tokens;
  so_far : (j : ℕ) (parts : List (List ℕ)) → HasParts (lexemes l.tokens) l.end j parts → HasParts (lexemes l.tokens) l.at j (l.parts ++ parts);
  lost : (k : ℕ) → LacksPart (lexemes l.tokens) l.end k → LacksPart (lexemes l.tokens) l.at k;
}

abbrev pub decreases-parts : goal.decreases-parts
decreases-parts l = length l.tokens - l.end
