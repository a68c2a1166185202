-- Laws about lines and tokens.
use Rattle.std.specs.Prelude.{◌≡◌, ℕ, Bool, List, Option, Result}
use Rattle.base65.specs.SystemErrors.{IsNoSystemError}
use Rattle.syntax65.specs.Expressions.{IsParsed}
use Rattle.syntax65.specs.Faults.{is_expr_system_error, is_lex_system_error}
use Rattle.syntax65.specs.Tokens.{IsNextToken, IsRead, Lexeme}
use Rattle.syntax65.specs.Trees.{Tree}
use Rattle.syntax65.specs.declared.expressions.operators.ExprFault.{ExprFault}
use Rattle.syntax65.specs.declared.lexing.tokens.LexFault.{LexFault}
use Rattle.syntax65.specs.declared.lexing.tokens.Token.{Token}

-- a line has at most one result
abbrev pub LexingIsUnique : Type 0
LexingIsUnique =
    (line : List ℕ) (r s : Result (List Lexeme) LexFault) → IsRead line r → IsRead line s → r ≡ s

-- a line has a result, and it is no system error
abbrev pub LexingExists : Type 0
LexingExists =
    (line : List ℕ) → (r : Result (List Lexeme) LexFault) × IsRead line r × IsNoSystemError is_lex_system_error r

-- the rest of a line begins with a token, is at its end, or has an error there, which is no system error
abbrev pub NextTokenExists : Type 0
NextTokenExists =
    (first : Bool) (rest : List ℕ) →
    (r : Result (Option Token) LexFault) × (after : Bool) × (left : List ℕ)
    × IsNextToken first rest r after left × IsNoSystemError is_lex_system_error r

-- tokens have at most one result
abbrev pub ParseIsUnique : Type 0
ParseIsUnique =
    (ts : List Lexeme) (r s : Result (Tree × ℕ) ExprFault) → IsParsed ts r → IsParsed ts s → r ≡ s

-- tokens have a result, and it is no system error
abbrev pub ParseExists : Type 0
ParseExists =
    (ts : List Lexeme) → (r : Result (Tree × ℕ) ExprFault) × IsParsed ts r × IsNoSystemError is_expr_system_error r
