-- Expressions that consist of all tokens.
use Rattle.std.proofs.Common.{◌≡◌, ◌≢◌, ℕ, true, false, List, length, refl, arith, Result, Ok, Err}
use Rattle.std.specs.Prelude.{◌==◌}
use Rattle.std.proofs.lemmas.Bool.Decides.{nat_tests}
use Rattle.std.proofs.lemmas.List.{length-map}
use Rattle.syntax65.specs.Expressions.{IsParsed}
use Rattle.syntax65.specs.Faults.{is_expr_system_error, fault_of_parsing, is_system_error}
use Rattle.base65.specs.Outcome.{Unless}
use Rattle.syntax65.specs.Tokens.{Lexeme, lexeme_of, lexemes}
use Rattle.syntax65.specs.Trees.{Tree}
use Rattle.syntax65.specs.declared.expressions.operators.ExprFault.{ExprFault}
use Rattle.syntax65.specs.declared.expressions.operators.ExprFault.TheVariants.{OutOfMemory, OperandExpected, ParenthesisExpected, TooDeep}
use Rattle.syntax65.specs.declared.lexing.tokens.Token.{Token}
use Rattle.expand65.specs.State.{complete_expression}
use Rattle.expand65.specs.LineStart.{not_understood}
use Rattle.syntax65.specs.declared.fault.ExpandFault.{ExpandFault}

-- the result of parsing the tokens as one complete expression
abbrev pub IsWhole : List Lexeme → Result Tree ExpandFault → Type 0
IsWhole ts r = (q : Result (Tree × ℕ) ExprFault) × IsParsed ts q × (r ≡ complete_expression (length ts) q)

pub is_whole : (ts : List Token) (e : Tree) (n : ℕ) → IsParsed (lexemes ts) (Ok (e, n)) → n ≡ length ts → IsWhole (lexemes ts) (Ok e)
is_whole ts e n h f =
    let same : n == length (lexemes ts) ≡ true = grind (arith, nat_tests, length-map ts lexeme_of) in
    (Ok (e, n), h, rw same refl)

pub is_short : (ts : List Token) (e : Tree) (n : ℕ) → IsParsed (lexemes ts) (Ok (e, n)) → n ≢ length ts → IsWhole (lexemes ts) not_understood
is_short ts e n h f =
    let other : n == length (lexemes ts) ≡ false = grind (arith, nat_tests, length-map ts lexeme_of) in
    (Ok (e, n), h, rw other refl)

pub is_none : (ts : List Lexeme) (f : ExprFault) → Unless (is_expr_system_error f) (IsParsed ts (Err f)) → Unless (is_system_error (fault_of_parsing f)) (IsWhole ts (Err (fault_of_parsing f)))
is_none ts OutOfMemory h = tt
is_none ts OperandExpected h = (Err OperandExpected, h, refl)
is_none ts ParenthesisExpected h = (Err ParenthesisExpected, h, refl)
is_none ts TooDeep h = (Err TooDeep, h, refl)
