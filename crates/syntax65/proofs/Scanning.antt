-- The tokens of a line, of which the first two are stored.
use Rattle.std.proofs.Common.{ℕ, ◌≤◌, Bool, true, List, [], ◌++◌, length, Option, Some, None, Ok, Err, subst}
use Rattle.std.proofs.lemmas.List.{append-nil}
use Rattle.syntax65.specs.Forms.{HasFaultAt}
use Rattle.syntax65.specs.Tokens.{AreFirstTokens, Lexeme, without_leading_blanks, HasTokens, IsEnd, IsRead}
use Rattle.syntax65.specs.declared.lexing.tokens.LexFault.{LexFault}
use Rattle.syntax65.specs.declared.lexing.tokens.LexFault.TheVariants.{OutOfMemory, BadCharacter, BadNumber, StringNotClosed, LineTooLong, NameTooLong}
use Rattle.syntax65.specs.declared.lexing.lines.FirstTokens.{FirstTokens}

-- these tokens were read, the first two of them are stored, and the rest of the line follows
abbrev pub SoFar : List ℕ → FirstTokens → Bool → List ℕ → List Lexeme → Type 0
SoFar line f first rest ts = AreFirstTokens ts f × ((us : List Lexeme) (end : Option LexFault) → HasTokens first rest us end → HasTokens true line (ts ++ us) end)

pub read_all : (line rest : List ℕ) (f : FirstTokens) (first : Bool) (ts : List Lexeme) → length line ≤ 4096 → SoFar line f first rest ts → IsEnd (without_leading_blanks rest) → (us : List Lexeme) × IsRead line (Ok us) × AreFirstTokens us f
read_all line rest f first ts short (g, h) e =
    let P : List Lexeme → Type 0 = λ us. HasTokens true line us None in
    (ts, (short, subst P (append-nil ts) (h [] None e)), g)

pub refused : (line rest : List ℕ) (f : FirstTokens) (first : Bool) (ts : List Lexeme) (fault : LexFault) → length line ≤ 4096 → SoFar line f first rest ts → (IsEnd (without_leading_blanks rest) → ⊥) → HasFaultAt first (without_leading_blanks rest) fault → IsRead line (Err fault)
refused line rest f first ts OutOfMemory short h e at = absurd at
refused line rest f first ts BadCharacter short (g, h) e at = (short, (ts ++ [], h [] (Some BadCharacter) (e, at)))
refused line rest f first ts BadNumber short (g, h) e at = (short, (ts ++ [], h [] (Some BadNumber) (e, at)))
refused line rest f first ts StringNotClosed short (g, h) e at = (short, (ts ++ [], h [] (Some StringNotClosed) (e, at)))
refused line rest f first ts LineTooLong short h e at = absurd at
refused line rest f first ts NameTooLong short (g, h) e at = (short, (ts ++ [], h [] (Some NameTooLong) (e, at)))
