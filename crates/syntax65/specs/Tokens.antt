-- The tokens of a line, or its error, and how they are stored.
use Rattle.std.specs.Prelude.{◌≡◌, ℕ, ◌≤◌, ◌<◌, Bool, true, false, List, [], ◌∷◌, length, take, drop, map, Option, Some, None, Result, Ok, Err, ⊤, ◌++◌, slice_get, option_map}
use Rattle.std.specs.List.{prefix_len}
use Rattle.std.specs.Option.{option_map_or}
use Rattle.syntax65.specs.Forms.{class_of, is_blank, IsToken, HasFaultAt}
use Rattle.syntax65.specs.declared.lexing.positions.Class.TheVariants.{Semicolon}
use Rattle.syntax65.specs.declared.lexing.tokens.TokenKind.{TokenKind}
use Rattle.syntax65.specs.declared.lexing.tokens.Token.{Token}
use Rattle.syntax65.specs.declared.lexing.tokens.LexFault.{LexFault}
use Rattle.syntax65.specs.declared.lexing.tokens.LexFault.TheVariants.{LineTooLong}
use Rattle.base65.specs.Relations.{RefinesRel}
use Rattle.syntax65.specs.Faults.{is_lex_system_error}
use Rattle.syntax65.specs.declared.lexing.lines.Lexer.{Lexer}
use Rattle.syntax65.specs.declared.lexing.lines.FirstTokens.{FirstTokens}
use Rattle.syntax65.specs.declared.lexing.lines.LineTokens.{LineTokens}

-- ---- The tokens of a line, or its error.

-- the kind and the bytes of a token
abbrev pub Lexeme : Type 0
Lexeme = TokenKind × List ℕ

abbrev pub lexeme_of : Token → Lexeme
lexeme_of t = (t.kind, t.text.now)

-- the bytes after leading blanks
abbrev pub without_leading_blanks : List ℕ → List ℕ
without_leading_blanks line = drop (prefix_len is_blank line) line

-- the end of the line, or a comment
abbrev pub IsEnd : List ℕ → Type 0
IsEnd [] = ⊤
IsEnd (b ∷ bs) = class_of b ≡ Semicolon

-- how the tokens end: at the end of the line, or with an error where no token begins
abbrev pub EndsTokens : Bool → Option LexFault → List ℕ → Type 0
EndsTokens first None here = IsEnd here
EndsTokens first (Some fault) here = (IsEnd here → ⊥) × HasFaultAt first here fault

-- the line has these tokens in this order, and then ends like this
abbrev pub HasTokens : Bool → List ℕ → List Lexeme → Option LexFault → Type 0
HasTokens first line [] end = EndsTokens first end (without_leading_blanks line)
HasTokens first line (t ∷ ts) end =
    (t.1 ≡ take (length t.1) (without_leading_blanks line))
    × IsToken first t.0 (length t.1) (without_leading_blanks line)
    × HasTokens false (drop (length t.1) (without_leading_blanks line)) ts end

-- the result for a line: its tokens, or its first error
abbrev pub IsRead : List ℕ → Result (List Lexeme) LexFault → Type 0
IsRead line (Ok ts) = (length line ≤ 4096) × HasTokens true line ts None
IsRead line (Err LineTooLong) = 4096 < length line
IsRead line (Err fault) = (length line ≤ 4096) × ((ts : List Lexeme) × HasTokens true line ts (Some fault))

abbrev pub lexemes : List Token → List Lexeme
lexemes ts = map lexeme_of ts

-- ---- Lines that are split token by token.

-- the first token of the rest of a line, its end, or why no token is there; and the rest after it
abbrev pub IsNextToken : Bool → List ℕ → Result (Option Token) LexFault → Bool → List ℕ → Type 0
IsNextToken first rest (Ok None) after left = HasTokens first rest [] None
IsNextToken first rest (Ok (Some t)) after left = (us : List Lexeme) (end : Option LexFault) → HasTokens after left us end → HasTokens first rest (lexeme_of t ∷ us) end
IsNextToken first rest (Err fault) after left = HasTokens first rest [] (Some fault)

-- the rest of a line begins with blanks or nothing, and then this text; and the rest after it
abbrev pub IsTokenSplit : List ℕ → List ℕ → List ℕ → Type 0
IsTokenSplit rest text left = (blanks : List ℕ) × (rest ≡ blanks ++ (text ++ left))

-- After these tokens the rest of a line is read to its end: preceded by them, the result is that of each
-- line that continues like this after them, or its error.
abbrev pub ReadsRest : {A : Type 0} → Lexer → List Lexeme → Result A LexFault → (A → List Lexeme) → Type 0
ReadsRest l before r view =
    (line : List ℕ) → length line ≤ 4096 →
    ((us : List Lexeme) (end : Option LexFault) → HasTokens l.first l.rest.now us end → HasTokens true line (before ++ us) end) →
    RefinesRel is_lex_system_error view r (IsRead line)

-- ---- The first tokens of a line.

-- the first two of these tokens, if there are two
abbrev pub AreFirstTokens : List Lexeme → FirstTokens → Type 0
AreFirstTokens ts f = (option_map lexeme_of f.first ≡ slice_get ts 0) × (option_map lexeme_of f.second ≡ slice_get ts 1)

-- ---- The stored tokens of a line.

abbrev pub stored_lexemes : LineTokens → List Lexeme
stored_lexemes t = lexemes (option_map_or (λ many. many.items) t.many (take t.few.count t.few.tokens))

-- no token yet, and capacity for a few
abbrev pub HasNoTokens : LineTokens → Type 0
HasNoTokens t = (t.few.count ≡ 0) × (t.many ≡ None) × (length t.few.tokens ≡ 8)
