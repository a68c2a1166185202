-- The token at a position, and definitions for the readers of each class of tokens.
use Rattle.std.specs.Prelude.{◌≡◌, ◌≢◌, ◌⊎◌, ◌+◌, ℕ, Bool, List, [], ◌∷◌, take, drop, Option, Some, None, Result, Ok, Err, ⊤}
use Rattle.std.specs.List.{prefix_len}
use Rattle.base65.specs.Digit.{digits}
use Rattle.syntax65.specs.Forms.{class_of, is_identifier_byte, number_of, StartsNumber, BeginsWithClass, TokenMatchesAt, IsToken, HasFaultAt}
use Rattle.syntax65.specs.declared.lexing.positions.Class.TheVariants.{At, Dot, Colon, Other}
use Rattle.syntax65.specs.declared.lexing.tokens.Punctuation.{Punctuation}
use Rattle.syntax65.specs.declared.lexing.tokens.TokenKind.{TokenKind}
use Rattle.syntax65.specs.declared.lexing.tokens.TokenKind.TheVariants.{CheapName, Directive, Symbol}
use Rattle.syntax65.specs.declared.lexing.tokens.LexFault.{LexFault}

-- a token of this kind and length is here, or there is none for this reason
abbrev pub IsTokenAt : Bool → List ℕ → Result (TokenKind × ℕ) LexFault → Type 0
IsTokenAt first here (Ok t) = IsToken first t.0 t.1 here
IsTokenAt first here (Err fault) = HasFaultAt first here fault

abbrev pub BeginsNumber : List ℕ → Type 0
BeginsNumber [] = ⊥
BeginsNumber (b ∷ bs) = StartsNumber (class_of b)

-- the `@` of a cheap name or the `.` of a directive
abbrev pub BeginsWithPrefix : TokenKind → List ℕ → Type 0
BeginsWithPrefix CheapName here = BeginsWithClass At here
BeginsWithPrefix Directive here = BeginsWithClass Dot here
BeginsWithPrefix _ here = ⊥

-- neither `+` nor `-` comes first
abbrev pub HasNoSign : List ℕ → Type 0
HasNoSign [] = ⊤
HasNoSign (b ∷ bs) = (b ≢ 43) × (b ≢ 45)

-- only punctuation can be here
abbrev pub BeginsPunctuator : List ℕ → Type 0
BeginsPunctuator here = BeginsWithClass Other here ⊎ (BeginsWithClass Colon here × HasNoSign (drop 1 here))

-- this punctuation of two bytes is here, or none is
abbrev pub IsLongPunctuatorAt : List ℕ → Option Punctuation → Type 0
IsLongPunctuatorAt here None = (m : Punctuation) (first : Bool) → TokenMatchesAt first (Symbol m) 2 here → ⊥
IsLongPunctuatorAt here (Some m) = (first : Bool) → TokenMatchesAt first (Symbol m) 2 here

-- n digits with the value v are followed by no letter, digit or `_`
abbrev pub AreDigitsAhead : ℕ → List ℕ → ℕ → ℕ → Type 0
AreDigitsAhead radix bytes v n = (n ≡ prefix_len is_identifier_byte bytes) × (digits radix (take n bytes) ≡ Some v)

-- the bytes up to the first that is no letter, digit or `_` are a number with this value
abbrev pub IsPlainNumber : List ℕ → ℕ → ℕ → Type 0
IsPlainNumber here v n = (n ≡ 1 + prefix_len is_identifier_byte (drop 1 here)) × (number_of (take n here) ≡ Some v)
