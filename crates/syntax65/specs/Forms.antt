-- The classes of bytes, the values of numbers, the forms of tokens, and the longest token at a position.
use Rattle.std.specs.Prelude.{ℕ, not, Bool, true, false, ◌==◌, if◌then◌else◌, ◌-◌, ◌≤◌, List, [], ◌∷◌, length, take, slice_index, Option, Some, None, ◌≡◌, ◌≢◌, ◌⊎◌, ◌<◌, IsTrue, drop, codes, ⊤}
use Rattle.std.specs.Char.{is_ascii_alphabetic, is_ascii_digit}
use Rattle.syntax65.specs.declared.lexing.positions.Class.{Class}
use Rattle.syntax65.specs.declared.lexing.positions.Class.TheVariants.{Letter, Digit, Radix, At, Dot, Apostrophe, Quote, Colon, Semicolon, Blank, Other}
use Rattle.std.specs.List.{list_all}
use Rattle.base65.specs.Digit.{digits}
use Rattle.syntax65.specs.declared.lexing.tokens.AddressSize.{AddressSize}
use Rattle.syntax65.specs.declared.lexing.tokens.AddressSize.TheVariants.{ZeroPage, Absolute}
use Rattle.syntax65.specs.declared.lexing.tokens.Punctuation.{Punctuation}
use Rattle.syntax65.specs.declared.lexing.tokens.Punctuation.TheVariants.{Scope, Define, NotEqual, LessOrEqual, GreaterOrEqual, ShiftLeft, ShiftRight, AndAnd, OrOr, Colon as ColonMark, Plus, Minus, Star, Slash, Ampersand, Bar, Caret, Tilde, Less, Greater, Equal, Exclamation, OpenParenthesis, CloseParenthesis, Hash, Comma, OpenBrace, CloseBrace}
use Rattle.syntax65.specs.declared.lexing.tokens.TokenKind.{TokenKind}
use Rattle.syntax65.specs.declared.lexing.tokens.TokenKind.TheVariants.{Identifier, CheapName, Directive, Number, Character, StringLiteral, Unnamed, SizePrefix, Symbol}
use Rattle.syntax65.specs.declared.lexing.tokens.LexFault.{LexFault}
use Rattle.syntax65.specs.declared.lexing.tokens.LexFault.TheVariants.{OutOfMemory, BadCharacter, BadNumber, StringNotClosed, LineTooLong, NameTooLong}

-- ---- The classes of bytes.

-- letters and `_`, digits, `$` and `%`, then one byte each, and blank and tab
abbrev pub class_of : ℕ → Class
class_of b =
    if is_ascii_alphabetic b then Letter
    else (if b == 95 then Letter
    else (if is_ascii_digit b then Digit
    else (if b == 36 then Radix
    else (if b == 37 then Radix
    else (if b == 64 then At
    else (if b == 46 then Dot
    else (if b == 39 then Apostrophe
    else (if b == 34 then Quote
    else (if b == 58 then Colon
    else (if b == 59 then Semicolon
    else (if b == 32 then Blank
    else (if b == 9 then Blank else Other))))))))))))

abbrev pub is_identifier_class : Class → Bool
is_identifier_class Letter = true
is_identifier_class Digit = true
is_identifier_class _ = false

abbrev pub is_blank_class : Class → Bool
is_blank_class Blank = true
is_blank_class _ = false

-- a letter, a digit or `_`
abbrev pub is_identifier_byte : ℕ → Bool
is_identifier_byte b = is_identifier_class (class_of b)

abbrev pub is_blank : ℕ → Bool
is_blank b = is_blank_class (class_of b)

abbrev pub is_no_quote : ℕ → Bool
is_no_quote b = not (b == 34)

-- ---- The value of a number's text.

-- hex digits and `h`, or decimal digits
abbrev pub plain_number_of : List ℕ → Option ℕ
plain_number_of text =
    if slice_index text (length text - 1) == 104
    then digits 16 (take (length text - 1) text)
    else digits 10 text

-- `$` and hex digits, `%` and binary digits, hex digits and `h`, or decimal digits
abbrev pub number_of : List ℕ → Option ℕ
number_of [] = None
number_of (b ∷ bs) =
    if b == 36 then digits 16 bs
    else (if b == 37 then digits 2 bs
    else plain_number_of (b ∷ bs))

-- ---- The forms of tokens, and the longest token at a position.

-- only letters, digits and `_`
abbrev pub AreIdentifierBytes : List ℕ → Type 0
AreIdentifierBytes bs = IsTrue (list_all is_identifier_byte bs)

-- a letter or `_`, then letters, digits and `_`
abbrev pub IsName : List ℕ → Type 0
IsName [] = ⊥
IsName (b ∷ bs) = (class_of b ≡ Letter) × AreIdentifierBytes bs

-- one or more of one byte
abbrev pub IsRunOf : ℕ → List ℕ → Type 0
IsRunOf c bs = (bs ≢ []) × IsTrue (list_all (λ b. b == c) bs)

-- bytes other than `"`, and a `"`
abbrev pub ClosesString : List ℕ → Type 0
ClosesString [] = ⊥
ClosesString (b ∷ []) = b ≡ 34
ClosesString (b ∷ c ∷ bs) = (b ≢ 34) × ClosesString (c ∷ bs)

-- `$`, `%` or a decimal digit
abbrev pub StartsNumber : Class → Type 0
StartsNumber Digit = ⊤
StartsNumber Radix = ⊤
StartsNumber _ = ⊥

-- `z` or `a`, in either case
abbrev pub IsSizeLetter : AddressSize → ℕ → Type 0
IsSizeLetter ZeroPage b = (b ≡ 122) ⊎ (b ≡ 90)
IsSizeLetter Absolute b = (b ≡ 97) ⊎ (b ≡ 65)

abbrev pub spelling : Punctuation → List ℕ
spelling Scope = codes "::"
spelling Define = codes ":="
spelling NotEqual = codes "<>"
spelling LessOrEqual = codes "<="
spelling GreaterOrEqual = codes ">="
spelling ShiftLeft = codes "<<"
spelling ShiftRight = codes ">>"
spelling AndAnd = codes "&&"
spelling OrOr = codes "||"
spelling ColonMark = codes ":"
spelling Plus = codes "+"
spelling Minus = codes "-"
spelling Star = codes "*"
spelling Slash = codes "/"
spelling Ampersand = codes "&"
spelling Bar = codes "|"
spelling Caret = codes "^"
spelling Tilde = codes "~"
spelling Less = codes "<"
spelling Greater = codes ">"
spelling Equal = codes "="
spelling Exclamation = codes "!"
spelling OpenParenthesis = codes "("
spelling CloseParenthesis = codes ")"
spelling Hash = codes "#"
spelling Comma = codes ","
spelling OpenBrace = codes "{"
spelling CloseBrace = codes "}"

-- P holds of the value, if there is one; otherwise it holds of no value
abbrev pub IsFound : {A : Type 0} → (A → Type 0) → Option A → Type 0
IsFound Is None = (x : _) → Is x → ⊥
IsFound Is (Some x) = Is x

-- a text of this form, whatever the value of its number and the length of its name
abbrev pub IsForm : TokenKind → List ℕ → Type 0
IsForm k [] = ⊥
IsForm Identifier (b ∷ bs) = (class_of b ≡ Letter) × AreIdentifierBytes bs
IsForm CheapName (b ∷ bs) = (class_of b ≡ At) × IsName bs
IsForm Directive (b ∷ bs) = (class_of b ≡ Dot) × IsName bs
IsForm (Number v) (b ∷ bs) = StartsNumber (class_of b) × AreIdentifierBytes bs
IsForm (Character c) (b ∷ bs) = (class_of b ≡ Apostrophe) × (bs ≡ c ∷ 39 ∷ [])
IsForm StringLiteral (b ∷ bs) = (class_of b ≡ Quote) × ClosesString bs
IsForm Unnamed (b ∷ bs) = (class_of b ≡ Colon) × (IsRunOf 43 bs ⊎ IsRunOf 45 bs)
IsForm (SizePrefix s) (b ∷ bs) = IsSizeLetter s b × (bs ≡ 58 ∷ [])
IsForm (Symbol m) (b ∷ bs) = b ∷ bs ≡ spelling m

-- no `:` and no `=`
abbrev pub HasNoColonOrEqual : List ℕ → Type 0
HasNoColonOrEqual [] = ⊤
HasNoColonOrEqual (b ∷ bs) = (b ≢ 58) × (b ≢ 61)

-- a size prefix isn't the first token of its line, and neither `:` nor `=` follows it
abbrev pub IsAllowedInContext : Bool → TokenKind → List ℕ → Type 0
IsAllowedInContext first (SizePrefix s) following = (first ≡ false) × HasNoColonOrEqual following
IsAllowedInContext first _ following = ⊤

-- the first n bytes have this form, and it is allowed here
pub record TokenMatchesAt (first : Bool) (k : TokenKind) (n : ℕ) (here : List ℕ) : Type 0 where
  pub fits : n ≤ length here
  pub form : IsForm k (take n here)
  pub allowed : IsAllowedInContext first k (drop n here)

-- and no longer text matches here
pub record IsLongest (first : Bool) (k : TokenKind) (n : ℕ) (here : List ℕ) : Type 0 where
  pub form_matches : TokenMatchesAt first k n here
  pub longest : (j : TokenKind) (m : ℕ) → n < m → TokenMatchesAt first j m here → ⊥

-- no form matches here
abbrev pub HasNoMatch : Bool → List ℕ → Type 0
HasNoMatch first here = (k : TokenKind) (n : ℕ) → TokenMatchesAt first k n here → ⊥

-- the name in a text, without its `@` or `.`
abbrev pub name_in : TokenKind → List ℕ → List ℕ
name_in Identifier text = text
name_in CheapName text = drop 1 text
name_in Directive text = drop 1 text
name_in _ text = []

abbrev pub HasValue : TokenKind → List ℕ → Type 0
HasValue (Number v) text = number_of text ≡ Some v
HasValue _ text = ⊤

-- a token of kind k and length n is here
pub record IsToken (first : Bool) (k : TokenKind) (n : ℕ) (here : List ℕ) : Type 0 where
  pub longest : IsLongest first k n here
  pub short : length (name_in k (take n here)) ≤ 200
  pub value : HasValue k (take n here)

abbrev pub BeginsWithClass : Class → List ℕ → Type 0
BeginsWithClass c [] = ⊥
BeginsWithClass c (b ∷ bs) = class_of b ≡ c

-- no token is here, for this reason
abbrev pub HasFaultAt : Bool → List ℕ → LexFault → Type 0
HasFaultAt first here OutOfMemory = ⊥
HasFaultAt first here BadCharacter = HasNoMatch first here × (BeginsWithClass Quote here → ⊥)
HasFaultAt first here BadNumber = (v n : ℕ) × IsLongest first (Number v) n here × (number_of (take n here) ≡ None)
HasFaultAt first here StringNotClosed = HasNoMatch first here × BeginsWithClass Quote here
HasFaultAt first here LineTooLong = ⊥
HasFaultAt first here NameTooLong = (k : TokenKind) × (n : ℕ) × IsLongest first k n here × (200 < length (name_in k (take n here)))
