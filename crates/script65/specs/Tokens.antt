-- The tokens of scripts.
use Rattle.std.specs.Prelude.{◌≡◌, ◌≤◌, ℕ, Bool, true, false, ◌==◌, ◌&&◌, ◌||◌, not, ◌+◌, ◌-◌, List, [], ◌∷◌, ◌++◌, codes, Some, length, take, drop, find, if◌then◌else◌}
use Rattle.std.specs.List.{list_all, list_any, take_while}
use Rattle.std.specs.Option.{option_map_or}
use Rattle.std.specs.Char.{is_ascii_alphabetic, is_ascii_digit, is_ascii_hexdigit}
use Rattle.std.specs.Str.{is_utf8}
use Rattle.base65.specs.Digit.{digits}
-- A token: an identifier; a number, with its value if that is below 2 ^ 32; a string, with its text; `%O`;
-- or a mark. The end of a text, and a byte that begins no token, count as tokens, too.
pub use Rattle.script65.specs.declared.reading.tokens.Lexeme.{Lexeme}
pub use Rattle.script65.specs.declared.reading.tokens.Lexeme.TheVariants.{Identifier as identifier, Number as numeral, StringLiteral as string, Output as output, Colon as colon, Semicolon as semicolon, Comma as comma, Equals as equals, Plus as plus, Minus as minus, Open as brace, Close as end_brace, End as the_end, Bad as none}
-- a token, the offset of its first byte, and the offset after its last
pub use Rattle.script65.specs.declared.reading.tokens.Token.{Token}

-- ---- Bytes.

-- a letter or `_`
abbrev pub is_letter : ℕ → Bool
is_letter b = is_ascii_alphabetic b || b == 95

-- a letter, `_` or a digit
abbrev pub is_identifier_byte : ℕ → Bool
is_identifier_byte b = is_letter b || is_ascii_digit b

-- a byte of a string's text: neither `"` nor LF
abbrev pub is_string_byte : ℕ → Bool
is_string_byte b = not (b == 34 || b == 10)

-- a blank, a tab, a CR or an LF
abbrev pub is_blank : ℕ → Bool
is_blank b = b == 32 || b == 9 || b == 13 || b == 10

-- ---- The token at an offset.

-- The length of the blanks and comments at the front; true if a comment has begun. A comment goes from a `#`
-- to the end of the line.
abbrev pub gap : Bool → List ℕ → ℕ
gap comment [] = 0
gap true (b ∷ bs) = 1 + gap (not (b == 10)) bs
gap false (b ∷ bs) = if b == 35 then 1 + gap true bs else if is_blank b then 1 + gap false bs else 0

-- whether a text begins with this byte
abbrev pub begins_with : ℕ → List ℕ → Bool
begins_with b [] = false
begins_with b (c ∷ cs) = c == b

-- a string after its opening `"`: UTF-8 without `%`, up to the closing `"`
abbrev pub string_after : List ℕ → List ℕ → Lexeme × ℕ
string_after text bs =
    if begins_with 34 (drop (length text) bs) && is_utf8 text && not (list_any (λ b. b == 37) text)
    then (string text, 2 + length text)
    else (none, 1)

-- hex digits after a `$`
abbrev pub hex_after : List ℕ → Lexeme × ℕ
hex_after [] = (none, 1)
hex_after (d ∷ ds) = (numeral (digits 16 (d ∷ ds)), 1 + length (d ∷ ds))

abbrev pub punctuators : List (ℕ × Lexeme)
punctuators =
    (58, colon) ∷ (59, semicolon) ∷ (44, comma) ∷ (61, equals)
    ∷ (43, plus) ∷ (45, minus) ∷ (123, brace) ∷ (125, end_brace) ∷ []

abbrev pub punctuator : ℕ → Lexeme
punctuator b = option_map_or (λ (m : ℕ × Lexeme). m.1) (find (λ (m : ℕ × Lexeme). b == m.0) punctuators) none

-- a letter or `_`, and as many letters, `_` and digits as follow
abbrev pub identifier_after : ℕ → List ℕ → Lexeme × ℕ
identifier_after b bs = (identifier (b ∷ bs), 1 + length bs)

-- a digit, and as many digits as follow
abbrev pub decimal_after : ℕ → List ℕ → Lexeme × ℕ
decimal_after b bs = (numeral (digits 10 (b ∷ bs)), 1 + length bs)

-- the longest token at the front of a text, and its length in bytes
abbrev pub leading_token : List ℕ → Lexeme × ℕ
leading_token [] = (the_end, 0)
leading_token (b ∷ bs) =
    if is_letter b then identifier_after b (take_while is_identifier_byte bs)
    else if is_ascii_digit b then decimal_after b (take_while is_ascii_digit bs)
    else if b == 36 then hex_after (take_while is_ascii_hexdigit bs)
    else if b == 34 then string_after (take_while is_string_byte bs) bs
    else if b == 37 then (if begins_with 79 bs then (output, 2) else (none, 1))
    else (punctuator b, 1)

abbrev pub token_from : List ℕ → ℕ → Token
token_from bytes at = record {
  lexeme = (leading_token (drop at bytes)).0;
  at = at;
  following = at + (leading_token (drop at bytes)).1;
}

-- the token at an offset, or the next one after it
unfoldable pub token : List ℕ → ℕ → Token
token bytes offset = token_from bytes (offset + gap false (drop offset bytes))

-- the bytes of a token
abbrev pub token_bytes : List ℕ → Token → List ℕ
token_bytes bytes t = take (t.following - t.at) (drop t.at bytes)

-- ---- Texts that are tokens.

-- each token as it is written
pub data SpellsToken : List ℕ → Lexeme → Type 0 where
  spells_identifier : (b : ℕ) (bs : List ℕ) → is_letter b ≡ true → list_all is_identifier_byte bs ≡ true → SpellsToken (b ∷ bs) (identifier (b ∷ bs))
  spells_decimal : (b : ℕ) (bs : List ℕ) → list_all is_ascii_digit (b ∷ bs) ≡ true → SpellsToken (b ∷ bs) (numeral (digits 10 (b ∷ bs)))
  spells_hex : (b : ℕ) (bs : List ℕ) → list_all is_ascii_hexdigit (b ∷ bs) ≡ true → SpellsToken (36 ∷ b ∷ bs) (numeral (digits 16 (b ∷ bs)))
  spells_string : (text : List ℕ) → list_all is_string_byte text ≡ true → is_utf8 text ≡ true → list_any (λ b. b == 37) text ≡ false → SpellsToken (34 ∷ (text ++ 34 ∷ [])) (string text)
  spells_output : SpellsToken (codes "%O") output
  spells_punctuator : (b : ℕ) (l : Lexeme) → find (λ (m : ℕ × Lexeme). b == m.0) punctuators ≡ Some (b, l) → SpellsToken (b ∷ []) l

-- this token is the longest text at the front that is a token
pub record IsLongest (here : List ℕ) (l : Lexeme) (n : ℕ) : Type 0 where
  pub within : n ≤ length here
  pub spells : SpellsToken (take n here) l
  pub longest : (m : ℕ) (k : Lexeme) → m ≤ length here → SpellsToken (take m here) k → m ≤ n

-- the end, or no token at the front, or the longest one
abbrev pub IsLeadingToken : List ℕ → Lexeme → ℕ → Type 0
IsLeadingToken here the_end n = here ≡ []
IsLeadingToken here none n = (m : ℕ) (k : Lexeme) → m ≤ length here → SpellsToken (take m here) k → ⊥
IsLeadingToken here l n = IsLongest here l n
