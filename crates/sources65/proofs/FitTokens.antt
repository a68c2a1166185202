-- The tokens of a line fit into an object: identifiers are names of at most 200 bytes. A line has at most as many tokens as
-- bytes.
use Rattle.std.proofs.lemmas.Grind.{common_steps}
use Rattle.std.proofs.Common.{arith, ◌≡◌, ℕ, zero, suc, ◌<◌, ◌≤◌, Bool, true, false, List, [], ◌∷◌, length, take, drop, Option, None, sym, subst}
use Rattle.std.specs.Prelude.{⊤, Ok}
use Rattle.std.specs.List.{AllByRecursion, prefix_len}
use Rattle.std.proofs.lemmas.List.{length-drop}
use Rattle.base65.specs.Store.{Files}
use Rattle.syntax65.specs.Forms.{IsForm, IsToken, is_blank}
use Rattle.syntax65.specs.Tokens.{IsRead, Lexeme, HasTokens, without_leading_blanks}
use Rattle.syntax65.specs.declared.lexing.tokens.LexFault.{LexFault}
use Rattle.syntax65.specs.declared.lexing.tokens.TokenKind.{TokenKind}
use Rattle.syntax65.specs.declared.lexing.tokens.TokenKind.TheVariants as token
use Rattle.syntax65.proofs.FirstToken.{empty}
use Rattle.object65.specs.Objects.{is_name}
use Rattle.expand65.specs.Macros.{is_generated_name}
use Rattle.semantics65.specs.Numbering.{AreSymbolNames, IsSymbolName}
use Rattle.semantics65.proofs.Segments.{all_same}
use Rattle.sources65.proofs.WellFormedLines.{short_name}

-- ---- Parts of lists.

pub all_drop : {A : Type 0} (P : A → Type 0) (n : ℕ) (xs : List A) → AllByRecursion P xs → AllByRecursion P (drop n xs)
all_drop P zero xs h = h
all_drop P (suc n) [] h = tt
all_drop P (suc n) (x ∷ xs) h = all_drop P n xs h.1

pub all_take : {A : Type 0} (P : A → Type 0) (n : ℕ) (xs : List A) → AllByRecursion P xs → AllByRecursion P (take n xs)
all_take P zero xs h = tt
all_take P (suc n) [] h = tt
all_take P (suc n) (x ∷ xs) h = (h.0, all_take P n xs h.1)

-- ---- Tokens.

-- an identifier is a name, and is at most 200 bytes long unless it is generated
abbrev pub IsFit : Files → TokenKind → List ℕ → Type 0
IsFit m token.Identifier t = (is_name t ≡ true) × (is_generated_name t ≡ false → length t ≤ 200)
IsFit m _ t = ⊤

abbrev pub IsTokenFit : Files → Lexeme → Type 0
IsTokenFit m t = IsFit m t.0 t.1

abbrev pub AreFit : Files → List Lexeme → Type 0
AreFit m ts = AllByRecursion (IsTokenFit m) ts

is_named : (m : Files) (k : TokenKind) (t : List ℕ) → IsFit m k t → IsSymbolName k t
is_named m x1 t h = grind (arith, common_steps)

pub are_named : (m : Files) (ts : List Lexeme) → AreFit m ts → AreSymbolNames ts
are_named m ts h = all_same (IsTokenFit m) (λ t. IsSymbolName t.0 t.1) (λ t fit. is_named m t.0 t.1 fit) ts h

-- ---- The tokens of a line.

token_fit : (m : Files) (first : Bool) (k : TokenKind) (t text : List ℕ) → t ≡ take (length t) text → IsToken first k (length t) text → IsFit m k t
token_fit m first token.Identifier t text at is =
    let short : length t ≤ 200 = subst (λ (n : List ℕ). length n ≤ 200) (sym at) is.short in
    (short_name t (subst (IsForm token.Identifier) (sym at) is.longest.form_matches.form) short, λ none. short)
token_fit m first _ t text at is = tt

tokens_fit : (m : Files) (first : Bool) (line : List ℕ) (ts : List Lexeme) (end : Option LexFault) → HasTokens first line ts end → AreFit m ts
tokens_fit m first line [] end h = tt
tokens_fit m first line (t ∷ ts) end h =
    (token_fit m first t.0 t.1 (without_leading_blanks line) h.0 h.1, tokens_fit m false (drop (length t.1) (without_leading_blanks line)) ts end h.2)

some_bytes : (first : Bool) (k : TokenKind) (n : ℕ) (text : List ℕ) → IsToken first k n text → 0 < n
some_bytes first k zero text h = absurd (empty first k text h.longest.form_matches)
some_bytes first k (suc n) text h = omega arith

tokens_few : (first : Bool) (line : List ℕ) (ts : List Lexeme) (end : Option LexFault) → HasTokens first line ts end → length ts ≤ length line
tokens_few first line [] end h = omega arith
tokens_few first line (t ∷ ts) end h =
    let few = tokens_few false (drop (length t.1) (without_leading_blanks line)) ts end h.2 in
    let some = some_bytes first t.0 (length t.1) (without_leading_blanks line) h.1 in
    let room = h.1.longest.form_matches.fits in
    let text = length-drop (prefix_len is_blank line) line in
    let rest = length-drop (length t.1) (without_leading_blanks line) in
    omega (arith, few, some, room, text, rest)

-- the tokens of a line fit, and there are at most 4096 of them
abbrev pub IsLineFit : Files → List Lexeme → Type 0
IsLineFit m ts = AreFit m ts × (length ts ≤ 4096)

pub read_fit : (m : Files) (line : List ℕ) (ts : List Lexeme) → IsRead line (Ok ts) → IsLineFit m ts
read_fit m line ts h = (tokens_fit m true line ts None h.1, (let few = tokens_few true line ts None h.1 in let short = h.0 in omega (arith, few, short)))
