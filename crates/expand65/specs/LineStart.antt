-- Labels and preprocessor directives at the start of lines.
use Rattle.std.specs.Prelude.{ℕ, List, [], ◌∷◌, codes, Option, Some, None, if◌then◌else◌, Bool, true, false, not, nat_lt, ◌-◌, ◌&&◌, length, take, drop, Result, Ok, Err}
use Rattle.std.specs.Option.{option_or}
use Rattle.std.specs.Str.{str_eq_ignore_ascii_case}
use Rattle.expand65.specs.Types.{True, Defined, NotDefined, Blank, NotBlank, Directive, Macro, EndMacro, ExitMacro, Local, Repeat, EndRepeat, If, ElseIf, Else, EndIf, Include, Error, End, ExpandFault, NotUnderstood}
use Rattle.syntax65.specs.Tokens.{Lexeme}
use Rattle.syntax65.specs.Expressions.{is_reserved}
use Rattle.syntax65.specs.declared.lexing.tokens.Punctuation.TheVariants.{Colon, Comma, OpenBrace, CloseBrace, OpenParenthesis}
use Rattle.syntax65.specs.declared.lexing.tokens.TokenKind.TheVariants as token

-- ---- The names of the preprocessor directives.

abbrev pub condition_keywords : List (List ℕ × Directive)
condition_keywords =
    (codes ".if", If True)
    ∷ (codes ".ifdef", If Defined)
    ∷ (codes ".ifndef", If NotDefined)
    ∷ (codes ".ifblank", If Blank)
    ∷ (codes ".ifnblank", If NotBlank)
    ∷ (codes ".elseif", ElseIf)
    ∷ (codes ".else", Else)
    ∷ (codes ".endif", EndIf)
    ∷ []

abbrev pub macro_keywords : List (List ℕ × Directive)
macro_keywords =
    (codes ".macro", Macro)
    ∷ (codes ".mac", Macro)
    ∷ (codes ".endmacro", EndMacro)
    ∷ (codes ".endmac", EndMacro)
    ∷ (codes ".exitmacro", ExitMacro)
    ∷ (codes ".exitmac", ExitMacro)
    ∷ (codes ".local", Local)
    ∷ []

abbrev pub block_keywords : List (List ℕ × Directive)
block_keywords =
    (codes ".repeat", Repeat)
    ∷ (codes ".endrepeat", EndRepeat)
    ∷ (codes ".endrep", EndRepeat)
    ∷ (codes ".include", Include)
    ∷ (codes ".error", Error)
    ∷ (codes ".end", End)
    ∷ []

-- the directive of a word in a table, in upper or lower case
abbrev pub keyword_directive : List (List ℕ × Directive) → List ℕ → Option Directive
keyword_directive [] word = None
keyword_directive ((name, directive) ∷ others) word = if str_eq_ignore_ascii_case word name then Some directive else keyword_directive others word

-- the preprocessor directive with this name
abbrev pub directive_of : List ℕ → Option Directive
directive_of word = option_or (keyword_directive condition_keywords word) (option_or (keyword_directive macro_keywords word) (keyword_directive block_keywords word))

-- ---- Errors for missing or unknown items.

-- the error of a directive that isn't understood
abbrev pub not_understood : {A : Type 0} → Result A ExpandFault
not_understood = Err NotUnderstood

abbrev pub ok_or_not_understood : {A : Type 0} → Option A → Result A ExpandFault
ok_or_not_understood None = not_understood
ok_or_not_understood (Some x) = Ok x

-- the composition of two partial functions
infixl 10 ◌>=>◌
abbrev pub ◌>=>◌ : {A B : Type 0} → Option A → (A → Option B) → Option B
None >=> f = None
(Some x) >=> f = f x

-- ---- Single tokens.

abbrev pub is_colon : Lexeme → Bool
is_colon (token.Symbol Colon, text) = true
is_colon _ = false

abbrev pub is_comma : Lexeme → Bool
is_comma (token.Symbol Comma, text) = true
is_comma _ = false

abbrev pub opens_brace : Lexeme → Bool
opens_brace (token.Symbol OpenBrace, text) = true
opens_brace _ = false

abbrev pub closes_brace : Lexeme → Bool
closes_brace (token.Symbol CloseBrace, text) = true
closes_brace _ = false

abbrev pub opens_parenthesis : Lexeme → Bool
opens_parenthesis (token.Symbol OpenParenthesis, text) = true
opens_parenthesis _ = false

-- an identifier that is neither a mnemonic nor a register
abbrev pub name_in : Lexeme → Option (List ℕ)
name_in (token.Identifier, text) = if is_reserved text then None else Some text
name_in _ = None

-- the bytes between the quotes of a string
abbrev pub quoted_in : Lexeme → Option (List ℕ)
quoted_in (token.StringLiteral, text) = Some (take (length text - 2) (drop 1 text))
quoted_in _ = None

-- ---- Lists of tokens.

-- whether the first item of a list satisfies a predicate
abbrev pub first_satisfies : {A : Type 0} → (A → Bool) → List A → Bool
first_satisfies is_such [] = false
first_satisfies is_such (x ∷ xs) = is_such x

-- the bytes of a string, if it is the only token
abbrev pub string_of : List Lexeme → Option (List ℕ)
string_of (t ∷ []) = quoted_in t
string_of _ = None

-- names separated by commas; the flag tells whether a name comes next
abbrev pub names_from : Bool → List Lexeme → Option (List (List ℕ))
names_from true [] = None
names_from false [] = Some []
names_from true (t ∷ ts) = name_in t >=> (λ name. names_from false ts >=> (λ names. Some (name ∷ names)))
names_from false (c ∷ ts) = if is_comma c then names_from true ts else None

-- one or more names separated by commas
abbrev pub names_of : List Lexeme → Option (List (List ℕ))
names_of ts = names_from true ts

-- ---- Labels.

-- a name or a cheap local name
abbrev pub is_label_name : Lexeme → Bool
is_label_name (token.Identifier, text) = not (is_reserved text)
is_label_name (token.CheapName, text) = true
is_label_name _ = false

-- the number of tokens of the label at the start, `:` or a name and `:`; 0 if there is none
abbrev pub label_len : List Lexeme → ℕ
label_len [] = 0
label_len (t ∷ ts) = if is_colon t then 1 else if is_label_name t && first_satisfies is_colon ts then 2 else 0

-- ---- Directives.

abbrev pub directive_in : Lexeme → Option Directive
directive_in (token.Directive, text) = directive_of text
directive_in _ = None

-- the preprocessor directive at the start
abbrev pub first_directive : List Lexeme → Option Directive
first_directive [] = None
first_directive (t ∷ ts) = directive_in t

-- whether a label may precede this directive, or another statement
abbrev pub may_follow_label : Option Directive → Bool
may_follow_label None = true
may_follow_label (Some Repeat) = true
may_follow_label (Some (If test)) = true
may_follow_label (Some Include) = true
may_follow_label (Some Error) = true
may_follow_label (Some End) = true
may_follow_label (Some _) = false

-- the preprocessor directive of a line, after its label if it has one
abbrev pub line_directive : List Lexeme → Option Directive
line_directive ts = first_directive (drop (label_len ts) ts)

-- whether a label precedes a directive that must not have one
abbrev pub is_mislabelled : List Lexeme → Bool
is_mislabelled ts = nat_lt 0 (label_len ts) && not (may_follow_label (line_directive ts))
