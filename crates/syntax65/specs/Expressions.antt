-- The grammar of expressions, over indices in a list of tokens.
use Rattle.std.specs.Prelude.{ℕ, ◌-◌, ◌==◌, ◌&&◌, ◌||◌, Bool, List, length, codes, slice_index, nat_lt, Option, Some, None, is_some, if◌then◌else◌, ◌≡◌, ◌≢◌, ◌+◌, ◌<◌, true, false, [], ◌∷◌, slice_get, option_and_then, Result, Ok, Err, ⊤}
use Rattle.std.specs.Option.{option_map_or}
use Rattle.std.specs.Str.{str_eq_ignore_ascii_case}
use Rattle.syntax65.specs.Mnemonics.{mnemonic_of}
use Rattle.syntax65.specs.declared.lexing.tokens.Punctuation.{Punctuation}
use Rattle.syntax65.specs.declared.lexing.tokens.Punctuation.TheVariants as mark
use Rattle.syntax65.specs.declared.lexing.tokens.TokenKind.{TokenKind}
use Rattle.syntax65.specs.declared.lexing.tokens.TokenKind.TheVariants as token
use Rattle.base65.specs.declared.values.Op1.TheVariants as one
use Rattle.base65.specs.declared.values.Op2.{Op2}
use Rattle.base65.specs.declared.values.Op2.TheVariants.{Multiply, Divide, Modulo, BitAnd, BitXor, ShiftLeft, ShiftRight, Add, Subtract, BitOr, Equal, NotEqual, Less, Greater, LessOrEqual, GreaterOrEqual, And, Xor, Or}
use Rattle.syntax65.specs.declared.expressions.operators.OperandStart.{OperandStart}
use Rattle.syntax65.specs.declared.expressions.operators.OperandStart.TheVariants.{Number, Here, Cheap, Forward, Backward, Name, Scope, Prefix, Parenthesis, Negation, Nothing}
use Rattle.syntax65.specs.Tokens.{Lexeme}
use Rattle.syntax65.specs.Trees.{Tree, number, here, name, cheap, forward, backward, unary, binary}
use Rattle.base65.specs.declared.values.Op1.{Op1}
use Rattle.base65.specs.declared.values.Op1.TheVariants.{Not}
use Rattle.syntax65.specs.declared.expressions.operators.ExprFault.{ExprFault}
use Rattle.syntax65.specs.declared.expressions.operators.ExprFault.TheVariants.{OperandExpected, ParenthesisExpected, TooDeep}

-- ---- The meaning of a token within an expression.

abbrev pub is_register : List ℕ → Bool
is_register text =
    str_eq_ignore_ascii_case text (codes "a") || str_eq_ignore_ascii_case text (codes "x") || str_eq_ignore_ascii_case text (codes "y")

-- an identifier that is no name
abbrev pub is_reserved : List ℕ → Bool
is_reserved text = is_register text || is_some (mnemonic_of text)

-- a single `+` or `-` refers to the first label
abbrev pub unnamed_start : List ℕ → OperandStart
unnamed_start text = if nat_lt 0 (length text - 1) && (slice_index text 1 == 43) then Forward (length text - 1) else Backward (length text - 1)

abbrev pub start_of_punctuator : Punctuation → OperandStart
start_of_punctuator mark.Star = Here
start_of_punctuator mark.Scope = Scope
start_of_punctuator mark.OpenParenthesis = Parenthesis
start_of_punctuator mark.Exclamation = Negation
start_of_punctuator mark.Plus = Prefix one.Plus
start_of_punctuator mark.Minus = Prefix one.Negate
start_of_punctuator mark.Tilde = Prefix one.BitNot
start_of_punctuator mark.Less = Prefix one.LowByte
start_of_punctuator mark.Greater = Prefix one.HighByte
start_of_punctuator mark.Caret = Prefix one.BankByte
start_of_punctuator _ = Nothing

abbrev pub start_of_keyword : List ℕ → OperandStart
start_of_keyword text =
    if str_eq_ignore_ascii_case text (codes ".bitnot") then Prefix one.BitNot
    else (if str_eq_ignore_ascii_case text (codes ".lobyte") then Prefix one.LowByte
    else (if str_eq_ignore_ascii_case text (codes ".hibyte") then Prefix one.HighByte
    else (if str_eq_ignore_ascii_case text (codes ".bankbyte") then Prefix one.BankByte
    else (if str_eq_ignore_ascii_case text (codes ".not") then Negation else Nothing))))

-- how a token of this kind can begin an operand
abbrev pub operand_start_of : TokenKind → List ℕ → OperandStart
operand_start_of token.Identifier text = if is_reserved text then Nothing else Name
operand_start_of token.CheapName text = Cheap
operand_start_of token.Directive text = start_of_keyword text
operand_start_of (token.Number v) text = Number v
operand_start_of (token.Character c) text = Number c
operand_start_of token.Unnamed text = unnamed_start text
operand_start_of (token.Symbol m) text = start_of_punctuator m
operand_start_of _ text = Nothing

abbrev pub binary_of_punctuator : Punctuation → Option Op2
binary_of_punctuator mark.Star = Some Multiply
binary_of_punctuator mark.Slash = Some Divide
binary_of_punctuator mark.Ampersand = Some BitAnd
binary_of_punctuator mark.Caret = Some BitXor
binary_of_punctuator mark.ShiftLeft = Some ShiftLeft
binary_of_punctuator mark.ShiftRight = Some ShiftRight
binary_of_punctuator mark.Plus = Some Add
binary_of_punctuator mark.Minus = Some Subtract
binary_of_punctuator mark.Bar = Some BitOr
binary_of_punctuator mark.Equal = Some Equal
binary_of_punctuator mark.NotEqual = Some NotEqual
binary_of_punctuator mark.Less = Some Less
binary_of_punctuator mark.Greater = Some Greater
binary_of_punctuator mark.LessOrEqual = Some LessOrEqual
binary_of_punctuator mark.GreaterOrEqual = Some GreaterOrEqual
binary_of_punctuator mark.AndAnd = Some And
binary_of_punctuator mark.OrOr = Some Or
binary_of_punctuator _ = None

abbrev pub binary_of_keyword : List ℕ → Option Op2
binary_of_keyword text =
    if str_eq_ignore_ascii_case text (codes ".mod") then Some Modulo
    else (if str_eq_ignore_ascii_case text (codes ".bitand") then Some BitAnd
    else (if str_eq_ignore_ascii_case text (codes ".bitxor") then Some BitXor
    else (if str_eq_ignore_ascii_case text (codes ".shl") then Some ShiftLeft
    else (if str_eq_ignore_ascii_case text (codes ".shr") then Some ShiftRight
    else (if str_eq_ignore_ascii_case text (codes ".bitor") then Some BitOr
    else (if str_eq_ignore_ascii_case text (codes ".and") then Some And
    else (if str_eq_ignore_ascii_case text (codes ".xor") then Some Xor
    else (if str_eq_ignore_ascii_case text (codes ".or") then Some Or else None))))))))

-- the binary operator that a token is
abbrev pub binary_of : TokenKind → List ℕ → Option Op2
binary_of token.Directive text = binary_of_keyword text
binary_of (token.Symbol m) text = binary_of_punctuator m
binary_of _ text = None

-- the tightest binary operators have level 1; prefix operators have level 0
abbrev pub level_of : Op2 → ℕ
level_of Multiply = 1
level_of Divide = 1
level_of Modulo = 1
level_of BitAnd = 1
level_of BitXor = 1
level_of ShiftLeft = 1
level_of ShiftRight = 1
level_of Add = 2
level_of Subtract = 2
level_of BitOr = 2
level_of Equal = 3
level_of NotEqual = 3
level_of Less = 3
level_of Greater = 3
level_of LessOrEqual = 3
level_of GreaterOrEqual = 3
level_of And = 4
level_of Xor = 4
level_of Or = 5

-- ---- The phrases of the expression grammar, over indices in a list of tokens.

-- how the token at an index can begin an operand
abbrev pub operand_start_at : List Lexeme → ℕ → OperandStart
operand_start_at ts i = option_map_or (λ t. operand_start_of t.0 t.1) (slice_get ts i) Nothing

-- the binary operator at an index
abbrev pub binary_at : List Lexeme → ℕ → Option Op2
binary_at ts i = option_and_then (λ t. binary_of t.0 t.1) (slice_get ts i)

abbrev pub text_at : List Lexeme → ℕ → List ℕ
text_at ts i = option_map_or (λ t. t.1) (slice_get ts i) []

abbrev pub is_close : TokenKind → Bool
is_close (token.Symbol mark.CloseParenthesis) = true
is_close _ = false

-- whether the token at an index is `)`
abbrev pub closes_at : List Lexeme → ℕ → Bool
closes_at ts i = option_map_or (λ t. is_close t.0) (slice_get ts i) false

-- the operand that consists of one token
abbrev pub leaf_of : OperandStart → List ℕ → Option Tree
leaf_of (Number v) text = Some (number v)
leaf_of Here text = Some here
leaf_of Cheap text = Some (cheap text)
leaf_of (Forward n) text = Some (forward n)
leaf_of (Backward n) text = Some (backward n)
leaf_of _ text = None

-- names joined by `::`, as many as possible
pub data HasParts (ts : List Lexeme) : (i j : ℕ) → List (List ℕ) → Type 0 where
  last_part : (i : ℕ) → operand_start_at ts i ≡ Name → operand_start_at ts (i + 1) ≢ Scope → HasParts ts i (i + 1) (text_at ts i ∷ [])
  next_part : (i j : ℕ) (parts : List (List ℕ)) → operand_start_at ts i ≡ Name → operand_start_at ts (i + 1) ≡ Scope → HasParts ts (i + 2) j parts → HasParts ts i j (text_at ts i ∷ parts)

-- a name is missing at k
pub data LacksPart (ts : List Lexeme) : (i k : ℕ) → Type 0 where
  no_part : (i : ℕ) → operand_start_at ts i ≢ Name → LacksPart ts i i
  after_part : (i k : ℕ) → operand_start_at ts i ≡ Name → operand_start_at ts (i + 1) ≡ Scope → LacksPart ts (i + 2) k → LacksPart ts i k

-- The tokens from i up to j are a phrase of level n, nested at most this deep. Level 0 has the prefix
-- operators, levels 1 to 5 the binary operators, and level 6 the negation.
pub data Phrase (ts : List Lexeme) : (depth_left n i j : ℕ) → Tree → Type 0 where
  a_leaf : (depth_left i : ℕ) (t : Tree) → leaf_of (operand_start_at ts i) (text_at ts i) ≡ Some t → Phrase ts depth_left 0 i (i + 1) t
  a_name : (depth_left i j : ℕ) (parts : List (List ℕ)) → HasParts ts i j parts → Phrase ts depth_left 0 i j (name false parts)
  a_global : (depth_left i j : ℕ) (parts : List (List ℕ)) → operand_start_at ts i ≡ Scope → HasParts ts (i + 1) j parts → Phrase ts depth_left 0 i j (name true parts)
  prefixed : (depth_left i j : ℕ) (op : Op1) (t : Tree) → operand_start_at ts i ≡ Prefix op → Phrase ts depth_left 0 (i + 1) j t → Phrase ts (depth_left + 1) 0 i j (unary op t)
  enclosed : (depth_left i j : ℕ) (t : Tree) → operand_start_at ts i ≡ Parenthesis → Phrase ts depth_left 6 (i + 1) j t → closes_at ts j ≡ true → Phrase ts (depth_left + 1) 0 i (j + 1) t
  of_level : (depth_left n i j : ℕ) (t : Tree) → Phrase ts depth_left n i j t → Phrase ts depth_left (n + 1) i j t
  joined : (depth_left n i j k : ℕ) (op : Op2) (t u : Tree) → Phrase ts depth_left (n + 1) i j t → binary_at ts j ≡ Some op → level_of op ≡ n + 1 → Phrase ts depth_left n (j + 1) k u → Phrase ts depth_left (n + 1) i k (binary op t u)
  negated : (depth_left i j : ℕ) (t : Tree) → operand_start_at ts i ≡ Negation → Phrase ts depth_left 6 (i + 1) j t → Phrase ts (depth_left + 1) 6 i j (unary Not t)

-- the token at j is no operator of level n or a tighter one
abbrev pub HasNoOperator : List Lexeme → ℕ → ℕ → Type 0
HasNoOperator ts n j = (op : Op2) → binary_at ts j ≡ Some op → n < level_of op

abbrev pub BeginsOperand : OperandStart → Type 0
BeginsOperand Negation = ⊥
BeginsOperand Nothing = ⊥
BeginsOperand _ = ⊤

abbrev pub OpensLevel : OperandStart → Type 0
OpensLevel (Prefix op) = ⊤
OpensLevel Parenthesis = ⊤
OpensLevel _ = ⊥

-- a phrase of level n that begins at i has its first error at k
pub data PhraseFailsAt (ts : List Lexeme) : (depth_left n i k : ℕ) → ExprFault → Type 0 where
  no_operand : (depth_left i : ℕ) → (BeginsOperand (operand_start_at ts i) → ⊥) → PhraseFailsAt ts depth_left 0 i i OperandExpected
  no_name : (depth_left i k : ℕ) → operand_start_at ts i ≡ Name → LacksPart ts i k → PhraseFailsAt ts depth_left 0 i k OperandExpected
  no_global : (depth_left i k : ℕ) → operand_start_at ts i ≡ Scope → LacksPart ts (i + 1) k → PhraseFailsAt ts depth_left 0 i k OperandExpected
  too_deep : (i : ℕ) → OpensLevel (operand_start_at ts i) → PhraseFailsAt ts 0 0 i i TooDeep
  in_prefixed : (depth_left i k : ℕ) (op : Op1) (f : ExprFault) → operand_start_at ts i ≡ Prefix op → PhraseFailsAt ts depth_left 0 (i + 1) k f → PhraseFailsAt ts (depth_left + 1) 0 i k f
  in_enclosed : (depth_left i k : ℕ) (f : ExprFault) → operand_start_at ts i ≡ Parenthesis → PhraseFailsAt ts depth_left 6 (i + 1) k f → PhraseFailsAt ts (depth_left + 1) 0 i k f
  not_closed : (depth_left i j : ℕ) (t : Tree) → operand_start_at ts i ≡ Parenthesis → Phrase ts depth_left 6 (i + 1) j t → HasNoOperator ts 6 j → closes_at ts j ≡ false → PhraseFailsAt ts (depth_left + 1) 0 i j ParenthesisExpected
  in_first : (depth_left n i k : ℕ) (f : ExprFault) → (n ≡ 5 → operand_start_at ts i ≢ Negation) → PhraseFailsAt ts depth_left n i k f → PhraseFailsAt ts depth_left (n + 1) i k f
  in_next : (depth_left n i j k : ℕ) (op : Op2) (t : Tree) (f : ExprFault) → Phrase ts depth_left (n + 1) i j t → binary_at ts j ≡ Some op → level_of op ≡ n + 1 → PhraseFailsAt ts depth_left n (j + 1) k f → PhraseFailsAt ts depth_left (n + 1) i k f
  negation_too_deep : (i : ℕ) → operand_start_at ts i ≡ Negation → PhraseFailsAt ts 0 6 i i TooDeep
  in_negated : (depth_left i k : ℕ) (f : ExprFault) → operand_start_at ts i ≡ Negation → PhraseFailsAt ts depth_left 6 (i + 1) k f → PhraseFailsAt ts (depth_left + 1) 6 i k f

-- a phrase that no operator follows
pub record IsPhrase (ts : List Lexeme) (depth_left n i j : ℕ) (t : Tree) : Type 0 where
  pub phrase : Phrase ts depth_left n i j t
  pub ends : HasNoOperator ts n j

-- the result for the tokens from i on: a phrase of level n that no operator follows, or the first error
abbrev pub IsLevel : List Lexeme → (depth_left n i : ℕ) → Result (Tree × ℕ) ExprFault → Type 0
IsLevel ts depth_left n i (Ok x) = IsPhrase ts depth_left n i x.1 x.0
IsLevel ts depth_left n i (Err f) = (k : ℕ) × PhraseFailsAt ts depth_left n i k f

-- the result for all tokens: an expression at their start with its number of tokens, or the first error
abbrev pub IsParsed : List Lexeme → Result (Tree × ℕ) ExprFault → Type 0
IsParsed ts r = IsLevel ts 64 6 0 r

-- names joined by `::` from i on, or the error that one is missing
abbrev pub AreNames : List Lexeme → ℕ → Result (List (List ℕ) × ℕ) ExprFault → Type 0
AreNames ts i (Ok x) = HasParts ts i x.1 x.0
AreNames ts i (Err f) = (f ≡ OperandExpected) × ((k : ℕ) × LacksPart ts i k)
