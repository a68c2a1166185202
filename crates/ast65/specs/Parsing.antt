-- The grammar of lines: a label, and a statement after it.
use Rattle.std.specs.Prelude.{◌≡◌, ℕ, ◌-◌, nat_le, Bool, true, false, ◌==◌, ◌&&◌, ◌||◌, List, [], ◌∷◌, ◌++◌, length, take, drop, codes, Option, Some, None, Result, Ok, Err, IfErr, if◌then◌else◌, ok_or, option_map, MatchBool, MatchOption}
use Rattle.std.specs.Char.{is_ascii_alphabetic}
use Rattle.std.specs.List.{list_all, slice_split}
use Rattle.std.specs.Option.{option_map_or}
use Rattle.std.specs.Str.{bytes_eq, str_eq_ignore_ascii_case}
use Rattle.syntax65.specs.Expressions.{IsParsed, is_reserved}
use Rattle.syntax65.specs.Forms.{is_identifier_byte}
use Rattle.syntax65.specs.Mnemonics.{mnemonic_of}
use Rattle.base65.specs.Outcome.{◌>>=◌, AndThen}
use Rattle.base65.specs.Relations.{RefinesRel}
use Rattle.syntax65.specs.Tokens.{Lexeme}
use Rattle.syntax65.specs.Trees.{Tree}
use Rattle.syntax65.specs.declared.expressions.operators.ExprFault.{ExprFault}
use Rattle.syntax65.specs.declared.instructions.names.Mnemonic.{Mnemonic}
use Rattle.syntax65.specs.declared.lexing.tokens.AddressSize.{AddressSize}
use Rattle.syntax65.specs.declared.lexing.tokens.AddressSize.TheVariants as size
use Rattle.syntax65.specs.declared.lexing.tokens.Punctuation.TheVariants as mark
use Rattle.syntax65.specs.declared.lexing.tokens.TokenKind.{TokenKind}
use Rattle.syntax65.specs.declared.lexing.tokens.TokenKind.TheVariants as token
use Rattle.base65.specs.declared.action.Action.{Action}
use Rattle.base65.specs.declared.action.Action.TheVariants as action
use Rattle.base65.specs.declared.width.Width.TheVariants.{Byte, Word, BigEndianWord, Dword}
use Rattle.ast65.specs.declared.fault.AsmFault.{AsmFault}
use Rattle.ast65.specs.Faults.{is_failure, is_system_error}
use Rattle.ast65.specs.declared.fault.AsmFault.TheVariants.{NotUnderstood}
use Rattle.ast65.specs.declared.language.Index.{Index}
use Rattle.ast65.specs.declared.language.Index.TheVariants as index
use Rattle.ast65.specs.declared.reading.keywords.SizedDirective.{SizedDirective}
use Rattle.ast65.specs.declared.reading.keywords.SizedDirective.TheVariants as amount
use Rattle.ast65.specs.declared.reading.keywords.Directive.{Directive}
use Rattle.ast65.specs.declared.reading.keywords.Directive.TheVariants as directive
use Rattle.ast65.specs.declared.reading.keywords.ElementKind.{ElementKind}
use Rattle.ast65.specs.declared.reading.keywords.ElementKind.TheVariants as elements
use Rattle.ast65.specs.declared.reading.keywords.BareDirective.{BareDirective}
use Rattle.ast65.specs.declared.reading.keywords.BareDirective.TheVariants as lone
use Rattle.ast65.specs.declared.reading.keywords.Message.{Message}
use Rattle.ast65.specs.declared.reading.keywords.Message.TheVariants as message
use Rattle.ast65.specs.declared.reading.keywords.NameListDirective.{NameListDirective}
use Rattle.ast65.specs.declared.reading.keywords.NameListDirective.TheVariants as names
use Rattle.ast65.specs.declared.language.Item.{Item}
use Rattle.ast65.specs.declared.language.Operand.{Operand}
use Rattle.ast65.specs.declared.language.Statement.{Statement}
use Rattle.ast65.specs.declared.language.Statement.TheVariants.{Label, CheapLabel, UnnamedLabel, Constant, Instruction, Values, Reserve, Align, IncbinPath, Segment, PushSegment, PopSegment, OpenScope, CloseScope, OpenProc, CloseProc, Import, Export, Global, ForceImport, Assert, Out, Warning, Nothing}
use Rattle.ast65.specs.declared.language.Operand.TheVariants.{Absent, Accumulator, Immediate, Address, Indirect, IndirectX, IndirectY}
use Rattle.ast65.specs.declared.language.Item.TheVariants.{Value, StringLiteral}

-- the result, mapped by view, is parsed like this, unless a system error occurred; the store didn't fail
pub record ParsesAs {A B : Type 0} (view : A → B) (result : Result A AsmFault) (IsParsedAs : Result B AsmFault → Type 0) : Type 0 where
  pub value : RefinesRel is_system_error view result IsParsedAs
  pub inside : IfErr result (λ e. is_failure e ≡ false)

abbrev pub RefinesParse : {A : Type 0} → Result A AsmFault → (Result A AsmFault → Type 0) → Type 0
RefinesParse result IsParsedAs = ParsesAs (λ x. x) result IsParsedAs

-- the error of tokens that aren't understood
abbrev pub not_understood : {A : Type 0} → Result A AsmFault
not_understood = Err NotUnderstood

-- ---- Expressions.

-- the result of a relation, and then of a function of its value
abbrev pub AndThenReturn : {A B : Type 0} → (Result A AsmFault → Type 0) → (A → Result B AsmFault) → Result B AsmFault → Type 0
AndThenReturn Is next r = (q : Result _ AsmFault) × Is q × (r ≡ (q >>= next))

-- an expression that consists of all tokens
abbrev pub complete_expression : ℕ → Result (Tree × ℕ) ExprFault → Result Tree AsmFault
complete_expression count (Ok (e, n)) = if n == count then Ok e else not_understood
complete_expression count (Err e) = not_understood

abbrev pub IsExpression : List Lexeme → Result Tree AsmFault → Type 0
IsExpression ts r = (q : Result (Tree × ℕ) ExprFault) × IsParsed ts q × (r ≡ complete_expression (length ts) q)

-- an expression at the start, and the rest
abbrev pub expression_and_rest : List Lexeme → Result (Tree × ℕ) ExprFault → Result (Tree × List Lexeme) AsmFault
expression_and_rest ts (Ok (e, n)) = Ok (e, drop n ts)
expression_and_rest ts (Err f) = not_understood

abbrev pub IsExpressionAndRest : List Lexeme → Result (Tree × List Lexeme) AsmFault → Type 0
IsExpressionAndRest ts r = (q : Result (Tree × ℕ) ExprFault) × IsParsed ts q × (r ≡ expression_and_rest ts q)

-- ---- Tokens.

abbrev pub is_comma : Lexeme → Bool
is_comma (token.Symbol mark.Comma, t) = true
is_comma _ = false

abbrev pub is_colon : Lexeme → Bool
is_colon (token.Symbol mark.Colon, t) = true
is_colon _ = false

abbrev pub is_close : Lexeme → Bool
is_close (token.Symbol mark.CloseParenthesis, t) = true
is_close _ = false

-- `=` or `:=`
abbrev pub is_definition : Lexeme → Bool
is_definition (token.Symbol mark.Equal, t) = true
is_definition (token.Symbol mark.Define, t) = true
is_definition _ = false

-- the bytes between the quotes of a string
abbrev pub string_contents : List ℕ → List ℕ
string_contents quoted = take (length quoted - 2) (drop 1 quoted)

abbrev pub quoted_in : Lexeme → Option (List ℕ)
quoted_in (token.StringLiteral, t) = Some (string_contents t)
quoted_in _ = None

abbrev pub identifier_in : Lexeme → Option (List ℕ)
identifier_in (token.Identifier, t) = Some t
identifier_in _ = None

-- the bytes of the only token, if there is just one
abbrev pub only_token : (Lexeme → Option (List ℕ)) → List Lexeme → Option (List ℕ)
only_token in_token (t ∷ []) = in_token t
only_token in_token _ = None

-- a string that is the only token
abbrev pub string_of : List Lexeme → Option (List ℕ)
string_of ts = only_token quoted_in ts

-- an identifier that is the only token
abbrev pub identifier_of : List Lexeme → Option (List ℕ)
identifier_of ts = only_token identifier_in ts

abbrev pub is_spelled_as : Option (List ℕ) → List ℕ → Bool
is_spelled_as t name = option_map_or (λ s. str_eq_ignore_ascii_case s name) t false

-- whether a token is this identifier, in upper or lower case
abbrev pub is_identifier_named : Lexeme → List ℕ → Bool
is_identifier_named t name = is_spelled_as (identifier_in t) name

abbrev pub ok_or_not_understood : {A : Type 0} → Option A → Result A AsmFault
ok_or_not_understood o = ok_or o NotUnderstood

-- ---- Lists.

-- the parts between commas
abbrev pub list_elements : List Lexeme → List (List Lexeme)
list_elements ts = slice_split is_comma ts

-- the parts after a comma, if there is one
abbrev pub elements_after_comma : Option (List Lexeme) → List (List Lexeme)
elements_after_comma None = []
elements_after_comma (Some ts) = list_elements ts

-- each part satisfies the relation, up to the first error
abbrev pub MapsEach : {A B : Type 0} → (A → Result B AsmFault → Type 0) → List A → Result (List B) AsmFault → Type 0
MapsEach Is [] r = r ≡ Ok []
MapsEach Is (x ∷ xs) r = (q : Result _ AsmFault) × Is x q × AndThen q (λ y. AndThenReturn (MapsEach Is xs) (λ ys. Ok (y ∷ ys))) r

-- one expression, or two
abbrev pub IsOneOrTwo : List (List Lexeme) → Result (Tree × Option Tree) AsmFault → Type 0
IsOneOrTwo (n ∷ []) r = AndThenReturn (IsExpression n) (λ x. Ok (x, None)) r
IsOneOrTwo (n ∷ v ∷ []) r = (q : Result Tree AsmFault) × IsExpression n q × AndThen q (λ x. AndThenReturn (IsExpression v) (λ y. Ok (x, Some y))) r
IsOneOrTwo _ r = r ≡ not_understood

-- an element that is a value
abbrev pub IsValue : List Lexeme → Result Item AsmFault → Type 0
IsValue ts r = AndThenReturn (IsExpression ts) (λ x. Ok (Value x)) r

-- an element of a list: a value, or in some lists a string
abbrev pub IsItem : ElementKind → List Lexeme → Result Item AsmFault → Type 0
IsItem elements.Values ts r = IsValue ts r
IsItem elements.ValuesAndTexts ts r = MatchOption (string_of ts) (IsValue ts r) (λ s. r ≡ Ok (StringLiteral s))

abbrev pub plain_name : List ℕ → Result (List ℕ) AsmFault
plain_name t = if is_reserved t then not_understood else Ok t

-- a plain name
abbrev pub name_of : List Lexeme → Result (List ℕ) AsmFault
name_of ts = ok_or_not_understood (identifier_of ts) >>= plain_name

abbrev pub IsName : List Lexeme → Result (List ℕ) AsmFault → Type 0
IsName ts r = r ≡ name_of ts

-- ---- Operands of instructions.

-- nothing, or a comma and an index register
abbrev pub index_of : List Lexeme → Result (Option Index) AsmFault
index_of [] = Ok None
index_of (c ∷ t ∷ []) =
    if is_comma c && is_identifier_named t (codes "x") then Ok (Some index.X)
    else if is_comma c && is_identifier_named t (codes "y") then Ok (Some index.Y)
    else not_understood
index_of _ = not_understood

-- the end of an indirect operand, after `(` and an expression: `)`, `,x)` or `),y`
abbrev pub closing_of : List Lexeme → Result (Option Index) AsmFault
closing_of (a ∷ []) = if is_close a then Ok None else not_understood
closing_of (a ∷ b ∷ c ∷ []) =
    if is_comma a && is_identifier_named b (codes "x") && is_close c then Ok (Some index.X)
    else if is_close a && is_comma b && is_identifier_named c (codes "y") then Ok (Some index.Y)
    else not_understood
closing_of _ = not_understood

abbrev pub indirect_by : Tree → Option Index → Operand
indirect_by e None = Indirect e
indirect_by e (Some index.X) = IndirectX e
indirect_by e (Some index.Y) = IndirectY e

-- an operand that consists of an expression and the tokens after it, which must end it
abbrev pub IsExpressionOperand : (List Lexeme → Result (Option Index) AsmFault) → (Tree → Option Index → Operand) → List Lexeme → Result Operand AsmFault → Type 0
IsExpressionOperand end make ts r = AndThenReturn (IsExpressionAndRest ts) (λ x. end x.1 >>= (λ i. Ok (make x.0 i))) r

-- `a`, or an address without a prefix
unfoldable pub IsPlainOperand : List Lexeme → Result Operand AsmFault → Type 0
IsPlainOperand ts r = MatchBool (is_spelled_as (identifier_of ts) (codes "a")) (r ≡ Ok Accumulator) (IsExpressionOperand index_of (Address None) ts r)

-- nothing, `#e`, `(e)`, `(e,x)`, `(e),y`, `a`, `e`, `e,x` or `e,y`; the last three with an optional prefix
abbrev pub IsOperand : List Lexeme → Result Operand AsmFault → Type 0
IsOperand [] r = r ≡ Ok Absent
IsOperand ((token.Symbol mark.Hash, t) ∷ ts) r = AndThenReturn (IsExpression ts) (λ x. Ok (Immediate x)) r
IsOperand ((token.Symbol mark.OpenParenthesis, t) ∷ ts) r = IsExpressionOperand closing_of indirect_by ts r
IsOperand ((token.SizePrefix own, t) ∷ ts) r = IsExpressionOperand index_of (Address (Some own)) ts r
IsOperand ts r = IsPlainOperand ts r

-- ---- Statements of directives.

-- a statement without operands
abbrev pub bare_statement : BareDirective → Statement
bare_statement lone.PushSegment = PushSegment
bare_statement lone.PopSegment = PopSegment
bare_statement lone.EndScope = CloseScope
bare_statement lone.EndProc = CloseProc
bare_statement lone.Processor = Nothing
bare_statement lone.Code = Segment (codes "CODE") None
bare_statement lone.Rodata = Segment (codes "RODATA") None
bare_statement lone.Data = Segment (codes "DATA") None
bare_statement lone.Bss = Segment (codes "BSS") None
bare_statement lone.ZeroPage = Segment (codes "ZEROPAGE") None

-- a statement with `n[,v]`
abbrev pub sized_statement : SizedDirective → Tree → Option Tree → Statement
sized_statement amount.Reserve n v = Reserve n v
sized_statement amount.Align n v = Align n v

-- a statement with a list of names
abbrev pub names_statement : NameListDirective → List (List ℕ) → Statement
names_statement (names.Import own) ns = Import own ns
names_statement names.Export ns = Export ns
names_statement (names.Global own) ns = Global own ns
names_statement names.ForceImport ns = ForceImport ns

-- a statement with one string
abbrev pub message_statement : Message → List ℕ → Statement
message_statement message.Out s = Out s
message_statement message.Warning s = Warning s

abbrev pub size_keyword : List ℕ → Result AddressSize AsmFault
size_keyword t = if bytes_eq t (codes "zeropage") then Ok size.ZeroPage else if bytes_eq t (codes "absolute") then Ok size.Absolute else not_understood

-- nothing, or `: zeropage` or `: absolute`
abbrev pub size_after : List Lexeme → Result (Option AddressSize) AsmFault
size_after [] = Ok None
size_after (c ∷ ts) = if is_colon c then ok_or_not_understood (identifier_of ts) >>= size_keyword >>= (λ own. Ok (Some own)) else not_understood

abbrev pub is_letter : ℕ → Bool
is_letter b = is_ascii_alphabetic b || b == 95

-- an identifier's bytes
abbrev pub is_identifier : List ℕ → Bool
is_identifier [] = false
is_identifier (b ∷ bs) = is_letter b && list_all is_identifier_byte bs && nat_le (length (b ∷ bs)) 200

abbrev pub action_keyword : List ℕ → Result Action AsmFault
action_keyword t = if bytes_eq t (codes "warning") then Ok action.Warning else if bytes_eq t (codes "error") then Ok action.Error else not_understood

-- the text of an assertion: the given or the default one
abbrev pub assertion_text : List (List Lexeme) → Result (List ℕ) AsmFault
assertion_text [] = Ok (codes "assertion failed")
assertion_text (part ∷ []) = ok_or_not_understood (string_of part) >>= (λ s. if nat_le (length s) 255 then Ok s else not_understood)
assertion_text _ = not_understood

-- `e, action` or `e, action, "text"`
abbrev pub IsAssertion : List (List Lexeme) → Result Statement AsmFault → Type 0
IsAssertion (e ∷ a ∷ rest) r =
    AndThenReturn (IsExpression e) (λ x. ok_or_not_understood (identifier_of a) >>= action_keyword >>= (λ act. assertion_text rest >>= (λ text. Ok (Assert x act text)))) r
IsAssertion _ r = r ≡ not_understood

-- an optional start and an optional length
abbrev pub IsRange : List (List Lexeme) → Result (Option Tree × Option Tree) AsmFault → Type 0
IsRange [] r = r ≡ Ok (None, None)
IsRange parts r = AndThenReturn (IsOneOrTwo parts) (λ x. Ok (Some x.0, x.1)) r

-- the name of a file as a string, with an optional start and length
abbrev pub IsIncbin : List (List Lexeme) → Result Statement AsmFault → Type 0
IsIncbin [] r = r ≡ not_understood
IsIncbin (name ∷ range) r = AndThen (ok_or_not_understood (string_of name)) (λ n. AndThenReturn (IsRange range) (λ x. Ok (IncbinPath n x.0 x.1))) r

-- ---- Directives.

-- the directives by name
abbrev pub directive_keywords : List (List ℕ × Directive)
directive_keywords =
    (codes ".byte", directive.List elements.ValuesAndTexts Byte)
    ∷ (codes ".byt", directive.List elements.ValuesAndTexts Byte)
    ∷ (codes ".word", directive.List elements.Values Word)
    ∷ (codes ".addr", directive.List elements.Values Word)
    ∷ (codes ".dbyt", directive.List elements.Values BigEndianWord)
    ∷ (codes ".dword", directive.List elements.Values Dword)
    ∷ (codes ".asciiz", directive.Asciiz)
    ∷ (codes ".res", directive.Sized amount.Reserve)
    ∷ (codes ".align", directive.Sized amount.Align)
    ∷ (codes ".incbin", directive.Incbin)
    ∷ (codes ".segment", directive.Segment)
    ∷ (codes ".pushseg", directive.Bare lone.PushSegment)
    ∷ (codes ".popseg", directive.Bare lone.PopSegment)
    ∷ (codes ".code", directive.Bare lone.Code)
    ∷ (codes ".rodata", directive.Bare lone.Rodata)
    ∷ (codes ".data", directive.Bare lone.Data)
    ∷ (codes ".bss", directive.Bare lone.Bss)
    ∷ (codes ".zeropage", directive.Bare lone.ZeroPage)
    ∷ (codes ".scope", directive.Scope)
    ∷ (codes ".endscope", directive.Bare lone.EndScope)
    ∷ (codes ".proc", directive.Proc)
    ∷ (codes ".endproc", directive.Bare lone.EndProc)
    ∷ (codes ".import", directive.Names (names.Import size.Absolute))
    ∷ (codes ".importzp", directive.Names (names.Import size.ZeroPage))
    ∷ (codes ".export", directive.Names names.Export)
    ∷ (codes ".exportzp", directive.Names names.Export)
    ∷ (codes ".global", directive.Names (names.Global size.Absolute))
    ∷ (codes ".globalzp", directive.Names (names.Global size.ZeroPage))
    ∷ (codes ".forceimport", directive.Names names.ForceImport)
    ∷ (codes ".assert", directive.Assert)
    ∷ (codes ".out", directive.Message message.Out)
    ∷ (codes ".warning", directive.Message message.Warning)
    ∷ (codes ".p02", directive.Bare lone.Processor)
    ∷ (codes ".setcpu", directive.SetProcessor)
    ∷ []

abbrev pub keyword_directive : List (List ℕ × Directive) → List ℕ → Option Directive
keyword_directive [] d = None
keyword_directive ((name, w) ∷ ws) d = if str_eq_ignore_ascii_case d name then Some w else keyword_directive ws d

-- the directive with this name
abbrev pub directive_of : List ℕ → Option Directive
directive_of d = keyword_directive directive_keywords d

-- The statement of a directive and the tokens after it: a list of elements; one string, followed by a byte
-- 0; `n[,v]`; a file and the selected part; `"N"` with an optional address size; nothing; a name, which is
-- optional for a scope; names; a condition to check; one string; the processor.
abbrev pub IsDirective : Directive → List Lexeme → Result Statement AsmFault → Type 0
IsDirective (directive.List elements width) ts r = AndThenReturn (MapsEach (IsItem elements) (list_elements ts)) (λ xs. Ok (Values width xs)) r
IsDirective directive.Asciiz ts r = r ≡ (ok_or_not_understood (string_of ts) >>= (λ s. Ok (Values Byte (StringLiteral (s ++ 0 ∷ []) ∷ []))))
IsDirective (directive.Sized which) ts r = AndThenReturn (IsOneOrTwo (list_elements ts)) (λ x. Ok (sized_statement which x.0 x.1)) r
IsDirective directive.Incbin ts r = IsIncbin (list_elements ts) r
IsDirective directive.Segment [] r = r ≡ not_understood
IsDirective directive.Segment (t ∷ ts) r =
    r ≡ (ok_or_not_understood (quoted_in t) >>= (λ n. size_after ts >>= (λ own. if is_identifier n then Ok (Segment n own) else not_understood)))
IsDirective (directive.Bare which) [] r = r ≡ Ok (bare_statement which)
IsDirective (directive.Bare which) ts r = r ≡ not_understood
IsDirective directive.Scope [] r = r ≡ Ok (OpenScope None)
IsDirective directive.Scope ts r = r ≡ (name_of ts >>= (λ n. Ok (OpenScope (Some n))))
IsDirective directive.Proc ts r = r ≡ (name_of ts >>= (λ n. Ok (OpenProc n)))
IsDirective (directive.Names which) ts r = AndThenReturn (MapsEach IsName (list_elements ts)) (λ ns. Ok (names_statement which ns)) r
IsDirective directive.Assert ts r = IsAssertion (list_elements ts) r
IsDirective (directive.Message which) ts r = r ≡ (ok_or_not_understood (string_of ts) >>= (λ s. Ok (message_statement which s)))
IsDirective directive.SetProcessor ts r =
    r ≡ (ok_or_not_understood (string_of ts) >>= (λ s. if bytes_eq s (codes "6502") then Ok Nothing else not_understood))

-- ---- Lines.

-- the label that a token before `:` is, if it is one
abbrev pub named_label : TokenKind → List ℕ → Option Statement
named_label token.Identifier n = if is_reserved n then None else Some (Label n)
named_label token.CheapName n = Some (CheapLabel n)
named_label _ n = None

abbrev pub label_with_colon : Lexeme → List Lexeme → Option (Statement × List Lexeme)
label_with_colon t [] = None
label_with_colon t (c ∷ ts) = if is_colon c then option_map (λ s. (s, ts)) (named_label t.0 t.1) else None

-- the label at the start, if there is one (`name:`, `@name:` or `:`), and the rest
abbrev pub label_of : List Lexeme → Option Statement × List Lexeme
label_of [] = (None, [])
label_of (t ∷ ts) =
    if is_colon t then (Some UnnamedLabel, ts)
    else option_map_or (λ x. (Some x.0, x.1)) (label_with_colon t ts) (None, t ∷ ts)

-- the tokens after a name and `=` or `:=`
abbrev pub IsConstant : List ℕ → List Lexeme → Result Statement AsmFault → Type 0
IsConstant n ts r = AndThen (plain_name n) (λ own. AndThenReturn (IsExpression ts) (λ x. Ok (Constant own x))) r

abbrev pub IsInstruction : Option Mnemonic → List Lexeme → Result Statement AsmFault → Type 0
IsInstruction o ts r = AndThen (ok_or_not_understood o) (λ m. AndThenReturn (IsOperand ts) (λ x. Ok (Instruction m x))) r

-- a statement that begins with an identifier
abbrev pub IsNamedStatement : List ℕ → List Lexeme → Result Statement AsmFault → Type 0
IsNamedStatement n [] r = IsInstruction (mnemonic_of n) [] r
IsNamedStatement n (t ∷ ts) r = MatchBool (is_definition t) (IsConstant n ts r) (IsInstruction (mnemonic_of n) (t ∷ ts) r)

-- the statement of tokens
abbrev pub IsStatement : List Lexeme → Result Statement AsmFault → Type 0
IsStatement ((token.Identifier, n) ∷ ts) r = IsNamedStatement n ts r
IsStatement ((token.Directive, d) ∷ ts) r = AndThen (ok_or_not_understood (directive_of d)) (λ x. IsDirective x ts) r
IsStatement _ r = r ≡ not_understood
