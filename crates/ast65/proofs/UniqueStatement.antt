-- A list of tokens is parsed to at most one statement or error.
use Rattle.std.proofs.Common.{◌≡◌, ◌∙◌, ℕ, Bool, true, false, List, [], ◌∷◌, Option, Some, None, sym, ap, subst}
use Rattle.std.specs.Prelude.{Result, Ok, Err, length, codes, MatchBool, MatchOption}
use Rattle.syntax65.specs.Expressions.{IsParsed}
use Rattle.syntax65.specs.Mnemonics.{mnemonic_of}
use Rattle.base65.specs.Outcome.{◌>>=◌, AndThen}
use Rattle.syntax65.specs.Tokens.{Lexeme}
use Rattle.syntax65.specs.Trees.{Tree}
use Rattle.syntax65.specs.declared.instructions.names.Mnemonic.{Mnemonic}
use Rattle.syntax65.specs.declared.lexing.tokens.TokenKind.TheVariants as token
use Rattle.syntax65.specs.declared.lexing.tokens.Punctuation.TheVariants as mark
use Rattle.syntax65.proofs.UniqueParse.{one_parse}
use Rattle.ast65.specs.declared.fault.AsmFault.{AsmFault}
use Rattle.ast65.specs.declared.reading.keywords.Directive.{Directive}
use Rattle.ast65.specs.declared.reading.keywords.Directive.TheVariants as directive
use Rattle.ast65.specs.declared.reading.keywords.ElementKind.{ElementKind}
use Rattle.ast65.specs.declared.reading.keywords.ElementKind.TheVariants as elements
use Rattle.ast65.specs.declared.language.Index.{Index}
use Rattle.ast65.specs.declared.language.Operand.{Operand}
use Rattle.ast65.specs.declared.language.Statement.{Statement}
use Rattle.ast65.specs.declared.language.Statement.TheVariants as statement
use Rattle.ast65.specs.declared.language.Operand.TheVariants as operand
use Rattle.ast65.specs.declared.language.Item.TheVariants as item
use Rattle.ast65.specs.Parsing as p
use Rattle.ast65.specs.Parsing.{IsPlainOperand}

abbrev Answer : Type 0
Answer = Result Statement AsmFault

-- a relation has at most one result
abbrev pub One : {A : Type 0} → (A → Type 0) → Type 0
One Is = (r s : _) → Is r → Is s → r ≡ s

-- ---- Steps.

then_one : {A B : Type 0} (Is : Result A AsmFault → Type 0) (next : A → Result B AsmFault) → One Is → One (p.AndThenReturn Is next)
then_one Is next one r s h k = h.2 ∙ ap (λ q. q >>= next) (one h.0 k.0 h.1 k.1) ∙ sym k.2

pub first_one : {E A B : Type 0} (q : Result A E) (Next : A → Result B E → Type 0) → ((x : A) → One (Next x)) → One (AndThen q Next)
first_one (Ok x) Next one r s h k = one x r s h k
first_one (Err e) Next one r s h k = h ∙ sym k

-- if the first result is unique, and so is each result after it, the whole result is unique
pub followed_one : {E F A B : Type 0} (Is : Result A E → Type 0) (by : Result A E → Result A F) (Next : A → Result B F → Type 0) → One Is → ((x : A) → One (Next x)) → One (λ r. (q : Result A E) × Is q × AndThen (by q) Next r)
followed_one Is by Next one next r s h k =
    let same = one k.0 h.0 k.1 h.1 in
    first_one (by h.0) Next next r s h.2 (subst (λ q. AndThen (by q) Next s) same k.2)

pub made_one : {A B : Type 0} (Is : A → Type 0) (make : A → B) → One Is → One (λ r. (q : A) × Is q × (r ≡ make q))
made_one Is make one r s h k = h.2 ∙ ap make (one h.0 k.0 h.1 k.1) ∙ sym k.2

pub same_one : {A : Type 0} (x : A) → One (λ r. r ≡ x)
same_one x r s h k = h ∙ sym k

-- a choice by a test
test_one : {A : Type 0} (b : Bool) (P Q : A → Type 0) → One P → One Q → One (λ r. MatchBool b (P r) (Q r))
test_one true P Q where_true where_false = where_true
test_one false P Q where_true where_false = where_false

-- ---- Expressions.

expression_one : (ts : List Lexeme) → One (p.IsExpression ts)
expression_one ts = made_one (IsParsed ts) (p.complete_expression (length ts)) (one_parse ts)

front_one : (ts : List Lexeme) → One (p.IsExpressionAndRest ts)
front_one ts = made_one (IsParsed ts) (p.expression_and_rest ts) (one_parse ts)

-- ---- Lists.

each_one : {A B : Type 0} (Is : A → Result B AsmFault → Type 0) → ((x : A) → One (Is x)) → (xs : List A) → One (p.MapsEach Is xs)
each_one Is one [] r s h k = h ∙ sym k
each_one {A} {B} Is one (x ∷ xs) r s h k =
    followed_one (Is x) (λ q. q) (λ (y : B) (t : Result (List B) AsmFault). (rest : Result (List B) AsmFault) × p.MapsEach Is xs rest × (t ≡ (rest >>= (λ ys. Ok (y ∷ ys)))))
    (one x) (λ y. made_one (p.MapsEach Is xs) (λ rest. rest >>= (λ ys. Ok (y ∷ ys))) (each_one Is one xs)) r s h k

value_one : (ts : List Lexeme) → One (p.IsValue ts)
value_one ts = then_one (p.IsExpression ts) (λ x. Ok (item.Value x)) (expression_one ts)

text_item_one : (ts : List Lexeme) (w : Option (List ℕ)) → One (λ r. MatchOption w (p.IsValue ts r) (λ s. r ≡ Ok (item.StringLiteral s)))
text_item_one ts None = value_one ts
text_item_one ts (Some s) = same_one (Ok (item.StringLiteral s))

item_one : (which : ElementKind) (ts : List Lexeme) → One (p.IsItem which ts)
item_one elements.Values ts = value_one ts
item_one elements.ValuesAndTexts ts = text_item_one ts (p.string_of ts)

name_one : (ts : List Lexeme) → One (p.IsName ts)
name_one ts = same_one (p.name_of ts)

-- ---- Operands.

ended_one : (end : List Lexeme → Result (Option Index) AsmFault) (make : Tree → Option Index → Operand) (ts : List Lexeme) → One (p.IsExpressionOperand end make ts)
ended_one end make ts = then_one (p.IsExpressionAndRest ts) (λ x. end x.1 >>= (λ i. Ok (make x.0 i))) (front_one ts)

plain_operand_one : (ts : List Lexeme) → One (p.IsPlainOperand ts)
unfolding IsPlainOperand
plain_operand_one ts = test_one (p.is_spelled_as (p.identifier_of ts) (codes "a")) (λ r. r ≡ Ok operand.Accumulator) (p.IsExpressionOperand p.index_of (operand.Address None) ts) (same_one (Ok operand.Accumulator)) (ended_one p.index_of (operand.Address None) ts)

operand_one : (ts : List Lexeme) → One (p.IsOperand ts)
operand_one [] = same_one (Ok operand.Absent)
operand_one ((token.Symbol mark.Hash, t) ∷ ts) = then_one (p.IsExpression ts) (λ x. Ok (operand.Immediate x)) (expression_one ts)
operand_one ((token.Symbol mark.OpenParenthesis, t) ∷ ts) = ended_one p.closing_of p.indirect_by ts
operand_one ((token.SizePrefix own, t) ∷ ts) = ended_one p.index_of (operand.Address (Some own)) ts
operand_one ((k, t) ∷ ts) = plain_operand_one ((k, t) ∷ ts)

-- ---- Directives.

one_or_two_one : (parts : List (List Lexeme)) → One (p.IsOneOrTwo parts)
one_or_two_one [] = same_one p.not_understood
one_or_two_one (n ∷ []) = then_one (p.IsExpression n) (λ x. Ok (x, None)) (expression_one n)
one_or_two_one (n ∷ v ∷ []) = followed_one (p.IsExpression n) (λ q. q) (λ x. p.AndThenReturn (p.IsExpression v) (λ y. Ok (x, Some y))) (expression_one n) (λ x. then_one (p.IsExpression v) (λ y. Ok (x, Some y)) (expression_one v))
one_or_two_one (n ∷ v ∷ w ∷ parts) = same_one p.not_understood

range_one : (parts : List (List Lexeme)) → One (p.IsRange parts)
range_one [] = same_one (Ok (None, None))
range_one (n ∷ parts) = then_one (p.IsOneOrTwo (n ∷ parts)) (λ x. Ok (Some x.0, x.1)) (one_or_two_one (n ∷ parts))

file_part_one : (parts : List (List Lexeme)) → One (p.IsIncbin parts)
file_part_one [] = same_one p.not_understood
file_part_one (name ∷ range) =
    first_one (p.ok_or_not_understood (p.string_of name)) (λ n. p.AndThenReturn (p.IsRange range) (λ x. Ok (statement.IncbinPath n x.0 x.1)))
    (λ n. then_one (p.IsRange range) (λ x. Ok (statement.IncbinPath n x.0 x.1)) (range_one range))

assertion_one : (parts : List (List Lexeme)) → One (p.IsAssertion parts)
assertion_one [] = same_one p.not_understood
assertion_one (e ∷ []) = same_one p.not_understood
assertion_one (e ∷ a ∷ rest) = then_one (p.IsExpression e) (λ x. p.ok_or_not_understood (p.identifier_of a) >>= p.action_keyword >>= (λ act. p.assertion_text rest >>= (λ text. Ok (statement.Assert x act text)))) (expression_one e)

directive_one : (d : Directive) (ts : List Lexeme) → One (p.IsDirective d ts)
directive_one (directive.List which width) ts = then_one (p.MapsEach (p.IsItem which) (p.list_elements ts)) (λ xs. Ok (statement.Values width xs)) (each_one (p.IsItem which) (item_one which) (p.list_elements ts))
directive_one directive.Asciiz ts = same_one _
directive_one (directive.Sized which) ts = then_one (p.IsOneOrTwo (p.list_elements ts)) (λ x. Ok (p.sized_statement which x.0 x.1)) (one_or_two_one (p.list_elements ts))
directive_one directive.Incbin ts = file_part_one (p.list_elements ts)
directive_one directive.Segment [] = same_one p.not_understood
directive_one directive.Segment (t ∷ ts) = same_one _
directive_one (directive.Bare which) [] = same_one (Ok (p.bare_statement which))
directive_one (directive.Bare which) (t ∷ ts) = same_one p.not_understood
directive_one directive.Scope [] = same_one (Ok (statement.OpenScope None))
directive_one directive.Scope (t ∷ ts) = same_one _
directive_one directive.Proc ts = same_one _
directive_one (directive.Names which) ts = then_one (p.MapsEach p.IsName (p.list_elements ts)) (λ ns. Ok (p.names_statement which ns)) (each_one p.IsName name_one (p.list_elements ts))
directive_one directive.Assert ts = assertion_one (p.list_elements ts)
directive_one (directive.Message which) ts = same_one _
directive_one directive.SetProcessor ts = same_one _

-- ---- Statements.

constant_one : (n : List ℕ) (ts : List Lexeme) → One (p.IsConstant n ts)
constant_one n ts =
    first_one (p.plain_name n) (λ own. p.AndThenReturn (p.IsExpression ts) (λ x. Ok (statement.Constant own x)))
    (λ own. then_one (p.IsExpression ts) (λ x. Ok (statement.Constant own x)) (expression_one ts))

instruction_one : (m : Option Mnemonic) (ts : List Lexeme) → One (p.IsInstruction m ts)
instruction_one None ts = same_one p.not_understood
instruction_one (Some m) ts = then_one (p.IsOperand ts) (λ x. Ok (statement.Instruction m x)) (operand_one ts)

named_one : (n : List ℕ) (ts : List Lexeme) → One (p.IsNamedStatement n ts)
named_one n [] = instruction_one (mnemonic_of n) []
named_one n (t ∷ ts) = test_one (p.is_definition t) (p.IsConstant n ts) (p.IsInstruction (mnemonic_of n) (t ∷ ts)) (constant_one n ts) (instruction_one (mnemonic_of n) (t ∷ ts))

pub statement_one : (ts : List Lexeme) → One (p.IsStatement ts)
statement_one [] = same_one p.not_understood
statement_one ((token.Identifier, n) ∷ ts) = named_one n ts
statement_one ((token.Directive, d) ∷ ts) = first_one (p.ok_or_not_understood (p.directive_of d)) (λ x. p.IsDirective x ts) (λ x. directive_one x ts)
statement_one ((_, t) ∷ ts) = same_one p.not_understood
