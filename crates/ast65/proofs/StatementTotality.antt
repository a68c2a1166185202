-- Each list of tokens is parsed to a statement or to an error, which is no system error.
use Rattle.std.proofs.Common.{◌≡◌, ℕ, Bool, true, false, List, [], ◌∷◌, length, Option, Some, None, refl}
use Rattle.std.specs.Prelude.{Result, Ok, Err, codes, nat_le, ◌==◌, MatchBool, MatchOption}
use Rattle.std.specs.Str.{bytes_eq}
use Rattle.base65.specs.Outcome.{◌>>=◌, AndThen}
use Rattle.base65.proofs.SystemErrors.{Own, bad, choice, good, next, Has, first_own}
use Rattle.syntax65.specs.Expressions.{is_reserved}
use Rattle.syntax65.specs.Mnemonics.{mnemonic_of}
use Rattle.syntax65.specs.Tokens.{Lexeme}
use Rattle.syntax65.specs.Trees.{Tree}
use Rattle.syntax65.specs.declared.expressions.operators.ExprFault.{ExprFault}
use Rattle.syntax65.specs.declared.instructions.names.Mnemonic.{Mnemonic}
use Rattle.syntax65.specs.declared.lexing.tokens.Punctuation.TheVariants as mark
use Rattle.syntax65.specs.declared.lexing.tokens.TokenKind.TheVariants as token
use Rattle.syntax65.proofs.ParseTotality.{some_parse}
use Rattle.ast65.specs.Faults.{is_system_error}
use Rattle.ast65.specs.Laws.{StatementExists}
use Rattle.ast65.specs.Parsing as p
use Rattle.ast65.specs.Parsing.{IsPlainOperand}
use Rattle.ast65.specs.declared.fault.AsmFault.{AsmFault}
use Rattle.ast65.specs.declared.language.Index.{Index}
use Rattle.ast65.specs.declared.language.Item.TheVariants as item
use Rattle.ast65.specs.declared.language.Operand.{Operand}
use Rattle.ast65.specs.declared.language.Operand.TheVariants as operand
use Rattle.ast65.specs.declared.language.Statement.TheVariants as statement
use Rattle.ast65.specs.declared.reading.keywords.Directive.{Directive}
use Rattle.ast65.specs.declared.reading.keywords.Directive.TheVariants as directive
use Rattle.ast65.specs.declared.reading.keywords.ElementKind.{ElementKind}
use Rattle.ast65.specs.declared.reading.keywords.ElementKind.TheVariants as elements

-- the relation has a result that is no system error
abbrev There : {A : Type 0} → (Result A AsmFault → Type 0) → Type 0
There Is = Has is_system_error Is

-- ---- Steps.

same_there : {A : Type 0} (q : Result A AsmFault) → Own is_system_error q → There (λ r. r ≡ q)
same_there q own = (q, refl, own)

unknown_there : {A : Type 0} → There (λ (r : Result A AsmFault). r ≡ p.not_understood)
unknown_there = (p.not_understood, refl, bad _ refl)

next_there : {A B : Type 0} (Is : Result A AsmFault → Type 0) (following : A → Result B AsmFault) → There Is → ((x : A) → Own is_system_error (following x)) → There (p.AndThenReturn Is following)
next_there Is following h own = (h.0 >>= following, (h.0, h.1, refl), next h.0 following h.2 own)

followed_there : {A B : Type 0} (Is : Result A AsmFault → Type 0) (Next : A → Result B AsmFault → Type 0) → There Is → ((x : A) → There (Next x)) → There (λ r. (q : Result A AsmFault) × Is q × AndThen q Next r)
followed_there Is Next h some = let n = first_own is_system_error h.0 Next h.2 some in (n.0, (h.0, h.1, n.1), n.2)

test_there : {A : Type 0} (b : Bool) (P Q : Result A AsmFault → Type 0) → There P → There Q → There (λ r. MatchBool b (P r) (Q r))
test_there true P Q where_true where_false = where_true
test_there false P Q where_true where_false = where_false

understood_own : {A : Type 0} (o : Option A) → Own is_system_error (p.ok_or_not_understood o)
understood_own None = bad _ refl
understood_own (Some x) = good x

-- ---- Expressions.

whole_own : (count : ℕ) (q : Result (Tree × ℕ) ExprFault) → Own is_system_error (p.complete_expression count q)
whole_own count (Ok (e, n)) = choice (n == count) _ _ (good e) (bad _ refl)
whole_own count (Err f) = bad _ refl

after_own : (ts : List Lexeme) (q : Result (Tree × ℕ) ExprFault) → Own is_system_error (p.expression_and_rest ts q)
after_own ts (Ok (e, n)) = good _
after_own ts (Err f) = bad _ refl

expression_there : (ts : List Lexeme) → There (p.IsExpression ts)
expression_there ts = let q = some_parse ts in (p.complete_expression (length ts) q.0, (q.0, q.1, refl), whole_own (length ts) q.0)

front_there : (ts : List Lexeme) → There (p.IsExpressionAndRest ts)
front_there ts = let q = some_parse ts in (p.expression_and_rest ts q.0, (q.0, q.1, refl), after_own ts q.0)

-- ---- Lists.

each_there : {A B : Type 0} (Is : A → Result B AsmFault → Type 0) → ((x : A) → There (Is x)) → (xs : List A) → There (p.MapsEach Is xs)
each_there Is some [] = (Ok [], refl, good _)
each_there {A} {B} Is some (x ∷ xs) =
    followed_there (Is x) (λ (y : B) (t : Result (List B) AsmFault). p.AndThenReturn (p.MapsEach Is xs) (λ ys. Ok (y ∷ ys)) t)
    (some x) (λ y. next_there (p.MapsEach Is xs) (λ ys. Ok (y ∷ ys)) (each_there Is some xs) (λ ys. good _))

value_there : (ts : List Lexeme) → There (p.IsValue ts)
value_there ts = next_there (p.IsExpression ts) (λ x. Ok (item.Value x)) (expression_there ts) (λ x. good _)

text_item_there : (ts : List Lexeme) (w : Option (List ℕ)) → There (λ r. MatchOption w (p.IsValue ts r) (λ s. r ≡ Ok (item.StringLiteral s)))
text_item_there ts None = value_there ts
text_item_there ts (Some s) = same_there (Ok (item.StringLiteral s)) (good _)

item_there : (which : ElementKind) (ts : List Lexeme) → There (p.IsItem which ts)
item_there elements.Values ts = value_there ts
item_there elements.ValuesAndTexts ts = text_item_there ts (p.string_of ts)

plain_own : (t : List ℕ) → Own is_system_error (p.plain_name t)
plain_own t = choice (is_reserved t) _ _ (bad _ refl) (good t)

name_own : (ts : List Lexeme) → Own is_system_error (p.name_of ts)
name_own ts = next (p.ok_or_not_understood (p.identifier_of ts)) _ (understood_own (p.identifier_of ts)) plain_own

name_there : (ts : List Lexeme) → There (p.IsName ts)
name_there ts = same_there (p.name_of ts) (name_own ts)

-- ---- Operands.

index_own : (ts : List Lexeme) → Own is_system_error (p.index_of ts)
index_own [] = good _
index_own (c ∷ []) = bad _ refl
index_own (c ∷ t ∷ []) = search (choice, bad, good)
index_own (c ∷ t ∷ u ∷ ts) = bad _ refl

closing_own : (ts : List Lexeme) → Own is_system_error (p.closing_of ts)
closing_own [] = bad _ refl
closing_own (a ∷ []) = choice _ _ _ (good _) (bad _ refl)
closing_own (a ∷ b ∷ []) = bad _ refl
closing_own (a ∷ b ∷ c ∷ []) = search (choice, bad, good)
closing_own (a ∷ b ∷ c ∷ d ∷ ts) = bad _ refl

ended_there : (end : List Lexeme → Result (Option Index) AsmFault) (make : Tree → Option Index → Operand) (ts : List Lexeme) → ((us : List Lexeme) → Own is_system_error (end us)) → There (p.IsExpressionOperand end make ts)
ended_there end make ts own = next_there (p.IsExpressionAndRest ts) (λ x. end x.1 >>= (λ i. Ok (make x.0 i))) (front_there ts) (λ x. next (end x.1) _ (own x.1) (λ i. good _))

plain_operand_there : (ts : List Lexeme) → There (p.IsPlainOperand ts)
unfolding IsPlainOperand
plain_operand_there ts = test_there (p.is_spelled_as (p.identifier_of ts) (codes "a")) (λ r. r ≡ Ok operand.Accumulator) (p.IsExpressionOperand p.index_of (operand.Address None) ts) (same_there (Ok operand.Accumulator) (good _)) (ended_there p.index_of (operand.Address None) ts index_own)

operand_there : (ts : List Lexeme) → There (p.IsOperand ts)
operand_there [] = same_there (Ok operand.Absent) (good _)
operand_there ((token.Symbol mark.Hash, t) ∷ ts) = next_there (p.IsExpression ts) (λ x. Ok (operand.Immediate x)) (expression_there ts) (λ x. good _)
operand_there ((token.Symbol mark.OpenParenthesis, t) ∷ ts) = ended_there p.closing_of p.indirect_by ts closing_own
operand_there ((token.SizePrefix own, t) ∷ ts) = ended_there p.index_of (operand.Address (Some own)) ts index_own
operand_there ((k, t) ∷ ts) = plain_operand_there ((k, t) ∷ ts)

-- ---- Directives.

one_or_two_there : (parts : List (List Lexeme)) → There (p.IsOneOrTwo parts)
one_or_two_there [] = unknown_there
one_or_two_there (n ∷ []) = next_there (p.IsExpression n) (λ x. Ok (x, None)) (expression_there n) (λ x. good _)
one_or_two_there (n ∷ v ∷ []) = followed_there (p.IsExpression n) (λ x. p.AndThenReturn (p.IsExpression v) (λ y. Ok (x, Some y))) (expression_there n) (λ x. next_there (p.IsExpression v) (λ y. Ok (x, Some y)) (expression_there v) (λ y. good _))
one_or_two_there (n ∷ v ∷ w ∷ parts) = unknown_there

range_there : (parts : List (List Lexeme)) → There (p.IsRange parts)
range_there [] = same_there (Ok (None, None)) (good _)
range_there (n ∷ parts) = next_there (p.IsOneOrTwo (n ∷ parts)) (λ x. Ok (Some x.0, x.1)) (one_or_two_there (n ∷ parts)) (λ x. good _)

file_part_there : (parts : List (List Lexeme)) → There (p.IsIncbin parts)
file_part_there [] = unknown_there
file_part_there (title ∷ range) =
    first_own is_system_error (p.ok_or_not_understood (p.string_of title)) (λ n. p.AndThenReturn (p.IsRange range) (λ x. Ok (statement.IncbinPath n x.0 x.1))) (understood_own (p.string_of title))
    (λ n. next_there (p.IsRange range) (λ x. Ok (statement.IncbinPath n x.0 x.1)) (range_there range) (λ x. good _))

action_own : (t : List ℕ) → Own is_system_error (p.action_keyword t)
action_own t = search (choice, bad, good)

words_own : (parts : List (List Lexeme)) → Own is_system_error (p.assertion_text parts)
words_own [] = good _
words_own (part ∷ []) = next (p.ok_or_not_understood (p.string_of part)) _ (understood_own (p.string_of part)) (λ s. choice (nat_le (length s) 255) _ _ (good s) (bad _ refl))
words_own (part ∷ other ∷ parts) = bad _ refl

assertion_there : (parts : List (List Lexeme)) → There (p.IsAssertion parts)
assertion_there [] = unknown_there
assertion_there (e ∷ []) = unknown_there
assertion_there (e ∷ a ∷ rest) = next_there (p.IsExpression e) (λ x. p.ok_or_not_understood (p.identifier_of a) >>= p.action_keyword >>= (λ act. p.assertion_text rest >>= (λ text. Ok (statement.Assert x act text)))) (expression_there e)
    (λ x. next (p.ok_or_not_understood (p.identifier_of a) >>= p.action_keyword) _ (next (p.ok_or_not_understood (p.identifier_of a)) _ (understood_own (p.identifier_of a)) action_own) (λ act. next (p.assertion_text rest) _ (words_own rest) (λ text. good _)))

size_word_own : (t : List ℕ) → Own is_system_error (p.size_keyword t)
size_word_own t = search (choice, bad, good)

size_own : (ts : List Lexeme) → Own is_system_error (p.size_after ts)
size_own [] = good _
size_own (c ∷ ts) = choice (p.is_colon c) _ _ (next (p.ok_or_not_understood (p.identifier_of ts) >>= p.size_keyword) _ (next (p.ok_or_not_understood (p.identifier_of ts)) _ (understood_own (p.identifier_of ts)) size_word_own) (λ own. good _)) (bad _ refl)

directive_there : (d : Directive) (ts : List Lexeme) → There (p.IsDirective d ts)
directive_there (directive.List which width) ts = next_there (p.MapsEach (p.IsItem which) (p.list_elements ts)) (λ xs. Ok (statement.Values width xs)) (each_there (p.IsItem which) (item_there which) (p.list_elements ts)) (λ xs. good _)
directive_there directive.Asciiz ts = same_there _ (next (p.ok_or_not_understood (p.string_of ts)) _ (understood_own (p.string_of ts)) (λ s. good _))
directive_there (directive.Sized which) ts = next_there (p.IsOneOrTwo (p.list_elements ts)) (λ x. Ok (p.sized_statement which x.0 x.1)) (one_or_two_there (p.list_elements ts)) (λ x. good _)
directive_there directive.Incbin ts = file_part_there (p.list_elements ts)
directive_there directive.Segment [] = unknown_there
directive_there directive.Segment (t ∷ ts) = same_there _ (next (p.ok_or_not_understood (p.quoted_in t)) _ (understood_own (p.quoted_in t)) (λ n. next (p.size_after ts) _ (size_own ts) (λ own. choice (p.is_identifier n) _ _ (good _) (bad _ refl))))
directive_there (directive.Bare which) [] = same_there (Ok (p.bare_statement which)) (good _)
directive_there (directive.Bare which) (t ∷ ts) = unknown_there
directive_there directive.Scope [] = same_there (Ok (statement.OpenScope None)) (good _)
directive_there directive.Scope (t ∷ ts) = same_there _ (next (p.name_of (t ∷ ts)) _ (name_own (t ∷ ts)) (λ n. good _))
directive_there directive.Proc ts = same_there _ (next (p.name_of ts) _ (name_own ts) (λ n. good _))
directive_there (directive.Names which) ts = next_there (p.MapsEach p.IsName (p.list_elements ts)) (λ ns. Ok (p.names_statement which ns)) (each_there p.IsName name_there (p.list_elements ts)) (λ ns. good _)
directive_there directive.Assert ts = assertion_there (p.list_elements ts)
directive_there (directive.Message which) ts = same_there _ (next (p.ok_or_not_understood (p.string_of ts)) _ (understood_own (p.string_of ts)) (λ s. good _))
directive_there directive.SetProcessor ts = same_there _ (next (p.ok_or_not_understood (p.string_of ts)) _ (understood_own (p.string_of ts)) (λ s. choice (bytes_eq s (codes "6502")) _ _ (good _) (bad _ refl)))

-- ---- Statements.

constant_there : (n : List ℕ) (ts : List Lexeme) → There (p.IsConstant n ts)
constant_there n ts =
    first_own is_system_error (p.plain_name n) (λ own. p.AndThenReturn (p.IsExpression ts) (λ x. Ok (statement.Constant own x))) (plain_own n)
    (λ own. next_there (p.IsExpression ts) (λ x. Ok (statement.Constant own x)) (expression_there ts) (λ x. good _))

instruction_there : (m : Option Mnemonic) (ts : List Lexeme) → There (p.IsInstruction m ts)
instruction_there None ts = unknown_there
instruction_there (Some m) ts = next_there (p.IsOperand ts) (λ x. Ok (statement.Instruction m x)) (operand_there ts) (λ x. good _)

named_there : (n : List ℕ) (ts : List Lexeme) → There (p.IsNamedStatement n ts)
named_there n [] = instruction_there (mnemonic_of n) []
named_there n (t ∷ ts) = test_there (p.is_definition t) (p.IsConstant n ts) (p.IsInstruction (mnemonic_of n) (t ∷ ts)) (constant_there n ts) (instruction_there (mnemonic_of n) (t ∷ ts))

pub statement_there : (ts : List Lexeme) → There (p.IsStatement ts)
statement_there [] = unknown_there
statement_there ((token.Identifier, n) ∷ ts) = named_there n ts
statement_there ((token.Directive, d) ∷ ts) = first_own is_system_error (p.ok_or_not_understood (p.directive_of d)) (λ x. p.IsDirective x ts) (understood_own (p.directive_of d)) (λ x. directive_there x ts)
statement_there ((_, t) ∷ ts) = unknown_there

pub some_statement : StatementExists
some_statement ts = let r = statement_there ts in (r.0, r.1, r.2.own)
