-- The statements of lines are well-formed: identifiers are valid names, and texts are short enough.
use Rattle.std.proofs.lemmas.Grind.{common_steps}
use Rattle.std.proofs.Common.{◌≡◌, ℕ, ◌≤◌, true, List, [], ◌∷◌, refl, ap, subst, arith, ◌<◌}
use Rattle.std.specs.Prelude.{Ok, nat_le, length, ◌==◌, if◌then◌else◌, Option, Result, Err, Some}
use Rattle.std.specs.Char.{is_ascii_alphabetic, is_ascii_digit}
use Rattle.std.specs.List.{list_all, onto_first, AllByRecursion}
use Rattle.std.proofs.lemmas.Bool.Decides.{nat_tests}
use Rattle.syntax65.specs.Forms.{class_of, is_identifier_byte, is_identifier_class, IsForm}
use Rattle.syntax65.specs.declared.lexing.positions.Class.TheVariants.{Letter}
use Rattle.syntax65.specs.Tokens.{Lexeme}
use Rattle.syntax65.specs.declared.lexing.tokens.TokenKind.TheVariants.{Identifier}
use Rattle.object65.specs.Objects.{is_name, is_printed}
use Rattle.ast65.specs.Parsing.{is_identifier, is_letter}
use Rattle.semantics65.specs.Numbering.{AreSymbolNames, IsSymbolName, IsWellFormedStatement}
use Rattle.base65.specs.Outcome.{◌>>=◌, AndThen}
use Rattle.syntax65.specs.Trees.{Tree}
use Rattle.syntax65.specs.declared.instructions.names.Mnemonic.{Mnemonic}
use Rattle.syntax65.specs.Mnemonics.{mnemonic_of}
use Rattle.syntax65.specs.declared.lexing.tokens.AddressSize.{AddressSize}
use Rattle.syntax65.specs.declared.lexing.tokens.TokenKind.TheVariants as token
use Rattle.base65.specs.declared.action.Action.{Action}
use Rattle.ast65.specs.declared.fault.AsmFault.{AsmFault}
use Rattle.ast65.specs.declared.reading.keywords.Directive.{Directive}
use Rattle.ast65.specs.declared.reading.keywords.Directive.TheVariants as directive
use Rattle.ast65.specs.declared.reading.keywords.NameListDirective.{NameListDirective}
use Rattle.ast65.specs.declared.language.Statement.{Statement}
use Rattle.ast65.specs.declared.language.Statement.TheVariants as statement
use Rattle.ast65.specs.Parsing as p

-- ---- Bytes of identifiers are printable.

alphabetic_printed : (b : ℕ) → is_ascii_alphabetic b ≡ true → is_printed b ≡ true
alphabetic_printed b h = Prim.grind (arith, nat_tests)

underscore_printed : (b : ℕ) → (b == 95) ≡ true → is_printed b ≡ true
underscore_printed b h = Prim.grind (arith, nat_tests)

digit_printed : (b : ℕ) → is_ascii_digit b ≡ true → is_printed b ≡ true
digit_printed b h = Prim.grind (arith, nat_tests)

pub word_printed : (b : ℕ) → is_identifier_byte b ≡ true → is_printed b ≡ true
word_printed b w = grind (arith, common_steps, (alphabetic_printed b), (underscore_printed b), (digit_printed b))

-- ---- Names.

letter_is_word : (b : ℕ) → class_of b ≡ Letter → is_identifier_byte b ≡ true
letter_is_word b h = ap is_identifier_class h

words_printed : (bs : List ℕ) → list_all is_identifier_byte bs ≡ true → list_all is_printed bs ≡ true
words_printed [] h = refl
words_printed (b ∷ bs) h = grind (arith, common_steps, (word_printed b), (words_printed bs))

-- an identifier of at most 200 bytes is a valid name
pub short_name : (t : List ℕ) → IsForm Identifier t → length t ≤ 200 → is_name t ≡ true
short_name [] form short = elim form [ ]
short_name (b ∷ bs) form short = let first = word_printed b (letter_is_word b form.0) in let rest = words_printed bs form.1 in grind (arith, common_steps, nat_tests)

-- ---- Names of segments.

letter_printed : (b : ℕ) → is_letter b ≡ true → is_printed b ≡ true
letter_printed b h = Prim.grind (arith, nat_tests)

pub identifier_named : (n : List ℕ) → is_identifier n ≡ true → is_name n ≡ true
identifier_named [] h = cc
identifier_named (b ∷ bs) h = grind (arith, common_steps, nat_tests, (letter_printed b), (words_printed bs))

-- ---- Statements.

abbrev Answer : Type 0
Answer = Result Statement AsmFault

abbrev good : Statement → Answer
good x = Ok x

-- a success of `AndThen` is a success of the second step after a success of the first
pub after_first : {A B : Type 0} (P : B → Type 0) (q : Result A AsmFault) (Next : A → Result B AsmFault → Type 0) (x : B) → ((a : A) → Next a (Ok x) → P x) → AndThen q Next (Ok x) → P x
after_first P (Ok a) Next x each h = each a h
after_first P (Err e) Next x each h = absurd cc

-- ---- Names.

-- the name of a single token
words_named : (ts : List Lexeme) → AreSymbolNames ts → (n : List ℕ) → p.identifier_of ts ≡ Some n → is_name n ≡ true
words_named x1 named n h = grind (arith, common_steps)

name_named : (ts : List Lexeme) (n : List ℕ) (w : Option (List ℕ)) → AreSymbolNames ts → p.identifier_of ts ≡ w → Ok n ≡ (p.ok_or_not_understood w >>= p.plain_name) → is_name n ≡ true
name_named ts n x1 named word h = grind (arith, common_steps, (words_named ts named))

-- ---- List elements.

before_named : (t : Lexeme) (parts : List (List Lexeme)) → IsSymbolName t.0 t.1 → AllByRecursion AreSymbolNames parts → AllByRecursion AreSymbolNames (onto_first t parts)
before_named t x1 named all = grind (arith, common_steps)

parts_named : (ts : List Lexeme) → AreSymbolNames ts → AllByRecursion AreSymbolNames (p.list_elements ts)
parts_named [] named = (tt, tt)
parts_named (t ∷ ts) named = grind (arith, common_steps, before_named, (parts_named ts named.1))

abbrev Each : List (List Lexeme) → Type 0
Each parts = (ms : List (List ℕ)) → p.MapsEach p.IsName parts (Ok ms) → list_all is_name ms ≡ true

names_named : (parts : List (List Lexeme)) → AllByRecursion AreSymbolNames parts → Each parts
names_named [] named ns h = let e : [] ≡ ns = cc in subst (λ (x : List (List ℕ)). list_all is_name x ≡ true) e refl
names_named (part ∷ parts) named ns h = grind (arith, common_steps, (λ (n : List ℕ). name_named part n (p.identifier_of part) named.0 refl), (names_named parts named.1))

-- ---- Directives.

file_part_sound : (parts : List (List Lexeme)) (x : Statement) → p.IsIncbin parts (Ok x) → IsWellFormedStatement x
file_part_sound [] x h = cc
file_part_sound (name ∷ range) x h = grind (arith, common_steps)

names_sound : (which : NameListDirective) (ts : List Lexeme) (x : Statement) → AreSymbolNames ts → (q : Result (List (List ℕ)) AsmFault) → p.MapsEach p.IsName (p.list_elements ts) q → good x ≡ (q >>= (λ ns. good (p.names_statement which ns))) → IsWellFormedStatement x
names_sound x2 ts x named x1 is h = grind (arith, common_steps, (names_named (p.list_elements ts) (parts_named ts named)))

segment_sound : (w : Option (List ℕ)) (own : Result (Option AddressSize) AsmFault) (x : Statement) → good x ≡ (p.ok_or_not_understood w >>= (λ n. own >>= (λ o. if p.is_identifier n then good (statement.Segment n o) else p.not_understood))) → IsWellFormedStatement x
segment_sound x1 x2 x h = grind (arith, common_steps, identifier_named)

own_short : (s : Option (List ℕ)) (words : List ℕ) → Ok words ≡ (p.ok_or_not_understood s >>= (λ t. if nat_le (length t) 255 then Ok t else p.not_understood)) → length words < 256
own_short x1 words h = grind (arith, common_steps, nat_tests)

words_short : (parts : List (List Lexeme)) (words : List ℕ) → Ok words ≡ p.assertion_text parts → length words < 256
words_short x1 words h = grind (arith, common_steps, nat_tests, own_short)

asserted_sound : (e : Result Tree AsmFault) (act : Result Action AsmFault) (words : Result (List ℕ) AsmFault) (x : Statement) → ((w : List ℕ) → Ok w ≡ words → length w < 256) → good x ≡ (e >>= (λ t. act >>= (λ a. words >>= (λ w. good (statement.Assert t a w))))) → IsWellFormedStatement x
asserted_sound x1 x2 x3 x short h = grind (arith, common_steps, short)

assertion_sound : (parts : List (List Lexeme)) (x : Statement) → p.IsAssertion parts (Ok x) → IsWellFormedStatement x
assertion_sound [] x h = cc
assertion_sound (e ∷ []) x h = cc
assertion_sound (e ∷ a ∷ rest) x h = asserted_sound h.0 (p.ok_or_not_understood (p.identifier_of a) >>= p.action_keyword) (p.assertion_text rest) x (words_short rest) h.2

directive_sound : (d : Directive) (ts : List Lexeme) (x : Statement) → AreSymbolNames ts → p.IsDirective d ts (Ok x) → IsWellFormedStatement x
directive_sound (directive.List elements width) ts x named h = grind (arith, common_steps)
directive_sound directive.Asciiz ts x named h = grind (arith, common_steps)
directive_sound (directive.Sized which) ts x named h = grind (arith, common_steps)
directive_sound directive.Incbin ts x named h = file_part_sound (p.list_elements ts) x h
directive_sound directive.Segment [] x named h = cc
directive_sound directive.Segment (t ∷ ts) x named h = segment_sound (p.quoted_in t) (p.size_after ts) x h
directive_sound (directive.Bare which) [] x named h = grind (arith, common_steps)
directive_sound (directive.Bare which) (t ∷ ts) x named h = cc
directive_sound directive.Scope [] x named h = grind (arith, common_steps)
directive_sound directive.Scope (t ∷ ts) x named h = grind (arith, common_steps)
directive_sound directive.Proc ts x named h = grind (arith, common_steps)
directive_sound (directive.Names which) ts x named h = names_sound which ts x named h.0 h.1 h.2
directive_sound directive.Assert ts x named h = assertion_sound (p.list_elements ts) x h
directive_sound (directive.Message which) ts x named h = grind (arith, common_steps)
directive_sound directive.SetProcessor ts x named h = grind (arith, common_steps)

-- ---- Statements.

constant_sound : (n : List ℕ) (ts : List Lexeme) (x : Statement) → p.IsConstant n ts (Ok x) → IsWellFormedStatement x
constant_sound n ts x h = grind (arith, common_steps)

instruction_sound : (m : Option Mnemonic) (ts : List Lexeme) (x : Statement) → p.IsInstruction m ts (Ok x) → IsWellFormedStatement x
instruction_sound x1 ts x h = grind (arith, common_steps)

words_sound : (n : List ℕ) (ts : List Lexeme) (x : Statement) → p.IsNamedStatement n ts (Ok x) → IsWellFormedStatement x
words_sound n [] x h = instruction_sound (mnemonic_of n) [] x h
words_sound n (t ∷ ts) x h = grind (arith, common_steps, (constant_sound n ts x), (instruction_sound (mnemonic_of n) (t ∷ ts) x))

pub statement_sound : (ts : List Lexeme) (x : Statement) → AreSymbolNames ts → p.IsStatement ts (Ok x) → IsWellFormedStatement x
statement_sound [] x named h = cc
statement_sound ((token.Identifier, n) ∷ ts) x named h = words_sound n ts x h
statement_sound ((token.Directive, d) ∷ ts) x named h = after_first IsWellFormedStatement (p.ok_or_not_understood (p.directive_of d)) (λ a. p.IsDirective a ts) x (λ a. directive_sound a ts x named.1) h
statement_sound ((_, t) ∷ ts) x named h = cc

-- ---- Lines.
