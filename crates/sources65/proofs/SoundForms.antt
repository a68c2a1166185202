-- By the symbol table of well-formed statements, expressions have well-formed forms.
use borrow.Author.Rules.{rules}
use Rattle.std.proofs.lemmas.Grind.{common_steps}
use Rattle.syntax65.specs.Trees as tree
use Rattle.std.proofs.Common.{◌≡◌, ℕ, Bool, true, false, refl, Option, Some, None, Ok, zero, suc, subst, arith, List, [], ◌∷◌, ◌++◌, length, take, slice_get}
use Rattle.std.specs.Prelude.{⊤, IfOk, Result, ◌||◌}
use Rattle.base65.specs.declared.values.Op1.{Op1}
use Rattle.base65.specs.declared.values.Op2.{Op2}
use Rattle.object65.specs.declared.folding.FormFault.{FormFault}
use Rattle.object65.specs.Folding.{fold1, fold2}
use Rattle.object65.specs.Form.{Form, lit, sec, imp, prefix, binary}
use Rattle.object65.specs.Laws.{IsFolded}
use Rattle.object65.proofs.Foldings.{normal_law}
use Rattle.semantics65.specs.Norms.{fold_result, defined_form, form_by, form_of_binding, form_of_value, norm, norm_of}
use Rattle.std.specs.List.{AllByRecursion, flat_map}
use Rattle.base65.specs.Outcome.{◌>>=◌}
use Rattle.syntax65.specs.Trees.{Tree, number, here, name, cheap, forward, backward, unary}
use Rattle.syntax65.specs.declared.lexing.tokens.AddressSize.{AddressSize}
use Rattle.ast65.specs.declared.fault.AsmFault.{AsmFault}
use Rattle.ast65.specs.declared.fault.AsmFault.TheVariants.{Undefined, NoSuchScope, NoSuchLabel}
use Rattle.ast65.specs.declared.language.Statement.{Statement}
use Rattle.semantics65.specs.Symbols.{LaidOutStatement, needs_section, has_here, Binding, defined_at, imported_as, backward_binding, first_found, last_of, binding_of, member_binding, binding_or_fault, plain_binding, scope_from, scoped_binding, scopes_from, scope_path, display_name, unnamed_binding, Definition, Symbols, definition_index, definition_with, definitions_of, import_index, key_defined, named, unnamed_at, value_defined}
use Rattle.semantics65.specs.declared.contexts.Context.{Context}

-- ---- The sections and imports in forms.

-- the sections of a form pass the test `q`, and its imports the test `r`
abbrev pub Holds : (ℕ → Bool) → (ℕ → Bool) → Form → Type 0
Holds q r (lit v) = ⊤
Holds q r (sec k a) = q k ≡ true
Holds q r (imp k) = r k ≡ true
Holds q r (prefix op f) = Holds q r f
Holds q r (binary op f g) = Holds q r f × Holds q r g

one_holds : (q r : ℕ → Bool) (op : Op1) (f : Form) → Holds q r f → IfOk (fold1 op f) (Holds q r)
one_holds q r x1 f h = grind (arith, common_steps)

two_holds : (q r : ℕ → Bool) (op : Op2) (f g : Form) → Holds q r f → Holds q r g → IfOk (fold2 op f g) (Holds q r)
two_holds q r x1 f g h i = grind (arith, common_steps)

-- ---- Folded forms.

pub record IsWell (q r : ℕ → Bool) (f : Form) : Type 0 where
  pub folded : IsFolded f
  pub holds : Holds q r f

well_folded : (q r : ℕ → Bool) (x : Result Form FormFault) → ((f : Form) → x ≡ Ok f → IsFolded f) → IfOk x (Holds q r) → IfOk (fold_result x) (IsWell q r)
well_folded q r x1 h k = grind (arith, common_steps)

pub one_well : (q r : ℕ → Bool) (op : Op1) (f : Form) → IsWell q r f → IfOk (fold_result (fold1 op f)) (IsWell q r)
one_well q r op f w = well_folded q r (fold1 op f) (λ h e. normal_law.0 op f h w.folded e) (one_holds q r op f w.holds)

pub two_well : (q r : ℕ → Bool) (op : Op2) (f g : Form) → IsWell q r f → IsWell q r g → IfOk (fold_result (fold2 op f g)) (IsWell q r)
two_well q r op f g v w = well_folded q r (fold2 op f g) (λ h e. normal_law.1 op f g h v.folded w.folded e) (two_holds q r op f g v.holds w.holds)

-- ---- The forms of expressions.

pub well_then : {A B E : Type 0} (P : A → Type 0) (Q : B → Type 0) (r : Result A E) (f : A → Result B E) → IfOk r P → ((x : A) → P x → IfOk (f x) Q) → IfOk (r >>= f) Q
well_then x1 x2 x3 f h k = grind (arith, common_steps)

-- if a statement needs its section, its segment passes the test
abbrev pub Asks : (ℕ → Bool) → LaidOutStatement → Type 0
Asks q l = needs_section l.stated ≡ true → q l.context.segment ≡ true

or_left : (a b : Bool) → a ≡ true → (a || b) ≡ true
or_left a b h = rw h refl

or_right : (a b : Bool) → b ≡ true → (a || b) ≡ true
or_right true b h = refl
or_right false b h = h

-- ---- Expressions.

form_well : (q r : ℕ → Bool) (operand : Tree → Result Form AsmFault) (s : Context) → ((t : Tree) → IfOk (operand t) (IsWell q r)) → (e : Tree) → (has_here e ≡ true → q s.segment ≡ true) → IfOk (form_by operand s e) (IsWell q r)
form_well q r operand s h (number v) k = record { folded = (refl, omega arith); holds = tt }
form_well q r operand s h here k = record { folded = (refl, omega arith); holds = k refl }
form_well q r operand s h (name global parts) k = h (name global parts)
form_well q r operand s h (cheap n) k = h (cheap n)
form_well q r operand s h (forward n) k = h (forward n)
form_well q r operand s h (backward n) k = h (backward n)
form_well q r operand s h (unary op e) k = well_then (IsWell q r) (IsWell q r) (form_by operand s e) (λ f. fold_result (fold1 op f)) (form_well q r operand s h e k) (λ f w. one_well q r op f w)
form_well q r operand s h (tree.binary op e g) k =
    well_then (IsWell q r) (IsWell q r) (form_by operand s e) (λ f. form_by operand s g >>= (λ z. fold_result (fold2 op f z))) (form_well q r operand s h e (λ a. k (or_left (has_here e) (has_here g) a)))
    (λ f v. well_then (IsWell q r) (IsWell q r) (form_by operand s g) (λ z. fold_result (fold2 op f z)) (form_well q r operand s h g (λ a. k (or_right (has_here e) (has_here g) a))) (λ z w. two_well q r op f z v w))

-- ---- Definitions.

abbrev FormsWell : (ℕ → Bool) → (ℕ → Bool) → (Context → Tree → Result Form AsmFault) → Type 0
FormsWell q r a = (s : Context) (e : Tree) → (has_here e ≡ true → q s.segment ≡ true) → IfOk (a s e) (IsWell q r)

-- if the value of a definition depends on its address, its segment passes the test
abbrev ValuePasses : (ℕ → Bool) → ℕ → Option Tree → Type 0
ValuePasses q g None = q g ≡ true
ValuePasses q g (Some e) = has_here e ≡ true → q g ≡ true

abbrev Passes : (ℕ → Bool) → Definition → Type 0
Passes q d = ValuePasses q d.context.segment d.value

-- the segments of all definitions that need it pass `q`, and the indices of all imports pass `r`
pub record Pass (q r : ℕ → Bool) (y : Symbols) : Type 0 where
  pub definitions : AllByRecursion (Passes q) y.definitions
  pub imports : (n : List ℕ) (k : ℕ) → import_index y n ≡ Some k → r k ≡ true

value_well : (q r : ℕ → Bool) (a : Context → Tree → Result Form AsmFault) → FormsWell q r a → (s : Context) (v : Option Tree) → ValuePasses q s.segment v → IfOk (form_of_value a s v) (IsWell q r)
value_well q r a h s x1 k = grind (arith, common_steps)

item_of : {A : Type 0} (P : A → Type 0) (xs : List A) (j : ℕ) (x : A) → AllByRecursion P xs → slice_get xs j ≡ Some x → P x
item_of P [] j x h e = absurd cc
item_of P (y ∷ xs) zero x (a, h) e = (let same : y ≡ x = cc in subst P same a)
item_of P (y ∷ xs) (suc j) x (a, h) e = item_of P xs j x h e

-- the import of a binding passes the test
abbrev MeansWell : (ℕ → Bool) → Binding → Type 0
MeansWell r (defined_at j) = ⊤
MeansWell r (imported_as k) = r k ≡ true

meaning_well : (q r : ℕ → Bool) (y : Symbols) (a : Context → Tree → Result Form AsmFault) → Pass q r y → FormsWell q r a → (m : Binding) → MeansWell r m → IfOk (form_of_binding a y m) (IsWell q r)
meaning_well q r y a pass h x1 w = grind (arith, common_steps, value_well, item_of)

-- ---- Names.

found_well : (r : ℕ → Bool) (z : AsmFault) (o p : Option ℕ) → ((k : ℕ) → p ≡ Some k → r k ≡ true) → IfOk (binding_or_fault z o p) (MeansWell r)
found_well r z x1 p h = grind (arith, common_steps)

no_import : (r : ℕ → Bool) (k : ℕ) → None ≡ Some k → r k ≡ true
no_import r k e = absurd cc

plain_well : (q r : ℕ → Bool) (y : Symbols) (scope : ℕ) (n : List ℕ) → Pass q r y → IfOk (plain_binding y scope n) (MeansWell r)
plain_well q r y scope n pass = found_well r (Undefined n) (first_found (λ s. definition_index y (named s n)) (scopes_from y.scopes scope)) (import_index y n) (pass.imports n)

member_well : (q r : ℕ → Bool) (y : Symbols) (n : List ℕ) (absent lost : AsmFault) (scope : Option ℕ) → Pass q r y → IfOk (member_binding y n absent lost scope) (MeansWell r)
member_well q r y n absent lost x1 pass = grind (arith, common_steps)

scoped_well : (q r : ℕ → Bool) (y : Symbols) (s : Context) (global : Bool) (parts : List (List ℕ)) → Pass q r y → IfOk (scoped_binding y s global parts) (MeansWell r)
scoped_well q r y s global parts pass = member_well q r y (last_of parts) (Undefined (display_name global parts)) (NoSuchScope (display_name global parts)) (scope_from (take s.opened y.scopes) s.scope global (scope_path parts)) pass

unnamed_well : (r : ℕ → Bool) (y : Symbols) (k : ℕ) → IfOk (unnamed_binding y k) (MeansWell r)
unnamed_well r y k = found_well r NoSuchLabel (definition_index y (unnamed_at k)) None (no_import r)

backward_well : (r : ℕ → Bool) (y : Symbols) (k n : ℕ) → IfOk (backward_binding y k n) (MeansWell r)
backward_well r y k n = grind (arith, common_steps)

operand_well : (q r : ℕ → Bool) (y : Symbols) (s : Context) (e : Tree) → Pass q r y → IfOk (binding_of y s e) (MeansWell r)
operand_well q r y s x1 pass = search (rules, plain_well, scoped_well, found_well, no_import, unnamed_well, backward_well)

-- ---- Forms.

norm_each : (q r : ℕ → Bool) (y : Symbols) → Pass q r y → (n : ℕ) → FormsWell q r (norm n y)
norm_each q r y pass zero = λ s e k. tt
norm_each q r y pass (suc n) = λ s e k.
    form_well q r (λ t. binding_of y s t >>= form_of_binding (norm n y) y) s
    (λ t. well_then (MeansWell r) (IsWell q r) (binding_of y s t) (form_of_binding (norm n y) y) (operand_well q r y s t pass) (λ m w. meaning_well q r y (norm n y) pass (norm_each q r y pass n) m w)) e k

pub norm_well : (q r : ℕ → Bool) (y : Symbols) → Pass q r y → (s : Context) (e : Tree) → (has_here e ≡ true → q s.segment ≡ true) → IfOk (norm_of y s e) (IsWell q r)
norm_well q r y pass = norm_each q r y pass (suc (length y.definitions))

pub export_well : (q r : ℕ → Bool) (y : Symbols) → Pass q r y → (j : ℕ) → IfOk (defined_form y j) (IsWell q r)
export_well q r y pass j = meaning_well q r y (norm_of y) pass (norm_well q r y pass) (defined_at j) tt

-- ---- The definitions of statements whose segments pass.

one_passes : (q : ℕ → Bool) (s : Context) (own : AddressSize) (x : Statement) → (needs_section x ≡ true → q s.segment ≡ true) → AllByRecursion (Passes q) (definition_with (key_defined s x) (value_defined x) s own)
one_passes q s own x1 h = grind (arith, common_steps)

pub all_append : {X : Type 0} (P : X → Type 0) (xs ys : List X) → AllByRecursion P xs → AllByRecursion P ys → AllByRecursion P (xs ++ ys)
all_append P [] ys h k = k
all_append P (x ∷ xs) ys (p, h) k = (p, all_append P xs ys h k)

pub definitions_pass : (q : ℕ → Bool) (ls : List LaidOutStatement) → AllByRecursion (Asks q) ls → AllByRecursion (Passes q) (flat_map definitions_of ls)
definitions_pass q [] h = tt
definitions_pass q (l ∷ ls) (a, h) = all_append (Passes q) (definitions_of l) (flat_map definitions_of ls) (one_passes q l.context l.size l.stated a) (definitions_pass q ls h)
