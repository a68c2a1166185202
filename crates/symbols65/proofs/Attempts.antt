-- Attempts at forms, compared with the normal forms at each depth of expansion.
use Rattle.std.proofs.lemmas.Grind.{common_steps}
use Rattle.std.proofs.Common.{arith, ◌≡◌, ℕ, suc, ◌≤◌, refl, List, [], ◌∷◌, Option, Some, None, slice_get, Result, Ok, Err, ◌⊎◌, inl, inr}
use Rattle.std.specs.Prelude.{⊤}
use Rattle.base65.specs.Outcome.{◌>>=◌}
use Rattle.syntax65.specs.Trees.{Tree, number, here, name, cheap, forward, backward, unary, binary}
use Rattle.object65.specs.Form.{Form}
use Rattle.object65.specs.Folding.{fold1, fold2}
use Rattle.ast65.specs.declared.fault.AsmFault.{AsmFault}
use Rattle.ast65.specs.declared.fault.AsmFault.TheVariants.{Circular}
use Rattle.symbols65.specs.declared.resolving.attempt.AttemptError.{AttemptError}
use Rattle.symbols65.specs.declared.resolving.attempt.AttemptError.TheVariants.{Needs, Fault}
use Rattle.semantics65.specs.declared.contexts.Context.{Context}
use Rattle.semantics65.specs.Symbols.{Symbols, Definition, Binding, binding_of}
use Rattle.semantics65.specs.Norms.{fold_result, form_by, form_of_definition, form_of_binding, norm}
use Rattle.symbols65.specs.Resolving.{IsReference, attempt_result, attempt_definition, binding_form, operand_form, attempt_by, form_attempt, constant_attempt, last_attempt, HaveBoundedDepth}
use Rattle.symbols65.proofs.Chains.{last_course}
use Rattle.symbols65.proofs.ExpansionDepths.{NormCache, Course, expression_course, constant_course, constant_is, ok_later, ok_before}

-- the results are equal, or the first is circular and `C` is true
abbrev pub Near : Type 0 → Result Form AsmFault → Result Form AsmFault → Type 0
Near C r s = (C × (r ≡ Err Circular)) ⊎ (r ≡ s)

-- an attempt agrees with a result, given the results `v` of the constants
abbrev pub Agrees : Type 0 → (ℕ → Result Form AsmFault) → Result Form AttemptError → Result Form AsmFault → Type 0
Agrees C v (Ok f) r = Near C r (Ok f)
Agrees C v (Err (Fault z)) r = Near C r (Err z)
Agrees C v (Err (Needs j)) r = (z : AsmFault) → v j ≡ Err z → Near C r (Err z)

agrees_then : (C : Type 0) (v : ℕ → Result Form AsmFault) (a : Result Form AttemptError) (r : Result Form AsmFault) (k : Form → Result Form AttemptError) (l : Form → Result Form AsmFault) → Agrees C v a r → ((f : Form) → Agrees C v (k f) (l f)) → Agrees C v (a >>= k) (r >>= l)
agrees_then x v y r k l z h = grind (arith, common_steps)

agrees_stopped : (C : Type 0) (v : ℕ → Result Form AsmFault) (x : Result Form AsmFault) → Agrees C v (attempt_result x) x
agrees_stopped x v y = grind (arith, common_steps)

agrees_by : (C : Type 0) (v : ℕ → Result Form AsmFault) (a : Tree → Result Form AttemptError) (b : Tree → Result Form AsmFault) (s : Context) → ((t : Tree) → Agrees C v (a t) (b t)) → (e : Tree) → Agrees C v (attempt_by a s e) (form_by b s e)
agrees_by C v a b s h (number n) = inr refl
agrees_by C v a b s h here = inr refl
agrees_by C v a b s h (name global parts) = h (name global parts)
agrees_by C v a b s h (cheap n) = h (cheap n)
agrees_by C v a b s h (forward n) = h (forward n)
agrees_by C v a b s h (backward n) = h (backward n)
agrees_by C v a b s h (unary op e) = agrees_then C v (attempt_by a s e) (form_by b s e) (λ f. attempt_result (fold_result (fold1 op f))) (λ f. fold_result (fold1 op f)) (agrees_by C v a b s h e) (λ f. agrees_stopped C v (fold_result (fold1 op f)))
agrees_by C v a b s h (binary op e g) =
    agrees_then C v (attempt_by a s e) (form_by b s e) (λ f. attempt_by a s g >>= (λ k. attempt_result (fold_result (fold2 op f k)))) (λ f. form_by b s g >>= (λ k. fold_result (fold2 op f k))) (agrees_by C v a b s h e)
    (λ f. agrees_then C v (attempt_by a s g) (form_by b s g) (λ k. attempt_result (fold_result (fold2 op f k))) (λ k. fold_result (fold2 op f k)) (agrees_by C v a b s h g) (λ k. agrees_stopped C v (fold_result (fold2 op f k))))

-- ---- Constants.

-- each known form is the result of its constant, unless that is circular and `C` is true
abbrev pub Fits : Type 0 → (ℕ → Result Form AsmFault) → (ℕ → Option Form) → Type 0
Fits C v known = (j : ℕ) (f : Form) → known j ≡ Some f → Near C (v j) (Ok f)

abbrev pub at_turn : Symbols → ℕ → ℕ → Result Form AsmFault
at_turn table k j = constant_course table j k

agrees_meaning : (C : Type 0) (table : Symbols) (known : ℕ → Option Form) (k : ℕ) → Fits C (at_turn table k) known → (m : Result Binding AsmFault) → Agrees C (at_turn table k) (attempt_result m >>= binding_form known table) (m >>= form_of_binding (norm k table) table)
agrees_meaning x table known k t y = grind (arith, common_steps)

agrees_tried : (C : Type 0) (table : Symbols) (known : ℕ → Option Form) (k : ℕ) → Fits C (at_turn table k) known → (s : Context) (e : Tree) → Agrees C (at_turn table k) (form_attempt known table s e) (expression_course table s e (suc k))
agrees_tried C table known k t s e =
    agrees_by C (at_turn table k) (operand_form known table s) (λ u. binding_of table s u >>= form_of_binding (norm k table) table) s
    (λ u. agrees_meaning C table known k t (binding_of table s u)) e

agrees_definition : (C : Type 0) (v : ℕ → Result Form AsmFault) (a : Context → Tree → Result Form AttemptError) (b : Context → Tree → Result Form AsmFault) → ((s : Context) (e : Tree) → Agrees C v (a s e) (b s e)) → (o : Option Definition) → Agrees C v (attempt_definition a o) (form_of_definition b o)
agrees_definition x v a b h y = grind (arith, common_steps)

agrees_at : (C : Type 0) (table : Symbols) (known : ℕ → Option Form) (k : ℕ) → Fits C (at_turn table k) known → (j : ℕ) → Agrees C (at_turn table k) (constant_attempt known table j) (constant_course table j (suc k))
agrees_at C table known k t j = agrees_definition C (at_turn table k) (form_attempt known table) (norm (suc k) table) (λ s e. agrees_tried C table known k t s e) (slice_get table.definitions j)

-- ---- The constants that an attempt needs.

abbrev pub OnlyNeeds : (ℕ → Type 0) → Result Form AttemptError → Type 0
OnlyNeeds P a = (j : ℕ) → a ≡ Err (Needs j) → P j

only_then : (P : ℕ → Type 0) (a : Result Form AttemptError) (k : Form → Result Form AttemptError) → OnlyNeeds P a → ((f : Form) → OnlyNeeds P (k f)) → OnlyNeeds P (a >>= k)
only_then x y k h g = grind (arith, common_steps)

only_stopped : (P : ℕ → Type 0) (x : Result Form AsmFault) → OnlyNeeds P (attempt_result x)
only_stopped x y = grind (arith, common_steps)

only_by : (P : ℕ → Type 0) (a : Tree → Result Form AttemptError) (s : Context) → ((t : Tree) → OnlyNeeds P (a t)) → (e : Tree) → OnlyNeeds P (attempt_by a s e)
only_by P a s h (number n) = λ j e. absurd cc
only_by P a s h here = λ j e. absurd cc
only_by P a s h (name global parts) = h (name global parts)
only_by P a s h (cheap n) = h (cheap n)
only_by P a s h (forward n) = h (forward n)
only_by P a s h (backward n) = h (backward n)
only_by P a s h (unary op e) = only_then P (attempt_by a s e) (λ f. attempt_result (fold_result (fold1 op f))) (only_by P a s h e) (λ f. only_stopped P (fold_result (fold1 op f)))
only_by P a s h (binary op e g) =
    only_then P (attempt_by a s e) (λ f. attempt_by a s g >>= (λ k. attempt_result (fold_result (fold2 op f k)))) (only_by P a s h e)
    (λ f. only_then P (attempt_by a s g) (λ k. attempt_result (fold_result (fold2 op f k))) (only_by P a s h g) (λ k. only_stopped P (fold_result (fold2 op f k))))

-- a defined constant without a known form, which is circular at depth 0
pub record Lacks (table : Symbols) (known : ℕ → Option Form) (j : ℕ) : Type 0 where
  pub starts : constant_course table j 0 ≡ Err Circular
  pub inside : (slice_get table.definitions j ≡ None) → ⊥
  pub unfound : (f : Form) → known j ≡ Some f → ⊥

lacks_meaning : (table : Symbols) (known : ℕ → Option Form) (m : Result Binding AsmFault) → OnlyNeeds (Lacks table known) (attempt_result m >>= binding_form known table)
lacks_meaning table known x = grind (arith, common_steps)

lacks_tried : (table : Symbols) (known : ℕ → Option Form) (s : Context) (e : Tree) → OnlyNeeds (Lacks table known) (form_attempt known table s e)
lacks_tried table known s e = only_by (Lacks table known) (operand_form known table s) s (λ u. lacks_meaning table known (binding_of table s u)) e

lacks_by_definition : (P : ℕ → Type 0) (a : Context → Tree → Result Form AttemptError) → ((s : Context) (e : Tree) → OnlyNeeds P (a s e)) → (o : Option Definition) → OnlyNeeds P (attempt_definition a o)
lacks_by_definition x a h y = grind (arith, common_steps)

lacks_at : (table : Symbols) (known : ℕ → Option Form) (j : ℕ) → OnlyNeeds (Lacks table known) (constant_attempt known table j)
lacks_at table known j = lacks_by_definition (Lacks table known) (form_attempt known table) (λ s e. lacks_tried table known s e) (slice_get table.definitions j)

-- ---- Attempts with a table of known forms.

-- an attempt agrees with a course: at each depth above `c`, and at all others unless the course is circular there
pub record IsAttempt (c : ℕ) (table : Symbols) (known : ℕ → Option Form) (v : Course) (a : Result Form AttemptError) : Type 0 where
  pub later : (k : ℕ) → c ≤ k → Agrees ⊥ (at_turn table k) a (v (suc k))
  pub ever : (k : ℕ) → Agrees ⊤ (at_turn table k) a (v (suc k))
  pub lacks : OnlyNeeds (Lacks table known) a

fits_later : (c : ℕ) (table : Symbols) (known : ℕ → Option Form) → HaveBoundedDepth c table known → (k : ℕ) → c ≤ k → Fits ⊥ (at_turn table k) known
fits_later c table known h k le = λ j f q. inr (ok_later (constant_course table j) (constant_is table j) c k f le (h j f q))

fits_ever : (c : ℕ) (table : Symbols) (known : ℕ → Option Form) → HaveBoundedDepth c table known → (k : ℕ) → Fits ⊤ (at_turn table k) known
fits_ever c table known h k = λ j f q. near (ok_before (constant_course table j) (constant_is table j) k c f (h j f q))
  where
    near : {r s : Result Form AsmFault} → NormCache r s → Near ⊤ r s
    near (inl e) = inl (tt, e)
    near (inr e) = inr e

pub attempt_first : (c : ℕ) (table : Symbols) (known : ℕ → Option Form) → HaveBoundedDepth c table known → (s : Context) (e : Tree) → IsAttempt c table known (expression_course table s e) (form_attempt known table s e)
attempt_first c table known h s e = record {
  later = λ k le. agrees_tried ⊥ table known k (fits_later c table known h k le) s e;
  ever = λ k. agrees_tried ⊤ table known k (fits_ever c table known h k) s e;
  lacks = lacks_tried table known s e;
}

pub attempt_at : (c : ℕ) (table : Symbols) (known : ℕ → Option Form) → HaveBoundedDepth c table known → (j : ℕ) → IsAttempt c table known (constant_course table j) (constant_attempt known table j)
attempt_at c table known h j = record {
  later = λ k le. agrees_at ⊥ table known k (fits_later c table known h k le) j;
  ever = λ k. agrees_at ⊤ table known k (fits_ever c table known h k) j;
  lacks = lacks_at table known j;
}

pub attempt_last : (c : ℕ) (table : Symbols) (known : ℕ → Option Form) → HaveBoundedDepth c table known → (v : Course) (a : Result Form AttemptError) → IsAttempt c table known v a → (ws : List ℕ) → IsAttempt c table known (last_course table v ws) (last_attempt (constant_attempt known table) a ws)
attempt_last c table known h v a t [] = t
attempt_last c table known h v a t (w ∷ ws) = attempt_last c table known h (constant_course table w) (constant_attempt known table w) (attempt_at c table known h w) ws

-- ---- Operands.

-- the attempt at a reference is the attempt at an operand
pub operand_tried : (a : Tree → Result Form AttemptError) (s : Context) (e : Tree) → IsReference e → a e ≡ attempt_by a s e
operand_tried a s x r = grind (arith, common_steps)
