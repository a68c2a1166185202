-- The evaluation of an expression from those of its operands, and of a statement from those of its expressions.
use Rattle.std.proofs.lemmas.Grind.{common_steps}
use Rattle.std.proofs.Common.{◌≡◌, ◌∙◌, ◌⊎◌, inl, inr, ◌<◌, ◌++◌, ℕ, zero, suc, get_or, List, [], ◌∷◌, length, Bool, true, false, Option, Some, None, Result, Ok, Err, refl, sym, ap, subst, arith, append-nil}
use Rattle.std.specs.Prelude.{ℤ, IfOk, is_some, slice_get, if◌then◌else◌}
use Rattle.std.specs.Option.{option_and_then}
use Rattle.base65.specs.Outcome.{◌>>=◌, Unless}
use Rattle.base65.specs.declared.values.Op1.{Op1}
use Rattle.base65.specs.declared.values.Op2.{Op2}
use Rattle.syntax65.specs.Trees.{Tree, number, here, unary, binary}
use Rattle.syntax65.specs.declared.lexing.tokens.AddressSize.{AddressSize}
use Rattle.syntax65.specs.declared.lexing.tokens.AddressSize.TheVariants as size
use Rattle.object65.specs.Form.{Form}
use Rattle.object65.specs.Folding.{fold1, fold2}
use Rattle.ast65.specs.declared.fault.AsmFault.{AsmFault}
use Rattle.ast65.specs.Faults.{is_out_of_memory}
use Rattle.semantics65.specs.declared.contexts.Context.{Context}
use Rattle.semantics65.specs.declared.contexts.EncodingChoice.TheVariants.{FillByte}
use Rattle.semantics65.specs.Layout.{missing_scope_fault, item_trees, missing_scopes_fault, operand_trees, optional_tree, or_then, trees_of, unless_fault}
use Rattle.semantics65.specs.Norms.{constant_in, nat_or_zero, fill_encoding, optional_value, fold_result, larger, literal_in, norm_of, size_by, size_of, size_of_binding, is_byte_selector}
use Rattle.semantics65.specs.Symbols.{Binding, Scope, Symbols, binding_of}
use Rattle.ast65.specs.declared.language.Item.{Item}
use Rattle.ast65.specs.declared.language.Item.TheVariants as items
use Rattle.ast65.specs.declared.language.Operand.{Operand}
use Rattle.ast65.specs.declared.language.Operand.TheVariants as operands
use Rattle.ast65.specs.declared.language.Statement.{Statement}
use Rattle.ast65.specs.declared.language.Statement.TheVariants as statement
use Rattle.base65.specs.declared.width.Width.{Width}
use Rattle.semantics65.specs.Contents.{operand_tree}
use Rattle.symbols65.specs.Evaluations.{AreEvaluations, EvaluatesTree, HasFinal, HaveFinals, IsEvaluated, IsEvaluation, first_tree, item_tree, items_in, second_tree}
use Rattle.symbols65.specs.Resolving.{IsFinalWithin, IsReference, binary_form, plain_form, plain_result, prefix_form}
use Rattle.symbols65.specs.declared.constants.Evaluation.{Evaluation}
use Rattle.symbols65.specs.declared.measuring.trees.Evaluations.{Evaluations}
use Rattle.symbols65.proofs.Finals.{binary_stays, prefix_stays}
use Rattle.symbols65.proofs.StatementLayouts.{left_after, refused_first, refused_same, unless_then}
use Rattle.symbols65.proofs.ExpansionDepths.{extends_itself}
use Rattle.symbols65.proofs.InternedNames.{get_more}
use Rattle.symbols65.proofs.PlainForms.{binary_plain, folded_plain, left_alone, plain_again, plain_known, plain_twice, plain_value, prefix_plain}

-- ---- The number or address of an operation depends only on those of its operands.

prefix_drops : (op : Op1) (o : Option Form) → option_and_then plain_form (prefix_form op o) ≡ option_and_then plain_form (prefix_form op (option_and_then plain_form o))
prefix_drops op None = refl
prefix_drops op (Some f) = folded_plain (fold1 op f) ∙ sym (prefix_plain op (Ok f))

prefix_held : (op : Op1) (o : Option Form) (r : Result Form AsmFault) → option_and_then plain_form o ≡ plain_result r → option_and_then plain_form (prefix_form op o) ≡ plain_result (r >>= (λ f. fold_result (fold1 op f)))
prefix_held op o r h = prefix_drops op o ∙ ap (λ p. option_and_then plain_form (prefix_form op p)) h ∙ prefix_plain op r

binary_drops : (op : Op2) (o p : Option Form) → option_and_then plain_form (binary_form op o p) ≡ option_and_then plain_form (binary_form op (option_and_then plain_form o) (option_and_then plain_form p))
binary_drops op None p = refl
binary_drops op (Some f) None = sym (ap (option_and_then plain_form) (left_alone op (plain_form f)))
binary_drops op (Some f) (Some g) = folded_plain (fold2 op f g) ∙ sym (binary_plain op (Ok f) (Ok g))

binary_held : (op : Op2) (o p : Option Form) (q r : Result Form AsmFault) → option_and_then plain_form o ≡ plain_result q → option_and_then plain_form p ≡ plain_result r → option_and_then plain_form (binary_form op o p) ≡ plain_result (q >>= (λ f. r >>= (λ g. fold_result (fold2 op f g))))
binary_held op o p q r h k =
    binary_drops op o p
    ∙ ap (λ x. option_and_then plain_form (binary_form op x (option_and_then plain_form p))) h
    ∙ ap (λ x. option_and_then plain_form (binary_form op (plain_result q) x)) k
    ∙ binary_plain op q r

-- ---- The form that an evaluation stores.

abbrev held : Bool → Option Form → Option Form
held b o = if b then o else option_and_then plain_form o

held_plain : (b : Bool) (o : Option Form) → option_and_then plain_form (held b o) ≡ option_and_then plain_form o
held_plain true o = refl
held_plain false None = refl
held_plain false (Some f) = plain_twice f

held_whole : (b : Bool) (o p : Option Form) (f : Form) → p ≡ held b o → b ≡ true → p ≡ Some f → o ≡ Some f
held_whole true o p f h e is = sym h ∙ is
held_whole false o p f h e is = absurd cc

value_held : (y : Symbols) (s : Context) (e : Tree) (o : Option Form) → option_and_then plain_form o ≡ plain_result (norm_of y s e) → option_and_then (λ f. literal_in (Ok f)) o ≡ constant_in y s e
value_held y s e o h = plain_value o ∙ ap (option_and_then (λ f. literal_in (Ok f))) h ∙ plain_known (norm_of y s e)

-- an evaluation is built from a form, from whether the form is final, and from a size, which applies if the form is no
-- number
pub record IsMadeOf (r : Evaluation) (o : Option Form) (b : Bool) (other : AddressSize) : Type 0 where
  pub form : r.form ≡ held b o
  pub final : r.is_final ≡ b
  pub size : r.size ≡ size_by other (option_and_then (λ f. literal_in (Ok f)) o)

-- conditions under which such an evaluation is that of an expression
made : (y : Symbols) (s : Context) (own : AddressSize) (e : Tree) (r : Evaluation) (o : Option Form) (b : Bool) (other : AddressSize) →
    IsMadeOf r o b other → option_and_then plain_form o ≡ plain_result (norm_of y s e) → (b ≡ true → (f : Form) → o ≡ Some f → IsFinalWithin (length y.definitions) y s e f) →
    size_by other (constant_in y s e) ≡ size_of y s own e → IsEvaluation y s own e r
made y s own e r o b other m whole stays sized = record {
  form = ap (option_and_then plain_form) m.form ∙ held_plain b o ∙ whole;
  stays = λ yes f is. stays (sym m.final ∙ yes) f (held_whole b o r.form f m.form (sym m.final ∙ yes) is);
  size = m.size ∙ ap (size_by other) (value_held y s e o whole) ∙ sized;
}

-- ---- Operations.

module _ (y : Symbols) (s : Context) (own : AddressSize) where
  pub prefix_found : (op : Op1) (e : Tree) (v r : Evaluation) (o : Option Form) (other : AddressSize) → IsEvaluation y s own e v → o ≡ prefix_form op v.form → other ≡ (if is_byte_selector op then size.ZeroPage else v.size) →
      IsMadeOf r o v.is_final other → IsEvaluation y s own (unary op e) r
  prefix_found op e v r o other h folds sized m =
      made y s own (unary op e) r o v.is_final other m
      (ap (option_and_then plain_form) folds ∙ prefix_held op v.form (norm_of y s e) h.form)
      (λ yes f is. prefix_stays (length y.definitions) y s op e v.form (h.stays yes) f (sym folds ∙ is))
      (ap (λ a. size_by a (constant_in y s (unary op e))) (sized ∙ ap (λ (a : AddressSize). if is_byte_selector op then size.ZeroPage else a) h.size))

  pub binary_found : (op : Op2) (e g : Tree) (v u r : Evaluation) (o : Option Form) (b : Bool) (other : AddressSize) → IsEvaluation y s own e v → IsEvaluation y s own g u → o ≡ binary_form op v.form u.form → other ≡ larger v.size u.size →
      (b ≡ true → v.is_final ≡ true) → (b ≡ true → u.is_final ≡ true) → IsMadeOf r o b other → IsEvaluation y s own (binary op e g) r
  binary_found op e g v u r o b other h k folds sized left right m =
      made y s own (binary op e g) r o b other m
      (ap (option_and_then plain_form) folds ∙ binary_held op v.form u.form (norm_of y s e) (norm_of y s g) h.form k.form)
      (λ yes f is. binary_stays (length y.definitions) y s op e g v.form u.form (h.stays (left yes)) (k.stays (right yes)) f (sym folds ∙ is))
      (ap (λ a. size_by a (constant_in y s (binary op e g))) (sized ∙ ap (λ a. larger a u.size) h.size ∙ ap (larger (size_of y s own e)) k.size))

  -- ---- References.

  reference_size : (e : Tree) → IsReference e → size_of y s own e ≡ size_by (size_of_binding y (binding_of y s e)) (constant_in y s e)
  reference_size (number n) h = absurd h
  reference_size here h = absurd h
  reference_size (unary op e) h = absurd h
  reference_size (binary op e g) h = absurd h
  reference_size _ h = refl

  -- a reference with a binding, whose form isn't known to be final
  pub meant_found : (e : Tree) (means : Binding) (r : Evaluation) (o : Option Form) (other : AddressSize) → IsReference e → binding_of y s e ≡ Ok means → o ≡ plain_result (norm_of y s e) → other ≡ size_of_binding y (Ok means) →
      IsMadeOf r o false other → IsEvaluation y s own e r
  meant_found e means r o other h is has sized m =
      made y s own e r o false other m
      (ap (option_and_then plain_form) has ∙ plain_again (norm_of y s e))
      (λ no. absurd cc)
      (ap (λ a. size_by a (constant_in y s e)) (sized ∙ ap (size_of_binding y) (sym is)) ∙ sym (reference_size e h))

module _ (y : Symbols) (s : Context) (own : AddressSize) where
  -- a reference with a binding and a final form
  pub final_found : (e : Tree) (means : Binding) (f : Form) (r : Evaluation) (other : AddressSize) → IsReference e → binding_of y s e ≡ Ok means → IsFinalWithin (length y.definitions) y s e f → other ≡ size_of_binding y (Ok means) →
      IsMadeOf r (Some f) true other → IsEvaluation y s own e r
  final_found e means f r other h is keeps sized m =
      made y s own e r (Some f) true other m
      (sym (ap plain_result (keeps y (extends_itself y))))
      (λ yes g at. (let same : f ≡ g = cc in subst (IsFinalWithin (length y.definitions) y s e) same keeps))
      (ap (λ a. size_by a (constant_in y s e)) (sized ∙ ap (size_of_binding y) (sym is)) ∙ sym (reference_size y s own e h))

-- ---- Names whose scope doesn't exist.

module _ (y : Symbols) (s : Context) (own : AddressSize) where
  abbrev lost : Tree → Option AsmFault
  lost e = missing_scope_fault y.scopes s.scope e

  pub none_lost : (op : Op2) (e g : Tree) → lost e ≡ None → lost g ≡ None → lost (binary op e g) ≡ None
  none_lost op e g none also = ap (λ f. or_then f (lost g)) none ∙ also

  -- if the check of the scopes of an expression fails, its evaluation fails with the same error
  pub name_lost : (e : Tree) (z : AsmFault) → Unless (is_out_of_memory z) (unless_fault {A = Unit {0}} (lost e) tt ≡ Err z) → EvaluatesTree y s own e (Err z)
  name_lost e z h = unless_then (is_out_of_memory z) (λ p. there (lost e) p) h
    where
      there : (f : Option AsmFault) → unless_fault {A = Unit {0}} f tt ≡ Err z → f ≡ Some z
      there f q = grind (arith, common_steps)

  pub name_there : (e : Tree) → unless_fault {A = Unit {0}} (lost e) tt ≡ Ok tt → lost e ≡ None
  name_there e h = there (lost e) h
    where
      there : (f : Option AsmFault) → unless_fault {A = Unit {0}} f tt ≡ Ok tt → f ≡ None
      there f q = grind (arith, common_steps)

  -- ---- Lists of expressions.

  -- the constant value of an expression is that of the form in its evaluation
  pub number_is : (e : Tree) (v : Evaluation) → IsEvaluation y s own e v → option_and_then (λ f. literal_in (Ok f)) v.form ≡ constant_in y s e
  number_is e v h = value_held y s e v.form h.form

-- ---- The values of optional expressions.

module _ (y : Symbols) (s : Context) (own : AddressSize) where
  pub found_number : (e : Option Tree) (o : Option Evaluation) (k : Option ℤ) → IsEvaluated y s own e o → is_some o ≡ true → ((t : Tree) → IsEvaluated y s own (Some t) o → k ≡ constant_in y s t) → (d : ℤ) → optional_value y s e d ≡ k
  found_number None None k h there is d = absurd cc
  found_number None (Some v) k h there is d = absurd h
  found_number (Some t) None k h there is d = absurd h
  found_number (Some t) (Some v) k h there is d = sym (is t h)

  pub found_fill : (e : Option Tree) (o : Option Evaluation) (k : Option ℤ) → IsEvaluated y s own e o → is_some o ≡ true → ((t : Tree) → IsEvaluated y s own (Some t) o → k ≡ constant_in y s t) → fill_encoding y s e ≡ FillByte (nat_or_zero k)
  found_fill None None k h there is = absurd cc
  found_fill None (Some v) k h there is = absurd h
  found_fill (Some t) None k h there is = absurd h
  found_fill (Some t) (Some v) k h there is = ap (λ k. FillByte (nat_or_zero k)) (sym (is t h))

-- ---- The expressions of statements.

pub operand_trees_are : (operand : Operand) → operand_trees operand ≡ optional_tree (operand_tree operand)
operand_trees_are operands.Absent = refl
operand_trees_are _ = refl

-- the expressions of a statement other than a list are its first and its second one, if it has them
pub trees_are : (x : Statement) → ((width : Width) (items : List Item) → x ≡ statement.Values width items → ⊥) → trees_of x ≡ optional_tree (first_tree x) ++ optional_tree (second_tree x)
trees_are (statement.Values width items) h = absurd (h width items refl)
trees_are (statement.Constant n e) h = refl
trees_are (statement.Assert e action text) h = refl
trees_are (statement.Instruction m operand) h = operand_trees_are operand ∙ sym (append-nil (optional_tree (operand_tree operand)))
trees_are _ h = refl

-- the first missing scope of two lists of expressions is that of the first list, or else that of the second
pub either_lost : (cs : List Scope) (scope : ℕ) (es gs : List Tree) → missing_scopes_fault cs scope (es ++ gs) ≡ or_then (missing_scopes_fault cs scope es) (missing_scopes_fault cs scope gs)
either_lost cs scope [] gs = refl
either_lost cs scope (e ∷ es) gs = ap (or_then (missing_scope_fault cs scope e)) (either_lost cs scope es gs) ∙ or_then_assoc (missing_scope_fault cs scope e) (missing_scopes_fault cs scope es) (missing_scopes_fault cs scope gs)
  where
    or_then_assoc : (f g h : Option AsmFault) → or_then f (or_then g h) ≡ or_then (or_then f g) h
    or_then_assoc None g h = refl
    or_then_assoc (Some z) g h = refl

pub left_of_two : (cs : List Scope) (scope : ℕ) (es gs : List Tree) (e : AsmFault) → Unless (is_out_of_memory e) (unless_fault {A = Unit {0}} (missing_scopes_fault cs scope es) tt ≡ Err e) → Unless (is_out_of_memory e) (unless_fault {A = Unit {0}} (missing_scopes_fault cs scope (es ++ gs)) tt ≡ Err e)
left_of_two cs scope es gs e h = refused_same e _ _ (ap (λ f. unless_fault {A = Unit {0}} f tt) (either_lost cs scope es gs)) (refused_first e (missing_scopes_fault cs scope es) (missing_scopes_fault cs scope gs) tt h)

pub right_of_two : (cs : List Scope) (scope : ℕ) (es gs : List Tree) → unless_fault {A = Unit {0}} (missing_scopes_fault cs scope es) tt ≡ Ok tt → unless_fault {A = Unit {0}} (missing_scopes_fault cs scope (es ++ gs)) tt ≡ unless_fault {A = Unit {0}} (missing_scopes_fault cs scope gs) tt
right_of_two cs scope es gs none = ap (λ f. unless_fault {A = Unit {0}} f tt) (either_lost cs scope es gs ∙ left_after (missing_scopes_fault cs scope es) (missing_scopes_fault cs scope gs) tt tt none)

-- ---- The evaluations of all expressions of a statement.

pub all_found : (y : Symbols) (s : Context) (own : AddressSize) (x : Statement) (a b : Option Tree) (r : Result Evaluations AsmFault) → a ≡ first_tree x → b ≡ second_tree x → IfOk r (λ v. IsEvaluated y s own a v.first) → IfOk r (λ v. IsEvaluated y s own b v.second) → IfOk r (λ v. v.forms.items ≡ []) → IfOk r (AreEvaluations y s own x)
all_found y s own x a b (Err e) p q f g h = tt
all_found y s own x a b (Ok v) p q f g h = record {
  first = subst (λ (o : Option Tree). IsEvaluated y s own o v.first) p f;
  second = subst (λ (o : Option Tree). IsEvaluated y s own o v.second) q g;
  forms = subst (HaveFinals y s (items_in x)) (sym h) (λ i z o at held. absurd cc);
}

-- ---- Lists of elements.

pub item_at : (items : List Item) (i : ℕ) (x : Item) → i < length items → x ≡ get_or items i x → slice_get items i ≡ Some x
item_at [] i x lt e = absurd (omega arith)
item_at (z ∷ items) zero x lt e = ap Some (sym e)
item_at (z ∷ items) (suc i) x lt e = item_at items i x (omega arith) e

-- the expressions of a list of one element
pub item_alone : (x : Item) → optional_tree (item_tree x) ≡ item_trees (x ∷ [])
item_alone (items.Value e) = refl
item_alone (items.StringLiteral bytes) = refl

-- appending the form of the next element preserves `HaveFinals`, if that form is final
pub finals_more : (y : Symbols) (s : Context) (items : List Item) (forms : List (Option Form)) (k : ℕ) (item : Item) (form : Option Form) → length forms ≡ k → slice_get items k ≡ Some item →
    HaveFinals y s items forms → HasFinal y s (item_tree item) form → HaveFinals y s items (forms ++ form ∷ [])
finals_more y s items forms k item form long at h own = λ i x o there held. by i x o there (get_more forms form o i held)
  where
    by : (i : ℕ) (x : Item) (o : Option Form) → slice_get items i ≡ Some x → (slice_get forms i ≡ Some o) ⊎ ((i ≡ length forms) × (form ≡ o)) → HasFinal y s (item_tree x) o
    by i x o there (inl old) = h i x o there old
    by i x o there (inr (last, is)) =
        let one : Some item ≡ Some x = sym at ∙ ap (slice_get items) (sym (last ∙ long)) ∙ there in
        let same : item ≡ x = cc in
        subst (λ (z : Item). HasFinal y s (item_tree z) o) same (subst (HasFinal y s (item_tree item)) is own)

-- `HaveFinals` of a list implies `HasFinal` of its first element and `HaveFinals` of the rest
pub finals_rest : (y : Symbols) (s : Context) (item : Item) (items : List Item) (form : Option Form) (forms : List (Option Form)) → HaveFinals y s (item ∷ items) (form ∷ forms) → HasFinal y s (item_tree item) form × HaveFinals y s items forms
finals_rest y s item items form forms h = (h zero item form refl refl, λ i x o there held. h (suc i) x o there held)
