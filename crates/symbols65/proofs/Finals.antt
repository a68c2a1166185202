-- Final bindings and final forms, which are preserved whatever statements follow.
use Rattle.std.proofs.lemmas.Grind.{common_steps}
use Rattle.std.proofs.Common.{◌≡◌, ℕ, zero, suc, ◌+◌, ◌-◌, ◌≤◌, Bool, true, false, List, [], ◌∷◌, length, take, position, Option, Some, None, slice_get, Result, Ok, Err, refl, sym, ap, ◌∙◌, arith}
use Rattle.std.specs.Prelude.{nat_le, if◌then◌else◌}
use Rattle.std.proofs.lemmas.Bool.Decides.{nat_tests}
use Rattle.std.proofs.lemmas.List.{length-append, take-append-le}
use Rattle.std.specs.Result.{result_ok}
use Rattle.base65.specs.Outcome.{◌>>=◌}
use Rattle.base65.specs.declared.values.Op1.{Op1}
use Rattle.base65.specs.declared.values.Op2.{Op2}
use Rattle.syntax65.specs.Trees.{Tree, name, cheap, forward, backward, unary, binary}
use Rattle.object65.specs.Form.{Form}
use Rattle.object65.specs.Folding.{fold1, fold2}
use Rattle.object65.specs.declared.folding.FormFault.{FormFault}
use Rattle.ast65.specs.declared.fault.AsmFault.{AsmFault}
use Rattle.ast65.specs.declared.fault.AsmFault.TheVariants.{NoSuchLabel, NoSuchScope, Undefined}
use Rattle.semantics65.specs.declared.contexts.Context.{Context}
use Rattle.semantics65.specs.Symbols.{defined_at, enclosing, first_found, last_of, binding_of, member_binding, or_else, binding_or_fault, outward_from, scope_from, scopes_from, scope_path, display_name, unnamed_binding, Definition, Key, Symbols, cheap_in, definition_index, import_index, named, same_key, unnamed_at}
use Rattle.semantics65.specs.Norms.{fold_result, form_of_definition, form_of_binding, norm, norm_of, Extends}
use Rattle.symbols65.specs.declared.table.symbols.Definition as held
use Rattle.symbols65.specs.declared.table.symbols.InternedKey.{InternedKey}
use Rattle.symbols65.specs.declared.table.symbols.Symbols as code
use Rattle.symbols65.specs.Tables.{definition_in, key_in}
use Rattle.std.specs.Option.{option_map, unwrap_or}
use Rattle.symbols65.specs.Resolving.{IsFinalWithin, binary_form, prefix_form, attempt_definition, attempt_value, known_form, plain_part, HasFinalBinding}
use Rattle.symbols65.specs.Views.{final_form, key_at, table_of, interned_names_of}
use Rattle.symbols65.proofs.Scopes.{name_is, name_meaning}
use Rattle.symbols65.proofs.InternedNames.{first_passes, first_within, get_mapped, get_stays, position_stays}
use Rattle.symbols65.proofs.KnownForms.{final_among}
use Rattle.symbols65.proofs.ExpansionDepths.{extends_itself, expression_course, expression_is, ok_later}

-- ---- Definitions.

defined_stays : (y z : Symbols) → Extends y z → (k : Key) (j : ℕ) → definition_index y k ≡ Some j → definition_index z k ≡ Some j
defined_stays y z more k j e = ap (position (λ d. same_key d.key k)) more.definitions ∙ position_stays (λ d. same_key d.key k) y.definitions more.later_definitions j e

-- an operand has a final binding if each extension of the table binds it to the definition of the same key
by_key : (y : Symbols) (s : Context) (e : Tree) (k : Key) (j : ℕ) → definition_index y k ≡ Some j → ((z : Symbols) (j : ℕ) → Extends y z → definition_index z k ≡ Some j → binding_of z s e ≡ Ok (defined_at j)) → HasFinalBinding y s e j
by_key y s e k j at means = (first_within (λ d. same_key d.key k) y.definitions j at, λ z more. means z j more (defined_stays y z more k j at))

-- ---- Operands.

own_name : (y : Symbols) (s : Context) (n : List ℕ) (j : ℕ) → definition_index y (named s.scope n) ≡ Some j → HasFinalBinding y s (name false (n ∷ [])) j
own_name y s n i h = by_key y s (name false (n ∷ [])) (named s.scope n) i h (λ z j more e. ap (λ o. binding_or_fault (Undefined n) o (import_index z n)) (innermost z s.scope s.scope j e))
  where
    innermost : (z : Symbols) (m q j : ℕ) → definition_index z (named q n) ≡ Some j → first_found (λ s. definition_index z (named s n)) (outward_from z.scopes m q) ≡ Some j
    innermost z m zero j e = ap (λ o. or_else o None) e
    innermost z zero (suc i) j e = ap (λ o. or_else o None) e
    innermost z (suc m) (suc i) j e = ap (λ o. or_else o (first_found (λ s. definition_index z (named s n)) (outward_from z.scopes m (enclosing z.scopes (suc i))))) e

own_label : (y : Symbols) (s : Context) (n : List ℕ) (j : ℕ) → definition_index y (cheap_in s.region n) ≡ Some j → HasFinalBinding y s (cheap n) j
own_label y s n i h = by_key y s (cheap n) (cheap_in s.region n) i h (λ z j more e. ap (λ o. binding_or_fault (Undefined n) o None) e)

label_before : (y : Symbols) (s : Context) (n j : ℕ) → n ≤ s.unnamed → definition_index y (unnamed_at (s.unnamed - n)) ≡ Some j → HasFinalBinding y s (backward n) j
label_before y s n i le h = by_key y s (backward n) (unnamed_at (s.unnamed - n)) i h (λ z j more e.
    (let yes : nat_le n s.unnamed ≡ true = grind (arith, nat_tests, le) in
    ap (λ b. if b then unnamed_binding z (s.unnamed - n) else Err NoSuchLabel) yes ∙ ap (λ o. binding_or_fault NoSuchLabel o None) e))

own_member : (y : Symbols) (s : Context) (global : Bool) (parts : List (List ℕ)) (q j : ℕ) → plain_part global parts ≡ None → s.opened ≤ length y.scopes →
    scope_from (take s.opened y.scopes) s.scope global (scope_path parts) ≡ Some q → definition_index y (named q (last_of parts)) ≡ Some j → HasFinalBinding y s (name global parts) j
own_member y s global parts q i plain le found h = by_key y s (name global parts) (named q (last_of parts)) i h (λ z j more e.
    name_is z s global parts ∙ ap (name_meaning z s global parts) plain
    ∙ ap (λ cs. member_binding z (last_of parts) (Undefined (display_name global parts)) (NoSuchScope (display_name global parts)) (scope_from cs s.scope global (scope_path parts))) (ap (take s.opened) more.scopes ∙ take-append-le s.opened y.scopes more.later_scopes le)
    ∙ ap (member_binding z (last_of parts) (Undefined (display_name global parts)) (NoSuchScope (display_name global parts))) found
    ∙ member z q j e)
  where
    member : (z : Symbols) (q j : ℕ) → definition_index z (named q (last_of parts)) ≡ Some j → member_binding z (last_of parts) (Undefined (display_name global parts)) (NoSuchScope (display_name global parts)) (Some q) ≡ Ok (defined_at j)
    member z zero j e = ap (λ o. binding_or_fault (Undefined (display_name global parts)) o (import_index z (last_of parts))) e
    member z (suc i) j e = ap (λ o. binding_or_fault (Undefined (display_name global parts)) o None) e

-- ---- Operands that are bound to definitions.

found_is : (z : AsmFault) (o other : Option ℕ) (j : ℕ) → binding_or_fault z o other ≡ Ok (defined_at j) → o ≡ Some j
found_is z None None j e = absurd cc
found_is z None (Some k) j e = absurd cc
found_is z (Some i) other j e = (let same : i ≡ j = cc in ap Some same)

found_in : (f : ℕ → Option ℕ) (ss : List ℕ) (j : ℕ) → first_found f ss ≡ Some j → (q : ℕ) × (f q ≡ Some j)
found_in f [] j e = absurd cc
found_in f (q ∷ ss) j e = by (f q) refl e (λ rest. found_in f ss j rest)
  where
    by : (o : Option ℕ) → f q ≡ o → or_else o (first_found f ss) ≡ Some j → (first_found f ss ≡ Some j → (r : ℕ) × (f r ≡ Some j)) → (r : ℕ) × (f r ≡ Some j)
    by None is e rest = rest e
    by (Some i) is e rest = (q, is ∙ e)

-- the binding of a plain name to a definition in the scope of its use is final
pub plain_final : (y : Symbols) (s : Context) (n m : List ℕ) (j : ℕ) (d : Definition) → slice_get y.definitions j ≡ Some d → d.key ≡ named s.scope m → binding_of y s (name false (n ∷ [])) ≡ Ok (defined_at j) → HasFinalBinding y s (name false (n ∷ [])) j
plain_final y s n m j d at key means =
    let found = found_is (Undefined n) (first_found (λ q. definition_index y (named q n)) (scopes_from y.scopes s.scope)) (import_index y n) j means in
    let (q, is) = found_in (λ q. definition_index y (named q n)) (scopes_from y.scopes s.scope) j found in
    let (e, there, passes) = first_passes (λ d. same_key d.key (named q n)) y.definitions j is in
    let same : e ≡ d = (let both : Some e ≡ Some d = sym there ∙ at in cc) in
    let test : same_key (named s.scope m) (named q n) ≡ true = ap (λ k. same_key k (named q n)) (sym (ap (λ (x : Definition). x.key) same ∙ key)) ∙ passes in
    own_name y s n j (ap (λ r. definition_index y (named r n)) (scope_is q test) ∙ is)
  where
    scope_is : (q : ℕ) → same_key (named s.scope m) (named q n) ≡ true → s.scope ≡ q
    scope_is q e = grind (arith, common_steps, nat_tests)

pub own_final : (t : code.Symbols) (s : Context) (n m : List ℕ) (j : ℕ) → key_at t j ≡ named s.scope m → binding_of (table_of t) s (name false (n ∷ [])) ≡ Ok (defined_at j) → HasFinalBinding (table_of t) s (name false (n ∷ [])) j
own_final t s n m j key means = by (slice_get t.definitions.entries j) refl key
  where
    by : (o : Option (InternedKey × held.Definition)) → slice_get t.definitions.entries j ≡ o → unwrap_or (option_map (λ e. key_in (interned_names_of t) e.0) o) (unnamed_at 0) ≡ named s.scope m → HasFinalBinding (table_of t) s (name false (n ∷ [])) j
    by None is e = absurd cc
    by (Some e) is k = plain_final (table_of t) s n m j (definition_in (interned_names_of t) e) (get_mapped (definition_in (interned_names_of t)) t.definitions.entries j e is) k means

member_is : (y : Symbols) (n : List ℕ) (absent lost : AsmFault) (o : Option ℕ) (j : ℕ) → member_binding y n absent lost o ≡ Ok (defined_at j) → (q : ℕ) × (o ≡ Some q) × (definition_index y (named q n) ≡ Some j)
member_is y n absent lost None j e = absurd cc
member_is y n absent lost (Some zero) j e = (zero, refl, found_is absent (definition_index y (named zero n)) (import_index y n) j e)
member_is y n absent lost (Some (suc i)) j e = (suc i, refl, found_is absent (definition_index y (named (suc i) n)) None j e)

-- the binding of a name with `::` to a definition is final, if the table contains the scopes opened before its use
pub scoped_final : (y : Symbols) (s : Context) (global : Bool) (parts : List (List ℕ)) (j : ℕ) → plain_part global parts ≡ None → s.opened ≤ length y.scopes → binding_of y s (name global parts) ≡ Ok (defined_at j) → HasFinalBinding y s (name global parts) j
scoped_final y s global parts j plain le means =
    let scoped = sym (name_is y s global parts ∙ ap (name_meaning y s global parts) plain) ∙ means in
    let (q, is, at) = member_is y (last_of parts) (Undefined (display_name global parts)) (NoSuchScope (display_name global parts)) (scope_from (take s.opened y.scopes) s.scope global (scope_path parts)) j scoped in
    own_member y s global parts q j plain le is at

pub cheap_final : (y : Symbols) (s : Context) (n : List ℕ) (j : ℕ) → binding_of y s (cheap n) ≡ Ok (defined_at j) → HasFinalBinding y s (cheap n) j
cheap_final y s n j means = own_label y s n j (found_is (Undefined n) (definition_index y (cheap_in s.region n)) None j means)

pub backward_final : (y : Symbols) (s : Context) (n j : ℕ) → binding_of y s (backward n) ≡ Ok (defined_at j) → HasFinalBinding y s (backward n) j
backward_final y s n j means = by (nat_le n s.unnamed) refl means
  where
    by : (b : Bool) → nat_le n s.unnamed ≡ b → (if b then unnamed_binding y (s.unnamed - n) else Err NoSuchLabel) ≡ Ok (defined_at j) → HasFinalBinding y s (backward n) j
    by true is e = label_before y s n j (grind (arith, nat_tests)) (found_is NoSuchLabel (definition_index y (unnamed_at (s.unnamed - n))) None j e)
    by false is e = absurd cc

-- ---- Expressions.

folds : (r : Result Form FormFault) (f : Form) → result_ok r ≡ Some f → fold_result r ≡ Ok f
folds x f q = grind (arith, common_steps)

-- the form of an operation is final if those of its operands are final
pub prefix_stays : (n : ℕ) (y : Symbols) (s : Context) (op : Op1) (e : Tree) (o : Option Form) → ((g : Form) → o ≡ Some g → IsFinalWithin n y s e g) → (f : Form) → prefix_form op o ≡ Some f → IsFinalWithin n y s (unary op e) f
prefix_stays n y s op e None h f q = absurd cc
prefix_stays n y s op e (Some g) h f q = λ z more. ap (λ r. r >>= (λ x. fold_result (fold1 op x))) (h g refl z more) ∙ folds (fold1 op g) f q

pub binary_stays : (n : ℕ) (y : Symbols) (s : Context) (op : Op2) (e g : Tree) (o p : Option Form) → ((x : Form) → o ≡ Some x → IsFinalWithin n y s e x) → ((x : Form) → p ≡ Some x → IsFinalWithin n y s g x) → (f : Form) → binary_form op o p ≡ Some f → IsFinalWithin n y s (binary op e g) f
binary_stays n y s op e g None p h k f q = absurd cc
binary_stays n y s op e g (Some x) None h k f q = absurd cc
binary_stays n y s op e g (Some x) (Some w) h k f q = λ z more.
    ap (λ r. r >>= (λ u. norm (suc n) z s g >>= (λ v. fold_result (fold2 op u v)))) (h x refl z more)
    ∙ ap (λ r. r >>= (λ v. fold_result (fold2 op x v))) (k w refl z more)
    ∙ folds (fold2 op x w) f q

value_ok : (n : ℕ) (z : Symbols) (j : ℕ) (k : Option Form) (d : Definition) (f : Form) → ((g : Form) → k ≡ Some g → form_of_definition (norm n z) (Some d) ≡ Ok g) → (v : Option Tree) → d.value ≡ v → attempt_value (λ q e. known_form j k) d.context v ≡ Ok f → form_of_definition (norm n z) (Some d) ≡ Ok f
value_ok n z j k d f h x w q = grind (arith, common_steps)

module _ (t : code.Symbols) (s : Context) where
  abbrev pub y : Symbols
  y = table_of t

  meant_ok : (z : Symbols) → Extends y z → (u : Tree) (j : ℕ) → HasFinalBinding y s u j → (f : Form) → attempt_definition (λ q e. known_form j (final_form t j)) (slice_get y.definitions j) ≡ Ok f → (binding_of z s u >>= form_of_binding (norm (length y.definitions) z) z) ≡ Ok f
  meant_ok z more u j (lt, means) f h =
      ap (λ m. m >>= form_of_binding (norm (length y.definitions) z) z) (means z more)
      ∙ ap (λ ds. form_of_definition (norm (length y.definitions) z) (slice_get ds j)) more.definitions
      ∙ ap (form_of_definition (norm (length y.definitions) z)) (get_stays y.definitions more.later_definitions j lt)
      ∙ by (slice_get y.definitions j) refl h
    where
      by : (o : Option Definition) → slice_get y.definitions j ≡ o → attempt_definition (λ q e. known_form j (final_form t j)) o ≡ Ok f → form_of_definition (norm (length y.definitions) z) o ≡ Ok f
      by None is e = absurd cc
      by (Some d) is e =
          let at : slice_get z.definitions j ≡ Some d = ap (λ ds. slice_get ds j) more.definitions ∙ get_stays y.definitions more.later_definitions j lt ∙ is in
          value_ok (length y.definitions) z j (final_form t j) d f (λ g k. ap (form_of_definition (norm (length y.definitions) z)) (sym at) ∙ final_among t z more (length y.definitions) j g lt k) d.value refl e

  -- an operand with a final binding has a final form, if its definition is a label or has a final form
  pub operand_stays : (e : Tree) (j : ℕ) (f : Form) → HasFinalBinding y s e j → attempt_definition (λ q v. known_form j (final_form t j)) (slice_get y.definitions j) ≡ Ok f → IsFinalWithin (length y.definitions) y s e f
  operand_stays (name global parts) j f m h = λ z more. meant_ok z more (name global parts) j m f h
  operand_stays (cheap x) j f m h = λ z more. meant_ok z more (cheap x) j m f h
  operand_stays (forward x) j f m h = λ z more. meant_ok z more (forward x) j m f h
  operand_stays (backward x) j f m h = λ z more. meant_ok z more (backward x) j m f h
  operand_stays _ j f m h = absurd (let no = m.1 y (extends_itself y) in cc)

-- a final form is the normal form in each extension of the table
pub within_final : (y : Symbols) (s : Context) (e : Tree) (f : Form) → IsFinalWithin (length y.definitions) y s e f → (z : Symbols) → Extends y z → norm_of z s e ≡ Ok f
within_final y s e f h z more =
    let long : length z.definitions ≡ length y.definitions + length more.later_definitions = ap length more.definitions ∙ length-append y.definitions more.later_definitions in
    ok_later (expression_course z s e) (expression_is z s e) (suc (length y.definitions)) (suc (length z.definitions)) f (omega (arith, long)) (h z more)

-- ---- Optional indices and results.
