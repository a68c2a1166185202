-- A further definition preserves all bindings if its name is new; then it preserves forms and entries of searches, too.
use Rattle.std.proofs.Common.{◌≡◌, ℕ, zero, suc, ◌+◌, ◌-◌, refl, sym, ap, ◌∙◌, arith, List, [], ◌∷◌, ◌++◌, length, take, position, cond, Bool, true, false, Option, Some, None, slice_get, Result, Ok, Err, nat_eq, length-append}
use Rattle.std.specs.Prelude.{◌&&◌, ◌==◌, if◌then◌else◌, nat_le}
use Rattle.std.specs.List.{position_from}
use Rattle.std.specs.Result.{result_ok}
use Rattle.std.specs.Str.{bytes_eq}
use Rattle.std.proofs.lemmas.Bool.Decides.{nat_tests}
use Rattle.std.proofs.lemmas.Grind.{common_steps}
use Rattle.std.proofs.lemmas.Option.{slice_get_within}
use Rattle.std.proofs.lemmas.Iterator.Adapters.{position_from-zero}
use Rattle.base65.specs.Outcome.{◌>>=◌}
use Rattle.syntax65.specs.Trees.{Tree, number, here, name, cheap, forward, backward, unary, binary}
use Rattle.object65.specs.Form.{Form}
use Rattle.object65.specs.Folding.{fold1, fold2}
use Rattle.ast65.proofs.Lists.{bytes_swap, same_bytes}
use Rattle.ast65.specs.declared.fault.AsmFault.{AsmFault}
use Rattle.ast65.specs.declared.fault.AsmFault.TheVariants.{NoSuchLabel, NoSuchScope, Undefined}
use Rattle.semantics65.specs.declared.contexts.Context.{Context}
use Rattle.semantics65.specs.Norms.{defined_form, fold_result, form_by, form_of_definition, form_of_binding, form_of_value, norm}
use Rattle.semantics65.specs.Symbols.{Definition, Key, Binding, Symbols, cheap_in, definition_index, defined_at, first_found, import_index, imported_as, last_of, binding_of, member_binding, named, or_else, binding_or_fault, same_key, scope_from, scopes_from, scope_path, display_name, unnamed_at, unnamed_binding}
use Rattle.symbols65.specs.Resolving.{IsUnknownName, KeepsBindings, KeepsBinding, plain_part}
use Rattle.symbols65.specs.Tables.{AreSearched, KeepsSearches, entries_at, entry_at}
use Rattle.symbols65.specs.declared.table.symbols.SearchEntry.{SearchEntry}
use Rattle.symbols65.specs.declared.table.symbols.SearchEntry.TheVariants.{KnownForm, NoForm}
use Rattle.symbols65.specs.Views.{with_definition}
use Rattle.symbols65.proofs.TableGrowth.{none_searched}
use Rattle.symbols65.proofs.Scopes.{name_is, name_meaning}
use Rattle.symbols65.proofs.KnownForms.{has_form}
use Rattle.symbols65.proofs.ExpansionDepths.{constant_course, constant_is, ok_later}
use Rattle.symbols65.proofs.InternedNames.{and_false, get_stays, position_stays}

-- ---- Names.

first_same : (f g : ℕ → Option ℕ) → ((s : ℕ) → f s ≡ g s) → (ss : List ℕ) → first_found f ss ≡ first_found g ss
first_same f g same [] = refl
first_same f g same (s ∷ ss) = ap (λ o. or_else o (first_found f ss)) (same s) ∙ ap (or_else (g s)) (first_same f g same ss)

first_none : (f : ℕ → Option ℕ) → ((s : ℕ) → f s ≡ None) → (ss : List ℕ) → first_found f ss ≡ None
first_none f none [] = refl
first_none f none (s ∷ ss) = ap (λ o. or_else o (first_found f ss)) (none s) ∙ first_none f none ss

-- a binding is preserved if the definition is unchanged and the import is preserved
fault_stays : (x : AsmFault) (o other more : Option ℕ) → ((k : ℕ) → other ≡ Some k → more ≡ Some k) → (m : Binding) → binding_or_fault x o other ≡ Ok m → binding_or_fault x o more ≡ Ok m
fault_stays x (Some i) other more h m e = e
fault_stays x None (Some k) more h m e = ap (binding_or_fault x None) (h k refl) ∙ e
fault_stays x None None more h m e = absurd cc

no_meaning : (x : AsmFault) (o other : Option ℕ) (m : Binding) → o ≡ None → other ≡ None → binding_or_fault x o other ≡ Ok m → ⊥
no_meaning x o other m a b e = grind (arith, common_steps)

-- the name that is looked up: a plain name, or the last part of a name with `::`
abbrev looked_up : List (List ℕ) → Option (List ℕ) → List ℕ
looked_up parts (Some n) = n
looked_up parts None = last_of parts

module _ (y : Symbols) where
  -- a name that is neither defined nor imported has no binding
  unknown_means : (s : Context) (global : Bool) (parts : List (List ℕ)) (o : Option (List ℕ)) (m : Binding) → ((q : ℕ) → definition_index y (named q (looked_up parts o)) ≡ None) → import_index y (looked_up parts o) ≡ None → name_meaning y s global parts o ≡ Ok m → ⊥
  unknown_means s global parts (Some n) m none absent e = no_meaning (Undefined n) (first_found (λ q. definition_index y (named q n)) (scopes_from y.scopes s.scope)) (import_index y n) m (first_none (λ q. definition_index y (named q n)) none (scopes_from y.scopes s.scope)) absent e
  unknown_means s global parts None m none absent e = by (scope_from (take s.opened y.scopes) s.scope global (scope_path parts)) e
    where
      by : (o : Option ℕ) → member_binding y (last_of parts) (Undefined (display_name global parts)) (NoSuchScope (display_name global parts)) o ≡ Ok m → ⊥
      by None q = cc
      by (Some zero) q = no_meaning (Undefined (display_name global parts)) (definition_index y (named zero (last_of parts))) (import_index y (last_of parts)) m (none zero) absent q
      by (Some (suc i)) q = no_meaning (Undefined (display_name global parts)) (definition_index y (named (suc i) (last_of parts))) None m (none (suc i)) refl q

module _ (y z : Symbols) where
  -- the definitions of a name are unchanged in all scopes, and its import is preserved
  abbrev Agree : List ℕ → Type 0
  Agree n = ((s : ℕ) → definition_index z (named s n) ≡ definition_index y (named s n)) × ((k : ℕ) → import_index y n ≡ Some k → import_index z n ≡ Some k)

  -- the scopes around a context and the scopes opened before it are unchanged
  record IsSameWithin (s : Context) : Type 0 where
    outward : scopes_from z.scopes s.scope ≡ scopes_from y.scopes s.scope
    opened : take s.opened z.scopes ≡ take s.opened y.scopes

  member_stays : (n : List ℕ) (absent lost : AsmFault) (o : Option ℕ) → Agree n → (m : Binding) → member_binding y n absent lost o ≡ Ok m → member_binding z n absent lost o ≡ Ok m
  member_stays n absent lost None h m e = absurd cc
  member_stays n absent lost (Some zero) (same, more) m e = ap (λ o. binding_or_fault absent o (import_index z n)) (same zero) ∙ fault_stays absent (definition_index y (named zero n)) (import_index y n) (import_index z n) more m e
  member_stays n absent lost (Some (suc i)) (same, more) m e = ap (λ o. binding_or_fault absent o None) (same (suc i)) ∙ e

  name_stays : (s : Context) → IsSameWithin s → (global : Bool) (parts : List (List ℕ)) (o : Option (List ℕ)) → Agree (looked_up parts o) → (m : Binding) → name_meaning y s global parts o ≡ Ok m → name_meaning z s global parts o ≡ Ok m
  name_stays s parent_scope global parts (Some n) (same, more) m e =
      ap (λ ss. binding_or_fault (Undefined n) (first_found (λ q. definition_index z (named q n)) ss) (import_index z n)) parent_scope.outward
      ∙ ap (λ o. binding_or_fault (Undefined n) o (import_index z n)) (first_same (λ q. definition_index z (named q n)) (λ q. definition_index y (named q n)) same (scopes_from y.scopes s.scope))
      ∙ fault_stays (Undefined n) (first_found (λ q. definition_index y (named q n)) (scopes_from y.scopes s.scope)) (import_index y n) (import_index z n) more m e
  name_stays s parent_scope global parts None h m e =
      ap (λ cs. member_binding z (last_of parts) (Undefined (display_name global parts)) (NoSuchScope (display_name global parts)) (scope_from cs s.scope global (scope_path parts))) parent_scope.opened
      ∙ member_stays (last_of parts) (Undefined (display_name global parts)) (NoSuchScope (display_name global parts)) (scope_from (take s.opened y.scopes) s.scope global (scope_path parts)) h m e

  module _ (labels : (k : Key) (j : ℕ) → definition_index y k ≡ Some j → definition_index z k ≡ Some j) where
    label_stays : (k : Key) (x : AsmFault) (m : Binding) → binding_or_fault x (definition_index y k) None ≡ Ok m → binding_or_fault x (definition_index z k) None ≡ Ok m
    label_stays k x m e = by (definition_index y k) refl e
      where
        by : (o : Option ℕ) → definition_index y k ≡ o → binding_or_fault x o None ≡ Ok m → binding_or_fault x (definition_index z k) None ≡ Ok m
        by (Some j) is q = ap (λ o. binding_or_fault x o None) (labels k j is) ∙ q
        by None is q = absurd cc

    -- the binding of an operand is preserved, if the tables agree on its name whenever the name has a binding
    operand_keeps : (s : Context) → IsSameWithin s → (t : Tree) → ((global : Bool) (parts : List (List ℕ)) (m : Binding) → t ≡ name global parts → name_meaning y s global parts (plain_part global parts) ≡ Ok m → Agree (looked_up parts (plain_part global parts))) → KeepsBinding y z s t
    operand_keeps s parent_scope (name global parts) agree m e =
        let is : name_meaning y s global parts (plain_part global parts) ≡ Ok m = sym (name_is y s global parts) ∙ e in
        name_is z s global parts ∙ name_stays s parent_scope global parts (plain_part global parts) (agree global parts m refl is) m is
    operand_keeps s parent_scope (cheap n) agree m e = label_stays (cheap_in s.region n) (Undefined n) m e
    operand_keeps s parent_scope (forward n) agree m e = label_stays (unnamed_at (s.unnamed + n - 1)) NoSuchLabel m e
    operand_keeps s parent_scope (backward n) agree m e = by (nat_le n s.unnamed) e
      where
        by : (b : Bool) → (if b then unnamed_binding y (s.unnamed - n) else Err NoSuchLabel) ≡ Ok m → (if b then unnamed_binding z (s.unnamed - n) else Err NoSuchLabel) ≡ Ok m
        by true q = label_stays (unnamed_at (s.unnamed - n)) NoSuchLabel m q
        by false q = absurd cc
    operand_keeps s parent_scope _ agree m e = absurd cc

same_scopes : (y z : Symbols) (s : Context) → z.scopes ≡ y.scopes → IsSameWithin y z s
same_scopes y z s is = record { outward = ap (λ cs. scopes_from cs s.scope) is; opened = ap (take s.opened) is }

-- ---- A further definition.

-- appending an item that fails a test doesn't change the position of the test
passed_over : {A : Type 0} (p : A → Bool) (xs : List A) (x : A) → p x ≡ false → position p (xs ++ x ∷ []) ≡ position p xs
passed_over {A = A} p xs x other = position_from-zero p (xs ++ x ∷ []) ∙ go 0 xs ∙ sym (position_from-zero p xs)
  where
    go : (k : ℕ) (zs : List A) → position_from p k (zs ++ x ∷ []) ≡ position_from p k zs
    go k [] = ap (λ b. cond b (Some k) None) other
    go k (z ∷ zs) = ap (cond (p z) (Some k)) (go (k + 1) zs)

-- a definition with this key doesn't define the name `n` in any scope
abbrev IsOther : Key → List ℕ → Type 0
IsOther k n = (q : ℕ) (m : List ℕ) → k ≡ named q m → bytes_eq n m ≡ false

other_name : (k : Key) (n : List ℕ) → IsOther k n → (s : ℕ) → same_key k (named s n) ≡ false
other_name (named q m) n h s = ap (λ b. q == s && b) (bytes_swap m n ∙ h q m refl) ∙ and_false (q == s)
other_name (cheap_in r m) n h s = refl
other_name (unnamed_at c) n h s = refl

module _ (y : Symbols) (d : Definition) where
  abbrev more : Symbols
  more = with_definition y d

  operand_defined : (s : Context) (t : Tree) → ((global : Bool) (parts : List (List ℕ)) (m : Binding) → t ≡ name global parts → name_meaning y s global parts (plain_part global parts) ≡ Ok m → IsOther d.key (looked_up parts (plain_part global parts))) → KeepsBinding y more s t
  operand_defined s t other =
      operand_keeps y more (λ k j e. position_stays (λ c. same_key c.key k) y.definitions (d ∷ []) j e) s (same_scopes y more s refl) t
      (λ global parts m is e. (λ q. passed_over (λ c. same_key c.key (named q (looked_up parts (plain_part global parts)))) y.definitions d (other_name d.key (looked_up parts (plain_part global parts)) (other global parts m is e) q), λ k at. at))

  -- the definition of a cheap local label or an unnamed label preserves all bindings
  pub keeps_label : ((q : ℕ) (n : List ℕ) → d.key ≡ named q n → ⊥) → KeepsBindings y more
  keeps_label none s t = operand_defined s t (λ global parts m is e q n at. absurd (none q n at))

  module _ (scope : ℕ) (n : List ℕ) (key : d.key ≡ named scope n) where
    its_name : (q : ℕ) (m : List ℕ) → d.key ≡ named q m → m ≡ n
    its_name q m at = (let both : named q m ≡ named scope n = sym at ∙ key in cc)

    -- the definition of a name that is neither defined nor imported preserves all bindings
    pub keeps_unknown : IsUnknownName y n → KeepsBindings y more
    keeps_unknown new s t = operand_defined s t (λ global parts m is e q k at. differs (looked_up parts (plain_part global parts)) (λ none absent. unknown_means y s global parts (plain_part global parts) m none absent e) k (its_name q k at))
      where
        differs : (x : List ℕ) → (((q : ℕ) → definition_index y (named q x) ≡ None) → import_index y x ≡ None → ⊥) → (k : List ℕ) → k ≡ n → bytes_eq x k ≡ false
        differs x means k is = by (bytes_eq x k) refl
          where
            by : (b : Bool) → bytes_eq x k ≡ b → bytes_eq x k ≡ false
            by false e = e
            by true e =
                let same : x ≡ n = same_bytes x k e ∙ is in
                absurd (means (λ q. ap (λ w. definition_index y (named q w)) same ∙ new.nowhere q) (ap (import_index y) same ∙ new.absent))

-- ---- Forms.

-- if the first result is a form, the second is the same form
abbrev Stays : Result Form AsmFault → Result Form AsmFault → Type 0
Stays r s = (f : Form) → r ≡ Ok f → s ≡ Ok f

stays_then : {A : Type 0} (r s : Result A AsmFault) (k l : A → Result Form AsmFault) → ((x : A) → r ≡ Ok x → s ≡ Ok x) → ((x : A) → Stays (k x) (l x)) → Stays (r >>= k) (s >>= l)
stays_then (Ok x) s k l h g = λ f e. ap (λ q. q >>= l) (h x refl) ∙ g x f e
stays_then (Err z) s k l h g = λ f e. absurd cc

stays_by : (a b : Tree → Result Form AsmFault) (s : Context) → ((t : Tree) → Stays (a t) (b t)) → (e : Tree) → Stays (form_by a s e) (form_by b s e)
stays_by a b s h (number v) = λ f e. e
stays_by a b s h here = λ f e. e
stays_by a b s h (name global parts) = h (name global parts)
stays_by a b s h (cheap n) = h (cheap n)
stays_by a b s h (forward n) = h (forward n)
stays_by a b s h (backward n) = h (backward n)
stays_by a b s h (unary op e) = stays_then (form_by a s e) (form_by b s e) (λ f. fold_result (fold1 op f)) (λ f. fold_result (fold1 op f)) (stays_by a b s h e) (λ f x q. q)
stays_by a b s h (binary op e g) =
    stays_then (form_by a s e) (form_by b s e) (λ f. form_by a s g >>= (λ k. fold_result (fold2 op f k))) (λ f. form_by b s g >>= (λ k. fold_result (fold2 op f k))) (stays_by a b s h e)
    (λ f. stays_then (form_by a s g) (form_by b s g) (λ k. fold_result (fold2 op f k)) (λ k. fold_result (fold2 op f k)) (stays_by a b s h g) (λ k x q. q))

module _ (y : Symbols) (d : Definition) (keeps : KeepsBindings y (with_definition y d)) where
  abbrev z : Symbols
  z = with_definition y d

  definition_stays : (a b : Context → Tree → Result Form AsmFault) → ((s : Context) (e : Tree) → Stays (a s e) (b s e)) → (j : ℕ) → Stays (form_of_definition a (slice_get y.definitions j)) (form_of_definition b (slice_get z.definitions j))
  definition_stays a b h j = by (slice_get y.definitions j) refl
    where
      value : (s : Context) (v : Option Tree) → Stays (form_of_value a s v) (form_of_value b s v)
      value s None = λ f e. e
      value s (Some e) = h s e

      by : (o : Option Definition) → slice_get y.definitions j ≡ o → Stays (form_of_definition a o) (form_of_definition b (slice_get z.definitions j))
      by None is = λ f e. absurd cc
      by (Some c) is = λ f e. ap (form_of_definition b) (get_stays y.definitions (d ∷ []) j (slice_get_within y.definitions j c is) ∙ is) ∙ value c.context c.value f e

  meaning_stays : (a b : Context → Tree → Result Form AsmFault) → ((s : Context) (e : Tree) → Stays (a s e) (b s e)) → (m : Binding) → Stays (form_of_binding a y m) (form_of_binding b z m)
  meaning_stays a b h (imported_as k) = λ f e. e
  meaning_stays a b h (defined_at j) = definition_stays a b h j

  norm_stays : (n : ℕ) (s : Context) (e : Tree) → Stays (norm n y s e) (norm n z s e)
  norm_stays zero s e = λ f q. absurd cc
  norm_stays (suc n) s e =
      stays_by (λ t. binding_of y s t >>= form_of_binding (norm n y) y) (λ t. binding_of z s t >>= form_of_binding (norm n z) z) s
      (λ t. stays_then (binding_of y s t) (binding_of z s t) (form_of_binding (norm n y) y) (form_of_binding (norm n z) z) (keeps s t) (λ m. meaning_stays (norm n y) (norm n z) (norm_stays n) m)) e

  -- the form of each definition is preserved
  form_stays : (j : ℕ) (f : Form) → result_ok (defined_form y j) ≡ Some f → result_ok (defined_form z j) ≡ Some f
  form_stays j f h =
      let longer : length z.definitions ≡ length y.definitions + 1 = length-append y.definitions (d ∷ []) in
      let own : constant_course z j (suc (length y.definitions)) ≡ Ok f = definition_stays (norm (suc (length y.definitions)) y) (norm (suc (length y.definitions)) z) (norm_stays (suc (length y.definitions))) j f (has_form (constant_course y j (suc (length y.definitions))) f h) in
      ap result_ok (ok_later (constant_course z j) (constant_is z j) (suc (length y.definitions)) (suc (length z.definitions)) f (omega (arith, longer)) own)

-- ---- Entries of searches.

entry_stays : (c e : ℕ) (f : Form) (o : Option SearchEntry) → entry_at e o ≡ Some (Some f) → entry_at c o ≡ Some (Some f)
entry_stays c e f None q = absurd cc
entry_stays c e f (Some (KnownForm g)) q = q
entry_stays c e f (Some (NoForm n)) q = by (nat_eq n e) q
  where
    by : (b : Bool) → (if b then Some None else None) ≡ Some (Some f) → entry_at c (Some (NoForm n)) ≡ Some (Some f)
    by true q = absurd cc
    by false q = absurd cc

-- `KeepsSearches` is preserved if the entries are unchanged or removed
pub searches_kept : (y : Symbols) (old new : ℕ → Option SearchEntry) (keeps : Bool) → (keeps ≡ true → (j : ℕ) → new j ≡ old j) → (keeps ≡ false → (j : ℕ) → new j ≡ None) → KeepsSearches y old → KeepsSearches y new
searches_kept y old new false same none h = none_searched y new (none refl)
searches_kept y old new true same none (found, past) = (
  λ j o at. found j o (ap (entry_at (length y.definitions)) (sym (same refl j)) ∙ at),
  λ j n at. past j n (sym (same refl j) ∙ at),
)

-- A definition that preserves bindings preserves `KeepsSearches`. Entries without a form have no effect then, since they
-- count only for the old number of definitions.
searches_stay : (y : Symbols) (d : Definition) → KeepsBindings y (with_definition y d) → (searched : ℕ → Option SearchEntry) → KeepsSearches y searched → KeepsSearches (with_definition y d) searched
searches_stay y d keeps searched (found, past) = (
  holds,
  λ j n at. (let before = past j n at in omega (arith, before, longer)),
)
  where
    longer : length (with_definition y d).definitions ≡ length y.definitions + 1
    longer = length-append y.definitions (d ∷ [])

    no_mark : (j : ℕ) (o : Option SearchEntry) → searched j ≡ o → entry_at (length (with_definition y d).definitions) o ≡ Some None → ⊥
    no_mark j None is q = cc
    no_mark j (Some (KnownForm f)) is q = cc
    no_mark j (Some (NoForm n)) is q = by (nat_eq n (length (with_definition y d).definitions)) refl (entry_at (length (with_definition y d).definitions) (Some (NoForm n))) refl q
      where
        by : (b : Bool) → nat_eq n (length (with_definition y d).definitions) ≡ b → (o : Option (Option Form)) → o ≡ (if b then Some None else None) → o ≡ Some None → ⊥
        by true e o is' q = (let same : n ≡ length (with_definition y d).definitions = grind (arith, nat_tests) in let before = past j n is in omega (arith, same, before, longer))
        by false e o is' q = cc

    holds : AreSearched (with_definition y d) (entries_at (length (with_definition y d).definitions) searched)
    holds j (Some f) at = form_stays y d keeps j f (found j (Some f) (entry_stays (length y.definitions) (length (with_definition y d).definitions) f (searched j) at))
    holds j None at = absurd (no_mark j (searched j) refl at)

pub searches_pushed : (y : Symbols) (d : Definition) (old new : ℕ → Option SearchEntry) (keeps : Bool) → (keeps ≡ true → (j : ℕ) → new j ≡ old j) → (keeps ≡ false → (j : ℕ) → new j ≡ None) → (keeps ≡ true → KeepsBindings y (with_definition y d)) → KeepsSearches y old → KeepsSearches (with_definition y d) new
searches_pushed y d old new false same none meanings h = none_searched (with_definition y d) new (none refl)
searches_pushed y d old new true same none meanings h = searches_stay y d (meanings refl) new (searches_kept y old new true same none h)
