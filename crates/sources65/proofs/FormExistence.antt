-- Each expression has a form or an error that is no system error.
use Rattle.std.proofs.Common.{◌≡◌, ℕ, zero, suc, ◌+◌, Bool, true, false, List, [], ◌∷◌, length, Option, Some, None, refl}
use Rattle.std.specs.Prelude.{Result, Ok, Err, nat_le, ◌-◌, slice_get, take}
use Rattle.base65.specs.Outcome.{◌>>=◌}
use Rattle.base65.proofs.SystemErrors.{Own, bad, choice, good, next}
use Rattle.syntax65.specs.Trees.{Tree, number, here, name, cheap, forward, backward, unary, binary}
use Rattle.object65.specs.Folding.{fold1, fold2, is_form_memory_fault}
use Rattle.object65.specs.Form.{Form}
use Rattle.object65.specs.declared.folding.FormFault.{FormFault}
use Rattle.object65.specs.declared.folding.FormFault.TheVariants as form
use Rattle.object65.proofs.ObjectExistence.{some_fold}
use Rattle.ast65.specs.Faults.{is_system_error}
use Rattle.sources65.specs.Laws.{FormExists}
use Rattle.semantics65.specs.Norms.{defined_form, fold_result, form_by, form_of_definition, form_of_binding, form_of_value, norm, norm_of}
use Rattle.semantics65.specs.Symbols.{Definition, Binding, defined_at, imported_as, cheap_in, definition_index, first_found, import_index, last_of, binding_of, member_binding, named, binding_or_fault, plain_binding, scope_from, scoped_binding, scopes_from, scope_path, display_name, Symbols, unnamed_at, unnamed_binding}
use Rattle.semantics65.specs.Types.{AsmFault, NoSuchLabel, NoSuchScope, Undefined}
use Rattle.semantics65.specs.declared.contexts.Context.{Context}

-- ---- Bindings of names.

fault_own : (e : AsmFault) → is_system_error e ≡ false → (a b : Option ℕ) → Own is_system_error (binding_or_fault e a b)
fault_own e h (Some i) b = good _
fault_own e h None (Some k) = good _
fault_own e h None None = bad e h

member_own : (y : Symbols) (n : List ℕ) (absent lost : AsmFault) → is_system_error absent ≡ false → is_system_error lost ≡ false → (o : Option ℕ) → Own is_system_error (member_binding y n absent lost o)
member_own y n absent lost h j None = bad lost j
member_own y n absent lost h j (Some zero) = fault_own absent h (definition_index y (named zero n)) (import_index y n)
member_own y n absent lost h j (Some (suc i)) = fault_own absent h (definition_index y (named (suc i) n)) None

scoped_own : (y : Symbols) (s : Context) (global : Bool) (parts : List (List ℕ)) → Own is_system_error (scoped_binding y s global parts)
scoped_own y s global parts =
    member_own y (last_of parts) (Undefined (display_name global parts)) (NoSuchScope (display_name global parts)) refl refl (scope_from (take s.opened y.scopes) s.scope global (scope_path parts))

plain_own : (y : Symbols) (scope : ℕ) (n : List ℕ) → Own is_system_error (plain_binding y scope n)
plain_own y scope n = fault_own (Undefined n) refl (first_found (λ s. definition_index y (named s n)) (scopes_from y.scopes scope)) (import_index y n)

unnamed_own : (y : Symbols) (k : ℕ) → Own is_system_error (unnamed_binding y k)
unnamed_own y k = fault_own NoSuchLabel refl (definition_index y (unnamed_at k)) None

meaning_own : (y : Symbols) (s : Context) (e : Tree) → Own is_system_error (binding_of y s e)
meaning_own y s (name false (n ∷ [])) = plain_own y s.scope n
meaning_own y s (name global parts) = scoped_own y s global parts
meaning_own y s (cheap n) = fault_own (Undefined n) refl (definition_index y (cheap_in s.region n)) None
meaning_own y s (forward n) = unnamed_own y (s.unnamed + n - 1)
meaning_own y s (backward n) = choice (nat_le n s.unnamed) _ _ (unnamed_own y (s.unnamed - n)) (bad NoSuchLabel refl)
meaning_own y s _ = bad NoSuchLabel refl

-- ---- Forms.

pub folded_own : (q : Result Form FormFault) → Own is_form_memory_fault q → Own is_system_error (fold_result q)
folded_own (Ok f) h = good f
folded_own (Err form.OutOfMemory) h = absurd (let e : true ≡ false = h.own in cc)
folded_own (Err form.NoValue) h = bad _ refl
folded_own (Err form.TooLarge) h = bad _ refl

by_own : (operand : Tree → Result Form AsmFault) → ((e : Tree) → Own is_system_error (operand e)) → (s : Context) (e : Tree) → Own is_system_error (form_by operand s e)
by_own operand own s (number v) = good _
by_own operand own s here = good _
by_own operand own s (unary op e) = next (form_by operand s e) _ (by_own operand own s e) (λ f. folded_own (fold1 op f) (record { own = some_fold.0 op f }))
by_own operand own s (binary op e g) =
    next (form_by operand s e) _ (by_own operand own s e) (λ f.
    next (form_by operand s g) _ (by_own operand own s g) (λ h. folded_own (fold2 op f h) (record { own = some_fold.1 op f h })))
by_own operand own s (name global parts) = own (name global parts)
by_own operand own s (cheap n) = own (cheap n)
by_own operand own s (forward n) = own (forward n)
by_own operand own s (backward n) = own (backward n)

module _ (constant : Context → Tree → Result Form AsmFault) (own : (s : Context) (e : Tree) → Own is_system_error (constant s e)) where
  value_own : (s : Context) (o : Option Tree) → Own is_system_error (form_of_value constant s o)
  value_own s None = good _
  value_own s (Some e) = own s e

  definition_own : (o : Option Definition) → Own is_system_error (form_of_definition constant o)
  definition_own None = bad NoSuchLabel refl
  definition_own (Some d) = value_own d.context d.value

  meant_own : (y : Symbols) (w : Binding) → Own is_system_error (form_of_binding constant y w)
  meant_own y (imported_as k) = good _
  meant_own y (defined_at j) = definition_own (slice_get y.definitions j)

within_own : (n : ℕ) (y : Symbols) (s : Context) (e : Tree) → Own is_system_error (norm n y s e)
within_own zero y s e = bad _ refl
within_own (suc n) y s e =
    by_own (λ operand. binding_of y s operand >>= form_of_binding (norm n y) y)
    (λ operand. next (binding_of y s operand) _ (meaning_own y s operand) (λ w. meant_own (norm n y) (λ t f. within_own n y t f) y w)) s e

pub norm_own : (y : Symbols) (s : Context) (e : Tree) → Own is_system_error (norm_of y s e)
norm_own y s e = within_own (suc (length y.definitions)) y s e

pub defined_own : (y : Symbols) (j : ℕ) → Own is_system_error (defined_form y j)
defined_own y j = meant_own (norm_of y) (λ s e. norm_own y s e) y (defined_at j)

pub some_form : FormExists
some_form y s e = (norm_own y s e).own
