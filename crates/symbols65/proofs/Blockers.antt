-- Blockers: an expression has no number and no address if the constant that blocks it has none.
use Rattle.std.proofs.Common.{◌≡◌, ◌∙◌, ℕ, suc, ◌+◌, refl, sym, ap, arith, length, Option, Some, None, slice_get, Ok}
use Rattle.std.specs.Prelude.{IfSome}
use Rattle.std.specs.Option.{option_and_then, unwrap_or}
use Rattle.std.proofs.lemmas.Option.{slice_get_within}
use Rattle.base65.specs.declared.values.Op2.{Op2}
use Rattle.syntax65.specs.Trees.{Tree, binary}
use Rattle.semantics65.specs.declared.contexts.Context.{Context}
use Rattle.semantics65.specs.Norms.{defined_form, form_of_definition, norm, norm_of}
use Rattle.semantics65.specs.Symbols.{Definition, Symbols, binding_of, defined_at}
use Rattle.symbols65.specs.Resolving.{IsBlocked, IsBlockedAt, HasFinalBinding, binary_form, plain_form, plain_result}
use Rattle.symbols65.specs.Tables.{HasBlocker}
use Rattle.symbols65.proofs.PlainForms.{binary_plain, left_alone, operand_norm}
use Rattle.symbols65.proofs.ExpansionDepths.{norm_is_last}
use Rattle.symbols65.proofs.InternedNames.{get_stays}

pub if_some : {P Q : ℕ → Type 0} (o : Option ℕ) → ((r : ℕ) → P r → Q r) → IfSome o P → IfSome o Q
if_some None f h = tt
if_some (Some r) f h = f r h

-- the normal form of an operand that is bound to a definition is the form of that definition
pub operand_defined : (z : Symbols) (s : Context) (e : Tree) (j : ℕ) → binding_of z s e ≡ Ok (defined_at j) → norm_of z s e ≡ defined_form z j
operand_defined z s e j h =
    let one : 1 + length z.definitions ≡ suc (length z.definitions) = omega arith in
    norm_is_last z 1 s e ∙ ap (λ (k : ℕ). norm (suc k) z s e) one ∙ operand_norm (suc (length z.definitions)) z s e (defined_at j) h

module _ (y : Symbols) where
  pub operand_blocked : (s : Context) (e : Tree) (j r : ℕ) → HasFinalBinding y s e j → IsBlockedAt y j r → IsBlocked y s e r
  operand_blocked s e j r (lt, means) h = λ z more none. ap plain_result (operand_defined z s e j (means z more)) ∙ h z more none

  pub right_blocked : (s : Context) (op : Op2) (e g : Tree) (r : ℕ) → IsBlocked y s g r → IsBlocked y s (binary op e g) r
  right_blocked s op e g r h = λ z more none.
      sym (binary_plain op (norm_of z s e) (norm_of z s g))
      ∙ ap (λ o. option_and_then plain_form (binary_form op (plain_result (norm_of z s e)) o)) (h z more none)
      ∙ ap (option_and_then plain_form) (left_alone op (plain_result (norm_of z s e)))

  -- the blocker that is stored with a definition blocks the definition
  pub stored_blocks : (j : ℕ) (d : Definition) (b : Option ℕ) (r : ℕ) → slice_get y.definitions j ≡ Some d → HasBlocker y d b → b ≡ Some r → IsBlockedAt y j r
  stored_blocks j d b r at h is = λ z more none.
      ap plain_result (ap (λ ds. form_of_definition (norm_of z) (slice_get ds j)) more.definitions ∙ ap (form_of_definition (norm_of z)) (get_stays y.definitions more.later_definitions j (slice_get_within y.definitions j d at) ∙ at))
      ∙ h r is z more none

  pub either_blocks : (j : ℕ) (d : Definition) (b : Option ℕ) → slice_get y.definitions j ≡ Some d → HasBlocker y d b → IsBlockedAt y j (unwrap_or b j)
  either_blocks j d None at h = λ z more none. none
  either_blocks j d (Some r) at h = stored_blocks j d (Some r) r at h refl
