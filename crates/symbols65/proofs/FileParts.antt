-- The layout of a part of a file, or its first error.
use Rattle.std.proofs.lemmas.Grind.{common_steps}
use Rattle.std.proofs.Common.{arith, ◌≡◌, ◌∙◌, ℕ, Bool, true, not, List, length, Option, Some, None, ap, subst}
use Rattle.std.specs.Prelude.{◌&&◌, ◌++◌, ℤ, pos, Result, Ok, Err}
use Rattle.std.specs.Option.{unwrap_or}
use Rattle.base65.specs.Outcome.{Unless}
use Rattle.syntax65.specs.Trees.{Tree}
use Rattle.ast65.specs.declared.fault.AsmFault.{AsmFault}
use Rattle.ast65.specs.declared.fault.AsmFault.TheVariants.{BadOperand}
use Rattle.ast65.specs.Faults.{is_out_of_memory}
use Rattle.semantics65.specs.declared.contexts.Context.{Context}
use Rattle.ast65.specs.declared.language.Statement.TheVariants.{Incbin}
use Rattle.semantics65.specs.Layout.{Cursor, context_of, has_value, missing_scopes_fault, operand_fault, optional_tree, fault_if, unless_fault}
use Rattle.semantics65.specs.Norms.{optional_value}
use Rattle.semantics65.specs.Symbols.{Symbols}
use Rattle.symbols65.specs.Measuring.{IsOptionalValue, layout_or_error, range_in_file, unread_fault}
use Rattle.symbols65.proofs.StatementLayouts.{left_after, unless_then}

-- ---- The part of a file.

module _ (y : Symbols) (w : Cursor) (start len : Option Tree) where
  abbrev there : Bool
  there = has_value (optional_value y (context_of w) start (pos 0)) && has_value (optional_value y (context_of w) len (pos 0))

module _ (y : Symbols) (w : Cursor) (start len : Option Tree) (s : Context) (at : s ≡ context_of w) where
  found_here : (value : Option Tree) (r : Result (Option ℤ) AsmFault) → IsOptionalValue (optional_value y s value) r → IsOptionalValue (optional_value y (context_of w) value) r
  found_here value r h = subst (λ (here : Context). IsOptionalValue (optional_value y here value) r) at h

  -- the case of a start that isn't constant
  pub bad_start : (bytes : Option (List ℕ)) (e : AsmFault) → IsOptionalValue (optional_value y s start) (Err e) → Unless (is_out_of_memory e) (layout_or_error y w (Incbin bytes start len) ≡ Err e)
  bad_start bytes e h = grind (arith, common_steps)

  -- the case of a length that isn't constant
  pub bad_len : (bytes : Option (List ℕ)) (e : AsmFault) → IsOptionalValue (optional_value y s len) (Err e) → Unless (is_out_of_memory e) (layout_or_error y w (Incbin bytes start len) ≡ Err e)
  bad_len bytes e h = grind (arith, common_steps)

  module _ (v n : Option ℤ) (first : IsOptionalValue (optional_value y s start) (Ok v)) (second : IsOptionalValue (optional_value y s len) (Ok n)) where
    from : (d : ℤ) → optional_value y (context_of w) start d ≡ Some (unwrap_or v d)
    from = found_here start (Ok v) first

    more : (d : ℤ) → optional_value y (context_of w) len d ≡ Some (unwrap_or n d)
    more = found_here len (Ok n) second

    both : there y w start len ≡ true
    both = ap (λ k. has_value k && has_value (optional_value y (context_of w) len (pos 0))) (from (pos 0)) ∙ ap has_value (more (pos 0))

    -- the case of a file that is too large or doesn't contain the part
    refused_so : (bytes : List ℕ) (e : AsmFault) → range_in_file (length bytes) v n ≡ Err e → layout_or_error y w (Incbin (Some bytes) start len) ≡ Err e
    refused_so bytes e h = grind (arith, common_steps)

    pub refused : (bytes : List ℕ) (e : AsmFault) → Unless (is_out_of_memory e) (range_in_file (length bytes) v n ≡ Err e) → Unless (is_out_of_memory e) (layout_or_error y w (Incbin (Some bytes) start len) ≡ Err e)
    refused bytes e h = unless_then (is_out_of_memory e) (λ p. refused_so bytes e p) h

  -- ---- Errors that don't depend on the file.

  abbrev lost : ℕ → Option AsmFault
  lost scope = missing_scopes_fault y.scopes scope (optional_tree start ++ optional_tree len)

  abbrev checks : Option AsmFault → Result (Unit {0}) AsmFault
  checks f = unless_fault f tt

  -- the case of a name whose scope doesn't exist
  pub unread_lost : (scope : ℕ) (e : AsmFault) → scope ≡ w.scope → Unless (is_out_of_memory e) (checks (lost scope) ≡ Err e) → Unless (is_out_of_memory e) (checks (unread_fault y w start len) ≡ Err e)
  unread_lost scope e here h = grind (arith, common_steps)

  module _ (scope : ℕ) (here : scope ≡ w.scope) (none : checks (lost scope) ≡ Ok tt) where
    after_lost : checks (unread_fault y w start len) ≡ checks (fault_if (not (there y w start len)) BadOperand)
    after_lost = ap checks (left_after (lost w.scope) (operand_fault y (context_of w) (Incbin None start len)) tt tt (subst (λ k. checks (lost k) ≡ Ok tt) here none))

    -- the case of a start that isn't constant
    pub unread_start : (e : AsmFault) → IsOptionalValue (optional_value y s start) (Err e) → Unless (is_out_of_memory e) (checks (unread_fault y w start len) ≡ Err e)
    unread_start e h = grind (arith, common_steps)

    -- the case of a length that isn't constant
    pub unread_len : (e : AsmFault) → IsOptionalValue (optional_value y s len) (Err e) → Unless (is_out_of_memory e) (checks (unread_fault y w start len) ≡ Err e)
    unread_len e h = grind (arith, common_steps)

    -- the case without an error
    pub unread_well : (v n : Option ℤ) → IsOptionalValue (optional_value y s start) (Ok v) → IsOptionalValue (optional_value y s len) (Ok n) → checks (unread_fault y w start len) ≡ Ok tt
    unread_well v n first second = after_lost ∙ ap (λ b. checks (fault_if (not b) BadOperand)) (both v n first second)
