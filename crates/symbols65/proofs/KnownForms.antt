-- The forms that are known as final or by a search, and the depth at which they are found.
use Rattle.std.proofs.lemmas.Grind.{common_steps}
use Rattle.std.proofs.Common.{◌≡◌, ℕ, suc, ◌+◌, ◌<◌, ◌≤◌, length, Option, Some, None, option_map, slice_get, Result, Ok, refl, ap, ◌∙◌, arith}
use Rattle.std.proofs.lemmas.Option.{slice_get_within}
use Rattle.object65.specs.Form.{Form}
use Rattle.ast65.specs.declared.fault.AsmFault.{AsmFault}
use Rattle.semantics65.specs.Norms.{form_of_definition, norm, Extends}
use Rattle.semantics65.specs.Symbols.{or_else}
use Rattle.semantics65.specs.Symbols as l
use Rattle.symbols65.specs.declared.table.symbols.Definition.{Definition}
use Rattle.symbols65.specs.declared.table.symbols.InternedKey.{InternedKey}
use Rattle.symbols65.specs.declared.table.symbols.Symbols.{Symbols}
use Rattle.std.specs.Option.{option_and_then}
use Rattle.std.specs.Result.{result_ok}
use Rattle.symbols65.specs.Resolving.{HaveBoundedDepth}
use Rattle.symbols65.specs.Views.{final_form, known_by, table_of, interned_names_of}
use Rattle.symbols65.specs.Tables.{definition_in}
use Rattle.symbols65.proofs.InternedNames.{get_mapped, get_stays, without_imports}
use Rattle.symbols65.proofs.ExpansionDepths.{extends_itself, constant_course, constant_is, ok_later}

pub has_form : (r : Result Form AsmFault) (f : Form) → result_ok r ≡ Some f → r ≡ Ok f
has_form x f e = grind (arith, common_steps)

module _ (t : Symbols) where
  -- in each extension of the table, the final form of definition `j` is its form at depth j + 1
  pub final_in : (z : l.Symbols) → Extends (table_of t) z → (j : ℕ) (f : Form) → final_form t j ≡ Some f → form_of_definition (norm (suc j) z) (slice_get z.definitions j) ≡ Ok f
  final_in z more j f h = by (slice_get t.definitions.entries j) refl h
    where
      by : (o : Option (InternedKey × Definition)) → slice_get t.definitions.entries j ≡ o → option_and_then (λ (d : Definition). d.form) (option_map (λ e. e.1) o) ≡ Some f → form_of_definition (norm (suc j) z) (slice_get z.definitions j) ≡ Ok f
      by None is e = absurd cc
      by (Some e) is q =
          let own = has_form _ f ((t.forms_final j e is).0 f q z (without_imports t z more)) in
          let at : slice_get (table_of t).definitions j ≡ Some (definition_in (interned_names_of t) e) = get_mapped (definition_in (interned_names_of t)) t.definitions.entries j e is in
          let lt : j < length (table_of t).definitions = slice_get_within (table_of t).definitions j (definition_in (interned_names_of t) e) at in
          ap (λ ds. form_of_definition (norm (suc j) z) (slice_get ds j)) more.definitions
          ∙ ap (form_of_definition (norm (suc j) z)) (get_stays (table_of t).definitions more.later_definitions j lt ∙ at)
          ∙ own

  -- likewise at each depth above j
  pub final_among : (z : l.Symbols) → Extends (table_of t) z → (n : ℕ) (j : ℕ) (f : Form) → j < n → final_form t j ≡ Some f → form_of_definition (norm n z) (slice_get z.definitions j) ≡ Ok f
  final_among z more n j f lt h = ok_later (constant_course z j) (constant_is z j) (suc j) n f (omega (arith, lt)) (final_in z more j f h)

  pub known_inside : (j : ℕ) (f : Form) → final_form t j ≡ Some f → j < length (table_of t).definitions
  known_inside j f h = grind (arith, common_steps, slice_get_within, get_mapped)

  pub finals_found : HaveBoundedDepth (length (table_of t).definitions) (table_of t) (final_form t)
  finals_found = λ j f h. final_among (table_of t) (extends_itself (table_of t)) (length (table_of t).definitions) j f (known_inside j f h) h

  -- forms that are final or found by a search have a bounded depth
  pub known_found : (c : ℕ) (found : ℕ → Option Form) → HaveBoundedDepth c (table_of t) found → HaveBoundedDepth (c + length (table_of t).definitions) (table_of t) (known_by t found)
  known_found c found h = λ j f e. by j f (final_form t j) refl e
    where
      later : (j n : ℕ) (f : Form) → n ≤ c + length (table_of t).definitions → constant_course (table_of t) j n ≡ Ok f → constant_course (table_of t) j (c + length (table_of t).definitions) ≡ Ok f
      later j n f le e = ok_later (constant_course (table_of t) j) (constant_is (table_of t) j) n (c + length (table_of t).definitions) f le e

      by : (j : ℕ) (f : Form) (o : Option Form) → final_form t j ≡ o → or_else o (found j) ≡ Some f → form_of_definition (norm (c + length (table_of t).definitions) (table_of t)) (slice_get (table_of t).definitions j) ≡ Ok f
      by j f None is e = later j c f (omega arith) (h j f e)
      by j f (Some g) is e = later j (length (table_of t).definitions) f (omega arith) (finals_found j f (is ∙ e))
