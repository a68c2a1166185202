-- Each slot has a result or an error that is no system error, and so has the object of laid-out statements.
use Rattle.std.proofs.Common.{arith, ◌≡◌, pos, ℕ, zero, ◌+◌, Bool, false, List, [], ◌∷◌, ◌++◌, Option, Some, None, refl}
use Rattle.std.specs.Prelude.{Result, Ok, Err, IfSome}
use Rattle.std.specs.List.{flat_map}
use Rattle.base65.specs.Outcome.{◌>>=◌}
use Rattle.base65.specs.SystemErrors.{IsNoSystemError}
use Rattle.base65.specs.declared.values.Op2.TheVariants.{Subtract}
use Rattle.base65.proofs.SystemErrors.{Own, bad, choice, good, next}
use Rattle.object65.specs.Form.{Form, lit, sec}
use Rattle.object65.specs.Objects.{fits_width, is_file_name}
use Rattle.base65.specs.declared.action.Action.{Action}
use Rattle.base65.specs.declared.action.Action.TheVariants as action
use Rattle.base65.specs.declared.width.Width.{Width}
use Rattle.base65.specs.declared.width.Width.TheVariants.{Branch}
use Rattle.object65.proofs.ObjectExistence.{some_fold}
use Rattle.ast65.specs.Faults.{is_system_error}
use Rattle.semantics65.specs.Contents.{decided_assertion, Declaration, export_declarations, import_fault, operand_form, value_part, with_file_name_check, exported_names}
use Rattle.sources65.specs.Laws.{is_located_system_error}
use Rattle.semantics65.specs.Layout.{Layout}
use Rattle.semantics65.specs.Module.{undefined_export_result, asserted, slot_result, datum, forced_import, module_resolution, constant_definition, exported, Resolution, result_then, known_part, resolved, imported, is_repeated, PieceResult, unrepeated_result, object_of, operand, outcome_of, Piece, Purpose, resolution_of, Slot, slots_of, value_result, expression_value, deferred, with_location, LocatedFault}
use Rattle.semantics65.specs.Norms.{defined_form, norm_of}
use Rattle.semantics65.specs.Symbols.{definition_index, named, Symbols, symbols_of}
use Rattle.semantics65.specs.Types.{AsmFault, SourceLocation}
use Rattle.semantics65.specs.declared.contexts.Context.{Context}
use Rattle.sources65.proofs.FormExistence.{defined_own, folded_own, norm_own}

-- ---- Parts.

written_own : {A : Type 0} (location : SourceLocation) (a : A) → Own is_system_error (with_file_name_check location a)
written_own location a = choice (is_file_name location.file) _ _ (good a) (bad _ refl)

stored_own : (width : Width) (location : SourceLocation) (f : Form) → Own is_system_error (value_part width location f)
stored_own width location (lit v) = choice (fits_width width v) _ _ (good _) (bad _ refl)
stored_own width location f = written_own location _

form_own : (width : Width) (s : Context) (f : Form) → Own is_system_error (operand_form width s f)
form_own Branch s f = folded_own _ (record { own = some_fold.1 Subtract f (sec s.segment (pos (s.offset + 2))) })
form_own width s f = good f

-- ---- Declarations.

import_own : (y : Symbols) (n : List ℕ) → Own is_system_error (import_fault y n)
import_own y n = record { own = grind (arith) }

absent_own : (must : Bool) (n : List ℕ) → Own is_system_error (undefined_export_result must n)
absent_own must n = record { own = grind (arith) }

export_own : (y : Symbols) (location : SourceLocation) (n : List ℕ) (absent : Result (List Declaration) AsmFault) → Own is_system_error absent → (o : Option ℕ) → Own is_system_error (export_declarations y location n absent o)
export_own y location n absent h None = h
export_own y location n absent h (Some j) = next (defined_form y j) _ (defined_own y j) (λ f. written_own location _)

decided_own : (act : Action) (location : SourceLocation) (words : List ℕ) (f : Form) → Own is_system_error (decided_assertion act location words f)
decided_own action.Error location words (lit (pos zero)) = bad _ refl
decided_own act location words (lit v) = good _
decided_own act location words f = written_own location _

-- ---- Pieces.

used_own : (location : SourceLocation) (s : Context) (why : Purpose) (f : Form) → Own is_system_error (value_result location s why f)
used_own location s (datum width) f = next (value_part width location f) _ (stored_own width location f) (λ p. good _)
used_own location s (operand width) f =
    next (operand_form width s f >>= value_part width location) _
    (next (operand_form width s f) _ (form_own width s f) (λ g. stored_own width location g))
    (λ p. good _)
used_own location s constant_definition f = good _
used_own location s (asserted act words) f = next (decided_assertion act location words f) _ (decided_own act location words f) (λ ss. good _)

made_own : (y : Symbols) (location : SourceLocation) (s : Context) (p : Piece) → Own is_system_error (unrepeated_result y location s p)
made_own y location s (known_part p) = good _
made_own y location s (expression_value why e) = next (norm_of y s e) _ (norm_own y s e) (λ f. used_own location s why f)
made_own y location s (imported n) = next (import_fault y n) _ (import_own y n) (λ ss. good _)
made_own y location s (forced_import n) = good _
made_own y location s (exported must n) =
    next (export_declarations y location n (undefined_export_result must n) (definition_index y (named 0 n))) _
    (export_own y location n (undefined_export_result must n) (absent_own must n) (definition_index y (named 0 n)))
    (λ ss. good _)

-- ---- Slots.

placed_own : {A : Type 0} (location : SourceLocation) (r : Result A AsmFault) → Own is_system_error r → Own is_located_system_error (with_location location r)
placed_own location (Ok x) h = good x
placed_own location (Err e) h = bad _ h.own

coming_own : (y : Symbols) (names : List (List ℕ)) (x : Slot) → Own is_located_system_error (slot_result y names x)
coming_own y names (resolved c) = good _
coming_own y names (deferred w) =
    placed_own w.place _ (choice (is_repeated names w.piece) _ _ (good _) (made_own y w.place w.context w.piece))

followed_own : (r : Result PieceResult LocatedFault) (rest : PieceResult → Resolution) → Own is_located_system_error r → ((m : PieceResult) → Own is_located_system_error (rest m).found) → Own is_located_system_error (result_then r rest).found
followed_own (Ok m) rest h k = next (rest m).found _ (k m) (λ cs. good _)
followed_own (Err e) rest h k = bad e h.own

resolved_own : (y : Symbols) (names : List (List ℕ)) (xs : List Slot) → Own is_located_system_error (resolution_of y names xs).found
resolved_own y names [] = good []
resolved_own y names (x ∷ xs) = followed_own (slot_result y names x) _ (coming_own y names x) (λ m. resolved_own y (names ++ exported_names m.content.said) xs)

-- ---- Objects.

object_own : (y : Layout) → Own is_located_system_error (object_of y)
object_own y = next (module_resolution y.laid).found _ (resolved_own (symbols_of y.laid) [] (flat_map slots_of y.laid)) (λ cs. good _)

pub outcome_own : (y : Layout) (o : Option LocatedFault) → IfSome o (λ e. is_located_system_error e ≡ false) → IsNoSystemError is_located_system_error (outcome_of y o).result
outcome_own y None h = (object_own y).own
outcome_own y (Some e) h = h
