-- A placed program as the code represents it, the search for its exports, and its results except its files.
use Rattle.std.specs.Prelude.{◌≡◌, ◌≢◌, ◌<◌, ℕ, ℤ, List, length, map, slice_get, Option, Some, None, Result, Ok, Err, ◌++◌, ◌∷◌, [], codes, option_map, unwrap_or, is_some, ◌||◌, ◌+◌, ◌%◌, ◌^◌}
use Rattle.object65.specs.Form.{Form}
use Rattle.object65.specs.FormValue.{value_in}
use Rattle.link65.specs.declared.evaluation.Attempt.{Attempt}
use Rattle.link65.specs.declared.evaluation.Attempt.TheVariants as attempt
use Rattle.link65.specs.declared.evaluation.ExportState.{ExportState}
use Rattle.link65.specs.declared.evaluation.ExportState.TheVariants.{Untouched, BeingEvaluated, Found}
use Rattle.link65.specs.declared.evaluation.EvalBlocked.{EvalBlocked}
use Rattle.link65.specs.declared.evaluation.EvalBlocked.TheVariants.{Fault, Needs}
use Rattle.link65.specs.declared.parts.ModuleExport.{ModuleExport}
use Rattle.link65.specs.declared.parts.Provider.{Provider}
use Rattle.link65.specs.declared.parts.Provider.TheVariants.{ByModule, ByScript, Nobody}
use Rattle.link65.specs.declared.parts.ModuleBindings.{ModuleBindings}
use Rattle.link65.specs.declared.parts.ValueFault.{ValueFault}
use Rattle.link65.specs.declared.parts.ValueFault.TheVariants.{Circular, NoValue, Unresolved}
use Rattle.link65.specs.Values.{ExportEvaluatesTo, Linkage, base_of, provider_at, AreExports, Exports, table_exports, linkage, value_of_form, linkage_of, cell_bytes, or_zero, row_bytes}
use Rattle.std.specs.Str.{bytes_eq}
use Rattle.indexmap.specs.IndexMap.{IndexMap, get_by}
use Rattle.base65.specs.declared.seed.Seed.{Seed}
use Rattle.std.specs.Borrow.{Bor}
use Rattle.std.specs.Option.{option_or}
use Rattle.link65.specs.declared.parts.SectionPosition.{SectionPosition}
use Rattle.link65.specs.declared.resolving.DefinedSymbols.{DefinedSymbols}
use Rattle.link65.specs.declared.parts.LinkedModule.{LinkedModule}
use Rattle.link65.specs.Names.{script_provider_or, index_of_definition, index_of_export, provider_of, script_definitions, weak_symbols}
use Rattle.link65.specs.Programs.{flat_zip, Program, Cell, Segment}
use Rattle.std.specs.Int.{w64, cast_signed, cast_unsigned}
use Rattle.std.specs.List.{flat_map}
use Rattle.base65.specs.Outcome.{AndThen}
use Rattle.link65.specs.Files.{RowBytes, written_row_bytes}
use Rattle.script65.specs.declared.placement.Placement.{Placement}
use Rattle.script65.specs.declared.placement.RowPlacement.{RowPlacement}
use Rattle.script65.specs.declared.script.SegmentRow.{SegmentRow}
use Rattle.script65.specs.declared.script.Script.{Script}
use Rattle.link65.specs.declared.fault.LinkFault.{LinkFault}
use Rattle.link65.specs.declared.finishing.CheckedLink.{CheckedLink}
use Rattle.link65.specs.declared.parts.ScriptSymbol.{ScriptSymbol}
use Rattle.link65.specs.declared.parts.ValueFixup.{ValueFixup}
use Rattle.link65.specs.declared.values.PlacedProgram.{PlacedProgram}
use Rattle.link65.specs.Links.{check_export, check_fixup, check_result}
use Rattle.link65.specs.CodeInvariants.{segments_from}
use Rattle.link65.specs.Texts.{definition_line, map_text, member_lines, row_lines, symbol_line, weak_line, concat_texts, warnings_of_rows}

-- ---- The states of exports during their evaluation.

-- the value that was found, or its error
abbrev pub known_result : Result ℤ ValueFault → Result ℤ EvalBlocked
known_result (Ok v) = Ok v
known_result (Err e) = Err (Fault e)

-- the result of an export, if it is known; an export that is being evaluated is circular
abbrev pub circular_if_active : ℕ → Option ExportState → Result ℤ EvalBlocked
circular_if_active x None = Err (Fault Unresolved)
circular_if_active x (Some Untouched) = Err (Needs x)
circular_if_active x (Some BeingEvaluated) = Err (Fault Circular)
circular_if_active x (Some (Found r)) = known_result r

abbrev pub import_attempt : List ExportState → Provider → Result ℤ EvalBlocked
import_attempt states (ByModule x) = circular_if_active x (slice_get states x)
import_attempt states (ByScript v) = Ok v
import_attempt states Nobody = Err (Fault Unresolved)

-- a form's result with the exports known so far, or an export that it needs first
abbrev pub form_attempt : Option ModuleBindings → List ExportState → Form → Result ℤ EvalBlocked
form_attempt m states f = value_in (Fault NoValue) (base_of m) (λ j. import_attempt states (provider_at m j)) f

-- the values found so far are those of the exports
abbrev pub AreCorrect : Linkage → List ExportState → Type 0
AreCorrect l states = (x : ℕ) (r : Result ℤ ValueFault) → slice_get states x ≡ Some (Found r) → ExportEvaluatesTo l x r

abbrev pub attempt_of : Result ℤ EvalBlocked → Attempt
attempt_of (Ok v) = attempt.Completed (Ok v)
attempt_of (Err (Fault e)) = attempt.Completed (Err e)
attempt_of (Err (Needs x)) = attempt.Needs x

abbrev pub export_attempt : List ModuleBindings → List ExportState → Option ModuleExport → Attempt
export_attempt modules states None = attempt.Completed (Err Unresolved)
export_attempt modules states (Some e) = attempt_of (form_attempt (slice_get modules e.owner) states e.form)

abbrev pub IsFound : List ExportState → ℕ → Type 0
IsFound states x = (r : Result ℤ ValueFault) × (slice_get states x ≡ Some (Found r))

-- each export has a state, none is being evaluated, and the values found so far are those of the exports
pub record ExportStatesInvariant (l : Linkage) (states : List ExportState) : Type 0 where
  pub long : length states ≡ length l.exports
  pub all_correct : AreCorrect l states
  pub at_rest : (x : ℕ) → slice_get states x ≢ Some BeingEvaluated

-- exports that were found stay found
abbrev pub PreservesResults : List ExportState → List ExportState → Type 0
PreservesResults old new = (x : ℕ) → IsFound old x → IsFound new x

-- ---- All exports.

abbrev pub AllFound : List ExportState → Type 0
AllFound states = (x : ℕ) → x < length states → IsFound states x

-- all exports are found, with their values
pub record AreFinalStates (l : Linkage) (states : List ExportState) : Type 0 where
  pub settled : ExportStatesInvariant l states
  pub found : AllFound states

abbrev pub state_result : ExportState → Result ℤ ValueFault
state_result Untouched = Err Unresolved
state_result BeingEvaluated = Err Circular
state_result (Found r) = r

-- the results of the exports, in order
abbrev pub export_results : List ExportState → List (Result ℤ ValueFault)
export_results states = map state_result states

-- the result of an attempt that needs nothing else
abbrev pub final_result : Result ℤ EvalBlocked → Result ℤ ValueFault
final_result (Ok v) = Ok v
final_result (Err (Fault e)) = Err e
final_result (Err (Needs x)) = Err Circular

-- ---- The representation of names.

-- the item of a name in a table, if there is one
abbrev pub provider_found : {A S : Type 0} → IndexMap (Bor (List ℕ)) A S → List ℕ → Option A
provider_found table name = get_by (λ k. bytes_eq name k.now) table

-- names added to a table: a name with an index gets the item of that index, any other keeps its item
abbrev pub ExtendsTable : {A S : Type 0} → (ℕ → A) → (List ℕ → Option ℕ) → IndexMap (Bor (List ℕ)) A S → IndexMap (Bor (List ℕ)) A S → Type 0
ExtendsTable provided at old new = (name : List ℕ) → provider_found new name ≡ option_or (option_map provided (at name)) (provider_found old name)

abbrev pub definition_at : List ScriptSymbol → ℕ → Provider
definition_at ds i = script_provider_or ds (Some i) Nobody

abbrev pub AddsDefinitions : {S : Type 0} → List ScriptSymbol → IndexMap (Bor (List ℕ)) Provider S → IndexMap (Bor (List ℕ)) Provider S → Type 0
AddsDefinitions ds old new = ExtendsTable (definition_at ds) (index_of_definition ds) old new

abbrev pub AddsExports : {S : Type 0} → List ModuleExport → IndexMap (Bor (List ℕ)) Provider S → IndexMap (Bor (List ℕ)) Provider S → Type 0
AddsExports exports old new = ExtendsTable ByModule (index_of_export exports) old new

abbrev pub provider_in : DefinedSymbols → List ℕ → Provider
provider_in n name = unwrap_or (provider_found n.defined name) (unwrap_or (provider_found n.weak_providers name) Nobody)

-- the provider of each name follows from the definitions of the script and the modules
pub record HasCorrectProviders (n : DefinedSymbols) : Type 0 where
  pub defined : (name : List ℕ) → is_some (provider_found n.defined name) ≡ (is_some (index_of_definition n.script_symbols.now name) || is_some (index_of_export n.exports.now name))
  pub provided : (name : List ℕ) → provider_in n name ≡ provider_of n.script_symbols.now n.exports.now n.weak.now name

-- the run addresses of rows by their names, and of sections
abbrev pub RunAddresses : Type 0
RunAddresses = IndexMap (Bor (List ℕ)) ℕ Seed

abbrev pub run_in : RunAddresses → List ℕ → ℕ
run_in runs name = unwrap_or (provider_found runs name) 0

abbrev pub address_in : RunAddresses → SectionPosition → ℤ
address_in runs p = cast_signed w64 ((run_in runs p.segment + p.offset) % 2 ^ 64)

abbrev pub bindings_in : DefinedSymbols → RunAddresses → LinkedModule → ModuleBindings
bindings_in n runs m = record { bases = map (address_in runs) m.sections; providers = map (provider_in n) m.imports }

-- ---- A placed program with resolved exports, as the code stores it, and its link except for the files.

abbrev pub linkage_in : PlacedProgram → Linkage
linkage_in p = linkage p.modules.now p.exports.now

abbrev pub exports_in : PlacedProgram → Exports
exports_in p = table_exports (export_results p.states.now)

abbrev pub segments_in : PlacedProgram → List Segment
segments_in p = segments_from p.contents.now

abbrev pub program_in : PlacedProgram → Program
program_in p = record { members = p.members.now; segments = segments_in p; exports = p.exports.now; asserts = p.asserts.now }

-- the check of a value that needs addresses
abbrev pub check_in : PlacedProgram → ValueFixup → Result (Unit {0}) LinkFault
check_in p = check_fixup (linkage_in p) p.members.now (exports_in p)

-- the check of an export, and its value, which is 0 if it has none
abbrev pub check_export_in : PlacedProgram → ModuleExport → Result (Unit {0}) LinkFault
check_export_in p = check_export (linkage_in p) p.members.now (exports_in p)

abbrev pub exported_value : Linkage → Exports → ModuleExport → ℤ
exported_value l exports e = or_zero (value_of_form l exports e.owner e.form)

abbrev pub values_in : PlacedProgram → List ℤ
values_in p = map (exported_value (linkage_in p) (exports_in p)) p.exports.now

-- the line of an export in the map, given its value
abbrev pub value_line : ModuleExport → ℤ → List ℕ
value_line e v = symbol_line e.name (cast_unsigned w64 v)

-- the lines of all symbols, given the values of exports
abbrev pub symbol_lines_from : List ScriptSymbol → List ScriptSymbol → List ModuleExport → List ℤ → List ℕ
symbol_lines_from script_symbols weak exports values =
    concat_texts (flat_map definition_line script_symbols ∷ flat_zip value_line exports values ∷ flat_map (weak_line script_symbols exports) weak ∷ [])

-- the text of the map, given the lines of its symbols
abbrev pub map_from_lines : List LinkedModule → List SegmentRow → List RowPlacement → List ℕ → List ℕ
map_from_lines members rows placements symbols =
    concat_texts (codes "MODULES\n" ∷ flat_map member_lines members ∷ codes "SEGMENTS\n" ∷ row_lines rows placements ∷ codes "SYMBOLS\n" ∷ symbols ∷ [])

-- the bytes of a cell, given the fill value of its row; and those of rows
abbrev pub cell_in : PlacedProgram → ℕ → Cell → List ℕ
cell_in p fill = cell_bytes (linkage_in p) (exports_in p) fill

abbrev pub bytes_in : PlacedProgram → RowBytes
bytes_in p = row_bytes (linkage_in p) (exports_in p) (segments_in p)

-- all exports are found, and the names are those of the segments
pub record IsReady (p : PlacedProgram) : Type 0 where
  pub found : AllFound p.states.now
  pub named : map (λ n. n.items) p.names.now.keys ≡ map (λ c. c.name) p.contents.now

-- the names are those of the script and of the program
pub record HasMatchingNames (s : Script) (placement : Placement) (n : DefinedSymbols) (p : PlacedProgram) : Type 0 where
  pub ready : IsReady p
  pub names : HasCorrectProviders n
  pub script_symbols : n.script_symbols.now ≡ script_definitions s placement
  pub weak : n.weak.now ≡ weak_symbols s.symbols
  pub exports : n.exports.now ≡ p.exports.now

-- the results of a placed program that passes all checks, with these warnings of assertions
abbrev pub ChecksSucceed : Script → Program → Placement → Linkage → Exports → List ℕ → Result CheckedLink LinkFault → Type 0
ChecksSucceed s p placement l exports warnings (Ok x) =
    (x.rows.items ≡ map (written_row_bytes (row_bytes l exports p.segments)) s.rows)
    × (x.warnings ≡ warnings_of_rows s.rows p.segments ++ warnings)
    × (x.map ≡ map_text s p placement l exports)
ChecksSucceed s p placement l exports warnings (Err e) = ⊥

-- the results of a placed program that passes all checks, or the first error
abbrev pub IsCheckedLink : Script → Program → Placement → Linkage → Exports → Result CheckedLink LinkFault → Type 0
IsCheckedLink s p placement l exports r = AndThen (check_result s p l exports) (ChecksSucceed s p placement l exports) r

abbrev pub IsPlacedCheckedLink : Script → Program → Placement → Result CheckedLink LinkFault → Type 0
IsPlacedCheckedLink s p placement r =
    (table : List (Result ℤ ValueFault)) × AreExports (linkage_of s p placement) table × IsCheckedLink s p placement (linkage_of s p placement) (table_exports table) r
