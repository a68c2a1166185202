-- The values of forms: addresses of sections, values of exports, the bytes of rows.
use Rattle.std.specs.Prelude.{◌≡◌, ℕ, zero, suc, ◌<◌, ℤ, pos, List, length, get_or, slice_get, Option, Some, None, Result, Ok, Err, ◌+◌, ◌%◌, ◌^◌, map, if◌then◌else◌, [], ◌∷◌}
use Rattle.object65.specs.Form.{Form}
use Rattle.object65.specs.FormValue.{value_in}
use Rattle.link65.specs.declared.parts.ModuleExport.{ModuleExport}
use Rattle.link65.specs.declared.parts.Provider.{Provider}
use Rattle.link65.specs.declared.parts.Provider.TheVariants.{ByModule, ByScript, Nobody}
use Rattle.link65.specs.declared.parts.ModuleBindings.{ModuleBindings}
use Rattle.link65.specs.declared.parts.ValueFault.{ValueFault}
use Rattle.link65.specs.declared.parts.ValueFault.TheVariants.{Circular, NoValue, Unresolved}
use Rattle.std.specs.Int.{w64, cast_signed}
use Rattle.std.specs.Option.{option_map_or}
use Rattle.script65.specs.declared.placement.Placement.{Placement}
use Rattle.script65.specs.declared.placement.RowPlacement.{RowPlacement}
use Rattle.script65.specs.declared.placement.SegmentNeed.{SegmentNeed}
use Rattle.script65.specs.declared.script.SegmentRow.{SegmentRow}
use Rattle.script65.specs.declared.script.Script.{Script}
use Rattle.link65.specs.declared.parts.LinkedModule.{LinkedModule}
use Rattle.link65.specs.declared.parts.SectionPosition.{SectionPosition}
use Rattle.link65.specs.Names.{provider_of, script_definitions, weak_symbols}
use Rattle.link65.specs.Programs.{position_in, Program, Segment, Cell, known, filled, deferred, segment_of}
use Rattle.std.specs.List.{flat_map}
use Rattle.base65.specs.declared.width.Width.{Width}
use Rattle.object65.specs.Objects.{fits_width, value_bytes}
use Rattle.link65.specs.Files.{RowBytes}
use Rattle.script65.specs.Placing.{is_written}

-- ---- The value of a form among linked modules.

-- the section addresses and the providers of imports of each module, and the exports of all modules
pub record Linkage : Type 0 where
  pub modules : List ModuleBindings
  pub exports : List ModuleExport

-- the results of exports, by index
abbrev pub Exports : Type 0
Exports = ℕ → Result ℤ ValueFault

abbrev pub base_of : Option ModuleBindings → ℕ → ℤ
base_of (Some m) k = get_or m.bases k (pos 0)
base_of None k = pos 0

abbrev pub provider_at : Option ModuleBindings → ℕ → Provider
provider_at (Some m) j = get_or m.providers j Nobody
provider_at None j = Nobody

abbrev pub import_value : Exports → Provider → Result ℤ ValueFault
import_value exports (ByModule x) = exports x
import_value exports (ByScript v) = Ok v
import_value exports Nobody = Err Unresolved

-- the value of a form of the module at an index, given the results of exports
abbrev pub value_of_form : Linkage → Exports → ℕ → Form → Result ℤ ValueFault
value_of_form l exports owner f =
    value_in NoValue (base_of (slice_get l.modules owner)) (λ j. import_value exports (provider_at (slice_get l.modules owner) j)) f

abbrev pub export_value : Linkage → Exports → Option ModuleExport → Result ℤ ValueFault
export_value l exports None = Err Unresolved
export_value l exports (Some e) = value_of_form l exports e.owner e.form

-- the results of exports that need fewer than this many exports, nested; any other is circular
abbrev pub exports_to_depth : Linkage → ℕ → Exports
exports_to_depth l zero x = Err Circular
exports_to_depth l (suc n) x = export_value l (exports_to_depth l n) (slice_get l.exports x)

-- A result that is circular at each depth of nested exports is circular; any other is found at some depth.
abbrev pub ConvergesTo : (ℕ → Result ℤ ValueFault) → Result ℤ ValueFault → Type 0
ConvergesTo at (Err Circular) = (n : ℕ) → at n ≡ Err Circular
ConvergesTo at r = (n : ℕ) × (at n ≡ r)

-- the result of the export at an index
abbrev pub ExportEvaluatesTo : Linkage → ℕ → Result ℤ ValueFault → Type 0
ExportEvaluatesTo l x r = ConvergesTo (λ n. exports_to_depth l n x) r

-- the result of a form of the module at an index
abbrev pub FormEvaluatesTo : Linkage → ℕ → Form → Result ℤ ValueFault → Type 0
FormEvaluatesTo l owner f r = ConvergesTo (λ n. value_of_form l (exports_to_depth l n) owner f) r

-- the result of each export, in order
pub record AreExports (l : Linkage) (table : List (Result ℤ ValueFault)) : Type 0 where
  pub long : length table ≡ length l.exports
  pub each : (x : ℕ) → x < length l.exports → ExportEvaluatesTo l x (get_or table x (Err Unresolved))

abbrev pub table_exports : List (Result ℤ ValueFault) → Exports
table_exports table x = get_or table x (Err Unresolved)

abbrev pub linkage : List ModuleBindings → List ModuleExport → Linkage
linkage modules exports = record { modules = modules; exports = exports }

-- ---- The addresses of sections in a placement, and the providers of imports.

-- the need of a segment
abbrev pub need_of : Segment → SegmentNeed
need_of g = record { name = g.name; size = g.size; align = g.align }

-- the needs of segments, in the order in which modules first have them
abbrev pub needs_of : Program → List SegmentNeed
needs_of p = map need_of p.segments

abbrev pub run_at : List RowPlacement → Option ℕ → ℕ
run_at placements (Some i) = option_map_or (λ p. p.run) (slice_get placements i) 0
run_at placements None = 0

-- the run address of a segment: that of its row; 0 if there is none
abbrev pub run_of : List SegmentRow → List RowPlacement → List ℕ → ℕ
run_of rows placements name = run_at placements (position_in (map (λ r. r.name) rows) name)

-- the run address of a section, modulo 2 ^ 64, as a signed number
abbrev pub address_of : List SegmentRow → List RowPlacement → SectionPosition → ℤ
address_of rows placements p = cast_signed w64 ((run_of rows placements p.segment + p.offset) % 2 ^ 64)

-- the addresses of a module's sections, and the providers of its imports
abbrev pub module_bindings : Script → Program → Placement → LinkedModule → ModuleBindings
module_bindings s program p m = record {
  bases = map (address_of s.rows p.rows) m.sections;
  providers = map (provider_of (script_definitions s p) program.exports (weak_symbols s.symbols)) m.imports;
}

abbrev pub linkage_of : Script → Program → Placement → Linkage
linkage_of s program p = record { modules = map (module_bindings s program p) program.members; exports = program.exports }

-- ---- The bytes of rows.

abbrev pub or_zero : Result ℤ ValueFault → ℤ
or_zero (Ok v) = v
or_zero (Err e) = pos 0

-- the bytes of a value that fits; none if it doesn't fit
abbrev pub checked_value_bytes : Width → ℤ → List ℕ
checked_value_bytes width v = if fits_width width v then value_bytes width v else []

-- the bytes of a cell, given the row's fill value and the results of exports
abbrev pub cell_bytes : Linkage → Exports → ℕ → Cell → List ℕ
cell_bytes l exports fill (known b) = b ∷ []
cell_bytes l exports fill filled = fill ∷ []
cell_bytes l exports fill (deferred w) = checked_value_bytes w.width (or_zero (value_of_form l exports w.owner w.form))

abbrev pub segment_bytes : Linkage → Exports → ℕ → Option Segment → List ℕ
segment_bytes l exports fill None = []
segment_bytes l exports fill (Some g) = flat_map (cell_bytes l exports fill) g.cells

-- the bytes of a row: those of its segment, with the fill value of the row
abbrev pub row_bytes : Linkage → Exports → List Segment → RowBytes
row_bytes l exports segments r = segment_bytes l exports r.fill_value (segment_of segments r.name)
