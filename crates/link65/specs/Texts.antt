-- The texts beside error messages: warnings, and the map.
use Rattle.std.specs.Prelude.{ℕ, ◌%◌, ◌==◌, ◌&&◌, Bool, true, false, not, if◌then◌else◌, List, [], ◌∷◌, ◌++◌, Option, Some, None, codes, decimal, zero, suc, ◌/◌, ◌^◌, ◌||◌, is_some, nat_lt, get_or}
use Rattle.std.specs.List.{flat_map, list_any}
pub use Rattle.base65.specs.Texts.{concat_texts}
use Rattle.script65.specs.Placing.{is_written}
use Rattle.script65.specs.declared.script.SegmentRow.{SegmentRow}
use Rattle.link65.specs.declared.fault.ModuleLocation.{ModuleLocation}
use Rattle.link65.specs.Programs.{Cell, known, filled, deferred, Segment, segment_of, flat_zip, Program}
use Rattle.std.specs.Int.{w64, cast_unsigned}
use Rattle.script65.specs.declared.placement.Placement.{Placement}
use Rattle.script65.specs.declared.placement.RowPlacement.{RowPlacement}
use Rattle.script65.specs.declared.script.Script.{Script}
use Rattle.link65.specs.declared.parts.ScriptSymbol.{ScriptSymbol}
use Rattle.link65.specs.declared.parts.ModuleExport.{ModuleExport}
use Rattle.link65.specs.declared.parts.LinkedModule.{LinkedModule}
use Rattle.link65.specs.declared.parts.SectionPosition.{SectionPosition}
use Rattle.link65.specs.Values.{or_zero, Exports, Linkage, value_of_form}
use Rattle.link65.specs.Names.{index_of_definition, index_of_export, script_definitions, weak_symbols}

-- ---- Warnings.

-- `ld65: Warning: segment name message`
abbrev pub segment_warning : List ℕ → List ℕ → List ℕ
segment_warning name message = concat_texts (codes "ld65: Warning: segment " ∷ name ∷ message ∷ codes "\n" ∷ [])

-- the warning of a row whose segment no module has; empty if the row is optional
abbrev pub absence_warning : SegmentRow → List ℕ
absence_warning r = if r.optional then [] else segment_warning r.name (codes " does not exist")

abbrev pub alignment_message : ℕ → List ℕ
alignment_message align = concat_texts (codes " needs alignment " ∷ decimal align ∷ [])

-- a warning if a row's alignment is no multiple of its segment's
abbrev pub alignment_warning : SegmentRow → Segment → List ℕ
alignment_warning r g = if r.align % g.align == 0 then [] else segment_warning r.name (alignment_message g.align)

-- whether a cell is data and not a byte of the fill value
abbrev pub is_data : Cell → Bool
is_data (known b) = true
is_data filled = false
is_data (deferred w) = true

-- a warning if a row has data but is in no file
abbrev pub data_warning : SegmentRow → Segment → List ℕ
data_warning r g = if not (is_written r.access) && list_any is_data g.cells then segment_warning r.name (codes " holds data that is not written") else []

abbrev pub row_warnings : SegmentRow → Option Segment → List ℕ
row_warnings r None = absence_warning r
row_warnings r (Some g) = alignment_warning r g ++ data_warning r g

-- the warnings of all rows, in the script's order
abbrev pub warnings_of_rows : List SegmentRow → List Segment → List ℕ
warnings_of_rows rows segments = flat_map (λ r. row_warnings r (segment_of segments r.name)) rows

-- the parts of a location's name: the module, and the file if there is one
abbrev pub location_parts : List ℕ → Option (List ℕ) → List (List ℕ)
location_parts name None = name ∷ []
location_parts name (Some file) = name ∷ codes ":" ∷ file ∷ []

-- `module` or `module:file`
abbrev pub location_name : ModuleLocation → List ℕ
location_name s = concat_texts (location_parts s.module_name s.file)

-- `module:line: Warning: text` or `module:file:line: Warning: text`
abbrev pub assertion_warning : ModuleLocation → List ℕ → List ℕ
assertion_warning s text = concat_texts (location_name s ∷ codes ":" ∷ decimal s.line ∷ codes ": Warning: " ∷ text ∷ codes "\n" ∷ [])

-- ---- The map: the modules with their sections, the rows with their addresses, the symbols with their values.

abbrev pub hex_digit : ℕ → ℕ
hex_digit n = get_or (codes "0123456789ABCDEF") n 0

-- the last `count` hex digits of a number
abbrev pub hex_digits : ℕ → ℕ → List ℕ
hex_digits zero n = []
hex_digits (suc count) n = hex_digits count (n / 16) ++ hex_digit (n % 16) ∷ []

-- eight hex digits of a number below 2 ^ 32, or the last nine of any other
abbrev pub address_text : ℕ → List ℕ
address_text n = if nat_lt n (2 ^ 32) then hex_digits 8 n else hex_digits 9 n

-- `  segment offset size`
abbrev pub section_line : SectionPosition → List ℕ
section_line p = concat_texts (codes "  " ∷ p.segment ∷ codes " " ∷ address_text p.offset ∷ codes " " ∷ address_text p.size ∷ codes "\n" ∷ [])

-- the line of a module's name, and those of its sections
abbrev pub member_lines : LinkedModule → List ℕ
member_lines m = concat_texts (m.name ∷ codes "\n" ∷ flat_map section_line m.sections ∷ [])

-- `name run load size`
abbrev pub row_line : SegmentRow → RowPlacement → List ℕ
row_line r p = concat_texts (r.name ∷ codes " " ∷ address_text p.run ∷ codes " " ∷ address_text p.load ∷ codes " " ∷ address_text p.size ∷ codes "\n" ∷ [])

abbrev pub row_lines : List SegmentRow → List RowPlacement → List ℕ
row_lines rows placements = flat_zip row_line rows placements

-- `name value`, the value as sixteen digits of its two's complement
abbrev pub symbol_line : List ℕ → ℕ → List ℕ
symbol_line name bits = concat_texts (name ∷ codes " " ∷ hex_digits 16 bits ∷ codes "\n" ∷ [])

abbrev pub definition_line : ScriptSymbol → List ℕ
definition_line d = symbol_line d.name (cast_unsigned w64 d.value)

-- the line of an export and its value
abbrev pub export_line : Linkage → Exports → ModuleExport → List ℕ
export_line l exports e = symbol_line e.name (cast_unsigned w64 (or_zero (value_of_form l exports e.owner e.form)))

-- the line of a weak name, if nothing else defines it
abbrev pub weak_line : List ScriptSymbol → List ModuleExport → ScriptSymbol → List ℕ
weak_line script_symbols exports d = if is_some (index_of_definition script_symbols d.name) || is_some (index_of_export exports d.name) then [] else definition_line d

-- the lines of all symbols: the script's own, the modules' exports, and weak names that nothing else defines
abbrev pub symbol_lines : List ScriptSymbol → List ScriptSymbol → Linkage → Exports → List ℕ
symbol_lines script_symbols weak l exports =
    concat_texts (flat_map definition_line script_symbols ∷ flat_map (export_line l exports) l.exports ∷ flat_map (weak_line script_symbols l.exports) weak ∷ [])

abbrev pub map_text : Script → Program → Placement → Linkage → Exports → List ℕ
map_text s program p l exports =
    concat_texts (codes "MODULES\n" ∷ flat_map member_lines program.members ∷ codes "SEGMENTS\n" ∷ row_lines s.rows p.rows ∷ codes "SYMBOLS\n" ∷ symbol_lines (script_definitions s p) (weak_symbols s.symbols) l exports ∷ [])
