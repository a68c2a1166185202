-- Names: those that a script and modules define, none of them twice, and the provider of a name.
use Rattle.std.specs.Prelude.{ℕ, List, [], ◌∷◌, ◌++◌, map, codes, if◌then◌else◌, pos, Bool, not, ◌||◌, filter, slice_get, Option, Some, None, ◌≡◌, Result, Ok, Err}
use Rattle.std.specs.Int.{w64, cast_signed}
use Rattle.std.specs.List.{flat_map, list_any}
use Rattle.script65.specs.declared.placement.AreaPlacement.{AreaPlacement}
use Rattle.script65.specs.declared.placement.Placement.{Placement}
use Rattle.script65.specs.declared.placement.RowPlacement.{RowPlacement}
use Rattle.script65.specs.AreaSums.{attribute_name}
use Rattle.script65.specs.declared.script.MemoryArea.{MemoryArea}
use Rattle.script65.specs.declared.script.SegmentRow.{SegmentRow}
use Rattle.script65.specs.declared.script.Script.{Script}
use Rattle.script65.specs.declared.script.Symbol.{Symbol}
use Rattle.script65.specs.declared.script.SymbolKind.{SymbolKind}
use Rattle.script65.specs.declared.script.SymbolKind.TheVariants as kind
use Rattle.link65.specs.declared.parts.ScriptSymbol.{ScriptSymbol}
use Rattle.link65.specs.Programs.{flat_zip, position_in, Program}
use Rattle.std.specs.Option.{option_map_or}
use Rattle.std.specs.Str.{bytes_eq}
use Rattle.link65.specs.declared.parts.ModuleExport.{ModuleExport}
use Rattle.link65.specs.declared.parts.Provider.{Provider}
use Rattle.link65.specs.declared.parts.Provider.TheVariants.{ByModule, ByScript, Nobody}
use Rattle.link65.specs.declared.fault.LinkFault.{LinkFault}
use Rattle.link65.specs.declared.linking.Linked.{Linked}

-- ---- The names that a script defines.

abbrev pub attribute_symbol : List ℕ → List ℕ → ℕ → ScriptSymbol
attribute_symbol name word n = record { name = attribute_name name word; value = cast_signed w64 n }

-- the definitions of an area with `define`: its start, its size and the first address after its last row
abbrev pub area_definitions : MemoryArea → AreaPlacement → List ScriptSymbol
area_definitions a p =
    if a.define then attribute_symbol a.name (codes "START") p.start ∷ attribute_symbol a.name (codes "SIZE") p.size ∷ attribute_symbol a.name (codes "LAST") p.last ∷ []
    else []

-- the definitions of a row with `define`: its load address, its run address, and its size
abbrev pub row_definitions : SegmentRow → RowPlacement → List ScriptSymbol
row_definitions r p =
    if r.define then attribute_symbol r.name (codes "LOAD") p.load ∷ attribute_symbol r.name (codes "RUN") p.run ∷ attribute_symbol r.name (codes "SIZE") p.size ∷ []
    else []

abbrev pub areas_definitions : List MemoryArea → List AreaPlacement → List ScriptSymbol
areas_definitions areas placements = flat_zip area_definitions areas placements

abbrev pub rows_definitions : List SegmentRow → List RowPlacement → List ScriptSymbol
rows_definitions rows placements = flat_zip row_definitions rows placements

abbrev pub export_definition : SymbolKind → List ℕ → List ScriptSymbol
export_definition (kind.Export n) name = record { name = name; value = cast_signed w64 n } ∷ []
export_definition (kind.Weak n) name = []
export_definition kind.Import name = []

abbrev pub weak_definition : SymbolKind → List ℕ → List ScriptSymbol
weak_definition (kind.Weak n) name = record { name = name; value = cast_signed w64 n } ∷ []
weak_definition (kind.Export n) name = []
weak_definition kind.Import name = []

abbrev pub import_name : SymbolKind → List ℕ → List (List ℕ)
import_name kind.Import name = name ∷ []
import_name (kind.Export n) name = []
import_name (kind.Weak n) name = []

-- the symbols that a script exports
abbrev pub symbol_exports : List Symbol → List ScriptSymbol
symbol_exports symbols = flat_map (λ s. export_definition s.kind s.name) symbols

-- the weak symbols of a script, which it defines if nothing else does
abbrev pub weak_symbols : List Symbol → List ScriptSymbol
weak_symbols symbols = flat_map (λ s. weak_definition s.kind s.name) symbols

-- the symbols that a script imports
abbrev pub symbol_imports : List Symbol → List (List ℕ)
symbol_imports symbols = flat_map (λ s. import_name s.kind s.name) symbols

-- the definitions of a script, in the map's order: of areas, of rows, and the symbols that it exports
abbrev pub script_definitions : Script → Placement → List ScriptSymbol
script_definitions s p = areas_definitions s.areas p.areas ++ rows_definitions s.rows p.rows ++ symbol_exports s.symbols

-- ---- The names alone, which are known before placement.

abbrev pub area_names : MemoryArea → List (List ℕ)
area_names a =
    if a.define then attribute_name a.name (codes "START") ∷ attribute_name a.name (codes "SIZE") ∷ attribute_name a.name (codes "LAST") ∷ []
    else []

abbrev pub row_names : SegmentRow → List (List ℕ)
row_names r =
    if r.define then attribute_name r.name (codes "LOAD") ∷ attribute_name r.name (codes "RUN") ∷ attribute_name r.name (codes "SIZE") ∷ []
    else []

abbrev pub script_names : Script → List (List ℕ)
script_names s = flat_map area_names s.areas ++ flat_map row_names s.rows ++ map (λ d. d.name) (symbol_exports s.symbols)

-- ---- Names that are defined twice.

abbrev pub is_among : List (List ℕ) → List ℕ → Bool
is_among names name = list_any (λ n. bytes_eq n name) names

-- the first name that equals an earlier one
abbrev pub first_duplicate : List (List ℕ) → List (List ℕ) → Option (List ℕ)
first_duplicate before [] = None
first_duplicate before (name ∷ names) = if is_among before name then Some name else first_duplicate (before ++ name ∷ []) names

abbrev pub export_names : Program → List (List ℕ)
export_names p = map (λ e. e.name) p.exports

-- the names of which none may be defined twice: the script's without weak ones, then the modules' exports
abbrev pub strong_names : Script → Program → List (List ℕ)
strong_names s p = script_names s ++ export_names p

-- ---- Names that nobody defines.

abbrev pub is_defined_name : Script → Program → List ℕ → Bool
is_defined_name s p name = is_among (strong_names s p) name || is_among (map (λ d. d.name) (weak_symbols s.symbols)) name

-- each name once, at its first occurrence
abbrev pub distinct_names : List (List ℕ) → List (List ℕ) → List (List ℕ)
distinct_names before [] = before
distinct_names before (name ∷ names) = distinct_names (if is_among before name then before else before ++ name ∷ []) names

-- the names that have to be defined, in order of first reference: the script's imports, then those of the
-- modules
abbrev pub references : Script → Program → List (List ℕ)
references s p = distinct_names [] (symbol_imports s.symbols ++ flat_map (λ m. m.imports) p.members)

abbrev pub unresolved_names : Script → Program → List (List ℕ)
unresolved_names s p = filter (λ name. not (is_defined_name s p name)) (references s p)

-- the names that are imported and that neither the script nor a module defines so far, weak names aside;
-- libraries are searched for them
abbrev pub open_names : Script → Program → List (List ℕ)
open_names s p = filter (λ name. not (is_among (strong_names s p) name)) (references s p)

-- ---- The provider of a name.

abbrev pub script_provider_or : List ScriptSymbol → Option ℕ → Provider → Provider
script_provider_or ds (Some i) other = ByScript (option_map_or (λ d. d.value) (slice_get ds i) (pos 0))
script_provider_or ds None other = other

abbrev pub module_provider_or : Option ℕ → Provider → Provider
module_provider_or (Some i) other = ByModule i
module_provider_or None other = other

-- the index of the first definition of a name
abbrev pub index_of_definition : List ScriptSymbol → List ℕ → Option ℕ
index_of_definition ds name = position_in (map (λ d. d.name) ds) name

abbrev pub index_of_export : List ModuleExport → List ℕ → Option ℕ
index_of_export exports name = position_in (map (λ e. e.name) exports) name

-- The provider of a name: the script's own definition, else an export, by its index, else a weak name of the
-- script. No name is defined twice among the first two.
abbrev pub provider_of : List ScriptSymbol → List ModuleExport → List ScriptSymbol → List ℕ → Provider
provider_of script_symbols exports weak name =
    script_provider_or script_symbols (index_of_definition script_symbols name) (module_provider_or (index_of_export exports name) (script_provider_or weak (index_of_definition weak name) Nobody))

-- ---- A script with one more weak name, and links with the same images.

-- a script with a weak name and its value added to its other symbols
abbrev pub with_weak : Script → List ℕ → ℕ → Script
with_weak s name value = record {
  areas = s.areas;
  rows = s.rows;
  symbols = s.symbols ++ record { name = name; kind = kind.Weak value } ∷ [];
}

-- whether the script or a module imports a name
abbrev pub is_used : Script → Program → List ℕ → Bool
is_used s p name = is_among (symbol_imports s.symbols ++ flat_map (λ m. m.imports) p.members) name

-- the same files and warnings, whatever the maps are, or the same error
abbrev pub HaveSameImages : Result Linked LinkFault → Result Linked LinkFault → Type 0
HaveSameImages (Ok a) (Ok b) = (a.files ≡ b.files) × (a.warnings ≡ b.warnings)
HaveSameImages (Err e) (Err f) = e ≡ f
HaveSameImages (Ok a) (Err f) = ⊥
HaveSameImages (Err e) (Ok b) = ⊥
