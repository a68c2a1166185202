-- The result of a link, with its checks in order.
use Rattle.std.specs.Prelude.{ℕ, ℤ, pos, List, [], ◌∷◌, ◌++◌, slice_get, Option, Some, None, Result, Ok, Err, if◌then◌else◌, ◌≡◌}
use Rattle.std.specs.List.{flat_map}
use Rattle.std.specs.Option.{option_map_or}
use Rattle.std.specs.Ordering.{int_eq}
use Rattle.base65.specs.Outcome.{◌>>=◌, AndThen}
use Rattle.base65.specs.declared.action.Action.{Action}
use Rattle.base65.specs.declared.action.Action.TheVariants as action
use Rattle.object65.specs.declared.object.Origin.{Origin}
use Rattle.object65.specs.Objects.{fits_width}
use Rattle.script65.specs.declared.script.SegmentRow.{SegmentRow}
use Rattle.link65.specs.declared.fault.LinkFault.{LinkFault}
use Rattle.link65.specs.declared.fault.LinkFault.TheVariants as fault
use Rattle.link65.specs.declared.fault.ModuleLocation.{ModuleLocation}
use Rattle.link65.specs.declared.parts.ModuleAssertion.{ModuleAssertion}
use Rattle.link65.specs.declared.parts.ModuleExport.{ModuleExport}
use Rattle.link65.specs.declared.parts.LinkedModule.{LinkedModule}
use Rattle.link65.specs.declared.parts.ValueFault.{ValueFault}
use Rattle.link65.specs.declared.parts.ValueFault.TheVariants.{Circular, NoValue, Unresolved}
use Rattle.link65.specs.declared.parts.ValueFixup.{ValueFixup}
use Rattle.link65.specs.Programs.{Cell, known, filled, deferred, Segment, segment_of, Module, Program, program_of}
use Rattle.link65.specs.Values.{Exports, Linkage, value_of_form, AreExports, table_exports, row_bytes, linkage_of, needs_of}
use Rattle.link65.specs.Texts.{assertion_warning, warnings_of_rows, map_text}
use Rattle.script65.specs.Placing.{place_of}
use Rattle.script65.specs.declared.placement.PlaceFault.{PlaceFault}
use Rattle.script65.specs.declared.placement.Placement.{Placement}
use Rattle.script65.specs.declared.script.Script.{Script}
use Rattle.link65.specs.declared.linking.Linked.{Linked}
use Rattle.base65.specs.declared.output.OutputFile.{OutputFile}
use Rattle.link65.specs.Files.{AddsAreas, IsAreaFile}
use Rattle.link65.specs.Names.{first_duplicate, strong_names, unresolved_names}

-- ---- Errors after placement: of the values of data, exports and assertions, in this order.

-- checks each item in turn, up to the first error
abbrev pub check_each : {A : Type 0} → (A → Result (Unit {0}) LinkFault) → List A → Result (Unit {0}) LinkFault
check_each check [] = Ok tt
check_each check (x ∷ xs) = check x >>= (λ u. check_each check xs)

-- the name of a file of a module, if there is one
abbrev pub file_of : Option LinkedModule → Option ℕ → Option (List ℕ)
file_of (Some m) (Some k) = slice_get m.files k
file_of (Some m) None = None
file_of None file = None

-- the module of a datum, an export or an assertion, its file if the object names one, and the line
abbrev pub module_location : List LinkedModule → ℕ → Origin → ModuleLocation
module_location members owner origin = record { module_name = option_map_or (λ m. m.name) (slice_get members owner) []; file = file_of (slice_get members owner) origin.file; line = origin.line }

abbrev pub value_fault : ModuleLocation → ValueFault → LinkFault
value_fault s Circular = fault.Circular s
value_fault s NoValue = fault.NoValue s
value_fault s Unresolved = fault.Unresolved []

-- a value, or its error with the location
abbrev pub located_value : ModuleLocation → Result ℤ ValueFault → Result ℤ LinkFault
located_value s (Ok v) = Ok v
located_value s (Err e) = Err (value_fault s e)

-- ---- Data.

abbrev pub fixups_in : Cell → List ValueFixup
fixups_in (known b) = []
fixups_in filled = []
fixups_in (deferred w) = w ∷ []

abbrev pub fixups_of : Option Segment → List ValueFixup
fixups_of None = []
fixups_of (Some g) = flat_map fixups_in g.cells

-- the values that need addresses, in the order of rows, modules and fragments
abbrev pub fixups_by_row : List SegmentRow → List Segment → List ValueFixup
fixups_by_row rows segments = flat_map (λ r. fixups_of (segment_of segments r.name)) rows

abbrev pub check_fits : ModuleLocation → ValueFixup → ℤ → Result (Unit {0}) LinkFault
check_fits s w v = if fits_width w.width v then Ok tt else Err (fault.OutOfRange s)

-- checks that the value of a fixup exists and fits
abbrev pub check_fixup : Linkage → List LinkedModule → Exports → ValueFixup → Result (Unit {0}) LinkFault
check_fixup l members exports w =
    located_value (module_location members w.owner w.origin) (value_of_form l exports w.owner w.form) >>= check_fits (module_location members w.owner w.origin) w

-- ---- Exports, each used or not.

abbrev pub check_export : Linkage → List LinkedModule → Exports → ModuleExport → Result (Unit {0}) LinkFault
check_export l members exports e =
    located_value (module_location members e.owner e.origin) (value_of_form l exports e.owner e.form) >>= (λ v. Ok tt)

-- ---- Assertions.

-- the warning of an assertion that has a value, empty if it holds; or its error
abbrev pub assertion_result : ModuleLocation → Action → List ℕ → ℤ → Result (List ℕ) LinkFault
assertion_result s action.Warning text v = if int_eq v (pos 0) then Ok (assertion_warning s text) else Ok []
assertion_result s action.Error text v = if int_eq v (pos 0) then Err (fault.Assertion s text) else Ok []

abbrev pub check_assert : Linkage → List LinkedModule → Exports → ModuleAssertion → Result (List ℕ) LinkFault
check_assert l members exports a =
    located_value (module_location members a.owner a.origin) (value_of_form l exports a.owner a.form) >>= assertion_result (module_location members a.owner a.origin) a.action a.text

-- the warnings of assertions, in order, or the first error
abbrev pub check_asserts : Linkage → List LinkedModule → Exports → List ModuleAssertion → Result (List ℕ) LinkFault
check_asserts l members exports [] = Ok []
check_asserts l members exports (a ∷ rest) =
    check_assert l members exports a >>= (λ text. check_asserts l members exports rest >>= (λ more. Ok (text ++ more)))

-- ---- Errors that come before those of values, in this order.

abbrev pub none_duplicate : Option (List ℕ) → Result (Unit {0}) LinkFault
none_duplicate None = Ok tt
none_duplicate (Some name) = Err (fault.DuplicateExport name)

-- checks that no name is defined twice
abbrev pub check_unique_names : Script → Program → Result (Unit {0}) LinkFault
check_unique_names s p = none_duplicate (first_duplicate [] (strong_names s p))

abbrev pub none_unresolved : List (List ℕ) → Result (Unit {0}) LinkFault
none_unresolved [] = Ok tt
none_unresolved (name ∷ names) = Err (fault.Unresolved (name ∷ names))

-- checks that each imported name is defined
abbrev pub check_imports_defined : Script → Program → Result (Unit {0}) LinkFault
check_imports_defined s p = none_unresolved (unresolved_names s p)

abbrev pub as_placement : Result Placement PlaceFault → Result Placement LinkFault
as_placement (Ok p) = Ok p
as_placement (Err e) = Err (fault.Place e)

-- the placement of a program's segments
abbrev pub placement_result : Script → Program → Result Placement LinkFault
placement_result s p = check_imports_defined s p >>= (λ u. as_placement (place_of s (needs_of p)))

-- ---- Values, given those of exports.

-- checks data, exports and assertions, in this order: the warnings of assertions, or the first error
abbrev pub check_result : Script → Program → Linkage → Exports → Result (List ℕ) LinkFault
check_result s p l exports =
    check_each (check_fixup l p.members exports) (fixups_by_row s.rows p.segments)
    >>= (λ u. check_each (check_export l p.members exports) p.exports)
    >>= (λ u. check_asserts l p.members exports p.asserts)

-- the files of a placed program
abbrev pub AreFiles : List ℕ → Script → Program → Placement → Linkage → Exports → List OutputFile → Type 0
AreFiles output s p placement l exports files =
    AddsAreas output (IsAreaFile s.rows placement (row_bytes l exports p.segments)) 0 s.areas [] files

-- the result of a placed program that passes all checks, with these warnings of assertions
abbrev pub IsSuccessfulLink : List ℕ → Script → Program → Placement → Linkage → Exports → List ℕ → Result Linked LinkFault → Type 0
IsSuccessfulLink output s p placement l exports warnings r =
    (files : List OutputFile) × AreFiles output s p placement l exports files
    × (r ≡ Ok (record { files = files; warnings = warnings_of_rows s.rows p.segments ++ warnings; map = map_text s p placement l exports }))

-- the results of a placed program, given the values of its exports
abbrev pub IsEvaluatedLink : List ℕ → Script → Program → Placement → Linkage → Exports → Result Linked LinkFault → Type 0
IsEvaluatedLink output s p placement l exports r = AndThen (check_result s p l exports) (IsSuccessfulLink output s p placement l exports) r

abbrev pub IsPlacedLink : List ℕ → Script → Program → Placement → Result Linked LinkFault → Type 0
IsPlacedLink output s p placement r =
    (table : List (Result ℤ ValueFault)) × AreExports (linkage_of s p placement) table × IsEvaluatedLink output s p placement (linkage_of s p placement) (table_exports table) r

-- the result of a program none of whose names is defined twice
abbrev pub IsProgramLink : List ℕ → Script → Program → Result Linked LinkFault → Type 0
IsProgramLink output s p r = AndThen (placement_result s p) (IsPlacedLink output s p) r

-- The result of linking modules by a script: the linked files, or the first error.
abbrev pub LinkOf : List ℕ → Script → List Module → Result Linked LinkFault → Type 0
LinkOf output s modules r =
    AndThen (check_unique_names s (program_of modules)) (λ u. IsProgramLink output s (program_of modules)) r
