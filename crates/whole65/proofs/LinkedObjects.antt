-- The linker's view of the modules of a placed program, and the bytes of their sections.
use Rattle.object65.specs.declared.object.Fragment.TheVariants as fragment
use Rattle.std.specs.Prelude.{◌≡◌, ℕ, ℤ, List, [], ◌∷◌, ◌++◌, replicate, Result, Ok, suc, Option, Some, None, if◌then◌else◌, ◌+◌, pos, nat_lt, length, slice_get, ◌<◌, nat_eq, true, ⊤, ◌↔◌}
use Rattle.object65.specs.Form.{Form}
use Rattle.object65.specs.FormValue.{value_in}
use Rattle.object65.specs.declared.object.Fragment.{Fragment}
use Rattle.semantics65.specs.Contents.{Part, Known, ReservedBytes, LinkTimeValue, Content, Declaration, ExportedSymbol, ForcedImport, LinkAssertion}
use Rattle.whole65.specs.Contents.{EncodesValue}
use Rattle.std.specs.Str.{bytes_eq}
use Rattle.object65.specs.declared.object.Section.{Section}
use Rattle.link65.specs.Programs.{Module, Segment, empty_segment, segment_with_section, Program, program_of, Cell, known, filled, deferred}
use Rattle.base65.specs.Values.{wrap_signed}
use Rattle.script65.specs.declared.placement.Placement.{Placement}
use Rattle.script65.specs.declared.script.Script.{Script}
use Rattle.link65.specs.Values.{run_of, linkage_of, exports_to_depth, import_value, Linkage, base_of, provider_at}
use Rattle.semantics65.specs.declared.contexts.Context.{Context}
use Rattle.semantics65.specs.Layout.{Layout}
use Rattle.semantics65.specs.Symbols.{Symbols}
use Rattle.whole65.specs.Modules.{definers_from, context_at, table_of}
use Rattle.whole65.specs.Objects.{LinkerView, HasValue}
use Rattle.whole65.specs.Offsets.{section_start}
use Rattle.whole65.specs.Segments.{end_of, has_section, segment_items, segment_name_at}
use Rattle.std.specs.List.{AllByRecursion, list_any}
use Rattle.semantics65.specs.Numbering.{imports_in, renumbered_form, sections_in}
use Rattle.link65.specs.Names.{provider_of, script_definitions, weak_symbols}
use Rattle.link65.specs.declared.parts.Provider.{Provider}
use Rattle.link65.specs.declared.parts.Provider.TheVariants.{Nobody}
use Rattle.link65.specs.declared.parts.ValueFault.{ValueFault}
use Rattle.link65.specs.declared.parts.ValueFault.TheVariants.{NoValue}

-- ---- The bytes of sections, by the values of forms.

-- a relation of forms and their values
abbrev pub Valuing : Type 1
Valuing = Form → ℤ → Type 0

-- the values by these bases of sections and by imports resolved through chains of some number of exports
abbrev pub valued_by : {E : Type 0} → E → (ℕ → ℤ) → (ℕ → ℕ → Result ℤ E) → Valuing
valued_by none bases values f v = (export_depth : ℕ) × (value_in none bases (values export_depth) f ≡ Ok v)

-- the bytes of a part of a module's section, by the fill value of the row
abbrev pub ArePart : Valuing → ℕ → Part → List ℕ → Type 0
ArePart Has fill (Known own) bytes = bytes ≡ own
ArePart Has fill (ReservedBytes n) bytes = bytes ≡ replicate n fill
ArePart Has fill (LinkTimeValue width place f) bytes = (v : ℤ) × Has f v × EncodesValue width v bytes

-- the bytes of consecutive parts
abbrev pub AreParts : Valuing → ℕ → List Part → List ℕ → Type 0
AreParts Has fill [] bytes = bytes ≡ []
AreParts Has fill (p ∷ ps) bytes =
    (own : List ℕ) × (rest : List ℕ) × ArePart Has fill p own × AreParts Has fill ps rest × (bytes ≡ own ++ rest)

-- the bytes of a fragment of an object's section
abbrev pub IsFragment : Valuing → ℕ → Fragment → List ℕ → Type 0
IsFragment Has fill (fragment.Literal own) bytes = bytes ≡ own
IsFragment Has fill (fragment.Fill n) bytes = bytes ≡ replicate n fill
IsFragment Has fill (fragment.Value width origin f) bytes = (v : ℤ) × Has f v × EncodesValue width v bytes

abbrev pub AreFragments : Valuing → ℕ → List Fragment → List ℕ → Type 0
AreFragments Has fill [] bytes = bytes ≡ []
AreFragments Has fill (f ∷ fs) bytes =
    (own : List ℕ) × (rest : List ℕ) × IsFragment Has fill f own × AreFragments Has fill fs rest × (bytes ≡ own ++ rest)

-- ---- The growth of one segment of a link.

abbrev pub or_empty : List ℕ → Option Segment → Segment
or_empty name None = empty_segment name
or_empty name (Some g) = g

-- the segment `name` after the sections of a module are appended
abbrev pub after_sections : ℕ → List ℕ → Option Segment → List Section → Option Segment
after_sections owner name g [] = g
after_sections owner name g (s ∷ ss) =
    after_sections owner name (if bytes_eq s.name name then Some (segment_with_section owner (or_empty s.name g) s) else g) ss

-- the segment after the sections of these modules; the first module has the index `owner`
abbrev pub after_modules : ℕ → List ℕ → Option Segment → List Module → Option Segment
after_modules owner name g [] = g
after_modules owner name g (m ∷ ms) = after_modules (suc owner) name (after_sections owner name g m.object.sections) ms

-- ---- The linker's view of a placed program.

abbrev pub no_symbols : Symbols
no_symbols = record { definitions = []; scopes = []; imports = []; zero_page = [] }

abbrev pub symbols_at : Option Layout → Symbols
symbols_at None = no_symbols
symbols_at (Some y) = table_of y

abbrev pub nowhere : Context
nowhere = record { scope = 0; opened = 0; region = 0; unnamed = 0; segment = 0; offset = 0 }

abbrev pub context_in : Option Layout → ℕ → Context
context_in None index = nowhere
context_in (Some y) index = context_at y index

abbrev pub or_first : Option ℕ → ℕ
or_first None = 0
or_first (Some index) = index

-- the index of the statement that contains a definition
abbrev pub definer_in : Option Layout → ℕ → ℕ
definer_in None definition = 0
definer_in (Some y) definition = or_first (slice_get (definers_from 0 y.laid) definition)

-- the position at which the section of a module begins; without a section, the end of the segment
abbrev pub begin_in : List Layout → ℕ → Layout → List ℕ → ℕ
begin_in ys owner y name = if has_section y name then section_start ys name owner else end_of 0 (segment_items ys name)

abbrev pub base_in : Script → Placement → List Layout → ℕ → ℕ → Option Layout → ℤ
base_in s p ys owner g None = pos 0
base_in s p ys owner g (Some y) =
    if nat_lt g (length y.cursor.segments)
    then wrap_signed (pos (run_of s.rows p.rows (segment_name_at y g) + begin_in ys owner y (segment_name_at y g)))
    else pos 0

-- the linker's view, by the values of imports
abbrev pub objects_of : {E : Type 0} → E → (ℕ → ℕ → ℕ → Result ℤ E) → Script → Placement → List Layout → LinkerView E
objects_of none imports s p ys = record {
  no_value_error = none;
  symbols = λ owner. symbols_at (slice_get ys owner);
  contexts = λ owner index. context_in (slice_get ys owner) index;
  definers = λ owner definition. definer_in (slice_get ys owner) definition;
  bases = λ owner g. base_in s p ys owner g (slice_get ys owner);
  imports = imports;
}

-- ---- The values of imports.

abbrev pub provider_named : Script → Placement → Program → Option (List ℕ) → Provider
provider_named s placement q None = Nobody
provider_named s placement q (Some name) = provider_of (script_definitions s placement) q.exports (weak_symbols s.symbols) name

-- the value of an import of a module, through chains of at most `export_depth` exports
abbrev pub imports_linked : Script → Placement → List Layout → List Module → ℕ → ℕ → ℕ → Result ℤ ValueFault
imports_linked s placement ys ms export_depth owner k =
    import_value (exports_to_depth (linkage_of s (program_of ms) placement) export_depth) (provider_named s placement (program_of ms) (slice_get (symbols_at (slice_get ys owner)).imports k))

-- the linker's view of the modules of sources
abbrev pub linked_objects : Script → Placement → List Layout → List Module → LinkerView ValueFault
linked_objects s placement ys ms = objects_of NoValue (imports_linked s placement ys ms) s placement ys

-- ---- Keys of forms.

-- the sections and imports of a form have numbers in the object
pub record IsKeyed (sections imports : List ℕ) (count : ℕ) (f : Form) : Type 0 where
  pub own_sections : AllByRecursion (λ g. list_any (nat_eq g) sections ≡ true) (sections_in f)
  pub own_imports : AllByRecursion (λ k. (list_any (nat_eq k) imports ≡ true) × (k < count)) (imports_in f)

abbrev pub IsKeyedPart : (sections imports : List ℕ) → ℕ → Part → Type 0
IsKeyedPart sections imports count (Known own) = ⊤
IsKeyedPart sections imports count (ReservedBytes n) = ⊤
IsKeyedPart sections imports count (LinkTimeValue width place f) = IsKeyed sections imports count f

abbrev pub IsKeyedSaid : (sections imports : List ℕ) → ℕ → Declaration → Type 0
IsKeyedSaid sections imports count (ExportedSymbol name place f) = IsKeyed sections imports count f
IsKeyedSaid sections imports count (ForcedImport name) = ⊤
IsKeyedSaid sections imports count (LinkAssertion act place words f) = IsKeyed sections imports count f

pub record IsKeyedContent (sections imports : List ℕ) (count : ℕ) (c : Content) : Type 0 where
  pub parts : AllByRecursion (IsKeyedPart sections imports count) c.parts
  pub said : AllByRecursion (IsKeyedSaid sections imports count) c.said

-- ---- The bytes of a segment's cells, by the values of forms.

-- the value of a form of a linked module, through chains of some number of exports
abbrev pub linked_value : Linkage → ℕ → Valuing
linked_value l owner =
    valued_by NoValue (base_of (slice_get l.modules owner)) (λ export_depth j. import_value (exports_to_depth l export_depth) (provider_at (slice_get l.modules owner) j))

abbrev pub IsCell : Linkage → ℕ → Cell → List ℕ → Type 0
IsCell l fill (known b) bytes = bytes ≡ b ∷ []
IsCell l fill filled bytes = bytes ≡ fill ∷ []
IsCell l fill (deferred w) bytes = (v : ℤ) × linked_value l w.owner w.form v × EncodesValue w.width v bytes

abbrev pub AreCells : Linkage → ℕ → List Cell → List ℕ → Type 0
AreCells l fill [] bytes = bytes ≡ []
AreCells l fill (c ∷ cs) bytes =
    (own : List ℕ) × (rest : List ℕ) × IsCell l fill c own × AreCells l fill cs rest × (bytes ≡ own ++ rest)

-- the form of a deferred part has the same values in the module and, renumbered, in the link
abbrev pub IsValuedIn : {E : Type 0} → LinkerView E → Linkage → ℕ → (sections imports : List ℕ) → Part → Type 0
IsValuedIn o l owner sections imports (Known own) = ⊤
IsValuedIn o l owner sections imports (ReservedBytes n) = ⊤
IsValuedIn o l owner sections imports (LinkTimeValue width place f) =
    (v : ℤ) → HasValue o owner f v ↔ linked_value l owner (renumbered_form sections imports f) v

-- the cells of a segment, if there is one
abbrev pub cells_or : Option Segment → List Cell
cells_or None = []
cells_or (Some g) = g.cells
