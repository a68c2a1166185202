-- Programs: modules in order, and their contributions to segments.
use Rattle.std.specs.Prelude.{ℕ, List, [], ◌∷◌, ◌++◌, Option, ◌+◌, ◌-◌, ◌^◌, max, map, replicate, find, if◌then◌else◌, length}
use Rattle.std.specs.List.{position_from, flat_map}
use Rattle.std.specs.Str.{bytes_eq}
use Rattle.object65.specs.declared.object.Object.{Object}
use Rattle.std.specs.Option.{option_map_or}
use Rattle.object65.specs.declared.object.Section.{Section}
use Rattle.object65.specs.declared.object.Fragment.{Fragment}
use Rattle.object65.specs.declared.object.Fragment.TheVariants.{Literal, Fill, Value}
use Rattle.object65.specs.Objects.{section_len}
use Rattle.script65.specs.Placing.{rounded_up}
use Rattle.link65.specs.declared.parts.ValueFixup.{ValueFixup}
use Rattle.link65.specs.declared.parts.SectionPosition.{SectionPosition}
use Rattle.object65.specs.declared.object.Assert.{Assert}
use Rattle.object65.specs.declared.object.Export.{Export}
use Rattle.link65.specs.declared.parts.ModuleAssertion.{ModuleAssertion}
use Rattle.link65.specs.declared.parts.ModuleExport.{ModuleExport}
use Rattle.link65.specs.declared.parts.LinkedModule.{LinkedModule}

-- ---- Lists item by item, and indices by name.

-- the concatenated results for the items of two lists at equal indices
abbrev pub flat_zip : {A B C : Type 0} → (A → B → List C) → List A → List B → List C
flat_zip f (x ∷ xs) (y ∷ ys) = f x y ++ flat_zip f xs ys
flat_zip f [] ys = []
flat_zip f (x ∷ xs) [] = []

-- the index of the first of the names that equals a name
abbrev pub position_in : List (List ℕ) → List ℕ → Option ℕ
position_in names name = position_from (λ n. bytes_eq n name) 0 names

-- ---- Modules.

-- an object, and the name of its module
pub record Module : Type 0 where
  pub name : List ℕ
  pub object : Object

-- ---- The contents of segments: each module's section after those of the modules before it.

-- a part of a segment: a byte that is known, a byte of the fill value, or a value that needs addresses
pub data Cell : Type 0 where
  known : ℕ → Cell
  filled : Cell
  deferred : ValueFixup → Cell

-- a segment's size, the largest alignment of its sections, and its contents from its start on
pub record Segment : Type 0 where
  pub name : List ℕ
  pub size : ℕ
  pub align : ℕ
  pub cells : List Cell

abbrev pub empty_segment : List ℕ → Segment
empty_segment name = record { name = name; size = 0; align = 1; cells = [] }

-- the cells of a fragment of the module at an index, in its segment
abbrev pub fragment_cells : ℕ → Fragment → List Cell
fragment_cells owner (Literal bytes) = map known bytes
fragment_cells owner (Fill n) = replicate n filled
fragment_cells owner (Value width origin form) = deferred (record { owner = owner; width = width; origin = origin; form = form }) ∷ []

abbrev pub align_of : Section → ℕ
align_of s = 2 ^ s.align

-- the offset of a section: the least multiple of its alignment that isn't below the end before it
abbrev pub begin_after : ℕ → Section → ℕ
begin_after end s = rounded_up end (align_of s)

-- a segment with one more section
abbrev pub segment_with_section : ℕ → Segment → Section → Segment
segment_with_section owner g s = record {
  name = g.name;
  size = begin_after g.size s + section_len s;
  align = max g.align (align_of s);
  cells = g.cells ++ replicate (begin_after g.size s - g.size) filled ++ flat_map (fragment_cells owner) s.fragments;
}

-- segments with one more section in the one of its name, which is added at the end if it is missing
abbrev pub with_section : ℕ → List Segment → Section → List Segment
with_section owner [] s = segment_with_section owner (empty_segment s.name) s ∷ []
with_section owner (g ∷ gs) s = if bytes_eq g.name s.name then segment_with_section owner g s ∷ gs else g ∷ with_section owner gs s

abbrev pub with_sections : ℕ → List Segment → List Section → List Segment
with_sections owner gs [] = gs
with_sections owner gs (s ∷ ss) = with_sections owner (with_section owner gs s) ss

-- the segment of a name, if there is one
abbrev pub segment_of : List Segment → List ℕ → Option Segment
segment_of gs name = find (λ g. bytes_eq g.name name) gs

abbrev pub end_of : List Segment → List ℕ → ℕ
end_of gs name = option_map_or (λ g. g.size) (segment_of gs name) 0

-- the position of a section in its segment, after the earlier sections
abbrev pub section_position : List Segment → Section → SectionPosition
section_position gs s = record { segment = s.name; offset = begin_after (end_of gs s.name) s; size = section_len s }

abbrev pub section_positions : ℕ → List Segment → List Section → List SectionPosition
section_positions owner gs [] = []
section_positions owner gs (s ∷ ss) = section_position gs s ∷ section_positions owner (with_section owner gs s) ss

-- ---- The modules before placement: all that a link needs of them.

-- A member has a module's name, the positions of its sections in their segments, the names that it imports, and those
-- of its files. An owner is a member's index.
pub record Program : Type 0 where
  pub members : List LinkedModule
  pub segments : List Segment
  pub exports : List ModuleExport
  pub asserts : List ModuleAssertion

abbrev pub no_program : Program
no_program = record { members = []; segments = []; exports = []; asserts = [] }

abbrev pub linked_export : ℕ → Export → ModuleExport
linked_export owner e = record { owner = owner; name = e.name; origin = e.origin; form = e.form }

abbrev pub linked_assertion : ℕ → Assert → ModuleAssertion
linked_assertion owner a = record { owner = owner; action = a.action; origin = a.origin; text = a.text; form = a.form }

abbrev pub member : Program → Module → LinkedModule
member p m = record {
  name = m.name;
  sections = section_positions (length p.members) p.segments m.object.sections;
  imports = m.object.imports;
  files = m.object.files;
}

-- a program with one more module
abbrev pub with_module : Program → Module → Program
with_module p m = record {
  members = p.members ++ member p m ∷ [];
  segments = with_sections (length p.members) p.segments m.object.sections;
  exports = p.exports ++ map (linked_export (length p.members)) m.object.exports;
  asserts = p.asserts ++ map (linked_assertion (length p.members)) m.object.asserts;
}

abbrev pub with_modules : Program → List Module → Program
with_modules p [] = p
with_modules p (m ∷ ms) = with_modules (with_module p m) ms

abbrev pub program_of : List Module → Program
program_of ms = with_modules no_program ms
