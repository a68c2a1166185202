-- The code's representation of a program while its modules are fed.
use Rattle.std.specs.Prelude.{List, map, replicate, [], ◌∷◌, ◌≡◌, ◌≤◌, ℕ, ◌++◌, position, Option, Some, if◌then◌else◌, ⊤}
use Rattle.std.specs.List.{flat_map}
use Rattle.link65.specs.declared.parts.SegmentContent.{SegmentContent}
use Rattle.link65.specs.declared.parts.SegmentPiece.{SegmentPiece}
use Rattle.link65.specs.declared.parts.SegmentPiece.TheVariants.{Known, Filled, Deferred}
use Rattle.link65.specs.declared.parts.ValueFixup.{ValueFixup}
use Rattle.link65.specs.Links.{fixups_in}
use Rattle.link65.specs.Programs.{Cell, known, filled, deferred, Segment, empty_segment, Program}
use Rattle.std.specs.Str.{bytes_eq}
use Rattle.object65.specs.declared.record.Item.{Item}
use Rattle.object65.specs.declared.record.Item.TheVariants as item
use Rattle.link65.specs.declared.building.ProgramBuilder.{ProgramBuilder}
use Rattle.link65.specs.Growing.{PartialProgram, with_segments}

-- ---- The representation of segments, by pieces in place of single cells.

abbrev pub piece_cells : SegmentPiece → List Cell
piece_cells (Known bytes) = map known bytes
piece_cells (Filled n) = replicate n filled
piece_cells (Deferred w) = deferred w ∷ []

abbrev pub cells_of : List SegmentPiece → List Cell
cells_of pieces = flat_map piece_cells pieces

-- the values of a piece that need addresses
abbrev pub piece_fixups : SegmentPiece → List ValueFixup
piece_fixups p = flat_map fixups_in (piece_cells p)

abbrev pub segment_from : SegmentContent → Segment
segment_from c = record { name = c.name; size = c.size; align = c.align; cells = cells_of c.pieces }

abbrev pub segments_from : List SegmentContent → List Segment
segments_from cs = map segment_from cs

-- ---- The representation of a program while its modules are fed.

-- a segment followed by bytes of the fill value, which its size doesn't include yet
abbrev pub with_gap : ℕ → Segment → Segment
with_gap gap g = record { name = g.name; size = g.size; align = g.align; cells = g.cells ++ replicate gap filled }

abbrev pub partial_program_in : ProgramBuilder → PartialProgram
partial_program_in g = record {
  program = record { members = g.members; segments = segments_from g.contents.items; exports = g.exports; asserts = g.asserts };
  sections = g.sections.items;
  imports = g.imports;
  files = g.files;
}

abbrev pub program_in : ProgramBuilder → Program
program_in g = (partial_program_in g).program

-- the index of the segment of a name
abbrev pub segment_index : List ℕ → List (List ℕ) → Option ℕ
segment_index name names = position (λ n. bytes_eq name n) names

abbrev pub names_in : ProgramBuilder → List (List ℕ)
names_in g = map (λ n. n.items) g.names.keys

-- segments are found by their names, and those of the open module's sections by their indices
pub record NamesResolve (g : ProgramBuilder) : Type 0 where
  pub names : names_in g ≡ map (λ c. c.name) g.contents.items
  pub sections : map (λ s. segment_index s.segment (names_in g)) g.sections.items ≡ map Some g.segment_indices.items

-- the builder represents this partial program, and its segments are found
pub record RepresentsPartialProgram (g : ProgramBuilder) (new : PartialProgram) : Type 0 where
  pub partial : partial_program_in g ≡ new
  pub named : NamesResolve g

-- the alignment of a section is one that an object may have
abbrev pub HasValidAlignment : Item → Type 0
HasValidAlignment (item.Section name size align) = align ≤ 15
HasValidAlignment (item.File name) = ⊤
HasValidAlignment (item.Import name) = ⊤
HasValidAlignment (item.Part k offset f) = ⊤
HasValidAlignment (item.Export name origin form) = ⊤
HasValidAlignment (item.Assert action origin text form) = ⊤
HasValidAlignment item.End = ⊤

-- the segments, with an empty one of this name added if there is none
abbrev pub with_name : List ℕ → List Segment → List Segment
with_name name [] = empty_segment name ∷ []
with_name name (g ∷ gs) = if bytes_eq g.name name then g ∷ gs else g ∷ with_name name gs

abbrev pub with_partial_segments : PartialProgram → List Segment → PartialProgram
with_partial_segments g gs = record { program = with_segments g.program gs; sections = g.sections; imports = g.imports; files = g.files }
