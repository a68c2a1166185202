-- A program to which a module is added item by item.
use Rattle.std.specs.Prelude.{◌≡◌, ℕ, ◌+◌, List, [], ◌∷◌, ◌++◌, length, map, slice_get, slice_set, Option, Some, None, Ok, if◌then◌else◌}
use Rattle.std.specs.Str.{bytes_eq}
use Rattle.object65.specs.declared.record.Item.{Item}
use Rattle.object65.specs.declared.record.Item.TheVariants as item
use Rattle.object65.specs.declared.object.Fragment.{Fragment}
use Rattle.object65.specs.declared.object.Section.{Section}
use Rattle.object65.specs.Objects.{fragment_len}
use Rattle.object65.specs.Items.{with_item}
use Rattle.object65.specs.Record.{RawRecord}
use Rattle.object65.specs.Scanning.{Outline, outline_of, scan_step, IsReached, State, object_from, section_from, start}
use Rattle.link65.specs.declared.parts.SectionPosition.{SectionPosition}
use Rattle.link65.specs.Programs.{Module, Program, linked_assertion, linked_export, with_module, Cell, Segment, fragment_cells, section_position, section_positions, with_section, with_sections}

-- The program of the modules before the open one, with the open one's contributions to segments, exports and
-- assertions so far; the positions of its sections, its imports, and the names of its files.
pub record PartialProgram : Type 0 where
  pub program : Program
  pub sections : List SectionPosition
  pub imports : List (List ℕ)
  pub files : List (List ℕ)

-- ---- From the part of a module that has been read.

abbrev pub sections_in : State → List Section
sections_in s = map section_from s.drafts

-- a program followed by the part of a module that has been read
abbrev pub partial_program_of : Program → State → PartialProgram
partial_program_of p s = record {
  program = record {
    members = p.members;
    segments = with_sections (length p.members) p.segments (sections_in s);
    exports = p.exports ++ map (linked_export (length p.members)) s.exports;
    asserts = p.asserts ++ map (linked_assertion (length p.members)) s.asserts;
  };
  sections = section_positions (length p.members) p.segments (sections_in s);
  imports = s.imports;
  files = s.files;
}

-- a program without an open module
abbrev pub without_open_module : Program → PartialProgram
without_open_module p = record { program = p; sections = []; imports = []; files = [] }

-- the program after the open module has ended, which has this name
abbrev pub closed_program : PartialProgram → List ℕ → Program
closed_program g name = record g.program { members = g.program.members ++ (record { name = name; sections = g.sections; imports = g.imports; files = g.files }) ∷ [] }

-- a module of this name and of the object that has been read so far
abbrev pub module_from : List ℕ → State → Module
module_from name s = record { name = name; object = object_from s }

-- ---- From items.

-- a section that has no fragment yet
abbrev pub empty_section : List ℕ → ℕ → Section
empty_section name align = record { name = name; align = align; fragments = [] }

-- a segment with this many more bytes
abbrev pub with_cells : ℕ → List Cell → Segment → Segment
with_cells len cells g = record { name = g.name; size = g.size + len; align = g.align; cells = g.cells ++ cells }

-- segments with this many more bytes in the one of this name
abbrev pub with_segment_cells : List ℕ → ℕ → List Cell → List Segment → List Segment
with_segment_cells name len cells [] = []
with_segment_cells name len cells (g ∷ gs) = if bytes_eq g.name name then with_cells len cells g ∷ gs else g ∷ with_segment_cells name len cells gs

abbrev pub with_added_size : SectionPosition → ℕ → SectionPosition
with_added_size p len = record { segment = p.segment; offset = p.offset; size = p.size + len }

abbrev pub with_segments : Program → List Segment → Program
with_segments p gs = record { members = p.members; segments = gs; exports = p.exports; asserts = p.asserts }

-- a program with one more fragment of the section at an index
abbrev pub with_section_fragment : PartialProgram → ℕ → Fragment → Option SectionPosition → PartialProgram
with_section_fragment g k f None = g
with_section_fragment g k f (Some p) = record {
  program = with_segments g.program (with_segment_cells p.segment (fragment_len f) (fragment_cells (length g.program.members) f) g.program.segments);
  sections = slice_set g.sections k (with_added_size p (fragment_len f));
  imports = g.imports;
  files = g.files;
}

abbrev pub with_empty_section : PartialProgram → Section → PartialProgram
with_empty_section g s = record {
  program = with_segments g.program (with_section (length g.program.members) g.program.segments s);
  sections = g.sections ++ section_position g.program.segments s ∷ [];
  imports = g.imports;
  files = g.files;
}

-- after one more item of the open module
abbrev pub program_with_item : PartialProgram → Item → PartialProgram
program_with_item g (item.File name) = record g { files = g.files ++ name ∷ [] }
program_with_item g (item.Import name) = record g { imports = g.imports ++ name ∷ [] }
program_with_item g (item.Section name size align) = with_empty_section g (empty_section name align)
program_with_item g (item.Part k offset f) = with_section_fragment g k f (slice_get g.sections k)
program_with_item g (item.Export name origin form) =
    record g { program = record g.program { exports = g.program.exports ++ (record { owner = length g.program.members; name = name; origin = origin; form = form }) ∷ [] } }
program_with_item g (item.Assert action origin text form) =
    record g { program = record g.program { asserts = g.program.asserts ++ (record { owner = length g.program.members; action = action; origin = origin; text = text; form = form }) ∷ [] } }
program_with_item g item.End = g

-- ---- The law.

-- adding the items that a scan returns grows a program as adding the module does; after the last item the
-- module follows the others
abbrev pub ItemsBuildProgram : Type 0
ItemsBuildProgram =
    ((p : Program) (s : State) (e : RawRecord) (x : Outline × Item) → IsReached s → scan_step (outline_of s) e ≡ Ok x → partial_program_of p (with_item s x.1) ≡ program_with_item (partial_program_of p s) x.1)
    × ((p : Program) (version : ℕ) → partial_program_of p (start version) ≡ without_open_module p)
    × ((p : Program) (name : List ℕ) (s : State) → closed_program (partial_program_of p s) name ≡ with_module p (module_from name s))
