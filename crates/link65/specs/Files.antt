-- The files of areas.
use Rattle.std.specs.Prelude.{◌≡◌, ℕ, ◌+◌, ◌-◌, ◌<◌, ◌==◌, ◌&&◌, Bool, true, false, if◌then◌else◌, List, [], ◌∷◌, ◌++◌, length, get_or, slice_get, nat_le, nat_lt, unwrap_or}
use Rattle.std.specs.Str.{bytes_eq, is_utf8}
use Rattle.script65.specs.Placing.{is_written}
use Rattle.script65.specs.declared.script.MemoryArea.{MemoryArea}
use Rattle.script65.specs.declared.script.AreaOutput.{AreaOutput}
use Rattle.script65.specs.declared.script.AreaOutput.TheVariants as file
use Rattle.script65.specs.declared.script.SegmentRow.{SegmentRow}
use Rattle.base65.specs.declared.output.OutputFile.{OutputFile}
use Rattle.script65.specs.declared.placement.AreaPlacement.{AreaPlacement}
use Rattle.script65.specs.declared.placement.Placement.{Placement}
use Rattle.script65.specs.declared.placement.RowPlacement.{RowPlacement}

-- ---- The contents of an area's file.

-- bytes, and their offset in the file
pub record RowPiece : Type 0 where
  pub offset : ℕ
  pub bytes : List ℕ

-- a row and its placement
pub record PlacedRow : Type 0 where
  pub row : SegmentRow
  pub placement : RowPlacement

-- whether a row's bytes are in the file of the area at an index of the script
abbrev pub is_loaded : ℕ → SegmentRow → Bool
is_loaded k r = r.load == k && is_written r.access

-- the rows in the file of the area at an index of the script, in the script's order
abbrev pub loaded_in : ℕ → List SegmentRow → List RowPlacement → List PlacedRow
loaded_in k (r ∷ rs) (p ∷ ps) = if is_loaded k r then record { row = r; placement = p } ∷ loaded_in k rs ps else loaded_in k rs ps
loaded_in k [] ps = []
loaded_in k (r ∷ rs) [] = []

-- the offset from an area's start at which a row is loaded
abbrev pub offset_of : ℕ → PlacedRow → ℕ
offset_of start p = p.placement.load - start

-- the bytes of rows
abbrev pub RowBytes : Type 0
RowBytes = SegmentRow → List ℕ

-- the bytes of a row that is written, none of any other row
abbrev pub written_row_bytes : RowBytes → RowBytes
written_row_bytes bytes r = if is_written r.access then bytes r else []

abbrev pub area_pieces : ℕ → RowBytes → List PlacedRow → List RowPiece
area_pieces start bytes [] = []
area_pieces start bytes (p ∷ ps) = record { offset = offset_of start p; bytes = bytes p.row } ∷ area_pieces start bytes ps

-- the offset after the last row of a size above 0; unchanged if there is none
abbrev pub end_after : ℕ → ℕ → List PlacedRow → ℕ
end_after start before [] = before
end_after start before (p ∷ ps) = end_after start (if p.placement.size == 0 then before else offset_of start p + p.placement.size) ps

-- the length of the file of an area with this placement and these rows
abbrev pub file_len : MemoryArea → AreaPlacement → List PlacedRow → ℕ
file_len a placement ps = if a.fill then placement.size else end_after placement.start 0 ps

-- whether an offset is within bytes that begin at another offset
abbrev pub is_inside : ℕ → ℕ → List ℕ → Bool
is_inside i at bytes = nat_le at i && nat_lt i (at + length bytes)

abbrev pub overlaid_byte : ℕ → ℕ → List ℕ → ℕ → ℕ
overlaid_byte i at bytes before = if is_inside i at bytes then get_or bytes (i - at) 0 else before

-- the byte at an offset: that of the last piece that covers it, or the byte before if none does
abbrev pub image_byte : List RowPiece → ℕ → ℕ → ℕ
image_byte [] i before = before
image_byte (p ∷ ps) i before = image_byte ps i (overlaid_byte i p.offset p.bytes before)

-- a file of this length: the bytes of the pieces, and the fill value in gaps
pub record IsImage (len fill : ℕ) (pieces : List RowPiece) (image : List ℕ) : Type 0 where
  pub size : length image ≡ len
  pub bytes : (i : ℕ) → i < len → get_or image i 0 ≡ image_byte pieces i fill

-- The file of a placed area, from the rows that are loaded there: its byte i is that at the address i after
-- the area's start.
abbrev pub IsFileBy : RowBytes → MemoryArea → AreaPlacement → List PlacedRow → List ℕ → Type 0
IsFileBy bytes a placement ps image = IsImage (file_len a placement ps) a.fill_value (area_pieces placement.start bytes ps) image

abbrev pub zero_placement : AreaPlacement
zero_placement = record { start = 0; size = 0; last = 0 }

-- the placement of the area at an index of the script; all 0 if there is none
abbrev pub area_at : Placement → ℕ → AreaPlacement
area_at p k = unwrap_or (slice_get p.areas k) zero_placement

-- the file of the area at an index of the script
abbrev pub IsAreaFile : List SegmentRow → Placement → RowBytes → ℕ → MemoryArea → List ℕ → Type 0
IsAreaFile rows p bytes k a image = IsFileBy bytes a (area_at p k) (loaded_in k rows p.rows) image

-- ---- Files by name.

-- the name of an area's file, given that of the linker's output; a script's names are all UTF-8
abbrev pub file_name : List ℕ → AreaOutput → List ℕ
file_name output file.Output = output
file_name output (file.Named name) = if is_utf8 name then name else []

-- bytes appended to the file of a name, or as a new file after the others
abbrev pub with_bytes : List ℕ → List ℕ → List OutputFile → List OutputFile
with_bytes name bytes [] = record { name = name; bytes = bytes } ∷ []
with_bytes name bytes (f ∷ fs) =
    if bytes_eq name f.name then record { name = f.name; bytes = f.bytes ++ bytes } ∷ fs else f ∷ with_bytes name bytes fs

-- the files after an area is added; if its file has no name, nothing is written
abbrev pub AddsArea : Bool → List ℕ → (List ℕ → Type 0) → List OutputFile → List OutputFile → Type 0
AddsArea true name IsFile before after = after ≡ before
AddsArea false name IsFile before after = (image : List ℕ) × IsFile image × (after ≡ with_bytes name image before)

-- the files after areas are added, of which the first has this index in the script
abbrev pub AddsAreas : List ℕ → (ℕ → MemoryArea → List ℕ → Type 0) → ℕ → List MemoryArea → List OutputFile → List OutputFile → Type 0
AddsAreas output IsFile k [] before after = after ≡ before
AddsAreas output IsFile k (a ∷ rest) before after =
    (mid : List OutputFile) × AddsArea (length (file_name output a.file) == 0) (file_name output a.file) (IsFile k a) before mid × AddsAreas output IsFile (k + 1) rest mid after
