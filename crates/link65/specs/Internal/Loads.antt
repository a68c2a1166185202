-- The rows of an area's file, and how they are copied into it.
use Rattle.std.specs.Prelude.{◌≡◌, ℕ, ◌<◌, List, [], ◌∷◌, length, get_or, ◌==◌, Bool, not, map, Option, Some}
use Rattle.link65.specs.Files.{RowPiece, image_byte, overlaid_byte, IsImage, PlacedRow, RowBytes, file_len, loaded_in, offset_of}
use Rattle.link65.specs.declared.files.OutputFiles.{OutputFiles}
use Rattle.script65.specs.declared.placement.AreaPlacement.{AreaPlacement}
use Rattle.script65.specs.declared.placement.RowPlacement.{RowPlacement}
use Rattle.script65.specs.declared.script.MemoryArea.{MemoryArea}
use Rattle.script65.specs.declared.script.SegmentRow.{SegmentRow}
use Rattle.link65.specs.declared.files.RowImage.{RowImage}

-- ---- Pieces that are copied into an image one after another.

-- `new` is `old` with bytes copied over it from an offset on
pub record OverlaysBytes (old : List ℕ) (at : ℕ) (bytes new : List ℕ) : Type 0 where
  pub len : length new ≡ length old
  pub each : (i : ℕ) → i < length old → get_or new i 0 ≡ overlaid_byte i at bytes (get_or old i 0)

-- `new` is `old` with all pieces copied over it, in order
pub record OverlaysPieces (pieces : List RowPiece) (old new : List ℕ) : Type 0 where
  pub len : length new ≡ length old
  pub each : (i : ℕ) → i < length old → get_or new i 0 ≡ image_byte pieces i (get_or old i 0)

-- one piece covers all of these bytes
abbrev pub IsSinglePiece : ℕ → List RowPiece → Type 0
IsSinglePiece len pieces = (p : RowPiece) × (pieces ≡ p ∷ []) × (p.offset ≡ 0) × (length p.bytes ≡ len)

-- ---- The representation of the rows of an area's file, and of the files so far.

-- a row that is placed, and its bytes
abbrev pub PlacedBytes : Type 0
PlacedBytes = PlacedRow × List ℕ

abbrev pub placed_row_of : RowImage → PlacedRow
placed_row_of l = record { row = l.row.now; placement = l.placement }

abbrev pub view : RowImage → PlacedBytes
view l = (placed_row_of l, l.bytes)

abbrev pub placed_bytes_of : RowBytes → PlacedRow → PlacedBytes
placed_bytes_of bytes p = (p, bytes p.row)

-- there are rows: those in the file of the area at an index of the script, with their bytes
abbrev pub HasRowImages : RowBytes → ℕ → List SegmentRow → List RowPlacement → Option (List RowImage) → Type 0
HasRowImages bytes k rows placements o = (m : List RowImage) × (o ≡ Some m) × (map view m ≡ map (placed_bytes_of bytes) (loaded_in k rows placements))

-- a row's piece of the file of an area that begins at `start`
abbrev pub piece_at : ℕ → PlacedBytes → RowPiece
piece_at start h = record { offset = offset_of start h.0; bytes = h.1 }

abbrev pub has_bytes : RowImage → Bool
has_bytes l = not (length l.bytes == 0)

-- the file of an area with this placement and these rows
abbrev pub IsFileOf : MemoryArea → AreaPlacement → List PlacedBytes → List ℕ → Type 0
IsFileOf a placement hs image = IsImage (file_len a placement (map (λ h. h.0) hs)) a.fill_value (map (piece_at placement.start) hs) image

-- the names are those of the files, in order
abbrev pub AreFileNames : OutputFiles → Type 0
AreFileNames f = map (λ k. k.now) f.names.keys ≡ map (λ o. o.name) f.outputs.items
