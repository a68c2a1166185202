-- The addresses of the areas and rows of a script, each determined by those before it.
use Rattle.std.specs.Prelude.{◌≡◌, ◌≢◌, ◌≤◌, ◌<◌, ℕ, ◌+◌, ◌*◌, ◌==◌, true, false, if◌then◌else◌, List, [], ◌∷◌, ◌++◌, map, length, Option, Some, None, unwrap_or, Result, Ok, Err}
use Rattle.std.specs.List.{AllByRecursion}
use Rattle.script65.specs.declared.script.MemoryArea.{MemoryArea}
use Rattle.script65.specs.declared.script.RowStart.{RowStart}
use Rattle.script65.specs.declared.script.RowStart.TheVariants as begin
use Rattle.script65.specs.declared.script.SegmentRow.{SegmentRow}
use Rattle.script65.specs.declared.script.Script.{Script}
use Rattle.script65.specs.declared.placement.AreaPlacement.{AreaPlacement}
use Rattle.script65.specs.declared.placement.RowPlacement.{RowPlacement}
use Rattle.script65.specs.declared.placement.Placement.{Placement}
use Rattle.script65.specs.declared.placement.PlaceFault.{PlaceFault}
use Rattle.script65.specs.declared.placement.PlaceFault.TheVariants.{NoRow, ReadOnlyArea, StartBelow, Overflow}
use Rattle.script65.specs.declared.placement.SegmentNeed.{SegmentNeed}
use Rattle.script65.specs.declared.placing.row_placing.Bounds.{Bounds}
use Rattle.script65.specs.AreaSums.{SumContextView, bounds_in}
use Rattle.script65.specs.Placing.{has_row, is_in, is_read_only, place_of, size_of}

-- an area and its placement, a row and its placement
abbrev pub PlacedArea : Type 0
PlacedArea = MemoryArea × AreaPlacement

abbrev pub PlacedRow : Type 0
PlacedRow = SegmentRow × RowPlacement

-- ---- The end of the rows before a row.

-- the address of a row in the area at an index of the script: its run address if it runs there, otherwise its load address
abbrev pub address_in : ℕ → SegmentRow → RowPlacement → ℕ
address_in k r p = if r.run == k then p.run else p.load

-- the ends of those of these rows that are in the area
abbrev pub ends_in : ℕ → List PlacedRow → List ℕ
ends_in k [] = []
ends_in k (x ∷ xs) = if is_in k x.0 then (address_in k x.0 x.1 + x.1.size) ∷ ends_in k xs else ends_in k xs

-- the last of these, or this one if there is none
abbrev pub last_or : ℕ → List ℕ → ℕ
last_or n [] = n
last_or n (m ∷ ms) = last_or m ms

-- the end of these rows of an area: that of the last one, or the area's start if there is none
abbrev pub end_of_rows : ℕ → Bounds → List PlacedRow → ℕ
end_of_rows k b rows = last_or b.start (ends_in k rows)

-- ---- The address at which a row begins.

-- an alignment of 0 counts as 1; no script that was read has one
abbrev pub unit_of : ℕ → ℕ
unit_of align = if align == 0 then 1 else align

-- The least multiple of a unit that isn't below an address.
pub record IsLeastMultiple (unit low at : ℕ) : Type 0 where
  pub alignment : (n : ℕ) × (at ≡ n * unit)
  pub high : low ≤ at
  pub least : (n : ℕ) → low ≤ n * unit → at ≤ n * unit

-- at its `start`, or at the area's start plus its `offset`, or at the least multiple of its `align` that isn't below `low`
abbrev pub IsRunAddress : RowStart → ℕ → Bounds → ℕ → ℕ → Type 0
IsRunAddress (begin.Start n) align b low at = at ≡ n
IsRunAddress (begin.Offset n) align b low at = at ≡ b.start + n
IsRunAddress begin.Aligned align b low at = IsLeastMultiple (unit_of align) low at

-- The address of a row after others that end at `low`: the aligned or given address in its run area; in a
-- load area that differs, the least multiple of its `align_load` that isn't below `low`.
pub record IsRowAddress (k : ℕ) (b : Bounds) (r : SegmentRow) (low at : ℕ) : Type 0 where
  pub runs : r.run ≡ k → IsRunAddress r.begin r.align b low at
  pub loads : r.run ≢ k → IsLeastMultiple (unit_of r.align_load) low at

-- a row of this size begins at such an address, not below the end of the rows before it, and ends within the area
pub record FitsArea (k : ℕ) (b : Bounds) (r : SegmentRow) (size low at : ℕ) : Type 0 where
  pub begins : IsRowAddress k b r low at
  pub following : low ≤ at
  pub within : at + size ≤ b.end

-- the address of a row that a module has; any other row is placed at the end of those before it
abbrev pub IsAddressForSize : ℕ → Bounds → SegmentRow → Option ℕ → ℕ → ℕ → Type 0
IsAddressForSize k b r (Some size) low at = FitsArea k b r size low at
IsAddressForSize k b r None low at = at ≡ low

-- only read-only rows run in a read-only area
abbrev pub CanRun : ℕ → MemoryArea → SegmentRow → Type 0
CanRun k a r = a.read_only ≡ true → r.run ≡ k → is_read_only r.access ≡ true

-- a row of an area, with its size if a module has it, at an address after rows that end at `low`
pub record IsPlacedAt (k : ℕ) (a : MemoryArea) (b : Bounds) (r : SegmentRow) (size : Option ℕ) (low at : ℕ) : Type 0 where
  pub may_run : CanRun k a r
  pub stands : IsAddressForSize k b r size low at

-- The error of a row that can't be placed: its run area is read-only and it isn't; or else it would begin below the end of
-- the rows before it; or else it would end after the area's end, by this number of bytes.
pub data RowFault (k : ℕ) (a : MemoryArea) (b : Bounds) (r : SegmentRow) (size : Option ℕ) (low : ℕ) : PlaceFault → Type 0 where
  read_only : a.read_only ≡ true → r.run ≡ k → is_read_only r.access ≡ false → RowFault k a b r size low (ReadOnlyArea r.name)
  below : (n at : ℕ) → CanRun k a r → size ≡ Some n → IsRowAddress k b r low at → at < low → RowFault k a b r size low (StartBelow r.name)
  over : (n at more : ℕ) → CanRun k a r → size ≡ Some n → IsRowAddress k b r low at → low ≤ at → 0 < more → at + n ≡ b.end + more → RowFault k a b r size low (Overflow a.name more)

-- ---- Areas and their rows.

-- each of these rows that is in the area is placed after those before it
abbrev pub ArePlacedRows : List SegmentNeed → ℕ → MemoryArea → Bounds → List PlacedRow → Type 0
ArePlacedRows needs k a b rows =
    (before after : List PlacedRow) (x : PlacedRow) → rows ≡ before ++ x ∷ after → is_in k x.0 ≡ true →
    IsPlacedAt k a b x.0 (size_of needs x.0.name) (end_of_rows k b before) (address_in k x.0 x.1)

-- the context of an area's sums, after these areas and with these rows
abbrev pub sum_context : Script → List PlacedArea → List PlacedRow → MemoryArea → SumContextView
sum_context script before rows a = record {
  k = length before;
  own = a;
  areas = script.areas;
  rows = script.rows;
  area_placements = map (λ (x : PlacedArea). x.1) before;
  row_placements = map (λ (x : PlacedRow). x.1) rows;
  start = None;
}

abbrev pub bounds_of : AreaPlacement → Bounds
bounds_of placement = record { start = placement.start; end = placement.start + placement.size }

-- An area has the start and the size of its sums, its rows are placed in it one after the other, and its last
-- address is their end.
pub record IsPlacedArea (script : Script) (needs : List SegmentNeed) (before : List PlacedArea) (rows : List PlacedRow) (x : PlacedArea) : Type 0 where
  pub bounds : bounds_in (sum_context script before rows x.0) ≡ Ok (bounds_of x.1)
  pub rows_placed : ArePlacedRows needs (length before) x.0 (bounds_of x.1) rows
  pub last : x.1.last ≡ end_of_rows (length before) (bounds_of x.1) rows

-- a row has the size that is needed, or 0 if no module has it, and a single address if its run area is its load area
pub record IsRow (needs : List SegmentNeed) (x : PlacedRow) : Type 0 where
  pub size : x.1.size ≡ unwrap_or (size_of needs x.0.name) 0
  pub one : x.0.run ≡ x.0.load → x.1.run ≡ x.1.load

-- The rows are those of the script, and each of these areas is placed after those before it.
pub record ArePlacedAreas (script : Script) (needs : List SegmentNeed) (areas : List PlacedArea) (rows : List PlacedRow) : Type 0 where
  pub these : map (λ (x : PlacedRow). x.0) rows ≡ script.rows
  pub each : AllByRecursion (IsRow needs) rows
  pub areas_placed : (before after : List PlacedArea) (x : PlacedArea) → areas ≡ before ++ x ∷ after → IsPlacedArea script needs before rows x

-- ---- Placements.

abbrev pub HaveRows : Script → List SegmentNeed → Type 0
HaveRows script needs = AllByRecursion (λ (n : SegmentNeed). has_row script.rows n.name ≡ true) needs

-- a row whose area doesn't exist has the address 0; no script that was read has such a row
pub record HasZeroAddress (areas : ℕ) (x : PlacedRow) : Type 0 where
  pub run : areas ≤ x.0.run → x.1.run ≡ 0
  pub load : areas ≤ x.0.load → x.1.load ≡ 0

-- Each segment that is needed has a row, and all areas of the script are placed: this is the placement.
pub record IsPlacement (script : Script) (needs : List SegmentNeed) (p : Placement) : Type 0 where
  pub have_rows : HaveRows script needs
  pub areas : List PlacedArea
  pub rows : List PlacedRow
  pub stand : ArePlacedAreas script needs areas rows
  pub all : map (λ (x : PlacedArea). x.0) areas ≡ script.areas
  pub elsewhere : AllByRecursion (HasZeroAddress (length script.areas)) rows
  pub area_placements : p.areas ≡ map (λ (x : PlacedArea). x.1) areas
  pub row_placements : p.rows ≡ map (λ (x : PlacedRow). x.1) rows

-- each segment that is needed has a row, these areas are placed, and this is the script's next area
pub record IsNextArea (script : Script) (needs : List SegmentNeed) (areas : List PlacedArea) (rows : List PlacedRow) (a : MemoryArea) : Type 0 where
  pub have_rows : HaveRows script needs
  pub stand : ArePlacedAreas script needs areas rows
  pub rest : List MemoryArea
  pub next : map (λ (x : PlacedArea). x.0) areas ++ a ∷ rest ≡ script.areas

-- a row of the next area has this error, after the rows before it are placed
pub record IsRowFault (needs : List SegmentNeed) (k : ℕ) (a : MemoryArea) (b : Bounds) (rows : List PlacedRow) (f : PlaceFault) : Type 0 where
  pub before : List PlacedRow
  pub row : PlacedRow
  pub after : List PlacedRow
  pub split : rows ≡ before ++ row ∷ after
  pub inside : is_in k row.0 ≡ true
  pub stand : ArePlacedRows needs k a b before
  pub fault : RowFault k a b row.0 (size_of needs row.0.name) (end_of_rows k b before) f

-- The first error: of the first need that has no row; or else, once the areas before are placed, of an area's
-- sums; or else, once the rows before are placed, of a row in the area.
pub data FirstFault (script : Script) (needs : List SegmentNeed) : PlaceFault → Type 0 where
  of_need : (before after : List SegmentNeed) (n : SegmentNeed) → needs ≡ before ++ n ∷ after → HaveRows script before → has_row script.rows n.name ≡ false → FirstFault script needs (NoRow n.name)
  of_area : (areas : List PlacedArea) (rows : List PlacedRow) (a : MemoryArea) (f : PlaceFault) → IsNextArea script needs areas rows a → bounds_in (sum_context script areas rows a) ≡ Err f → FirstFault script needs f
  of_row : (areas : List PlacedArea) (rows : List PlacedRow) (a : MemoryArea) (b : Bounds) (f : PlaceFault) → IsNextArea script needs areas rows a → bounds_in (sum_context script areas rows a) ≡ Ok b → IsRowFault needs (length areas) a b rows f → FirstFault script needs f

-- the placement of a script, or the first error
abbrev pub PlacementResult : Script → List SegmentNeed → Result Placement PlaceFault → Type 0
PlacementResult script needs (Ok p) = IsPlacement script needs p
PlacementResult script needs (Err f) = FirstFault script needs f

-- ---- Placements are unique.

-- a script has exactly one placement for these needs, or exactly one first error
abbrev pub PlacementIsUnique : Type 0
PlacementIsUnique =
    (script : Script) (needs : List SegmentNeed) → PlacementResult script needs (place_of script needs)
    × ((r : Result Placement PlaceFault) → PlacementResult script needs r → r ≡ place_of script needs)
