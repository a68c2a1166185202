-- The placement of a script, as the code computes it.
use Rattle.std.specs.Prelude.{Bool, true, false, ℕ, ◌+◌, ◌-◌, ◌*◌, ◌==◌, ◌&&◌, ◌||◌, not, nat_lt, if◌then◌else◌, List, [], ◌∷◌, ◌++◌, map, find, slice_set, Option, Some, None, unwrap_or, Result, Ok, Err}
use Rattle.script65.specs.declared.script.SegmentType.{SegmentType}
use Rattle.script65.specs.declared.script.SegmentType.TheVariants.{ReadOnly, ReadWrite, Bss, ZeroPage}
use Rattle.std.specs.Int.{div_ceil}
use Rattle.std.specs.List.{list_any}
use Rattle.std.specs.Option.{option_map}
use Rattle.std.specs.Str.{bytes_eq}
use Rattle.script65.specs.declared.script.MemoryArea.{MemoryArea}
use Rattle.script65.specs.declared.script.RowStart.{RowStart}
use Rattle.script65.specs.declared.script.RowStart.TheVariants as begin
use Rattle.script65.specs.declared.script.SegmentRow.{SegmentRow}
use Rattle.script65.specs.declared.script.Script.{Script}
use Rattle.script65.specs.declared.placement.AreaPlacement.{AreaPlacement}
use Rattle.script65.specs.declared.placement.RowPlacement.{RowPlacement}
use Rattle.script65.specs.declared.placement.Placement.{Placement}
use Rattle.script65.specs.declared.placement.PlaceFault.{PlaceFault}
use Rattle.script65.specs.declared.placement.PlaceFault.TheVariants.{NoRow, ReadOnlyArea, StartBelow, Overflow}
use Rattle.script65.specs.declared.placement.SegmentNeed.{SegmentNeed}
use Rattle.script65.specs.declared.placing.row_placing.Bounds.{Bounds}
use Rattle.script65.specs.declared.placing.row_placing.RowState.{RowState}
use Rattle.base65.specs.Outcome.{◌>>=◌}
use Rattle.script65.specs.AreaSums.{SumContextView, bounds_in}

-- ---- The types of segments.

abbrev pub is_read_only : SegmentType → Bool
is_read_only ReadOnly = true
is_read_only _ = false

-- whether its bytes are in a file
abbrev pub is_written : SegmentType → Bool
is_written ReadOnly = true
is_written ReadWrite = true
is_written Bss = false
is_written ZeroPage = false

-- ---- The placement of a script.

-- the needs of segments

-- the size of a segment, if a module has it
unfoldable pub size_of : List SegmentNeed → List ℕ → Option ℕ
size_of needs name = option_map (λ n. n.size) (find (λ n. bytes_eq n.name name) needs)

unfoldable pub has_row : List SegmentRow → List ℕ → Bool
has_row rows name = list_any (λ r. bytes_eq r.name name) rows

-- each need has a row, or else the first that has none
abbrev pub rows_exist : List SegmentRow → List SegmentNeed → Result (Unit {0}) PlaceFault
rows_exist rows [] = Ok tt
rows_exist rows (n ∷ ns) = if has_row rows n.name then rows_exist rows ns else Err (NoRow n.name)

-- rows

-- whether a row runs or loads in the area at an index of the script
unfoldable pub is_in : ℕ → SegmentRow → Bool
is_in k r = r.run == k || r.load == k

-- the least multiple of an alignment that isn't below an address
abbrev pub rounded_up : ℕ → ℕ → ℕ
rounded_up at align = if align == 0 then at else div_ceil at align * align

abbrev pub begin_by : Bounds → RowStart → ℕ → ℕ → ℕ
begin_by b begin.Aligned align cursor = rounded_up cursor align
begin_by b (begin.Start n) align cursor = n
begin_by b (begin.Offset n) align cursor = b.start + n

-- the address at which a row begins: in a load area that isn't its run area it is only aligned
unfoldable pub begin_in : ℕ → Bounds → SegmentRow → ℕ → ℕ
begin_in k b r cursor = if r.run == k then begin_by b r.begin r.align cursor else rounded_up cursor r.align_load

-- a row that is placed in an area
unfoldable pub state_after_row : ℕ → SegmentRow → ℕ → RowState → RowState
state_after_row k r at s = record { size = s.size; run = if r.run == k then at else s.run; load = if r.load == k then at else s.load }

-- a row that has a size, placed at or after the cursor
unfoldable pub place_sized_row : ℕ → MemoryArea → Bounds → SegmentRow → RowState → ℕ → ℕ → ℕ → Result (RowState × ℕ) PlaceFault
place_sized_row k a b r s size at cursor =
    if nat_lt at cursor then Err (StartBelow r.name)
    else if nat_lt b.end (at + size) then Err (Overflow a.name (at + size - b.end))
    else Ok (state_after_row k r at s, at + size)

-- a row that no module has is placed at the cursor
abbrev pub sized_row : ℕ → MemoryArea → Bounds → SegmentRow → RowState → Option ℕ → ℕ → Result (RowState × ℕ) PlaceFault
sized_row k a b r s None cursor = Ok (state_after_row k r cursor s, cursor)
sized_row k a b r s (Some size) cursor = place_sized_row k a b r s size (begin_in k b r cursor) cursor

-- a row placed at or after the cursor, and the next cursor; or its first error
unfoldable pub row_after : ℕ → MemoryArea → Bounds → SegmentRow → RowState → ℕ → Result (RowState × ℕ) PlaceFault
row_after k a b r s cursor =
    if a.read_only && r.run == k && not (is_read_only r.access) then Err (ReadOnlyArea r.name)
    else sized_row k a b r s s.size cursor

-- likewise in a list of row states, in which that of the row is replaced
abbrev pub row_states_after : ℕ → MemoryArea → Bounds → SegmentRow → RowState → ℕ → ℕ → List RowState → Result (List RowState × ℕ) PlaceFault
row_states_after k a b r s cursor i ss = row_after k a b r s cursor >>= λ x. Ok (slice_set ss i x.0, x.1)

-- the indices of the rows of an area; the first row of the list has this index
abbrev pub row_indices_in : ℕ → ℕ → List SegmentRow → List ℕ
row_indices_in k i [] = []
row_indices_in k i (r ∷ rs) = if is_in k r then i ∷ row_indices_in k (i + 1) rs else row_indices_in k (i + 1) rs

-- the rows of an area, each placed at or after the cursor after the one before
abbrev pub rows_from : ℕ → MemoryArea → Bounds → List SegmentRow → List RowState → ℕ → Result (List RowState × ℕ) PlaceFault
rows_from k a b [] ss cursor = Ok (ss, cursor)
rows_from k a b (r ∷ rs) [] cursor = Ok ([], cursor)
rows_from k a b (r ∷ rs) (s ∷ ss) cursor =
    if is_in k r
    then (row_after k a b r s cursor >>= λ x. rows_from k a b rs ss x.1 >>= λ y. Ok (x.0 ∷ y.0, y.1))
    else (rows_from k a b rs ss cursor >>= λ y. Ok (s ∷ y.0, y.1))

-- placements

abbrev pub area_placement : Bounds → ℕ → AreaPlacement
area_placement b last = record { start = b.start; size = b.end - b.start; last = last }

abbrev pub row_placement : RowState → RowPlacement
row_placement s = record { load = s.load; run = s.run; size = unwrap_or s.size 0 }

-- the context of the sums of the area at an index, with these placements of the areas before it and of
-- rows
abbrev pub sum_context_at : ℕ → List MemoryArea → List SegmentRow → MemoryArea → List AreaPlacement → List RowState → SumContextView
sum_context_at k areas rows a placed ss = record {
  k = k;
  own = a;
  areas = areas;
  rows = rows;
  area_placements = placed;
  row_placements = map row_placement ss;
  start = None;
}

-- the areas from an index on, one by one: first the bounds of each, and then its rows
abbrev pub areas_from : ℕ → List MemoryArea → List SegmentRow → List MemoryArea → List AreaPlacement → List RowState → Result Placement PlaceFault
areas_from k areas rows [] placed ss = Ok (record { areas = placed; rows = map row_placement ss })
areas_from k areas rows (a ∷ rest) placed ss =
    bounds_in (sum_context_at k areas rows a placed ss)
    >>= λ b. rows_from k a b rows ss b.start
    >>= λ x. areas_from (k + 1) areas rows rest (placed ++ area_placement b x.1 ∷ []) x.0

-- a row before anything is placed
abbrev pub unplaced_row : List SegmentNeed → SegmentRow → RowState
unplaced_row needs r = record { size = size_of needs r.name; run = 0; load = 0 }

-- the placement of the areas and rows of a script, or the first error
abbrev pub place_of : Script → List SegmentNeed → Result Placement PlaceFault
place_of script needs =
    rows_exist script.rows needs
    >>= λ _. areas_from 0 script.areas script.rows script.areas [] (map (unplaced_row needs) script.rows)
