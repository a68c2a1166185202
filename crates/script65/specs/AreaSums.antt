-- The sums of areas: the names of their parts, and their values.
use Rattle.std.specs.Prelude.{ℕ, ◌+◌, ◌-◌, ◌^◌, ◌&&◌, Bool, not, nat_le, nat_lt, if◌then◌else◌, List, [], ◌∷◌, Option, Some, None, ◌++◌, codes, ◌==◌, ◌||◌, true, false, find, is_some, slice_get, Result, Ok, Err}
use Rattle.script65.specs.declared.script.AreaAttribute.{AreaAttribute}
use Rattle.script65.specs.declared.script.AreaAttribute.TheVariants as area
use Rattle.script65.specs.declared.script.RowAttribute.{RowAttribute}
use Rattle.script65.specs.declared.script.RowAttribute.TheVariants as row
use Rattle.std.specs.Option.{option_map_or}
use Rattle.script65.specs.declared.script.MemoryArea.{MemoryArea}
use Rattle.script65.specs.declared.script.Operand.{Operand}
use Rattle.script65.specs.declared.script.Operand.TheVariants as operand
use Rattle.script65.specs.declared.script.SegmentRow.{SegmentRow}
use Rattle.script65.specs.declared.script.Term.{Term}
use Rattle.base65.specs.Outcome.{◌>>=◌}
use Rattle.script65.specs.declared.placement.AreaPlacement.{AreaPlacement}
use Rattle.script65.specs.declared.placement.PlaceFault.{PlaceFault}
use Rattle.script65.specs.declared.placement.PlaceFault.TheVariants.{NotPlaced, AreaOutOfRange}
use Rattle.script65.specs.declared.placement.RowPlacement.{RowPlacement}
use Rattle.script65.specs.declared.placing.row_placing.Bounds.{Bounds}

-- ---- Sums of whole numbers, some of which are subtracted.

-- the sum of the numbers of the terms that satisfy the predicate
abbrev pub sum_where : {T : Type 0} → (T → Bool) → (T → ℕ) → List T → ℕ
sum_where is number [] = 0
sum_where is number (t ∷ ts) = (if is t then number t else 0) + sum_where is number ts

-- the difference, if it isn't negative and is below 2 ^ 32
abbrev pub difference : ℕ → ℕ → Option ℕ
difference added subtracted = if nat_le subtracted added && nat_lt (added - subtracted) (2 ^ 32) then Some (added - subtracted) else None

-- the sum of the added terms less that of the subtracted ones, in whole numbers that don't wrap; only the
-- result has a range
abbrev pub sum_of : {T : Type 0} → (T → Bool) → (T → ℕ) → List T → Option ℕ
sum_of is_subtracted number ts = difference (sum_where (λ t. not (is_subtracted t)) number ts) (sum_where is_subtracted number ts)

-- ---- The names for parts of areas and rows.

-- the ending of a name, after the name of the area or row
abbrev pub ending : List ℕ → List ℕ
ending part = codes "_" ++ (part ++ codes "__")

-- `__N_PART__`
abbrev pub attribute_name : List ℕ → List ℕ → List ℕ
attribute_name name part = codes "__" ++ (name ++ ending part)

abbrev pub area_keyword : AreaAttribute → List ℕ
area_keyword area.Start = codes "START"
area_keyword area.Size = codes "SIZE"
area_keyword area.Last = codes "LAST"

abbrev pub row_keyword : RowAttribute → List ℕ
row_keyword row.Load = codes "LOAD"
row_keyword row.Run = codes "RUN"
row_keyword row.Size = codes "SIZE"

abbrev pub area_ending : AreaAttribute → List ℕ
area_ending part = ending (area_keyword part)

abbrev pub row_ending : RowAttribute → List ℕ
row_ending part = ending (row_keyword part)

-- ---- The value of a term, by the placement of areas and rows.

abbrev pub area_value : AreaAttribute → AreaPlacement → ℕ
area_value area.Start p = p.start
area_value area.Size p = p.size
area_value area.Last p = p.last

abbrev pub row_value : RowAttribute → RowPlacement → ℕ
row_value row.Load p = p.load
row_value row.Run p = p.run
row_value row.Size p = p.size

abbrev pub operand_value : List AreaPlacement → List RowPlacement → Operand → ℕ
operand_value areas rows (operand.Number n) = n
operand_value areas rows (operand.Area k part) = option_map_or (area_value part) (slice_get areas k) 0
operand_value areas rows (operand.Row i part) = option_map_or (row_value part) (slice_get rows i) 0

abbrev pub term_value : List AreaPlacement → List RowPlacement → Term → ℕ
term_value areas rows t = operand_value areas rows t.operand

-- ---- The context of an area's sums.

-- the area and its index in the script, the script's areas and rows, the placements of the areas before it and of all rows
-- (0 for those that aren't placed), and its own start, once that is known
pub record SumContextView : Type 0 where
  pub k : ℕ
  pub own : MemoryArea
  pub areas : List MemoryArea
  pub rows : List SegmentRow
  pub area_placements : List AreaPlacement
  pub row_placements : List RowPlacement
  pub start : Option ℕ

-- the area's own placement as far as it is known: only the start is read
abbrev pub own_placement : Option ℕ → List AreaPlacement
own_placement None = []
own_placement (Some start) = record { start = start; size = 0; last = start } ∷ []

-- the placements of the areas before it, and its own start
abbrev pub known_placements : SumContextView → List AreaPlacement
known_placements s = s.area_placements ++ own_placement s.start

-- ---- Known operands.

-- the areas before it, and its own start once that is known
abbrev pub is_area_known : ℕ → Bool → AreaAttribute → ℕ → Bool
is_area_known k begun area.Start j = nat_lt j k || (begun && j == k)
is_area_known k begun area.Size j = nat_lt j k
is_area_known k begun area.Last j = nat_lt j k

-- the addresses of rows in the areas before it, and the sizes of all rows
abbrev pub is_row_known : ℕ → RowAttribute → SegmentRow → Bool
is_row_known k row.Load r = nat_lt r.load k
is_row_known k row.Run r = nat_lt r.run k
is_row_known k row.Size r = true

abbrev pub is_operand_known : ℕ → Bool → List SegmentRow → Operand → Bool
is_operand_known k begun rows (operand.Number n) = true
is_operand_known k begun rows (operand.Area j part) = is_area_known k begun part j
is_operand_known k begun rows (operand.Row i part) = option_map_or (is_row_known k part) (slice_get rows i) false

abbrev pub is_known : ℕ → Bool → List SegmentRow → Term → Bool
is_known k begun rows t = is_operand_known k begun rows t.operand

-- ---- The name of a term in the script.

abbrev pub operand_name : List MemoryArea → List SegmentRow → Operand → List ℕ
operand_name areas rows (operand.Number n) = []
operand_name areas rows (operand.Area k part) = attribute_name (option_map_or (λ (a : MemoryArea). a.name) (slice_get areas k) []) (area_keyword part)
operand_name areas rows (operand.Row i part) = attribute_name (option_map_or (λ (r : SegmentRow). r.name) (slice_get rows i) []) (row_keyword part)

-- ---- Sums.

-- the sum of the added terms less that of the subtracted ones
abbrev pub sum_by : List AreaPlacement → List RowPlacement → List Term → Option ℕ
sum_by areas rows ts = sum_of (λ (t : Term). t.minus) (term_value areas rows) ts

abbrev pub number_or_fault : List ℕ → Option ℕ → Result ℕ PlaceFault
number_or_fault name (Some n) = Ok n
number_or_fault name None = Err (AreaOutOfRange name)

-- the first term that isn't known
abbrev pub first_unknown : SumContextView → List Term → Option Term
first_unknown s ts = find (λ t. not (is_known s.k (is_some s.start) s.rows t)) ts

abbrev pub sum_or_unknown : SumContextView → List Term → Option Term → Result ℕ PlaceFault
sum_or_unknown s ts (Some t) = Err (NotPlaced (operand_name s.areas s.rows t.operand))
sum_or_unknown s ts None = number_or_fault s.own.name (sum_by (known_placements s) s.row_placements ts)

-- the sum of terms, or an error: of the first term that isn't known, or else of the sum
abbrev pub sum_in : SumContextView → List Term → Result ℕ PlaceFault
sum_in s ts = sum_or_unknown s ts (first_unknown s ts)

-- the context in which its own start is known
abbrev pub with_start : SumContextView → ℕ → SumContextView
with_start s start = record s { start = Some start }

-- an area's bounds, if it ends at the last address or before it
abbrev pub area_bounds : List ℕ → ℕ → ℕ → Result Bounds PlaceFault
area_bounds name start size =
    if nat_lt (2 ^ 32) (start + size) then Err (AreaOutOfRange name) else Ok (record { start = start; end = start + size })

-- the first address of an area and the first address after it: its start, and its size, in which the start is
-- known
abbrev pub bounds_in : SumContextView → Result Bounds PlaceFault
bounds_in s =
    sum_in s s.own.start
    >>= λ start. sum_in (with_start s start) s.own.size
    >>= λ size. area_bounds s.own.name start size
