-- Laws of placements.
use Rattle.std.specs.Prelude.{◌≡◌, ◌≤◌, ◌<◌, ℕ, ◌+◌, ◌^◌, true, false, not, is_some, codes, List, [], ◌∷◌, ◌++◌, map, Some, Result, Ok, length, slice_get, ⊤}
use Rattle.std.specs.List.{AllByRecursion, list_all}
use Rattle.base65.specs.Outcome.{◌>>=◌}
use Rattle.base65.specs.SystemErrors.{IsNoSystemError}
use Rattle.script65.specs.Entries.{Entries, ConfigEntry, ParsedTerm, terms_for}
use Rattle.script65.specs.Scripts.{HasEntries, script_from}
use Rattle.script65.specs.AreaSums.{sum_where, is_known, sum_by, term_value}
use Rattle.script65.specs.Faults.{is_place_system_error}
use Rattle.script65.specs.declared.script.MemoryArea.{MemoryArea}
use Rattle.script65.specs.declared.script.Operand.TheVariants as operand
use Rattle.script65.specs.declared.script.SegmentRow.{SegmentRow}
use Rattle.script65.specs.declared.script.Script.{Script}
use Rattle.script65.specs.declared.script.Term.{Term}
use Rattle.script65.specs.declared.placement.AreaPlacement.{AreaPlacement}
use Rattle.script65.specs.declared.placement.PlaceFault.{PlaceFault}
use Rattle.script65.specs.declared.placement.Placement.{Placement}
use Rattle.script65.specs.declared.placement.RowPlacement.{RowPlacement}
use Rattle.script65.specs.declared.placement.SegmentNeed.{SegmentNeed}
use Rattle.script65.specs.declared.placing.row_placing.Bounds.{Bounds}
use Rattle.script65.specs.declared.placing.row_placing.RowState.{RowState}
use Rattle.script65.specs.Places.{PlacementResult, address_in}
use Rattle.script65.specs.Placing.{area_placement, has_row, is_in, place_of, row_placement, rows_exist, rows_from, size_of, unplaced_row}

-- ---- Placements exist.

-- a script has a placement for any needs, or a first error that isn't *out of memory*
abbrev pub PlacementExists : Type 0
PlacementExists = (script : Script) (needs : List SegmentNeed) → (r : Result Placement PlaceFault) × PlacementResult script needs r × IsNoSystemError is_place_system_error r

-- ---- Rows in their areas.

-- of two rows of an area the later one begins at the end of the earlier one, or later
abbrev pub FollowsRow : ℕ → SegmentRow → RowPlacement → SegmentRow → RowPlacement → Type 0
FollowsRow k r p later q = is_in k r ≡ true → is_in k later ≡ true → address_in k r p + p.size ≤ address_in k later q

abbrev pub AllFollowRow : ℕ → SegmentRow → RowPlacement → List SegmentRow → List RowPlacement → Type 0
AllFollowRow k r p (later ∷ rs) (q ∷ qs) = FollowsRow k r p later q × AllFollowRow k r p rs qs
AllFollowRow k r p _ _ = ⊤

abbrev pub AreDisjointRows : ℕ → List SegmentRow → List RowPlacement → Type 0
AreDisjointRows k (r ∷ rs) (p ∷ ps) = AllFollowRow k r p rs ps × AreDisjointRows k rs ps
AreDisjointRows k _ _ = ⊤

-- no two rows of an area overlap
abbrev pub RowsAreDisjoint : Type 0
RowsAreDisjoint =
    (script : Script) (needs : List SegmentNeed) (p : Placement) → place_of script needs ≡ Ok p →
    (k : ℕ) → k < length script.areas → AreDisjointRows k script.rows p.rows

-- a row of an area is within it: neither before its first address nor after its last
abbrev pub IsWithinArea : ℕ → AreaPlacement → SegmentRow → RowPlacement → Type 0
IsWithinArea k placement r p = is_in k r ≡ true → (placement.start ≤ address_in k r p) × (address_in k r p + p.size ≤ placement.start + placement.size)

abbrev pub AreWithinArea : ℕ → AreaPlacement → List SegmentRow → List RowPlacement → Type 0
AreWithinArea k placement (r ∷ rs) (p ∷ ps) = IsWithinArea k placement r p × AreWithinArea k placement rs ps
AreWithinArea k placement _ _ = ⊤

-- each row is within its areas
abbrev pub RowsAreWithinAreas : Type 0
RowsAreWithinAreas =
    (script : Script) (needs : List SegmentNeed) (p : Placement) → place_of script needs ≡ Ok p →
    (k : ℕ) (placement : AreaPlacement) → slice_get p.areas k ≡ Some placement → AreWithinArea k placement script.rows p.rows

-- ---- Areas by their sums.

-- a number plus the subtracted terms is the sum of the added ones, with the values of terms under these
-- placements
abbrev pub HasSum : List AreaPlacement → List RowPlacement → List Term → ℕ → Type 0
HasSum areas rows ts n =
    sum_where (λ (t : Term). t.minus) (term_value areas rows) ts + n ≡ sum_where (λ (t : Term). not t.minus) (term_value areas rows) ts

-- The area at an index of the script has the start and the size of its sums, evaluated under the placement
-- itself. Their names are known there: those of earlier areas and of the rows in these, the sizes of all rows
-- and, in its size, its own start. Start and size are below 2 ^ 32, and the area ends at the last address or
-- before it.
pub record SatisfiesSums (k : ℕ) (rows : List SegmentRow) (p : Placement) (a : MemoryArea) (placement : AreaPlacement) : Type 0 where
  pub start : HasSum p.areas p.rows a.start placement.start
  pub size : HasSum p.areas p.rows a.size placement.size
  pub start_known : list_all (is_known k false rows) a.start ≡ true
  pub size_known : list_all (is_known k true rows) a.size ≡ true
  pub start_less : placement.start < 2 ^ 32
  pub size_less : placement.size < 2 ^ 32
  pub inside : placement.start + placement.size ≤ 2 ^ 32

-- each area has the start and the size of its sums
abbrev pub AreasSatisfySums : Type 0
AreasSatisfySums =
    (script : Script) (needs : List SegmentNeed) (p : Placement) → place_of script needs ≡ Ok p →
    (k : ℕ) (a : MemoryArea) (placement : AreaPlacement) → slice_get script.areas k ≡ Some a → slice_get p.areas k ≡ Some placement →
    SatisfiesSums k script.rows p a placement

-- ---- Areas without names in their sums.

-- all terms are numbers, and this is their sum
pub record AreNumbers (ts : List Term) (n : ℕ) : Type 0 where
  pub numbers : AllByRecursion (λ (t : Term). (m : ℕ) × (t.operand ≡ operand.Number m)) ts
  pub sum : sum_by [] [] ts ≡ Some n

-- an area whose sums are numbers, with these bounds
pub record IsFixed (a : MemoryArea) (b : Bounds) : Type 0 where
  pub size : ℕ
  pub starts : AreNumbers a.start b.start
  pub spans : AreNumbers a.size size
  pub ends : b.end ≡ b.start + size
  pub inside : b.end ≤ 2 ^ 32

abbrev pub AreFixed : List MemoryArea → List Bounds → Type 0
AreFixed [] [] = ⊤
AreFixed (a ∷ as') (b ∷ bs) = IsFixed a b × AreFixed as' bs
AreFixed _ _ = ⊥

-- the placement of the rows of areas with such bounds, area by area
abbrev pub fixed_from : ℕ → List SegmentRow → List MemoryArea → List Bounds → List AreaPlacement → List RowState → Result Placement PlaceFault
fixed_from k rows (a ∷ rest) (b ∷ bs) placed ss =
    rows_from k a b rows ss b.start
    >>= λ x. fixed_from (k + 1) rows rest bs (placed ++ area_placement b x.1 ∷ []) x.0
fixed_from k rows _ _ placed ss = Ok (record { areas = placed; rows = map row_placement ss })

-- if all sums are numbers, a script is placed by these, and no error is one of a sum
abbrev pub ConstantSumsDetermineAreas : Type 0
ConstantSumsDetermineAreas =
    (script : Script) (needs : List SegmentNeed) (bounds : List Bounds) → AreFixed script.areas bounds →
    place_of script needs ≡ (rows_exist script.rows needs >>= λ u. fixed_from 0 script.rows script.areas bounds [] (map (unplaced_row needs) script.rows))

-- the sums of an area of a text have no names
abbrev pub HasNoNames : ConfigEntry → Type 0
HasNoNames e =
    AllByRecursion (λ (p : ParsedTerm). is_some p.number ≡ true) (terms_for (codes "start") e)
    × AllByRecursion (λ (p : ParsedTerm). is_some p.number ≡ true) (terms_for (codes "size") e)

-- a script in whose text no sum has a name has such areas, since sums are checked as they are read
abbrev pub SumsWithoutNamesAreConstant : Type 0
SumsWithoutNamesAreConstant =
    (bytes : List ℕ) (es : Entries) (script : Script) →
    HasEntries bytes (Ok es) → script_from es ≡ Ok script →
    AllByRecursion HasNoNames es.areas → (bounds : List Bounds) × AreFixed script.areas bounds

-- ---- Conditions of placements.

-- a placement has an entry for each area and for each row
abbrev pub PlacementIsComplete : Type 0
PlacementIsComplete =
    (script : Script) (needs : List SegmentNeed) (p : Placement) → place_of script needs ≡ Ok p →
    (length p.areas ≡ length script.areas) × (length p.rows ≡ length script.rows)

-- each segment that is needed has a row
abbrev pub NeededRowsExist : Type 0
NeededRowsExist =
    (script : Script) (needs : List SegmentNeed) (p : Placement) → place_of script needs ≡ Ok p →
    AllByRecursion (λ (n : SegmentNeed). has_row script.rows n.name ≡ true) needs

-- needs with the same names, and the same sizes by name, have the same placement or error
abbrev pub PlacementDependsOnSizes : Type 0
PlacementDependsOnSizes =
    (script : Script) (needs others : List SegmentNeed) → map (λ (n : SegmentNeed). n.name) needs ≡ map (λ (n : SegmentNeed). n.name) others →
    ((name : List ℕ) → size_of needs name ≡ size_of others name) → place_of script needs ≡ place_of script others
