-- There is a placement, or a first error that is no system error.
use Rattle.std.proofs.Common.{◌+◌, ◌++◌, ℕ, List, [], ◌∷◌, Option, Some, None, refl, map}
use Rattle.base65.proofs.SystemErrors.{Own, bad, choice, good, next}
use Rattle.script65.proofs.PlacementCorrectness.{one_placement}
use Rattle.script65.specs.AreaSums.{SumContextView, bounds_in, number_or_fault, sum_in, sum_or_unknown, first_unknown, with_start}
use Rattle.script65.specs.Faults.{is_place_system_error}
use Rattle.script65.specs.PlacingLaws.{PlacementExists}
use Rattle.script65.specs.Placing.{area_placement, areas_from, begin_in, place_sized_row, has_row, is_in, place_of, row_after, rows_exist, rows_from, sized_row, sum_context_at, unplaced_row}
use Rattle.script65.specs.declared.placement.AreaPlacement.{AreaPlacement}
use Rattle.script65.specs.declared.placement.SegmentNeed.{SegmentNeed}
use Rattle.script65.specs.declared.placing.row_placing.Bounds.{Bounds}
use Rattle.script65.specs.declared.placing.row_placing.RowState.{RowState}
use Rattle.script65.specs.declared.script.MemoryArea.{MemoryArea}
use Rattle.script65.specs.declared.script.SegmentRow.{SegmentRow}
use Rattle.script65.specs.declared.script.Script.{Script}
use Rattle.script65.specs.declared.script.Term.{Term}

-- ---- Sums.

number_own : (name : List ℕ) (o : Option ℕ) → Own is_place_system_error (number_or_fault name o)
number_own name (Some n) = good n
number_own name None = bad _ refl

sum_own : (s : SumContextView) (ts : List Term) (o : Option Term) → Own is_place_system_error (sum_or_unknown s ts o)
sum_own s ts (Some t) = bad _ refl
sum_own s ts None = number_own _ _

bounds_own : (s : SumContextView) → Own is_place_system_error (bounds_in s)
bounds_own s =
    next (sum_in s s.own.start) _ (sum_own s s.own.start (first_unknown s s.own.start)) (λ start.
    next (sum_in (with_start s start) s.own.size) _ (sum_own (with_start s start) s.own.size (first_unknown (with_start s start) s.own.size)) (λ size.
    choice _ _ _ (bad _ refl) (good _)))

-- ---- Rows.

exist_own : (rows : List SegmentRow) (needs : List SegmentNeed) → Own is_place_system_error (rows_exist rows needs)
exist_own rows [] = good _
exist_own rows (n ∷ ns) = choice (has_row rows n.name) _ _ (exist_own rows ns) (bad _ refl)

fitted_own : (k : ℕ) (a : MemoryArea) (b : Bounds) (r : SegmentRow) (s : RowState) (size at cursor : ℕ) → Own is_place_system_error (place_sized_row k a b r s size at cursor)
unfolding place_sized_row
fitted_own k a b r s size at cursor = search (choice, bad, good)

sized_own : (k : ℕ) (a : MemoryArea) (b : Bounds) (r : SegmentRow) (s : RowState) (size : Option ℕ) (cursor : ℕ) → Own is_place_system_error (sized_row k a b r s size cursor)
sized_own k a b r s None cursor = good _
sized_own k a b r s (Some size) cursor = fitted_own k a b r s size (begin_in k b r cursor) cursor

row_own : (k : ℕ) (a : MemoryArea) (b : Bounds) (r : SegmentRow) (s : RowState) (cursor : ℕ) → Own is_place_system_error (row_after k a b r s cursor)
unfolding row_after
row_own k a b r s cursor = choice _ _ _ (bad _ refl) (sized_own k a b r s s.size cursor)

rows_own : (k : ℕ) (a : MemoryArea) (b : Bounds) (rs : List SegmentRow) (ss : List RowState) (cursor : ℕ) → Own is_place_system_error (rows_from k a b rs ss cursor)
rows_own k a b [] ss cursor = good _
rows_own k a b (r ∷ rs) [] cursor = good _
rows_own k a b (r ∷ rs) (s ∷ ss) cursor =
    choice (is_in k r) _ _
    (next (row_after k a b r s cursor) _ (row_own k a b r s cursor) (λ x. next (rows_from k a b rs ss x.1) _ (rows_own k a b rs ss x.1) (λ y. good _)))
    (next (rows_from k a b rs ss cursor) _ (rows_own k a b rs ss cursor) (λ y. good _))

-- ---- Areas.

areas_own : (k : ℕ) (areas : List MemoryArea) (rows : List SegmentRow) (rest : List MemoryArea) (before : List AreaPlacement) (ss : List RowState) → Own is_place_system_error (areas_from k areas rows rest before ss)
areas_own k areas rows [] before ss = good _
areas_own k areas rows (a ∷ rest) before ss =
    next (bounds_in (sum_context_at k areas rows a before ss)) _ (bounds_own (sum_context_at k areas rows a before ss)) (λ b.
    next (rows_from k a b rows ss b.start) _ (rows_own k a b rows ss b.start) (λ x.
    areas_own (k + 1) areas rows rest (before ++ area_placement b x.1 ∷ []) x.0))

pub place_own : (s : Script) (needs : List SegmentNeed) → Own is_place_system_error (place_of s needs)
place_own s needs = next (rows_exist s.rows needs) _ (exist_own s.rows needs) (λ u. areas_own 0 s.areas s.rows s.areas [] (map (unplaced_row needs) s.rows))

pub some_placement : PlacementExists
some_placement s needs = (place_of s needs, (one_placement s needs).0, (place_own s needs).own)
