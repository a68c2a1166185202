-- A placement has an entry for each area and row; no two rows of an area overlap, and each is within the area.
use Rattle.std.proofs.lemmas.Grind.{common_steps}
use Rattle.std.proofs.Common.{◌≡◌, ℕ, suc, ◌+◌, Bool, true, false, cond, List, [], ◌∷◌, ◌++◌, length, map, Option, Result, Ok, Err, refl, sym, ◌∙◌, ap, arith, ◌≢◌, ◌<◌, ◌≤◌, slice_get, Some, unwrap_or, subst}
use Rattle.std.specs.Prelude.{if◌then◌else◌, ⊤}
use Rattle.std.specs.List.{AllByRecursion}
use Rattle.std.proofs.lemmas.List.{length-map}
use Rattle.base65.specs.Outcome.{◌>>=◌}
use Rattle.script65.specs.declared.script.MemoryArea.{MemoryArea}
use Rattle.script65.specs.declared.script.SegmentRow.{SegmentRow}
use Rattle.script65.specs.PlacingLaws.{PlacementIsComplete, NeededRowsExist, PlacementDependsOnSizes, RowsAreWithinAreas, AreDisjointRows, AllFollowRow, AreWithinArea, RowsAreDisjoint}
use Rattle.script65.specs.Places.{address_in}
use Rattle.script65.specs.Placing.{area_placement, areas_from, has_row, is_in, row_after, row_placement, rows_exist, rows_from, size_of, sum_context_at, unplaced_row, place_sized_row, state_after_row, sized_row}
use Rattle.script65.specs.AreaSums.{bounds_in}
use Rattle.script65.specs.declared.placement.AreaPlacement.{AreaPlacement}
use Rattle.script65.specs.declared.placement.PlaceFault.{PlaceFault}
use Rattle.script65.specs.declared.placement.PlaceFault.TheVariants.{NoRow}
use Rattle.script65.specs.declared.placement.Placement.{Placement}
use Rattle.script65.specs.declared.placement.SegmentNeed.{SegmentNeed}
use Rattle.script65.specs.declared.placing.row_placing.Bounds.{Bounds}
use Rattle.script65.specs.declared.placing.row_placing.RowState.{RowState}
use Rattle.script65.proofs.AreaLemmas.{bind_ok, one_longer, Kept, Made, all_hold, bounds_order, get_before, get_last}
use Rattle.script65.specs.declared.script.Script.{Script}
use Rattle.std.proofs.lemmas.Option.{slice_get_within}

-- ---- An entry for each area and each row.

abbrev Reached : Type 0
Reached = List RowState × ℕ

abbrev front : RowState → Result Reached PlaceFault → Result Reached PlaceFault
front s rest = rest >>= λ y. Ok (s ∷ y.0, y.1)

same_pair : (x y : Reached) → ◌≡◌ {A = Result Reached PlaceFault} (Ok x) (Ok y) → x ≡ y
same_pair x y h = cc

rows_kept : (k : ℕ) (a : MemoryArea) (b : Bounds) (rs : List SegmentRow) (ss : List RowState) (cursor : ℕ) (x : Reached) → rows_from k a b rs ss cursor ≡ Ok x → length x.0 ≡ length ss
rows_kept k a b [] ss cursor x h = ap (λ (z : Reached). length z.0) (sym (same_pair (ss, cursor) x h))
rows_kept k a b (r ∷ rs) [] cursor x h = ap (λ (z : Reached). length z.0) (sym (same_pair ([], cursor) x h))
rows_kept k a b (r ∷ rs) (s ∷ ss) cursor x h = by (is_in k r) h (λ c y e. rows_kept k a b rs ss c y e)
  where
    by : (t : Bool) → (if t then (row_after k a b r s cursor >>= λ x. front x.0 (rows_from k a b rs ss x.1)) else front s (rows_from k a b rs ss cursor)) ≡ Ok x → ((c : ℕ) (y : Reached) → rows_from k a b rs ss c ≡ Ok y → length y.0 ≡ length ss) → length x.0 ≡ length (s ∷ ss)
    by true h again =
        let f = bind_ok (row_after k a b r s cursor) (λ x. front x.0 (rows_from k a b rs ss x.1)) x h in
        let z : RowState × ℕ = f.0 in
        let g = bind_ok (rows_from k a b rs ss z.1) (λ y. Ok (z.0 ∷ y.0, y.1)) x f.2 in
        let y : Reached = g.0 in
        ap (λ (z : Reached). length z.0) (sym (same_pair (z.0 ∷ y.0, y.1) x g.2)) ∙ ap suc (again z.1 y g.1)
    by false h again =
        let g = bind_ok (rows_from k a b rs ss cursor) (λ y. Ok (s ∷ y.0, y.1)) x h in
        let y : Reached = g.0 in
        ap (λ (z : Reached). length z.0) (sym (same_pair (s ∷ y.0, y.1) x g.2)) ∙ ap suc (again cursor y g.1)

areas_kept : (all : List MemoryArea) (rows : List SegmentRow) (areas : List MemoryArea) (k : ℕ) (before : List AreaPlacement) (ss : List RowState) (q : Placement) → areas_from k all rows areas before ss ≡ Ok q → (length q.areas ≡ length before + length areas) × (length q.rows ≡ length ss)
areas_kept all rows [] k before ss q h = grind (arith, common_steps)
areas_kept all rows (a ∷ rest) k before ss q h =
    let d = bind_ok (bounds_in (sum_context_at k all rows a before ss)) (λ b. rows_from k a b rows ss b.start >>= λ x. areas_from (k + 1) all rows rest (before ++ area_placement b x.1 ∷ []) x.0) q h in
    let b : Bounds = d.0 in
    let f = bind_ok (rows_from k a b rows ss b.start) (λ x. areas_from (k + 1) all rows rest (before ++ area_placement b x.1 ∷ []) x.0) q d.2 in
    let x : Reached = f.0 in
    let g = areas_kept all rows rest (k + 1) (before ++ area_placement b x.1 ∷ []) x.0 q f.2 in
    let longer : length (before ++ area_placement b x.1 ∷ []) ≡ length before + 1 = one_longer before (length before) (area_placement b x.1) refl in
    let more : length q.areas ≡ length (before ++ area_placement b x.1 ∷ []) + length rest = g.0 in
    let all_of : length q.areas ≡ length before + suc (length rest) = omega (arith, longer, more) in
    (all_of, g.1 ∙ rows_kept k a b rows ss b.start x f.1)

pub all_placed : PlacementIsComplete
all_placed script needs p h =
    let f = bind_ok (rows_exist script.rows needs) (λ u. areas_from 0 script.areas script.rows script.areas [] (map (unplaced_row needs) script.rows)) p h in
    let kept = areas_kept script.areas script.rows script.areas 0 [] (map (unplaced_row needs) script.rows) p f.2 in
    let none : 0 + length script.areas ≡ length script.areas = omega arith in
    (kept.0 ∙ none, kept.1 ∙ length-map script.rows (unplaced_row needs))

-- ---- Each needed segment has a row.

all_exist : (rows : List SegmentRow) (needs : List SegmentNeed) → rows_exist rows needs ≡ Ok tt → AllByRecursion (λ (n : SegmentNeed). has_row rows n.name ≡ true) needs
all_exist rows [] h = tt
all_exist rows (n ∷ needs) h = grind (arith, common_steps, (all_exist rows needs))

pub rows_there : NeededRowsExist
rows_there script needs p h = grind (arith, common_steps, all_exist, bind_ok)

-- ---- Names and sizes of needs.

names_exist : List SegmentRow → List (List ℕ) → Result (Unit {0}) PlaceFault
names_exist rows [] = Ok tt
names_exist rows (n ∷ ns) = cond (has_row rows n) (names_exist rows ns) (Err (NoRow n))

exist_by_name : (rows : List SegmentRow) (ns : List SegmentNeed) → rows_exist rows ns ≡ names_exist rows (map (λ (n : SegmentNeed). n.name) ns)
unfolding names_exist
exist_by_name rows [] = refl
exist_by_name rows (n ∷ ns) = ap (λ z. cond (has_row rows n.name) z (Err (NoRow n.name))) (exist_by_name rows ns)

rows_alike : (needs others : List SegmentNeed) → ((name : List ℕ) → size_of needs name ≡ size_of others name) → (rows : List SegmentRow) → map (unplaced_row needs) rows ≡ map (unplaced_row others) rows
rows_alike needs others h [] = refl
rows_alike needs others h (r ∷ rows) = grind (arith, common_steps, (rows_alike needs others h rows))

pub same_needs : PlacementDependsOnSizes
same_needs script needs others names sizes = grind (arith, common_steps, exist_by_name, names_exist, rows_alike)

-- ---- No two rows of an area overlap, and each is within the area.

-- the address of a row in an area, by the row's state
abbrev at_in : ℕ → SegmentRow → RowState → ℕ
at_in k r s = address_in k r (row_placement s)

abbrev size_in : RowState → ℕ
size_in s = unwrap_or s.size 0

-- ---- A row in an area.

-- the address at which the row was placed is at or after the cursor
pub record Placed (k : ℕ) (b : Bounds) (r : SegmentRow) (s : RowState) (cursor : ℕ) (x : RowState × ℕ) : Type 0 where
  pub at : ℕ
  pub spot : x.0 ≡ state_after_row k r at s
  pub end : x.1 ≡ at + size_in s
  pub low : cursor ≤ at
  pub high : cursor ≤ b.end → x.1 ≤ b.end

fitted_placed : (k : ℕ) (a : MemoryArea) (b : Bounds) (r : SegmentRow) (s : RowState) (n at cursor : ℕ) (x : RowState × ℕ) → s.size ≡ Some n → place_sized_row k a b r s n at cursor ≡ Ok x → Placed k b r s cursor x
unfolding place_sized_row
fitted_placed k a b r s n at cursor x sized h = grind (arith, common_steps)

sized_placed : (k : ℕ) (a : MemoryArea) (b : Bounds) (r : SegmentRow) (s : RowState) (o : Option ℕ) (cursor : ℕ) (x : RowState × ℕ) → s.size ≡ o → sized_row k a b r s o cursor ≡ Ok x → Placed k b r s cursor x
sized_placed k a b r s y cursor x e h = grind (arith, common_steps, fitted_placed)

pub row_placed : (k : ℕ) (a : MemoryArea) (b : Bounds) (r : SegmentRow) (s : RowState) (cursor : ℕ) (x : RowState × ℕ) → row_after k a b r s cursor ≡ Ok x → Placed k b r s cursor x
unfolding row_after
row_placed k a b r s cursor x h = grind (arith, common_steps, sized_placed)

moved_size : (k at : ℕ) (r : SegmentRow) (s : RowState) → (state_after_row k r at s).size ≡ s.size
unfolding state_after_row
moved_size k at r s = refl

moved_there : (k at : ℕ) (r : SegmentRow) (s : RowState) → is_in k r ≡ true → at_in k r (state_after_row k r at s) ≡ at
unfolding state_after_row is_in
moved_there k at r s i = grind (arith, common_steps)

moved_elsewhere : (j k at : ℕ) (r : SegmentRow) (s : RowState) → j ≢ k → is_in j r ≡ true → at_in j r (state_after_row k r at s) ≡ at_in j r s
unfolding state_after_row is_in
moved_elsewhere j k at r s apart i = grind (arith, common_steps)

-- ---- The rows of one area.

abbrev AllFrom : ℕ → ℕ → List SegmentRow → List RowState → Type 0
AllFrom k cursor (r ∷ rs) (s ∷ ss) = (is_in k r ≡ true → cursor ≤ at_in k r s) × AllFrom k cursor rs ss
AllFrom k cursor _ _ = ⊤

from_lower : (k low high : ℕ) (rs : List SegmentRow) (ss : List RowState) → low ≤ high → AllFrom k high rs ss → AllFrom k low rs ss
from_lower k low high [] ss le h = tt
from_lower k low high (r ∷ rs) [] le h = tt
from_lower k low high (r ∷ rs) (s ∷ ss) le h = ((λ i. let g = h.0 i in omega arith), from_lower k low high rs ss le h.1)

abbrev AllTo : ℕ → ℕ → List SegmentRow → List RowState → Type 0
AllTo k end (r ∷ rs) (s ∷ ss) = (is_in k r ≡ true → at_in k r s + size_in s ≤ end) × AllTo k end rs ss
AllTo k end _ _ = ⊤

after_from : (k : ℕ) (r : SegmentRow) (s : RowState) (end : ℕ) (rs : List SegmentRow) (ss : List RowState) → (is_in k r ≡ true → at_in k r s + size_in s ≤ end) → AllFrom k end rs ss → AllFollowRow k r (row_placement s) rs (map row_placement ss)
after_from k r s end [] ss e h = tt
after_from k r s end (later ∷ rs) [] e h = tt
after_from k r s end (later ∷ rs) (q ∷ qs) e h = ((λ i j. let a = e i in let b = h.0 j in omega arith), after_from k r s end rs qs e h.1)

-- the rows are disjoint, and between the cursor and the end
abbrev IsGood : ℕ → ℕ → ℕ → List SegmentRow → List RowState → Type 0
IsGood k cursor end rs ts = AllFrom k cursor rs ts × AreDisjointRows k rs (map row_placement ts) × AllTo k end rs ts

first_of_pair : (x y : Reached) → ◌≡◌ {A = Result Reached PlaceFault} (Ok x) (Ok y) → x ≡ y
first_of_pair x y h = cc

rows_good : (k : ℕ) (a : MemoryArea) (b : Bounds) (rs : List SegmentRow) (ss ts : List RowState) (cursor last : ℕ) → cursor ≤ b.end → rows_from k a b rs ss cursor ≡ Ok (ts, last) → IsGood k cursor b.end rs ts
rows_good k a b [] ss ts cursor last capacity h = (tt, tt, tt)
rows_good k a b (r ∷ rs) [] ts cursor last capacity h = grind (arith, common_steps, first_of_pair)
rows_good k a b (r ∷ rs) (s ∷ ss) ts cursor last capacity h = by (is_in k r) refl h (λ c us l small e. rows_good k a b rs ss us c l small e)
  where
    by : (t : Bool) → is_in k r ≡ t → (if t then (row_after k a b r s cursor >>= λ x. front x.0 (rows_from k a b rs ss x.1)) else front s (rows_from k a b rs ss cursor)) ≡ Ok (ts, last) → ((c : ℕ) (us : List RowState) (l : ℕ) → c ≤ b.end → rows_from k a b rs ss c ≡ Ok (us, l) → IsGood k c b.end rs us) → IsGood k cursor b.end (r ∷ rs) ts
    by true i h again =
        let f = bind_ok (row_after k a b r s cursor) (λ x. front x.0 (rows_from k a b rs ss x.1)) (ts, last) h in
        let x : RowState × ℕ = f.0 in
        let g = bind_ok (rows_from k a b rs ss x.1) (λ y. Ok (x.0 ∷ y.0, y.1)) (ts, last) f.2 in
        let y : Reached = g.0 in
        let p : Placed k b r s cursor x = row_placed k a b r s cursor x f.1 in
        let high : x.1 ≤ b.end = p.high capacity in
        let good : IsGood k x.1 b.end rs y.0 = again x.1 y.0 y.1 high g.1 in
        let there : at_in k r x.0 ≡ p.at = ap (at_in k r) p.spot ∙ moved_there k p.at r s i in
        let size : size_in x.0 ≡ size_in s = ap size_in p.spot ∙ ap (λ o. unwrap_or o 0) (moved_size k p.at r s) in
        let end : x.1 ≡ p.at + size_in s = p.end in
        let low : cursor ≤ p.at = p.low in
        let e = first_of_pair (x.0 ∷ y.0, y.1) (ts, last) g.2 in
        subst (IsGood k cursor b.end (r ∷ rs)) (ap (λ z. z.0) e) (
          ((λ j. omega arith), from_lower k cursor x.1 rs y.0 (omega arith) good.0),
          (after_from k r x.0 x.1 rs y.0 (λ j. omega arith) good.0, good.1),
          ((λ j. omega arith), good.2),
        )
    by false i h again =
        let g = bind_ok (rows_from k a b rs ss cursor) (λ y. Ok (s ∷ y.0, y.1)) (ts, last) h in
        let y : Reached = g.0 in
        let good : IsGood k cursor b.end rs y.0 = again cursor y.0 y.1 capacity g.1 in
        let e = first_of_pair (s ∷ y.0, y.1) (ts, last) g.2 in
        let never : is_in k r ≡ true → ⊥ = (λ j. let n : true ≡ false = sym j ∙ i in cc) in
        subst (IsGood k cursor b.end (r ∷ rs)) (ap (λ z. z.0) e)
        (((λ j. absurd (never j)), good.0), (after_from k r s cursor rs y.0 (λ j. absurd (never j)) good.0, good.1), ((λ j. absurd (never j)), good.2))

-- ---- The rows of other areas are unchanged.

abbrev Same : ℕ → List SegmentRow → List RowState → List RowState → Type 0
Same k (r ∷ rs) (s ∷ ss) (t ∷ ts) = (size_in t ≡ size_in s) × (is_in k r ≡ true → at_in k r t ≡ at_in k r s) × Same k rs ss ts
Same k (r ∷ rs) (s ∷ ss) [] = ⊥
Same k (r ∷ rs) [] (t ∷ ts) = ⊥
Same k (r ∷ rs) [] [] = ⊤
Same k [] ss ts = ⊤

rows_same : (j k : ℕ) (a : MemoryArea) (b : Bounds) (rs : List SegmentRow) (ss ts : List RowState) (cursor last : ℕ) → j ≢ k → rows_from k a b rs ss cursor ≡ Ok (ts, last) → Same j rs ss ts
rows_same j k a b [] ss ts cursor last apart h = tt
rows_same j k a b (r ∷ rs) [] ts cursor last apart h = grind (arith, common_steps, first_of_pair)
rows_same j k a b (r ∷ rs) (s ∷ ss) ts cursor last apart h = by (is_in k r) h (λ c us l e. rows_same j k a b rs ss us c l apart e)
  where
    by : (t : Bool) → (if t then (row_after k a b r s cursor >>= λ x. front x.0 (rows_from k a b rs ss x.1)) else front s (rows_from k a b rs ss cursor)) ≡ Ok (ts, last) → ((c : ℕ) (us : List RowState) (l : ℕ) → rows_from k a b rs ss c ≡ Ok (us, l) → Same j rs ss us) → Same j (r ∷ rs) (s ∷ ss) ts
    by true h again =
        let f = bind_ok (row_after k a b r s cursor) (λ x. front x.0 (rows_from k a b rs ss x.1)) (ts, last) h in
        let x : RowState × ℕ = f.0 in
        let g = bind_ok (rows_from k a b rs ss x.1) (λ y. Ok (x.0 ∷ y.0, y.1)) (ts, last) f.2 in
        let y : Reached = g.0 in
        let p : Placed k b r s cursor x = row_placed k a b r s cursor x f.1 in
        let e = first_of_pair (x.0 ∷ y.0, y.1) (ts, last) g.2 in
        subst (Same j (r ∷ rs) (s ∷ ss)) (ap (λ z. z.0) e)
        (ap size_in p.spot ∙ ap (λ o. unwrap_or o 0) (moved_size k p.at r s), (λ i. ap (at_in j r) p.spot ∙ moved_elsewhere j k p.at r s apart i), again x.1 y.0 y.1 g.1)
    by false h again =
        let g = bind_ok (rows_from k a b rs ss cursor) (λ y. Ok (s ∷ y.0, y.1)) (ts, last) h in
        let y : Reached = g.0 in
        let e = first_of_pair (s ∷ y.0, y.1) (ts, last) g.2 in
        subst (Same j (r ∷ rs) (s ∷ ss)) (ap (λ z. z.0) e) (refl, (λ i. refl), again cursor y.0 y.1 g.1)

after_same : (k : ℕ) (r : SegmentRow) (s t : RowState) (rs : List SegmentRow) (ss ts : List RowState) → size_in t ≡ size_in s → (is_in k r ≡ true → at_in k r t ≡ at_in k r s) → Same k rs ss ts → AllFollowRow k r (row_placement s) rs (map row_placement ss) → AllFollowRow k r (row_placement t) rs (map row_placement ts)
after_same k r s t [] ss ts size at same h = tt
after_same k r s t (later ∷ rs) [] [] size at same h = tt
after_same k r s t (later ∷ rs) [] (u ∷ us) size at same h = absurd same
after_same k r s t (later ∷ rs) (q ∷ qs) [] size at same h = absurd same
after_same k r s t (later ∷ rs) (q ∷ qs) (u ∷ us) size at same h =
    ((λ i j. let a = at i in let b = same.1 j in let c = h.0 i j in omega arith), after_same k r s t rs qs us size at same.2 h.1)

apart_same : (k : ℕ) (rs : List SegmentRow) (ss ts : List RowState) → Same k rs ss ts → AreDisjointRows k rs (map row_placement ss) → AreDisjointRows k rs (map row_placement ts)
apart_same k [] ss ts same h = tt
apart_same k (r ∷ rs) [] [] same h = tt
apart_same k (r ∷ rs) [] (t ∷ ts) same h = absurd same
apart_same k (r ∷ rs) (s ∷ ss) [] same h = absurd same
apart_same k (r ∷ rs) (s ∷ ss) (t ∷ ts) same h = (after_same k r s t rs ss ts same.0 same.1 same.2 h.0, apart_same k rs ss ts same.2 h.1)

within_of : (k : ℕ) (placement : AreaPlacement) (rs : List SegmentRow) (ts : List RowState) → AllFrom k placement.start rs ts → AllTo k (placement.start + placement.size) rs ts → AreWithinArea k placement rs (map row_placement ts)
within_of k placement [] ts f t = tt
within_of k placement (r ∷ rs) [] f t = tt
within_of k placement (r ∷ rs) (s ∷ ss) f t = ((λ i. (f.0 i, t.0 i)), within_of k placement rs ss f.1 t.1)

within_same : (k : ℕ) (placement : AreaPlacement) (rs : List SegmentRow) (ss ts : List RowState) → Same k rs ss ts → AreWithinArea k placement rs (map row_placement ss) → AreWithinArea k placement rs (map row_placement ts)
within_same k placement [] ss ts same h = tt
within_same k placement (r ∷ rs) [] [] same h = tt
within_same k placement (r ∷ rs) [] (t ∷ ts) same h = absurd same
within_same k placement (r ∷ rs) (s ∷ ss) [] same h = absurd same
within_same k placement (r ∷ rs) (s ∷ ss) (t ∷ ts) same h =
    ((λ i. let w = h.0 i in let e = same.1 i in let z = same.0 in let low = w.0 in let high = w.1 in (omega arith, omega arith)), within_same k placement rs ss ts same.2 h.1)

-- ---- All areas.

abbrev ApartIn : List SegmentRow → ℕ → List AreaPlacement → List RowState → Type 0
ApartIn rows j placed ss = AreDisjointRows j rows (map row_placement ss)

abbrev WithinIn : List SegmentRow → ℕ → List AreaPlacement → List RowState → Type 0
WithinIn rows j placed ss = (placement : AreaPlacement) → slice_get placed j ≡ Some placement → AreWithinArea j placement rows (map row_placement ss)

to_place : (b : Bounds) (last k : ℕ) (rows : List SegmentRow) (ts : List RowState) → b.start ≤ b.end → AllTo k b.end rows ts → AllTo k ((area_placement b last).start + (area_placement b last).size) rows ts
to_place b last k rows ts le h = grind (arith, common_steps)

apart_made : (script : Script) → Made script (ApartIn script.rows)
apart_made script k a placed ss ts b last at count made e = (rows_good k a b script.rows ss ts b.start last (bounds_order (sum_context_at k script.areas script.rows a placed ss) b made) e).1

apart_kept : (script : Script) → Kept script (ApartIn script.rows)
apart_kept script j k a placed ss ts b last less count made e q = apart_same j script.rows ss ts (rows_same j k a b script.rows ss ts b.start last (λ same. absurd (omega arith)) e) q

within_made : (script : Script) → Made script (WithinIn script.rows)
within_made script k a placed ss ts b last at count made e placement here = grind (arith, common_steps, rows_good, bounds_order, get_last, within_of, to_place)

within_kept : (script : Script) → Kept script (WithinIn script.rows)
within_kept script j k a placed ss ts b last less count made e q placement here =
    within_same j placement script.rows ss ts (rows_same j k a b script.rows ss ts b.start last (λ same. absurd (omega arith)) e)
    (q placement (sym (get_before placed (area_placement b last) j (omega (arith, count))) ∙ here))

pub none_overlap : RowsAreDisjoint
none_overlap script needs p h k lt =
    let g = all_hold script needs p (ApartIn script.rows) (apart_made script) (apart_kept script) h in
    subst (AreDisjointRows k script.rows) (sym g.rows) (g.each k lt)

pub all_within : RowsAreWithinAreas
all_within script needs p h k placement at =
    let g = all_hold script needs p (WithinIn script.rows) (within_made script) (within_kept script) h in
    let inside : k < length script.areas = omega (arith, slice_get_within p.areas k placement at, (all_placed script needs p h).0) in
    subst (AreWithinArea k placement script.rows) (sym g.rows) (g.each k inside placement at)
