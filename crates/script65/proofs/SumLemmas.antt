-- Each area has the start and size that its sums have by the placement itself.
use Rattle.std.proofs.lemmas.Grind.{common_steps}
use Rattle.std.proofs.Common.{◌≡◌, ◌<◌, ◌≤◌, ℕ, zero, suc, Bool, true, false, List, [], ◌∷◌, map, slice_get, refl, ap, ◌∙◌, subst, Ok, arith, ◌+◌, ◌^◌, not, ◌++◌, find, length, Option, Some, None, is_some, sym}
use Rattle.std.specs.Prelude.{Result, if◌then◌else◌, ⊤}
use Rattle.std.specs.Option.{option_map_or}
use Rattle.base65.specs.Outcome.{◌>>=◌}
use Rattle.script65.specs.declared.script.MemoryArea.{MemoryArea}
use Rattle.script65.specs.declared.script.SegmentRow.{SegmentRow}
use Rattle.script65.specs.declared.script.RowAttribute.{RowAttribute}
use Rattle.script65.specs.Placing.{is_in, state_after_row, row_after, row_placement, rows_from, area_placement, sum_context_at}
use Rattle.script65.specs.AreaSums.{is_row_known, row_value, SumContextView, is_area_known, area_value, is_known, is_operand_known, operand_value, own_placement, known_placements, sum_in, with_start, sum_where, difference}
use Rattle.script65.specs.declared.placement.PlaceFault.{PlaceFault}
use Rattle.script65.specs.declared.placing.row_placing.Bounds.{Bounds}
use Rattle.script65.specs.declared.placing.row_placing.RowState.{RowState}
use Rattle.script65.proofs.DisjointRows.{Placed, row_placed}
use Rattle.script65.proofs.AreaLemmas.{bind_ok, Holds, Kept, Made, all_hold, get_before, get_last, summed_of}
use Rattle.std.specs.List.{list_all}
use Rattle.std.proofs.lemmas.List.{append-nil}
use Rattle.std.proofs.lemmas.Option.{slice_get_within}
use Rattle.script65.specs.declared.script.AreaAttribute.{AreaAttribute}
use Rattle.script65.specs.declared.script.AreaAttribute.TheVariants as area
use Rattle.script65.specs.declared.script.Operand.{Operand}
use Rattle.script65.specs.declared.script.Operand.TheVariants as operand
use Rattle.script65.specs.declared.script.Script.{Script}
use Rattle.script65.specs.declared.script.Term.{Term}
use Rattle.script65.specs.PlacingLaws.{HasSum, AreasSatisfySums}
use Rattle.script65.specs.declared.placement.AreaPlacement.{AreaPlacement}
use Rattle.script65.specs.declared.placement.RowPlacement.{RowPlacement}

-- ---- The addresses of rows in the areas before an index are unchanged.

-- the states of a row agree on its size and on its addresses in the areas before `k`
pub record Stays (k : ℕ) (r : SegmentRow) (s t : RowState) : Type 0 where
  pub size : t.size ≡ s.size
  pub run : r.run < k → t.run ≡ s.run
  pub load : r.load < k → t.load ≡ s.load

abbrev pub Settled : ℕ → List SegmentRow → List RowState → List RowState → Type 0
Settled k (r ∷ rs) (s ∷ ss) (t ∷ ts) = Stays k r s t × Settled k rs ss ts
Settled k (r ∷ rs) (s ∷ ss) [] = ⊥
Settled k (r ∷ rs) [] (t ∷ ts) = ⊥
Settled k (r ∷ rs) [] [] = ⊤
Settled k [] ss ts = ⊤

stays_same : (k : ℕ) (r : SegmentRow) (s : RowState) → Stays k r s s
stays_same k r s = record { size = refl; run = λ lt. refl; load = λ lt. refl }

moved_stays : (j k at : ℕ) (r : SegmentRow) (s t : RowState) → j ≤ k → t ≡ state_after_row k r at s → Stays j r s t
unfolding state_after_row
moved_stays j k at r s t le e = grind (arith, common_steps)

abbrev Reached : Type 0
Reached = List RowState × ℕ

abbrev front : RowState → Result Reached PlaceFault → Result Reached PlaceFault
front s rest = rest >>= λ y. Ok (s ∷ y.0, y.1)

same_pair : (x y : Reached) → ◌≡◌ {A = Result Reached PlaceFault} (Ok x) (Ok y) → x ≡ y
same_pair x y h = cc

-- placing the rows of area `k` doesn't change the addresses in the areas before `j`, if `j` is at most `k`
pub rows_settled : (j k : ℕ) (a : MemoryArea) (b : Bounds) (rs : List SegmentRow) (ss ts : List RowState) (cursor last : ℕ) → j ≤ k → rows_from k a b rs ss cursor ≡ Ok (ts, last) → Settled j rs ss ts
rows_settled j k a b [] ss ts cursor last le h = tt
rows_settled j k a b (r ∷ rs) [] ts cursor last le h = grind (arith, common_steps, same_pair)
rows_settled j k a b (r ∷ rs) (s ∷ ss) ts cursor last le h = by (is_in k r) h (λ c us l e. rows_settled j k a b rs ss us c l le e)
  where
    by : (t : Bool) → (if t then (row_after k a b r s cursor >>= λ x. front x.0 (rows_from k a b rs ss x.1)) else front s (rows_from k a b rs ss cursor)) ≡ Ok (ts, last) → ((c : ℕ) (us : List RowState) (l : ℕ) → rows_from k a b rs ss c ≡ Ok (us, l) → Settled j rs ss us) → Settled j (r ∷ rs) (s ∷ ss) ts
    by true h again =
        let f = bind_ok (row_after k a b r s cursor) (λ x. front x.0 (rows_from k a b rs ss x.1)) (ts, last) h in
        let x : RowState × ℕ = f.0 in
        let g = bind_ok (rows_from k a b rs ss x.1) (λ y. Ok (x.0 ∷ y.0, y.1)) (ts, last) f.2 in
        let y : Reached = g.0 in
        let p : Placed k b r s cursor x = row_placed k a b r s cursor x f.1 in
        let e = same_pair (x.0 ∷ y.0, y.1) (ts, last) g.2 in
        subst (Settled j (r ∷ rs) (s ∷ ss)) (ap (λ z. z.0) e) (moved_stays j k p.at r s x.0 le p.spot, again x.1 y.0 y.1 g.1)
    by false h again =
        let g = bind_ok (rows_from k a b rs ss cursor) (λ y. Ok (s ∷ y.0, y.1)) (ts, last) h in
        let y : Reached = g.0 in
        let e = same_pair (s ∷ y.0, y.1) (ts, last) g.2 in
        subst (Settled j (r ∷ rs) (s ∷ ss)) (ap (λ z. z.0) e) (stays_same j r s, again cursor y.0 y.1 g.1)

part_stays : (k : ℕ) (part : RowAttribute) (r : SegmentRow) (s t : RowState) → Stays k r s t → is_row_known k part r ≡ true → row_value part (row_placement t) ≡ row_value part (row_placement s)
part_stays k x r s t h known = grind (arith, common_steps)

-- known values of a row are unchanged
pub value_stays : (k : ℕ) (part : RowAttribute) (rs : List SegmentRow) (ss ts : List RowState) (i : ℕ) → Settled k rs ss ts → option_map_or (is_row_known k part) (slice_get rs i) false ≡ true → option_map_or (row_value part) (slice_get (map row_placement ts) i) 0 ≡ option_map_or (row_value part) (slice_get (map row_placement ss) i) 0
value_stays k part [] ss ts i h known = absurd cc
value_stays k part (r ∷ rs) [] [] i h known = refl
value_stays k part (r ∷ rs) [] (t ∷ ts) i h known = absurd h
value_stays k part (r ∷ rs) (s ∷ ss) [] i h known = absurd h
value_stays k part (r ∷ rs) (s ∷ ss) (t ∷ ts) zero h known = part_stays k part r s t h.0 known
value_stays k part (r ∷ rs) (s ∷ ss) (t ∷ ts) (suc i) h known = value_stays k part rs ss ts i h.1 known

-- ---- Properties of a sum that has a value.

the_difference : (added subtracted n : ℕ) → difference added subtracted ≡ Some n → (subtracted + n ≡ added) × (n < 2 ^ 32)
the_difference added subtracted n h = grind (arith, common_steps)

pub none_found : (known : Term → Bool) (ts : List Term) → find (λ t. not (known t)) ts ≡ None → list_all known ts ≡ true
none_found known [] h = refl
none_found known (t ∷ ts) h = grind (arith, common_steps, (none_found known ts))

-- all terms are known, and `n` is their sum
record Found (s : SumContextView) (ts : List Term) (n : ℕ) : Type 0 where
  pub known : list_all (is_known s.k (is_some s.start) s.rows) ts ≡ true
  pub sum : HasSum (known_placements s) s.row_placements ts n
  pub less : n < 2 ^ 32

found_of : (s : SumContextView) (ts : List Term) (n : ℕ) → sum_in s ts ≡ Ok n → Found s ts n
found_of s ts n h = grind (arith, common_steps, the_difference, none_found)

-- ---- The values of known terms are unchanged.

-- sums by values that agree on the known terms are equal
module _ (known : Term → Bool) (v w : Term → ℕ) (same : (t : Term) → known t ≡ true → w t ≡ v t) where
  pub come_same : (is : Term → Bool) (ts : List Term) → list_all known ts ≡ true → sum_where is w ts ≡ sum_where is v ts
  come_same is [] h = refl
  come_same is (t ∷ ts) h = grind (arith, common_steps, (come_same is ts))

-- placements that agree on the areas before `k`, and, if `begun`, on the start of area `k`
pub record Agree (k : ℕ) (begun : Bool) (ps qs : List AreaPlacement) : Type 0 where
  pub before : (j : ℕ) → j < k → slice_get qs j ≡ slice_get ps j
  pub own : begun ≡ true → option_map_or (area_value area.Start) (slice_get qs k) 0 ≡ option_map_or (area_value area.Start) (slice_get ps k) 0

area_same : (k : ℕ) (begun : Bool) (ps qs : List AreaPlacement) (part : AreaAttribute) (j : ℕ) → Agree k begun ps qs → is_area_known k begun part j ≡ true → option_map_or (area_value part) (slice_get qs j) 0 ≡ option_map_or (area_value part) (slice_get ps j) 0
area_same k begun ps qs x j h known = grind (arith, common_steps)

pub operand_same : (k : ℕ) (begun : Bool) (rows : List SegmentRow) (ps qs : List AreaPlacement) (ss ts : List RowState) (o : Operand) → Agree k begun ps qs → Settled k rows ss ts → is_operand_known k begun rows o ≡ true → operand_value qs (map row_placement ts) o ≡ operand_value ps (map row_placement ss) o
operand_same k begun rows ps qs ss ts (operand.Number n) a s known = refl
operand_same k begun rows ps qs ss ts (operand.Area j part) a s known = area_same k begun ps qs part j a known
operand_same k begun rows ps qs ss ts (operand.Row i part) a s known = value_stays k part rows ss ts i s known

sum_same : (k : ℕ) (begun : Bool) (rows : List SegmentRow) (ps qs : List AreaPlacement) (ss us : List RowState) (ts : List Term) (n : ℕ) → Agree k begun ps qs → Settled k rows ss us → list_all (is_known k begun rows) ts ≡ true → HasSum ps (map row_placement ss) ts n → HasSum qs (map row_placement us) ts n
sum_same k begun rows ps qs ss us ts n a s known h = grind (arith, common_steps, operand_same, come_same)

-- ---- Induction on the areas.

record SumsSo (k : ℕ) (rows : List SegmentRow) (placed : List AreaPlacement) (ss : List RowState) (a : MemoryArea) (placement : AreaPlacement) : Type 0 where
  pub start : HasSum placed (map row_placement ss) a.start placement.start
  pub size : HasSum placed (map row_placement ss) a.size placement.size
  pub start_known : list_all (is_known k false rows) a.start ≡ true
  pub size_known : list_all (is_known k true rows) a.size ≡ true
  pub start_less : placement.start < 2 ^ 32
  pub size_less : placement.size < 2 ^ 32
  pub inside : placement.start + placement.size ≤ 2 ^ 32

abbrev SumsIn : Script → ℕ → List AreaPlacement → List RowState → Type 0
SumsIn script j placed ss = (a : MemoryArea) (placement : AreaPlacement) → slice_get script.areas j ≡ Some a → slice_get placed j ≡ Some placement → SumsSo j script.rows placed ss a placement

-- appending a placement preserves the earlier ones
longer_agrees : (k : ℕ) (begun : Bool) (placed : List AreaPlacement) (x : AreaPlacement) → k < length placed → Agree k begun placed (placed ++ x ∷ [])
longer_agrees k begun placed x lt = grind (arith, common_steps, get_before)

first_agrees : (k : ℕ) (placed : List AreaPlacement) (x : AreaPlacement) → length placed ≡ k → Agree k false (placed ++ own_placement None) (placed ++ x ∷ [])
first_agrees k placed x count = grind (arith, common_steps, get_before, append-nil)

own_agrees : (k : ℕ) (placed : List AreaPlacement) (x : AreaPlacement) (start : ℕ) → length placed ≡ k → x.start ≡ start → Agree k true (placed ++ own_placement (Some start)) (placed ++ x ∷ [])
own_agrees k placed x start count same = grind (arith, common_steps, get_before, get_last)

sums_made : (script : Script) → Made script (SumsIn script)
sums_made script k a placed ss ts b last at count made e c placement there here =
    let same_area : a ≡ c = (let w : ◌≡◌ {A = Option MemoryArea} (Some a) (Some c) = sym at ∙ there in cc) in
    let same_place : area_placement b last ≡ placement = (let w : ◌≡◌ {A = Option AreaPlacement} (Some (area_placement b last)) (Some placement) = sym (get_last placed k (area_placement b last) count) ∙ here in cc) in
    let g = summed_of (sum_context_at k script.areas script.rows a placed ss) b made in
    let starts : b.start ≡ g.start = g.spans.starts in
    let ends : b.end ≡ g.start + g.size = g.spans.ends in
    let inside : b.end ≤ 2 ^ 32 = g.spans.inside in
    let width : (area_placement b last).size ≡ g.size = omega arith in
    let settled = rows_settled k k a b script.rows ss ts b.start last (omega arith) e in
    let first = found_of (sum_context_at k script.areas script.rows a placed ss) a.start g.start g.starts in
    let second = found_of (with_start (sum_context_at k script.areas script.rows a placed ss) g.start) a.size g.size g.sizes in
    let placements : List AreaPlacement = placed ++ area_placement b last ∷ [] in
    let start : HasSum placements (map row_placement ts) a.start g.start = sum_same k false script.rows (placed ++ own_placement None) placements ss ts a.start g.start (first_agrees k placed (area_placement b last) count) settled first.known first.sum in
    let size : HasSum placements (map row_placement ts) a.size g.size = sum_same k true script.rows (placed ++ own_placement (Some g.start)) placements ss ts a.size g.size (own_agrees k placed (area_placement b last) g.start count starts) settled second.known second.sum in
    let so : SumsSo k script.rows placements ts a (area_placement b last) = record {
      start = subst (HasSum placements (map row_placement ts) a.start) (sym starts) start;
      size = subst (HasSum placements (map row_placement ts) a.size) (sym width) size;
      start_known = first.known;
      size_known = second.known;
      start_less = omega (arith, first.less);
      size_less = omega (arith, second.less);
      inside = omega arith;
    } in
    subst (λ x. SumsSo k script.rows placements ts x placement) same_area (subst (SumsSo k script.rows placements ts a) same_place so)

sums_kept : (script : Script) → Kept script (SumsIn script)
sums_kept script j k a placed ss ts b last less count made e q c placement there here =
    let inside : j < length placed = omega arith in
    let so = q c placement there (sym (get_before placed (area_placement b last) j inside) ∙ here) in
    let settled = rows_settled j k a b script.rows ss ts b.start last (omega arith) e in
    record {
      start = sum_same j false script.rows placed (placed ++ area_placement b last ∷ []) ss ts c.start placement.start (longer_agrees j false placed (area_placement b last) inside) settled so.start_known so.start;
      size = sum_same j true script.rows placed (placed ++ area_placement b last ∷ []) ss ts c.size placement.size (longer_agrees j true placed (area_placement b last) inside) settled so.size_known so.size;
      start_known = so.start_known;
      size_known = so.size_known;
      start_less = so.start_less;
      size_less = so.size_less;
      inside = so.inside;
    }

pub sums_hold : AreasSatisfySums
sums_hold script needs p h k a placement at here =
    let g : Holds (SumsIn script) (length script.areas) p = all_hold script needs p (SumsIn script) (sums_made script) (sums_kept script) h in
    let so = g.each k (slice_get_within script.areas k a at) a placement at here in
    let P : List RowPlacement → Type 0 = λ rs. HasSum p.areas rs a.start placement.start in
    let Q : List RowPlacement → Type 0 = λ rs. HasSum p.areas rs a.size placement.size in
    record {
      start = subst P (sym g.rows) so.start;
      size = subst Q (sym g.rows) so.size;
      start_known = so.start_known;
      size_known = so.size_known;
      start_less = so.start_less;
      size_less = so.size_less;
      inside = so.inside;
    }
