-- Placing with a cursor computes the placement or the first error of the definition.
use Rattle.std.proofs.lemmas.Grind.{common_steps, div_ceil_times}
use Rattle.std.proofs.Common.{◌≡◌, ◌≢◌, ◌<◌, ◌≤◌, ℕ, suc, ◌+◌, ◌*◌, Bool, true, false, List, [], ◌∷◌, ◌++◌, map, length, refl, sym, ap, ◌∙◌, subst, Result, Ok, Err, arith, nat_lt, Option, Some, None, unwrap_or, ◌⊎◌, inl, inr, not, ◌-◌, append_assoc, length-append, is_some, mul-le-mul_right, append-nil}
use Rattle.std.specs.Prelude.{if◌then◌else◌, ⊤, ◌==◌, ◌&&◌}
use Rattle.std.specs.List.{AllByRecursion}
use Rattle.std.specs.Int.{div_ceil}
use Rattle.std.proofs.lemmas.Bool.Decides.{nat_tests}
use Rattle.base65.specs.Outcome.{◌>>=◌, RefinesProp, Refines, Unless}
use Rattle.script65.specs.Faults.{is_place_system_error}
use Rattle.script65.specs.declared.script.MemoryArea.{MemoryArea}
use Rattle.script65.specs.declared.script.RowStart.{RowStart}
use Rattle.script65.specs.declared.script.RowStart.TheVariants as begin
use Rattle.script65.specs.declared.script.SegmentRow.{SegmentRow}
use Rattle.script65.specs.declared.script.Script.{Script}
use Rattle.script65.specs.declared.placement.AreaPlacement.{AreaPlacement}
use Rattle.script65.specs.declared.placement.RowPlacement.{RowPlacement}
use Rattle.script65.specs.declared.placement.Placement.{Placement}
use Rattle.script65.specs.declared.placement.PlaceFault.{PlaceFault}
use Rattle.script65.specs.declared.placement.PlaceFault.TheVariants.{NoRow, ReadOnlyArea, StartBelow, Overflow}
use Rattle.script65.specs.declared.placement.SegmentNeed.{SegmentNeed}
use Rattle.script65.specs.declared.placing.row_placing.Bounds.{Bounds}
use Rattle.script65.specs.declared.placing.row_placing.RowState.{RowState}
use Rattle.script65.specs.Places.{PlacedArea, PlacedRow, address_in, ends_in, last_or, end_of_rows, unit_of, IsLeastMultiple, IsRunAddress, IsRowAddress, IsAddressForSize, CanRun, IsPlacedAt, RowFault, ArePlacedRows, sum_context, bounds_of, IsPlacedArea, IsRow, ArePlacedAreas, HaveRows, HasZeroAddress, IsPlacement, IsRowFault, FirstFault, PlacementResult, PlacementIsUnique}
use Rattle.script65.specs.Places.{read_only, below, over, of_need, of_area, of_row}
use Rattle.script65.specs.Placing.{area_placement, areas_from, begin_by, begin_in, place_sized_row, has_row, is_in, is_read_only, state_after_row, place_of, rounded_up, row_after, row_placement, rows_exist, rows_from, size_of, sized_row, unplaced_row}
use Rattle.script65.specs.AreaSums.{SumContextView, bounds_in, sum_where, difference, is_known, number_or_fault, own_placement, area_bounds, sum_in, sum_or_unknown, term_value, first_unknown}
use Rattle.script65.specs.declared.script.Term.{Term}
use Rattle.script65.proofs.SumLemmas.{Settled, Stays, come_same, none_found, operand_same}
use Rattle.script65.proofs.AreaLemmas.{following, whole_of, bounds_order}

-- ---- The end of rows.

-- the end of the last of these rows that is in the area; otherwise `low`
abbrev end_from : ℕ → ℕ → List PlacedRow → ℕ
end_from k low rows = last_or low (ends_in k rows)

abbrev end_at : ℕ → PlacedRow → ℕ
end_at k x = address_in k x.0 x.1 + x.1.size

abbrev next : ℕ → ℕ → PlacedRow → ℕ
next k low x = if is_in k x.0 then end_at k x else low

end_next : (k low : ℕ) (x : PlacedRow) (xs : List PlacedRow) → end_from k low (x ∷ xs) ≡ end_from k (next k low x) xs
end_next k low x xs = by (is_in k x.0)
  where
    by : (t : Bool) → last_or low (if t then end_at k x ∷ ends_in k xs else ends_in k xs) ≡ last_or (if t then end_at k x else low) (ends_in k xs)
    by true = refl
    by false = refl

-- ---- The least multiple.

-- two least multiples are equal
least_same : (u low a b : ℕ) → IsLeastMultiple u low a → IsLeastMultiple u low b → a ≡ b
least_same u low a b h g =
    let n = h.alignment.0 in
    let m = g.alignment.0 in
    let e : a ≡ n * u = h.alignment.1 in
    let f : b ≡ m * u = g.alignment.1 in
    let low_a : low ≤ n * u = subst (λ z. low ≤ z) e h.high in
    let low_b : low ≤ m * u = subst (λ z. low ≤ z) f g.high in
    let up : a ≤ m * u = h.least m low_b in
    let down : b ≤ n * u = g.least n low_a in
    omega arith

lt_or : (a b : ℕ) → (a < b) ⊎ (b ≤ a)
lt_or a b = grind (arith, common_steps)

not_below : (u n m : ℕ) → m * u < n * u + u → m ≤ n
not_below u n m h = by (lt_or n m)
  where
    by : (n < m) ⊎ (m ≤ n) → m ≤ n
    by (inr le) = le
    by (inl lt) = let more : suc n * u ≤ m * u = mul-le-mul_right u lt in absurd (omega (arith, more, h))

least_of : (low u : ℕ) → 0 < u → IsLeastMultiple u low (div_ceil low u * u)
least_of low u some =
    let bounds = div_ceil_times low u some in
    let k = div_ceil low u in
    record {
      alignment = (k, refl);
      high = bounds.0;
      least = λ n le. let below : k ≤ n = not_below u n k (omega (arith, bounds.1, le)) in mul-le-mul_right u below;
    }

no_unit : (low align n : ℕ) → (align ≡ 0) ⊎ (0 < align) → IsLeastMultiple (unit_of align) low (rounded_up low align)
no_unit low align n (inl none) = subst (λ z. IsLeastMultiple (unit_of z) low (rounded_up low z)) (sym none) (record { alignment = (low, omega arith); high = omega arith; least = λ n le. omega arith })
no_unit low align n (inr some) =
    let u : align ≡ unit_of align = grind (arith, common_steps, nat_tests) in
    let e : div_ceil low align * align ≡ rounded_up low align = grind (arith, common_steps, nat_tests) in
    subst (λ z. IsLeastMultiple z low (rounded_up low align)) u (subst (IsLeastMultiple align low) e (least_of low align some))

none_or : (n : ℕ) → (n ≡ 0) ⊎ (0 < n)
none_or n = grind (arith, common_steps)

rounded_least : (low align : ℕ) → IsLeastMultiple (unit_of align) low (rounded_up low align)
rounded_least low align = no_unit low align 0 (none_or align)

-- ---- The address at which a row begins.

by_begin : (b : Bounds) (g : RowStart) (align low : ℕ) → IsRunAddress g align b low (begin_by b g align low)
by_begin b begin.Aligned align low = rounded_least low align
by_begin b (begin.Start n) align low = refl
by_begin b (begin.Offset n) align low = refl

by_begin_same : (b : Bounds) (g : RowStart) (align low at : ℕ) → IsRunAddress g align b low at → begin_by b g align low ≡ at
by_begin_same b begin.Aligned align low at h = least_same (unit_of align) low (rounded_up low align) at (rounded_least low align) h
by_begin_same b (begin.Start n) align low at h = sym h
by_begin_same b (begin.Offset n) align low at h = sym h

same_or : (a b : ℕ) → (a ≡ b) ⊎ (a ≢ b)
same_or a b = by (lt_or a b) (lt_or b a)
  where
    by : (a < b) ⊎ (b ≤ a) → (b < a) ⊎ (a ≤ b) → (a ≡ b) ⊎ (a ≢ b)
    by (inl lt) h = inr (λ e. absurd (omega arith))
    by (inr le) (inl lt) = inr (λ e. absurd (omega arith))
    by (inr le) (inr more) = inl (omega arith)

begin_running : (k : ℕ) (b : Bounds) (r : SegmentRow) (low : ℕ) → r.run ≡ k → begin_in k b r low ≡ begin_by b r.begin r.align low
unfolding begin_in
begin_running k b r low h = grind (arith, common_steps, nat_tests)

begin_loaded : (k : ℕ) (b : Bounds) (r : SegmentRow) (low : ℕ) → r.run ≢ k → begin_in k b r low ≡ rounded_up low r.align_load
unfolding begin_in
begin_loaded k b r low h = grind (arith, common_steps, nat_tests)

begins_there : (k : ℕ) (b : Bounds) (r : SegmentRow) (low : ℕ) → IsRowAddress k b r low (begin_in k b r low)
begins_there k b r low = record {
  runs = λ e. subst (IsRunAddress r.begin r.align b low) (sym (begin_running k b r low e)) (by_begin b r.begin r.align low);
  loads = λ n. subst (IsLeastMultiple (unit_of r.align_load) low) (sym (begin_loaded k b r low n)) (rounded_least low r.align_load);
}

begins_same : (k : ℕ) (b : Bounds) (r : SegmentRow) (low at : ℕ) → IsRowAddress k b r low at → begin_in k b r low ≡ at
begins_same k b r low at h = by (same_or r.run k)
  where
    by : (r.run ≡ k) ⊎ (r.run ≢ k) → begin_in k b r low ≡ at
    by (inl e) = begin_running k b r low e ∙ by_begin_same b r.begin r.align low at (h.runs e)
    by (inr n) = begin_loaded k b r low n ∙ least_same (unit_of r.align_load) low (rounded_up low r.align_load) at (rounded_least low r.align_load) (h.loads n)

-- ---- The placement of a row by the cursor.

-- the state of a row after the areas before `k` are placed
abbrev spot : List SegmentNeed → ℕ → PlacedRow → RowState
spot needs k x = record { size = size_of needs x.0.name; run = if nat_lt x.0.run k then x.1.run else 0; load = if nat_lt x.0.load k then x.1.load else 0 }

moved_spot : (needs : List SegmentNeed) (k at : ℕ) (x : PlacedRow) → is_in k x.0 ≡ true → at ≡ address_in k x.0 x.1 → IsRow needs x → state_after_row k x.0 at (spot needs k x) ≡ spot needs (k + 1) x
unfolding state_after_row is_in
moved_spot needs k at x i e one = grind (arith, common_steps, nat_tests)

other_spot : (needs : List SegmentNeed) (k : ℕ) (x : PlacedRow) → is_in k x.0 ≡ false → spot needs k x ≡ spot needs (k + 1) x
unfolding is_in
other_spot needs k x i = grind (arith, common_steps, nat_tests)

may_test : (k : ℕ) (a : MemoryArea) (r : SegmentRow) → CanRun k a r → (a.read_only && r.run == k && not (is_read_only r.access)) ≡ false
may_test k a r may = grind (arith, common_steps, nat_tests)

sized_stands : (needs : List SegmentNeed) (k : ℕ) (a : MemoryArea) (b : Bounds) (x : PlacedRow) (s : RowState) (o : Option ℕ) (low at : ℕ) → IsAddressForSize k b x.0 o low at → sized_row k a b x.0 s o low ≡ Ok (state_after_row k x.0 at s, at + unwrap_or o 0)
unfolding place_sized_row
sized_stands needs k a b x s None low at h =
    let F : ℕ → Result (RowState × ℕ) PlaceFault = λ n. Ok (state_after_row k x.0 n s, n) in
    let G : ℕ → Result (RowState × ℕ) PlaceFault = λ n. Ok (state_after_row k x.0 at s, n) in
    let more : at ≡ at + 0 = omega arith in
    ap F (sym h) ∙ ap G more
sized_stands needs k a b x s (Some n) low at h = let e = begins_same k b x.0 low at h.begins in let le = h.following in let within = h.within in grind (arith, common_steps, nat_tests, e)

row_stands : (needs : List SegmentNeed) (k : ℕ) (a : MemoryArea) (b : Bounds) (x : PlacedRow) (low : ℕ) → is_in k x.0 ≡ true → IsRow needs x → IsPlacedAt k a b x.0 (size_of needs x.0.name) low (address_in k x.0 x.1) → row_after k a b x.0 (spot needs k x) low ≡ Ok (spot needs (k + 1) x, end_at k x)
unfolding row_after
row_stands needs k a b x low i one h =
    rw (may_test k a x.0 h.may_run) (sized_stands needs k a b x (spot needs k x) (size_of needs x.0.name) low (address_in k x.0 x.1) h.stands
    ∙ ap (λ n. Ok (state_after_row k x.0 (address_in k x.0 x.1) (spot needs k x), address_in k x.0 x.1 + n)) (sym one.size)
    ∙ ap (λ s. Ok (s, end_at k x)) (moved_spot needs k (address_in k x.0 x.1) x i refl one))

row_fails : (needs : List SegmentNeed) (k : ℕ) (a : MemoryArea) (b : Bounds) (r : SegmentRow) (s : RowState) (low : ℕ) (f : PlaceFault) → RowFault k a b r s.size low f → row_after k a b r s low ≡ Err f
unfolding row_after place_sized_row
row_fails needs k a b r s low f (read_only ro here other) = grind (arith, common_steps, nat_tests)
row_fails needs k a b r s low f (below n at may size begins lt) = let e = begins_same k b r low at begins in let t = may_test k a r may in grind (arith, common_steps, nat_tests, e, t)
row_fails needs k a b r s low f (over n at more may size begins le some ends) = let e = begins_same k b r low at begins in let t = may_test k a r may in grind (arith, common_steps, nat_tests, e, t)

-- ---- The placement of an area's rows by the cursor.

row_in : (k : ℕ) (a : MemoryArea) (b : Bounds) (r : SegmentRow) (rs : List SegmentRow) (s : RowState) (ss : List RowState) (low : ℕ) (t : RowState) (end : ℕ) → is_in k r ≡ true → row_after k a b r s low ≡ Ok (t, end) → rows_from k a b (r ∷ rs) (s ∷ ss) low ≡ (rows_from k a b rs ss end >>= λ y. Ok (t ∷ y.0, y.1))
row_in k a b r rs s ss low t end i e = rw (i, e) refl

row_out : (k : ℕ) (a : MemoryArea) (b : Bounds) (r : SegmentRow) (rs : List SegmentRow) (s : RowState) (ss : List RowState) (low : ℕ) → is_in k r ≡ false → rows_from k a b (r ∷ rs) (s ∷ ss) low ≡ (rows_from k a b rs ss low >>= λ y. Ok (s ∷ y.0, y.1))
row_out k a b r rs s ss low i = rw i refl

row_stops : (k : ℕ) (a : MemoryArea) (b : Bounds) (r : SegmentRow) (rs : List SegmentRow) (s : RowState) (ss : List RowState) (low : ℕ) (f : PlaceFault) → is_in k r ≡ true → row_after k a b r s low ≡ Err f → rows_from k a b (r ∷ rs) (s ∷ ss) low ≡ Err f
row_stops k a b r rs s ss low f i e = rw (i, e) refl

after_cons : (s : RowState) (done : List RowState) (rest : Result (List RowState × ℕ) PlaceFault) → (following done rest >>= λ y. Ok (s ∷ y.0, y.1)) ≡ following (s ∷ done) rest
after_cons s done x = grind (arith, common_steps)

abbrev rows_of : List PlacedRow → List SegmentRow
rows_of xs = map (λ (x : PlacedRow). x.0) xs

abbrev places_of : List PlacedRow → List RowPlacement
places_of xs = map (λ (x : PlacedRow). x.1) xs

module _ (needs : List SegmentNeed) (k : ℕ) (a : MemoryArea) (b : Bounds) where
  abbrev StandsIn : ℕ → PlacedRow → Type 0
  StandsIn low x = IsPlacedAt k a b x.0 (size_of needs x.0.name) low (address_in k x.0 x.1)

  -- each row that is in the area follows the one before it
  abbrev Goes : ℕ → List PlacedRow → Type 0
  Goes low [] = ⊤
  Goes low (x ∷ xs) = (is_in k x.0 ≡ true → StandsIn low x) × Goes (next k low x) xs

  abbrev AllStand : ℕ → List PlacedRow → Type 0
  AllStand low rows = (before after : List PlacedRow) (x : PlacedRow) → rows ≡ before ++ x ∷ after → is_in k x.0 ≡ true → StandsIn (end_from k low before) x

  goes_of : (low : ℕ) (xs : List PlacedRow) → AllStand low xs → Goes low xs
  goes_of low [] h = tt
  goes_of low (x ∷ xs) h = (h [] xs x refl, goes_of (next k low x) xs (λ before after y e i. subst (λ n. StandsIn n y) (end_next k low x before) (h (x ∷ before) after y (ap (λ l. x ∷ l) e) i)))

  stand_of : (low : ℕ) (xs : List PlacedRow) → Goes low xs → AllStand low xs
  stand_of low [] g [] after x e i = absurd cc
  stand_of low [] g (z ∷ before) after x e i = absurd cc
  stand_of low (y ∷ ys) g [] after x e i = let same : y ≡ x = cc in let P : PlacedRow → Type 0 = λ z. is_in k z.0 ≡ true → StandsIn low z in subst P same g.0 i
  stand_of low (y ∷ ys) g (z ∷ before) after x e i =
      let same : y ≡ z = cc in
      let rest : ys ≡ before ++ x ∷ after = cc in
      subst (λ n. StandsIn n x) (ap (λ w. end_from k (next k low w) before) same ∙ sym (end_next k low z before)) (stand_of (next k low y) ys g.1 before after x rest i)

  -- one row: it is placed, or unchanged if it isn't in the area
  one_passes : (x : PlacedRow) (rs : List SegmentRow) (ss : List RowState) (low : ℕ) → IsRow needs x → (is_in k x.0 ≡ true → StandsIn low x) → rows_from k a b (x.0 ∷ rs) (spot needs k x ∷ ss) low ≡ (rows_from k a b rs ss (next k low x) >>= λ y. Ok (spot needs (k + 1) x ∷ y.0, y.1))
  one_passes x rs ss low one h = by (is_in k x.0) refl
    where
      by : (t : Bool) → is_in k x.0 ≡ t → rows_from k a b (x.0 ∷ rs) (spot needs k x ∷ ss) low ≡ (rows_from k a b rs ss (if t then end_at k x else low) >>= λ y. Ok (spot needs (k + 1) x ∷ y.0, y.1))
      by true i = row_in k a b x.0 rs (spot needs k x) ss low (spot needs (k + 1) x) (end_at k x) i (row_stands needs k a b x low i one (h i))
      by false i = row_out k a b x.0 rs (spot needs k x) ss low i ∙ ap (λ s. rows_from k a b rs ss low >>= λ y. Ok (s ∷ y.0, y.1)) (other_spot needs k x i)

  rows_pass : (xs tail : List PlacedRow) (low : ℕ) → AllByRecursion (IsRow needs) xs → Goes low xs →
      rows_from k a b (rows_of (xs ++ tail)) (map (spot needs k) (xs ++ tail)) low ≡ following (map (spot needs (k + 1)) xs) (rows_from k a b (rows_of tail) (map (spot needs k) tail) (end_from k low xs))
  rows_pass [] tail low each g = sym (whole_of (rows_from k a b (rows_of tail) (map (spot needs k) tail) low))
  rows_pass (x ∷ xs) tail low each g =
      one_passes x (rows_of (xs ++ tail)) (map (spot needs k) (xs ++ tail)) low each.0 g.0
      ∙ ap (λ q. q >>= λ y. Ok (spot needs (k + 1) x ∷ y.0, y.1)) (rows_pass xs tail (next k low x) each.1 g.1)
      ∙ after_cons (spot needs (k + 1) x) (map (spot needs (k + 1)) xs) (rows_from k a b (rows_of tail) (map (spot needs k) tail) (end_from k (next k low x) xs))
      ∙ ap (λ n. following (map (spot needs (k + 1)) (x ∷ xs)) (rows_from k a b (rows_of tail) (map (spot needs k) tail) n)) (sym (end_next k low x xs))

-- ---- The contexts of sums.

abbrev full : List SegmentNeed → PlacedRow → RowState
full needs x = record { size = size_of needs x.0.name; run = x.1.run; load = x.1.load }

full_spot : (needs : List SegmentNeed) (k : ℕ) (x : PlacedRow) → Stays k x.0 (full needs x) (spot needs k x)
full_spot needs k x = record { size = refl; run = λ lt. grind (arith, common_steps, nat_tests); load = λ lt. grind (arith, common_steps, nat_tests) }

full_settled : (needs : List SegmentNeed) (k : ℕ) (xs : List PlacedRow) → Settled k (rows_of xs) (map (full needs) xs) (map (spot needs k) xs)
full_settled needs k [] = tt
full_settled needs k (x ∷ xs) = (full_spot needs k x, full_settled needs k xs)

full_places : (needs : List SegmentNeed) (xs : List PlacedRow) → AllByRecursion (IsRow needs) xs → map row_placement (map (full needs) xs) ≡ places_of xs
full_places needs [] each = refl
full_places needs (x ∷ xs) each = grind (arith, common_steps, (full_places needs xs each.1), each.0.size)

-- the context of an area's sums, by the states of rows
abbrev looked : ℕ → MemoryArea → List MemoryArea → List SegmentRow → List AreaPlacement → List RowState → Option ℕ → SumContextView
looked k a areas rows placed ss start = record { k = k; own = a; areas = areas; rows = rows; area_placements = placed; row_placements = map row_placement ss; start = start }

sum_agrees : (k : ℕ) (a : MemoryArea) (areas : List MemoryArea) (rows : List SegmentRow) (placed : List AreaPlacement) (ss us : List RowState) (start : Option ℕ) (ts : List Term) → Settled k rows ss us → sum_in (looked k a areas rows placed us start) ts ≡ sum_in (looked k a areas rows placed ss start) ts
sum_agrees k a areas rows placed ss us start ts settled = by (first_unknown (looked k a areas rows placed ss start) ts) refl
  where
    known : Term → Bool
    known t = is_known k (is_some start) rows t

    by : (u : Option Term) → first_unknown (looked k a areas rows placed ss start) ts ≡ u → sum_or_unknown (looked k a areas rows placed us start) ts u ≡ sum_or_unknown (looked k a areas rows placed ss start) ts u
    by (Some t) e = refl
    by None e =
        let placements = placed ++ own_placement start in
        let all = none_found (is_known k (is_some start) rows) ts e in
        let same = come_same (is_known k (is_some start) rows) (term_value placements (map row_placement ss)) (term_value placements (map row_placement us)) (λ t h. operand_same k (is_some start) rows placements placements ss us t.operand (record { before = λ j lt. refl; own = λ b. refl }) settled h) in
        let plus = same (λ t. not t.minus) ts all in
        let minus = same (λ t. t.minus) ts all in
        ap (λ n. number_or_fault a.name (difference n (sum_where (λ (t : Term). t.minus) (term_value placements (map row_placement us)) ts))) plus
        ∙ ap (λ n. number_or_fault a.name (difference (sum_where (λ (t : Term). not t.minus) (term_value placements (map row_placement ss)) ts) n)) minus

bounds_agree : (k : ℕ) (a : MemoryArea) (areas : List MemoryArea) (rows : List SegmentRow) (placed : List AreaPlacement) (ss us : List RowState) → Settled k rows ss us → bounds_in (looked k a areas rows placed us None) ≡ bounds_in (looked k a areas rows placed ss None)
bounds_agree k a areas rows placed ss us settled =
    ap (λ q. q >>= λ start. sum_in (looked k a areas rows placed us (Some start)) a.size >>= λ size. area_bounds a.name start size) (sum_agrees k a areas rows placed ss us None a.start settled)
    ∙ by (sum_in (looked k a areas rows placed ss None) a.start)
  where
    by : (q : Result ℕ PlaceFault) → (q >>= λ start. sum_in (looked k a areas rows placed us (Some start)) a.size >>= λ size. area_bounds a.name start size) ≡ (q >>= λ start. sum_in (looked k a areas rows placed ss (Some start)) a.size >>= λ size. area_bounds a.name start size)
    by (Ok n) = ap (λ q. q >>= λ size. area_bounds a.name n size) (sum_agrees k a areas rows placed ss us (Some n) a.size settled)
    by (Err f) = refl

-- ---- The placement of the areas by the cursor.

abbrev areas_of : List PlacedArea → List MemoryArea
areas_of xs = map (λ (x : PlacedArea). x.0) xs

abbrev ranges_of : List PlacedArea → List AreaPlacement
ranges_of xs = map (λ (x : PlacedArea). x.1) xs

area_step : (k : ℕ) (all : List MemoryArea) (rows : List SegmentRow) (a : MemoryArea) (rest : List MemoryArea) (placed : List AreaPlacement) (ss : List RowState) (b : Bounds) (ts : List RowState) (last : ℕ) → bounds_in (looked k a all rows placed ss None) ≡ Ok b → rows_from k a b rows ss b.start ≡ Ok (ts, last) → areas_from k all rows (a ∷ rest) placed ss ≡ areas_from (k + 1) all rows rest (placed ++ area_placement b last ∷ []) ts
area_step k all rows a rest placed ss b ts last e f = rw (e, f) refl

area_stops : (k : ℕ) (all : List MemoryArea) (rows : List SegmentRow) (a : MemoryArea) (rest : List MemoryArea) (placed : List AreaPlacement) (ss : List RowState) (f : PlaceFault) → bounds_in (looked k a all rows placed ss None) ≡ Err f → areas_from k all rows (a ∷ rest) placed ss ≡ Err f
area_stops k all rows a rest placed ss f e = rw e refl

rows_stop : (k : ℕ) (all : List MemoryArea) (rows : List SegmentRow) (a : MemoryArea) (rest : List MemoryArea) (placed : List AreaPlacement) (ss : List RowState) (b : Bounds) (f : PlaceFault) → bounds_in (looked k a all rows placed ss None) ≡ Ok b → rows_from k a b rows ss b.start ≡ Err f → areas_from k all rows (a ∷ rest) placed ss ≡ Err f
rows_stop k all rows a rest placed ss b f e g = rw (e, g) refl

range_is : (placement : AreaPlacement) (last : ℕ) → placement.last ≡ last → area_placement (bounds_of placement) last ≡ placement
range_is placement last e = grind (arith, common_steps)

ranges_more : (before : List PlacedArea) (x : PlacedArea) → ranges_of (before ++ x ∷ []) ≡ ranges_of before ++ x.1 ∷ []
ranges_more [] x = refl
ranges_more (y ∷ before) x = ap (λ l. y.1 ∷ l) (ranges_more before x)

areas_more : (before : List PlacedArea) (x : PlacedArea) → areas_of (before ++ x ∷ []) ≡ areas_of before ++ x.0 ∷ []
areas_more [] x = refl
areas_more (y ∷ before) x = ap (λ l. y.0 ∷ l) (areas_more before x)

count_more : (before : List PlacedArea) (x : PlacedArea) → length (before ++ x ∷ []) ≡ length before + 1
count_more before x = omega (arith, length-append before (x ∷ []))

module _ (script : Script) (needs : List SegmentNeed) (rows : List PlacedRow) (these : rows_of rows ≡ script.rows) (each : AllByRecursion (IsRow needs) rows) where
  -- the bounds by the states of rows are the bounds by their placements
  bounds_there : (before : List PlacedArea) (a : MemoryArea) → bounds_in (looked (length before) a script.areas script.rows (ranges_of before) (map (spot needs (length before)) rows) None) ≡ bounds_in (sum_context script before rows a)
  bounds_there before a =
      let settled : Settled (length before) script.rows (map (full needs) rows) (map (spot needs (length before)) rows) = subst (λ l. Settled (length before) l (map (full needs) rows) (map (spot needs (length before)) rows)) these (full_settled needs (length before) rows) in
      let F : List RowPlacement → SumContextView = λ l. record { k = length before; own = a; areas = script.areas; rows = script.rows; area_placements = ranges_of before; row_placements = l; start = None } in
      bounds_agree (length before) a script.areas script.rows (ranges_of before) (map (full needs) rows) (map (spot needs (length before)) rows) settled
      ∙ ap (λ l. bounds_in (F l)) (full_places needs rows each)

  rows_there : (k : ℕ) (a : MemoryArea) (b : Bounds) → ArePlacedRows needs k a b rows → rows_from k a b script.rows (map (spot needs k) rows) b.start ≡ Ok (map (spot needs (k + 1)) rows, end_of_rows k b rows)
  rows_there k a b h =
      let P : List PlacedRow → Type 0 = λ l. rows_from k a b (rows_of l) (map (spot needs k) l) b.start ≡ following (map (spot needs (k + 1)) rows) (rows_from k a b [] [] (end_of_rows k b rows)) in
      let passed = subst P (append-nil rows) (rows_pass needs k a b rows [] b.start each (goes_of needs k a b b.start rows h)) in
      let F : List RowState → Result (List RowState × ℕ) PlaceFault = λ l. Ok (l, end_of_rows k b rows) in
      let whole = passed ∙ ap F (append-nil (map (spot needs (k + 1)) rows)) in
      subst (λ l. rows_from k a b l (map (spot needs k) rows) b.start ≡ Ok (map (spot needs (k + 1)) rows, end_of_rows k b rows)) these whole

  abbrev Left : List PlacedArea → List MemoryArea → Result Placement PlaceFault
  Left before tail = areas_from (length before) script.areas script.rows tail (ranges_of before) (map (spot needs (length before)) rows)

  one_area : (before : List PlacedArea) (x : PlacedArea) (tail : List MemoryArea) → IsPlacedArea script needs before rows x → Left before (x.0 ∷ tail) ≡ Left (before ++ x ∷ []) tail
  one_area before x tail h =
      let k = length before in
      let last = end_of_rows k (bounds_of x.1) rows in
      let step = area_step k script.areas script.rows x.0 tail (ranges_of before) (map (spot needs k) rows) (bounds_of x.1) (map (spot needs (k + 1)) rows) last (bounds_there before x.0 ∙ h.bounds) (rows_there k x.0 (bounds_of x.1) h.rows_placed) in
      let F : ℕ → List AreaPlacement → Result Placement PlaceFault = λ n l. areas_from n script.areas script.rows tail l (map (spot needs n) rows) in
      step
      ∙ ap (λ z. F (k + 1) (ranges_of before ++ z ∷ [])) (range_is x.1 last h.last)
      ∙ ap (λ l. F (k + 1) l) (sym (ranges_more before x))
      ∙ ap (λ n. F n (ranges_of (before ++ x ∷ []))) (sym (count_more before x))

  areas_pass : (after before : List PlacedArea) (tail : List MemoryArea) → ((b c : List PlacedArea) (x : PlacedArea) → before ++ after ≡ b ++ x ∷ c → IsPlacedArea script needs b rows x) → Left before (areas_of after ++ tail) ≡ Left (before ++ after) tail
  areas_pass [] before tail h = ap (λ l. Left l tail) (sym (append-nil before))
  areas_pass (x ∷ after) before tail h =
      one_area before x (areas_of after ++ tail) (h before after x refl)
      ∙ areas_pass after (before ++ x ∷ []) tail (λ b c y e. h b c y (sym (append_assoc before (x ∷ []) after) ∙ e))
      ∙ ap (λ l. Left l tail) (append_assoc before (x ∷ []) after)

  begin_spots : map (unplaced_row needs) script.rows ≡ map (spot needs 0) rows
  begin_spots = subst (λ l. map (unplaced_row needs) l ≡ map (spot needs 0) rows) these (by rows)
    where
      by : (xs : List PlacedRow) → map (unplaced_row needs) (rows_of xs) ≡ map (spot needs 0) xs
      by [] = refl
      by (x ∷ xs) = grind (arith, common_steps, nat_tests, (by xs))

  from_begin : (areas : List PlacedArea) (tail : List MemoryArea) → ((b c : List PlacedArea) (x : PlacedArea) → areas ≡ b ++ x ∷ c → IsPlacedArea script needs b rows x) → areas_of areas ++ tail ≡ script.areas → areas_from 0 script.areas script.rows script.areas [] (map (unplaced_row needs) script.rows) ≡ Left areas tail
  from_begin areas tail h all =
      ap (λ ss. areas_from 0 script.areas script.rows script.areas [] ss) begin_spots
      ∙ subst (λ l. areas_from 0 script.areas script.rows l [] (map (spot needs 0) rows) ≡ Left areas tail) all (areas_pass areas [] tail h)

-- ---- Needs and their rows.

all_have : (script : Script) (needs : List SegmentNeed) → HaveRows script needs → rows_exist script.rows needs ≡ Ok tt
all_have script [] h = refl
all_have script (n ∷ needs) h = rw h.0 (all_have script needs h.1)

one_lacks : (script : Script) (before after : List SegmentNeed) (n : SegmentNeed) → HaveRows script before → has_row script.rows n.name ≡ false → rows_exist script.rows (before ++ n ∷ after) ≡ Err (NoRow n.name)
one_lacks script [] after n h no_row = rw no_row refl
one_lacks script (m ∷ before) after n h no_row = rw h.0 (one_lacks script before after n h.1 no_row)

from_needs : (script : Script) (needs : List SegmentNeed) → HaveRows script needs → place_of script needs ≡ areas_from 0 script.areas script.rows script.areas [] (map (unplaced_row needs) script.rows)
from_needs script needs h = ap (λ q. q >>= λ u. areas_from 0 script.areas script.rows script.areas [] (map (unplaced_row needs) script.rows)) (all_have script needs h)

-- ---- A placement by the definition is the placement that the cursor computes.

shown : (needs : List SegmentNeed) (n : ℕ) (xs : List PlacedRow) → AllByRecursion (IsRow needs) xs → AllByRecursion (HasZeroAddress n) xs → map row_placement (map (spot needs n) xs) ≡ places_of xs
shown needs n [] each other = refl
shown needs n (x ∷ xs) each other = let o = other.0 in let e = each.0.size in let one : row_placement (spot needs n x) ≡ x.1 = grind (arith, common_steps, nat_tests) in ap (λ (p : RowPlacement). p ∷ map row_placement (map (spot needs n) xs)) one ∙ ap (λ l. x.1 ∷ l) (shown needs n xs each.1 other.1)

areas_counted : (xs : List PlacedArea) → length (areas_of xs) ≡ length xs
areas_counted [] = refl
areas_counted (x ∷ xs) = ap suc (areas_counted xs)

is_placement : (script : Script) (needs : List SegmentNeed) (p : Placement) → IsPlacement script needs p → Ok p ≡ place_of script needs
is_placement script needs p h =
    let s = h.stand in
    let n = length h.areas in
    let count : length script.areas ≡ n = sym (ap length h.all) ∙ areas_counted h.areas in
    let F : List AreaPlacement → List RowPlacement → Result Placement PlaceFault = λ ps rs. Ok (record { areas = ps; rows = rs }) in
    let other : AllByRecursion (HasZeroAddress n) h.rows = subst (λ m. AllByRecursion (HasZeroAddress m) h.rows) count h.elsewhere in
    ap (λ ps. F ps p.rows) h.area_placements
    ∙ ap (λ rs. F (ranges_of h.areas) rs) (h.row_placements ∙ sym (shown needs n h.rows s.each other))
    ∙ sym (from_begin script needs h.rows s.these s.each h.areas [] s.areas_placed (append-nil (areas_of h.areas) ∙ h.all))
    ∙ sym (from_needs script needs h.have_rows)

all_front : (needs : List SegmentNeed) (xs ys : List PlacedRow) → AllByRecursion (IsRow needs) (xs ++ ys) → AllByRecursion (IsRow needs) xs
all_front needs [] ys h = tt
all_front needs (x ∷ xs) ys h = (h.0, all_front needs xs ys h.1)

rows_fail : (needs : List SegmentNeed) (k : ℕ) (a : MemoryArea) (b : Bounds) (rows : List PlacedRow) (f : PlaceFault) → AllByRecursion (IsRow needs) rows → IsRowFault needs k a b rows f → rows_from k a b (rows_of rows) (map (spot needs k) rows) b.start ≡ Err f
rows_fail needs k a b rows f each h =
    let P : List PlacedRow → Type 0 = λ l. rows_from k a b (rows_of l) (map (spot needs k) l) b.start ≡ Err f in
    let before_each = all_front needs h.before (h.row ∷ h.after) (subst (AllByRecursion (IsRow needs)) h.split each) in
    let end = end_of_rows k b h.before in
    let stopped = row_stops k a b h.row.0 (rows_of h.after) (spot needs k h.row) (map (spot needs k) h.after) end f h.inside (row_fails needs k a b h.row.0 (spot needs k h.row) end f h.fault) in
    subst P (sym h.split) (rows_pass needs k a b h.before (h.row ∷ h.after) b.start before_each (goes_of needs k a b b.start h.before h.stand) ∙ ap (following (map (spot needs (k + 1)) h.before)) stopped)

is_fault : (script : Script) (needs : List SegmentNeed) (f : PlaceFault) → FirstFault script needs f → Err f ≡ place_of script needs
is_fault script needs _ (of_need before after n e have no_row) =
    let stopped = subst (λ l. rows_exist script.rows l ≡ Err (NoRow n.name)) (sym e) (one_lacks script before after n have no_row) in
    sym (ap (λ q. q >>= λ u. areas_from 0 script.areas script.rows script.areas [] (map (unplaced_row needs) script.rows)) stopped)
is_fault script needs _ (of_area areas rows a f h e) =
    let s = h.stand in
    let k = length areas in
    let stopped = area_stops k script.areas script.rows a h.rest (ranges_of areas) (map (spot needs k) rows) f (bounds_there script needs rows s.these s.each areas a ∙ e) in
    sym (from_needs script needs h.have_rows ∙ from_begin script needs rows s.these s.each areas (a ∷ h.rest) s.areas_placed h.next ∙ stopped)
is_fault script needs _ (of_row areas rows a b f h e g) =
    let s = h.stand in
    let k = length areas in
    let fails = subst (λ l. rows_from k a b l (map (spot needs k) rows) b.start ≡ Err f) s.these (rows_fail needs k a b rows f s.each g) in
    let stopped = rows_stop k script.areas script.rows a h.rest (ranges_of areas) (map (spot needs k) rows) b f (bounds_there script needs rows s.these s.each areas a ∙ e) fails in
    sym (from_needs script needs h.have_rows ∙ from_begin script needs rows s.these s.each areas (a ∷ h.rest) s.areas_placed h.next ∙ stopped)

-- ---- A row has an address, or an error.

may_or : (k : ℕ) (a : MemoryArea) (r : SegmentRow) → CanRun k a r ⊎ ((a.read_only ≡ true) × (r.run ≡ k) × (is_read_only r.access ≡ false))
may_or k a r = by a.read_only (is_read_only r.access) refl refl (same_or r.run k)
  where
    by : (x y : Bool) → a.read_only ≡ x → is_read_only r.access ≡ y → (r.run ≡ k) ⊎ (r.run ≢ k) → CanRun k a r ⊎ ((a.read_only ≡ true) × (r.run ≡ k) × (is_read_only r.access ≡ false))
    by false y ro e s = inl (λ t same. absurd cc)
    by true true ro e s = inl (λ t same. e)
    by true false ro e (inl same) = inr (ro, same, e)
    by true false ro e (inr other) = inl (λ t same. absurd (other same))

abbrev RowComes : ℕ → MemoryArea → Bounds → SegmentRow → Option ℕ → ℕ → Type 0
RowComes k a b r o low = ((at : ℕ) × IsPlacedAt k a b r o low at × (at + unwrap_or o 0 ≤ b.end)) ⊎ ((f : PlaceFault) × RowFault k a b r o low f)

sized_comes : (k : ℕ) (a : MemoryArea) (b : Bounds) (r : SegmentRow) (o : Option ℕ) (low : ℕ) → low ≤ b.end → CanRun k a r → RowComes k a b r o low
sized_comes k a b r None low capacity may = inl (low, record { may_run = may; stands = refl }, omega arith)
sized_comes k a b r (Some n) low capacity may = by (lt_or at low) (lt_or b.end (at + n))
  where
    at : ℕ
    at = begin_in k b r low

    begins : IsRowAddress k b r low at
    begins = begins_there k b r low

    by : (at < low) ⊎ (low ≤ at) → (b.end < at + n) ⊎ (at + n ≤ b.end) → RowComes k a b r (Some n) low
    by (inl lt) y = inr (StartBelow r.name, below n at may refl begins lt)
    by (inr le) (inl past) = inr (Overflow a.name (at + n - b.end), over n at (at + n - b.end) may refl begins le (omega arith) (omega arith))
    by (inr le) (inr fits) = inl (at, record { may_run = may; stands = record { begins = begins; following = le; within = fits } }, fits)

row_comes : (k : ℕ) (a : MemoryArea) (b : Bounds) (r : SegmentRow) (o : Option ℕ) (low : ℕ) → low ≤ b.end → RowComes k a b r o low
row_comes k a b r o low capacity = by (may_or k a r)
  where
    by : CanRun k a r ⊎ ((a.read_only ≡ true) × (r.run ≡ k) × (is_read_only r.access ≡ false)) → RowComes k a b r o low
    by (inl may) = sized_comes k a b r o low capacity may
    by (inr h) = inr (ReadOnlyArea r.name, read_only h.0 h.1 h.2)

-- ---- Only the rows of one area change.

record Fresh (k : ℕ) (x y : PlacedRow) : Type 0 where
  pub row : y.0 ≡ x.0
  pub size : y.1.size ≡ x.1.size
  pub run : x.0.run ≢ k → y.1.run ≡ x.1.run
  pub load : x.0.load ≢ k → y.1.load ≡ x.1.load
  pub one : x.0.run ≡ x.0.load → x.1.run ≡ x.1.load → y.1.run ≡ y.1.load

abbrev AllFresh : ℕ → List PlacedRow → List PlacedRow → Type 0
AllFresh k [] [] = ⊤
AllFresh k [] (y ∷ ys) = ⊥
AllFresh k (x ∷ xs) [] = ⊥
AllFresh k (x ∷ xs) (y ∷ ys) = Fresh k x y × AllFresh k xs ys

fresh_same : (k : ℕ) (x : PlacedRow) → Fresh k x x
fresh_same k x = record { row = refl; size = refl; run = λ n. refl; load = λ n. refl; one = λ e h. h }

all_same : (k : ℕ) (xs : List PlacedRow) → AllFresh k xs xs
all_same k [] = tt
all_same k (x ∷ xs) = (fresh_same k x, all_same k xs)

abbrev placed_at : ℕ → PlacedRow → ℕ → PlacedRow
placed_at k x at = (x.0, record { load = if x.0.load == k then at else x.1.load; run = if x.0.run == k then at else x.1.run; size = x.1.size })

fresh_at : (k : ℕ) (x : PlacedRow) (at : ℕ) → Fresh k x (placed_at k x at)
fresh_at k x at = record {
  row = refl;
  size = refl;
  run = λ n. grind (arith, common_steps, nat_tests);
  load = λ n. grind (arith, common_steps, nat_tests);
  one = λ e h. grind (arith, common_steps, nat_tests);
}

address_there : (k : ℕ) (x : PlacedRow) (at : ℕ) → is_in k x.0 ≡ true → address_in k x.0 (placed_at k x at).1 ≡ at
unfolding is_in
address_there k x at i = grind (arith, common_steps, nat_tests)

address_fresh : (j k : ℕ) (x y : PlacedRow) → j ≢ k → Fresh k x y → is_in j x.0 ≡ true → address_in j x.0 y.1 ≡ address_in j x.0 x.1
unfolding is_in
address_fresh j k x y apart f i = grind (arith, common_steps, nat_tests)

end_fresh : (j k : ℕ) (x y : PlacedRow) → j ≢ k → Fresh k x y → is_in j x.0 ≡ true → end_at j y ≡ end_at j x
end_fresh j k x y apart f i = ap (λ r. address_in j r y.1 + y.1.size) f.row ∙ ap (λ n. n + y.1.size) (address_fresh j k x y apart f i) ∙ ap (λ n. address_in j x.0 x.1 + n) f.size

next_fresh : (j k low : ℕ) (x y : PlacedRow) → j ≢ k → Fresh k x y → next j low y ≡ next j low x
next_fresh j k low x y apart f = ap (λ r. if is_in j r then end_at j y else low) f.row ∙ by (is_in j x.0) refl
  where
    by : (t : Bool) → is_in j x.0 ≡ t → (if t then end_at j y else low) ≡ (if t then end_at j x else low)
    by true i = end_fresh j k x y apart f i
    by false i = refl

ends_fresh : (j k low : ℕ) (xs ys : List PlacedRow) → j ≢ k → AllFresh k xs ys → end_from j low ys ≡ end_from j low xs
ends_fresh j k low [] [] apart f = refl
ends_fresh j k low [] (y ∷ ys) apart f = absurd f
ends_fresh j k low (x ∷ xs) [] apart f = absurd f
ends_fresh j k low (x ∷ xs) (y ∷ ys) apart f = end_next j low y ys ∙ ap (λ n. end_from j n ys) (next_fresh j k low x y apart f.0) ∙ ends_fresh j k (next j low x) xs ys apart f.1 ∙ sym (end_next j low x xs)

goes_fresh : (needs : List SegmentNeed) (j k : ℕ) (a : MemoryArea) (b : Bounds) (low : ℕ) (xs ys : List PlacedRow) → j ≢ k → AllFresh k xs ys → Goes needs j a b low xs → Goes needs j a b low ys
goes_fresh needs j k a b low [] [] apart f g = tt
goes_fresh needs j k a b low [] (y ∷ ys) apart f g = absurd f
goes_fresh needs j k a b low (x ∷ xs) [] apart f g = absurd f
goes_fresh needs j k a b low (x ∷ xs) (y ∷ ys) apart f g =
    let P : SegmentRow → Type 0 = λ r. is_in j r ≡ true → IsPlacedAt j a b r (size_of needs r.name) low (address_in j r y.1) in
    let Q : ℕ → Type 0 = λ n. IsPlacedAt j a b x.0 (size_of needs x.0.name) low n in
    let here : P x.0 = λ i. subst Q (sym (address_fresh j k x y apart f.0 i)) (g.0 i) in
    (subst P (sym f.0.row) here, subst (λ n. Goes needs j a b n ys) (sym (next_fresh j k low x y apart f.0)) (goes_fresh needs j k a b (next j low x) xs ys apart f.1 g.1))

each_fresh : (needs : List SegmentNeed) (k : ℕ) (xs ys : List PlacedRow) → AllFresh k xs ys → AllByRecursion (IsRow needs) xs → AllByRecursion (IsRow needs) ys
each_fresh needs k [] [] f h = tt
each_fresh needs k [] (y ∷ ys) f h = absurd f
each_fresh needs k (x ∷ xs) [] f h = absurd f
each_fresh needs k (x ∷ xs) (y ∷ ys) f h =
    let one = f.0 in
    let old = h.0 in (
      record { size = one.size ∙ old.size ∙ ap (λ (r : SegmentRow). unwrap_or (size_of needs r.name) 0) (sym one.row); one = λ e. let same : x.0.run ≡ x.0.load = ap (λ (r : SegmentRow). r.run) (sym one.row) ∙ e ∙ ap (λ (r : SegmentRow). r.load) one.row in one.one same (old.one same) },
      each_fresh needs k xs ys f.1 h.1,
    )

elsewhere_fresh : (n k : ℕ) (xs ys : List PlacedRow) → k < n → AllFresh k xs ys → AllByRecursion (HasZeroAddress n) xs → AllByRecursion (HasZeroAddress n) ys
elsewhere_fresh n k [] [] lt f h = tt
elsewhere_fresh n k [] (y ∷ ys) lt f h = absurd f
elsewhere_fresh n k (x ∷ xs) [] lt f h = absurd f
elsewhere_fresh n k (x ∷ xs) (y ∷ ys) lt f h =
    let one = f.0 in
    let old = h.0 in
    let run : y.0.run ≡ x.0.run = ap (λ (r : SegmentRow). r.run) one.row in
    let load : y.0.load ≡ x.0.load = ap (λ (r : SegmentRow). r.load) one.row in (
      record { run = λ le. one.run (λ e. absurd (omega arith)) ∙ old.run (omega arith); load = λ le. one.load (λ e. absurd (omega arith)) ∙ old.load (omega arith) },
      elsewhere_fresh n k xs ys lt f.1 h.1,
    )

rows_fresh : (k : ℕ) (xs ys : List PlacedRow) → AllFresh k xs ys → rows_of ys ≡ rows_of xs
rows_fresh k [] [] f = refl
rows_fresh k [] (y ∷ ys) f = absurd f
rows_fresh k (x ∷ xs) [] f = absurd f
rows_fresh k (x ∷ xs) (y ∷ ys) f = ap (λ (r : SegmentRow). r ∷ rows_of ys) f.0.row ∙ ap (λ l. x.0 ∷ l) (rows_fresh k xs ys f.1)

settled_fresh : (needs : List SegmentNeed) (j k : ℕ) (xs ys : List PlacedRow) → j ≤ k → AllFresh k xs ys → Settled j (rows_of xs) (map (full needs) xs) (map (full needs) ys)
settled_fresh needs j k [] [] le f = tt
settled_fresh needs j k [] (y ∷ ys) le f = absurd f
settled_fresh needs j k (x ∷ xs) [] le f = absurd f
settled_fresh needs j k (x ∷ xs) (y ∷ ys) le f =
    let one = f.0 in (
      record { size = ap (λ (r : SegmentRow). size_of needs r.name) one.row; run = λ lt. one.run (λ e. absurd (omega arith)); load = λ lt. one.load (λ e. absurd (omega arith)) },
      settled_fresh needs j k xs ys le f.1,
    )

-- ---- The rows of an area have addresses, or one of them has the first error.

record FaultFrom (needs : List SegmentNeed) (k : ℕ) (a : MemoryArea) (b : Bounds) (low : ℕ) (rows : List PlacedRow) : Type 0 where
  pub f : PlaceFault
  pub before : List PlacedRow
  pub row : PlacedRow
  pub after : List PlacedRow
  pub split : rows ≡ before ++ row ∷ after
  pub inside : is_in k row.0 ≡ true
  pub goes : Goes needs k a b low before
  pub fault : RowFault k a b row.0 (size_of needs row.0.name) (end_from k low before) f

record RowsCome (needs : List SegmentNeed) (k : ℕ) (a : MemoryArea) (b : Bounds) (low : ℕ) (xs : List PlacedRow) : Type 0 where
  pub rows : List PlacedRow
  pub fresh : AllFresh k xs rows
  pub so : Goes needs k a b low rows ⊎ FaultFrom needs k a b low rows

module _ (needs : List SegmentNeed) (k : ℕ) (a : MemoryArea) (b : Bounds) where
  one_more : (x y : PlacedRow) (xs : List PlacedRow) (low m : ℕ) → Fresh k x y → next k low y ≡ m → (is_in k y.0 ≡ true → StandsIn needs k a b low y) → RowsCome needs k a b m xs → RowsCome needs k a b low (x ∷ xs)
  one_more x y xs low m f e h more = record { rows = y ∷ more.rows; fresh = (f, more.fresh); so = by more.so }
    where
      by : Goes needs k a b m more.rows ⊎ FaultFrom needs k a b m more.rows → Goes needs k a b low (y ∷ more.rows) ⊎ FaultFrom needs k a b low (y ∷ more.rows)
      by (inl g) = inl (h, subst (λ n. Goes needs k a b n more.rows) (sym e) g)
      by (inr g) = inr (record {
        f = g.f;
        before = y ∷ g.before;
        row = g.row;
        after = g.after;
        split = ap (λ l. y ∷ l) g.split;
        inside = g.inside;
        goes = (h, subst (λ n. Goes needs k a b n g.before) (sym e) g.goes);
        fault = subst (λ n. RowFault k a b g.row.0 (size_of needs g.row.0.name) n g.f) (sym (end_next k low y g.before ∙ ap (λ n. end_from k n g.before) e)) g.fault;
      })

  rows_come : (xs : List PlacedRow) (low : ℕ) → low ≤ b.end → AllByRecursion (IsRow needs) xs → RowsCome needs k a b low xs
  rows_come [] low capacity each = record { rows = []; fresh = tt; so = inl tt }
  rows_come (x ∷ xs) low capacity each = by (is_in k x.0) refl (λ m high. rows_come xs m high each.1)
    where
      by : (t : Bool) → is_in k x.0 ≡ t → ((m : ℕ) → m ≤ b.end → RowsCome needs k a b m xs) → RowsCome needs k a b low (x ∷ xs)
      by false i again = one_more x x xs low low (fresh_same k x) (rw i refl) (λ j. let never : true ≡ false = sym j ∙ i in absurd cc) (again low capacity)
      by true i again = placed (row_comes k a b x.0 (size_of needs x.0.name) low capacity)
        where
          placed : RowComes k a b x.0 (size_of needs x.0.name) low → RowsCome needs k a b low (x ∷ xs)
          placed (inl h) =
              let at : ℕ = h.0 in
              let y : PlacedRow = placed_at k x at in
              let there : address_in k x.0 y.1 ≡ at = address_there k x at i in
              let size : x.1.size ≡ unwrap_or (size_of needs x.0.name) 0 = each.0.size in
              let high : at + unwrap_or (size_of needs x.0.name) 0 ≤ b.end = h.2 in
              let ends : next k low y ≡ at + x.1.size = rw i (ap (λ n. n + x.1.size) there) in
              let fits : at + x.1.size ≤ b.end = omega arith in
              one_more x y xs low (at + x.1.size) (fresh_at k x at) ends (λ j. subst (λ n. IsPlacedAt k a b x.0 (size_of needs x.0.name) low n) (sym there) h.1) (again (at + x.1.size) fits)
          placed (inr h) = record {
            rows = x ∷ xs;
            fresh = all_same k (x ∷ xs);
            so = inr (record { f = h.0; before = []; row = x; after = xs; split = refl; inside = i; goes = tt; fault = h.1 });
          }

-- ---- The areas are placed, or there is a first error.

split_last : (areas before after : List PlacedArea) (x y : PlacedArea) → areas ++ x ∷ [] ≡ before ++ y ∷ after → ((before ≡ areas) × (y ≡ x)) ⊎ ((c : List PlacedArea) × (areas ≡ before ++ y ∷ c))
split_last [] [] after x y e = let same : x ≡ y = cc in inl (refl, sym same)
split_last [] (z ∷ []) after x y e = absurd cc
split_last [] (z ∷ w ∷ before) after x y e = absurd cc
split_last (z ∷ areas) [] after x y e = let same : z ≡ y = cc in inr (areas, ap (λ w. w ∷ areas) same)
split_last (z ∷ areas) (w ∷ before) after x y e =
    let same : z ≡ w = cc in
    let rest : areas ++ x ∷ [] ≡ before ++ y ∷ after = cc in
    by same (split_last areas before after x y rest)
  where
    by : z ≡ w → ((before ≡ areas) × (y ≡ x)) ⊎ ((c : List PlacedArea) × (areas ≡ before ++ y ∷ c)) → ((w ∷ before ≡ z ∷ areas) × (y ≡ x)) ⊎ ((c : List PlacedArea) × (z ∷ areas ≡ w ∷ before ++ y ∷ c))
    by same (inl h) = inl (ap (λ v. v ∷ before) (sym same) ∙ ap (λ l. z ∷ l) h.0, h.1)
    by same (inr h) = inr (h.0, ap (λ v. v ∷ areas) same ∙ ap (λ l. w ∷ l) h.1)

module _ (script : Script) (needs : List SegmentNeed) (k : ℕ) (xs ys : List PlacedRow) (fresh : AllFresh k xs ys) (these : rows_of xs ≡ script.rows) (each : AllByRecursion (IsRow needs) xs) where
  bounds_fresh : (before : List PlacedArea) (a : MemoryArea) → length before ≤ k → bounds_in (sum_context script before ys a) ≡ bounds_in (sum_context script before xs a)
  bounds_fresh before a le =
      let j = length before in
      let settled : Settled j script.rows (map (full needs) xs) (map (full needs) ys) = subst (λ l. Settled j l (map (full needs) xs) (map (full needs) ys)) these (settled_fresh needs j k xs ys le fresh) in
      let F : List RowPlacement → SumContextView = λ l. record { k = j; own = a; areas = script.areas; rows = script.rows; area_placements = ranges_of before; row_placements = l; start = None } in
      ap (λ l. bounds_in (F l)) (sym (full_places needs ys (each_fresh needs k xs ys fresh each)))
      ∙ bounds_agree j a script.areas script.rows (ranges_of before) (map (full needs) xs) (map (full needs) ys) settled
      ∙ ap (λ l. bounds_in (F l)) (full_places needs xs each)

  area_fresh : (before : List PlacedArea) (x : PlacedArea) → length before < k → IsPlacedArea script needs before xs x → IsPlacedArea script needs before ys x
  area_fresh before x lt h =
      let j = length before in
      let b = bounds_of x.1 in
      let apart : j ≢ k = λ e. absurd (omega arith) in
      record {
        bounds = bounds_fresh before x.0 (omega arith) ∙ h.bounds;
        rows_placed = stand_of needs j x.0 b b.start ys (goes_fresh needs j k x.0 b b.start xs ys apart fresh (goes_of needs j x.0 b b.start xs h.rows_placed));
        last = h.last ∙ sym (ends_fresh j k b.start xs ys apart fresh);
      }

front_less : (areas before after : List PlacedArea) (x : PlacedArea) → areas ≡ before ++ x ∷ after → length before < length areas
front_less areas before after x e = omega (arith, ap length e, length-append before (x ∷ after))

stand_fresh : (script : Script) (needs : List SegmentNeed) (areas : List PlacedArea) (xs ys : List PlacedRow) → AllFresh (length areas) xs ys → ArePlacedAreas script needs areas xs → ArePlacedAreas script needs areas ys
stand_fresh script needs areas xs ys f h = record {
  these = rows_fresh (length areas) xs ys f ∙ h.these;
  each = each_fresh needs (length areas) xs ys f h.each;
  areas_placed = λ before after x e. area_fresh script needs (length areas) xs ys f h.these h.each before x (front_less areas before after x e) (h.areas_placed before after x e);
}

stand_more : (script : Script) (needs : List SegmentNeed) (areas : List PlacedArea) (rows : List PlacedRow) (x : PlacedArea) → ArePlacedAreas script needs areas rows → IsPlacedArea script needs areas rows x → ArePlacedAreas script needs (areas ++ x ∷ []) rows
stand_more script needs areas rows x h one = record { these = h.these; each = h.each; areas_placed = λ before after y e. by before y (split_last areas before after x y e) }
  where
    by : (before : List PlacedArea) (y : PlacedArea) → ((before ≡ areas) × (y ≡ x)) ⊎ ((c : List PlacedArea) × (areas ≡ before ++ y ∷ c)) → IsPlacedArea script needs before rows y
    by before y (inl s) = subst (λ l. IsPlacedArea script needs l rows y) (sym s.0) (subst (IsPlacedArea script needs areas rows) (sym s.1) one)
    by before y (inr s) = h.areas_placed before s.0 y s.1

abbrev Comes : Script → List SegmentNeed → Type 0
Comes script needs = (r : Result Placement PlaceFault) × PlacementResult script needs r

module _ (script : Script) (needs : List SegmentNeed) (have : HaveRows script needs) where
  ended : (areas : List PlacedArea) (rows : List PlacedRow) → ArePlacedAreas script needs areas rows → areas_of areas ≡ script.areas → AllByRecursion (HasZeroAddress (length script.areas)) rows → Comes script needs
  ended areas rows h all other = (
    Ok (record { areas = ranges_of areas; rows = places_of rows }),
    record {
      have_rows = have;
      areas = areas;
      rows = rows;
      stand = h;
      all = all;
      elsewhere = other;
      area_placements = refl;
      row_placements = refl;
    },
  )

  row_faults : (areas : List PlacedArea) (rows : List PlacedRow) (a : MemoryArea) (rest : List MemoryArea) (b : Bounds) → ArePlacedAreas script needs areas rows → areas_of areas ++ a ∷ rest ≡ script.areas → bounds_in (sum_context script areas rows a) ≡ Ok b → FaultFrom needs (length areas) a b b.start rows → Comes script needs
  row_faults areas rows a rest b h all e g = (
    Err g.f,
    of_row areas rows a b g.f (record { have_rows = have; stand = h; rest = rest; next = all }) e (record {
      before = g.before;
      row = g.row;
      after = g.after;
      split = g.split;
      inside = g.inside;
      stand = stand_of needs (length areas) a b b.start g.before g.goes;
      fault = g.fault;
    }),
  )

  areas_come : (rest : List MemoryArea) (areas : List PlacedArea) (rows : List PlacedRow) → ArePlacedAreas script needs areas rows → areas_of areas ++ rest ≡ script.areas → AllByRecursion (HasZeroAddress (length script.areas)) rows → Comes script needs
  areas_come [] areas rows h all other = ended areas rows h (sym (append-nil (areas_of areas)) ∙ all) other
  areas_come (a ∷ rest) areas rows h all other = by (bounds_in (sum_context script areas rows a)) refl (λ more rs. areas_come rest more rs)
    where
      by : (q : Result Bounds PlaceFault) → bounds_in (sum_context script areas rows a) ≡ q → ((more : List PlacedArea) (rs : List PlacedRow) → ArePlacedAreas script needs more rs → areas_of more ++ rest ≡ script.areas → AllByRecursion (HasZeroAddress (length script.areas)) rs → Comes script needs) → Comes script needs
      by (Err f) e again = (Err f, of_area areas rows a f (record { have_rows = have; stand = h; rest = rest; next = all }) e)
      by (Ok b) e again =
          let k = length areas in
          let order : b.start ≤ b.end = bounds_order (sum_context script areas rows a) b e in
          let come = rows_come needs k a b rows b.start order h.each in
          let less : k < length script.areas = omega (arith, areas_counted areas, length-append (areas_of areas) (a ∷ rest), ap length all) in
          placed come.rows (stand_fresh script needs areas rows come.rows come.fresh h) (bounds_fresh script needs k rows come.rows come.fresh h.these h.each areas a (omega arith) ∙ e) (elsewhere_fresh (length script.areas) k rows come.rows less come.fresh other) order come.so
        where
          placed : (ys : List PlacedRow) → ArePlacedAreas script needs areas ys → bounds_in (sum_context script areas ys a) ≡ Ok b → AllByRecursion (HasZeroAddress (length script.areas)) ys → b.start ≤ b.end → Goes needs (length areas) a b b.start ys ⊎ FaultFrom needs (length areas) a b b.start ys → Comes script needs
          placed ys stand bounds away order (inr g) = row_faults areas ys a rest b stand all bounds g
          placed ys stand bounds away order (inl g) =
              let k = length areas in
              let placement : AreaPlacement = area_placement b (end_of_rows k b ys) in
              let x : PlacedArea = (a, placement) in
              let same : b ≡ bounds_of placement = (let up : b.end ≡ b.start + (b.end - b.start) = omega arith in let F : ℕ → Bounds = λ n. record { start = b.start; end = n } in ap F up) in
              let one : IsPlacedArea script needs areas ys x = record {
                bounds = bounds ∙ ap Ok same;
                rows_placed = subst (λ c. ArePlacedRows needs k a c ys) same (stand_of needs k a b b.start ys g);
                last = ap (λ c. end_of_rows k c ys) same;
              } in
              let whole : areas_of (areas ++ x ∷ []) ++ rest ≡ script.areas = ap (λ l. l ++ rest) (areas_more areas x) ∙ append_assoc (areas_of areas) (a ∷ []) rest ∙ all in
              again (areas ++ x ∷ []) ys (stand_more script needs areas ys x stand one) whole away

-- a row before any area is placed
abbrev unmoved : List SegmentNeed → SegmentRow → PlacedRow
unmoved needs r = (r, record { load = 0; run = 0; size = unwrap_or (size_of needs r.name) 0 })

unmoved_rows : (needs : List SegmentNeed) (rs : List SegmentRow) → rows_of (map (unmoved needs) rs) ≡ rs
unmoved_rows needs [] = refl
unmoved_rows needs (r ∷ rs) = ap (λ l. r ∷ l) (unmoved_rows needs rs)

unmoved_each : (needs : List SegmentNeed) (rs : List SegmentRow) → AllByRecursion (IsRow needs) (map (unmoved needs) rs)
unmoved_each needs [] = tt
unmoved_each needs (r ∷ rs) = (record { size = refl; one = λ e. refl }, unmoved_each needs rs)

unmoved_away : (needs : List SegmentNeed) (n : ℕ) (rs : List SegmentRow) → AllByRecursion (HasZeroAddress n) (map (unmoved needs) rs)
unmoved_away needs n [] = tt
unmoved_away needs n (r ∷ rs) = (record { run = λ le. refl; load = λ le. refl }, unmoved_away needs n rs)

none_before : (before after : List PlacedArea) (x : PlacedArea) → [] ≡ before ++ x ∷ after → ⊥
none_before [] after x e = cc
none_before (y ∷ before) after x e = cc

-- the first need without a row
record Lacks (script : Script) (needs : List SegmentNeed) : Type 0 where
  pub before : List SegmentNeed
  pub after : List SegmentNeed
  pub need : SegmentNeed
  pub split : needs ≡ before ++ need ∷ after
  pub have : HaveRows script before
  pub none : has_row script.rows need.name ≡ false

have_or : (script : Script) (needs : List SegmentNeed) → HaveRows script needs ⊎ Lacks script needs
have_or script [] = inl tt
have_or script (n ∷ needs) = by (has_row script.rows n.name) refl (have_or script needs)
  where
    by : (t : Bool) → has_row script.rows n.name ≡ t → HaveRows script needs ⊎ Lacks script needs → HaveRows script (n ∷ needs) ⊎ Lacks script (n ∷ needs)
    by false e q = inr (record { before = []; after = needs; need = n; split = refl; have = tt; none = e })
    by true e (inl h) = inl (e, h)
    by true e (inr g) = inr (record { before = n ∷ g.before; after = g.after; need = g.need; split = ap (λ l. n ∷ l) g.split; have = (e, g.have); none = g.none })

comes : (script : Script) (needs : List SegmentNeed) → Comes script needs
comes script needs = by (have_or script needs)
  where
    by : HaveRows script needs ⊎ Lacks script needs → Comes script needs
    by (inl have) = areas_come script needs have script.areas [] (map (unmoved needs) script.rows) (record {
      these = unmoved_rows needs script.rows;
      each = unmoved_each needs script.rows;
      areas_placed = λ before after x e. absurd (none_before before after x e);
    }) refl (unmoved_away needs (length script.areas) script.rows)
    by (inr g) = (Err (NoRow g.need.name), of_need g.before g.after g.need g.split g.have g.none)

is_one : (script : Script) (needs : List SegmentNeed) (r : Result Placement PlaceFault) → PlacementResult script needs r → r ≡ place_of script needs
is_one script needs (Ok p) h = is_placement script needs p h
is_one script needs (Err f) h = is_fault script needs f h

-- the cursor computes the only result that the definition allows
pub one_placement : PlacementIsUnique
one_placement script needs =
    let c = comes script needs in
    (subst (PlacementResult script needs) (is_one script needs c.0 c.1) c.1, λ r h. is_one script needs r h)

-- a result of the cursor satisfies the definition
pub placed_so : (script : Script) (needs : List SegmentNeed) (r : Result Placement PlaceFault) → Refines is_place_system_error (λ p. p) r (place_of script needs) → RefinesProp is_place_system_error (PlacementResult script needs) r
placed_so script needs (Ok p) h = subst (PlacementResult script needs) h (one_placement script needs).0
placed_so script needs (Err f) h = by (is_place_system_error f) h
  where
    by : (t : Bool) → Unless t (place_of script needs ≡ Err f) → Unless t (PlacementResult script needs (Err f))
    by true e = tt
    by false e = subst (PlacementResult script needs) e (one_placement script needs).0
