-- Invariants of placing areas and their rows in order.
use Rattle.std.proofs.lemmas.Grind.{common_steps}
use Rattle.std.proofs.Common.{◌≡◌, ◌<◌, ℕ, zero, suc, ◌+◌, Bool, true, false, List, [], ◌∷◌, ◌++◌, length, take, drop, get_or, slice_get, slice_set, Some, refl, sym, ap, ◌∙◌, subst, Ok, Err, arith, add-one, ◌≤◌, ◌^◌, map, inl, inr, ◌⊎◌, length-append}
use Rattle.std.proofs.lemmas.Option.{slice_get-get_or}
use Rattle.std.specs.Prelude.{Result, if◌then◌else◌}
use Rattle.script65.specs.declared.placement.PlaceFault.{PlaceFault}
use Rattle.script65.specs.declared.placing.row_placing.Bounds.{Bounds}
use Rattle.script65.specs.declared.placing.row_placing.RowState.{RowState}
use Rattle.script65.specs.declared.script.MemoryArea.{MemoryArea}
use Rattle.script65.specs.declared.script.SegmentRow.{SegmentRow}
use Rattle.base65.specs.Outcome.{Unless, ◌>>=◌}
use Rattle.script65.specs.Placing.{is_in, row_indices_in, row_after, rows_from, row_states_after, area_placement, areas_from, place_of, row_placement, rows_exist, sum_context_at, unplaced_row}
use Rattle.script65.proofs.ListLemmas.{drop_at, unless_map}
use Rattle.script65.specs.declared.script.Script.{Script}
use Rattle.script65.specs.AreaSums.{SumContextView, bounds_in, area_bounds, sum_in, with_start}
use Rattle.script65.specs.declared.placement.AreaPlacement.{AreaPlacement}
use Rattle.script65.specs.declared.placement.Placement.{Placement}
use Rattle.script65.specs.declared.placement.SegmentNeed.{SegmentNeed}

-- ---- The rows of an area, in order.

-- ---- The first element of a suffix.

module _ {A : Type 0} where
  pub drop_suc : (xs : List A) (p : ℕ) (x : A) (rest : List A) → drop p xs ≡ x ∷ rest → drop (suc p) xs ≡ rest
  drop_suc [] zero x rest h = absurd cc
  drop_suc [] (suc p) x rest h = absurd cc
  drop_suc (y ∷ ys) zero x rest h = cc
  drop_suc (y ∷ ys) (suc p) x rest h = drop_suc ys p x rest h

  pub take_more : (xs : List A) (p : ℕ) (x : A) (rest : List A) → drop p xs ≡ x ∷ rest → take (suc p) xs ≡ take p xs ++ x ∷ []
  take_more [] zero x rest h = absurd cc
  take_more [] (suc p) x rest h = absurd cc
  take_more (y ∷ ys) zero x rest h = let e : y ≡ x = cc in ap (λ z. z ∷ []) e
  take_more (y ∷ ys) (suc p) x rest h = ap (λ l. y ∷ l) (take_more ys p x rest h)

  pub within : (xs : List A) (p : ℕ) (x : A) (rest : List A) → drop p xs ≡ x ∷ rest → p < length xs
  within [] zero x rest h = absurd cc
  within [] (suc p) x rest h = absurd cc
  within (y ∷ ys) zero x rest h = omega arith
  within (y ∷ ys) (suc p) x rest h = let k = within ys p x rest h in omega arith

  pub there : (xs : List A) (p : ℕ) (x : A) (rest : List A) → drop p xs ≡ x ∷ rest → slice_get xs p ≡ Some x
  there [] zero x rest h = absurd cc
  there [] (suc p) x rest h = absurd cc
  there (y ∷ ys) zero x rest h = cc
  there (y ∷ ys) (suc p) x rest h = there ys p x rest h

  drop_set : (xs : List A) (p : ℕ) (x y : A) (rest : List A) → drop p xs ≡ x ∷ rest → drop (suc p) (slice_set xs p y) ≡ rest
  drop_set [] zero x y rest h = absurd cc
  drop_set [] (suc p) x y rest h = absurd cc
  drop_set (z ∷ zs) zero x y rest h = cc
  drop_set (z ∷ zs) (suc p) x y rest h = drop_set zs p x y rest h

  take_set : (xs : List A) (p : ℕ) (x y : A) (rest : List A) → drop p xs ≡ x ∷ rest → take (suc p) (slice_set xs p y) ≡ take p xs ++ y ∷ []
  take_set [] zero x y rest h = absurd cc
  take_set [] (suc p) x y rest h = absurd cc
  take_set (z ∷ zs) zero x y rest h = refl
  take_set (z ∷ zs) (suc p) x y rest h = ap (λ l. z ∷ l) (take_set zs p x y rest h)

  take_drop : (xs : List A) (p : ℕ) → take p xs ++ drop p xs ≡ xs
  take_drop [] zero = refl
  take_drop [] (suc p) = refl
  take_drop (x ∷ xs) zero = refl
  take_drop (x ∷ xs) (suc p) = ap (λ l. x ∷ l) (take_drop xs p)

-- the states of the placed rows, followed by the result for the rest
abbrev pub following : List RowState → Result (List RowState × ℕ) PlaceFault → Result (List RowState × ℕ) PlaceFault
following done rest = rest >>= λ y. Ok (done ++ y.0, y.1)

pub whole_of : (rest : Result (List RowState × ℕ) PlaceFault) → following [] rest ≡ rest
whole_of x = grind (arith, common_steps)

after_one : (done : List RowState) (s : RowState) (rest : Result (List RowState × ℕ) PlaceFault) → following done (rest >>= λ y. Ok (s ∷ y.0, y.1)) ≡ following (done ++ s ∷ []) rest
after_one done s x = grind (arith, common_steps)

module _ (k : ℕ) (a : MemoryArea) (b : Bounds) (rows : List SegmentRow) (whole : Result (List RowState × ℕ) PlaceFault) where
  -- the rows and states from `index` on remain, and `members` are the indices of those in the area
  pub record Walk (row_states : List RowState) (cursor : ℕ) (members : List ℕ) : Type 0 where
    pub index : ℕ
    pub rs : List SegmentRow
    pub ss : List RowState
    pub rows_there : drop index rows ≡ rs
    pub spots_there : drop index row_states ≡ ss
    pub count : length ss ≡ length rs
    pub rest : members ≡ row_indices_in k index rs
    pub same : following (take index row_states) (rows_from k a b rs ss cursor) ≡ whole

  -- row `m` is the next row of the area
  pub record Next (row_states : List RowState) (cursor : ℕ) (m : ℕ) (members : List ℕ) : Type 0 where
    pub r : SegmentRow
    pub s : RowState
    pub rs : List SegmentRow
    pub ss : List RowState
    pub rows_there : drop m rows ≡ r ∷ rs
    pub spots_there : drop m row_states ≡ s ∷ ss
    pub count : length ss ≡ length rs
    pub inside : is_in k r ≡ true
    pub rest : members ≡ row_indices_in k (m + 1) rs
    pub same : following (take m row_states) (row_after k a b r s cursor >>= λ x. rows_from k a b rs ss x.1 >>= λ y. Ok (x.0 ∷ y.0, y.1)) ≡ whole

  next_of : (row_states : List RowState) (cursor m : ℕ) (members : List ℕ) (rs : List SegmentRow) (ss : List RowState) (p : ℕ) → drop p rows ≡ rs → drop p row_states ≡ ss → length ss ≡ length rs → m ∷ members ≡ row_indices_in k p rs → following (take p row_states) (rows_from k a b rs ss cursor) ≡ whole → Next row_states cursor m members
  next_of row_states cursor m members [] ss p rt st n e g = absurd cc
  next_of row_states cursor m members (r ∷ rs) [] p rt st n e g = absurd (omega arith)
  next_of row_states cursor m members (r ∷ rs) (s ∷ ss) p rt st n e g = by (is_in k r) refl
      (λ f h. next_of row_states cursor m members rs ss (p + 1) (rw add-one (drop_suc rows p r rs rt)) (rw add-one (drop_suc row_states p s ss st)) (omega arith) f h)
    where
      by : (t : Bool) → is_in k r ≡ t → (m ∷ members ≡ row_indices_in k (p + 1) rs → following (take (p + 1) row_states) (rows_from k a b rs ss cursor) ≡ whole → Next row_states cursor m members) → Next row_states cursor m members
      by true i again =
          let f : m ∷ members ≡ p ∷ row_indices_in k (p + 1) rs = e ∙ ap (λ t. if t then p ∷ row_indices_in k (p + 1) rs else row_indices_in k (p + 1) rs) i in
          let here : p ≡ m = cc in
          let P : ℕ → Type 0 = λ q. drop q rows ≡ r ∷ rs in
          let Q : ℕ → Type 0 = λ q. drop q row_states ≡ s ∷ ss in
          let members_rest : members ≡ row_indices_in k (p + 1) rs = cc in
          record {
            r = r;
            s = s;
            rs = rs;
            ss = ss;
            rows_there = subst P here rt;
            spots_there = subst Q here st;
            count = omega arith;
            inside = i;
            rest = members_rest ∙ ap (λ q. row_indices_in k (q + 1) rs) here;
            same = sym (ap (λ q. following (take q row_states) (row_after k a b r s cursor >>= λ x. rows_from k a b rs ss x.1 >>= λ y. Ok (x.0 ∷ y.0, y.1))) here)
                ∙ sym (ap (λ t. following (take p row_states) (if t then (row_after k a b r s cursor >>= λ x. rows_from k a b rs ss x.1 >>= λ y. Ok (x.0 ∷ y.0, y.1)) else (rows_from k a b rs ss cursor >>= λ y. Ok (s ∷ y.0, y.1)))) i)
                ∙ g;
          }
      by false i again =
          let f : m ∷ members ≡ row_indices_in k (p + 1) rs = e ∙ ap (λ t. if t then p ∷ row_indices_in k (p + 1) rs else row_indices_in k (p + 1) rs) i in
          again f
          (ap (λ l. following l (rows_from k a b rs ss cursor)) (rw add-one (take_more row_states p s ss st))
          ∙ sym (after_one (take p row_states) s (rows_from k a b rs ss cursor))
          ∙ sym (ap (λ t. following (take p row_states) (if t then (row_after k a b r s cursor >>= λ x. rows_from k a b rs ss x.1 >>= λ y. Ok (x.0 ∷ y.0, y.1)) else (rows_from k a b rs ss cursor >>= λ y. Ok (s ∷ y.0, y.1)))) i)
          ∙ g)

  pub next_member : (row_states : List RowState) (cursor m : ℕ) (members : List ℕ) → Walk row_states cursor (m ∷ members) → Next row_states cursor m members
  next_member row_states cursor m members w = next_of row_states cursor m members w.rs w.ss w.index w.rows_there w.spots_there w.count w.rest w.same

  -- placing the row preserves the invariant
  pub walk_on : (row_states : List RowState) (cursor m : ℕ) (members : List ℕ) (n : Next row_states cursor m members) (x : RowState × ℕ) → row_after k a b n.r n.s cursor ≡ Ok x → Walk (slice_set row_states m x.0) x.1 members
  walk_on row_states cursor m members n x e = record {
    index = m + 1;
    rs = n.rs;
    ss = n.ss;
    rows_there = rw add-one (drop_suc rows m n.r n.rs n.rows_there);
    spots_there = rw add-one (drop_set row_states m n.s x.0 n.ss n.spots_there);
    count = n.count;
    rest = n.rest;
    same = ap (λ l. following l (rows_from k a b n.rs n.ss x.1)) (rw add-one (take_set row_states m n.s x.0 n.ss n.spots_there))
        ∙ sym (after_one (take m row_states) x.0 (rows_from k a b n.rs n.ss x.1))
        ∙ sym (ap (λ t. following (take m row_states) (t >>= λ x. rows_from k a b n.rs n.ss x.1 >>= λ y. Ok (x.0 ∷ y.0, y.1))) e)
        ∙ n.same;
  }

  pub walk_stops : (row_states : List RowState) (cursor m : ℕ) (members : List ℕ) (n : Next row_states cursor m members) (e : PlaceFault) → row_after k a b n.r n.s cursor ≡ Err e → whole ≡ Err e
  walk_stops row_states cursor m members n e h = sym n.same ∙ ap (λ t. following (take m row_states) (t >>= λ x. rows_from k a b n.rs n.ss x.1 >>= λ y. Ok (x.0 ∷ y.0, y.1))) h

  abbrev in_front : RowState → Result (List RowState × ℕ) PlaceFault → Result (List RowState × ℕ) PlaceFault
  in_front s rest = rest >>= λ y. Ok (s ∷ y.0, y.1)

  -- the result from a row on, by whether the row is in the area
  abbrev taken_or : SegmentRow → RowState → List SegmentRow → List RowState → ℕ → Bool → Result (List RowState × ℕ) PlaceFault
  taken_or r s rs ss cursor t = if t then (row_after k a b r s cursor >>= λ x. rows_from k a b rs ss x.1 >>= λ y. Ok (x.0 ∷ y.0, y.1)) else in_front s (rows_from k a b rs ss cursor)

  none_left : (cursor p : ℕ) (rs : List SegmentRow) (ss : List RowState) → length ss ≡ length rs → [] ≡ row_indices_in k p rs → rows_from k a b rs ss cursor ≡ Ok (ss, cursor)
  none_left cursor p [] ss n e = refl
  none_left cursor p (r ∷ rs) [] n e = absurd (omega arith)
  none_left cursor p (r ∷ rs) (s ∷ ss) n e = by (is_in k r) refl (λ f. none_left cursor (p + 1) rs ss (omega arith) f)
    where
      by : (t : Bool) → is_in k r ≡ t → ([] ≡ row_indices_in k (p + 1) rs → rows_from k a b rs ss cursor ≡ Ok (ss, cursor)) → taken_or r s rs ss cursor (is_in k r) ≡ Ok (s ∷ ss, cursor)
      by true i again = absurd (let f : [] ≡ p ∷ row_indices_in k (p + 1) rs = e ∙ ap (λ t. if t then p ∷ row_indices_in k (p + 1) rs else row_indices_in k (p + 1) rs) i in cc)
      by false i again =
          let f : [] ≡ row_indices_in k (p + 1) rs = e ∙ ap (λ t. if t then p ∷ row_indices_in k (p + 1) rs else row_indices_in k (p + 1) rs) i in
          ap (taken_or r s rs ss cursor) i
          ∙ ap (in_front s) (again f)

  pub walk_ends : (row_states : List RowState) (cursor : ℕ) → Walk row_states cursor [] → whole ≡ Ok (row_states, cursor)
  walk_ends row_states cursor w = grind (arith, common_steps, none_left, take_drop)

  -- placing row `m` has the result `given`
  abbrev pub Steps : List RowState → ℕ → ℕ → Result (List RowState × ℕ) PlaceFault → Type 0
  Steps row_states cursor m given = (r : SegmentRow) → (s : RowState) → slice_get rows m ≡ Some r → slice_get row_states m ≡ Some s → row_states_after k a b r s cursor m row_states ≡ given

  abbrev set_in : List RowState → ℕ → Result (RowState × ℕ) PlaceFault → Result (List RowState × ℕ) PlaceFault
  set_in ss m n = n >>= λ x. Ok (slice_set ss m x.0, x.1)

  got : (n : Result (RowState × ℕ) PlaceFault) (ss : List RowState) (m : ℕ) (row_states : List RowState) (cursor : ℕ) → set_in ss m n ≡ Ok (row_states, cursor) → (x : RowState × ℕ) × (n ≡ Ok x) × (slice_set ss m x.0 ≡ row_states) × (x.1 ≡ cursor)
  got x ss m row_states cursor h = grind (arith, common_steps)

  pub walk_step : (row_states after : List RowState) (cursor end m : ℕ) (members : List ℕ) → Walk row_states cursor (m ∷ members) → Steps row_states cursor m (Ok (after, end)) → Walk after end members
  walk_step row_states after cursor end m members w h =
      let n = next_member row_states cursor m members w in
      let g = got (row_after k a b n.r n.s cursor) row_states m after end (h n.r n.s (there rows m n.r n.rs n.rows_there) (there row_states m n.s n.ss n.spots_there)) in
      let P : List RowState → Type 0 = λ l. Walk l end members in
      let Q : ℕ → Type 0 = λ c. Walk (slice_set row_states m g.0.0) c members in
      subst P g.2 (subst Q g.3 (walk_on row_states cursor m members n g.0 g.1))

  lost : (n : Result (RowState × ℕ) PlaceFault) (ss : List RowState) (m : ℕ) (e : PlaceFault) → set_in ss m n ≡ Err e → n ≡ Err e
  lost x ss m e h = grind (arith, common_steps)

  -- an error of placing the next row, if no system error, is the error of placing the area's rows
  pub walk_refuses : (row_states : List RowState) (cursor m : ℕ) (members : List ℕ) (e : PlaceFault) (outside : Bool) → Walk row_states cursor (m ∷ members) → ((r : SegmentRow) → (s : RowState) → slice_get rows m ≡ Some r → slice_get row_states m ≡ Some s → Unless outside (row_states_after k a b r s cursor m row_states ≡ Err e)) → Unless outside (whole ≡ Err e)
  walk_refuses row_states cursor m members e outside w h =
      let n = next_member row_states cursor m members w in
      unless_map (row_states_after k a b n.r n.s cursor m row_states ≡ Err e) (whole ≡ Err e) outside
      (λ f. walk_stops row_states cursor m members n e (lost (row_after k a b n.r n.s cursor) row_states m e f))
      (h n.r n.s (there rows m n.r n.rs n.rows_there) (there row_states m n.s n.ss n.spots_there))

  pub row_within : (row_states : List RowState) (cursor m : ℕ) (members : List ℕ) → Walk row_states cursor (m ∷ members) → m < length rows
  row_within row_states cursor m members w = let n = next_member row_states cursor m members w in within rows m n.r n.rs n.rows_there

  pub spot_within : (row_states : List RowState) (cursor m : ℕ) (members : List ℕ) → Walk row_states cursor (m ∷ members) → m < length row_states
  spot_within row_states cursor m members w = let n = next_member row_states cursor m members w in within row_states m n.s n.ss n.spots_there

-- a suffix of numbers begins with the number at its index
pub drop_number : (xs : List ℕ) (i : ℕ) → i < length xs → drop i xs ≡ get_or xs i 0 ∷ drop (i + 1) xs
drop_number xs i lt = rw add-one (drop_at xs i (get_or xs i 0) (slice_get-get_or xs i 0 lt))

-- ---- Areas, in order.

pub bind_ok : {A B : Type 0} (r : Result A PlaceFault) (f : A → Result B PlaceFault) (y : B) → (r >>= f) ≡ Ok y → (x : A) × (r ≡ Ok x) × (f x ≡ Ok y)
bind_ok x f y h = grind (arith, common_steps)

-- ---- Bounds.

-- bounds with this start and size
pub record Spans (start size : ℕ) (b : Bounds) : Type 0 where
  pub starts : b.start ≡ start
  pub ends : b.end ≡ start + size
  pub inside : b.end ≤ 2 ^ 32

pub spans_of : (name : List ℕ) (start size : ℕ) (b : Bounds) → area_bounds name start size ≡ Ok b → Spans start size b
spans_of name start size b h = grind (arith, common_steps)

-- the bounds are the values of the area's sums
pub record Summed (s : SumContextView) (b : Bounds) : Type 0 where
  pub start : ℕ
  pub size : ℕ
  pub starts : sum_in s s.own.start ≡ Ok start
  pub sizes : sum_in (with_start s start) s.own.size ≡ Ok size
  pub spans : Spans start size b

pub summed_of : (s : SumContextView) (b : Bounds) → bounds_in s ≡ Ok b → Summed s b
summed_of s b h = grind (arith, common_steps, bind_ok, spans_of)

pub bounds_order : (s : SumContextView) (b : Bounds) → bounds_in s ≡ Ok b → b.start ≤ b.end
bounds_order s b h = grind (arith, common_steps)

-- ---- Lists with a further element.

pub get_before : {A : Type 0} (xs : List A) (x : A) (j : ℕ) → j < length xs → slice_get (xs ++ x ∷ []) j ≡ slice_get xs j
get_before [] x j lt = absurd (omega arith)
get_before (y ∷ ys) x zero lt = refl
get_before (y ∷ ys) x (suc j) lt = get_before ys x j (omega arith)

at_end : {A : Type 0} (xs : List A) (x : A) → slice_get (xs ++ x ∷ []) (length xs) ≡ Some x
at_end [] x = refl
at_end (y ∷ ys) x = at_end ys x

pub get_last : {A : Type 0} (xs : List A) (k : ℕ) (x : A) → length xs ≡ k → slice_get (xs ++ x ∷ []) k ≡ Some x
get_last xs k x e = let P : ℕ → Type 0 = λ n. slice_get (xs ++ x ∷ []) n ≡ Some x in subst P e (at_end xs x)

pub one_longer : {A : Type 0} (xs : List A) (k : ℕ) (x : A) → length xs ≡ k → length (xs ++ x ∷ []) ≡ k + 1
one_longer xs k x e = omega (arith, length-append xs (x ∷ []))

-- ---- If each area satisfies a property when it is placed, and later areas preserve the property, all areas satisfy it.

last_or_before : (j k : ℕ) → j < k + 1 → (j ≡ k) ⊎ (j < k)
last_or_before j k lt = grind (arith, common_steps)

-- a property of the area at an index, by the areas placed so far and the states of rows
abbrev pub Saying : Type 1
Saying = ℕ → List AreaPlacement → List RowState → Type 0

-- placing the area establishes the property
abbrev pub Made : Script → Saying → Type 0
Made script Q =
    (k : ℕ) (a : MemoryArea) (placed : List AreaPlacement) (ss ts : List RowState) (b : Bounds) (last : ℕ) → slice_get script.areas k ≡ Some a → length placed ≡ k →
    bounds_in (sum_context_at k script.areas script.rows a placed ss) ≡ Ok b → rows_from k a b script.rows ss b.start ≡ Ok (ts, last) → Q k (placed ++ area_placement b last ∷ []) ts

-- placing a later area preserves the property
abbrev pub Kept : Script → Saying → Type 0
Kept script Q =
    (j k : ℕ) (a : MemoryArea) (placed : List AreaPlacement) (ss ts : List RowState) (b : Bounds) (last : ℕ) → j < k → length placed ≡ k →
    bounds_in (sum_context_at k script.areas script.rows a placed ss) ≡ Ok b → rows_from k a b script.rows ss b.start ≡ Ok (ts, last) → Q j placed ss → Q j (placed ++ area_placement b last ∷ []) ts

-- the final states of rows, and the property for each area
pub record Holds (Q : ℕ → List AreaPlacement → List RowState → Type 0) (areas : ℕ) (p : Placement) : Type 0 where
  pub row_states : List RowState
  pub rows : p.rows ≡ map row_placement row_states
  pub each : (j : ℕ) → j < areas → Q j p.areas row_states

module _ (script : Script) (Q : ℕ → List AreaPlacement → List RowState → Type 0) (made : Made script Q) (kept : Kept script Q) where
  areas_hold : (rest : List MemoryArea) (k : ℕ) (placed : List AreaPlacement) (ss : List RowState) (p : Placement) → drop k script.areas ≡ rest → length placed ≡ k → areas_from k script.areas script.rows rest placed ss ≡ Ok p → ((j : ℕ) → j < k → Q j placed ss) → Holds Q (k + length rest) p
  areas_hold [] k placed ss p left count h before = grind (arith, common_steps)
  areas_hold (a ∷ rest) k placed ss p left count h before =
      let f = bind_ok (bounds_in (sum_context_at k script.areas script.rows a placed ss)) (λ b. rows_from k a b script.rows ss b.start >>= λ x. areas_from (k + 1) script.areas script.rows rest (placed ++ area_placement b x.1 ∷ []) x.0) p h in
      let b : Bounds = f.0 in
      let g = bind_ok (rows_from k a b script.rows ss b.start) (λ x. areas_from (k + 1) script.areas script.rows rest (placed ++ area_placement b x.1 ∷ []) x.0) p f.2 in
      let x : List RowState × ℕ = g.0 in
      let more : Holds Q ((k + 1) + length rest) p = areas_hold rest (k + 1) (placed ++ area_placement b x.1 ∷ []) x.0 p (rw add-one (drop_suc script.areas k a rest left)) (one_longer placed k (area_placement b x.1) count) g.2
      (λ i small. by i b x f.1 g.1 (last_or_before i k small)) in
      record { row_states = more.row_states; rows = more.rows; each = λ j lt. more.each j (omega arith) }
    where
      by : (i : ℕ) (b : Bounds) (x : List RowState × ℕ) → bounds_in (sum_context_at k script.areas script.rows a placed ss) ≡ Ok b → rows_from k a b script.rows ss b.start ≡ Ok x → (i ≡ k) ⊎ (i < k) → Q i (placed ++ area_placement b x.1 ∷ []) x.0
      by i b x d e (inl same) = subst (λ j. Q j (placed ++ area_placement b x.1 ∷ []) x.0) (sym same) (made k a placed ss x.0 b x.1 (there script.areas k a rest left) count d e)
      by i b x d e (inr less) = kept i k a placed ss x.0 b x.1 less count d e (before i less)

pub placed_of : (script : Script) (needs : List SegmentNeed) (p : Placement) → place_of script needs ≡ Ok p → areas_from 0 script.areas script.rows script.areas [] (map (unplaced_row needs) script.rows) ≡ Ok p
placed_of script needs p h = (bind_ok (rows_exist script.rows needs) (λ _. areas_from 0 script.areas script.rows script.areas [] (map (unplaced_row needs) script.rows)) p h).2

pub all_hold : (script : Script) (needs : List SegmentNeed) (p : Placement) (Q : ℕ → List AreaPlacement → List RowState → Type 0) → Made script Q → Kept script Q → place_of script needs ≡ Ok p → Holds Q (length script.areas) p
all_hold script needs p Q made kept h =
    let g : Holds Q (0 + length script.areas) p = areas_hold script Q made kept script.areas 0 [] (map (unplaced_row needs) script.rows) p refl refl (placed_of script needs p h) (λ j never. absurd (omega arith)) in
    record { row_states = g.row_states; rows = g.rows; each = λ j lt. g.each j (omega arith) }
