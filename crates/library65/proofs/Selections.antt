-- The search returns the selection, which is unique and grows with the wanted names.
use Rattle.std.proofs.lemmas.Grind.{common_steps}
use Rattle.std.specs.Global.{Vec}
use Rattle.std.specs.Vec.{with_item}
use Rattle.library65.specs.declared.selecting.FoundMembers.{FoundMembers}
use Rattle.library65.specs.Internal.Searching.{IsWellFormedSearch}
use Rattle.std.proofs.Common.{◌≡◌, ◌∙◌, ◌<◌, ◌≤◌, ◌-◌, ℕ, zero, suc, ◌+◌, Bool, true, false, not, ◌||◌, cond, nat_eq, List, [], ◌∷◌, ◌++◌, length, get_or, slice_get, Some, refl, sym, ap, subst, arith, if◌then◌else◌, ◌&&◌, Option, None}
use Rattle.std.specs.Prelude.{count_by, replicate, slice_set}
use Rattle.std.specs.List.{AllByRecursion, list_any, position_from}
use Rattle.std.proofs.lemmas.Bool.Decides.{nat_tests}
use Rattle.std.proofs.lemmas.List.{append-nil}
use Rattle.std.proofs.lemmas.List.Folds.{list_any-append}
use Rattle.std.proofs.lemmas.List.Sums.{sum_by-cons}
use Rattle.library65.specs.Selection.{IsAscending, has_index, IsClosed, IsSelection, first_exporter, imports_at, SelectionIsMonotone, SelectionIsUnique}
use Rattle.library65.specs.Internal.Searching.{marked_indices_from, IsSearchState, MarksExporters}
use Rattle.library65.specs.declared.index.Entry.{Entry}
use Rattle.object65.specs.Objects.{is_among}
use Rattle.std.specs.Cmp.Lexicographic.{pointwise}
use Rattle.std.proofs.lemmas.Slice.Eq.{bytes_eq-Decides}

-- ---- Cases of a disjunction.

pub either : {A : Type 0} (b : Bool) → (b ≡ true → A) → (b ≡ false → A) → A
either true f g = f refl
either false f g = g refl

pub or_true : (a b : Bool) {A : Type 0} → (a || b) ≡ true → (a ≡ true → A) → (b ≡ true → A) → A
or_true true b e f g = f refl
or_true false b e f g = g e

pub or_left : (a b : Bool) → a ≡ true → (a || b) ≡ true
or_left true b e = refl
or_left false b e = cc

pub or_right : (a b : Bool) → b ≡ true → (a || b) ≡ true
or_right true b e = refl
or_right false b e = e

-- ---- An item that satisfies a predicate.

pub any_at : {X : Type 0} (p : X → Bool) (xs : List X) → list_any p xs ≡ true → (k : ℕ) × (x : X) × (k < length xs) × (slice_get xs k ≡ Some x) × (p x ≡ true)
any_at p [] e = cc
any_at p (x ∷ xs) e =
    or_true (p x) (list_any p xs) e
    (λ h. (0, x, omega arith, refl, h))
    (λ h. let r = any_at p xs h in (suc r.0, r.1, omega (arith, r.2), r.3, r.4))

pub any_of : {X : Type 0} (p : X → Bool) (xs : List X) (k : ℕ) (x : X) → slice_get xs k ≡ Some x → p x ≡ true → list_any p xs ≡ true
any_of p [] k x at e = cc
any_of p (y ∷ xs) zero x at e = let is : y ≡ x = cc in or_left (p y) (list_any p xs) (ap p is ∙ e)
any_of p (y ∷ xs) (suc k) x at e = or_right (p y) (list_any p xs) (any_of p xs k x at e)

pub same_place : (i j : ℕ) → nat_eq i j ≡ true → i ≡ j
same_place i j e = grind (arith, nat_tests)

pub place_same : (i : ℕ) → nat_eq i i ≡ true
place_same i = grind (arith, nat_tests)

-- an element of a list is at some index of it
pub place_at : (is : List ℕ) (i : ℕ) → has_index is i ≡ true → (k : ℕ) × (k < length is) × (slice_get is k ≡ Some i)
place_at is i e = let r = any_at (nat_eq i) is e in (r.0, r.2, r.3 ∙ ap (λ j. Some j) (sym (same_place i r.1 r.4)))

pub place_of : (is : List ℕ) (k i : ℕ) → slice_get is k ≡ Some i → has_index is i ≡ true
place_of is k i at = any_of (nat_eq i) is k i at (place_same i)

pub place_append : (is js : List ℕ) (i : ℕ) → has_index (is ++ js) i ≡ (has_index is i || has_index js i)
place_append is js i = list_any-append (nat_eq i) is js

pub place_kept : (is js : List ℕ) (i : ℕ) → has_index is i ≡ true → has_index (is ++ js) i ≡ true
place_kept is js i e = place_append is js i ∙ or_left (has_index is i) (has_index js i) e

pub place_after : (is js : List ℕ) (i : ℕ) → has_index js i ≡ true → has_index (is ++ js) i ≡ true
place_after is js i e = place_append is js i ∙ or_right (has_index is i) (has_index js i) e

pub get_kept : (is js : List ℕ) (k : ℕ) → k < length is → slice_get (is ++ js) k ≡ slice_get is k
get_kept [] js k lt = absurd (omega arith)
get_kept (i ∷ is) js zero lt = refl
get_kept (i ∷ is) js (suc k) lt = get_kept is js k (omega arith)

-- ---- Marks.

pub no_marks : (n i : ℕ) → get_or (replicate n false) i false ≡ false
no_marks zero i = refl
no_marks (suc n) zero = refl
no_marks (suc n) (suc i) = no_marks n i

pub none_counted : (n : ℕ) → count_by not (replicate n false) ≡ n
none_counted zero = refl
none_counted (suc n) = grind (arith, common_steps, (none_counted n), sum_by-cons)

pub length_marks : (n : ℕ) → length (replicate n false) ≡ n
length_marks zero = refl
length_marks (suc n) = ap suc (length_marks n)

pub marks_added : (marks : List Bool) (indices : List ℕ) (index : ℕ) → index < length marks → ((i : ℕ) → get_or marks i false ≡ has_index indices i) → (i : ℕ) → get_or (slice_set marks index true) i false ≡ has_index (indices ++ index ∷ []) i
marks_added marks indices index within marked i = grind (arith, common_steps)

pub count_added : (marks : List Bool) (index : ℕ) → index < length marks → get_or marks index false ≡ false → count_by not (slice_set marks index true) + 1 ≡ count_by not marks
count_added marks index within new = grind (arith, common_steps)

-- ---- The indices that are marked.

pub marked_places : (i j : ℕ) (marks : List Bool) → i ≤ j → has_index (marked_indices_from i marks) j ≡ get_or marks (j - i) false
marked_places i j [] le = refl
marked_places i j (mark ∷ marks) le =
    either (nat_eq j i)
    (λ e. let is : j - i ≡ 0 = grind (arith, nat_tests) in rw is (here mark e))
    (λ e. let lt : suc i ≤ j = grind (arith, nat_tests) in
    let k : j - i ≡ suc (j - (i + 1)) = omega arith in
    rw k (there mark e ∙ marked_places (i + 1) j marks (omega arith)))
  where
    before : (n : ℕ) (ms : List Bool) → j < n → has_index (marked_indices_from n ms) j ≡ false
    before n [] lt = refl
    before n (true ∷ ms) lt = let no_place : nat_eq j n ≡ false = grind (arith, nat_tests) in rw no_place (before (n + 1) ms (omega arith))
    before n (false ∷ ms) lt = before (n + 1) ms (omega arith)

    here : (m : Bool) → nat_eq j i ≡ true → has_index (if m then i ∷ marked_indices_from (i + 1) marks else marked_indices_from (i + 1) marks) j ≡ m
    here true e = or_left (nat_eq j i) _ e
    here false e = before (i + 1) marks (grind (arith, nat_tests))

    there : (m : Bool) → nat_eq j i ≡ false → has_index (if m then i ∷ marked_indices_from (i + 1) marks else marked_indices_from (i + 1) marks) j ≡ has_index (marked_indices_from (i + 1) marks) j
    there true e = rw e refl
    there false e = refl

marked_above : (b i : ℕ) (marks : List Bool) → b < i → AllByRecursion (λ j. b < j) (marked_indices_from i marks)
marked_above b i [] lt = tt
marked_above b i (true ∷ marks) lt = (lt, marked_above b (i + 1) marks (omega arith))
marked_above b i (false ∷ marks) lt = marked_above b (i + 1) marks (omega arith)

pub marked_rising : (i : ℕ) (marks : List Bool) → IsAscending (marked_indices_from i marks)
marked_rising i [] = tt
marked_rising i (true ∷ marks) = (marked_above i (i + 1) marks (omega arith), marked_rising (i + 1) marks)
marked_rising i (false ∷ marks) = marked_rising (i + 1) marks

pub marked_below : (n i : ℕ) (marks : List Bool) → i + length marks ≤ n → AllByRecursion (λ j. j < n) (marked_indices_from i marks)
marked_below n i [] le = tt
marked_below n i (true ∷ marks) le = (omega arith, marked_below n (i + 1) marks (omega arith))
marked_below n i (false ∷ marks) le = marked_below n (i + 1) marks (omega arith)

-- ---- Lists of names.

abbrev pub Names : Type 0
Names = List (List ℕ)

-- ---- First exporters.

position_step : (b : Bool) (i k n : ℕ) (later : Option ℕ) → (later ≡ Some k → k < i + 1 + n) → cond b (Some i) later ≡ Some k → k < i + (1 + n)
position_step true i k n later below e = let is : i ≡ k = cc in omega arith
position_step false i k n later below e = let lt = below e in omega arith

position_below : {X : Type 0} (p : X → Bool) (i : ℕ) (xs : List X) (k : ℕ) → position_from p i xs ≡ Some k → k < i + length xs
position_below p i [] k e = cc
position_below p i (x ∷ xs) k e =
    let lt = position_step (p x) i k (length xs) (position_from p (i + 1) xs) (λ h. position_below p (i + 1) xs k h) e in
    omega arith

pub exporter_below : (es : List Entry) (name : List ℕ) (index : ℕ) → first_exporter es name ≡ Some index → index < length es
exporter_below es name index e = let below = position_below (λ (x : Entry). is_among x.exports name) 0 es index e in omega arith

-- ---- Conjunction and negation.

both : (a b : Bool) → (a && b) ≡ true → (a ≡ true) × (b ≡ true)
both true b e = (refl, e)
both false b e = absurd cc

and : (a b : Bool) → a ≡ true → b ≡ true → (a && b) ≡ true
and true b e f = f
and false b e f = cc

not_true : (b : Bool) → not b ≡ true → b ≡ false
not_true true e = absurd cc
not_true false e = refl

-- ---- The search returns the selection.

module _ (es : List Entry) (wanted defined : Names) (found : List ℕ) where
  -- the names that aren't defined, and that are wanted or imported by a member that was found

  abbrev has : List ℕ → Bool
  has name = not (is_among defined name) && (is_among wanted name || list_any (λ i. is_among (imports_at es i) name) found)

  free : (name : List ℕ) → is_among defined name ≡ false → not (is_among defined name) ≡ true
  free name e = rw e refl

  -- the first exporter of each name in this set was found
  exporter_found : IsSearchState es wanted defined found (length found) → (name : List ℕ) (index : ℕ) → has name ≡ true → first_exporter es name ≡ Some index → has_index found index ≡ true
  exporter_found done name index in_set first = grind (arith, common_steps, both, not_true, or_true, any_at)

  set_closed : IsSearchState es wanted defined found (length found) → IsClosed es wanted defined has
  set_closed done = record {
    has_wanted = λ name want not_defined. and (not (is_among defined name)) _ (free name not_defined) (or_left (is_among wanted name) _ want);
    has_imports = λ name other index in_set first imported not_defined.
        let at = place_at found index (exporter_found done name index in_set first) in
        and (not (is_among defined other)) _ (free other not_defined) (or_right (is_among wanted other) _ (any_of (λ i. is_among (imports_at es i) other) found at.0 index at.2 imported));
  }

  set_least : IsSearchState es wanted defined found (length found) → (other : List ℕ → Bool) → IsClosed es wanted defined other → (name : List ℕ) → has name ≡ true → other name ≡ true
  set_least done other closed name in_set =
      let parts = both (not (is_among defined name)) _ in_set in
      let not_defined = not_true (is_among defined name) parts.0 in
      or_true (is_among wanted name) _ parts.1
      (λ e. closed.has_wanted name e not_defined)
      (λ e. let r = any_at (λ i. is_among (imports_at es i) name) found e in
      let from = done.needed r.1 (place_of found r.0 r.1 r.3) in
      closed.has_imports from.0 name r.1 (from.1 other closed) from.2 r.4 not_defined)

  pub searched_selected : (marks : List Bool) (indices : List ℕ) → IsSearchState es wanted defined found (length found) → ((i : ℕ) → get_or marks i false ≡ has_index found i) → indices ≡ marked_indices_from 0 marks → IsSelection es wanted defined indices
  searched_selected marks indices done marked listed = grind (arith, common_steps, marked_places, set_closed, set_least, exporter_found, marked_rising)

-- ---- Selections are unique and grow with the wanted names.

above : (i j : ℕ) (is : List ℕ) → AllByRecursion (λ k. i < k) is → has_index is j ≡ true → i < j
above i j [] all e = cc
above i j (k ∷ is) all e = or_true (nat_eq j k) (has_index is j) e (λ h. let same = same_place j k h in omega (arith, all.0)) (λ h. above i j is all.1 h)

-- ascending lists with the same elements are equal
one_list : (a b : List ℕ) → IsAscending a → IsAscending b → ((i : ℕ) → has_index a i ≡ true → has_index b i ≡ true) → ((i : ℕ) → has_index b i ≡ true → has_index a i ≡ true) → a ≡ b
one_list [] [] ra rb f g = refl
one_list [] (j ∷ b) ra rb f g = cc (g j (or_left (nat_eq j j) (has_index b j) (place_same j)))
one_list (i ∷ a) [] ra rb f g = cc (f i (or_left (nat_eq i i) (has_index a i) (place_same i)))
one_list (i ∷ a) (j ∷ b) ra rb f g =
    let low : j ≤ i = or_true (nat_eq i j) (has_index b i) (f i (or_left (nat_eq i i) (has_index a i) (place_same i))) (λ h. let same = same_place i j h in omega arith) (λ h. let lt = above j i b rb.0 h in omega arith) in
    let high : i ≤ j = or_true (nat_eq j i) (has_index a j) (g j (or_left (nat_eq j j) (has_index b j) (place_same j))) (λ h. let same = same_place j i h in omega arith) (λ h. let lt = above i j a ra.0 h in omega arith) in
    let head : i ≡ j = omega arith in
    let rest = one_list a b ra.1 rb.1
    (λ k h. or_true (nat_eq k j) (has_index b k) (f k (or_right (nat_eq k i) (has_index a k) h)) (λ e. let same = same_place k j e in let lt = above i k a ra.0 h in absurd (omega arith)) (λ e. e))
    (λ k h. or_true (nat_eq k i) (has_index a k) (g k (or_right (nat_eq k j) (has_index b k) h)) (λ e. let same = same_place k i e in let lt = above j k b rb.0 h in absurd (omega arith)) (λ e. e)) in
    λ n. head n ∷ rest n

pub selection_grows : SelectionIsMonotone
selection_grows es wanted more defined a b grown first second index there =
    let closed : IsClosed es wanted defined second.has = record {
      has_wanted = λ name want free. second.closed.has_wanted name (grown name want) free;
      has_imports = second.closed.has_imports;
    } in
    let from = first.exporters index there in
    second.all from.0 index (first.least second.has closed from.0 from.1) from.2

pub one_selection : SelectionIsUnique
one_selection es wanted defined a b first second = grind (arith, common_steps, one_list, selection_grows)

-- ---- Steps of the search for the members that a link needs.

module _ (es : List Entry) (defined : Names) where
  -- the case of no wanted name
  pub finds_none : (old : List ℕ) → MarksExporters es defined [] old old
  finds_none old = grind (arith, common_steps)

  -- further names, one at a time
  pub finds_more : (names : Names) (name : List ℕ) (old mid new : List ℕ) → MarksExporters es defined names old mid → MarksExporters es defined (name ∷ []) mid new → MarksExporters es defined (names ++ name ∷ []) old new
  finds_more names name old mid new first last = grind (arith, common_steps)

  one_name : (name n : List ℕ) → is_among (name ∷ []) n ≡ true → n ≡ name
  one_name name n among = or_true (pointwise nat_eq n name) false among (λ e. (bytes_eq-Decides n name).0 e) (λ e. absurd cc)

  its_own : (name : List ℕ) → is_among (name ∷ []) name ≡ true
  its_own name = or_left (pointwise nat_eq name name) false ((bytes_eq-Decides name name).1 refl)

  -- the case of a name that is defined
  pub finds_defined : (name : List ℕ) (old : List ℕ) → is_among defined name ≡ true → MarksExporters es defined (name ∷ []) old old
  finds_defined name old is = record {
    following = [];
    more = sym (append-nil old);
    all = λ n i among free exported. let same = one_name name n among in absurd (let both : true ≡ false = sym is ∙ ap (is_among defined) (sym same) ∙ free in cc);
    only = λ i e. absurd cc;
  }

  -- the case of a name that no member exports
  pub finds_nobody : (name : List ℕ) (old : List ℕ) → first_exporter es name ≡ None → MarksExporters es defined (name ∷ []) old old
  finds_nobody name old none = record {
    following = [];
    more = sym (append-nil old);
    all = λ n i among free exported. let same = one_name name n among in absurd (let both : None ≡ Some i = sym none ∙ ap (first_exporter es) (sym same) ∙ exported in cc);
    only = λ i e. absurd cc;
  }

  -- the case of a name whose first exporter was found before
  pub finds_again : (name : List ℕ) (index : ℕ) (old : List ℕ) → first_exporter es name ≡ Some index → has_index old index ≡ true → MarksExporters es defined (name ∷ []) old old
  finds_again name index old first there = record {
    following = [];
    more = sym (append-nil old);
    all = λ n i among free exported. let same = one_name name n among in
        let is : Some index ≡ Some i = sym first ∙ ap (first_exporter es) (sym same) ∙ exported in
        let at : index ≡ i = cc in subst (λ j. has_index old j ≡ true) at there;
    only = λ i e. absurd cc;
  }

  -- the case of a name whose first exporter is new
  pub finds_new : (name : List ℕ) (index : ℕ) (old new : List ℕ) → first_exporter es name ≡ Some index → is_among defined name ≡ false → new ≡ old ++ index ∷ [] → MarksExporters es defined (name ∷ []) old new
  finds_new name index old new first free more = record {
    following = index ∷ [];
    more = more;
    all = λ n i among free_too exported. let same = one_name name n among in
        let is : Some index ≡ Some i = sym first ∙ ap (first_exporter es) (sym same) ∙ exported in
        let at : index ≡ i = cc in
        let there : has_index (index ∷ []) i ≡ true = grind (arith, nat_tests) in
        subst (λ (js : List ℕ). has_index js i ≡ true) (sym more) (place_after old (index ∷ []) i there);
    only = λ i found. let at : i ≡ index = grind (arith, nat_tests) in (name, its_own name, free, first ∙ ap (λ j. Some j) (sym at));
  }

module _ (es : List Entry) (wanted defined : Names) where
  -- the state after the first exporters of the wanted names were found
  pub search_begins : (found : List ℕ) → MarksExporters es defined wanted [] found → IsSearchState es wanted defined found 0
  search_begins found finds = grind (arith, common_steps)

  -- the state after the first exporters of one further member's imports were found
  pub search_goes_on : (found new : List ℕ) (next index : ℕ) → next < length found → slice_get found next ≡ Some index → IsSearchState es wanted defined found next → MarksExporters es defined (imports_at es index) found new → IsSearchState es wanted defined new (next + 1)
  search_goes_on found new next index lt at so_far finds = record {
    needed = λ i there. or_true (has_index found i) (has_index finds.following i) (sym (list_any-append (nat_eq i) found finds.following) ∙ subst (λ (js : List ℕ). has_index js i ≡ true) finds.more there)
        (λ e. so_far.needed i e)
        (λ e. let r = finds.only i e in
        let from = so_far.needed index (place_of found next index at) in
        (r.0, (λ has closed. closed.has_imports from.0 r.0 index (from.1 has closed) from.2 r.1 r.2), r.3));
    wanted_found = λ name i among free exported. grown i (so_far.wanted_found name i among free exported);
    imports_found = λ k p less there name i among free exported.
        let before : slice_get found k ≡ Some p = sym (get_kept found finds.following k (omega arith)) ∙ subst (λ (js : List ℕ). slice_get js k ≡ Some p) finds.more there in
        either (nat_eq k next)
        (λ e. let is : k ≡ next = grind (arith, nat_tests) in
        let same : Some p ≡ Some index = sym before ∙ ap (slice_get found) is ∙ at in
        let p_is : p ≡ index = cc in
        finds.all name i (subst (λ q. is_among (imports_at es q) name ≡ true) p_is among) free exported)
        (λ e. let earlier : k < next = grind (arith, nat_tests) in grown i (so_far.imports_found k p earlier before name i among free exported));
  }
    where
      grown : (i : ℕ) → has_index found i ≡ true → has_index new i ≡ true
      grown i e = subst (λ (js : List ℕ). has_index js i ≡ true) (sym finds.more) (place_kept found finds.following i e)

-- marking a member that wasn't found before preserves `IsWellFormedSearch`
pub mark_sound : (f : FoundMembers) (index : ℕ) (indices : Vec ℕ) → IsWellFormedSearch f → get_or f.marks.items index false ≡ false → index < length f.marks.items → indices.items ≡ f.indices.items ++ index ∷ [] → IsWellFormedSearch (record { marks = with_item f.marks index true; indices = indices })
mark_sound f index indices sound clear within more = record {
  marks = λ i. grind (arith, common_steps);
  count = grind (arith, common_steps);
}
