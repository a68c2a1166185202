-- Every list of wanted names has a selection, because the search for it terminates.
use Rattle.std.proofs.Common.{◌≡◌, ◌∙◌, ◌<◌, ◌≤◌, ℕ, zero, suc, ◌+◌, Bool, true, false, not, nat_lt, List, [], ◌∷◌, ◌++◌, length, get_or, slice_get, Option, Some, None, refl, sym, ap, subst, arith, append_assoc, length-append}
use Rattle.std.specs.Prelude.{count_by, replicate, slice_set}
use Rattle.std.proofs.lemmas.Bool.Decides.{nat_tests}
use Rattle.std.proofs.lemmas.List.{append-nil}
use Rattle.library65.specs.declared.index.Entry.{Entry}
use Rattle.library65.specs.Spelling.{is_among}
use Rattle.library65.specs.Internal.Searching.{MarksExporters, IsSearchState, marked_indices_from}
use Rattle.library65.specs.Selection.{IsSelection, SelectionExists, first_exporter, has_index, imports_at}
use Rattle.library65.proofs.Selections.{count_added, either, length_marks, marks_added, no_marks, none_counted, finds_again, finds_defined, finds_more, finds_new, finds_nobody, finds_none, search_begins, search_goes_on, exporter_below, searched_selected}

abbrev Names : Type 0
Names = List (List ℕ)

set_length : (marks : List Bool) (i : ℕ) (b : Bool) → length (slice_set marks i b) ≡ length marks
set_length [] i b = refl
set_length (m ∷ ms) zero b = refl
set_length (m ∷ ms) (suc i) b = ap suc (set_length ms i b)

-- a mark for each member that was found; so no more members are found than there are
record Marked (es : List Entry) (found : List ℕ) : Type 0 where
  marks : List Bool
  marked : (i : ℕ) → get_or marks i false ≡ has_index found i
  count : count_by not marks + length found ≡ length marks
  size : length marks ≡ length es

none_marked : (es : List Entry) → Marked es []
none_marked es =
    let all : count_by not (replicate (length es) false) ≡ length es = none_counted (length es) in
    let size : length (replicate (length es) false) ≡ length es = length_marks (length es) in
    record {
      marks = replicate (length es) false;
      marked = no_marks (length es);
      count = omega (arith, all, size);
      size = size;
    }

one_marked : (es : List Entry) (old : List ℕ) (index : ℕ) → Marked es old → index < length es → has_index old index ≡ false → Marked es (old ++ index ∷ [])
one_marked es old index k below new =
    let within : index < length k.marks = omega (arith, k.size) in
    let free : get_or k.marks index false ≡ false = k.marked index ∙ new in
    let fewer = count_added k.marks index within free in
    let longer = length-append old (index ∷ []) in
    let same = set_length k.marks index true in
    record {
      marks = slice_set k.marks index true;
      marked = marks_added k.marks old index within k.marked;
      count = omega (arith, fewer, longer, same, k.count);
      size = same ∙ k.size;
    }

record Found (es : List Entry) (defined names : Names) (old : List ℕ) : Type 0 where
  new : List ℕ
  finds : MarksExporters es defined names old new
  marked : Marked es new

module _ (es : List Entry) (defined : Names) where
  find_name : (name : List ℕ) (old : List ℕ) → Marked es old → Found es defined (name ∷ []) old
  find_name name old k =
      either (is_among defined name)
      (λ is. record { new = old; finds = finds_defined es defined name old is; marked = k })
      (λ free. by (first_exporter es name) refl free)
    where
      by : (o : Option ℕ) → first_exporter es name ≡ o → is_among defined name ≡ false → Found es defined (name ∷ []) old
      by None first free = record { new = old; finds = finds_nobody es defined name old first; marked = k }
      by (Some index) first free =
          either (has_index old index)
          (λ there. record { new = old; finds = finds_again es defined name index old first there; marked = k })
          (λ fresh. record {
            new = old ++ index ∷ [];
            finds = finds_new es defined name index old (old ++ index ∷ []) first free refl;
            marked = one_marked es old index k (exporter_below es name index first) fresh;
          })

  find_after : (before names : Names) (old mid : List ℕ) → MarksExporters es defined before old mid → Marked es mid → Found es defined (before ++ names) old
  find_after before [] old mid finds k =
      record { new = mid; finds = subst (λ (ns : Names). MarksExporters es defined ns old mid) (sym (append-nil before)) finds; marked = k }
  find_after before (n ∷ names) old mid finds k =
      let one = find_name n mid k in
      let more = find_after (before ++ n ∷ []) names old one.new (finds_more es defined before n old mid one.new finds one.finds) one.marked in
      record { new = more.new; finds = subst (λ (ns : Names). MarksExporters es defined ns old more.new) (append_assoc before (n ∷ []) names) more.finds; marked = more.marked }

  find_names : (names : Names) (old : List ℕ) → Marked es old → Found es defined names old
  find_names names old k = find_after [] names old old (finds_none es defined old) k

place_there : (xs : List ℕ) (k : ℕ) → k < length xs → (x : ℕ) × (slice_get xs k ≡ Some x)
place_there [] k lt = absurd (omega arith)
place_there (x ∷ xs) zero lt = (x, refl)
place_there (x ∷ xs) (suc k) lt = place_there xs k (omega arith)

module _ (es : List Entry) (wanted defined : Names) where
  abbrev HasSelection : Type 0
  HasSelection = (indices : List ℕ) × IsSelection es wanted defined indices

  search_ends : (next : ℕ) (found : List ℕ) → Marked es found → IsSearchState es wanted defined found next → length found ≤ next → HasSelection
  search_ends next found k so_far all =
      let done : IsSearchState es wanted defined found (length found) = record {
        needed = so_far.needed;
        wanted_found = so_far.wanted_found;
        imports_found = λ j index lt. so_far.imports_found j index (omega arith);
      } in
      (marked_indices_from 0 k.marks, searched_selected es wanted defined found k.marks (marked_indices_from 0 k.marks) done k.marked refl)

  search : (n next : ℕ) (found : List ℕ) → Marked es found → IsSearchState es wanted defined found next → length es ≤ next + n → HasSelection
  search zero next found k so_far budget = search_ends next found k so_far (omega (arith, k.count, k.size))
  search (suc n) next found k so_far budget =
      either (nat_lt next (length found))
      (λ e. (let lt : next < length found = grind (arith, nat_tests) in
      let at = place_there found next lt in
      let more = find_names es defined (imports_at es at.0) found k in
      search n (next + 1) more.new more.marked (search_goes_on es wanted defined found more.new next at.0 lt at.1 so_far more.finds) (omega arith)))
      (λ e. search_ends next found k so_far (grind (arith, nat_tests)))

pub some_selection : SelectionExists
some_selection es wanted defined =
    let first = find_names es defined wanted [] (none_marked es) in
    search es wanted defined (length es) 0 first.new first.marked (search_begins es wanted defined first.new first.finds) (omega arith)
