-- The members of an index are contiguous, up to the end of the file.
use Rattle.std.proofs.Common.{◌≡◌, ◌∙◌, ◌<◌, ◌≤◌, ℕ, zero, suc, ◌+◌, ◌++◌, List, [], ◌∷◌, length, nat_lt, Some, slice_get, Ok, refl, sym, ap, subst, arith, append_assoc}
use Rattle.std.proofs.lemmas.List.{append-nil}
use Rattle.object65.specs.Reading.{file_limit}
use Rattle.library65.specs.declared.fault.LibraryFault.TheVariants.{BadIndex}
use Rattle.library65.specs.declared.index.Entry.{Entry}
use Rattle.library65.specs.declared.index.UnplacedEntry.{UnplacedEntry}
use Rattle.library65.specs.FailedRequests.{members_offset}
use Rattle.library65.specs.Reading.{entry_at, index_at, members_with_offsets}
use Rattle.library65.proofs.FailedRequests.{count_of_list, indexed}
use Rattle.library65.proofs.ReadIndexes.{passes}

-- the entries are contiguous from offset `at` to offset `end`
abbrev pub IsRow : ℕ → List Entry → ℕ → Type 0
IsRow at [] end = at ≡ end
IsRow at (e ∷ es) end = (e.place ≡ at) × IsRow (at + e.size) es end

pub record Stand (at : ℕ) (before es : List Entry) (end : ℕ) : Type 0 where
  pub new : List Entry
  pub all : es ≡ before ++ new
  pub row : IsRow at new end

placed_stand : (at : ℕ) (ms : List UnplacedEntry) (before : List Entry) (x : List Entry × ℕ) → members_with_offsets before at ms ≡ Ok x → Stand at before x.0 x.1
placed_stand at [] before x h =
    let same : ◌≡◌ {A = List Entry × ℕ} (before, at) x = cc h in
    record { new = []; all = sym (ap (λ (y : List Entry × ℕ). y.0) same) ∙ sym (append-nil before); row = ap (λ (y : List Entry × ℕ). y.1) same }
placed_stand at (m ∷ ms) before x h =
    let a = passes (nat_lt file_limit (at + m.size)) BadIndex (members_with_offsets (before ++ entry_at at m ∷ []) (at + m.size) ms) x h in
    let rest = placed_stand (at + m.size) ms (before ++ entry_at at m ∷ []) x a.1 in
    record { new = entry_at at m ∷ rest.new; all = rest.all ∙ append_assoc before (entry_at at m ∷ []) rest.new; row = (refl, rest.row) }

begins : (at : ℕ) (es : List Entry) (end : ℕ) → IsRow at es end → members_offset es end ≡ at
begins at [] end row = sym row
begins at (e ∷ es) end row = row.0

-- the members begin after offset 8 and are contiguous up to the end of the file
pub record StandAfter (bytes : List ℕ) (es : List Entry) : Type 0 where
  pub following : 8 < members_offset es (length bytes)
  pub row : IsRow (members_offset es (length bytes)) es (length bytes)

pub index_stands : (bytes : List ℕ) (es : List Entry) → index_at bytes ≡ Ok es → StandAfter bytes es
index_stands bytes es h =
    let x = indexed bytes es h in
    let s = placed_stand x.list.1 x.list.0 [] x.placed_to x.offsets in
    let all : es ≡ s.new = sym x.entries ∙ s.all in
    let row : IsRow x.list.1 es (length bytes) = subst (λ (n : ℕ). IsRow x.list.1 es n) (sym x.ends) (subst (λ (ys : List Entry). IsRow x.list.1 ys x.placed_to.1) (sym all) s.row) in
    let first = begins x.list.1 es (length bytes) row in
    record {
      following = omega (arith, first, count_of_list bytes 8 (omega arith) x.list x.listed);
      row = subst (λ (n : ℕ). IsRow n es (length bytes)) (sym first) row;
    }

row_rises : (at : ℕ) (es : List Entry) (end : ℕ) → IsRow at es end → at ≤ end
row_rises at [] end row = omega (arith, row)
row_rises at (e ∷ es) end row = omega (arith, row_rises (at + e.size) es end row.1)

-- each member is between the two offsets
pub stands_within : (at : ℕ) (es : List Entry) (end i : ℕ) (e : Entry) → IsRow at es end → slice_get es i ≡ Some e → (at ≤ e.place) × (e.place + e.size ≤ end)
stands_within at [] end i e row there = absurd cc
stands_within at (x ∷ es) end zero e row there =
    let same : x ≡ e = cc there in
    subst (λ (y : Entry). (at ≤ y.place) × (y.place + y.size ≤ end)) same (omega (arith, row.0), omega (arith, row.0, row_rises (at + x.size) es end row.1))
stands_within at (x ∷ es) end (suc i) e row there =
    let rest = stands_within (at + x.size) es end i e row.1 there in
    (omega (arith, rest.0), rest.1)

-- each member begins at or after the end of every member before it
pub stand_apart : (at : ℕ) (es : List Entry) (end i j : ℕ) (e f : Entry) → IsRow at es end → slice_get es i ≡ Some e → slice_get es j ≡ Some f → i < j → e.place + e.size ≤ f.place
stand_apart at [] end i j e f row one other less = absurd cc
stand_apart at (x ∷ es) end i zero e f row one other less = absurd (omega arith)
stand_apart at (x ∷ es) end zero (suc j) e f row one other less =
    let same : x ≡ e = cc one in
    let rest = stands_within (at + x.size) es end j f row.1 other in
    subst (λ (y : Entry). y.place + y.size ≤ f.place) same (omega (arith, row.0, rest.0))
stand_apart at (x ∷ es) end (suc i) (suc j) e f row one other less = stand_apart (at + x.size) es end i j e f row.1 one other (omega arith)
