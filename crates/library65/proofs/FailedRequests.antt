-- The offsets that a failed call can have requested while a library's file was read.
use Rattle.std.proofs.lemmas.Grind.{common_steps}
use Rattle.std.proofs.Common.{◌≡◌, ◌∙◌, ◌<◌, ◌≤◌, inl, ℕ, zero, suc, ◌+◌, ◌-◌, ◌++◌, List, [], ◌∷◌, length, take, drop, get_or, map, true, cond, nat_lt, Option, Some, None, Ok, Err, refl, sym, ap, subst, arith}
use Rattle.std.specs.Prelude.{IfSome, IsErrOf, ◌&&◌, not}
use Rattle.std.specs.FinMap.{get}
use Rattle.std.proofs.lemmas.Bool.Decides.{nat_tests}
use Rattle.std.proofs.lemmas.List.{length-take}
use Rattle.base65.specs.Outcome.{◌>>=◌}
use Rattle.base65.specs.Store.{LastFailure, Files, FailedWithin}
use Rattle.object65.specs.Reading.{file_limit}
use Rattle.library65.specs.declared.fault.LibraryFault.{LibraryFault}
use Rattle.library65.specs.declared.fault.LibraryFault.TheVariants.{BadIndex, CutShort, FileError}
use Rattle.library65.specs.declared.index.Entry.{Entry}
use Rattle.library65.specs.declared.index.UnplacedEntry.{UnplacedEntry}
use Rattle.library65.specs.FailedRequests.{RequestsOffset, IsOffsetInPart, IsIndexOffset, IsOffsetInName, members_offset}
use Rattle.library65.specs.Reading.{count_at, counted_names_at, end_at, entry_at, field_at, in_file, index_at, member_entries_at, unplaced_entry, unplaced_entry_at, unplaced_entries_at, member_name_at, name_at, number_at, members_with_offsets, symbol_at, symbols_at}
use Rattle.library65.specs.Spelling.{is_among, is_member_name, is_name}
use Rattle.library65.proofs.Edits.{left, right}
use Rattle.library65.proofs.ReadIndexes.{admits, bound, ended, passes}
use Rattle.library65.proofs.Steps.{Leads, Reading}

-- ---- The end of each part that is read.

name_ends : (bytes : List ℕ) (at : ℕ) (x : List ℕ × ℕ) → name_at at bytes ≡ Ok x → (len : List ℕ) × (field_at 1 at bytes ≡ Ok len) × (x.1 ≡ at + 1 + get_or len 0 0) × (get_or len 0 0 ≡ 0 → length x.0 ≡ 0)
unfolding name_at
name_ends bytes at x e =
    let a = bound (field_at 1 at bytes) _ x e in
    let b = bound (field_at (get_or a.0 0 0) (at + 1) bytes) _ x a.2 in
    let made : ◌≡◌ {A = List ℕ × ℕ} (b.0, at + 1 + get_or a.0 0 0) x = cc (b.2) in
    let name : b.0 ≡ x.0 = ap (λ (y : List ℕ × ℕ). y.0) made in
    (a.0, a.1, sym (ap (λ (y : List ℕ × ℕ). y.1) made), λ none. ap length (sym name) ∙ short (get_or a.0 0 0) b.0 none b.1)
  where
    short : (n : ℕ) (found : List ℕ) → n ≡ 0 → field_at n (at + 1) bytes ≡ Ok found → length found ≡ 0
    short n found none f =
        let xs = take n (drop (at + 1) bytes) in
        let a = passes (nat_lt file_limit (at + 1 + length xs)) BadIndex (cond (nat_lt (length xs) n) (Err CutShort) (Ok xs)) found f in
        let b = passes (nat_lt (length xs) n) CutShort (Ok xs) found a.1 in
        let same : xs ≡ found = cc (b.1) in
        omega (arith, ap length same, length-take n (drop (at + 1) bytes), none)

name_later : (bytes : List ℕ) (at : ℕ) (x : List ℕ × ℕ) → name_at at bytes ≡ Ok x → at < x.1
name_later bytes at x e = let n = name_ends bytes at x e in omega (arith, n.2)

symbol_is : (bytes : List ℕ) (at : ℕ) (x : List ℕ × ℕ) → symbol_at at bytes ≡ Ok x → (name_at at bytes ≡ Ok x) × (is_name x.0 ≡ true)
unfolding symbol_at
symbol_is bytes at x e =
    let a = bound (name_at at bytes) _ x e in
    let g = admits (is_name a.0.0) BadIndex a.0 x a.2 in
    subst (λ (y : List ℕ × ℕ). (name_at at bytes ≡ Ok y) × (is_name y.0 ≡ true)) g.1 (a.1, g.0)

symbols_later : (n : ℕ) (bytes : List ℕ) (at : ℕ) (before : List (List ℕ)) (x : List (List ℕ) × ℕ) → symbols_at n before at bytes ≡ Ok x → at ≤ x.1
symbols_later zero bytes at before x e = let same : ◌≡◌ {A = List (List ℕ) × ℕ} (before, at) x = cc e in omega (arith, ap (λ (y : List (List ℕ) × ℕ). y.1) same)
symbols_later (suc n) bytes at before x e =
    let a = bound (symbol_at at bytes) (λ s. symbols_at n (before ++ s.0 ∷ []) s.1 bytes) x e in
    let s = symbol_is bytes at a.0 a.1 in
    omega (arith, name_later bytes at a.0 s.0, symbols_later n bytes a.0.1 (before ++ a.0.0 ∷ []) x a.2)

counted_later : (bytes : List ℕ) (at : ℕ) (x : List (List ℕ) × ℕ) → counted_names_at at bytes ≡ Ok x → at + 4 ≤ x.1
unfolding counted_names_at
counted_later bytes at x e =
    let a = bound (number_at at bytes) (λ n. symbols_at n [] (at + 4) bytes) x e in
    symbols_later a.0 bytes (at + 4) [] x a.2

-- the name of a symbol or a member isn't empty
symbol_some : (name : List ℕ) → is_name name ≡ true → 0 < length name
symbol_some name e = grind (arith, common_steps, left, right, nat_tests)

member_name_is : (bytes : List ℕ) (at : ℕ) (names : List (List ℕ)) (x : List ℕ × ℕ) → member_name_at names at bytes ≡ Ok x → (name_at at bytes ≡ Ok x) × (is_member_name x.0 ≡ true)
unfolding member_name_at
member_name_is bytes at names x e =
    let a = bound (name_at at bytes) _ x e in
    let g = admits (is_member_name a.0.0 && not (is_among names a.0.0)) BadIndex a.0 x a.2 in
    subst (λ (y : List ℕ × ℕ). (name_at at bytes ≡ Ok y) × (is_member_name y.0 ≡ true)) g.1 (a.1, left (is_member_name a.0.0) (not (is_among names a.0.0)) g.0)

member_some : (name : List ℕ) → is_member_name name ≡ true → 0 < length name
member_some name e = grind (arith, common_steps, left, right, nat_tests)

-- the parts of an index entry that was read
record Listed (bytes : List ℕ) (at : ℕ) (x : UnplacedEntry × ℕ) : Type 0 where
  name : List ℕ × ℕ
  named : name_at at bytes ≡ Ok name
  some : 0 < length name.0
  exports : List (List ℕ) × ℕ
  exported : counted_names_at (name.1 + 4) bytes ≡ Ok exports
  imports : List (List ℕ) × ℕ
  imported : counted_names_at exports.1 bytes ≡ Ok imports
  ends : x.1 ≡ imports.1

listed : (bytes : List ℕ) (at : ℕ) (names : List (List ℕ)) (x : UnplacedEntry × ℕ) → unplaced_entry_at names at bytes ≡ Ok x → Listed bytes at x
unfolding unplaced_entry_at
listed bytes at names x e =
    let a = bound (member_name_at names at bytes) _ x e in
    let b = bound (number_at a.0.1 bytes) _ x a.2 in
    let c = bound (counted_names_at (a.0.1 + 4) bytes) _ x b.2 in
    let d = bound (counted_names_at c.0.1 bytes) _ x c.2 in
    let n = member_name_is bytes at names a.0 a.1 in
    let made : ◌≡◌ {A = UnplacedEntry × ℕ} (unplaced_entry a.0.0 b.0 c.0.0 d.0.0, d.0.1) x = cc (d.2) in
    record {
      name = a.0;
      named = n.0;
      some = member_some a.0.0 n.1;
      exports = c.0;
      exported = c.1;
      imports = d.0;
      imported = d.1;
      ends = sym (ap (λ (y : UnplacedEntry × ℕ). y.1) made);
    }

listing_later : (bytes : List ℕ) (at : ℕ) (names : List (List ℕ)) (x : UnplacedEntry × ℕ) → unplaced_entry_at names at bytes ≡ Ok x → at ≤ x.1
listing_later bytes at names x e =
    let l = listed bytes at names x e in
    omega (arith, name_later bytes at l.name l.named, counted_later bytes (l.name.1 + 4) l.exports l.exported, counted_later bytes l.exports.1 l.imports l.imported, l.ends)

listings_later : (n : ℕ) (bytes : List ℕ) (at : ℕ) (before : List UnplacedEntry) (x : List UnplacedEntry × ℕ) → unplaced_entries_at n before at bytes ≡ Ok x → at ≤ x.1
listings_later zero bytes at before x e = let same : ◌≡◌ {A = List UnplacedEntry × ℕ} (before, at) x = cc e in omega (arith, ap (λ (y : List UnplacedEntry × ℕ). y.1) same)
listings_later (suc n) bytes at before x e =
    let names = map (λ (m : UnplacedEntry). m.name) before in
    let a = bound (unplaced_entry_at names at bytes) (λ m. unplaced_entries_at n (before ++ m.0 ∷ []) m.1 bytes) x e in
    omega (arith, listing_later bytes at names a.0 a.1, listings_later n bytes a.0.1 (before ++ a.0.0 ∷ []) x a.2)

-- ---- The offset that each step of reading requests.

module _ (bytes : List ℕ) (k : ℕ) where
  pub count_of_symbols : (at : ℕ) → k ≤ at + 3 → IsOffsetInPart (counted_names_at at) bytes k
  count_of_symbols at le x e = omega (arith, counted_later bytes at x e)

  pub symbol_of : (n : ℕ) (at : ℕ) (before : List (List ℕ)) → IsOffsetInName at bytes k → IsOffsetInPart (symbols_at (suc n) before at) bytes k
  symbol_of n at before within x e =
      let a = bound (symbol_at at bytes) (λ s. symbols_at n (before ++ s.0 ∷ []) s.1 bytes) x e in
      let s = symbol_is bytes at a.0 a.1 in
      omega (arith, within a.0 s.0 (symbol_some a.0.0 s.1), symbols_later n bytes a.0.1 (before ++ a.0.0 ∷ []) x a.2)

  pub name_of_listing : (at : ℕ) (names : List (List ℕ)) → IsOffsetInName at bytes k → IsOffsetInPart (unplaced_entry_at names at) bytes k
  name_of_listing at names within x e =
      let l = listed bytes at names x e in
      omega (arith, within l.name l.named l.some, counted_later bytes (l.name.1 + 4) l.exports l.exported, counted_later bytes l.exports.1 l.imports l.imported, l.ends)

  module _ (at : ℕ) (names : List (List ℕ)) (name : List ℕ × ℕ) (named : name_at at bytes ≡ Ok name) where
    pub size_of_listing : k ≤ name.1 + 3 → IsOffsetInPart (unplaced_entry_at names at) bytes k
    size_of_listing le x e =
        let l = listed bytes at names x e in
        let same : l.name ≡ name = cc (l.named, named) in
        omega (arith, ap (λ (y : List ℕ × ℕ). y.1) same, counted_later bytes (l.name.1 + 4) l.exports l.exported, counted_later bytes l.exports.1 l.imports l.imported, l.ends)

    pub exports_of_listing : IsOffsetInPart (counted_names_at (name.1 + 4)) bytes k → IsOffsetInPart (unplaced_entry_at names at) bytes k
    exports_of_listing within x e =
        let l = listed bytes at names x e in
        let same : l.name ≡ name = cc (l.named, named) in
        let read : counted_names_at (name.1 + 4) bytes ≡ Ok l.exports = subst (λ (y : List ℕ × ℕ). counted_names_at (y.1 + 4) bytes ≡ Ok l.exports) same l.exported in
        omega (arith, within l.exports read, counted_later bytes l.exports.1 l.imports l.imported, l.ends)

  pub listing_of : (n : ℕ) (at : ℕ) (before : List UnplacedEntry) → IsOffsetInPart (unplaced_entry_at (map (λ m. m.name) before) at) bytes k → IsOffsetInPart (unplaced_entries_at (suc n) before at) bytes k
  listing_of n at before within x e =
      let a = bound (unplaced_entry_at (map (λ (m : UnplacedEntry). m.name) before) at bytes) (λ m. unplaced_entries_at n (before ++ m.0 ∷ []) m.1 bytes) x e in
      omega (arith, within a.0 a.1, listings_later n bytes a.0.1 (before ++ a.0.0 ∷ []) x a.2)

  pub count_of_list : k ≤ 8 → IsOffsetInPart member_entries_at bytes k
  unfolding member_entries_at
  count_of_list le x e =
      let a = bound (count_at bytes) (λ n. unplaced_entries_at n [] 9 bytes) x e in
      omega (arith, listings_later a.0 bytes 9 [] x a.2)

-- ---- The whole index.

-- the members begin at the offset of the first entry
placed_after : (at : ℕ) (ms : List UnplacedEntry) (e : Entry) (before : List Entry) (x : List Entry × ℕ) → members_with_offsets (e ∷ before) at ms ≡ Ok x → (end : ℕ) → members_offset x.0 end ≡ e.place
placed_after at [] e before x h end = let same : ◌≡◌ {A = List Entry × ℕ} (e ∷ before, at) x = cc h in ap (λ (y : List Entry × ℕ). members_offset y.0 end) (sym same)
placed_after at (m ∷ ms) e before x h end = let a = passes _ _ _ x h in placed_after (at + m.size) ms e (before ++ entry_at at m ∷ []) x a.1 end

begins_at : (at : ℕ) (ms : List UnplacedEntry) (x : List Entry × ℕ) → members_with_offsets [] at ms ≡ Ok x → members_offset x.0 x.1 ≡ at
begins_at at [] x e = let same : ◌≡◌ {A = List Entry × ℕ} ([], at) x = cc e in ap (λ (y : List Entry × ℕ). members_offset y.0 y.1) (sym same)
begins_at at (m ∷ ms) x e = let a = passes _ _ _ x e in placed_after (at + m.size) ms (entry_at at m) [] x a.1 x.1

-- the parts of an index that was read
pub record Indexed (bytes : List ℕ) (es : List Entry) : Type 0 where
  pub list : List UnplacedEntry × ℕ
  pub listed : member_entries_at bytes ≡ Ok list
  pub placed_to : List Entry × ℕ
  pub offsets : members_with_offsets [] list.1 list.0 ≡ Ok placed_to
  pub ends : length bytes ≡ placed_to.1
  pub entries : placed_to.0 ≡ es

pub indexed : (bytes : List ℕ) (es : List Entry) → index_at bytes ≡ Ok es → Indexed bytes es
unfolding index_at
indexed bytes es e =
    let a = bound (member_entries_at bytes) (λ l. members_with_offsets [] l.1 l.0 >>= (λ p. end_at p.1 bytes >>= (λ u. Ok p.0))) es e in
    let p = bound (members_with_offsets [] a.0.1 a.0.0) (λ p. end_at p.1 bytes >>= (λ u. Ok p.0)) es a.2 in
    let u = bound (end_at p.0.1 bytes) (λ u. Ok p.0.0) es p.2 in
    record { list = a.0; listed = a.1; placed_to = p.0; offsets = p.1; ends = ended bytes p.0.1 u.0 u.1; entries = cc (u.2) }

module _ (bytes : List ℕ) (k : ℕ) where
  pub list_of_index : IsOffsetInPart member_entries_at bytes k → IsIndexOffset bytes k
  list_of_index within es e =
      let x = indexed bytes es e in
      let begin : members_offset es (length bytes) ≡ x.list.1 = ap (members_offset es) x.ends ∙ ap (λ (ys : List Entry). members_offset ys x.placed_to.1) (sym x.entries) ∙ begins_at x.list.1 x.list.0 x.placed_to x.offsets in
      inl (omega (arith, begin, within x.list x.listed))

-- ---- The same for a store.

-- if `P` implies `Q` for every offset, it does for the requested offset
module _ (m : Files) (file bytes : List ℕ) (P Q : List ℕ → ℕ → Type 0) (so : (k : ℕ) → P bytes k → Q bytes k) where
  told : (last_failure : LastFailure) → IfSome last_failure (λ c. (at : ℕ) × (c.at ≡ Some at) × P bytes at) → IfSome last_failure (λ c. (at : ℕ) × (c.at ≡ Some at) × Q bytes at)
  told None h = tt
  told (Some c) h = (h.0, h.1, so h.0 h.2)

pub asks_on : (known now : Option Files) (last_failure : LastFailure) (file : List ℕ) (P Q : List ℕ → ℕ → Type 0) → now ≡ known → ((m : Files) (bytes : List ℕ) (k : ℕ) → known ≡ Some m → get m file ≡ Some bytes → P bytes k → Q bytes k) → RequestsOffset now last_failure file P → RequestsOffset known last_failure file Q
asks_on known now last_failure file P Q same so asks = go known refl (subst (λ (f : Option Files). RequestsOffset f last_failure file P) same asks)
  where
    of : (m : Files) → known ≡ Some m → (b : Option (List ℕ)) → get m file ≡ b → IfSome b (λ bytes. IfSome last_failure (λ c. (at : ℕ) × (c.at ≡ Some at) × P bytes at)) → IfSome b (λ bytes. IfSome last_failure (λ c. (at : ℕ) × (c.at ≡ Some at) × Q bytes at))
    of m is None there asks = tt
    of m is (Some bytes) there asks = told m file bytes P Q (λ k. so m bytes k is there) last_failure asks

    go : (f : Option Files) → known ≡ f → RequestsOffset f last_failure file P → RequestsOffset f last_failure file Q
    go None is asks = tt
    go (Some m) is asks = of m is (get m file) refl asks

-- the offset is between `begin` and `end`, or one of them
abbrev pub IsBetween : ℕ → ℕ → List ℕ → ℕ → Type 0
IsBetween begin end bytes at = (begin ≤ at) × (at ≤ end)

pub asks_between : (known : Option Files) (last_failure : LastFailure) (file : List ℕ) (begin end : ℕ) → FailedWithin last_failure file begin end → RequestsOffset known last_failure file (IsBetween begin end)
asks_between known last_failure file begin end h = go known
  where
    told_so : (b : LastFailure) → FailedWithin b file begin end → (bytes : List ℕ) → IfSome b (λ c. (at : ℕ) × (c.at ≡ Some at) × IsBetween begin end bytes at)
    told_so None h bytes = tt
    told_so (Some c) h bytes = (h.1, h.2, (h.3, h.4))

    of : (b : Option (List ℕ)) → IfSome b (λ bytes. IfSome last_failure (λ c. (at : ℕ) × (c.at ≡ Some at) × IsBetween begin end bytes at))
    of None = tt
    of (Some bytes) = told_so last_failure h bytes

    go : (f : Option Files) → RequestsOffset f last_failure file (IsBetween begin end)
    go None = tt
    go (Some m) = of (get m file)

-- the result of reading a file is the result of reading its bytes, if they are known
pub read_at : {A : Type 0} (known : Option Files) (file : List ℕ) (read : Reading A) (y : A) → IfSome known (λ m. in_file (get m file) read ≡ Ok y) → (m : Files) (bytes : List ℕ) → known ≡ Some m → get m file ≡ Some bytes → read bytes ≡ Ok y
read_at {A} known file read y h m bytes is there =
    let known_m : in_file (get m file) read ≡ Ok y = subst (λ (f : Option Files). IfSome f (λ m. in_file (get m file) read ≡ Ok y)) is h in
    subst (λ (b : Option (List ℕ)). in_file b read ≡ Ok y) there known_m

pub leads_at : {A : Type 0} (known : Option Files) (file : List ℕ) (rest all : Reading A) → Leads known file rest all → (m : Files) (bytes : List ℕ) → known ≡ Some m → get m file ≡ Some bytes → rest bytes ≡ all bytes
leads_at {A} known file rest all h m bytes is there =
    let known_m : IfSome (get m file) (λ bytes. rest bytes ≡ all bytes) = subst (λ (f : Option Files). IfSome f (λ m. IfSome (get m file) (λ bytes. rest bytes ≡ all bytes))) is h in
    subst (λ (b : Option (List ℕ)). IfSome b (λ bytes. rest bytes ≡ all bytes)) there known_m

-- if the rest is read as the whole, an offset before the end of the rest is before the end of the whole
pub leads_before : {A : Type 0} (rest all : Reading (A × ℕ)) (bytes : List ℕ) (k : ℕ) → rest bytes ≡ all bytes → IsOffsetInPart rest bytes k → IsOffsetInPart all bytes k
leads_before rest all bytes k same within x e = within x (same ∙ e)

-- a failure of the store in a step is the failure of the whole
pub fault_of : {T U : Type 0} (e : LibraryFault) → IsErrOf {T = T} (Err e) FileError → IsErrOf {T = U} (Err e) FileError
fault_of e h = let is : e ≡ FileError = cc h in ap Err is

module _ (known now : Option Files) (last_failure : LastFailure) (file : List ℕ) (same : now ≡ known) where
  pub count_failed : (at : ℕ) → FailedWithin last_failure file at (at + 3) → RequestsOffset known last_failure file (IsOffsetInPart (counted_names_at at))
  count_failed at h = asks_on known known last_failure file (IsBetween at (at + 3)) (IsOffsetInPart (counted_names_at at)) refl (λ m bytes k is there b. count_of_symbols bytes k at b.1) (asks_between known last_failure file at (at + 3) h)

  pub symbol_failed : (n i at end : ℕ) (names : List (List ℕ)) → i < n → Leads known file (symbols_at (n - i) names end) (counted_names_at at) → RequestsOffset now last_failure file (IsOffsetInName end) → RequestsOffset known last_failure file (IsOffsetInPart (counted_names_at at))
  symbol_failed n i at end names less leads asks =
      let one : n - i ≡ suc (n - (i + 1)) = omega arith in
      asks_on known now last_failure file (IsOffsetInName end) (IsOffsetInPart (counted_names_at at)) same
      (λ m bytes k is there within. leads_before (symbols_at (n - i) names end) (counted_names_at at) bytes k (leads_at known file _ _ leads m bytes is there)
      (subst (λ (j : ℕ). IsOffsetInPart (symbols_at j names end) bytes k) (sym one) (symbol_of bytes k (n - (i + 1)) end names within))) asks

  module _ (at : ℕ) (names : List (List ℕ)) where
    pub name_failed : RequestsOffset known last_failure file (IsOffsetInName at) → RequestsOffset known last_failure file (IsOffsetInPart (unplaced_entry_at names at))
    name_failed asks = asks_on known known last_failure file (IsOffsetInName at) (IsOffsetInPart (unplaced_entry_at names at)) refl (λ m bytes k is there within. name_of_listing bytes k at names within) asks

    module _ (name : List ℕ × ℕ) (named : IfSome known (λ m. in_file (get m file) (name_at at) ≡ Ok name)) where
      pub size_failed : FailedWithin last_failure file name.1 (name.1 + 3) → RequestsOffset known last_failure file (IsOffsetInPart (unplaced_entry_at names at))
      size_failed h = asks_on known known last_failure file (IsBetween name.1 (name.1 + 3)) (IsOffsetInPart (unplaced_entry_at names at)) refl (λ m bytes k is there b. size_of_listing bytes k at names name (read_at known file (name_at at) name named m bytes is there) b.1) (asks_between known last_failure file name.1 (name.1 + 3) h)

      pub exports_failed : RequestsOffset now last_failure file (IsOffsetInPart (counted_names_at (name.1 + 4))) → RequestsOffset known last_failure file (IsOffsetInPart (unplaced_entry_at names at))
      exports_failed asks = asks_on known now last_failure file (IsOffsetInPart (counted_names_at (name.1 + 4))) (IsOffsetInPart (unplaced_entry_at names at)) same (λ m bytes k is there within. exports_of_listing bytes k at names name (read_at known file (name_at at) name named m bytes is there) within) asks

  pub members_failed : FailedWithin last_failure file 0 8 → RequestsOffset known last_failure file (IsOffsetInPart member_entries_at)
  members_failed h = asks_on known known last_failure file (IsBetween 0 8) (IsOffsetInPart member_entries_at) refl (λ m bytes k is there b. count_of_list bytes k b.1) (asks_between known last_failure file 0 8 h)

  pub listing_failed : (n i end : ℕ) (ms : List UnplacedEntry) (names : List (List ℕ)) → names ≡ map (λ m. m.name) ms → i < n → Leads known file (unplaced_entries_at (n - i) ms end) member_entries_at → RequestsOffset now last_failure file (IsOffsetInPart (unplaced_entry_at names end)) → RequestsOffset known last_failure file (IsOffsetInPart member_entries_at)
  listing_failed n i end ms names named less leads asks =
      let one : n - i ≡ suc (n - (i + 1)) = omega arith in
      asks_on known now last_failure file (IsOffsetInPart (unplaced_entry_at names end)) (IsOffsetInPart member_entries_at) same
      (λ m bytes k is there within. leads_before (unplaced_entries_at (n - i) ms end) member_entries_at bytes k (leads_at known file _ _ leads m bytes is there)
      (subst (λ (j : ℕ). IsOffsetInPart (unplaced_entries_at j ms end) bytes k) (sym one) (listing_of bytes k (n - (i + 1)) end ms (subst (λ (ns : List (List ℕ)). IsOffsetInPart (unplaced_entry_at ns end) bytes k) named within)))) asks

  pub list_failed : RequestsOffset known last_failure file (IsOffsetInPart member_entries_at) → RequestsOffset known last_failure file IsIndexOffset
  list_failed asks = asks_on known known last_failure file (IsOffsetInPart member_entries_at) IsIndexOffset refl (λ m bytes k is there within. list_of_index bytes k within) asks
