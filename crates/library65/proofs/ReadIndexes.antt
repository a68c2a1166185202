-- Bytes that are read as an index are its encoding.
use Rattle.std.proofs.lemmas.Grind.{common_steps}
use Rattle.std.proofs.Common.{◌≡◌, ◌∙◌, ◌<◌, ◌≤◌, ◌^◌, ℕ, zero, suc, ◌+◌, Bool, true, false, cond, nat_lt, List, [], ◌∷◌, ◌++◌, length, take, drop, get_or, Result, Ok, Err, refl, sym, ap, subst, arith, append_assoc, if◌then◌else◌, not, ◌||◌, ◌&&◌, nat_eq, map, length-drop}
use Rattle.std.specs.List.{flat_map, list_all, AllByRecursion}
use Rattle.std.proofs.lemmas.Bool.Decides.{nat_tests}
use Rattle.std.proofs.lemmas.List.{append-nil, drop-drop, length-take, take-append-drop, take_all, map-append}
use Rattle.byteorder.specs.Endian.{little_bytes, little_number}
use Rattle.byteorder.specs.Numbers.{little_from-lt}
use Rattle.object65.specs.Record.{IsBytes}
use Rattle.object65.specs.Reading.{file_limit}
use Rattle.object65.proofs.Numbers.{bytes_drop, bytes_take, front}
use Rattle.base65.specs.Outcome.{◌>>=◌}
use Rattle.library65.specs.declared.fault.LibraryFault.{LibraryFault}
use Rattle.library65.specs.declared.fault.LibraryFault.TheVariants.{BadIndex, CutShort}
use Rattle.library65.specs.Spelling.{is_name, are_member_names, is_among, is_member_name, name_bytes, names_bytes, IsWellFormedEntry, IsIndex, AreContiguous, entry_bytes, index_bytes, library_head, index_entry_bytes}
use Rattle.library65.specs.Reading.{counted_names_at, field_at, name_at, number_at, symbol_at, symbols_at, count_at, end_at, entry_at, head_at, index_at, member_entries_at, unplaced_entry, unplaced_entry_at, unplaced_entries_at, member_name_at, members_with_offsets}
use Rattle.library65.proofs.Edits.{and, left, names_good, right, turned}
use Rattle.std.specs.Prelude.{sum_by}
use Rattle.std.specs.Str.{bytes_eq}
use Rattle.std.specs.Cmp.Lexicographic.{pointwise}
use Rattle.std.proofs.lemmas.Cmp.{nat_list_eq_equiv}
use Rattle.std.proofs.lemmas.List.Folds.{list_any-append}
use Rattle.std.proofs.lemmas.List.Sums.{sum_by-cons}
use Rattle.library65.specs.declared.index.Entry.{Entry}
use Rattle.library65.specs.declared.index.UnplacedEntry.{UnplacedEntry}
use Rattle.library65.specs.Laws.{ReadIndexIsEncoded}
use Rattle.library65.proofs.WrittenLibraries.{entry_size}

-- ---- The bytes that are read are the encoding.

pub bound : {A B : Type 0} (r : Result A LibraryFault) (f : A → Result B LibraryFault) (y : B) → (r >>= f) ≡ Ok y → (x : A) × (r ≡ Ok x) × (f x ≡ Ok y)
bound x f y e = grind (arith, common_steps)

pub passes : {A : Type 0} (b : Bool) (f : LibraryFault) (r : Result A LibraryFault) (y : A) → cond b (Err f) r ≡ Ok y → (b ≡ false) × (r ≡ Ok y)
passes true f r y e = cc
passes false f r y e = (refl, e)

pub admits : {A : Type 0} (b : Bool) (f : LibraryFault) (x y : A) → cond b (Ok x) (Err f) ≡ Ok y → (b ≡ true) × (x ≡ y)
admits true f x y e = (refl, cc)
admits false f x y e = cc

-- the bytes from `at` to `next` are `part`, and end within the file size limit
pub record Takes (bytes : List ℕ) (at next : ℕ) (part : List ℕ) : Type 0 where
  pub split : drop at bytes ≡ part ++ drop next bytes
  pub next_is : next ≡ at + length part
  pub limit : next ≤ file_limit

pub takes_none : (bytes : List ℕ) (at : ℕ) → at ≤ file_limit → Takes bytes at at []
takes_none bytes at le = record { split = refl; next_is = omega arith; limit = le }

pub takes_then : (bytes : List ℕ) (at mid next : ℕ) (a b : List ℕ) → Takes bytes at mid a → Takes bytes mid next b → Takes bytes at next (a ++ b)
takes_then bytes at mid next a b s t = grind (arith, common_steps)

pub record TakesField (bytes : List ℕ) (n at : ℕ) (f : List ℕ) : Type 0 where
  pub takes : Takes bytes at (at + n) f
  pub len : length f ≡ n
  pub is : f ≡ take n (drop at bytes)

pub field_takes : (bytes : List ℕ) (n at : ℕ) (f : List ℕ) → field_at n at bytes ≡ Ok f → TakesField bytes n at f
field_takes bytes n at f e =
    let found = take n (drop at bytes) in
    let a = passes (nat_lt file_limit (at + length found)) BadIndex (if nat_lt (length found) n then Err CutShort else Ok found) f e in
    let b = passes (nat_lt (length found) n) CutShort (Ok found) f a.1 in
    let same : found ≡ f = cc (b.1) in
    let few = length-take n (drop at bytes) in
    let long : n ≤ length found = grind (arith, nat_tests) in
    let within : at + length found ≤ file_limit = grind (arith, nat_tests) in
    let len : length f ≡ n = sym (ap (length {A = ℕ}) same) ∙ (let l : length found ≡ n = omega arith in l) in
    record {
      takes = record {
        split = sym (take-append-drop n (drop at bytes)) ∙ ap (λ xs. xs ++ drop n (drop at bytes)) same ∙ ap (λ xs. f ++ xs) (drop-drop n at bytes);
        next_is = omega (arith, len);
        limit = omega (arith, len, within, ap (length {A = ℕ}) same);
      };
      len = len;
      is = sym same;
    }

pub number_takes : (bytes : List ℕ) (at x : ℕ) → IsBytes bytes → number_at at bytes ≡ Ok x → Takes bytes at (at + 4) (little_bytes 4 x) × (x < 2 ^ 32)
unfolding number_at
number_takes bytes at x is e =
    let f = bound (field_at 4 at bytes) (λ f. Ok (little_number 4 f)) x e in
    let t = field_takes bytes 4 at f.0 f.1 in
    let inside : IsBytes f.0 = subst IsBytes (sym t.is) (bytes_take 4 (drop at bytes) (bytes_drop at bytes is)) in
    let value : little_number 4 f.0 ≡ x = cc (f.2) in
    let spelled : little_bytes 4 x ≡ f.0 = ap (little_bytes 4) (sym value) ∙ front 4 f.0 inside (omega (arith, t.len)) ∙ all f.0 t.len in
    (subst (Takes bytes at (at + 4)) (sym spelled) t.takes, let low = little_from-lt 0 4 f.0 inside in omega (arith, value, low))
  where
    all : (xs : List ℕ) → length xs ≡ 4 → take 4 xs ≡ xs
    all xs len = take_all 4 xs (omega arith)

pub name_takes : (bytes : List ℕ) (at : ℕ) (x : List ℕ × ℕ) → name_at at bytes ≡ Ok x → Takes bytes at x.1 (name_bytes x.0)
unfolding name_at
name_takes bytes at x e =
    let a = bound (field_at 1 at bytes) _ x e in
    let b = bound (field_at (get_or a.0 0 0) (at + 1) bytes) _ x a.2 in
    let s = field_takes bytes 1 at a.0 a.1 in
    let t = field_takes bytes (get_or a.0 0 0) (at + 1) b.0 b.1 in
    let made : ◌≡◌ {A = List ℕ × ℕ} (b.0, at + 1 + get_or a.0 0 0) x = cc (b.2) in
    let one : a.0 ≡ length b.0 ∷ [] = single a.0 s.len ∙ ap (λ n. n ∷ []) (sym t.len) in
    let first : Takes bytes at (at + 1) (length b.0 ∷ []) = subst (Takes bytes at (at + 1)) one s.takes in
    subst (λ (y : List ℕ × ℕ). Takes bytes at y.1 (name_bytes y.0)) made (takes_then bytes at (at + 1) (at + 1 + get_or a.0 0 0) (length b.0 ∷ []) b.0 first t.takes)
  where
    single : (xs : List ℕ) → length xs ≡ 1 → xs ≡ get_or xs 0 0 ∷ []
    single [] len = absurd (omega arith)
    single (y ∷ []) len = refl
    single (y ∷ z ∷ ys) len = absurd (omega arith)

pub symbol_takes : (bytes : List ℕ) (at : ℕ) (x : List ℕ × ℕ) → symbol_at at bytes ≡ Ok x → Takes bytes at x.1 (name_bytes x.0) × (is_name x.0 ≡ true)
unfolding symbol_at
symbol_takes bytes at x e =
    let a = bound (name_at at bytes) _ x e in
    let g = admits (is_name a.0.0) BadIndex a.0 x a.2 in
    let t = name_takes bytes at a.0 a.1 in
    subst (λ (y : List ℕ × ℕ). Takes bytes at y.1 (name_bytes y.0) × (is_name y.0 ≡ true)) g.1 (t, g.0)

pub record TakesNames (bytes : List ℕ) (n at : ℕ) (before : List (List ℕ)) (x : List (List ℕ) × ℕ) : Type 0 where
  pub new : List (List ℕ)
  pub names : x.0 ≡ before ++ new
  pub count : length new ≡ n
  pub good : list_all is_name new ≡ true
  pub takes : Takes bytes at x.1 (flat_map name_bytes new)

pub symbols_take : (n : ℕ) (bytes : List ℕ) (at : ℕ) (before : List (List ℕ)) (x : List (List ℕ) × ℕ) → at ≤ file_limit → symbols_at n before at bytes ≡ Ok x → TakesNames bytes n at before x
symbols_take zero bytes at before x le e = grind (arith, common_steps, append-nil, takes_none)
symbols_take (suc n) bytes at before x le e =
    let a = bound (symbol_at at bytes) (λ s. symbols_at n (before ++ s.0 ∷ []) s.1 bytes) x e in
    let s = symbol_takes bytes at a.0 a.1 in
    let rest = symbols_take n bytes a.0.1 (before ++ a.0.0 ∷ []) x s.0.limit a.2 in
    record {
      new = a.0.0 ∷ rest.new;
      names = rest.names ∙ append_assoc before (a.0.0 ∷ []) rest.new;
      count = ap suc rest.count;
      good = and (is_name a.0.0) (list_all is_name rest.new) s.1 rest.good;
      takes = takes_then bytes at a.0.1 x.1 (name_bytes a.0.0) (flat_map name_bytes rest.new) s.0 rest.takes;
    }

pub record TakesCounted (bytes : List ℕ) (at : ℕ) (x : List (List ℕ) × ℕ) : Type 0 where
  pub takes : Takes bytes at x.1 (names_bytes x.0)
  pub good : list_all is_name x.0 ≡ true
  pub count : length x.0 < 2 ^ 32

pub counted_takes : (bytes : List ℕ) (at : ℕ) (x : List (List ℕ) × ℕ) → IsBytes bytes → counted_names_at at bytes ≡ Ok x → TakesCounted bytes at x
unfolding counted_names_at
counted_takes bytes at x is e =
    let a = bound (number_at at bytes) (λ n. symbols_at n [] (at + 4) bytes) x e in
    let n = number_takes bytes at a.0 is a.1 in
    let s = symbols_take a.0 bytes (at + 4) [] x n.0.limit a.2 in
    let count : length x.0 ≡ a.0 = ap length s.names ∙ s.count in
    let number : Takes bytes at (at + 4) (little_bytes 4 (length x.0)) = subst (λ k. Takes bytes at (at + 4) (little_bytes 4 k)) (sym count) n.0 in
    let names : Takes bytes (at + 4) x.1 (flat_map name_bytes x.0) = subst (λ ns. Takes bytes (at + 4) x.1 (flat_map name_bytes ns)) (sym s.names) s.takes in
    record {
      takes = takes_then bytes at (at + 4) x.1 (little_bytes 4 (length x.0)) (flat_map name_bytes x.0) number names;
      good = ap (list_all is_name) s.names ∙ s.good;
      count = omega (arith, count, n.1);
    }

-- ---- The entries that are read form an index.

abbrev text_of : UnplacedEntry → List ℕ
text_of m = index_entry_bytes m.name m.size m.exports m.imports

record TakesListing (bytes : List ℕ) (at : ℕ) (names : List (List ℕ)) (x : UnplacedEntry × ℕ) : Type 0 where
  takes : Takes bytes at x.1 (text_of x.0)
  good : is_member_name x.0.name ≡ true
  new : is_among names x.0.name ≡ false
  fits : IsWellFormedEntry (entry_at 0 x.0)

record TakesName (bytes : List ℕ) (at : ℕ) (names : List (List ℕ)) (x : List ℕ × ℕ) : Type 0 where
  takes : Takes bytes at x.1 (name_bytes x.0)
  good : is_member_name x.0 ≡ true
  new : is_among names x.0 ≡ false

member_name_takes : (bytes : List ℕ) (at : ℕ) (names : List (List ℕ)) (x : List ℕ × ℕ) → member_name_at names at bytes ≡ Ok x → TakesName bytes at names x
unfolding member_name_at
member_name_takes bytes at names x e =
    let a = bound (name_at at bytes) _ x e in
    let g = admits (is_member_name a.0.0 && not (is_among names a.0.0)) BadIndex a.0 x a.2 in
    let t = name_takes bytes at a.0 a.1 in
    subst (TakesName bytes at names) g.1 (record { takes = t; good = left (is_member_name a.0.0) (not (is_among names a.0.0)) g.0; new = turned (is_among names a.0.0) (right (is_member_name a.0.0) (not (is_among names a.0.0)) g.0) })

listing_takes : (bytes : List ℕ) (at : ℕ) (names : List (List ℕ)) (x : UnplacedEntry × ℕ) → IsBytes bytes → unplaced_entry_at names at bytes ≡ Ok x → TakesListing bytes at names x
unfolding unplaced_entry_at
listing_takes bytes at names x is e =
    let a = bound (member_name_at names at bytes) _ x e in
    let b = bound (number_at a.0.1 bytes) _ x a.2 in
    let c = bound (counted_names_at (a.0.1 + 4) bytes) _ x b.2 in
    let d = bound (counted_names_at c.0.1 bytes) _ x c.2 in
    let name = member_name_takes bytes at names a.0 a.1 in
    let size = number_takes bytes a.0.1 b.0 is b.1 in
    let exports = counted_takes bytes (a.0.1 + 4) c.0 is c.1 in
    let imports = counted_takes bytes c.0.1 d.0 is d.1 in
    let made : ◌≡◌ {A = UnplacedEntry × ℕ} (unplaced_entry a.0.0 b.0 c.0.0 d.0.0, d.0.1) x = cc (d.2) in
    let tail = takes_then bytes (a.0.1 + 4) c.0.1 d.0.1 (names_bytes c.0.0) (names_bytes d.0.0) exports.takes imports.takes in
    let more = takes_then bytes a.0.1 (a.0.1 + 4) d.0.1 (little_bytes 4 b.0) (names_bytes c.0.0 ++ names_bytes d.0.0) size.0 tail in
    let all = takes_then bytes at a.0.1 d.0.1 (name_bytes a.0.0) (little_bytes 4 b.0 ++ (names_bytes c.0.0 ++ names_bytes d.0.0)) name.takes more in
    subst (TakesListing bytes at names) made (record {
      takes = all;
      good = name.good;
      new = name.new;
      fits = record { exports = exports.good; imports = imports.good; size = size.1; export_count = exports.count; import_count = imports.count };
    })

-- no entry's name is among these names
abbrev Apart : List (List ℕ) → List UnplacedEntry → Type 0
Apart names ms = AllByRecursion (λ (m : UnplacedEntry). is_among names m.name ≡ false) ms

or_none : (a b : Bool) → (a || b) ≡ false → (a ≡ false) × (b ≡ false)
or_none true b e = cc
or_none false b e = (refl, e)

-- if no entry's name is among `names ++ name`, none is among `names`, and none is `name`
parted : (names : List (List ℕ)) (name : List ℕ) (ms : List UnplacedEntry) → Apart (names ++ name ∷ []) ms → Apart names ms × (is_among (map (λ (m : UnplacedEntry). m.name) ms) name ≡ false)
parted names name [] apart = (tt, refl)
parted names name (m ∷ ms) apart =
    let both = or_none (is_among names m.name) (bytes_eq m.name name || false) (sym (list_any-append (pointwise nat_eq m.name) names (name ∷ [])) ∙ apart.0) in
    let other = or_none (bytes_eq m.name name) false both.1 in
    let rest = parted names name ms apart.1 in
    ((both.0, rest.0), neither (bytes_eq name m.name) _ (nat_list_eq_equiv.symm name m.name ∙ other.0) rest.1)
  where
    neither : (a b : Bool) → a ≡ false → b ≡ false → (a || b) ≡ false
    neither true b e f = cc
    neither false b e f = f

record TakesListings (bytes : List ℕ) (n at : ℕ) (before : List UnplacedEntry) (x : List UnplacedEntry × ℕ) : Type 0 where
  new : List UnplacedEntry
  members : x.0 ≡ before ++ new
  count : length new ≡ n
  takes : Takes bytes at x.1 (flat_map text_of new)
  names : are_member_names (map (λ m. m.name) new) ≡ true
  apart : Apart (map (λ m. m.name) before) new
  fits : AllByRecursion (λ m. IsWellFormedEntry (entry_at 0 m)) new

listings_take : (n : ℕ) (bytes : List ℕ) (at : ℕ) (before : List UnplacedEntry) (x : List UnplacedEntry × ℕ) → IsBytes bytes → at ≤ file_limit → unplaced_entries_at n before at bytes ≡ Ok x → TakesListings bytes n at before x
listings_take zero bytes at before x is le e = grind (arith, common_steps, append-nil, takes_none)
listings_take (suc n) bytes at before x is le e =
    let names = map (λ (m : UnplacedEntry). m.name) before in
    let a = bound (unplaced_entry_at names at bytes) (λ m. unplaced_entries_at n (before ++ m.0 ∷ []) m.1 bytes) x e in
    let m = listing_takes bytes at names a.0 is a.1 in
    let rest = listings_take n bytes a.0.1 (before ++ a.0.0 ∷ []) x is m.takes.limit a.2 in
    let named : map (λ (m : UnplacedEntry). m.name) (before ++ a.0.0 ∷ []) ≡ names ++ a.0.0.name ∷ [] = map-append (λ (m : UnplacedEntry). m.name) before (a.0.0 ∷ []) in
    let both = parted names a.0.0.name rest.new (subst (λ ns. Apart ns rest.new) named rest.apart) in
    record {
      new = a.0.0 ∷ rest.new;
      members = rest.members ∙ append_assoc before (a.0.0 ∷ []) rest.new;
      count = ap suc rest.count;
      takes = takes_then bytes at a.0.1 x.1 (text_of a.0.0) (flat_map text_of rest.new) m.takes rest.takes;
      names = names_good a.0.0.name (map (λ (m : UnplacedEntry). m.name) rest.new) (record { good = m.good; new = both.1; rest = rest.names });
      apart = (m.new, both.0);
      fits = (m.fits, rest.fits);
    }

-- ---- Offsets.

abbrev placed_from : ℕ → List UnplacedEntry → List Entry
placed_from at [] = []
placed_from at (m ∷ ms) = entry_at at m ∷ placed_from (at + m.size) ms

record TakesPlaces (at : ℕ) (before : List Entry) (ms : List UnplacedEntry) (x : List Entry × ℕ) : Type 0 where
  entries : x.0 ≡ before ++ placed_from at ms
  end : x.1 ≡ at + sum_by (λ m. m.size) ms
  limit : x.1 ≤ file_limit

placed_takes : (before : List Entry) (at : ℕ) (ms : List UnplacedEntry) (x : List Entry × ℕ) → at ≤ file_limit → members_with_offsets before at ms ≡ Ok x → TakesPlaces at before ms x
placed_takes before at [] x le e = grind (arith, common_steps, append-nil)
placed_takes before at (m ∷ ms) x le e =
    let a = passes (nat_lt file_limit (at + m.size)) BadIndex (members_with_offsets (before ++ entry_at at m ∷ []) (at + m.size) ms) x e in
    let within : at + m.size ≤ file_limit = grind (arith, nat_tests) in
    let rest = placed_takes (before ++ entry_at at m ∷ []) (at + m.size) ms x within a.1 in
    record {
      entries = rest.entries ∙ append_assoc before (entry_at at m ∷ []) (placed_from (at + m.size) ms);
      end = omega (arith, rest.end, sum_by-cons (λ (m : UnplacedEntry). m.size) m ms);
      limit = rest.limit;
    }

all_stand : (at : ℕ) (ms : List UnplacedEntry) → AreContiguous at (placed_from at ms)
all_stand at [] = tt
all_stand at (m ∷ ms) = (refl, all_stand (at + m.size) ms)

all_named : (at : ℕ) (ms : List UnplacedEntry) → map (λ (e : Entry). e.name) (placed_from at ms) ≡ map (λ (m : UnplacedEntry). m.name) ms
all_named at [] = refl
all_named at (m ∷ ms) = ap (λ ns. m.name ∷ ns) (all_named (at + m.size) ms)

all_text : (at : ℕ) (ms : List UnplacedEntry) → flat_map entry_bytes (placed_from at ms) ≡ flat_map text_of ms
all_text at [] = refl
all_text at (m ∷ ms) = ap (λ xs. text_of m ++ xs) (all_text (at + m.size) ms)

all_fit : (at : ℕ) (ms : List UnplacedEntry) → AllByRecursion (λ m. IsWellFormedEntry (entry_at 0 m)) ms → AllByRecursion IsWellFormedEntry (placed_from at ms)
all_fit at [] fits = tt
all_fit at (m ∷ ms) fits = (record { exports = fits.0.exports; imports = fits.0.imports; size = fits.0.size; export_count = fits.0.export_count; import_count = fits.0.import_count }, all_fit (at + m.size) ms fits.1)

all_count : (at : ℕ) (ms : List UnplacedEntry) → length (placed_from at ms) ≡ length ms
all_count at [] = refl
all_count at (m ∷ ms) = ap suc (all_count (at + m.size) ms)

all_sizes : (at : ℕ) (ms : List UnplacedEntry) → sum_by entry_size (placed_from at ms) ≡ sum_by (λ (m : UnplacedEntry). m.size) ms
all_sizes at [] = refl
all_sizes at (m ∷ ms) = sum_by-cons entry_size (entry_at at m) (placed_from (at + m.size) ms) ∙ ap (λ n. m.size + n) (all_sizes (at + m.size) ms) ∙ sym (sum_by-cons (λ (m : UnplacedEntry). m.size) m ms)

-- ---- The whole index.

head_takes : (bytes : List ℕ) (u : Unit {0}) → head_at bytes ≡ Ok u → Takes bytes 0 5 library_head
head_takes bytes u e = grind (arith, common_steps)

pub ended : (bytes : List ℕ) (end : ℕ) (u : Unit {0}) → end_at end bytes ≡ Ok u → length bytes ≡ end
ended bytes end u e = grind (arith, common_steps)

pub index_takes : ReadIndexIsEncoded
unfolding index_at member_entries_at
index_takes bytes es is e =
    let a = bound (member_entries_at bytes) (λ l. members_with_offsets [] l.1 l.0 >>= (λ p. end_at p.1 bytes >>= (λ u. Ok p.0))) es e in
    let p = bound (members_with_offsets [] a.0.1 a.0.0) (λ p. end_at p.1 bytes >>= (λ u. Ok p.0)) es a.2 in
    let u = bound (end_at p.0.1 bytes) (λ u. Ok p.0.0) es p.2 in
    let n = bound (count_at bytes) (λ n. unplaced_entries_at n [] 9 bytes) a.0 a.1 in
    let h = bound (head_at bytes) (λ u. number_at 5 bytes) n.0 n.1 in
    let head = head_takes bytes h.0 h.1 in
    let number = number_takes bytes 5 n.0 is h.2 in
    let listed = listings_take n.0 bytes 9 [] a.0 is number.0.limit n.2 in
    let offsets = placed_takes [] a.0.1 a.0.0 p.0 listed.takes.limit p.1 in
    let end = ended bytes p.0.1 u.0 u.1 in
    let ms = listed.new in
    let at = a.0.1 in
    let found = placed_from at ms in
    let es_is : es ≡ found = sym (let made : p.0.0 ≡ es = cc (u.2) in made) ∙ offsets.entries ∙ ap (placed_from at) listed.members in
    let sizes : sum_by (λ (m : UnplacedEntry). m.size) a.0.0 ≡ sum_by (λ (m : UnplacedEntry). m.size) ms = ap (sum_by (λ (m : UnplacedEntry). m.size)) listed.members in
    let tail = takes_then bytes 5 9 at (little_bytes 4 n.0) (flat_map text_of ms) number.0 listed.takes in
    let all = takes_then bytes 0 5 at library_head (little_bytes 4 n.0 ++ flat_map text_of ms) head tail in
    let text : index_bytes found ≡ library_head ++ (little_bytes 4 n.0 ++ flat_map text_of ms) = ap (λ k. library_head ++ (little_bytes 4 k ++ flat_map entry_bytes found)) (all_count at ms ∙ listed.count) ∙ ap (λ xs. library_head ++ (little_bytes 4 n.0 ++ xs)) (all_text at ms) in
    let at_is : at ≡ length (index_bytes found) = omega (arith, all.next_is, ap (length {A = ℕ}) text) in
    subst (IsIndex bytes) (sym es_is) (record {
      names = ap are_member_names (all_named at ms) ∙ listed.names;
      entries = all_fit at ms listed.fits;
      count = omega (arith, all_count at ms, listed.count, number.1);
      contiguous = subst (λ k. AreContiguous k found) at_is (all_stand at ms);
      members = drop at bytes;
      spelled = all.split ∙ ap (λ xs. xs ++ drop at bytes) (sym text);
      sizes = omega (arith, length-drop at bytes, end, offsets.end, sizes, all_sizes at ms);
      limit = omega (arith, end, offsets.limit);
    })
