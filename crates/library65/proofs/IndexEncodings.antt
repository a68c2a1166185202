-- Reading the encoding of an index returns that index.
use Rattle.std.proofs.lemmas.Grind.{common_steps}
use Rattle.std.proofs.Common.{◌≡◌, ◌∙◌, ◌<◌, ◌≤◌, ◌^◌, ℕ, ◌+◌, Bool, true, false, ◌||◌, nat_eq, nat_lt, List, [], ◌∷◌, ◌++◌, length, map, Ok, refl, sym, ap, subst, arith, append_assoc, length-append}
use Rattle.std.specs.Prelude.{sum_by}
use Rattle.std.specs.List.{AllByRecursion, flat_map, list_all}
use Rattle.std.specs.Str.{bytes_eq}
use Rattle.std.specs.Cmp.Lexicographic.{pointwise}
use Rattle.std.proofs.lemmas.Bool.Decides.{nat_tests}
use Rattle.std.proofs.lemmas.Cmp.{nat_list_eq_equiv}
use Rattle.std.proofs.lemmas.List.{append-nil, map-append}
use Rattle.std.proofs.lemmas.List.Folds.{list_any-append}
use Rattle.std.proofs.lemmas.List.Sums.{sum_by-cons}
use Rattle.byteorder.specs.Endian.{little_bytes}
use Rattle.object65.specs.Reading.{file_limit}
use Rattle.base65.specs.Outcome.{◌>>=◌}
use Rattle.library65.specs.declared.index.Entry.{Entry}
use Rattle.library65.specs.declared.index.UnplacedEntry.{UnplacedEntry}
use Rattle.library65.specs.Spelling.{are_member_names, is_among, is_member_name, is_name, IsWellFormedEntry, IsIndex, AreContiguous, entry_bytes, index_bytes, library_head, name_bytes, names_bytes}
use Rattle.library65.specs.Reading.{counted_names_at, end_at, head_at, entry_at, field_at, index_at, member_entries_at, unplaced_entry, unplaced_entry_at, unplaced_entries_at, member_name_at, name_at, number_at, members_with_offsets, symbol_at, symbols_at}
use Rattle.library65.proofs.Edits.{good_names, left, right}
use Rattle.library65.proofs.WrittenLibraries.{entry_size}

-- the part is in the bytes at offset `at`, and ends within the file size limit
pub record Stands (bytes : List ℕ) (at : ℕ) (part : List ℕ) : Type 0 where
  pub front : List ℕ
  pub rest : List ℕ
  pub split : bytes ≡ front ++ (part ++ rest)
  pub offset : at ≡ length front
  pub limit : at + length part ≤ file_limit

pub first_part : (bytes : List ℕ) (at : ℕ) (a b : List ℕ) → Stands bytes at (a ++ b) → Stands bytes at a
first_part bytes at a b s = grind (arith, common_steps)

pub second_part : (bytes : List ℕ) (at : ℕ) (a b : List ℕ) → Stands bytes at (a ++ b) → Stands bytes (at + length a) b
second_part bytes at a b s = record {
  front = s.front ++ a;
  rest = s.rest;
  split = s.split ∙ ap (λ xs. s.front ++ xs) (append_assoc a b s.rest) ∙ sym (append_assoc s.front a (b ++ s.rest));
  offset = omega (arith, s.offset, length-append s.front a);
  limit = omega (arith, s.limit, length-append a b);
}

pub field_again : (bytes : List ℕ) (n at : ℕ) (f : List ℕ) → length f ≡ n → Stands bytes at f → field_at n at bytes ≡ Ok f
field_again bytes n at f len s = grind (arith, common_steps)

pub number_again : (bytes : List ℕ) (at x : ℕ) → x < 2 ^ 32 → Stands bytes at (little_bytes 4 x) → number_at at bytes ≡ Ok x
unfolding number_at
number_again bytes at x fits s = grind (arith, common_steps)

pub name_again : (bytes : List ℕ) (at : ℕ) (name : List ℕ) → Stands bytes at (name_bytes name) → name_at at bytes ≡ Ok (name, at + 1 + length name)
unfolding name_at
name_again bytes at name s =
    let one : Stands bytes at (length name ∷ []) = first_part bytes at (length name ∷ []) name s in
    let two : Stands bytes (at + 1) name = second_part bytes at (length name ∷ []) name s in
    rw (field_again bytes 1 at (length name ∷ []) refl one, field_again bytes (length name) (at + 1) name refl two) refl

pub symbol_again : (bytes : List ℕ) (at : ℕ) (name : List ℕ) → is_name name ≡ true → Stands bytes at (name_bytes name) → symbol_at at bytes ≡ Ok (name, at + 1 + length name)
unfolding symbol_at
symbol_again bytes at name good s = rw (name_again bytes at name s, good) refl

pub symbols_again : (bytes : List ℕ) (at : ℕ) (before names : List (List ℕ)) → list_all is_name names ≡ true → Stands bytes at (flat_map name_bytes names) → symbols_at (length names) before at bytes ≡ Ok (before ++ names, at + length (flat_map name_bytes names))
symbols_again bytes at before [] good s = grind (arith, common_steps, append-nil)
symbols_again bytes at before (n ∷ ns) good s =
    let rest = second_part bytes at (name_bytes n) (flat_map name_bytes ns) s in
    let on : at + length (name_bytes n) ≡ at + 1 + length n = omega arith in
    let next : Stands bytes (at + 1 + length n) (flat_map name_bytes ns) = subst (λ k. Stands bytes k (flat_map name_bytes ns)) on rest in
    let total : at + 1 + length n + length (flat_map name_bytes ns) ≡ at + length (flat_map name_bytes (n ∷ ns)) = omega (arith, length-append (name_bytes n) (flat_map name_bytes ns)) in
    ap (λ r. r >>= (λ s. symbols_at (length ns) (before ++ s.0 ∷ []) s.1 bytes)) (symbol_again bytes at n (left (is_name n) (list_all is_name ns) good) (first_part bytes at (name_bytes n) (flat_map name_bytes ns) s))
    ∙ symbols_again bytes (at + 1 + length n) (before ++ n ∷ []) ns (right (is_name n) (list_all is_name ns) good) next
    ∙ ap (λ xs. Ok (xs, at + 1 + length n + length (flat_map name_bytes ns))) (append_assoc before (n ∷ []) ns)
    ∙ ap (λ k. Ok (before ++ n ∷ ns, k)) total

pub counted_again : (bytes : List ℕ) (at : ℕ) (names : List (List ℕ)) → list_all is_name names ≡ true → length names < 2 ^ 32 → Stands bytes at (names_bytes names) → counted_names_at at bytes ≡ Ok (names, at + length (names_bytes names))
unfolding counted_names_at
counted_again bytes at names good fits s =
    let number = number_again bytes at (length names) fits (first_part bytes at (little_bytes 4 (length names)) (flat_map name_bytes names) s) in
    let rest : Stands bytes (at + 4) (flat_map name_bytes names) = second_part bytes at (little_bytes 4 (length names)) (flat_map name_bytes names) s in
    let total : at + 4 + length (flat_map name_bytes names) ≡ at + length (names_bytes names) = omega (arith, length-append (little_bytes 4 (length names)) (flat_map name_bytes names)) in
    rw number (symbols_again bytes (at + 4) [] names good rest ∙ ap (λ k. Ok (names, k)) total)

pub member_name_again : (bytes : List ℕ) (at : ℕ) (names : List (List ℕ)) (name : List ℕ) → is_member_name name ≡ true → is_among names name ≡ false → Stands bytes at (name_bytes name) → member_name_at names at bytes ≡ Ok (name, at + 1 + length name)
unfolding member_name_at
member_name_again bytes at names name good new s = rw (name_again bytes at name s, good, new) refl

abbrev pub listing_of : Entry → UnplacedEntry
listing_of e = unplaced_entry e.name e.size e.exports e.imports

pub listing_again : (bytes : List ℕ) (at : ℕ) (names : List (List ℕ)) (e : Entry) → is_member_name e.name ≡ true → is_among names e.name ≡ false → IsWellFormedEntry e → Stands bytes at (entry_bytes e) → unplaced_entry_at names at bytes ≡ Ok (listing_of e, at + length (entry_bytes e))
unfolding unplaced_entry_at
listing_again bytes at names e good new fit s =
    let a = name_bytes e.name in
    let b = little_bytes 4 e.size in
    let x = names_bytes e.exports in
    let i = names_bytes e.imports in
    let s0 = first_part bytes at a (b ++ (x ++ i)) s in
    let r0 : Stands bytes (at + 1 + length e.name) (b ++ (x ++ i)) = subst (λ k. Stands bytes k (b ++ (x ++ i))) (let on : at + length a ≡ at + 1 + length e.name = omega arith in on) (second_part bytes at a (b ++ (x ++ i)) s) in
    let p = at + 1 + length e.name in
    let s1 = first_part bytes p b (x ++ i) r0 in
    let r1 : Stands bytes (p + 4) (x ++ i) = second_part bytes p b (x ++ i) r0 in
    let s2 = first_part bytes (p + 4) x i r1 in
    let r2 = second_part bytes (p + 4) x i r1 in
    let total : p + 4 + length x + length i ≡ at + length (entry_bytes e) = omega (arith, length-append a (b ++ (x ++ i)), length-append b (x ++ i), length-append x i) in
    rw (member_name_again bytes at names e.name good new s0, number_again bytes p e.size fit.size s1, counted_again bytes (p + 4) e.exports fit.exports fit.export_count s2, counted_again bytes (p + 4 + length x) e.imports fit.imports fit.import_count r2)
    (ap (λ k. Ok (listing_of e, k)) total)

-- no entry's name is among these names
abbrev pub Fresh : List (List ℕ) → List Entry → Type 0
Fresh names es = AllByRecursion (λ (e : Entry). is_among names e.name ≡ false) es

neither : (a b : Bool) → a ≡ false → b ≡ false → (a || (b || false)) ≡ false
neither true b e f = cc
neither false true e f = cc
neither false false e f = refl

or_none : (a b : Bool) → (a || b) ≡ false → (a ≡ false) × (b ≡ false)
or_none true b e = cc
or_none false b e = (refl, e)

pub fresh_on : (names : List (List ℕ)) (name : List ℕ) (es : List Entry) → Fresh names es → is_among (map (λ (e : Entry). e.name) es) name ≡ false → Fresh (names ++ name ∷ []) es
fresh_on names name [] fresh new = tt
fresh_on names name (e ∷ es) fresh new =
    let parts = or_none (bytes_eq name e.name) (is_among (map (λ (x : Entry). x.name) es) name) new in (
      list_any-append (pointwise nat_eq e.name) names (name ∷ []) ∙ neither (is_among names e.name) (bytes_eq e.name name) fresh.0 (nat_list_eq_equiv.symm e.name name ∙ parts.0),
      fresh_on names name es fresh.1 parts.1,
    )

pub fresh_none : (es : List Entry) → Fresh [] es
fresh_none [] = tt
fresh_none (e ∷ es) = (refl, fresh_none es)

pub listings_again : (bytes : List ℕ) (at : ℕ) (before : List UnplacedEntry) (es : List Entry) → are_member_names (map (λ e. e.name) es) ≡ true → Fresh (map (λ m. m.name) before) es → AllByRecursion IsWellFormedEntry es → Stands bytes at (flat_map entry_bytes es) → unplaced_entries_at (length es) before at bytes ≡ Ok (before ++ map listing_of es, at + length (flat_map entry_bytes es))
listings_again bytes at before [] good fresh fits s = grind (arith, common_steps)
listings_again bytes at before (e ∷ es) good fresh fits s =
    let g = good_names e.name (map (λ (x : Entry). x.name) es) good in
    let rest = second_part bytes at (entry_bytes e) (flat_map entry_bytes es) s in
    let next = at + length (entry_bytes e) in
    let named : map (λ (m : UnplacedEntry). m.name) (before ++ listing_of e ∷ []) ≡ map (λ (m : UnplacedEntry). m.name) before ++ e.name ∷ [] = map-append (λ (m : UnplacedEntry). m.name) before (listing_of e ∷ []) in
    let fresh2 : Fresh (map (λ (m : UnplacedEntry). m.name) (before ++ listing_of e ∷ [])) es = subst (λ ns. Fresh ns es) (sym named) (fresh_on (map (λ (m : UnplacedEntry). m.name) before) e.name es fresh.1 g.new) in
    let total : next + length (flat_map entry_bytes es) ≡ at + length (flat_map entry_bytes (e ∷ es)) = omega (arith, length-append (entry_bytes e) (flat_map entry_bytes es)) in
    ap (λ r. r >>= (λ m. unplaced_entries_at (length es) (before ++ m.0 ∷ []) m.1 bytes)) (listing_again bytes at (map (λ m. m.name) before) e g.good fresh.0 fits.0 (first_part bytes at (entry_bytes e) (flat_map entry_bytes es) s))
    ∙ listings_again bytes next (before ++ listing_of e ∷ []) es g.rest fresh2 fits.1 rest
    ∙ ap (λ xs. Ok (xs, next + length (flat_map entry_bytes es))) (append_assoc before (listing_of e ∷ []) (map listing_of es))
    ∙ ap (λ k. Ok (before ++ map listing_of (e ∷ es), k)) total

pub placed_again : (before : List Entry) (at : ℕ) (es : List Entry) → AreContiguous at es → at + sum_by entry_size es ≤ file_limit → members_with_offsets before at (map listing_of es) ≡ Ok (before ++ es, at + sum_by entry_size es)
placed_again before at [] stands le = grind (arith, common_steps, entry_size, append-nil)
placed_again before at (e ∷ es) stands le =
    let total : sum_by entry_size (e ∷ es) ≡ e.size + sum_by entry_size es = sum_by-cons entry_size e es in
    let within : nat_lt file_limit (at + e.size) ≡ false = let few : at + e.size ≤ file_limit = omega arith in grind (arith, nat_tests) in
    let same : entry_at at (listing_of e) ≡ e = ap (λ p. record e { place = p }) (sym stands.0) in
    let sum : at + e.size + sum_by entry_size es ≡ at + sum_by entry_size (e ∷ es) = omega arith in
    rw within
    (ap (λ x. members_with_offsets (before ++ x ∷ []) (at + e.size) (map listing_of es)) same
    ∙ placed_again (before ++ e ∷ []) (at + e.size) es stands.1 (omega arith)
    ∙ ap (λ xs. Ok (xs, at + e.size + sum_by entry_size es)) (append_assoc before (e ∷ []) es)
    ∙ ap (λ k. Ok (before ++ e ∷ es, k)) sum)

end_again : (bytes : List ℕ) (end : ℕ) → end ≡ length bytes → end_at end bytes ≡ Ok tt
end_again bytes end same = grind (arith, common_steps)

head_again : (bytes rest : List ℕ) → bytes ≡ library_head ++ rest → head_at bytes ≡ Ok tt
head_again bytes rest split = ap head_at split

list_again : (bytes : List ℕ) (es : List Entry) → IsIndex bytes es → member_entries_at bytes ≡ Ok (map listing_of es, 9 + length (flat_map entry_bytes es))
unfolding member_entries_at
list_again bytes es x =
    let listed = flat_map entry_bytes es in
    let number = little_bytes 4 (length es) in
    let split : bytes ≡ library_head ++ (number ++ (listed ++ x.members)) = x.spelled ∙ append_assoc library_head (number ++ listed) x.members ∙ ap (λ xs. library_head ++ xs) (append_assoc number listed x.members) in
    let len : length bytes ≡ 9 + (length listed + length x.members) = ap (length {A = ℕ}) split ∙ (let l = length-append listed x.members in omega arith) in
    let s0 : Stands bytes 0 (library_head ++ (number ++ listed)) = record { front = []; rest = x.members; split = x.spelled; offset = refl; limit = omega (arith, x.limit, len) } in
    let s1 : Stands bytes 5 (number ++ listed) = second_part bytes 0 library_head (number ++ listed) s0 in
    let s2 : Stands bytes 9 listed = second_part bytes 5 number listed s1 in
    ap (λ r. (r >>= (λ u. number_at 5 bytes)) >>= (λ n. unplaced_entries_at n [] 9 bytes)) (head_again bytes (number ++ (listed ++ x.members)) split)
    ∙ ap (λ r. r >>= (λ n. unplaced_entries_at n [] 9 bytes)) (number_again bytes 5 (length es) x.count (first_part bytes 5 number listed s1))
    ∙ listings_again bytes 9 [] es x.names (fresh_none es) x.entries s2

-- the encoding of an index is read as that index
pub index_again : (bytes : List ℕ) (es : List Entry) → IsIndex bytes es → index_at bytes ≡ Ok es
unfolding index_at
index_again bytes es x =
    let listed = flat_map entry_bytes es in
    let number = little_bytes 4 (length es) in
    let sizes = x.sizes in
    let len : length bytes ≡ length (index_bytes es) + length x.members = ap (length {A = ℕ}) x.spelled ∙ length-append (index_bytes es) x.members in
    let head : length (index_bytes es) ≡ 9 + length listed = omega arith in
    let end : 9 + length listed + sum_by entry_size es ≡ length bytes = omega arith in
    let stands : AreContiguous (9 + length listed) es = subst (λ n. AreContiguous n es) head x.contiguous in
    let within : 9 + length listed + sum_by entry_size es ≤ file_limit = omega (arith, x.limit, end) in
    ap (λ r. r >>= (λ l. members_with_offsets [] l.1 l.0 >>= (λ p. end_at p.1 bytes >>= (λ u. Ok p.0)))) (list_again bytes es x)
    ∙ ap (λ r. r >>= (λ p. end_at p.1 bytes >>= (λ u. Ok p.0))) (placed_again [] (9 + length listed) es stands within)
    ∙ ap (λ r. r >>= (λ u. Ok es)) (end_again bytes (9 + length listed + sum_by entry_size es) end)
