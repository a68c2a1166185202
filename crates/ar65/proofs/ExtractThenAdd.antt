-- Adding the extracted members to an empty library gives the same library.
use Rattle.std.proofs.Common.{◌≡◌, ◌∙◌, ℕ, ◌+◌, ◌≤◌, ◌||◌, nat_lt, Bool, true, false, List, [], ◌∷◌, ◌++◌, length, map, Some, Ok, Err, refl, sym, ap, subst, append_assoc, arith, if◌then◌else◌}
use Rattle.std.specs.FinMap.{get}
use Rattle.std.specs.List.{AllByRecursion}
use Rattle.std.specs.Str.{bytes_eq}
use Rattle.std.proofs.lemmas.Bool.Decides.{nat_tests}
use Rattle.std.proofs.lemmas.Cmp.{nat_list_eq_equiv}
use Rattle.std.proofs.lemmas.List.{append-nil}
use Rattle.std.proofs.lemmas.Slice.Eq.{bytes_eq-Decides}
use Rattle.base65.specs.Outcome.{◌>>=◌}
use Rattle.base65.specs.Store.{Files}
use Rattle.object65.specs.Reading.{file_limit}
use Rattle.library65.specs.declared.fault.LibraryFault.TheVariants.{BadIndex}
use Rattle.library65.specs.Libraries.{bytes_of, library_bytes, member_names, with_new_member, with_member, bytes_within_limit}
use Rattle.library65.specs.Spelling.{are_member_names, is_among, IsLibrary, Member}
use Rattle.library65.specs.Reading.{in_file}
use Rattle.library65.proofs.Edits.{checked_good, good_names}
use Rattle.library65.proofs.LoadedLibraries.{library_loaded, put_last, stock_law}
use Rattle.library65.proofs.WrittenLibraries.{library_is}
use Rattle.ar65.specs.declared.members.MemberFile.{MemberFile}
use Rattle.ar65.specs.Laws.{HasMemberFiles, ExtractThenAddIsIdentity}
use Rattle.ar65.specs.Librarian.{as_file, files_of, member_or_error, member_name, with_file, with_files}
use Rattle.ar65.proofs.Names.{IsChecked, its_own_name, members_checked}

-- a member as a file with the member's name
abbrev member_file : Member → MemberFile
member_file m = record { name = m.0; bytes = m.1 }

first_not : (a b : Bool) → (a || b) ≡ false → a ≡ false
first_not true b e = absurd cc
first_not false b e = refl

then_not : (a b : Bool) → (a || b) ≡ false → b ≡ false
then_not true b e = absurd cc
then_not false b e = e

-- ---- Each member is found under its name.

abbrev Found : List Member → List Member → Type 0
Found all ms = AllByRecursion (λ m. bytes_of all m.0 ≡ Some m.1) ms

-- a member before them hides none, if its name isn't among theirs
following : (m : Member) (all ms : List Member) → is_among (member_names ms) m.0 ≡ false → Found all ms → Found (m ∷ all) ms
following m all [] other h = tt
following m all (x ∷ xs) other h =
    let apart : bytes_eq x.0 m.0 ≡ false = nat_list_eq_equiv.symm x.0 m.0 ∙ first_not (bytes_eq m.0 x.0) (is_among (member_names xs) m.0) other in
    (ap (λ b. if b then Some m.1 else bytes_of all x.0) apart ∙ h.0, following m all xs (then_not (bytes_eq m.0 x.0) (is_among (member_names xs) m.0) other) h.1)

all_found : (ms : List Member) → are_member_names (member_names ms) ≡ true → Found ms ms
all_found [] good = tt
all_found (m ∷ ms) good =
    let g = good_names m.0 (member_names ms) good in
    (ap (λ b. if b then Some m.1 else bytes_of ms m.0) ((bytes_eq-Decides m.0 m.0).1 refl), following m ms ms g.new (all_found ms g.rest))

each_found : (all ms : List Member) → Found all ms → files_of all (member_names ms) ≡ Ok (map member_file ms)
each_found all [] h = refl
each_found all (m ∷ ms) h =
    ap (λ r. member_or_error m.0 r >>= (λ y. files_of all (member_names ms) >>= (λ ys. Ok (y ∷ ys)))) h.0
    ∙ ap (λ r. r >>= (λ ys. Ok (member_file m ∷ ys))) (each_found all ms h.1)

-- ---- Each file is added after the members before it.

-- no member of `ms` has the name of a member of `before`
abbrev Fresh : List Member → List Member → Type 0
Fresh before ms = AllByRecursion (λ m. is_among (member_names before) m.0 ≡ false) ms

among_last : (before : List Member) (m : Member) (q : List ℕ) → is_among (member_names before) q ≡ false → bytes_eq q m.0 ≡ false → is_among (member_names (before ++ m ∷ [])) q ≡ false
among_last [] m q a b = rw b refl
among_last (x ∷ xs) m q a b =
    let one = first_not (bytes_eq q x.0) (is_among (member_names xs) q) a in
    let rest = among_last xs m q (then_not (bytes_eq q x.0) (is_among (member_names xs) q) a) b in
    ap (λ c. c || is_among (member_names (xs ++ m ∷ [])) q) one ∙ rest

fresh_on : (before : List Member) (m : Member) (ms : List Member) → is_among (member_names ms) m.0 ≡ false → Fresh before ms → Fresh (before ++ m ∷ []) ms
fresh_on before m [] other h = tt
fresh_on before m (x ∷ xs) other h =
    let apart : bytes_eq x.0 m.0 ≡ false = nat_list_eq_equiv.symm x.0 m.0 ∙ first_not (bytes_eq m.0 x.0) (is_among (member_names xs) m.0) other in
    (among_last before m x.0 h.0 apart, fresh_on before m xs (then_not (bytes_eq m.0 x.0) (is_among (member_names xs) m.0) other) h.1)

fresh_none : (ms : List Member) → Fresh [] ms
fresh_none [] = tt
fresh_none (m ∷ ms) = (refl, fresh_none ms)

put_after : (m : Files) (before : List Member) (x : Member) → is_among (member_names before) x.0 ≡ false → IsChecked x → get m x.0 ≡ Some x.1 → with_file m before x.0 ≡ Ok (before ++ x ∷ [])
unfolding with_new_member
put_after m before x new good there =
    let own : x.0 ≡ member_name x.0 = its_own_name x.0 (checked_good x.0 x.1 good.0 good.1) in
    ap (λ f. in_file f (with_new_member before (member_name x.0))) there
    ∙ ap (λ n. with_new_member before n x.1) (sym own)
    ∙ ap (λ r. r >>= (λ c. Ok (with_member before x.0 x.1))) good.1
    ∙ ap (λ xs. Ok xs) (put_last before x.0 x.1 new)

put_all : (m : Files) (before ms : List Member) (k : ℕ) → are_member_names (member_names ms) ≡ true → Fresh before ms → AllByRecursion IsChecked ms → HasMemberFiles m (map member_file ms) → with_files m before k (map (λ f. f.name) (map member_file ms)) ≡ Ok (before ++ ms)
put_all m before [] k good fresh all there = ap (λ xs. Ok xs) (sym (append-nil before))
put_all m before (x ∷ xs) k good fresh all there =
    let g = good_names x.0 (member_names xs) good in
    ap (λ r. as_file k r >>= (λ ns. with_files m ns (k + 1) (map (λ f. f.name) (map member_file xs)))) (put_after m before x fresh.0 all.0 there.0)
    ∙ put_all m (before ++ x ∷ []) xs (k + 1) g.rest (fresh_on before x xs g.new fresh.1) all.1 there.1
    ∙ ap (λ ys. Ok ys) (append_assoc before (x ∷ []) xs)

-- ---- The same library.

written_so : (bytes : List ℕ) (ms : List Member) → IsLibrary bytes ms → bytes_within_limit ms ≡ Ok bytes
written_so bytes ms is =
    let same : bytes ≡ library_bytes ms = library_is bytes ms is in
    let len : length bytes ≡ length (library_bytes ms) = ap (length {A = ℕ}) same in
    let short : length (library_bytes ms) ≤ file_limit = omega (arith, len, is.is_index.limit) in
    let fits : nat_lt file_limit (length (library_bytes ms)) ≡ false = grind (arith, nat_tests) in
    ap (λ b. if b then Err BadIndex else Ok (library_bytes ms)) fits ∙ ap (λ b. Ok b) (sym same)

pub put_together : ExtractThenAddIsIdentity
put_together bytes ms files m is extracts there =
    let stock = stock_law.loaded bytes ms is in
    let all = members_checked bytes ms (library_loaded bytes ms is) in
    let made : Ok (map member_file ms) ≡ Ok files = sym (each_found ms ms (all_found ms stock.names)) ∙ extracts in
    let same : map member_file ms ≡ files = cc in
    let whole = put_all m [] ms 0 stock.names (fresh_none ms) all (subst (HasMemberFiles m) (sym same) there) in
    (ap (λ fs. with_files m [] 0 (map (λ f. f.name) fs)) (sym same) ∙ whole, written_so bytes ms is)
