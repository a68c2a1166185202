-- The names of members, and the names of files that they come from.
use Rattle.std.proofs.Common.{◌≡◌, ◌∙◌, ℕ, zero, suc, ◌+◌, ◌-◌, ◌<◌, ◌&&◌, not, nat_lt, Bool, true, false, List, [], ◌∷◌, length, get_or, take, drop, Some, None, Ok, refl, sym, ap, subst, arith, ⊎_elim, eq-eqb, ne_eqb, get_or-drop, length-drop, if◌then◌else◌}
use Rattle.std.specs.Prelude.{◌==◌}
use Rattle.std.specs.Option.{option_map}
use Rattle.std.specs.Str.Pattern.{RFindsChar}
use Rattle.std.proofs.lemmas.Bool.{cases_eq, cond-true, cond-false}
use Rattle.std.proofs.lemmas.List.Folds.{list_all_at}
use Rattle.std.proofs.lemmas.Slice.Eq.{bytes_eq-Decides}
use Rattle.std.proofs.lemmas.Str.{len_utf8_ascii}
use Rattle.std.proofs.lemmas.Str.Pattern.{NoCharPasses-char}
use Rattle.std.specs.List.{list_all, AllByRecursion}
use Rattle.std.specs.Path.{rfind_below, rsplit_once, slash}
use Rattle.std.specs.Str.{NoCharPasses, bytes_eq, is_utf8}
use Rattle.library65.specs.declared.contents.Contents.{Contents}
use Rattle.library65.specs.declared.index.Entry.{Entry}
use Rattle.library65.specs.Libraries.{indexed_contents, member_contents, with_library_entry, with_library_entries, library_at, member_names, member_bytes_at, with_member}
use Rattle.library65.specs.Spelling.{is_folder, is_member_name, is_plain, Member}
use Rattle.library65.specs.Reading.{index_at}
use Rattle.library65.proofs.Edits.{checked_good, left, right}
use Rattle.library65.proofs.ReadIndexes.{bound}
use Rattle.ar65.specs.Librarian.{AreUtf8, last_part, member_name}

-- ---- The name after a file's last `/`.

none_below : (text : List ℕ) (n : ℕ) → ((i : ℕ) → i < n → get_or text i 0 ≡ slash → ⊥) → rfind_below slash text n ≡ None
none_below text zero h = refl
none_below text (suc n) h = cond-false _ _ _ (ne_eqb _ slash (h n (omega arith))) ∙ none_below text n (λ i l. h i (omega arith))

last_below : (text : List ℕ) (k n : ℕ) → k < n → get_or text k 0 ≡ slash → ((i : ℕ) → k < i → i < n → get_or text i 0 ≡ slash → ⊥) → rfind_below slash text n ≡ Some k
last_below text k zero l at h = absurd (omega arith)
last_below text k (suc n) l at h =
    ⊎_elim
    (λ e. cond-true _ _ _ (eq-eqb _ slash (ap (λ j. get_or text j 0) (sym e) ∙ at)) ∙ ap (λ j. Some j) (sym e))
    (λ other. cond-false _ _ _ (ne_eqb _ slash (h n (omega arith) (omega arith))) ∙ last_below text k n (omega arith) at (λ i a b. h i a (omega arith)))
    (cases_eq k n)

-- if no byte of a file's name is a `/`, the member's name is the whole name
whole_name : (file : List ℕ) → ((i : ℕ) → i < length file → get_or file i 0 ≡ slash → ⊥) → file ≡ member_name file
unfolding rsplit_once
whole_name file none = ap (λ r. last_part file (option_map (λ i. (take i file, drop (i + 1) file)) r)) (sym (none_below file (length file) none))

pub named_whole : (file : List ℕ) → NoCharPasses (λ d. d == slash) file → file ≡ member_name file
named_whole file none = whole_name file (λ i. NoCharPasses-char slash file i none (omega arith))

-- if a last `/` is found, the member's name is the rest of the file's name after it
pub named_after : (file name : List ℕ) (i j : ℕ) → RFindsChar slash file (Some (i, j)) → name ≡ drop j file → length name + j ≡ length file → name ≡ member_name file
unfolding rsplit_once
named_after file name i j found is len =
    let next : j ≡ i + 1 = omega (arith, found.1.ends, len_utf8_ascii slash (omega arith)) in
    let later : (k : ℕ) → i < k → k < length file → get_or file k 0 ≡ slash → ⊥ = λ k a l e.
    let back : j + (k - j) ≡ k = omega arith in
    NoCharPasses-char slash (drop j file) (k - j) found.0 (omega arith) (omega (arith, length-drop j file)) (get_or-drop j file (k - j) 0 ∙ ap (λ n. get_or file n 0) back ∙ e) in
    let at = last_below file i (length file) (omega (arith, next, len)) (found.1.byte (omega arith)) later in
    is ∙ ap (λ n. drop n file) next ∙ ap (λ r. last_part file (option_map (λ k. (take k file, drop (k + 1) file)) r)) (sym at)

-- ---- The names in a library that was read are UTF-8.

text_name : (name : List ℕ) → is_member_name name ≡ true → is_utf8 name ≡ true
text_name name good =
    let front = nat_lt 0 (length name) && nat_lt (length name) 256 && list_all is_plain name in
    right front (is_utf8 name) (left (front && is_utf8 name) (not (is_folder name)) good)

-- a member with valid contents
abbrev pub IsChecked : Member → Type 0
IsChecked m = (c : Contents) × (member_contents m.0 m.1 ≡ Ok c)

checked_with : (ms : List Member) (name bytes : List ℕ) → IsChecked (name, bytes) → AllByRecursion IsChecked ms → AllByRecursion IsChecked (with_member ms name bytes)
checked_with [] name bytes good all = (good, tt)
checked_with (m ∷ ms) name bytes good all = step (bytes_eq name m.0) refl (checked_with ms name bytes good all.1)
  where
    step : (b : Bool) → bytes_eq name m.0 ≡ b → AllByRecursion IsChecked (with_member ms name bytes) → AllByRecursion IsChecked (if b then (m.0, bytes) ∷ ms else m ∷ with_member ms name bytes)
    step true is h = (subst (λ n. IsChecked (n, bytes)) ((bytes_eq-Decides name m.0).0 is) good, all.1)
    step false is h = (all.0, h)

agreed_checked : (e : Entry) (found : List ℕ) (c : Contents) → indexed_contents e found ≡ Ok c → IsChecked (e.name, found)
unfolding indexed_contents
agreed_checked e found c is = let b = bound (member_contents e.name found) _ _ is in (b.0, b.1)

checked_joined : (before ms : List Member) (e : Entry) (bytes : List ℕ) → with_library_entry before e bytes ≡ Ok ms → AllByRecursion IsChecked before → AllByRecursion IsChecked ms
unfolding with_library_entry
checked_joined before ms e bytes is all =
    let piece = bound (member_bytes_at e.size e.place bytes) _ _ is in
    let own = bound (indexed_contents e piece.0) _ _ piece.2 in
    let made : with_member before e.name piece.0 ≡ ms = cc in
    subst (AllByRecursion IsChecked) made (checked_with before e.name piece.0 (agreed_checked e piece.0 own.0 own.1) all)

checked_all : (before ms : List Member) (es : List Entry) (bytes : List ℕ) → with_library_entries before es bytes ≡ Ok ms → AllByRecursion IsChecked before → AllByRecursion IsChecked ms
checked_all before ms [] bytes is all = let same : before ≡ ms = cc in subst (AllByRecursion IsChecked) same all
checked_all before ms (e ∷ es) bytes is all =
    let one = bound (with_library_entry before e bytes) _ _ is in
    checked_all one.0 ms es bytes one.2 (checked_joined before one.0 e bytes one.1 all)

pub members_checked : (bytes : List ℕ) (ms : List Member) → library_at bytes ≡ Ok ms → AllByRecursion IsChecked ms
unfolding library_at
members_checked bytes ms is =
    let index = bound (index_at bytes) _ _ is in
    checked_all [] ms index.0 bytes index.2 tt

texts_of : (ms : List Member) → AllByRecursion IsChecked ms → AreUtf8 (member_names ms)
texts_of [] all = tt
texts_of (m ∷ ms) all = (text_name m.0 (checked_good m.0 m.1 all.0.0 all.0.1), texts_of ms all.1)

pub names_are_texts : (bytes : List ℕ) (ms : List Member) → library_at bytes ≡ Ok ms → AreUtf8 (member_names ms)
names_are_texts bytes ms is = texts_of ms (members_checked bytes ms is)

-- ---- A member's name is the name of a file of its name.

plain_at : (name : List ℕ) → list_all is_plain name ≡ true → (i : ℕ) → i < length name → get_or name i 0 ≡ slash → ⊥
plain_at name plain i h is =
    let other : is_plain (get_or name i 0) ≡ false = ap is_plain is in
    let none : list_all is_plain name ≡ false = list_all_at is_plain name i 0 h other in
    let bad : true ≡ false = sym plain ∙ none in
    cc

pub its_own_name : (name : List ℕ) → is_member_name name ≡ true → name ≡ member_name name
its_own_name name good =
    let sized = nat_lt 0 (length name) && nat_lt (length name) 256 in
    let plain = list_all is_plain name in
    let front = left (sized && plain) (is_utf8 name) (left (sized && plain && is_utf8 name) (not (is_folder name)) good) in
    whole_name name (plain_at name (right sized plain front))
