-- Lists of names separated by commas, and lists without repetitions.
use Rattle.std.proofs.Common.{◌≡◌, ℕ, ◌+◌, ◌<◌, Bool, true, false, not, ◌||◌, nat_eq, List, [], ◌∷◌, ◌++◌, map, take, drop, length, get_or, refl, sym, ap, ◌∙◌, arith, Vec, Global, Bor, None, zero, suc, Option, Some, append_assoc, subst, ◌≤◌}
use Rattle.std.specs.List.{list_any}
use Rattle.std.specs.Prelude.{if◌then◌else◌, ◌==◌, ◌&&◌}
use Rattle.std.specs.Str.{bytes_eq}
use Rattle.std.proofs.lemmas.Bool.Decides.{nat_tests}
use Rattle.std.proofs.lemmas.List.{map-append, take-append-drop, take_all}
use Rattle.std.proofs.lemmas.List.Folds.{list_any-append}
use Rattle.indexmap.specs.IndexSet.{insert_key}
use Rattle.expand65.specs.Macros.{are_distinct, distinct_of, braces_after, arguments_within, prepend_to_first, without_braces, is_comma_at, name_at, argument_len}
use Rattle.expand65.proofs.Tables.{any_seen, drop_seen, take_seen, same_name}
use Rattle.std.proofs.lemmas.Grind.{common_steps}
use Rattle.syntax65.specs.Tokens.{Lexeme}
use Rattle.expand65.specs.LineStart.{is_comma, names_from, ◌>=>◌}

-- ---- Distinct names, and tables with one further name.

number_sym : (a b : ℕ) → nat_eq a b ≡ nat_eq b a
number_sym a b = grind (arith, nat_tests)

bytes_sym : (a b : List ℕ) → bytes_eq a b ≡ bytes_eq b a
bytes_sym [] [] = refl
bytes_sym [] (y ∷ ys) = refl
bytes_sym (x ∷ xs) [] = refl
bytes_sym (x ∷ xs) (y ∷ ys) = rw (number_sym x y, bytes_sym xs ys) refl

-- appending a name that is unlike all names before it
pub one_more : (xs : List (List ℕ)) (y : List ℕ) → are_distinct xs ≡ true → list_any (bytes_eq y) xs ≡ false → are_distinct (xs ++ y ∷ []) ≡ true
one_more [] y d n = refl
one_more (x ∷ xs) y d n = by (list_any (bytes_eq x) xs) refl (bytes_eq y x) refl (λ a b. one_more xs y a b)
  where
    by : (b : Bool) → list_any (bytes_eq x) xs ≡ b → (c : Bool) → bytes_eq y x ≡ c → (are_distinct xs ≡ true → list_any (bytes_eq y) xs ≡ false → are_distinct (xs ++ y ∷ []) ≡ true) → are_distinct ((x ∷ xs) ++ y ∷ []) ≡ true
    by true e c f ih = absurd (let h : (if list_any (bytes_eq x) xs then false else are_distinct xs) ≡ true = d in let k : false ≡ true = sym (rw e refl) ∙ h in cc)
    by false e true f ih = absurd (let h : (bytes_eq y x || list_any (bytes_eq y) xs) ≡ false = n in let k : true ≡ false = sym (rw f refl) ∙ h in cc)
    by false e false f ih =
        let rest : are_distinct xs ≡ true = sym (rw e refl) ∙ d in
        let others : list_any (bytes_eq y) xs ≡ false = sym (rw f refl) ∙ n in
        let unlike : list_any (bytes_eq x) (xs ++ y ∷ []) ≡ false = list_any-append (bytes_eq x) xs (y ∷ []) ∙ rw (e, bytes_sym x y, f) refl in
        rw unlike (ih rest others)

-- a repeated name
again : (xs ys : List (List ℕ)) (y : List ℕ) → list_any (bytes_eq y) xs ≡ true → are_distinct (xs ++ y ∷ ys) ≡ false
again [] ys y h = absurd (cc)
again (x ∷ xs) ys y h = by (list_any (bytes_eq x) (xs ++ y ∷ ys)) refl (bytes_eq y x) refl (λ k. again xs ys y k)
  where
    or_true : (b : Bool) → (b || true) ≡ true
    or_true true = refl
    or_true false = refl

    by : (b : Bool) → list_any (bytes_eq x) (xs ++ y ∷ ys) ≡ b → (c : Bool) → bytes_eq y x ≡ c → (list_any (bytes_eq y) xs ≡ true → are_distinct (xs ++ y ∷ ys) ≡ false) → are_distinct ((x ∷ xs) ++ y ∷ ys) ≡ false
    by true e c f ih = rw e refl
    by false e true f ih =
        let here : list_any (bytes_eq x) (xs ++ y ∷ ys) ≡ (list_any (bytes_eq x) xs || true) = list_any-append (bytes_eq x) xs (y ∷ ys) ∙ rw (bytes_sym x y, f) refl in
        let no : true ≡ false = sym (here ∙ or_true (list_any (bytes_eq x) xs)) ∙ e in
        absurd (cc)
    by false e false f ih =
        let rest : list_any (bytes_eq y) xs ≡ true = sym (rw f refl) ∙ h in
        rw e (ih rest)

pub not_distinct : (ns : List (List ℕ)) (i : ℕ) (y : List ℕ) → drop i ns ≡ y ∷ drop (i + 1) ns → list_any (bytes_eq y) (take i ns) ≡ true → distinct_of ns ≡ None
not_distinct ns i y e h =
    let whole : take i ns ++ y ∷ drop (i + 1) ns ≡ ns = ap (λ l. take i ns ++ l) (sym e) ∙ take-append-drop i ns in
    let no : are_distinct ns ≡ false = ap are_distinct (sym whole) ∙ again (take i ns) (drop (i + 1) ns) y h in
    rw no refl

-- ---- The names of a list, added to a set in order.

abbrev Named : Type 0
Named = Bor (List ℕ)

known : (value : Vec ℕ Global) (keys : List (Vec ℕ Global)) (ns : List (List ℕ)) (b : Bool) → map (λ k. k.items) keys ≡ ns → list_any (same_name value) keys ≡ b → list_any (bytes_eq value.items) ns ≡ b
known value keys ns b k h = ap (list_any (bytes_eq value.items)) (sym k) ∙ any_seen (bytes_eq value.items) (λ k. k.items) keys ∙ h

opposite : (a b c : Bool) → a ≡ not b → a ≡ c → b ≡ not c
opposite a true c e h = sym (ap not e) ∙ ap not h
opposite a false c e h = sym (ap not e) ∙ ap not h

pub names_again : (names : List Named) (i : ℕ) (d : Named) (value : Vec ℕ Global) (keys : List (Vec ℕ Global)) (is_new : Bool) → i < length names → value.items ≡ (get_or names i d).now → map (λ k. k.items) keys ≡ take i (map (λ s. s.now) names) → is_new ≡ not (list_any (same_name value) keys) → is_new ≡ false → distinct_of (map (λ s. s.now) names) ≡ None
names_again names i d value keys is_new l v k a f =
    let ns = map (λ s. s.now) names in
    let here : list_any (bytes_eq value.items) (take i ns) ≡ true = known value keys (take i ns) true k (opposite is_new (list_any (same_name value) keys) false a f) in
    let there : drop i ns ≡ value.items ∷ drop (i + 1) ns = drop_seen (λ s. s.now) names i d l ∙ ap (λ n. n ∷ drop (i + 1) ns) (sym v) in
    not_distinct ns i value.items there here

pub names_more : (names : List Named) (i : ℕ) (d : Named) (value : Vec ℕ Global) (keys more : List (Vec ℕ Global)) (is_new : Bool) → i < length names → value.items ≡ (get_or names i d).now → map (λ k. k.items) keys ≡ take i (map (λ s. s.now) names) → is_new ≡ not (list_any (same_name value) keys) → is_new ≡ true → are_distinct (take i (map (λ s. s.now) names)) ≡ true → more ≡ insert_key same_name keys value → (map (λ k. k.items) more ≡ take (i + 1) (map (λ s. s.now) names)) × (are_distinct (take (i + 1) (map (λ s. s.now) names)) ≡ true)
names_more names i d value keys more is_new l v k a f h e =
    let ns = map (λ s. s.now) names in
    let absent : list_any (same_name value) keys ≡ false = opposite is_new (list_any (same_name value) keys) true a f in
    let further : take (i + 1) ns ≡ take i ns ++ value.items ∷ [] = take_seen (λ s. s.now) names i d l ∙ ap (λ n. take i ns ++ n ∷ []) (sym v) in
    let added : more ≡ keys ++ value ∷ [] = e ∙ rw absent refl in (
      ap (map (λ k. k.items)) added ∙ map-append (λ k. k.items) keys (value ∷ []) ∙ ap (λ l. l ++ value.items ∷ []) k ∙ sym further,
      ap are_distinct further ∙ one_more (take i ns) value.items h (known value keys (take i ns) false k absent),
    )

-- ---- Names separated by commas, from an index on.

-- a name before others
pub after_name : (o : Option (List (List ℕ))) (n : List ℕ) (found : List (List ℕ)) → ((o >=> (λ ns. Some (n ∷ ns))) >=> (λ ns. Some (found ++ ns))) ≡ (o >=> (λ ns. Some ((found ++ n ∷ []) ++ ns)))
after_name x n found = grind (arith, common_steps)

-- there is no name at the index
pub no_name : (ts : List Lexeme) (at : ℕ) → name_at ts at ≡ None → names_from true (drop at ts) ≡ None
no_name [] zero e = refl
no_name [] (suc at) e = refl
no_name (t ∷ ts) zero e = rw e refl
no_name (t ∷ ts) (suc at) e = no_name ts at e

-- the name is the last token
pub last_name : (ts : List Lexeme) (at : ℕ) (n : List ℕ) → name_at ts at ≡ Some n → at + 1 ≡ length ts → names_from true (drop at ts) ≡ Some (n ∷ [])
last_name [] at n e h = absurd (omega arith)
last_name (t ∷ []) zero n e h = rw e refl
last_name (t ∷ u ∷ ts) zero n e h = absurd (omega arith)
last_name (t ∷ ts) (suc at) n e h = last_name ts at n e (omega arith)

-- a name followed by a token that is no comma
pub name_alone : (ts : List Lexeme) (at : ℕ) (n : List ℕ) → name_at ts at ≡ Some n → at + 1 < length ts → is_comma_at ts (at + 1) ≡ false → names_from true (drop at ts) ≡ None
name_alone [] at n e h f = absurd (omega arith)
name_alone (t ∷ []) zero n e h f = absurd (omega arith)
name_alone (t ∷ u ∷ ts) zero n e h f = let g : is_comma u ≡ false = f in rw (e, g) refl
name_alone (t ∷ ts) (suc at) n e h f = name_alone ts at n e (omega arith) (let P : ℕ → Type 0 = λ k. is_comma_at (t ∷ ts) k ≡ false in let one : suc at + 1 ≡ suc (at + 1) = omega arith in subst P one f)

-- a name followed by a comma
pub name_and_comma : (ts : List Lexeme) (at : ℕ) (n : List ℕ) → name_at ts at ≡ Some n → is_comma_at ts (at + 1) ≡ true → names_from true (drop at ts) ≡ (names_from true (drop (at + 2) ts) >=> (λ ns. Some (n ∷ ns)))
name_and_comma [] zero n e f = absurd cc
name_and_comma [] (suc at) n e f = absurd cc
name_and_comma (t ∷ []) zero n e f = absurd cc
name_and_comma (t ∷ u ∷ ts) zero n e f = let g : is_comma u ≡ true = f in rw (e, g) refl
name_and_comma (t ∷ ts) (suc at) n e f =
    let one : suc at + 1 ≡ suc (at + 1) = omega arith in
    let two : suc at + 2 ≡ suc (at + 2) = omega arith in
    let P : ℕ → Type 0 = λ k. is_comma_at (t ∷ ts) k ≡ true in
    let Q : ℕ → Type 0 = λ k. names_from true (drop (suc at) (t ∷ ts)) ≡ (names_from true (drop k (t ∷ ts)) >=> (λ ns. Some (n ∷ ns))) in
    subst Q (sym two) (name_and_comma ts at n e (subst P one f))

-- ---- The names so far, and the names after them.

pub found_none : (o p : Option (List (List ℕ))) (found : List (List ℕ)) → o ≡ (p >=> (λ ns. Some (found ++ ns))) → p ≡ None → None ≡ o
found_none o p found e h = sym (e ∙ rw h refl)

pub found_last : (o p : Option (List (List ℕ))) (found : List (List ℕ)) (n : List ℕ) → o ≡ (p >=> (λ ns. Some (found ++ ns))) → p ≡ Some (n ∷ []) → Some (found ++ n ∷ []) ≡ o
found_last o p found n e h = sym (e ∙ rw h refl)

pub found_next : (o p q : Option (List (List ℕ))) (found : List (List ℕ)) (n : List ℕ) → o ≡ (p >=> (λ ns. Some (found ++ ns))) → p ≡ (q >=> (λ ns. Some (n ∷ ns))) → o ≡ (q >=> (λ ns. Some ((found ++ n ∷ []) ++ ns)))
found_next o p q found n e h = e ∙ rw h (after_name q n found)

-- ---- The parts between commas, in order.

abbrev ends_part : ℕ → Lexeme → Bool
ends_part d t = is_comma t && (d == 0)

-- the last part
pub last_part : (d : ℕ) (ts : List Lexeme) → length ts ≤ argument_len d ts → arguments_within d ts ≡ ts ∷ []
last_part d [] h = refl
last_part d (t ∷ ts) h = by (ends_part d t) refl (last_part (braces_after d t) ts)
  where
    by : (b : Bool) → ends_part d t ≡ b → (length ts ≤ argument_len (braces_after d t) ts → arguments_within (braces_after d t) ts ≡ ts ∷ []) → arguments_within d (t ∷ ts) ≡ (t ∷ ts) ∷ []
    by true e next = absurd (let z : argument_len d (t ∷ ts) ≡ 0 = rw e refl in omega arith)
    by false e next = let n : argument_len d (t ∷ ts) ≡ 1 + argument_len (braces_after d t) ts = rw e refl in rw e (ap (prepend_to_first t) (next (omega arith)))

-- a part followed by a comma
pub next_part : (d : ℕ) (ts : List Lexeme) → argument_len d ts < length ts → arguments_within d ts ≡ take (argument_len d ts) ts ∷ arguments_within 0 (drop (argument_len d ts + 1) ts)
next_part d [] h = absurd (omega arith)
next_part d (t ∷ ts) h = grind (arith, common_steps, (next_part (braces_after d t) ts))

-- ---- The parts so far, and one further part.

pub parts_end : (done all : List (List Lexeme)) (rest x : List Lexeme) (n : ℕ) → n ≡ argument_len 0 rest → length rest ≤ n → x ≡ without_braces (take n rest) → done ++ map without_braces (arguments_within 0 rest) ≡ all → done ++ x ∷ [] ≡ all
parts_end done all rest x n e h same so_far = grind (arith, common_steps, last_part, take_all)

pub parts_more : (done all : List (List Lexeme)) (rest x : List Lexeme) (n : ℕ) → n ≡ argument_len 0 rest → n < length rest → x ≡ without_braces (take n rest) → done ++ map without_braces (arguments_within 0 rest) ≡ all → (done ++ x ∷ []) ++ map without_braces (arguments_within 0 (drop (n + 1) rest)) ≡ all
parts_more done all rest x n e h same so_far = grind (arith, common_steps, next_part, append_assoc)
