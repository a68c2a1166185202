-- Tables of names: local names and macros.
use Rattle.std.proofs.Common.{◌≡◌, ℕ, ◌+◌, ◌-◌, ◌<◌, ◌||◌, Bool, cond, List, [], ◌∷◌, ◌++◌, length, map, take, drop, get_or, reverse, Some, position, refl, sym, ap, ◌∙◌, arith, Bor, Vec, Global}
use Rattle.std.specs.List.{list_any, position_from}
use Rattle.std.specs.Map.{lookup}
use Rattle.std.specs.Option.{option_map}
use Rattle.std.proofs.lemmas.Grind.{common_steps}
use Rattle.std.proofs.lemmas.Iterator.Adapters.{position_from-zero}
use Rattle.std.proofs.lemmas.List.{drop-map, drop_more, map-append, take-map, take_more, length-drop, length-reverse, reverse-append, take-append-drop, drop_at as std_drop_at}
use Rattle.std.specs.Str.{bytes_eq}
use Rattle.std.specs.declared.rc.Rc.{Rc}
use Rattle.indexmap.specs.IndexMap.{insert_entry}
use Rattle.base65.specs.Store.{Files}
use Rattle.syntax65.specs.Tokens.{Lexeme}
use Rattle.expand65.specs.Replay.{tokens_in, remaining_replay, substitution_of}
use Rattle.expand65.specs.Lines.{all_local, with_local, with_locals, Substitution, local_name_token, with_local_names, Item, body_line, end_mark, InputEnd}
use Rattle.expand65.specs.declared.line.StoredLine.{StoredLine}
use Rattle.expand65.specs.declared.macro_replay.Body.{Body}
use Rattle.expand65.specs.declared.macro_replay.Replay.{Replay}

-- ---- Lists and tables of entries.

from_mapped : {A B : Type 0} (p : B → Bool) (f : A → B) (i : ℕ) (xs : List A) → position_from p i (map f xs) ≡ position_from (λ x. p (f x)) i xs
from_mapped p f i [] = refl
from_mapped p f i (x ∷ xs) = ap (cond (p (f x)) (Some i)) (from_mapped p f (i + 1) xs)

pub position_mapped : {A B : Type 0} (p : B → Bool) (f : A → B) (xs : List A) → position p (map f xs) ≡ position (λ x. p (f x)) xs
position_mapped p f xs = position_from-zero p (map f xs) ∙ from_mapped p f 0 xs ∙ sym (position_from-zero (λ x. p (f x)) xs)

-- a lookup in a table whose keys and values are mapped
pub lookup_mapped : {K L X Y : Type 0} (p : L → Bool) (f : K → L) (g : X → Y) (es : List (K × X)) → lookup p (map (λ e. (f e.0, g e.1)) es) ≡ option_map g (lookup (λ k. p (f k)) es)
lookup_mapped p f g [] = refl
lookup_mapped p f g (e ∷ es) = grind (arith, common_steps, (lookup_mapped p f g es))

-- the reverse of a prefix is a suffix of the reverse
pub reverse_take : {A : Type 0} (n : ℕ) (xs : List A) → reverse (take n xs) ≡ drop (length (reverse xs) - n) (reverse xs)
reverse_take n xs =
    let whole : reverse xs ≡ reverse (drop n xs) ++ reverse (take n xs) = ap reverse (sym (take-append-drop n xs)) ∙ reverse-append (take n xs) (drop n xs) in
    let count : length (reverse (drop n xs)) ≡ length (reverse xs) - n = length-reverse (drop n xs) ∙ length-drop n xs ∙ ap (λ k. k - n) (sym (length-reverse xs)) in
    sym (ap (drop (length (reverse xs) - n)) whole ∙ std_drop_at (reverse (drop n xs)) (reverse (take n xs)) (length (reverse xs) - n) count)

-- a prefix of a mapped list, and one further element
pub take_seen : {A B : Type 0} (f : A → B) (xs : List A) (i : ℕ) (d : A) → i < length xs → take (i + 1) (map f xs) ≡ take i (map f xs) ++ f (get_or xs i d) ∷ []
take_seen f xs i d h = take-map f (i + 1) xs ∙ ap (map f) (take_more xs i d h) ∙ map-append f (take i xs) (get_or xs i d ∷ []) ∙ ap (λ l. l ++ f (get_or xs i d) ∷ []) (sym (take-map f i xs))

pub drop_seen : {A B : Type 0} (f : A → B) (xs : List A) (i : ℕ) (d : A) → i < length xs → drop i (map f xs) ≡ f (get_or xs i d) ∷ drop (i + 1) (map f xs)
drop_seen f xs i d h = drop-map f i xs ∙ ap (map f) (drop_more xs i d h) ∙ ap (λ l. f (get_or xs i d) ∷ l) (sym (drop-map f (i + 1) xs))

pub any_seen : {A B : Type 0} (p : B → Bool) (f : A → B) (xs : List A) → list_any p (map f xs) ≡ list_any (λ x. p (f x)) xs
any_seen p f [] = refl
any_seen p f (x ∷ xs) = ap (λ b. p (f x) || b) (any_seen p f xs)

-- ---- Tables of names: local names and macros.

-- whether two names are equal
abbrev pub same_name : Vec ℕ Global → Vec ℕ Global → Bool
same_name a b = bytes_eq a.items b.items

-- a local name with its replacement
abbrev pub local_of : Vec ℕ Global × StoredLine → List ℕ × List Lexeme
local_of e = (e.0.items, tokens_in e.1)

pub inserted : (es : List (Vec ℕ Global × StoredLine)) (k : Vec ℕ Global) (v : StoredLine) → map local_of (insert_entry same_name es k v) ≡ with_local (map local_of es) k.items (tokens_in v)
inserted [] k v = refl
inserted (e ∷ es) k v = grind (arith, common_steps, (inserted es k v))

-- the substitution with other local names
abbrev pub own_locals : Substitution → List (List ℕ × List Lexeme) → Substitution
own_locals r ls = record { params = r.params; arguments = r.arguments; count = r.count; locals = ls; number = r.number }

-- adding one name after the others
pub all_more : (n : ℕ) (names : List (List ℕ)) (name : List ℕ) (ls : List (List ℕ × List Lexeme)) → all_local n (names ++ name ∷ []) ls ≡ with_local (all_local n names ls) name (local_name_token n name ∷ [])
all_more n [] name ls = refl
all_more n (x ∷ names) name ls = all_more n names name (with_local ls x (local_name_token n x ∷ []))

-- adding local names to the lines up to the end mark
pub localised_lines : (names : List (List ℕ)) (e : Substitution) (ls : List (List Lexeme)) (k : InputEnd) (is : List Item) → with_local_names names (map (body_line e) ls ++ end_mark k ∷ is) ≡ map (body_line (with_locals names e)) ls ++ end_mark k ∷ is
localised_lines names e [] k is = refl
localised_lines names e (l ∷ ls) k is = ap (λ x. body_line (with_locals names e) l ∷ x) (localised_lines names e ls k is)

-- ---- One further local name, and then more.

pub with_own : (old : Replay) (es : List (Vec ℕ Global × StoredLine)) (k : Vec ℕ Global) (v : StoredLine) (name : List ℕ) → es ≡ insert_entry same_name old.locals.entries k v → k.items ≡ name → tokens_in v ≡ local_name_token old.number name ∷ [] → own_locals (substitution_of old) (map local_of es) ≡ with_locals (name ∷ []) (substitution_of old)
with_own old es k v name e n t =
    let ls = map local_of old.locals.entries in
    ap (own_locals (substitution_of old)) (ap (map local_of) e ∙ inserted old.locals.entries k v ∙ ap (λ x. with_local ls x (tokens_in v)) n ∙ ap (with_local ls name) t)

pub more_names : (names : List (Bor (List ℕ))) (i : ℕ) (d : Bor (List ℕ)) (init old new : Substitution) → i < length names → new ≡ with_locals ((get_or names i d).now ∷ []) old → old ≡ with_locals (take i (map (λ s. s.now) names)) init → new ≡ with_locals (take (i + 1) (map (λ s. s.now) names)) init
more_names names i d init old new l h e =
    let ns = map (λ s. s.now) names in
    let name = (get_or names i d).now in
    h ∙ ap (with_locals (name ∷ [])) e ∙ ap (own_locals init) (sym (all_more init.number (take i ns) name init.locals)) ∙ ap (λ l. with_locals l init) (sym (take_seen (λ s. s.now) names i d l))

-- the remaining lines of a macro call with further local names
pub left_localised : (m : Files) (old new : Replay) (names : List (List ℕ)) (k : InputEnd) (is : List Item) → substitution_of new ≡ with_locals names (substitution_of old) → new.body ≡ old.body → new.at ≡ old.at → remaining_replay new ++ end_mark k ∷ is ≡ with_local_names names (remaining_replay old ++ end_mark k ∷ is)
left_localised m old new names k is r b a =
    let ls = drop old.at (map tokens_in old.body.value.lines) in
    let lines : drop new.at (map tokens_in new.body.value.lines) ≡ ls = ap (λ i. drop i (map tokens_in new.body.value.lines)) a ∙ ap (λ (x : Rc Body Global). drop old.at (map tokens_in x.value.lines)) b in
    ap (λ e. map (body_line e) (drop new.at (map tokens_in new.body.value.lines)) ++ end_mark k ∷ is) r ∙ ap (λ l. map (body_line (with_locals names (substitution_of old))) l ++ end_mark k ∷ is) lines ∙ sym (localised_lines names (substitution_of old) ls k is)
