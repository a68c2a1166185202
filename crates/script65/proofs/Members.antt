-- Lemmas about the rows of each area, their names, and the needs of segments.
use Rattle.std.proofs.lemmas.Grind.{common_steps}
use Rattle.std.proofs.Common.{◌≡◌, ◌≢◌, ◌<◌, ◌≤◌, ℕ, ◌+◌, Bool, true, false, List, [], ◌∷◌, ◌++◌, length, drop, get_or, Option, Some, None, refl, sym, ap, ◌∙◌, arith, ◌-◌, cond, map, Err, nat_lt, take, position, MatchOption, length-append}
use Rattle.std.specs.Prelude.{◌==◌, ◌||◌, if◌then◌else◌, find, codes}
use Rattle.std.specs.Option.{option_map}
use Rattle.std.proofs.lemmas.Bool.Decides.{nat_tests}
use Rattle.std.proofs.lemmas.List.{drop_all, append_cancel_right, take-append-drop}
use Rattle.script65.specs.declared.script.SegmentRow.{SegmentRow}
use Rattle.script65.specs.Placing.{is_in, row_indices_in, has_row, rows_exist, size_of}
use Rattle.script65.proofs.ListLemmas.{append_none, drop_item}
use Rattle.std.specs.Str.{bytes_eq}
use Rattle.script65.specs.declared.placement.PlaceFault.TheVariants.{NoRow}
use Rattle.script65.specs.declared.placement.SegmentNeed.{SegmentNeed}
use Rattle.std.specs.List.{position_or_len}
use Rattle.std.proofs.lemmas.Slice.Eq.{bytes_eq-Decides}
use Rattle.std.proofs.Math.Path.{fun_ext}
use Rattle.std.proofs.Math.Seq.{drop-append_seam}
use Rattle.script65.specs.declared.reading.entries.ConfigEntry.{ConfigEntry}
use Rattle.script65.specs.Internal.Tables.{owner_index_by_ending}

-- ---- The rows of each area.

-- append an index if a test is true
abbrev pub with_if : Bool → ℕ → List ℕ → List ℕ
with_if b i m = if b then m ++ i ∷ [] else m

pub added_twice : (k i : ℕ) (r : SegmentRow) (o : Option (List ℕ)) → r.load ≢ r.run → option_map (with_if (r.load == k) i) (option_map (with_if (r.run == k) i) o) ≡ option_map (with_if (is_in k r) i) o
unfolding is_in
added_twice k i r x apart = grind (arith, common_steps)

pub added_once : (k i : ℕ) (r : SegmentRow) (o : Option (List ℕ)) → r.load ≡ r.run → option_map (with_if (r.run == k) i) o ≡ option_map (with_if (is_in k r) i) o
unfolding is_in
added_once k i r o same = grind (arith, common_steps)

-- the members so far, and the members among the remaining rows
abbrev pub Collects : ℕ → List SegmentRow → ℕ → Option (List ℕ) → Type 0
Collects k rows i o = (m : List ℕ) × (o ≡ Some m) × (m ++ row_indices_in k i (drop i rows) ≡ row_indices_in k 0 rows)

pub collects_none : (k : ℕ) (rows : List SegmentRow) (o : Option (List ℕ)) → o ≡ Some [] → Collects k rows 0 o
collects_none k x o e = grind (arith, common_steps)

pub collects_more : (k : ℕ) (rows : List SegmentRow) (i : ℕ) (r : SegmentRow) (old new : Option (List ℕ)) → i < length rows → r ≡ get_or rows i r → new ≡ option_map (with_if (is_in k r) i) old → Collects k rows i old → Collects k rows (i + 1) new
collects_more k rows i r old new lt at e h = grind (arith, common_steps)

pub collects_all : (k : ℕ) (rows : List SegmentRow) (i : ℕ) (o : Option (List ℕ)) → length rows ≤ i → Collects k rows i o → o ≡ Some (row_indices_in k 0 rows)
collects_all k rows i o le h = h.1 ∙ ap Some (sym (ap (λ l. h.0 ++ row_indices_in k i l) (drop_all i rows le) ∙ append_none h.0) ∙ h.2)

-- ---- The needs of segments, by name.

or_false : (b : Bool) → (b || false) ≡ b
or_false true = refl
or_false false = refl

pub name_step : (rows : List SegmentRow) (i : ℕ) (r : SegmentRow) (name : List ℕ) (old new : Bool) → i < length rows → r ≡ get_or rows i r → new ≡ cond (bytes_eq r.name name) true old → (old || has_row (drop i rows) name) ≡ has_row rows name → (new || has_row (drop (i + 1) rows) name) ≡ has_row rows name
unfolding has_row
name_step rows i r name old new lt at e inv = grind (arith, common_steps)

pub name_end : (rows : List SegmentRow) (i : ℕ) (name : List ℕ) (old : Bool) → length rows ≤ i → (old || has_row (drop i rows) name) ≡ has_row rows name → old ≡ has_row rows name
unfolding has_row
name_end rows i name old le inv = sym (ap (λ l. old || has_row l name) (drop_all i rows le) ∙ or_false old) ∙ inv

pub need_step : (rows : List SegmentRow) (needs : List SegmentNeed) (i : ℕ) (n : SegmentNeed) → i < length needs → n ≡ get_or needs i n → has_row rows n.name ≡ true → rows_exist rows (drop i needs) ≡ rows_exist rows needs → rows_exist rows (drop (i + 1) needs) ≡ rows_exist rows needs
need_step rows needs i n lt at e inv = grind (arith, common_steps)

pub need_stops : (rows : List SegmentRow) (needs : List SegmentNeed) (i : ℕ) (n : SegmentNeed) (name : List ℕ) → i < length needs → n ≡ get_or needs i n → has_row rows n.name ≡ false → name ≡ n.name → rows_exist rows (drop i needs) ≡ rows_exist rows needs → rows_exist rows needs ≡ Err (NoRow name)
need_stops rows needs i n name lt at e same inv = grind (arith, common_steps)

pub size_none : (needs : List SegmentNeed) (name : List ℕ) → size_of (drop (length needs) needs) name ≡ None
unfolding size_of
size_none needs name = ap (λ l. option_map (λ (n : SegmentNeed). n.size) (find (λ n. bytes_eq n.name name) l)) (drop_all (length needs) needs (omega arith))

size_front : (n : SegmentNeed) (rest : List SegmentNeed) (name : List ℕ) → size_of (n ∷ rest) name ≡ cond (bytes_eq n.name name) (Some n.size) (size_of rest name)
unfolding size_of
size_front n rest name = grind (arith, common_steps)

pub size_step : (needs : List SegmentNeed) (i : ℕ) (n : SegmentNeed) (name : List ℕ) (old new : Option ℕ) → 0 < i → i ≤ length needs → n ≡ get_or needs (i - 1) n → new ≡ cond (bytes_eq n.name name) (Some n.size) old → old ≡ size_of (drop i needs) name → new ≡ size_of (drop (i - 1) needs) name
size_step needs i n name old new pos le at e inv = grind (arith, common_steps, size_front, drop_item)

pub map_more : {A B : Type 0} (f : A → B) (xs : List A) (i : ℕ) (x : A) (done : List B) (y : B) → i < length xs → x ≡ get_or xs i x → y ≡ f x → done ++ map f (drop i xs) ≡ map f xs → (done ++ y ∷ []) ++ map f (drop (i + 1) xs) ≡ map f xs
map_more f xs i x done y lt at e inv = grind (arith, common_steps)

-- ---- The names of attributes of areas and rows.

pub match_map : {X : Type 0} (o : Option X) (A P : Type 0) (B Q : X → Type 0) → (A → P) → ((x : X) → B x → Q x) → MatchOption o A B → MatchOption o P Q
match_map x y z u v f g h = grind (arith, common_steps)

same_bytes : (xs ys : List ℕ) → bytes_eq xs ys ≡ true → xs ≡ ys
same_bytes xs ys e = (bytes_eq-Decides xs ys).0 e

itself : (xs ys : List ℕ) → xs ≡ ys → bytes_eq xs ys ≡ true
itself xs ys e = (bytes_eq-Decides xs ys).1 e

-- the text after `__`
pub after_front : (name rest : List ℕ) → bytes_eq (take 2 name) (codes "__") ≡ true → rest ≡ drop 2 name → name ≡ codes "__" ++ rest
after_front name rest e d = sym (take-append-drop 2 name) ∙ ap (λ l. l ++ drop 2 name) (same_bytes _ _ e) ∙ ap (λ l. codes "__" ++ l) (sym d)

-- the text before an ending
pub before_ending : (rest x end : List ℕ) → bytes_eq (drop (length rest - length end) rest) end ≡ true → x ≡ take (length rest - length end) rest → rest ≡ x ++ end
before_ending rest x end e t =
    sym (take-append-drop (length rest - length end) rest)
    ∙ ap (λ l. take (length rest - length end) rest ++ l) (same_bytes _ _ e)
    ∙ ap (λ l. l ++ end) (sym t)

pub no_ending : (rest n end : List ℕ) → bytes_eq (drop (length rest - length end) rest) end ≡ false → rest ≢ n ++ end
no_ending rest n end e is = grind (arith, common_steps, length-append, drop-append_seam, itself)

pub same_rest : (a b : List ℕ) → codes "__" ++ a ≡ codes "__" ++ b → a ≡ b
same_rest a b e = cc

-- the name of an attribute of an area or row
abbrev part_name : List ℕ → List ℕ → List ℕ
part_name name end = codes "__" ++ (name ++ end)

-- names with the same ending are equal if and only if the names of their owners are
inner_name : (n m end : List ℕ) → bytes_eq (part_name n end) (part_name m end) ≡ bytes_eq n m
inner_name n m end = grind (arith, common_steps, append_cancel_right, same_rest, same_bytes, itself, bytes_eq-Decides)

to_false : (b : Bool) → (b ≡ true → ⊥) → b ≡ false
to_false true h = absurd (h refl)
to_false false h = refl

past_all : {A : Type 0} (xs : List A) → position_or_len (λ x. false) xs ≡ length xs
past_all [] = refl
past_all (x ∷ xs) = let h = past_all xs in omega arith

not_less : (n : ℕ) → nat_lt n n ≡ false
not_less n = grind (arith, nat_tests)

nowhere : {A : Type 0} (xs : List A) → position (λ x. false) xs ≡ None
nowhere xs = ap (λ n. cond (nat_lt n (length xs)) (Some n) None) (past_all xs) ∙ ap (λ b. cond b (Some (length xs)) None) (not_less (length xs))

-- a name that isn't of this form
pub named_nowhere : (es : List ConfigEntry) (name end : List ℕ) → ((n : List ℕ) → name ≢ part_name n end) → owner_index_by_ending es name end ≡ None
named_nowhere es name end never =
    let P : ConfigEntry → Bool = λ e. bytes_eq name (part_name e.name end) in
    let Q : ConfigEntry → Bool = λ e. false in
    let same : P ≡ Q = fun_ext (λ e. to_false (P e) (λ t. never e.name (same_bytes name (part_name e.name end) t))) in
    ap (λ p. position p es) same ∙ nowhere es

-- a name of this form
pub named_there : (es : List ConfigEntry) (name n end : List ℕ) → name ≡ part_name n end → owner_index_by_ending es name end ≡ position (λ (e : ConfigEntry). bytes_eq n e.name) es
named_there es name n end is = grind (arith, common_steps, fun_ext, inner_name)
