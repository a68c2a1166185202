-- Inputs, their end marks, and the next line of the innermost one.
use Rattle.std.proofs.lemmas.Grind.{common_steps}
use Rattle.std.proofs.Common.{◌≡◌, ℕ, zero, suc, ◌+◌, ◌-◌, ◌≤◌, ◌<◌, refl, sym, ◌∙◌, ap, arith, List, [], ◌∷◌, ◌++◌, length, map, drop, append_assoc, Some, true, false, Ok, Err, ◌≢◌, Bool, Option, None, subst, IfSome}
use Rattle.std.specs.Prelude.{if◌then◌else◌}
use Rattle.std.proofs.lemmas.Bool.Decides.{nat_tests}
use Rattle.std.proofs.lemmas.List.{append-nil}
use Rattle.base65.specs.Store.{Files}
use Rattle.syntax65.specs.Tokens.{Lexeme}
use Rattle.expand65.specs.Lines.{with_lines, without_end_mark, HasLineTokens, ReadsNextLine, ReadsFirstItem, lines_of, rest_of, file_lines_after, iterations, Item, file_line, body_line, label_rest, elseif_rest, end_mark, InputEnd, remaining_input, end_mark_count, innermost, after_innermost_macro, restored_location, location_at, in_iteration, Substitution}
use Rattle.expand65.specs.Representation.{remaining_in, end_mark_of, input_items, outer_items, remaining_of, is_call, HasNextLine, ReadsStoredLine, location_after_next}
use Rattle.expand65.specs.Replay.{tokens_in, remaining_replay, substitution_of, ReadsFileLine}
use Rattle.syntax65.specs.declared.fault.ExpandFault.TheVariants.{Nested, NotClosed}
use Rattle.expand65.specs.declared.input.LineSource.{LineSource}
use Rattle.expand65.specs.declared.input.LineSource.TheVariants as source
use Rattle.expand65.specs.declared.input_stack.Input.{Input}
use Rattle.expand65.specs.declared.input_stack.InputStack.{InputStack}
use Rattle.syntax65.specs.declared.source_location.SourceLocation.{SourceLocation}
use Rattle.base65.specs.Outcome.{Unless}
use Rattle.syntax65.specs.Faults.{is_system_error}
use Rattle.syntax65.specs.declared.fault.ExpandFault.{ExpandFault}
use Rattle.expand65.specs.declared.input.NextLine.{NextLine}
use Rattle.expand65.specs.declared.input.NextLine.TheVariants.{AtEnd, Numbered, Replayed}
use Rattle.expand65.specs.declared.line.StoredLine.{StoredLine}

-- ---- End marks among the lines of inputs.

abbrev pub AreLines : List Item → Type 0
AreLines [] = Unit {0}
AreLines (file_line n b ∷ is) = AreLines is
AreLines (body_line e ts ∷ is) = AreLines is
AreLines (_ ∷ is) = ⊥

lines_append : (is js : List Item) → AreLines is → AreLines js → AreLines (is ++ js)
lines_append [] js h k = k
lines_append (file_line n b ∷ is) js h k = lines_append is js h k
lines_append (body_line e ts ∷ is) js h k = lines_append is js h k
lines_append (label_rest ts ∷ is) js h k = absurd h
lines_append (elseif_rest ts ∷ is) js h k = absurd h
lines_append (end_mark x ∷ is) js h k = absurd h

lines_numbered : (n : ℕ) (ls : List (List ℕ)) → AreLines (file_lines_after n ls)
lines_numbered n [] = tt
lines_numbered n (l ∷ ls) = lines_numbered (n + 1) ls

lines_played : (e : Substitution) (ls : List (List Lexeme)) → AreLines (map (body_line e) ls)
lines_played e [] = tt
lines_played e (l ∷ ls) = lines_played e ls

lines_turns : (e : Substitution) (body : List (List Lexeme)) (t n : ℕ) → AreLines (iterations e body t n)
lines_turns e body t zero = tt
lines_turns e body t (suc n) = lines_append (map (body_line (in_iteration e t)) body) (iterations e body (t + 1) n) (lines_played (in_iteration e t) body) (lines_turns e body (t + 1) n)

pub lines_left : (m : Files) (s : LineSource) → AreLines (remaining_in m s)
lines_left m (source.File f) = lines_numbered f.line (lines_of (rest_of m f))
lines_left m (source.Call r) = lines_played (substitution_of r) (drop r.at (map tokens_in r.body.value.lines))
lines_left m (source.Repeat r next count) = lines_append (remaining_replay r) (iterations (substitution_of r) (map tokens_in r.body.value.lines) next (count - next)) (lines_played (substitution_of r) (drop r.at (map tokens_in r.body.value.lines))) (lines_turns (substitution_of r) (map tokens_in r.body.value.lines) next (count - next))

marks_lines : (is js : List Item) → AreLines is → end_mark_count (is ++ js) ≡ end_mark_count js
marks_lines [] js h = refl
marks_lines (file_line n b ∷ is) js h = marks_lines is js h
marks_lines (body_line e ts ∷ is) js h = marks_lines is js h
marks_lines (label_rest ts ∷ is) js h = absurd h
marks_lines (elseif_rest ts ∷ is) js h = absurd h
marks_lines (end_mark x ∷ is) js h = absurd h

innermost_lines : (is js : List Item) (k : InputEnd) → AreLines is → innermost (is ++ end_mark k ∷ js) ≡ Some k
innermost_lines [] js k h = refl
innermost_lines (file_line n b ∷ is) js k h = innermost_lines is js k h
innermost_lines (body_line e ts ∷ is) js k h = innermost_lines is js k h
innermost_lines (label_rest ts ∷ is) js k h = absurd h
innermost_lines (elseif_rest ts ∷ is) js k h = absurd h
innermost_lines (end_mark x ∷ is) js k h = absurd h

pub own_split : (m : Files) (i : Input) (js : List Item) → input_items m i ++ js ≡ remaining_in m i.source ++ end_mark (end_mark_of i) ∷ js
own_split m i js = append_assoc (remaining_in m i.source) (end_mark (end_mark_of i) ∷ []) js

-- the innermost of the outer inputs comes first
pub outside_push : (m : Files) (is : List Input) (i : Input) → outer_items m (is ++ i ∷ []) ≡ input_items m i ++ outer_items m is
outside_push m [] i = sym (append-nil (input_items m i))
outside_push m (j ∷ is) i = ap (λ l. l ++ input_items m j) (outside_push m is i) ∙ append_assoc (input_items m i) (outer_items m is) (input_items m j)

marks_append : (is js : List Item) → end_mark_count (is ++ js) ≡ end_mark_count is + end_mark_count js
marks_append [] js = omega arith
marks_append (file_line n b ∷ is) js = marks_append is js
marks_append (body_line e ts ∷ is) js = marks_append is js
marks_append (label_rest ts ∷ is) js = marks_append is js
marks_append (elseif_rest ts ∷ is) js = marks_append is js
marks_append (end_mark x ∷ is) js = let e : end_mark_count (is ++ js) ≡ end_mark_count is + end_mark_count js = marks_append is js in omega arith

marks_own : (m : Files) (i : Input) (js : List Item) → end_mark_count (input_items m i ++ js) ≡ end_mark_count js + 1
marks_own m i js = ap end_mark_count (own_split m i js) ∙ marks_lines (remaining_in m i.source) (end_mark (end_mark_of i) ∷ js) (lines_left m i.source)

marks_outside : (m : Files) (is : List Input) → end_mark_count (outer_items m is) ≡ length is
marks_outside m [] = refl
marks_outside m (i ∷ is) =
    let a : end_mark_count (outer_items m is ++ input_items m i) ≡ end_mark_count (outer_items m is) + end_mark_count (input_items m i) = marks_append (outer_items m is) (input_items m i) in
    let b : end_mark_count (outer_items m is) ≡ length is = marks_outside m is in
    let c : end_mark_count (input_items m i) ≡ 1 = marks_lines (remaining_in m i.source) (end_mark (end_mark_of i) ∷ []) (lines_left m i.source) in
    let d : length (i ∷ is) ≡ suc (length is) = refl in
    omega (arith, a, b, c, d)

pub marks_all : (m : Files) (r : InputStack) → end_mark_count (remaining_of m r).items ≡ length r.outer.items + 1
marks_all m r = marks_own m r.top (outer_items m r.outer.items) ∙ ap (λ n. n + 1) (marks_outside m r.outer.items)

-- the innermost end mark is the end mark of the innermost input
pub innermost_is : (m : Files) (r : InputStack) → innermost (remaining_of m r).items ≡ Some (end_mark_of r.top)
innermost_is m r = ap innermost (own_split m r.top (outer_items m r.outer.items)) ∙ innermost_lines (remaining_in m r.top.source) (outer_items m r.outer.items) (end_mark_of r.top) (lines_left m r.top.source)

pub entered_one : (m : Files) (old new : InputStack) (i : Input) → length old.outer.items < 256 → new.top ≡ i → new.outer.items ≡ old.outer.items ++ old.top ∷ [] → new.budget ≡ old.budget → new.location ≡ old.location → Ok (remaining_of m new) ≡ with_lines (remaining_in m i.source) (end_mark_of i) (remaining_of m old)
entered_one m old new i h t u r p = grind (arith, common_steps, nat_tests, marks_all, outside_push, own_split)

pub entered_none : (m : Files) (old : InputStack) (i : Input) → 256 ≤ length old.outer.items → Err (Nested, old.location) ≡ with_lines (remaining_in m i.source) (end_mark_of i) (remaining_of m old)
entered_none m old i h = grind (arith, common_steps, nat_tests, marks_all)

-- ---- Closed inputs.

-- the innermost of the outer inputs becomes the innermost input
pub dropped : (m : Files) (old new : List Input) (g top : Input) → old ≡ new ++ g ∷ [] → top ≡ g → input_items m top ++ outer_items m new ≡ outer_items m old
dropped m old new g top e t = ap (λ x. input_items m x ++ outer_items m new) t ∙ sym (ap (outer_items m) e ∙ outside_push m new g)

-- ---- The end of the innermost input.

pub not_closed : (m : Files) (r : InputStack) (n : ℕ) → remaining_in m r.top.source ≡ [] → r.top.conditions ≢ n → Err (NotClosed, r.location) ≡ without_end_mark n r.location (remaining_of m r).items
not_closed m r n e h = grind (arith, common_steps)

pub closes : (m : Files) (old new : InputStack) (n : ℕ) (more : Bool) → remaining_in m old.top.source ≡ [] → old.top.conditions ≡ n → (if more then (remaining_of m new).items else []) ≡ outer_items m old.outer.items → new.location ≡ restored_location old.location old.top.return_location → Ok ((if more then (remaining_of m new).items else []), new.location) ≡ without_end_mark n old.location (remaining_of m old).items
closes m old new n more e h i p = grind (arith, common_steps)

-- the location that is restored doesn't change the remaining items
pub same_items : (m : Files) (a b : InputStack) (more : Bool) (is : List Item) → b.top ≡ a.top → b.outer ≡ a.outer → (if more then (remaining_of m a).items else []) ≡ is → (if more then (remaining_of m b).items else []) ≡ is
same_items m a b more is t o h = ap (λ x. if more then input_items m x ++ outer_items m b.outer.items else []) t ∙ ap (λ x. if more then input_items m a.top ++ outer_items m x.items else []) o ∙ h

-- ---- Leaving the innermost macro call.

outside_lines : (is js : List Item) (p : SourceLocation) → AreLines is → after_innermost_macro (is ++ js) p ≡ after_innermost_macro js p
outside_lines [] js p h = refl
outside_lines (file_line n b ∷ is) js p h = outside_lines is js p h
outside_lines (body_line e ts ∷ is) js p h = outside_lines is js p h
outside_lines (label_rest ts ∷ is) js p h = absurd h
outside_lines (elseif_rest ts ∷ is) js p h = absurd h
outside_lines (end_mark x ∷ is) js p h = absurd h

abbrev Out : Type 0
Out = Option (ℕ × List Item × SourceLocation)

one_out : (m : Files) (r : InputStack) (p : SourceLocation) (b : Bool) → is_call r.top.source ≡ b → after_innermost_macro (remaining_of m r).items p ≡ (if b then Some (r.top.conditions, outer_items m r.outer.items, restored_location p r.top.return_location) else after_innermost_macro (outer_items m r.outer.items) (restored_location p r.top.return_location))
one_out m r p b e = grind (arith, common_steps, own_split, outside_lines, lines_left)

-- an input that is no macro call is closed, and there are outer inputs
pub goes_out : (m : Files) (old new : InputStack) (p q : SourceLocation) (x : Out) → is_call old.top.source ≡ false → (if true then (remaining_of m new).items else []) ≡ outer_items m old.outer.items → q ≡ restored_location p old.top.return_location → after_innermost_macro (remaining_of m old).items p ≡ x → after_innermost_macro (remaining_of m new).items q ≡ x
goes_out m old new p q x c i e h = ap (λ l. after_innermost_macro l q) i ∙ ap (after_innermost_macro (outer_items m old.outer.items)) e ∙ sym (one_out m old p false c) ∙ h

-- there is no outer input
pub none_out : (m : Files) (old : InputStack) (p : SourceLocation) (x : Out) → is_call old.top.source ≡ false → [] ≡ outer_items m old.outer.items → after_innermost_macro (remaining_of m old).items p ≡ x → x ≡ None
none_out m old p x c i h = sym h ∙ one_out m old p false c ∙ ap (λ l. after_innermost_macro l (restored_location p old.top.return_location)) (sym i)

-- a macro call is closed
pub is_out : (m : Files) (old new : InputStack) (p : SourceLocation) (x : Out) (more : Bool) → is_call old.top.source ≡ true → (if more then (remaining_of m new).items else []) ≡ outer_items m old.outer.items → new.location ≡ restored_location p old.top.return_location → after_innermost_macro (remaining_of m old).items p ≡ x → x ≡ Some (old.top.conditions, (if more then (remaining_of m new).items else []), new.location)
is_out m old new p x more c i e h =
    sym h ∙ one_out m old p true c ∙ ap (λ l. Some (old.top.conditions, l, restored_location p old.top.return_location)) (sym i) ∙ ap (λ q. Some (old.top.conditions, (if more then (remaining_of m new).items else []), q)) (sym e)

-- ---- The next line of the innermost input is the next line of the remaining input.

pub one_taken : (before after tail : List Item) (n : NextLine) (r : ℕ) (p : SourceLocation) (line : StoredLine) → HasNextLine before n → (n ≡ AtEnd → ⊥) → ReadsStoredLine before (Ok line) after → ReadsFirstItem (before ++ tail) (suc r) p (Ok (Some (tokens_in line), remaining_input (after ++ tail) r (location_after_next n p)))
one_taken before after tail AtEnd r p line c h t = absurd (h refl)
one_taken before after tail (Numbered n) r p line (bytes, (others, e)) h (i, f, o) =
    let same : i ∷ after ≡ file_line n bytes ∷ others = sym f ∙ e in
    let item : i ≡ file_line n bytes = cc in
    let rest : others ≡ after = cc in
    let O : Item → Type 0 = λ x. HasLineTokens x (Ok (tokens_in line)) in
    let P : List Item → Type 0 = λ l. ReadsFirstItem (l ++ tail) (suc r) p (Ok (Some (tokens_in line), remaining_input (after ++ tail) r (location_at p n))) in
    subst P (sym e) (Ok (tokens_in line), subst O item o, ap (λ l. Ok (Some (tokens_in line), remaining_input (l ++ tail) r (location_at p n))) (sym rest))
one_taken before after tail Replayed r p line (x, (ts, (others, e))) h (i, f, o) = grind (arith, common_steps)

pub one_refused : (before after tail : List Item) (n : NextLine) (r : ℕ) (p : SourceLocation) (f : ExpandFault) → HasNextLine before n → (n ≡ AtEnd → ⊥) → ReadsStoredLine before (Err f) after → Unless (is_system_error f) (ReadsFirstItem (before ++ tail) (suc r) p (Err (f, location_after_next n p)))
one_refused before after tail n r p f c h t = by (is_system_error f) t
  where
    go : (n : NextLine) → HasNextLine before n → (n ≡ AtEnd → ⊥) → ((i : Item) × ((others : List Item) × (before ≡ i ∷ others) × HasLineTokens i (Err f))) → ReadsFirstItem (before ++ tail) (suc r) p (Err (f, location_after_next n p))
    go AtEnd c h t = absurd (h refl)
    go (Numbered n) (bytes, (others, e)) h (i, (rest, g, o)) =
        let same : i ∷ rest ≡ file_line n bytes ∷ others = sym g ∙ e in
        let item : i ≡ file_line n bytes = cc in
        let O : Item → Type 0 = λ x. HasLineTokens x (Err f) in
        let P : List Item → Type 0 = λ l. ReadsFirstItem (l ++ tail) (suc r) p (Err (f, location_at p n)) in
        subst P (sym e) (Err f, subst O item o, refl)
    go Replayed (x, (ts, (others, e))) h (i, (rest, g, o)) =
        let same : i ∷ rest ≡ body_line x ts ∷ others = sym g ∙ e in
        let item : i ≡ body_line x ts = cc in
        let O : Item → Type 0 = λ y. HasLineTokens y (Err f) in
        let P : List Item → Type 0 = λ l. ReadsFirstItem (l ++ tail) (suc r) p (Err (f, p)) in
        subst P (sym e) (Err f, subst O item o, refl)

    by : (b : Bool) → Unless b ((i : Item) × ((others : List Item) × (before ≡ i ∷ others) × HasLineTokens i (Err f))) → Unless b (ReadsFirstItem (before ++ tail) (suc r) p (Err (f, location_after_next n p)))
    by true k = tt
    by false k = go n c h k

-- ---- The input stack.

-- the remaining items, with the lines of the innermost input first
pub parted : (m : Files) (r : InputStack) → input_items m r.top ++ outer_items m r.outer.items ≡ remaining_in m r.top.source ++ (end_mark (end_mark_of r.top) ∷ outer_items m r.outer.items)
parted m r = append_assoc (remaining_in m r.top.source) (end_mark (end_mark_of r.top) ∷ []) (outer_items m r.outer.items)

pub told_taken : (o : Option Files) (old new : InputStack) (mid : LineSource) (n : NextLine) (line : StoredLine) → IfSome o (λ m. HasNextLine (remaining_in m mid) n) → IfSome o (λ m. remaining_in m mid ≡ remaining_in m old.top.source) → (n ≡ AtEnd → ⊥) → IfSome o (λ m. ReadsStoredLine (remaining_in m mid) (Ok line) (remaining_in m new.top.source)) → end_mark_of new.top ≡ end_mark_of old.top → new.outer ≡ old.outer → new.location ≡ location_after_next n old.location → suc new.budget ≡ old.budget → IfSome o (λ m. ReadsNextLine (remaining_of m old) (Ok (Some (tokens_in line), remaining_of m new)))
told_taken x old new mid n line c s h t k u p r = grind (arith, common_steps, one_taken, parted)

pub told_refused : (o : Option Files) (old : InputStack) (mid last : LineSource) (location : SourceLocation) (budget : ℕ) (n : NextLine) (f : ExpandFault) → IfSome o (λ m. HasNextLine (remaining_in m mid) n) → IfSome o (λ m. remaining_in m mid ≡ remaining_in m old.top.source) → (n ≡ AtEnd → ⊥) → IfSome o (λ m. ReadsStoredLine (remaining_in m mid) (Err f) (remaining_in m last)) → location ≡ location_after_next n old.location → suc budget ≡ old.budget → IfSome o (λ m. Unless (is_system_error f) (ReadsNextLine (remaining_of m old) (Err (f, location))))
told_refused None old mid last location budget n f c s h t p r = tt
told_refused (Some m) old mid last location budget n f c s h t p r =
    let tail = end_mark (end_mark_of old.top) ∷ outer_items m old.outer.items in
    let one = one_refused (remaining_in m mid) (remaining_in m last) tail n budget old.location f c h t in
    let before : remaining_in m mid ++ tail ≡ (remaining_of m old).items = ap (λ l. l ++ tail) s ∙ sym (parted m old) in
    let P : List Item → Type 0 = λ l. Unless (is_system_error f) (ReadsFirstItem l (suc budget) old.location (Err (f, location_after_next n old.location))) in
    let Q : ℕ → Type 0 = λ x. Unless (is_system_error f) (ReadsFirstItem (remaining_of m old).items x old.location (Err (f, location_after_next n old.location))) in
    let S : SourceLocation → Type 0 = λ q. Unless (is_system_error f) (ReadsFirstItem (remaining_of m old).items old.budget old.location (Err (f, q))) in
    subst S (sym p) (subst Q r (subst P before one))

-- a line of a file
pub written_taken : (m : Files) (old new : InputStack) (n : ℕ) (ts : List Lexeme) → ReadsFileLine (remaining_in m old.top.source) n ts (remaining_in m new.top.source) → end_mark_of new.top ≡ end_mark_of old.top → new.outer ≡ old.outer → new.location ≡ location_at old.location n → suc new.budget ≡ old.budget → ReadsNextLine (remaining_of m old) (Ok (Some ts, remaining_of m new))
written_taken m old new n ts (bytes, e, read) k u p r =
    let tail = end_mark (end_mark_of old.top) ∷ outer_items m old.outer.items in
    let after = remaining_in m new.top.source in
    let one : ReadsFirstItem ((file_line n bytes ∷ after) ++ tail) (suc new.budget) old.location (Ok (Some ts, remaining_input (after ++ tail) new.budget (location_at old.location n))) = (Ok ts, (Ok ts, read, refl), refl) in
    let items : after ++ tail ≡ (remaining_of m new).items = ap (λ x. after ++ (end_mark x ∷ outer_items m old.outer.items)) (sym k) ∙ ap (λ x. after ++ (end_mark (end_mark_of new.top) ∷ outer_items m x.items)) (sym u) ∙ sym (parted m new) in
    let before : (file_line n bytes ∷ after) ++ tail ≡ (remaining_of m old).items = ap (λ l. l ++ tail) (sym e) ∙ sym (parted m old) in
    let P : List Item → Type 0 = λ l. ReadsFirstItem l (suc new.budget) old.location (Ok (Some ts, remaining_input (after ++ tail) new.budget (location_at old.location n))) in
    let Q : ℕ → Type 0 = λ x. ReadsFirstItem (remaining_of m old).items x old.location (Ok (Some ts, remaining_input (after ++ tail) new.budget (location_at old.location n))) in
    let R : List Item → Type 0 = λ l. ReadsFirstItem (remaining_of m old).items old.budget old.location (Ok (Some ts, remaining_input l new.budget (location_at old.location n))) in
    let S : SourceLocation → Type 0 = λ q. ReadsFirstItem (remaining_of m old).items old.budget old.location (Ok (Some ts, remaining_input (remaining_of m new).items new.budget q)) in
    subst S (sym p) (subst R items (subst Q r (subst P before one)))
