-- The first line of the unread bytes of an open file.
use Rattle.std.proofs.lemmas.Grind.{common_steps}
use Rattle.std.proofs.Common.{◌≡◌, ℕ, ◌+◌, ◌-◌, ◌<◌, ◌≤◌, List, [], ◌++◌, length, take, drop, min, refl, sym, ap, ◌∙◌, subst, arith, Option, Some, None, IfSome, Bool, true, false, nat_le, nat_lt, get_or, suc, ◌∷◌, length-append, append_assoc, add-one, one-add, length-drop, Ok}
use Rattle.std.proofs.lemmas.Bool.Decides.{nat_tests}
use Rattle.std.proofs.lemmas.List.{drop_all, drop-drop, drop-take, take-append-drop, length-take, take-take, take_at, append-nil}
use Rattle.base65.specs.Store.{Files}
use Rattle.expand65.specs.Lines.{IsPiece, bytes_of, readable_bytes, is_within_line, FirstLineIsTooLong, without_return, AppendsPiece, rest_of, is_line_end, is_return, prepend_byte, lines_of}
use Rattle.expand65.specs.LineStart.{first_satisfies}
use Rattle.std.specs.Prelude.{unwrap_or}
use Rattle.std.specs.List.{prefix_len}
use Rattle.std.proofs.lemmas.List.Sums.{prefix_len_is}
use Rattle.memchr.specs.Find.{IsFirstByte, is_byte}
use Rattle.std.proofs.Math.Seq.{drop-append-add}
use Rattle.expand65.specs.declared.file.OpenFile.{OpenFile}

-- ---- The unread bytes after a refill of the buffer.

-- a piece and the bytes after it are the unread bytes up to the maximum size
within_limit : (bs : List ℕ) (at k n : ℕ) → n ≤ k → take n (drop at bs) ++ drop (at + n) (take (at + k) bs) ≡ drop at (take (at + k) bs)
within_limit bs at k n h =
    let all : drop at (take (at + k) bs) ≡ take k (drop at bs) = drop-take at k bs in
    let front : take n (take k (drop at bs)) ≡ take n (drop at bs) = take-take n k (drop at bs) h in
    let return_location : drop (at + n) (take (at + k) bs) ≡ drop n (take k (drop at bs)) = sym (drop-drop n at (take (at + k) bs)) ∙ ap (drop n) all in
    ap (λ l. l ++ drop (at + n) (take (at + k) bs)) (sym front) ∙ ap (λ l. take n (take k (drop at bs)) ++ l) return_location ∙ take-append-drop n (take k (drop at bs)) ∙ sym all

pub next_piece : (bs : List ℕ) (limit at max_len n : ℕ) (piece : List ℕ) → max_len ≤ limit - at → IsPiece (drop at bs) max_len n piece → piece ++ drop (at + n) (take limit bs) ≡ drop at (take limit bs)
next_piece bs limit at max_len n piece h p = rw p.pending (by (nat_le at limit) refl)
  where
    by : (b : Bool) → nat_le at limit ≡ b → take n (drop at bs) ++ drop (at + n) (take limit bs) ≡ drop at (take limit bs)
    by true e =
        let le : at ≤ limit = grind (arith, nat_tests, e) in
        let few : n ≤ limit - at = omega (arith, p.few) in
        let P : ℕ → Type 0 = λ l. take n (drop at bs) ++ drop (at + n) (take l bs) ≡ drop at (take l bs) in
        let same : at + (limit - at) ≡ limit = omega arith in
        subst P same (within_limit bs at (limit - at) n few)
    by false e =
        let gt : limit < at = grind (arith, nat_tests, e) in
        let none : 0 ≡ n = omega (arith, p.few) in
        let P : ℕ → Type 0 = λ k. take k (drop at bs) ++ drop (at + k) (take limit bs) ≡ drop at (take limit bs) in
        let same : at + 0 ≡ at = omega arith in
        subst P none (ap (λ k. drop k (take limit bs)) same)

-- an empty piece: no bytes are unread
pub no_piece : (bs : List ℕ) (limit at max_len n : ℕ) (piece : List ℕ) → (at < limit → 0 < max_len) → IsPiece (drop at bs) max_len n piece → n ≡ 0 → drop (at + n) (take limit bs) ≡ []
no_piece bs limit at max_len n piece h p e = drop_all (at + n) (take limit bs) (by (nat_lt at limit) refl)
  where
    by : (b : Bool) → nat_lt at limit ≡ b → length (take limit bs) ≤ at + n
    by true lt =
        let less : at < limit = grind (arith, nat_tests, lt) in
        let rest : drop at bs ≡ [] = p.ends e (h less) in
        let count : length bs - at ≡ 0 = sym (length-drop at bs) ∙ ap length rest in
        omega (arith, count, length-take limit bs)
    by false ge =
        let more : limit ≤ at = grind (arith, nat_tests, ge) in
        omega (arith, more, length-take limit bs)

-- ---- If the store's files are known.

pub told_kept : (o : Option Files) (name old : List ℕ) (at next max_len n : ℕ) (piece : List ℕ) → length old ≤ at → max_len ≤ min 4096 (16777216 - next) → IfSome o (λ m. IsPiece (drop next (bytes_of m name)) max_len n piece) → IfSome o (λ m. drop 0 piece ++ drop (next + n) (readable_bytes m name) ≡ drop at old ++ drop next (readable_bytes m name))
told_kept None name old at next max_len n piece h w r = tt
told_kept (Some m) name old at next max_len n piece h w r =
    let none : drop at old ≡ [] = drop_all at old h in
    next_piece (bytes_of m name) 16777216 next max_len n piece (omega (arith, w)) r ∙ ap (λ l. l ++ drop next (readable_bytes m name)) (sym none)

pub told_none : (o : Option Files) (name : List ℕ) (next max_len n : ℕ) (piece : List ℕ) → (next < 16777216 → 0 < max_len) → length piece ≡ n → IfSome o (λ m. IsPiece (drop next (bytes_of m name)) max_len n piece) → IfSome o (λ m. piece ≡ [] → drop 0 piece ++ drop (next + n) (readable_bytes m name) ≡ [])
told_none None name next max_len n piece w l r = tt
told_none (Some m) name next max_len n piece w l r = λ e. rw e (no_piece (bytes_of m name) 16777216 next max_len n piece w r (sym l ∙ ap length e))

-- ---- The end of the first line.

stays_inside : (b : ℕ) → (is_byte 10 b ≡ true → ⊥) → is_within_line b ≡ true
stays_inside b h = grind (arith, common_steps)

ends_line : (b : ℕ) → is_byte 10 b ≡ true → is_within_line b ≡ false
ends_line b e = rw e refl

-- the index of the first LF, or the length
pub line_end : (bs : List ℕ) (r : Option ℕ) → IsFirstByte (is_byte 10) bs r → prefix_len is_within_line bs ≡ unwrap_or r (length bs)
line_end bs None h = prefix_len_is is_within_line bs (length bs) 0 (omega arith) (λ k l. stays_inside (get_or bs k 0) (h k (omega arith) l)) (λ l. absurd (omega (arith, l)))
line_end bs (Some n) h = prefix_len_is is_within_line bs n 0 (omega (arith, h.0.high)) (λ k l. stays_inside (get_or bs k 0) (h.0.before k (omega arith) l)) (λ l. ends_line (get_or bs n 0) h.1)

pub within : (bs : List ℕ) (r : Option ℕ) → IsFirstByte (is_byte 10) bs r → unwrap_or r (length bs) ≤ length bs
within bs x h = grind (arith, common_steps)

-- ---- The first line of bytes.

lines_end : (b : ℕ) (bs : List ℕ) → is_line_end b ≡ true → lines_of (b ∷ bs) ≡ [] ∷ lines_of bs
lines_end b bs e = rw e refl

lines_return : (b : ℕ) (bs : List ℕ) → is_line_end b ≡ false → is_return b ≡ true → first_satisfies is_line_end bs ≡ true → lines_of (b ∷ bs) ≡ lines_of bs
lines_return b bs e r h = rw (e, r, h) refl

lines_more : (b : ℕ) (bs : List ℕ) → is_line_end b ≡ false → is_return b ≡ false → lines_of (b ∷ bs) ≡ prepend_byte b (lines_of bs)
lines_more b bs e r = rw (e, r) refl

lines_inside : (b c : ℕ) (bs : List ℕ) → is_line_end b ≡ false → is_line_end c ≡ false → lines_of (b ∷ c ∷ bs) ≡ prepend_byte b (lines_of (c ∷ bs))
lines_inside b c bs e f = grind (arith, common_steps)

prefix_end : (b : ℕ) (bs : List ℕ) → is_line_end b ≡ true → prefix_len is_within_line (b ∷ bs) ≡ 0
prefix_end b bs e = rw e refl

prefix_more : (b : ℕ) (bs : List ℕ) → is_line_end b ≡ false → prefix_len is_within_line (b ∷ bs) ≡ suc (prefix_len is_within_line bs)
prefix_more b bs e = rw e (one-add (prefix_len is_within_line bs))

-- a line without a line end
pub last_line : (b : ℕ) (bs : List ℕ) → prefix_len is_within_line (b ∷ bs) ≡ length (b ∷ bs) → lines_of (b ∷ bs) ≡ (b ∷ bs) ∷ []
last_line b [] h = grind (arith, common_steps, prefix_end)
last_line b (c ∷ bs) h = grind (arith, common_steps, (last_line c bs), prefix_end, prefix_more, lines_inside)

-- ---- A CR at the end.

return_alone : (b : ℕ) → is_return b ≡ true → without_return (b ∷ []) ≡ []
return_alone b r = rw r refl

no_return_alone : (b : ℕ) → is_return b ≡ false → without_return (b ∷ []) ≡ b ∷ []
no_return_alone b r = rw r refl

return_after : (b c : ℕ) (bs : List ℕ) → without_return (b ∷ c ∷ bs) ≡ b ∷ without_return (c ∷ bs)
return_after b c bs = grind (arith, common_steps)

-- ---- The first line and the rest.

-- the bytes before the first line end, and the bytes after it
front : List ℕ → List ℕ
front bs = take (prefix_len is_within_line bs) bs

rest : List ℕ → List ℕ
rest bs = drop (suc (prefix_len is_within_line bs)) bs

front_more : (b : ℕ) (bs : List ℕ) → is_line_end b ≡ false → front (b ∷ bs) ≡ b ∷ front bs
unfolding front
front_more b bs e = ap (λ n. take n (b ∷ bs)) (prefix_more b bs e)

rest_more : (b : ℕ) (bs : List ℕ) → is_line_end b ≡ false → rest (b ∷ bs) ≡ rest bs
unfolding rest
rest_more b bs e = ap (λ n. drop (suc n) (b ∷ bs)) (prefix_more b bs e)

front_end : (b : ℕ) (bs : List ℕ) → is_line_end b ≡ true → front (b ∷ bs) ≡ []
unfolding front
front_end b bs e = ap (λ n. take n (b ∷ bs)) (prefix_end b bs e)

rest_end : (b : ℕ) (bs : List ℕ) → is_line_end b ≡ true → rest (b ∷ bs) ≡ bs
unfolding rest
rest_end b bs e = ap (λ n. drop (suc n) (b ∷ bs)) (prefix_end b bs e)

-- a byte before a line that ends
one_more : (b c : ℕ) (bs : List ℕ) → is_line_end b ≡ false → lines_of (c ∷ bs) ≡ without_return (front (c ∷ bs)) ∷ lines_of (rest (c ∷ bs)) → lines_of (b ∷ c ∷ bs) ≡ without_return (b ∷ front (c ∷ bs)) ∷ lines_of (rest (c ∷ bs))
one_more b c bs e next = go (is_line_end c) (is_return b) refl refl
  where
    go : (t r : Bool) → is_line_end c ≡ t → is_return b ≡ r → lines_of (b ∷ c ∷ bs) ≡ without_return (b ∷ front (c ∷ bs)) ∷ lines_of (rest (c ∷ bs))
    go true true f g = lines_return b (c ∷ bs) e g f ∙ next ∙ rw (front_end c bs f, return_alone b g) refl
    go true false f g = lines_more b (c ∷ bs) e g ∙ ap (prepend_byte b) next ∙ rw (front_end c bs f, no_return_alone b g) refl
    go false r f g = lines_inside b c bs e f ∙ ap (prepend_byte b) next ∙ rw (front_more c bs f, return_after b c (front bs)) refl

-- a line that ends
ended : (bs : List ℕ) → prefix_len is_within_line bs < length bs → lines_of bs ≡ without_return (front bs) ∷ lines_of (rest bs)
ended [] h = absurd (omega arith)
ended (b ∷ []) h = go (is_line_end b) refl
  where
    go : (t : Bool) → is_line_end b ≡ t → lines_of (b ∷ []) ≡ without_return (front (b ∷ [])) ∷ lines_of (rest (b ∷ []))
    go true e = lines_end b [] e ∙ rw (front_end b [] e, rest_end b [] e) refl
    go false e = let x = prefix_more b [] e in absurd (omega arith)
ended (b ∷ c ∷ bs) h = go (is_line_end b) refl (ended (c ∷ bs))
  where
    go : (t : Bool) → is_line_end b ≡ t → (prefix_len is_within_line (c ∷ bs) < length (c ∷ bs) → lines_of (c ∷ bs) ≡ without_return (front (c ∷ bs)) ∷ lines_of (rest (c ∷ bs))) → lines_of (b ∷ c ∷ bs) ≡ without_return (front (b ∷ c ∷ bs)) ∷ lines_of (rest (b ∷ c ∷ bs))
    go true e next = lines_end b (c ∷ bs) e ∙ rw (front_end b (c ∷ bs) e, rest_end b (c ∷ bs) e) refl
    go false e next =
        let x = prefix_more b (c ∷ bs) e in
        one_more b c bs e (next (omega arith)) ∙ rw (front_more b (c ∷ bs) e, rest_more b (c ∷ bs) e) refl

pub ended_line : (bs : List ℕ) → prefix_len is_within_line bs < length bs → lines_of bs ≡ without_return (take (prefix_len is_within_line bs) bs) ∷ lines_of (drop (suc (prefix_len is_within_line bs)) bs)
unfolding front rest
ended_line bs h = ended bs h

pub ended_there : (bs : List ℕ) (n : ℕ) → n ≡ prefix_len is_within_line bs → n < length bs → lines_of bs ≡ without_return (take n bs) ∷ lines_of (drop (n + 1) bs)
ended_there bs n e lt = let P : ℕ → Type 0 = λ k. lines_of bs ≡ without_return (take k bs) ∷ lines_of (drop (k + 1) bs) in subst P (sym e) (rw add-one (ended_line bs (omega arith)))

-- ---- A line that is read in pieces.

-- these bytes contain no line end
abbrev pub IsPart : List ℕ → Type 0
IsPart bs = prefix_len is_within_line bs ≡ length bs

pub prefix_append : (front more : List ℕ) → IsPart front → prefix_len is_within_line (front ++ more) ≡ length front + prefix_len is_within_line more
prefix_append [] more h = omega arith
prefix_append (b ∷ bs) more h = grind (arith, common_steps, (prefix_append bs more), prefix_end, prefix_more)

-- appending to a part of a line
pub part_append : (front more : List ℕ) → IsPart front → IsPart more → IsPart (front ++ more)
part_append front more h k = prefix_append front more h ∙ omega (arith, length-append front more, k)

-- at the end of the line
pub part_ends : (front more : List ℕ) (b : ℕ) → IsPart front → is_line_end b ≡ true → lines_of (front ++ b ∷ more) ≡ without_return front ∷ lines_of more
part_ends front more b h e =
    let n : length front ≡ prefix_len is_within_line (front ++ b ∷ more) = sym (prefix_append front (b ∷ more) h ∙ ap (λ k. length front + k) (prefix_end b more e) ∙ omega arith) in
    let lt : length front < length (front ++ b ∷ more) = omega (arith, length-append front (b ∷ more)) in
    let gone : drop (length front + 1) (front ++ b ∷ more) ≡ more = drop-append-add front (b ∷ more) 1 in
    ended_there (front ++ b ∷ more) (length front) n lt ∙ rw (take_at front (b ∷ more) (length front) refl, gone) refl

-- at the end of the file
pub part_is_last : (front : List ℕ) → (front ≡ [] → ⊥) → IsPart front → lines_of front ≡ front ∷ []
part_is_last [] some h = absurd (some refl)
part_is_last (b ∷ bs) some h = last_line b bs h

almost : (line : List ℕ) → length line ≤ length (without_return line) + 1
almost line = grind (arith, common_steps)

prefix_within : (bs : List ℕ) → prefix_len is_within_line bs ≤ length bs
prefix_within [] = omega arith
prefix_within (b ∷ bs) = grind (arith, common_steps, (prefix_within bs), prefix_end, prefix_more)

whole : (bs : List ℕ) → 0 < length bs → prefix_len is_within_line bs ≡ length bs → lines_of bs ≡ bs ∷ []
whole [] some h = absurd (omega arith)
whole (b ∷ bs) some h = last_line b bs h

-- a line that is too long, whatever follows
pub part_is_long : (front more : List ℕ) → IsPart front → 4097 < length front → FirstLineIsTooLong (lines_of (front ++ more))
part_is_long front more h long = by (nat_lt (prefix_len is_within_line (front ++ more)) (length (front ++ more))) refl
  where
    by : (t : Bool) → nat_lt (prefix_len is_within_line (front ++ more)) (length (front ++ more)) ≡ t → FirstLineIsTooLong (lines_of (front ++ more))
    by true e =
        let all = front ++ more in
        let n = prefix_len is_within_line all in
        let lt : prefix_len is_within_line (front ++ more) < length (front ++ more) = grind (arith, nat_tests, e) in
        let big : length front ≤ prefix_len is_within_line (front ++ more) = omega (arith, prefix_append front more h) in
        let len : length (take (prefix_len is_within_line (front ++ more)) (front ++ more)) ≡ prefix_len is_within_line (front ++ more) = omega (arith, length-take (prefix_len is_within_line (front ++ more)) (front ++ more)) in
        let less = almost (take (prefix_len is_within_line (front ++ more)) (front ++ more)) in
        (without_return (take (prefix_len is_within_line (front ++ more)) (front ++ more)), (lines_of (drop (prefix_len is_within_line (front ++ more) + 1) (front ++ more)), ended_there (front ++ more) (prefix_len is_within_line (front ++ more)) refl lt, omega (arith, less, len, big, long)))
    by false e =
        let ge : length (front ++ more) ≤ prefix_len is_within_line (front ++ more) = grind (arith, nat_tests, e) in
        let le : prefix_len is_within_line (front ++ more) ≤ length (front ++ more) = prefix_within (front ++ more) in
        let all : length (front ++ more) ≡ length front + length more = length-append front more in
        let big : 4096 < length (front ++ more) = omega (arith, all, long) in
        (front ++ more, ([], whole (front ++ more) (omega (arith, big)) (omega (arith, ge, le)), big))

-- the bytes before the first line end
pub front_is_part : (bs : List ℕ) → IsPart (take (prefix_len is_within_line bs) bs)
front_is_part [] = refl
front_is_part (b ∷ bs) = grind (arith, common_steps, (front_is_part bs), prefix_end, prefix_more)

-- ---- A buffered piece of a line.

-- the piece is too long
pub piece_too_long : (line here following : List ℕ) (n : ℕ) → IsPart line → n ≡ prefix_len is_within_line here → n ≤ length here → 4097 < length line + n → FirstLineIsTooLong (lines_of (line ++ (here ++ following)))
piece_too_long line here following n h e le long =
    let P : ℕ → Type 0 = λ k. IsPart (take k here) in
    let piece : IsPart (take n here) = subst P (sym e) (front_is_part here) in
    let len : length (take n here) ≡ n = omega (arith, length-take n here) in
    let more : 4097 < length (line ++ take n here) = omega (arith, length-append line (take n here), len, long) in
    let whole : (line ++ take n here) ++ (drop n here ++ following) ≡ line ++ (here ++ following) =
    append_assoc line (take n here) (drop n here ++ following) ∙ ap (λ l. line ++ l) (sym (append_assoc (take n here) (drop n here) following) ∙ ap (λ l. l ++ following) (take-append-drop n here)) in
    let Q : List ℕ → Type 0 = λ l. FirstLineIsTooLong (lines_of l) in
    subst Q whole (part_is_long (line ++ take n here) (drop n here ++ following) (part_append line (take n here) h piece) more)

-- the byte after the bytes before the first line end is a line end
pub stops : (bs : List ℕ) (b : ℕ) (cs : List ℕ) → drop (prefix_len is_within_line bs) bs ≡ b ∷ cs → is_line_end b ≡ true
stops [] b cs e = absurd cc
stops (a ∷ bs) b cs e = grind (arith, common_steps, (stops bs b cs), prefix_end, prefix_more)

-- the piece ends the line
pub piece_ends : (line here following : List ℕ) (n : ℕ) → IsPart line → n ≡ prefix_len is_within_line here → n < length here → lines_of (line ++ (here ++ following)) ≡ without_return (line ++ take n here) ∷ lines_of (drop (n + 1) here ++ following)
piece_ends line here following n h e lt =
    by (drop n here) refl
  where
    by : (l : List ℕ) → drop n here ≡ l → lines_of (line ++ (here ++ following)) ≡ without_return (line ++ take n here) ∷ lines_of (drop (n + 1) here ++ following)
    by [] f = absurd (omega (arith, length-drop n here, ap length f))
    by (b ∷ bs) f =
        let Q : ℕ → Type 0 = λ k. drop k here ≡ b ∷ bs in
        let at_end : is_line_end b ≡ true = stops here b bs (subst Q e f) in
        let split : here ≡ take n here ++ b ∷ bs = sym (take-append-drop n here) ∙ ap (λ l. take n here ++ l) f in
        let gone : drop (n + 1) here ≡ bs = sym (drop-drop 1 n here) ∙ ap (drop 1) f in
        let P : ℕ → Type 0 = λ k. IsPart (take k here) in
        let piece : IsPart (take n here) = subst P (sym e) (front_is_part here) in
        let all : line ++ (here ++ following) ≡ (line ++ take n here) ++ b ∷ (bs ++ following) =
        ap (λ l. line ++ (l ++ following)) split ∙ ap (λ l. line ++ l) (append_assoc (take n here) (b ∷ bs) following) ∙ sym (append_assoc line (take n here) (b ∷ (bs ++ following))) in
        ap lines_of all ∙ part_ends (line ++ take n here) (bs ++ following) b (part_append line (take n here) h piece) at_end ∙ ap (λ l. without_return (line ++ take n here) ∷ lines_of (l ++ following)) (sym gone)

pub piece_is_part : (line here : List ℕ) (n : ℕ) → IsPart line → n ≡ prefix_len is_within_line here → IsPart (line ++ take n here)
piece_is_part line here n h e = let P : ℕ → Type 0 = λ k. IsPart (take k here) in part_append line (take n here) h (subst P (sym e) (front_is_part here))

-- nonempty bytes have a first line
pub some_line : (b : ℕ) (bs : List ℕ) → (line : List ℕ) × ((others : List (List ℕ)) × (lines_of (b ∷ bs) ≡ line ∷ others))
some_line b bs = by (nat_lt (prefix_len is_within_line (b ∷ bs)) (length (b ∷ bs))) refl
  where
    by : (t : Bool) → nat_lt (prefix_len is_within_line (b ∷ bs)) (length (b ∷ bs)) ≡ t → (line : List ℕ) × ((others : List (List ℕ)) × (lines_of (b ∷ bs) ≡ line ∷ others))
    by true e =
        let lt : prefix_len is_within_line (b ∷ bs) < length (b ∷ bs) = grind (arith, nat_tests, e) in
        (without_return (take (prefix_len is_within_line (b ∷ bs)) (b ∷ bs)), (lines_of (drop (prefix_len is_within_line (b ∷ bs) + 1) (b ∷ bs)), ended_there (b ∷ bs) (prefix_len is_within_line (b ∷ bs)) refl lt))
    by false e =
        let ge : length (b ∷ bs) ≤ prefix_len is_within_line (b ∷ bs) = grind (arith, nat_tests, e) in
        let le : prefix_len is_within_line (b ∷ bs) ≤ length (b ∷ bs) = prefix_within (b ∷ bs) in
        (b ∷ bs, ([], whole (b ∷ bs) (omega arith) (omega (arith, ge, le))))

-- ---- A line of an open file that is read in pieces.

pub moved_to : (P : Files → Type 0) (o p : Option Files) → p ≡ o → IfSome p P → IfSome o P
moved_to P o p e w = let Q : Option Files → Type 0 = λ q. IfSome q P in subst Q e w

pub line_ends : (o : Option Files) (first self new : OpenFile) (line after : List ℕ) → IfSome o (λ m. line ++ rest_of m self ≡ rest_of m first) → new.name ≡ self.name → new.next ≡ self.next → ((b : List ℕ) → AppendsPiece line (drop self.at self.buffer.items) b (Ok true) after (drop new.at new.buffer.items)) → IfSome o (λ m. lines_of (rest_of m first) ≡ without_return after ∷ lines_of (rest_of m new))
line_ends x first self new line after h e n t = grind (arith, common_steps)

pub line_goes_on : (o : Option Files) (first self new : OpenFile) (line after : List ℕ) → IfSome o (λ m. line ++ rest_of m self ≡ rest_of m first) → new.name ≡ self.name → new.next ≡ self.next → ((b : List ℕ) → AppendsPiece line (drop self.at self.buffer.items) b (Ok false) after (drop new.at new.buffer.items)) → IfSome o (λ m. after ++ rest_of m new ≡ rest_of m first)
line_goes_on x first self new line after h e n t = grind (arith, common_steps)

pub with_more : (o : Option Files) (first mid new : OpenFile) (after : List ℕ) → IfSome o (λ m. after ++ rest_of m mid ≡ rest_of m first) → IfSome o (λ m. rest_of m new ≡ rest_of m mid) → IfSome o (λ m. after ++ rest_of m new ≡ rest_of m first)
with_more x first mid new after h k = grind (arith, common_steps)

pub line_is_last : (o : Option Files) (first mid new : OpenFile) (after : List ℕ) → 0 < length after → IsPart after → IfSome o (λ m. after ++ rest_of m mid ≡ rest_of m first) → IfSome o (λ m. rest_of m new ≡ rest_of m mid) → IfSome o (λ m. rest_of m new ≡ []) → IfSome o (λ m. lines_of (rest_of m first) ≡ after ∷ lines_of (rest_of m new))
line_is_last x first mid new after some part h k none = grind (arith, common_steps, append-nil, part_is_last)

pub given_that : {C : Type 0} (P : Files → Type 0) (o : Option Files) → C → IfSome o (λ m. C → P m) → IfSome o P
given_that x y c h = grind (arith, common_steps)
