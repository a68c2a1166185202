-- The number of lines that begin in the bytes that were read of a file.
use Rattle.std.specs.List.{prefix_len}
use Rattle.std.proofs.Common.{◌≡◌, ℕ, ◌+◌, ◌<◌, ◌≤◌, ◌∙◌, List, [], ◌∷◌, ◌++◌, length, take, drop, refl, sym, ap, subst, arith, suc, true, append_assoc, false, Option, Some, None, IfSome, OnOk, Result, Ok, Err}
use Rattle.std.specs.Prelude.{IfErr, IfOk, ⊤}
use Rattle.std.proofs.lemmas.List.{append-nil, append_cancel_right, drop_all, drop-drop, length-drop, length-take, take-append-drop, take-take}
use Rattle.base65.specs.Store.{LastFailure, Files, FailedAt}
use Rattle.syntax65.specs.Faults.{is_failure}
use Rattle.syntax65.specs.declared.fault.ExpandFault.{ExpandFault}
use Rattle.syntax65.specs.declared.source_location.SourceLocation.{SourceLocation}
use Rattle.expand65.specs.Lines.{IsRestAfterLines, IsTerminatedLine, IsFileAt, IsFileAfterLines, FailedAtRefill, IsReadingAt, bytes_of, readable_bytes, line_location, is_within_line, is_line_end, lines_of, location_at, rest_of}
use Rattle.expand65.specs.Representation.{location_after_next}
use Rattle.expand65.specs.declared.file.OpenFile.{OpenFile}
use Rattle.expand65.specs.declared.input.NextLine.{NextLine}
use Rattle.expand65.specs.declared.input.NextLine.TheVariants.{AtEnd, Replayed}
use Rattle.expand65.proofs.Lines.{IsPart, front_is_part, part_ends, part_is_last, stops}

-- ---- Lines before the unread bytes.

none_after : (bytes : List ℕ) → IsRestAfterLines bytes bytes 0
none_after bytes = record { taken = []; whole = refl; count = λ pending following e. omega arith }

-- a file before its first line
pub opens_after : (m : Files) (name buffer : List ℕ) → buffer ≡ [] → IsRestAfterLines (readable_bytes m name) (buffer ++ readable_bytes m name) 0
opens_after m name buffer b = subst (λ l. IsRestAfterLines (readable_bytes m name) (l ++ readable_bytes m name) 0) (sym b) (none_after (readable_bytes m name))

-- one further line
pub line_after : (bytes rest after line : List ℕ) (b n : ℕ) → IsPart line → is_line_end b ≡ true → rest ≡ line ++ b ∷ after → IsRestAfterLines bytes rest n → IsRestAfterLines bytes after (n + 1)
line_after bytes rest after line b n part at_end e h = record {
  taken = h.taken ++ (line ++ b ∷ []);
  whole = h.whole ∙ ap (λ l. h.taken ++ l) (e ∙ sym (append_assoc line (b ∷ []) after)) ∙ sym (append_assoc h.taken (line ++ b ∷ []) after);
  count = λ pending following same.
      (let all : rest ≡ (line ++ b ∷ pending) ++ following = e ∙ ap (λ l. line ++ b ∷ l) same ∙ sym (append_assoc line (b ∷ pending) following) in
      let here : length (lines_of (h.taken ++ (line ++ b ∷ pending))) ≡ n + length (lines_of (line ++ b ∷ pending)) = h.count (line ++ b ∷ pending) following all in
      let ended : length (lines_of (line ++ b ∷ pending)) ≡ suc (length (lines_of pending)) = ap length (part_ends line pending b part at_end) in
      let joined : (h.taken ++ (line ++ b ∷ [])) ++ pending ≡ h.taken ++ (line ++ b ∷ pending) = append_assoc h.taken (line ++ b ∷ []) pending ∙ ap (λ l. h.taken ++ l) (append_assoc line (b ∷ []) pending) in
      let count : length (lines_of ((h.taken ++ (line ++ b ∷ [])) ++ pending)) ≡ n + length (lines_of (line ++ b ∷ pending)) = ap (λ l. length (lines_of l)) joined ∙ here in
      omega (arith, count, ended));
}

no_front : (pending following : List ℕ) → [] ≡ pending ++ following → pending ≡ []
no_front [] following e = refl
no_front (b ∷ pending) following e = absurd cc

-- the last line, without a line end
pub last_after : (bytes rest line : List ℕ) (n : ℕ) → IsPart line → (line ≡ [] → ⊥) → rest ≡ line → IsRestAfterLines bytes rest n → IsRestAfterLines bytes [] (n + 1)
last_after bytes rest line n part some e h = record {
  taken = h.taken ++ line;
  whole = h.whole ∙ ap (λ l. h.taken ++ l) e ∙ sym (append-nil (h.taken ++ line));
  count = λ pending following same.
      (let P : List ℕ → Type 0 = λ l. length (lines_of ((h.taken ++ line) ++ l)) ≡ (n + 1) + length (lines_of l) in
      let count : length (lines_of (h.taken ++ line)) ≡ n + length (lines_of line) = h.count line [] (e ∙ sym (append-nil line)) in
      let one : length (lines_of line) ≡ 1 = ap length (part_is_last line some part) in
      let whole : length (lines_of ((h.taken ++ line) ++ [])) ≡ length (lines_of (h.taken ++ line)) = ap (λ l. length (lines_of l)) (append-nil (h.taken ++ line)) in
      let none : length (lines_of []) ≡ 0 = refl in
      subst P (sym (no_front pending following same)) (omega (arith, count, one, whole, none)));
}

-- the number of lines that begin in the bytes before the offset
begun_in : (bytes rest line : List ℕ) (next n : ℕ) → rest ≡ line ++ drop next bytes → IsRestAfterLines bytes rest n → length (lines_of (take next bytes)) ≡ n + length (lines_of line)
begun_in bytes rest line next n e h =
    let all : take next bytes ++ drop next bytes ≡ (h.taken ++ line) ++ drop next bytes = take-append-drop next bytes ∙ h.whole ∙ ap (λ l. h.taken ++ l) e ∙ sym (append_assoc h.taken line (drop next bytes)) in
    let pending : take next bytes ≡ h.taken ++ line = append_cancel_right (take next bytes) (h.taken ++ line) (drop next bytes) all in
    ap (λ l. length (lines_of l)) pending ∙ h.count line (drop next bytes) e

-- ---- The location in a file after a store failure.

reads_there : (m : Files) (last_failure : LastFailure) (p : SourceLocation) (name line rest : List ℕ) (next n : ℕ) → name ≡ p.file → p.line ≡ n + length (lines_of line) → FailedAt last_failure name next → next < 16777216 → rest ≡ line ++ drop next (readable_bytes m name) → IsRestAfterLines (readable_bytes m name) rest n → IsReadingAt m last_failure p
reads_there m last_failure p name line rest next n same number asked less e h =
    let within : next ≤ 16777216 = omega (arith, less) in
    let count : p.line ≡ length (lines_of (take next (bytes_of m name))) = number ∙ sym (begun_in (readable_bytes m name) rest line next n e h) ∙ ap (λ l. length (lines_of l)) (take-take next 16777216 (bytes_of m name) within) in
    record {
      at = next;
      asked = subst (λ f. FailedAt last_failure f next) same asked;
      within = less;
      line = count ∙ ap (λ f. length (lines_of (take next (bytes_of m f)))) same;
    }

-- no unread byte is buffered
none_at_hand : (m : Files) (f : OpenFile) → length f.buffer.items ≤ f.at → rest_of m f ≡ drop f.next (readable_bytes m f.name)
none_at_hand m f h = ap (λ l. l ++ drop f.next (readable_bytes m f.name)) (drop_all f.at f.buffer.items h)

-- before the first byte of a line
pub stops_before : (o : Option Files) (last_failure : LastFailure) (f : OpenFile) → FailedAtRefill f last_failure → IfSome o (λ m. (p : SourceLocation) → IsFileAt m f p → IsReadingAt m last_failure p)
stops_before None last_failure f h = tt
stops_before (Some m) last_failure f (asked, less, all) = λ p h.
    (let number : p.line ≡ f.line + length (lines_of []) = h.line ∙ omega arith in
    reads_there m last_failure p f.name [] (rest_of m f) f.next f.line h.name number asked less (none_at_hand m f all) h.following)

-- within a line, after its first byte
pub stops_within : (o : Option Files) (last_failure : LastFailure) (first f : OpenFile) (line : List ℕ) → FailedAtRefill f last_failure → IsPart line → (line ≡ [] → ⊥) → f.name ≡ first.name → IfSome o (λ m. line ++ rest_of m f ≡ rest_of m first) → IfSome o (λ m. IsFileAfterLines m first first.line → IsReadingAt m last_failure (line_location first.name (first.line + 1)))
stops_within None last_failure first f line h part some name so_far = tt
stops_within (Some m) last_failure first f line (asked, less, all) part some name so_far = λ h.
    (let one : length (lines_of line) ≡ 1 = ap length (part_is_last line some part) in
    let number : first.line + 1 ≡ first.line + length (lines_of line) = omega (arith, one) in
    let e : rest_of m first ≡ line ++ drop f.next (readable_bytes m f.name) = sym so_far ∙ ap (λ l. line ++ l) (none_at_hand m f all) in
    let e' : rest_of m first ≡ line ++ drop f.next (readable_bytes m first.name) = e ∙ ap (λ s. line ++ drop f.next (readable_bytes m s)) name in
    reads_there m last_failure (line_location first.name (first.line + 1)) first.name line (rest_of m first) f.next first.line refl number (subst (λ s. FailedAt last_failure s f.next) name asked) less e' h)

-- ---- Lines that are read from an open file.

-- the bytes of a line, its line end, and the rest
pub split_line : (here : List ℕ) (n : ℕ) → n ≡ prefix_len is_within_line here → n < length here → IsTerminatedLine here (take n here) (drop (n + 1) here)
split_line here n e lt = by (drop n here) refl
  where
    by : (l : List ℕ) → drop n here ≡ l → IsTerminatedLine here (take n here) (drop (n + 1) here)
    by [] f = absurd (omega (arith, lt, length-drop n here, ap length f))
    by (b ∷ bs) f =
        let Q : ℕ → Type 0 = λ k. drop k here ≡ b ∷ bs in
        let gone : drop (n + 1) here ≡ bs = sym (drop-drop 1 n here) ∙ ap (drop 1) f in
        let P : List ℕ → Type 0 = λ l. here ≡ take n here ++ b ∷ l in
        (b, stops here b bs (subst Q e f), subst P (sym gone) (sym (take-append-drop n here) ∙ ap (λ l. take n here ++ l) f))

pub piece_ends_line : (line here : List ℕ) (n : ℕ) → n ≡ prefix_len is_within_line here → n < length here → IsTerminatedLine (line ++ here) (line ++ take n here) (drop (n + 1) here)
piece_ends_line line here n e lt =
    let s = split_line here n e lt in
    (s.0, s.1, ap (λ l. line ++ l) s.2 ∙ sym (append_assoc line (take n here) (s.0 ∷ drop (n + 1) here)))

-- a line that ends in the buffer
pub ended_after : (o : Option Files) (first self new : OpenFile) (line after : List ℕ) → IfSome o (λ m. line ++ rest_of m self ≡ rest_of m first) → self.name ≡ first.name → new.name ≡ self.name → new.next ≡ self.next → IsPart after → IsTerminatedLine (line ++ drop self.at self.buffer.items) after (drop new.at new.buffer.items) → IfSome o (λ m. IsFileAfterLines m first first.line → IsFileAfterLines m new (first.line + 1))
ended_after None first self new line after so_far a b c part ended = tt
ended_after (Some m) first self new line after so_far a b c part (byte, at_end, is) = λ h.
    (let here = drop self.at self.buffer.items in
    let tail = drop self.next (readable_bytes m self.name) in
    let left = drop new.at new.buffer.items in
    let e : rest_of m first ≡ after ++ byte ∷ (left ++ tail) = sym so_far ∙ sym (append_assoc line here tail) ∙ ap (λ l. l ++ tail) is ∙ append_assoc after (byte ∷ left) tail in
    let same : left ++ tail ≡ rest_of m new = ap (λ n. left ++ drop n (readable_bytes m self.name)) (sym c) ∙ ap (λ s. left ++ drop new.next (readable_bytes m s)) (sym b) in
    let P : List ℕ → Type 0 = λ l. IsRestAfterLines (readable_bytes m first.name) l (first.line + 1) in
    let Q : List ℕ → Type 0 = λ s. IsRestAfterLines (readable_bytes m s) (rest_of m new) (first.line + 1) in
    subst Q (sym (b ∙ a)) (subst P same (line_after (readable_bytes m first.name) (rest_of m first) (left ++ tail) after byte first.line part at_end e h)))

-- a list that is longer than another isn't empty
pub is_some : (l longer : List ℕ) → length l < length longer → longer ≡ [] → ⊥
is_some l [] lt e = absurd (omega (arith, lt))
is_some l (b ∷ longer) lt e = absurd cc

-- the last line, without a line end
pub last_is_after : (o : Option Files) (first new : OpenFile) (after : List ℕ) → 0 < length after → IsPart after → new.name ≡ first.name → IfSome o (λ m. after ++ rest_of m new ≡ rest_of m first) → IfSome o (λ m. rest_of m new ≡ []) → IfSome o (λ m. IsFileAfterLines m first first.line → IsFileAfterLines m new (first.line + 1))
last_is_after None first new after some part name so_far none = tt
last_is_after (Some m) first new after some part name so_far none = λ h.
    (let e : rest_of m first ≡ after = sym so_far ∙ ap (λ l. after ++ l) none ∙ append-nil after in
    let P : List ℕ → Type 0 = λ l. IsRestAfterLines (readable_bytes m first.name) l (first.line + 1) in
    let Q : List ℕ → Type 0 = λ s. IsRestAfterLines (readable_bytes m s) (rest_of m new) (first.line + 1) in
    subst Q (sym name) (subst P (sym none) (last_after (readable_bytes m first.name) (rest_of m first) after first.line part (is_some [] after some) e h)))

-- the file is at the location of that line
pub taken_at : (o : Option Files) (old mid new : OpenFile) → mid.name ≡ old.name → new.name ≡ mid.name → new.line ≡ old.line + 1 → ((m : Files) → rest_of m new ≡ rest_of m mid) → IfSome o (λ m. IsFileAfterLines m old old.line → IsFileAfterLines m mid (old.line + 1)) → IfSome o (λ m. (p : SourceLocation) → IsFileAt m old p → IsFileAt m new (location_at p (p.line + 1)))
taken_at None old mid new a b c rest following = tt
taken_at (Some m) old mid new a b c rest following = λ p h.
    (let P : ℕ → Type 0 = λ n. IsFileAfterLines m new n in
    let Q : List ℕ → Type 0 = λ l. IsRestAfterLines (readable_bytes m mid.name) l (old.line + 1) in
    let R : List ℕ → Type 0 = λ s. IsRestAfterLines (readable_bytes m s) (rest_of m new) (old.line + 1) in
    record {
      name = b ∙ a ∙ h.name;
      line = ap (λ n. n + 1) h.line ∙ sym c;
      following = subst P (sym c) (subst R (sym b) (subst Q (sym (rest m)) (following h.following)));
    })

-- a line that begins and ends in the buffer
pub here_after : (m : Files) (f : OpenFile) (n k j : ℕ) → n ≡ prefix_len is_within_line (drop f.at f.buffer.items) → n < length (drop f.at f.buffer.items) → IsFileAfterLines m f j → IsFileAfterLines m (record { name = f.name; buffer = f.buffer; at = f.at + (n + 1); next = f.next; line = k; spare = f.spare }) (j + 1)
here_after m f n k j e lt h =
    let here = drop f.at f.buffer.items in
    let tail = drop f.next (readable_bytes m f.name) in
    let s = split_line here n e lt in
    let P : ℕ → Type 0 = λ i. IsPart (take i here) in
    let part : IsPart (take n here) = subst P (sym e) (front_is_part here) in
    let all : rest_of m f ≡ take n here ++ s.0 ∷ (drop (n + 1) here ++ tail) = ap (λ l. l ++ tail) s.2 ∙ append_assoc (take n here) (s.0 ∷ drop (n + 1) here) tail in
    let gone : drop (n + 1) here ≡ drop (f.at + (n + 1)) f.buffer.items = drop-drop (n + 1) f.at f.buffer.items in
    let Q : List ℕ → Type 0 = λ l. IsRestAfterLines (readable_bytes m f.name) (l ++ tail) (j + 1) in
    subst Q gone (line_after (readable_bytes m f.name) (rest_of m f) (drop (n + 1) here ++ tail) (take n here) s.0 j part s.1 all h)

pub here_at : (m : Files) (f : OpenFile) (n k : ℕ) (p : SourceLocation) → n ≡ prefix_len is_within_line (drop f.at f.buffer.items) → n < length (drop f.at f.buffer.items) → k ≡ f.line + 1 → IsFileAt m f p → IsFileAt m (record { name = f.name; buffer = f.buffer; at = f.at + (n + 1); next = f.next; line = k; spare = f.spare }) (location_at p k)
here_at m f n k p e lt number h =
    let new : OpenFile = record { name = f.name; buffer = f.buffer; at = f.at + (n + 1); next = f.next; line = k; spare = f.spare } in
    let P : ℕ → Type 0 = λ i. IsFileAfterLines m new i in
    record { name = h.name; line = refl; following = subst P (sym number) (here_after m f n k f.line e lt h.following) }

-- the unread bytes are unchanged
pub reads_on_at : (o : Option Files) (old new : OpenFile) → new.name ≡ old.name → new.line ≡ old.line → IfSome o (λ m. rest_of m new ≡ rest_of m old) → IfSome o (λ m. (p : SourceLocation) → IsFileAt m old p → IsFileAt m new p)
reads_on_at None old new a b kept = tt
reads_on_at (Some m) old new a b kept = λ p h.
    (let P : ℕ → Type 0 = λ n. IsFileAfterLines m new n in
    let Q : List ℕ → Type 0 = λ l. IsRestAfterLines (readable_bytes m old.name) l old.line in
    let R : List ℕ → Type 0 = λ s. IsRestAfterLines (readable_bytes m s) (rest_of m new) old.line in
    record {
      name = a ∙ h.name;
      line = h.line ∙ sym b;
      following = subst P (sym b) (subst R (sym a) (subst Q (sym kept) h.following));
    })

cut_off : (bs : List ℕ) (limit at : ℕ) → limit ≤ at → drop at (take limit bs) ≡ []
cut_off bs limit at h = drop_all at (take limit bs) (omega (arith, h, length-take limit bs))

-- no bytes are unread after the maximum size
pub none_left : (o : Option Files) (f : OpenFile) → length f.buffer.items ≤ f.at → 16777216 ≤ f.next → IfSome o (λ m. false ≡ false → rest_of m f ≡ [])
none_left None f all most = tt
none_left (Some m) f all most = λ e. none_at_hand m f all ∙ cut_off (bytes_of m f.name) 16777216 f.next most

-- ---- By the results of calls.

-- after a rejection because of a store failure
pub where_failed : (o : Option Files) (A B : Files → Type 0) (f : ExpandFault) → (is_failure f ≡ true → IfSome o (λ m. A m → B m)) → IfSome o (λ m. A m → is_failure f ≡ true → B m)
where_failed None A B f h = tt
where_failed (Some m) A B f h = λ a failed. h failed a

-- the same for each location
pub where_failed_at : (o : Option Files) (A B : Files → SourceLocation → Type 0) (f : ExpandFault) → (is_failure f ≡ true → IfSome o (λ m. (p : SourceLocation) → A m p → B m p)) → IfSome o (λ m. (p : SourceLocation) → A m p → is_failure f ≡ true → B m p)
where_failed_at None A B f h = tt
where_failed_at (Some m) A B f h = λ p a failed. h failed p a

-- by the line number of a file, and by a location in the file
pub stops_in_line : (o : Option Files) (last_failure : LastFailure) (f : OpenFile) (e : ExpandFault) → IfSome o (λ m. IsFileAfterLines m f f.line → is_failure e ≡ true → IsReadingAt m last_failure (line_location f.name (f.line + 1))) → IfSome o (λ m. (p : SourceLocation) → IsFileAt m f p → is_failure e ≡ true → IsReadingAt m last_failure (location_at p (p.line + 1)))
stops_in_line None last_failure f e h = tt
stops_in_line (Some m) last_failure f e h = λ p at failed.
    (let P : ℕ → Type 0 = λ n. IsReadingAt m last_failure (line_location p.file (n + 1)) in
    let Q : List ℕ → Type 0 = λ s. IsReadingAt m last_failure (line_location s (f.line + 1)) in
    subst P (sym at.line) (subst Q at.name (h at.following failed)))

-- an error that is no store failure
pub never_at : {A : Type 0} (o : Option Files) (P Q : Files → SourceLocation → Type 0) (r : Result A ExpandFault) → IfErr r (λ e. is_failure e ≡ false) → IfSome o (λ m. (p : SourceLocation) → P m p → IfErr r (λ e. is_failure e ≡ true → Q m p))
never_at None P Q r h = tt
never_at (Some m) P Q (Ok x) h = λ p a. tt
never_at (Some m) P Q (Err e) h = λ p a failed. absurd (let both : true ≡ false = sym failed ∙ h in cc)

-- a source of lines that is no file
pub nothing_at : {A : Type 0} (o : Option Files) (P : Files → SourceLocation → Type 0) (r : Result A ExpandFault) → IfSome o (λ m. (p : SourceLocation) → P m p → OnOk r ⊤)
nothing_at None P r = tt
nothing_at (Some m) P (Ok x) = λ p a. tt
nothing_at (Some m) P (Err e) = λ p a. tt

-- lines of bodies don't change the location
pub played_on : (r : Result NextLine ExpandFault) (p : SourceLocation) → IfOk r (λ n. (n ≡ AtEnd → ⊥) → n ≡ Replayed) → IfOk r (λ n. (n ≡ AtEnd → ⊥) → location_after_next n p ≡ p)
played_on (Ok n) p h = λ more. ap (λ x. location_after_next x p) (h more)
played_on (Err e) p h = tt
