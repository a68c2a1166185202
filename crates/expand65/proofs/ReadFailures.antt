-- The location of reading after a store failure.
use Rattle.std.proofs.lemmas.Grind.{common_steps}
use Rattle.std.proofs.Common.{arith, ◌≡◌, ◌∙◌, ℕ, Bool, true, List, [], ◌∷◌, ◌++◌, refl, sym, ap, subst, Option, Some, None, IfSome, false, Ok}
use Rattle.base65.specs.Store.{Files, LastFailure}
use Rattle.syntax65.specs.Tokens.{Lexeme}
use Rattle.syntax65.specs.declared.fault.ExpandFault.{ExpandFault}
use Rattle.syntax65.specs.Faults.{is_failure}
use Rattle.syntax65.specs.declared.source_location.SourceLocation.{SourceLocation}
use Rattle.expand65.specs.Blocks.{ReadsBlockLine, is_collected, line_verdict, still_open}
use Rattle.expand65.specs.declared.blocks.BlockKind.{BlockKind}
use Rattle.expand65.specs.Representation.{HasNextLine, IsFile, is_call, remaining_in, remaining_of, end_mark_of, location_after_next, outer_items, SkipsUncollectedLines, FailsAtLine, FailsInBlock, IsAtFailure, NeedsStoreCall, at_line, before, after_line, within}
use Rattle.expand65.specs.Lines.{IsReadingAt, Item, RemainingInput, InputEnd, end_mark, file_lines_after, body_line, Substitution, lines_of, rest_of}
use Rattle.expand65.specs.Replay.{SkipsPlainLines, no_line, a_line}
use Rattle.expand65.specs.declared.input.NextLine.{NextLine}
use Rattle.expand65.specs.declared.input.NextLine.TheVariants.{AtEnd, Numbered, Replayed}
use Rattle.expand65.specs.declared.input.LineSource.{LineSource}
use Rattle.expand65.specs.declared.input.LineSource.TheVariants as source
use Rattle.expand65.specs.declared.input_stack.InputStack.{InputStack}
use Rattle.expand65.proofs.BlockLines.{some_line}
use Rattle.expand65.proofs.Inputs.{parted}
use Rattle.expand65.proofs.PlainLines.{plain_judged}

-- ---- The next line.

asked_numbered : (n : ℕ) (lines : List (List ℕ)) (k : InputEnd) (is : List Item) → k.is_macro ≡ false → NeedsStoreCall (file_lines_after n lines ++ end_mark k ∷ is)
asked_numbered n [] k is h = h
asked_numbered n (line ∷ lines) k is h = tt

asked_in : (m : Files) (s : LineSource) (k : InputEnd) (is : List Item) → k.is_macro ≡ is_call s → IsFile s → NeedsStoreCall (remaining_in m s ++ end_mark k ∷ is)
asked_in m x k is e h = grind (arith, common_steps, asked_numbered)

pub fails_before : (o : Option Files) (last_failure : LastFailure) (old : InputStack) → IsFile old.top.source → IfSome o (λ m. IsReadingAt m last_failure old.location) → IfSome o (λ m. FailsAtLine m last_failure (remaining_of m old) old.location)
fails_before None last_failure old h a = tt
fails_before (Some m) last_failure old h a =
    let is = outer_items m old.outer.items in
    before (subst NeedsStoreCall (sym (parted m old)) (asked_in m old.top.source (end_mark_of old.top) is refl h)) a

none_played : (n : ℕ) (lines : List (List ℕ)) (e : Substitution) (ts : List Lexeme) (is : List Item) → file_lines_after n lines ≡ body_line e ts ∷ is → ⊥
none_played n [] e ts is h = absurd cc
none_played n (line ∷ lines) e ts is h = absurd cc

-- a failure within the next line of a file
within_next : (m : Files) (last_failure : LastFailure) (s : LineSource) (tail : List Item) (n : NextLine) (l : RemainingInput) → IsFile s → HasNextLine (remaining_in m s) n → (n ≡ AtEnd → ⊥) → l.items ≡ remaining_in m s ++ tail → IsReadingAt m last_failure (location_after_next n l.place) → FailsAtLine m last_failure l (location_after_next n l.place)
within_next m last_failure (source.File f) tail AtEnd l h c more same a = absurd (more refl)
within_next m last_failure (source.File f) tail (Numbered n) l h (bytes, (others, e)) more same a = within n bytes (others ++ tail) (same ∙ ap (λ is. is ++ tail) e) a
within_next m last_failure (source.File f) tail Replayed l h (e, (ts, (others, is))) more same a = absurd (none_played f.line (lines_of (rest_of m f)) e ts others is)
within_next m last_failure (source.Call r) tail n l h c more same a = absurd h
within_next m last_failure (source.Repeat r next count) tail n l h c more same a = absurd h

pub fails_within : (o : Option Files) (last_failure : LastFailure) (old : InputStack) (mid : LineSource) (location : SourceLocation) (n : NextLine) → IsFile mid → IfSome o (λ m. HasNextLine (remaining_in m mid) n) → IfSome o (λ m. remaining_in m mid ≡ remaining_in m old.top.source) → (n ≡ AtEnd → ⊥) → location ≡ location_after_next n old.location → IfSome o (λ m. IsReadingAt m last_failure location) → IfSome o (λ m. FailsAtLine m last_failure (remaining_of m old) location)
fails_within None last_failure old mid location n h c s more p a = tt
fails_within (Some m) last_failure old mid location n h c s more p a =
    let tail = end_mark (end_mark_of old.top) ∷ outer_items m old.outer.items in
    let items : (remaining_of m old).items ≡ remaining_in m mid ++ tail = parted m old ∙ ap (λ is. is ++ tail) (sym s) in
    let P : SourceLocation → Type 0 = λ q. FailsAtLine m last_failure (remaining_of m old) q in
    subst P (sym p) (within_next m last_failure mid tail n (remaining_of m old) h c more items (subst (IsReadingAt m last_failure) p a))

-- the input stack after the failure
pub stopped_so : (o : Option Files) (IsLocation : Files → SourceLocation → Type 0) (old new : InputStack) (f : ExpandFault) → end_mark_of new.top ≡ end_mark_of old.top → (is_failure f ≡ true → IfSome o (λ m. IsLocation m new.location)) → IfSome o (λ m. is_failure f ≡ true → IsAtFailure (IsLocation m) old new)
stopped_so x y old new f k h = grind (arith, common_steps)

-- ---- Blocks.

-- a failure in the rest of a block is a failure in the block
abbrev pub Fails : BlockKind → ℕ → InputStack → InputStack → Files → Type 0
Fails k d reader first m = (last_failure : LastFailure) (p : SourceLocation) → FailsInBlock m last_failure k d (remaining_of m reader) p → FailsInBlock m last_failure k 0 (remaining_of m first) p

pub line_read : (k : BlockKind) (o : Option Files) (first reader new : InputStack) (d c : ℕ) (ts : List Lexeme) → IfSome o (Fails k d reader first) → IfSome o (λ m. ReadsBlockLine (remaining_of m reader) (Ok (ts, remaining_of m new))) → line_verdict k d ts ≡ still_open c → IfSome o (Fails k c new first)
line_read k None first reader new d c ts h t j = tt
line_read k (Some m) first reader new d c ts h t j = λ last_failure p f. h last_failure p (after_line d c (remaining_of m reader) (remaining_of m new) ts p (some_line (remaining_of m reader) (remaining_of m new) ts t) j f)

-- skipping plain lines
over_plainly : (m : Files) (last_failure : LastFailure) (k : BlockKind) (d : ℕ) (l n : RemainingInput) (p : SourceLocation) → SkipsPlainLines l n → FailsInBlock m last_failure k d n p → FailsInBlock m last_failure k d l p
over_plainly m last_failure k d _ _ p (no_line l) h = h
over_plainly m last_failure k d _ _ p (a_line l i n passed (ts, taken, plain)) h = over_plainly m last_failure k d l i p passed (after_line d d i n ts p taken (plain_judged k d ts plain) h)

pub plainly_read : (k : BlockKind) (o : Option Files) (first reader new : InputStack) (d : ℕ) → ((m : Files) → SkipsUncollectedLines (is_collected k) (remaining_of m reader) (remaining_of m new)) → IfSome o (Fails k d reader first) → IfSome o (Fails k d new first)
plainly_read k None first reader new d passed h = tt
plainly_read k (Some m) first reader new d passed h = by (is_collected k) (passed m)
  where
    by : (b : Bool) → SkipsUncollectedLines b (remaining_of m reader) (remaining_of m new) → Fails k d new first m
    by true same = λ last_failure p f. h last_failure p (subst (λ l. FailsInBlock m last_failure k d l p) same f)
    by false over = λ last_failure p f. h last_failure p (over_plainly m last_failure k d (remaining_of m reader) (remaining_of m new) p over f)

-- the input stack after a failure in a line of the block
pub stops_on : (last_failure : LastFailure) (k : BlockKind) (o : Option Files) (first reader new : InputStack) (d : ℕ) (f : ExpandFault) → IfSome o (Fails k d reader first) → end_mark_of reader.top ≡ end_mark_of first.top → IfSome o (λ m. is_failure f ≡ true → IsAtFailure (FailsAtLine m last_failure (remaining_of m reader)) reader new) → IfSome o (λ m. is_failure f ≡ true → IsAtFailure (FailsInBlock m last_failure k 0 (remaining_of m first)) first new)
stops_on last_failure k None first reader new d f h e s = tt
stops_on last_failure k (Some m) first reader new d f h e s = λ failed. (let so = s failed in record { is_location = h last_failure new.location (at_line d (remaining_of m reader) new.location so.is_location); mark = so.mark ∙ e })
