-- Lines that are read from files and bodies.
use Rattle.std.proofs.lemmas.Grind.{common_steps}
use Rattle.std.proofs.Common.{◌≡◌, ℕ, ◌+◌, ◌<◌, ◌≤◌, Bool, true, false, List, [], ◌∷◌, ◌++◌, length, map, take, drop, refl, sym, ap, ◌∙◌, arith, Option, Some, None, IfSome, Result, Ok, Err, get_or, length-append}
use Rattle.std.proofs.lemmas.List.{drop-map, drop-drop, length-drop, take_all}
use Rattle.std.specs.List.{prefix_len}
use Rattle.syntax65.specs.Faults.{is_lex_system_error, fault_of_lexing, is_system_error}
use Rattle.base65.specs.Outcome.{Unless, RefinesErr}
use Rattle.base65.specs.Store.{Files}
use Rattle.syntax65.specs.Tokens.{Lexeme, IsRead}
use Rattle.syntax65.specs.declared.lexing.tokens.LexFault.{LexFault}
use Rattle.syntax65.specs.declared.lexing.tokens.LexFault.TheVariants as lex
use Rattle.expand65.specs.Lines.{file_lines_after, Item, file_line, body_line, Substitution, substituted_line, lines_of, ReadsLine, FirstLineIsTooLong, readable_bytes, is_within_line, remaining_file_lines, rest_of, without_return, bytes_of, HasLineTokens, body_line_tokens, file_line_tokens}
use Rattle.expand65.specs.Representation.{HasNextLine, ReadsStoredLine}
use Rattle.expand65.specs.Replay.{tokens_in, remaining_replay, substitution_of, IsFirstLine, ReadsFileLine}
use Rattle.syntax65.specs.declared.fault.ExpandFault.{ExpandFault}
use Rattle.syntax65.specs.declared.fault.ExpandFault.TheVariants.{Syntax}
use Rattle.expand65.specs.declared.file.OpenFile.{OpenFile}
use Rattle.expand65.specs.declared.input.NextLine.TheVariants.{Numbered}
use Rattle.expand65.specs.declared.line.StoredLine.{StoredLine}
use Rattle.expand65.specs.declared.macro_replay.Replay.{Replay}
use Rattle.expand65.proofs.Lines.{piece_ends, some_line}

-- a line with a lexical error
pub not_read : (bytes : List ℕ) (e : LexFault) → Unless (is_lex_system_error e) (IsRead bytes (Err e)) → Unless (is_system_error (fault_of_lexing e)) ((q : Result (List Lexeme) LexFault) × IsRead bytes q × (Err (fault_of_lexing e) ≡ file_line_tokens q))
not_read bytes lex.OutOfMemory h = tt
not_read bytes lex.BadCharacter h = (Err lex.BadCharacter, h, refl)
not_read bytes lex.BadNumber h = (Err lex.BadNumber, h, refl)
not_read bytes lex.StringNotClosed h = (Err lex.StringNotClosed, h, refl)
not_read bytes lex.LineTooLong h = (Err lex.LineTooLong, h, refl)
not_read bytes lex.NameTooLong h = (Err lex.NameTooLong, h, refl)

-- ---- Lines of files.

pub file_begins : (o : Option Files) (f : OpenFile) (n : ℕ) → f.at < length f.buffer.items → n ≡ f.line + 1 → IfSome o (λ m. HasNextLine (remaining_file_lines m f) (Numbered n))
file_begins None f n h e = tt
file_begins (Some m) f n h e = by (rest_of m f) refl
  where
    by : (bs : List ℕ) → rest_of m f ≡ bs → HasNextLine (file_lines_after f.line (lines_of (rest_of m f))) (Numbered n)
    by [] g = absurd (omega (arith, length-drop f.at f.buffer.items, ap length g, length-append (drop f.at f.buffer.items) (drop f.next (readable_bytes m f.name))))
    by (b ∷ bs) g =
        let l = some_line b bs in
        (l.0, (file_lines_after (f.line + 1) l.1.0, ap (λ x. file_lines_after f.line (lines_of x)) g ∙ ap (file_lines_after f.line) l.1.1 ∙ ap (λ k. file_line k l.0 ∷ file_lines_after (f.line + 1) l.1.0) (sym e)))

pub file_too_long : (o : Option Files) (old new : OpenFile) (f : ExpandFault) → IfSome o (λ m. ReadsLine (lines_of (rest_of m old)) (Err f) (lines_of (rest_of m new))) → IfSome o (λ m. ReadsStoredLine (remaining_file_lines m old) (Err f) (remaining_file_lines m new))
file_too_long None old new f h = tt
file_too_long (Some m) old new f h = by (is_system_error f) h
  where
    by : (b : Bool) → Unless b ((f ≡ Syntax lex.LineTooLong) × FirstLineIsTooLong (lines_of (rest_of m old))) → Unless b ((i : Item) × ((others : List Item) × (remaining_file_lines m old ≡ i ∷ others) × HasLineTokens i (Err f)))
    by true k = tt
    by false (e, (line, (others, is, long))) = (file_line (old.line + 1) line, (file_lines_after (old.line + 1) others, ap (file_lines_after old.line) is, (Err lex.LineTooLong, long, ap Err e)))

pub file_taken : (o : Option Files) (old new : OpenFile) (bytes : List ℕ) (line : StoredLine) (n : ℕ) → IfSome o (λ m. ReadsLine (lines_of (rest_of m old)) (Ok bytes) (lines_of (rest_of m new))) → new.line ≡ n → n ≡ old.line + 1 → ((q : Result (List Lexeme) LexFault) × IsRead bytes q × (Ok (tokens_in line) ≡ file_line_tokens q)) → IfSome o (λ m. ReadsStoredLine (remaining_file_lines m old) (Ok line) (remaining_file_lines m new))
file_taken None old new bytes line n h e g t = tt
file_taken (Some m) old new bytes line n h e g t =
    (file_line (old.line + 1) bytes, ap (file_lines_after old.line) h ∙ ap (λ k. file_line (old.line + 1) bytes ∷ file_lines_after k (lines_of (rest_of m new))) (sym (e ∙ g)), t)

pub file_refused : (o : Option Files) (old new last : OpenFile) (bytes : List ℕ) (f : ExpandFault) → IfSome o (λ m. ReadsLine (lines_of (rest_of m old)) (Ok bytes) (lines_of (rest_of m new))) → Unless (is_system_error f) ((q : Result (List Lexeme) LexFault) × IsRead bytes q × (Err f ≡ file_line_tokens q)) → IfSome o (λ m. ReadsStoredLine (remaining_file_lines m old) (Err f) (remaining_file_lines m last))
file_refused None old new last bytes f h t = tt
file_refused (Some m) old new last bytes f h t = by (is_system_error f) t
  where
    by : (b : Bool) → Unless b ((q : Result (List Lexeme) LexFault) × IsRead bytes q × (Err f ≡ file_line_tokens q)) → Unless b ((i : Item) × ((others : List Item) × (remaining_file_lines m old ≡ i ∷ others) × HasLineTokens i (Err f)))
    by true k = tt
    by false k = (file_line (old.line + 1) bytes, (file_lines_after (old.line + 1) (lines_of (rest_of m new)), ap (file_lines_after old.line) h, k))

-- a line that ends in the buffer is the first of the unread lines
pub first_at_hand : (m : Files) (f : OpenFile) (n k : ℕ) → n ≡ prefix_len is_within_line (drop f.at f.buffer.items) → n < length (drop f.at f.buffer.items) → lines_of (rest_of m f) ≡ without_return (take n (drop f.at f.buffer.items)) ∷ lines_of (rest_of m (record { name = f.name; buffer = f.buffer; at = f.at + (n + 1); next = f.next; line = k; spare = f.spare }))
first_at_hand m f n k e lt =
    let here = drop f.at f.buffer.items in
    let following = drop f.next (readable_bytes m f.name) in
    let gone : drop (n + 1) here ≡ drop (f.at + (n + 1)) f.buffer.items = drop-drop (n + 1) f.at f.buffer.items in
    piece_ends [] here following n refl e lt ∙ ap (λ l. without_return (take n here) ∷ lines_of (l ++ following)) gone

-- a line that is read in the buffer
pub file_peeked : (m : Files) (f : OpenFile) (n k : ℕ) (ts : List Lexeme) → IsFirstLine (drop f.at f.buffer.items) n ts → k ≡ f.line + 1 → ReadsFileLine (remaining_file_lines m f) k ts (remaining_file_lines m (record { name = f.name; buffer = f.buffer; at = f.at + (n + 1); next = f.next; line = k; spare = f.spare }))
file_peeked m f n k ts (e, lt, read) number =
    let following = drop f.next (readable_bytes m f.name) in
    let line = without_return (take n (drop f.at f.buffer.items)) in
    (line, ap (file_lines_after f.line) (first_at_hand m f n k e lt) ∙ ap (λ j. file_line j line ∷ file_lines_after j (lines_of (drop (f.at + (n + 1)) f.buffer.items ++ following))) (sym number), read)

-- ---- Lines of bodies.

-- the remaining lines of a body begin with the line at the index
played_at : (e : Substitution) (lines : List StoredLine) (at : ℕ) (x : StoredLine) → at < length lines → x ≡ get_or lines at x → map (body_line e) (drop at (map tokens_in lines)) ≡ body_line e (tokens_in x) ∷ map (body_line e) (drop (at + 1) (map tokens_in lines))
played_at e lines at x h same = grind (arith, common_steps, drop-map)

pub body_taken : (r : Replay) (x line : StoredLine) → r.at < length r.body.value.lines → x ≡ get_or r.body.value.lines r.at x → body_line_tokens (substituted_line (substitution_of r) (tokens_in x)) ≡ Ok (tokens_in line) → ReadsStoredLine (remaining_replay r) (Ok line) (map (body_line (substitution_of r)) (drop (r.at + 1) (map tokens_in r.body.value.lines)))
body_taken r x line h same e = (body_line (substitution_of r) (tokens_in x), played_at (substitution_of r) r.body.value.lines r.at x h same, sym e)

pub body_refused : (r : Replay) (x : StoredLine) (f : ExpandFault) (after : List Item) → r.at < length r.body.value.lines → x ≡ get_or r.body.value.lines r.at x → RefinesErr is_system_error f (body_line_tokens (substituted_line (substitution_of r) (tokens_in x))) → ReadsStoredLine (remaining_replay r) (Err f) after
body_refused r x f after h same e = by (is_system_error f) e
  where
    by : (b : Bool) → Unless b (body_line_tokens (substituted_line (substitution_of r) (tokens_in x)) ≡ Err f) → Unless b ((i : Item) × ((others : List Item) × (remaining_replay r ≡ i ∷ others) × HasLineTokens i (Err f)))
    by true k = tt
    by false k = (body_line (substitution_of r) (tokens_in x), (map (body_line (substitution_of r)) (drop (r.at + 1) (map tokens_in r.body.value.lines)), played_at (substitution_of r) r.body.value.lines r.at x h same, sym k))

-- ---- A file before its first line.

pub opens : (m : Files) (name buffer : List ℕ) → buffer ≡ [] → length (bytes_of m name) ≤ 16777216 → file_lines_after 0 (lines_of (buffer ++ readable_bytes m name)) ≡ file_lines_after 0 (lines_of (bytes_of m name))
opens m name buffer b h = ap (λ x. file_lines_after 0 (lines_of (x ++ readable_bytes m name))) b ∙ ap (λ l. file_lines_after 0 (lines_of l)) (take_all 16777216 (bytes_of m name) h)
