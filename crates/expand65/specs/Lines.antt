-- The lines of a source and its remaining input: lines of files, and lines of bodies with replacements; and
-- frames of calls that read files.
use Rattle.std.specs.Prelude.{ℕ, Bool, List, [], ◌∷◌, ◌++◌, codes, decimal, position, slice_get, unwrap_or, Option, Some, None, Result, IfErr, true, ◌≡◌, if◌then◌else◌, zero, suc, ◌+◌, map, false, nat_eq, ◌&&◌, ◌<◌, ◌≤◌, ◌-◌, not, length, take, drop, option_map, Ok, Err, ◌==◌, nat_le}
use Rattle.std.specs.Map.{lookup}
use Rattle.std.specs.Option.{option_or}
use Rattle.std.specs.Str.{bytes_eq, str_eq_ignore_ascii_case}
use Rattle.base65.specs.Store.{Files, FailedAt, PropagatesIoError, LastFailure}
use Rattle.syntax65.specs.Faults.{is_failure, is_system_error, fault_of_lexing}
use Rattle.syntax65.specs.Tokens.{Lexeme, IsRead}
use Rattle.syntax65.specs.declared.lexing.tokens.TokenKind.TheVariants as token
use Rattle.expand65.specs.LineStart.{first_satisfies}
use Rattle.expand65.specs.Types.{ExpandFault, FileError, Syntax, Nested, NotClosed, TooManyLines, LineTooLong, SourceLocation, OpenFile}
use Rattle.std.specs.FinMap as fmap
use Rattle.base65.specs.Outcome.{Unless}
use Rattle.syntax65.specs.declared.lexing.tokens.LexFault.TheVariants as lex
use Rattle.syntax65.specs.declared.lexing.tokens.LexFault.{LexFault}

-- ---- Replacements of names in the lines of a body.

-- the replacements in the lines of a macro call or an iteration of a repeat
pub record Substitution : Type 0 where
  -- the parameters of a macro, or the variable of a repeat
  pub params : List (List ℕ)
  -- their arguments, in order
  pub arguments : List (List Lexeme)
  -- the replacement of `.paramcount`, in a macro call
  pub count : Option (List Lexeme)
  -- the local names of the macro call so far, with their replacements
  pub locals : List (List ℕ × List Lexeme)
  -- the number of the macro call
  pub number : ℕ

-- a number as a token
abbrev pub number_token : ℕ → Lexeme
number_token n = (token.Number n, decimal n)

-- the replacement of a local name as a token
abbrev pub local_name_token : ℕ → List ℕ → Lexeme
local_name_token number name = (token.Identifier, name ++ codes "?" ++ decimal number)

-- the argument of the parameter at an index, or empty if it is missing
abbrev pub argument_at : List (List Lexeme) → Option ℕ → Option (List Lexeme)
argument_at arguments None = None
argument_at arguments (Some i) = Some (unwrap_or (slice_get arguments i) [])

-- the replacement of a name: the argument of a parameter, or that of a local name
abbrev pub name_replacement : Substitution → List ℕ → Option (List Lexeme)
name_replacement r name = option_or (argument_at r.arguments (position (bytes_eq name) r.params)) (lookup (bytes_eq name) r.locals)

abbrev pub is_paramcount : List ℕ → Bool
is_paramcount text = str_eq_ignore_ascii_case text (codes ".paramcount")

-- the replacement of a directive
abbrev pub directive_replacement : Substitution → List ℕ → Option (List Lexeme)
directive_replacement r text = if is_paramcount text then r.count else None

-- the replacement of a token, if it has one
abbrev pub replacement_for : Substitution → Lexeme → Option (List Lexeme)
replacement_for r (token.Identifier, text) = name_replacement r text
replacement_for r (token.Directive, text) = directive_replacement r text
replacement_for r _ = None

-- The line with its tokens replaced in one pass. Replacements aren't expanded again.
abbrev pub substituted_line : Substitution → List Lexeme → List Lexeme
substituted_line r [] = []
substituted_line r (t ∷ ts) = unwrap_or (replacement_for r t) (t ∷ []) ++ substituted_line r ts

-- ---- Macros and repeats.

-- the parameters and lines of a macro
pub record Definition : Type 0 where
  pub params : List (List ℕ)
  pub body : List (List Lexeme)

-- the replacements in the lines of a repeat, except for the number of the iteration
abbrev pub repeat_substitution : List (List ℕ) → Substitution
repeat_substitution variable = record { params = variable; arguments = []; count = None; locals = []; number = 0 }

-- and in an iteration; the first has the number 0
abbrev pub in_iteration : Substitution → ℕ → Substitution
in_iteration e t = record { params = e.params; arguments = (number_token t ∷ []) ∷ []; count = e.count; locals = e.locals; number = e.number }

-- ---- Local names of macro calls.

-- adds a local name with its replacement, unless it is there
abbrev pub with_local : List (List ℕ × List Lexeme) → List ℕ → List Lexeme → List (List ℕ × List Lexeme)
with_local [] name ts = (name, ts) ∷ []
with_local ((other, us) ∷ others) name ts = if bytes_eq name other then (other, ts) ∷ others else (other, us) ∷ with_local others name ts

abbrev pub all_local : ℕ → List (List ℕ) → List (List ℕ × List Lexeme) → List (List ℕ × List Lexeme)
all_local number [] locals = locals
all_local number (name ∷ names) locals = all_local number names (with_local locals name (local_name_token number name ∷ []))

-- adds local names, whose replacements are followed by `?` and the number of the call
abbrev pub with_locals : List (List ℕ) → Substitution → Substitution
with_locals names r = record { params = r.params; arguments = r.arguments; count = r.count; locals = all_local r.number names r.locals; number = r.number }

-- ---- The remaining lines, and the end marks among them.

-- the end of a file, a macro call or a repeat
pub record InputEnd : Type 0 where
  -- whether it ends a macro call
  pub is_macro : Bool
  -- the number of conditions that were open at the beginning
  pub conditions : ℕ
  -- the location of the line that included the file
  pub return_location : Option SourceLocation

-- an item of the remaining input: a line, the rest of a line, or an end mark
pub data Item : Type 0 where
  -- a line of a file: its number and its bytes
  file_line : ℕ → List ℕ → Item
  -- a line of a body, with its replacements
  body_line : Substitution → List Lexeme → Item
  -- the rest of a line after its label
  label_rest : List Lexeme → Item
  -- the rest of an `.elseif` line whose condition is evaluated next
  elseif_rest : List Lexeme → Item
  end_mark : InputEnd → Item

-- the remaining lines, the line budget, and the location of the line read last
pub record RemainingInput : Type 0 where
  pub items : List Item
  pub room : ℕ
  pub place : SourceLocation

abbrev pub remaining_input : List Item → ℕ → SourceLocation → RemainingInput
remaining_input is r p = record { items = is; room = r; place = p }

-- an error with its location
abbrev pub LocatedError : Type 0
LocatedError = ExpandFault × SourceLocation

-- ---- Locations.

abbrev pub location_at : SourceLocation → ℕ → SourceLocation
location_at p n = record { file = p.file; line = n }

-- the location after an end mark
abbrev pub restored_location : SourceLocation → Option SourceLocation → SourceLocation
restored_location p None = p
restored_location p (Some q) = q

-- ---- End marks.

-- the number of end marks
abbrev pub end_mark_count : List Item → ℕ
end_mark_count [] = 0
end_mark_count (end_mark k ∷ is) = end_mark_count is + 1
end_mark_count (_ ∷ is) = end_mark_count is

-- the first end mark, which ends the innermost file, macro call or repeat
abbrev pub innermost : List Item → Option InputEnd
innermost [] = None
innermost (end_mark k ∷ is) = Some k
innermost (_ ∷ is) = innermost is

-- the number of conditions that stay open after the innermost macro call, the remaining input after it, and
-- the location there
abbrev pub after_innermost_macro : List Item → SourceLocation → Option (ℕ × List Item × SourceLocation)
after_innermost_macro [] p = None
after_innermost_macro (end_mark k ∷ is) p = if k.is_macro then Some (k.conditions, is, restored_location p k.return_location) else after_innermost_macro is (restored_location p k.return_location)
after_innermost_macro (_ ∷ is) p = after_innermost_macro is p

-- ---- Lines.

-- the lines of a file after the first n
abbrev pub file_lines_after : ℕ → List (List ℕ) → List Item
file_lines_after n [] = []
file_lines_after n (line ∷ lines) = file_line (n + 1) line ∷ file_lines_after (n + 1) lines

-- the lines of this many iterations, from iteration t on
abbrev pub iterations : Substitution → List (List Lexeme) → ℕ → ℕ → List Item
iterations e body t zero = []
iterations e body t (suc n) = map (body_line (in_iteration e t)) body ++ iterations e body (t + 1) n

-- the remaining input of a macro call, with more local names
abbrev pub with_local_names : List (List ℕ) → List Item → List Item
with_local_names names [] = []
with_local_names names (body_line r ts ∷ is) = body_line (with_locals names r) ts ∷ with_local_names names is
with_local_names names (end_mark k ∷ is) = end_mark k ∷ is
with_local_names names (i ∷ is) = i ∷ with_local_names names is

-- ---- Frames of calls that may call the store.

-- the files are unchanged, and a file error reports a failure of the store
pub record ReadFrame {X T : Type 0} (files_of : X → Option Files) (failures_of : X → ℕ) (old new : X) (result : Result T ExpandFault) : Type 0 where
  pub files : files_of new ≡ files_of old
  pub count : PropagatesIoError FileError (failures_of old) (failures_of new) result

-- the same, and if the store failed, the last failed call satisfies a predicate
pub record FailedReadFrame {X T : Type 0} (files_of : X → Option Files) (failures_of : X → ℕ) (last_failure_of : X → LastFailure) (IsTold : LastFailure → Type 0) (old new : X) (result : Result T ExpandFault) : Type 0 where
  pub last_failure : IfErr result (λ e. is_failure e ≡ true → IsTold (last_failure_of new))
  pub files : files_of new ≡ files_of old
  pub count : PropagatesIoError FileError (failures_of old) (failures_of new) result

-- ---- The lines of a file.

-- LF
abbrev pub is_line_end : ℕ → Bool
is_line_end b = nat_eq b 10

-- CR
abbrev pub is_return : ℕ → Bool
is_return b = nat_eq b 13

-- adds a byte to the start of the first line, or begins the first line with it
abbrev pub prepend_byte : ℕ → List (List ℕ) → List (List ℕ)
prepend_byte b [] = (b ∷ []) ∷ []
prepend_byte b (line ∷ lines) = (b ∷ line) ∷ lines

-- The lines of a file. LF ends a line, so no line begins after the last LF. A CR before LF is dropped.
abbrev pub lines_of : List ℕ → List (List ℕ)
lines_of [] = []
lines_of (b ∷ bs) =
    if is_line_end b then [] ∷ lines_of bs
    else if is_return b && first_satisfies is_line_end bs then lines_of bs
    else prepend_byte b (lines_of bs)

-- the maximum size of a file in bytes
abbrev pub file_limit : ℕ
file_limit = 16777216

-- the maximum number of lines that are read, skipped, collected and replayed, all together
abbrev pub line_limit : ℕ
line_limit = 1048576

-- the maximum number of tokens of a line after replacement
abbrev pub token_limit : ℕ
token_limit = 4096

-- the maximum number of files, macro calls and repeats open inside the source
abbrev pub nesting_limit : ℕ
nesting_limit = 256

-- ---- The unread part of an open file.

-- the bytes of a file, or none if it doesn't exist
abbrev pub bytes_of : Files → List ℕ → List ℕ
bytes_of m name = unwrap_or (fmap.get m name) []

-- as many of them as are read
abbrev pub readable_bytes : Files → List ℕ → List ℕ
readable_bytes m name = take file_limit (bytes_of m name)

-- the piece consists of the first n bytes of the rest of a file; n is 0 only at its end or if no byte is
-- wanted
pub record IsPiece (rest : List ℕ) (max_len n : ℕ) (piece : List ℕ) : Type 0 where
  pub pending : piece ≡ take n rest
  pub few : n ≤ max_len
  pub ends : n ≡ 0 → 0 < max_len → rest ≡ []

-- the unread bytes of an open file: those in the buffer, and those of the store's file after them
abbrev pub rest_of : Files → OpenFile → List ℕ
rest_of m f = drop f.at f.buffer.items ++ drop f.next (readable_bytes m f.name)

-- the unread lines
abbrev pub remaining_file_lines : Files → OpenFile → List Item
remaining_file_lines m f = file_lines_after f.line (lines_of (rest_of m f))

-- A read continues after the buffered bytes, and reads no further than the maximum file size.
abbrev pub FailedAtRefill : OpenFile → LastFailure → Type 0
FailedAtRefill f last_failure = FailedAt last_failure f.name f.next × (f.next < file_limit) × (length f.buffer.items ≤ f.at)

-- The rest of some bytes after their first n lines: a prefix that reaches into the rest begins n lines more
-- than its part in the rest.
pub record IsRestAfterLines (bytes rest : List ℕ) (n : ℕ) : Type 0 where
  pub taken : List ℕ
  pub whole : bytes ≡ taken ++ rest
  pub count : (pending following : List ℕ) → rest ≡ pending ++ following → length (lines_of (taken ++ pending)) ≡ n + length (lines_of pending)

-- the same for the unread bytes of an open file
abbrev pub IsFileAfterLines : Files → OpenFile → ℕ → Type 0
IsFileAfterLines m f n = IsRestAfterLines (readable_bytes m f.name) (rest_of m f) n

-- a file is open at the location of the line read last from it
pub record IsFileAt (m : Files) (f : OpenFile) (p : SourceLocation) : Type 0 where
  pub name : f.name ≡ p.file
  pub line : p.line ≡ f.line
  pub following : IsFileAfterLines m f f.line

abbrev pub line_location : List ℕ → ℕ → SourceLocation
line_location file n = record { file = file; line = n }

-- The last failed call was a read of the location's file, if the store tells it. The location's line is the
-- one that contains the offset of that read or, if that is the line's first byte, the line before: as many
-- lines begin before the offset.
pub record IsReadingAt (m : Files) (last_failure : LastFailure) (p : SourceLocation) : Type 0 where
  pub at : ℕ
  pub asked : FailedAt last_failure p.file at
  pub within : at < file_limit
  pub line : p.line ≡ length (lines_of (take at (bytes_of m p.file)))

-- the end of a line separates these
abbrev pub IsTerminatedLine : List ℕ → List ℕ → List ℕ → Type 0
IsTerminatedLine all line following = (b : ℕ) × (is_line_end b ≡ true) × (all ≡ line ++ b ∷ following)

-- a byte within a line
abbrev pub is_within_line : ℕ → Bool
is_within_line b = not (is_line_end b)

-- whether the last byte of a line is CR
abbrev pub ends_in_return : List ℕ → Bool
ends_in_return line = unwrap_or (option_map is_return (slice_get line (length line - 1))) false

-- a line without the CR at its end
abbrev pub without_return : List ℕ → List ℕ
without_return line = if ends_in_return line then take (length line - 1) line else line

-- the first line has too many bytes
abbrev pub FirstLineIsTooLong : List (List ℕ) → Type 0
FirstLineIsTooLong lines = (line : List ℕ) × ((others : List (List ℕ)) × (lines ≡ line ∷ others) × (4096 < length line))

-- reads the first line
abbrev pub ReadsLine : List (List ℕ) → Result (List ℕ) ExpandFault → List (List ℕ) → Type 0
ReadsLine before (Ok line) after = before ≡ line ∷ after
ReadsLine before (Err f) after = Unless (is_system_error f) ((f ≡ Syntax lex.LineTooLong) × FirstLineIsTooLong before)

-- Reads more of a line from the rest of its file, whatever follows the buffered bytes: up to its end, or
-- all that is buffered.
abbrev pub AppendsPiece : List ℕ → List ℕ → List ℕ → Result Bool ExpandFault → List ℕ → List ℕ → Type 0
AppendsPiece line here following (Ok true) after remaining_input = lines_of (line ++ (here ++ following)) ≡ without_return after ∷ lines_of (remaining_input ++ following)
AppendsPiece line here following (Ok false) after remaining_input = line ++ (here ++ following) ≡ after ++ (remaining_input ++ following)
AppendsPiece line here following (Err f) after remaining_input = Unless (is_system_error f) ((f ≡ Syntax lex.LineTooLong) × FirstLineIsTooLong (lines_of (line ++ (here ++ following))))

-- ---- Inputs that are opened and closed.

-- pushes lines and an end mark onto the remaining input
abbrev pub with_lines : List Item → InputEnd → RemainingInput → Result RemainingInput LocatedError
with_lines is k l = if nat_le (end_mark_count l.items) nesting_limit then Ok (remaining_input (is ++ end_mark k ∷ l.items) l.room l.place) else Err (Nested, l.place)

-- Removes an end mark at which this many conditions must be open. Gives the remaining input after it and
-- the location there.
abbrev pub without_end_mark : ℕ → SourceLocation → List Item → Result (List Item × SourceLocation) LocatedError
without_end_mark n p (end_mark k ∷ is) = if k.conditions == n then Ok (is, restored_location p k.return_location) else Err (NotClosed, p)
without_end_mark n p is = Ok (is, p)

-- ---- The tokens of the next line.

-- the tokens of a line of a file, or its error
abbrev pub file_line_tokens : Result (List Lexeme) LexFault → Result (List Lexeme) ExpandFault
file_line_tokens (Ok ts) = Ok ts
file_line_tokens (Err fault) = Err (fault_of_lexing fault)

-- the tokens of a line of a body, or an error if there are too many after replacement
abbrev pub body_line_tokens : List Lexeme → Result (List Lexeme) ExpandFault
body_line_tokens ts = if nat_le (length ts) token_limit then Ok ts else Err LineTooLong

-- the result for a line; a rest after a label and an end mark are no lines
abbrev pub HasLineTokens : Item → Result (List Lexeme) ExpandFault → Type 0
HasLineTokens (file_line n bytes) t = (q : Result (List Lexeme) LexFault) × IsRead bytes q × (t ≡ file_line_tokens q)
HasLineTokens (body_line e ts) t = t ≡ body_line_tokens (substituted_line e ts)
HasLineTokens _ t = ⊥

-- a line of a file moves the location
abbrev pub location_after_item : SourceLocation → Item → SourceLocation
location_after_item p (file_line n bytes) = location_at p n
location_after_item p _ = p

-- the tokens of a line, or none at an end mark or at the end; and the input after it
abbrev pub LineAndRest : Type 0
LineAndRest = Result (Option (List Lexeme) × RemainingInput) LocatedError

abbrev pub line_and_rest : Result (List Lexeme) ExpandFault → RemainingInput → LineAndRest
line_and_rest (Ok ts) l = Ok (Some ts, l)
line_and_rest (Err fault) l = Err (fault, l.place)

-- each line counts against the budget, and a line beyond it is an error before its tokens are read
abbrev pub ReadsFirstItem : List Item → ℕ → SourceLocation → LineAndRest → Type 0
ReadsFirstItem [] r p t = t ≡ Ok (None, remaining_input [] r p)
ReadsFirstItem (end_mark k ∷ is) r p t = t ≡ Ok (None, remaining_input (end_mark k ∷ is) r p)
ReadsFirstItem (i ∷ is) zero p t = t ≡ Err (TooManyLines, location_after_item p i)
ReadsFirstItem (i ∷ is) (suc r) p t = (q : Result (List Lexeme) ExpandFault) × HasLineTokens i q × (t ≡ line_and_rest q (remaining_input is r (location_after_item p i)))

abbrev pub ReadsNextLine : RemainingInput → LineAndRest → Type 0
ReadsNextLine l t = ReadsFirstItem l.items l.room l.place t
