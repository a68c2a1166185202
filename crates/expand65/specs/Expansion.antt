-- The expansion of a source into statements, step by step.
use Rattle.std.specs.Prelude.{ℕ, ◌==◌, nat_le, Bool, false, List, [], ◌∷◌, ◌++◌, length, map, Option, Some, None, Result, Ok, Err, if◌then◌else◌, ◌≡◌, zero, suc, true, take, drop}
use Rattle.std.specs.Option.{option_map_or}
use Rattle.std.specs.FinMap as fmap
use Rattle.std.specs.List.{list_any}
use Rattle.std.specs.Str.{is_utf8}
use Rattle.base65.specs.Store.{Files}
use Rattle.syntax65.specs.Tokens.{Lexeme}
use Rattle.syntax65.specs.Expressions.{IsParsed}
use Rattle.syntax65.specs.Trees.{Tree}
use Rattle.expand65.specs.Blocks.{Block, CompleteBlock}
use Rattle.expand65.specs.LineStart.{first_satisfies, string_of, first_directive, is_mislabelled, label_len, line_directive, ok_or_not_understood}
use Rattle.expand65.specs.Lines.{lines_of, file_limit, LineAndRest, ReadsNextLine, line_limit, file_lines_after, Item, label_rest, elseif_rest, end_mark, remaining_input, innermost, restored_location, RemainingInput, LocatedError}
use Rattle.expand65.specs.Macros.{with_input, exit_macro, local_line, macro_line, new_end_mark, plain_line_result, repeat_line}
use Rattle.expand65.specs.State.{State, ExpansionStep, finishes, parses, decides, reads_line, reads_block, searches, StepResult, raises, EnvironmentView, label, continues, yields, ends, with_remaining, with_items, ExpandedStatement, IsCondition, else_line, endif_result, if_alone, if_line, without_last_condition, and_then_step, and_then_result}
use Rattle.expand65.specs.Types.{ExprFault, ExpandFault, FileNotFound, FileTooLong, Directive, Macro, EndMacro, ExitMacro, Local, Repeat, EndRepeat, If, ElseIf, Else, EndIf, Include, Error, End, True}
use Rattle.syntax65.specs.declared.fault.ExpandFault.TheVariants as faults
use Rattle.base65.specs.Outcome.{◌>>=◌}

-- ---- Files.

-- the file with this name, which must be UTF-8
abbrev pub file_named : Files → List ℕ → Option (List ℕ)
file_named m name = if is_utf8 name then fmap.get m name else None

-- the bytes of a file, or an error if it doesn't exist or has too many
abbrev pub bytes_in : Option (List ℕ) → Result (List ℕ) ExpandFault
bytes_in None = Err FileNotFound
bytes_in (Some bytes) = if nat_le (length bytes) file_limit then Ok bytes else Err FileTooLong

-- ---- The search for included files.

abbrev pub is_slash : ℕ → Bool
is_slash b = b == 47

-- the name of a file up to and including its last `/`, or nothing if it has none
abbrev pub folder_of : List ℕ → List ℕ
folder_of [] = []
folder_of (b ∷ bs) = if list_any is_slash (b ∷ bs) then b ∷ folder_of bs else []

-- the path of a name in a folder
abbrev pub path_in : List ℕ → List ℕ → List ℕ
path_in name folder = folder ++ 47 ∷ name

-- the candidate paths of an included file, in order, for the including file and these folders
abbrev pub candidate_names : List ℕ → List (List ℕ) → List ℕ → List (List ℕ)
candidate_names file folders name = if first_satisfies is_slash name then name ∷ [] else (folder_of file ++ name) ∷ map (path_in name) folders

-- the only candidate path of a file that is searched in the including file's folder alone
abbrev pub sibling_path : List ℕ → List ℕ → List ℕ
sibling_path file name = if first_satisfies is_slash name then name else folder_of file ++ name

-- the name, if it is UTF-8
abbrev pub as_text : List ℕ → Option (List ℕ)
as_text name = if is_utf8 name then Some name else None

-- the file with this name if it exists, or an error if it has too many bytes; otherwise the other
-- candidates
abbrev pub found_or : List ℕ → Option (List ℕ) → Result (List ℕ × List ℕ) ExpandFault → Result (List ℕ × List ℕ) ExpandFault
found_or name None others = others
found_or name (Some bytes) others = if nat_le (length bytes) file_limit then Ok (name, bytes) else Err FileTooLong

-- the first candidate that exists, with its bytes, or an error if they are too many
abbrev pub first_file : Files → List (List ℕ) → Result (List ℕ × List ℕ) ExpandFault
first_file m [] = Err FileNotFound
first_file m (name ∷ names) = found_or name (file_named m name) (first_file m names)

-- ---- `.include`.

-- the step to the lines of a file, given its name and bytes
abbrev pub file_step : State → List ℕ × List ℕ → StepResult
file_step s (name, bytes) =
    with_input s (file_lines_after 0 (lines_of bytes)) (new_end_mark s false (Some s.left.place)) (record { file = name; line = 0 })

-- searches an included file
abbrev pub include_file : State → List ℕ → ExpansionStep
include_file s name =
    searches s.left (candidate_names s.left.place.file s.folders name) (λ q. and_then_step s q (λ file. finishes (file_step s file)))

-- ---- One step of expansion, by the next line.

-- the error of an end or exit directive without an open block
abbrev pub not_opened : State → StepResult
not_opened s = raises (faults.NotOpened, s.left.place)

-- the last open condition, if the innermost file, macro call or repeat opened it
abbrev pub last_condition : State → Option (Bool × List Bool)
last_condition s = without_last_condition s.conditions (option_map_or (λ k. k.conditions) (innermost s.left.items) 0)

-- the effect of a directive and the rest of its line
abbrev pub directive_step : EnvironmentView → State → Directive → List Lexeme → ExpansionStep
directive_step k s Macro ts = macro_line s ts
directive_step k s EndMacro ts = if_alone s ts (finishes (not_opened s))
directive_step k s ExitMacro ts = if_alone s ts (finishes (exit_macro s))
directive_step k s Local ts = finishes (local_line s ts)
directive_step k s Repeat ts = repeat_line k s ts
directive_step k s EndRepeat ts = if_alone s ts (finishes (not_opened s))
directive_step k s (If test) ts = if_line k s test ts
directive_step k s ElseIf ts = else_line s (last_condition s)
directive_step k s Else ts = if_alone s ts (else_line s (last_condition s))
directive_step k s EndIf ts = if_alone s ts (finishes (endif_result s (last_condition s)))
directive_step k s Include ts = and_then_step s (ok_or_not_understood (string_of ts)) (include_file s)
directive_step k s Error ts = and_then_step s (ok_or_not_understood (string_of ts)) (λ text. finishes (raises (faults.Error text, s.left.place)))
directive_step k s End ts = if_alone s ts (finishes (continues (with_items s [])))

-- the effect of a line without a label, given its preprocessor directive
abbrev pub line_step : EnvironmentView → State → List Lexeme → Option Directive → ExpansionStep
line_step k s ts (Some directive) = directive_step k s directive (drop 1 ts)
line_step k s ts None = finishes (plain_line_result s ts)

-- the effect of a line whose label has this many tokens
abbrev pub label_step : EnvironmentView → State → List Lexeme → Option Directive → ℕ → ExpansionStep
label_step k s ts directive zero = line_step k s ts directive
label_step k s ts directive (suc n) = finishes (yields (label (take (suc n) ts)) (with_items s (label_rest (drop (suc n) ts) ∷ s.left.items)))

-- the label is the next statement, unless it must not precede the directive; the rest of its line is
-- pending
abbrev pub unless_mislabelled : EnvironmentView → State → List Lexeme → Bool → ExpansionStep
unless_mislabelled k s ts true = finishes (raises (faults.NotUnderstood, s.left.place))
unless_mislabelled k s ts false = label_step k s ts (line_directive ts) (label_len ts)

-- Removes an end mark, at which as many conditions must be open as at its beginning. After the last one the
-- source ends.
abbrev pub end_mark_step : State → List Item → StepResult
end_mark_step s [] = ends s
end_mark_step s (end_mark k ∷ is) = if k.conditions == length s.conditions then continues (with_remaining s (remaining_input is s.left.room (restored_location s.left.place k.return_location))) else raises (faults.NotClosed, s.left.place)
end_mark_step s (_ ∷ is) = ends s

abbrev pub step_after : EnvironmentView → State → LineAndRest → ExpansionStep
step_after k s (Err e) = finishes (raises e)
step_after k s (Ok (Some ts, l)) = unless_mislabelled k (with_remaining s l) ts (is_mislabelled ts)
step_after k s (Ok (None, l)) = finishes (end_mark_step (with_remaining s l) l.items)

-- processes the rest of a line after its label, decides a pending branch, or reads the next line
abbrev pub step_from : EnvironmentView → State → List Item → ExpansionStep
step_from k s (label_rest ts ∷ is) = line_step k (with_items s is) ts (first_directive ts)
step_from k s (elseif_rest ts ∷ is) = if_line k (with_items s is) True ts
step_from k s _ = reads_line s.left (step_after k s)

-- the outcome of a step once all that it reads is known
abbrev pub StepReaches : Files → ExpansionStep → StepResult → Type 0
StepReaches m (finishes x) r = r ≡ x
StepReaches m (parses ts next) r = (q : Result (Tree × ℕ) ExprFault) × IsParsed ts q × StepReaches m (next q) r
StepReaches m (decides k test ts next) r = (c : Result Bool ExpandFault) × IsCondition k test ts c × StepReaches m (next c) r
StepReaches m (reads_line l next) r = (t : LineAndRest) × ReadsNextLine l t × StepReaches m (next t) r
StepReaches m (reads_block k l next) r = (q : Result (CompleteBlock × RemainingInput) LocatedError) × Block k 0 [] l q × (r ≡ and_then_result q (λ b. next b.0 b.1))
StepReaches m (searches l names next) r = StepReaches m (next (first_file m names)) r

-- the outcome of the step from a state
unfoldable pub IsStep : Files → EnvironmentView → State → StepResult → Type 0
IsStep m k s r = StepReaches m (step_from k s s.left.items) r

-- ---- Expansion: from a state to the next statement, and from a source to its first state.

-- what comes next: a statement with the next state, the end, or an error
pub data Next : Type 0 where
  statement : ExpandedStatement → State → Next
  nothing : State → Next
  fault : LocatedError → Next

-- steps from a state lead to this statement, end or error
pub data ReachesNext (m : Files) (k : EnvironmentView) : State → Next → Type 0 where
  further : (s t : State) (n : Next) → IsStep m k s (continues t) → ReachesNext m k t n → ReachesNext m k s n
  yielded : (s t : State) (x : ExpandedStatement) → IsStep m k s (yields x t) → ReachesNext m k s (statement x t)
  ended : (s t : State) → IsStep m k s (ends t) → ReachesNext m k s (nothing t)
  stopped : (s : State) (e : LocatedError) → IsStep m k s (raises e) → ReachesNext m k s (fault e)

-- all lines of a source
abbrev pub initial_input : List ℕ → List ℕ → RemainingInput
initial_input file bytes =
    remaining_input (file_lines_after 0 (lines_of bytes) ++ end_mark (record { is_macro = false; conditions = 0; return_location = None }) ∷ []) line_limit
    (record { file = file; line = 0 })

-- the state before the first line of a source
abbrev pub first_state : List ℕ → List (List ℕ) → List ℕ → State
first_state file folders bytes = record {
  left = initial_input file bytes;
  macros = [];
  conditions = [];
  expansions = 0;
  folders = folders;
}

-- the first state of the source with this name, or an error if it doesn't exist or is too long
abbrev pub first_state_in : Files → List ℕ → List (List ℕ) → Result State ExpandFault
first_state_in m file folders = bytes_in (file_named m file) >>= (λ bytes. Ok (first_state file folders bytes))

-- ---- Laws about the definitions.

-- from a state at most one thing comes next: a statement with the next state, the end, or an error with its
-- location
abbrev pub NextIsUnique : Type 0
NextIsUnique = (m : Files) (k : EnvironmentView) (s : State) (a b : Next) → ReachesNext m k s a → ReachesNext m k s b → a ≡ b
