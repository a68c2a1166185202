-- The state that an expander represents, how the code stores it, and where lines were being read when the
-- store failed.
use Rattle.std.specs.Prelude.{◌≡◌, ℕ, ◌-◌, Bool, true, false, List, [], ◌∷◌, ◌++◌, ◌<◌, length, map, Result, Ok, Err, ⊤, None, reverse, ◌==◌, Some, Option, IfErr, if◌then◌else◌, ◌+◌, ◌*◌, IfOk, IfSome, OnOk, ◌≤◌}
use Rattle.base65.specs.Outcome.{Unless}
use Rattle.base65.specs.Store.{Files, LastFailure}
use Rattle.syntax65.specs.Tokens.{Lexeme}
use Rattle.syntax65.specs.Faults.{is_system_error, is_failure}
use Rattle.expand65.specs.Replay.{tokens_in, remaining_replay, substitution_of, SkipsPlainLines, definition_of}
use Rattle.expand65.specs.Lines.{IsFileAt, IsReadingAt, remaining_file_lines, HasLineTokens, ReadsNextLine, iterations, Item, file_line, body_line, end_mark, InputEnd, RemainingInput, remaining_input, location_at, LocatedError, restored_location, Substitution, label_rest, elseif_rest, Definition}
use Rattle.expand65.specs.Types.{ExpandFault, LineSource, StoredLine, SourceLocation, Replay, InputStack, Directive, Preprocessor, Expander, Nothing, Rest, Statement}
use Rattle.expand65.specs.declared.input.LineSource.TheVariants as source
use Rattle.expand65.specs.declared.input.NextLine.{NextLine}
use Rattle.expand65.specs.declared.input.NextLine.TheVariants.{AtEnd, Numbered, Replayed}
use Rattle.expand65.specs.declared.input_stack.Input.{Input}
use Rattle.expand65.specs.Blocks.{Branch, Verdict, at_elseif, at_else, at_end, closed, line_verdict, still_open, rejected}
use Rattle.expand65.specs.declared.blocks.BlockEnd.{BlockEnd}
use Rattle.expand65.specs.declared.blocks.BlockEnd.TheVariants.{ElseIf, Else, End}
use Rattle.expand65.specs.declared.blocks.BlockKind.{BlockKind}
use Rattle.expand65.specs.declared.blocks.BlockStep.{BlockStep}
use Rattle.expand65.specs.declared.blocks.BlockStep.TheVariants.{Open, Closed}
use Rattle.expand65.specs.State.{State, with_items, label, plain, StepResult, continues, yields, raises, EnvironmentView, ExpandedStatement}
use Rattle.expand65.specs.declared.line_start.Directive.TheVariants as directive
use Rattle.expand65.specs.declared.preprocessor.LineOutcome.{LineOutcome}
use Rattle.expand65.specs.declared.preprocessor.LineOutcome.TheVariants.{Continue, Yield, LabelAndRest, DecideElseIf, EndOfInput}
use Rattle.expand65.specs.Expansion.{statement, nothing, fault, ReachesNext}
use Rattle.expand65.specs.declared.expander.PendingLine.{PendingLine}
use Rattle.expand65.specs.declared.expander.PendingLine.TheVariants as front
use Rattle.expand65.specs.declared.expander.Statement.TheVariants.{Label, Plain}

-- ---- The remaining lines of open files, macro calls and repeats.

-- the lines that remain of an iteration, and those of the iterations after it
abbrev pub remaining_iterations : Replay → ℕ → ℕ → List Item
remaining_iterations r next count = remaining_replay r ++ iterations (substitution_of r) (map tokens_in r.body.value.lines) next (count - next)

-- the lines that remain in a source of lines
abbrev pub remaining_in : Files → LineSource → List Item
remaining_in m (source.File f) = remaining_file_lines m f
remaining_in m (source.Call r) = remaining_replay r
remaining_in m (source.Repeat r next count) = remaining_iterations r next count

abbrev pub is_call : LineSource → Bool
is_call (source.Call r) = true
is_call _ = false

abbrev pub is_file : LineSource → Bool
is_file (source.File f) = true
is_file _ = false

abbrev pub IsFile : LineSource → Type 0
IsFile (source.File f) = ⊤
IsFile _ = ⊥

-- a line is buffered
abbrev pub IsReady : LineSource → Type 0
IsReady (source.File f) = f.at < length f.buffer.items
IsReady (source.Call r) = r.at < length r.body.value.lines
IsReady (source.Repeat r next count) = r.at < length r.body.value.lines

-- whether a line comes next, from a file with its number or from a body
abbrev pub HasNextLine : List Item → NextLine → Type 0
HasNextLine is AtEnd = is ≡ []
HasNextLine is (Numbered n) = (bytes : List ℕ) × ((others : List Item) × (is ≡ file_line n bytes ∷ others))
HasNextLine is Replayed = (e : Substitution) × ((ts : List Lexeme) × ((others : List Item) × (is ≡ body_line e ts ∷ others)))

-- the location after reading it
abbrev pub location_after_next : NextLine → SourceLocation → SourceLocation
location_after_next (Numbered n) p = location_at p n
location_after_next _ p = p

-- reads the first line
abbrev pub ReadsStoredLine : List Item → Result StoredLine ExpandFault → List Item → Type 0
ReadsStoredLine before (Ok line) after = (i : Item) × (before ≡ i ∷ after) × HasLineTokens i (Ok (tokens_in line))
ReadsStoredLine before (Err f) after = Unless (is_system_error f) ((i : Item) × ((others : List Item) × (before ≡ i ∷ others) × HasLineTokens i (Err f)))

-- ---- Nested inputs.

abbrev pub end_mark_of : Input → InputEnd
end_mark_of i = record { is_macro = is_call i.source; conditions = i.conditions; return_location = i.return_location }

-- the lines of an input with its end mark
abbrev pub input_items : Files → Input → List Item
input_items m i = remaining_in m i.source ++ end_mark (end_mark_of i) ∷ []

-- those of the outer inputs, the innermost of which is last
abbrev pub outer_items : Files → List Input → List Item
outer_items m [] = []
outer_items m (i ∷ is) = outer_items m is ++ input_items m i

abbrev pub remaining_of : Files → InputStack → RemainingInput
remaining_of m r = remaining_input (input_items m r.top ++ outer_items m r.outer.items) r.budget r.location

-- the result, mapped by view, satisfies the relation, with the location of an error, unless a system error
-- occurred
abbrev pub RefinesLocated : {A B : Type 0} → (A → B) → SourceLocation → Result A ExpandFault → (Result B LocatedError → Type 0) → Type 0
RefinesLocated view p (Ok a) IsAnswer = IsAnswer (Ok (view a))
RefinesLocated view p (Err f) IsAnswer = Unless (is_system_error f) (IsAnswer (Err (f, p)))

-- ---- The effects of lines on blocks, as the code returns them.

-- the directive that closes a block
abbrev pub branch_of : BlockEnd → Branch
branch_of (ElseIf line) = at_elseif (tokens_in line)
branch_of Else = at_else
branch_of End = at_end

-- the block continues with this many nested blocks open, or is closed
abbrev pub RefinesVerdict : Result BlockStep ExpandFault → Verdict → Type 0
RefinesVerdict (Ok (Open d)) v = v ≡ still_open d
RefinesVerdict (Ok (Closed end)) v = v ≡ closed (branch_of end)
RefinesVerdict (Err f) v = Unless (is_system_error f) (v ≡ rejected f)

-- skips lines that aren't kept
abbrev pub SkipsUncollectedLines : Bool → RemainingInput → RemainingInput → Type 0
SkipsUncollectedLines true l m = m ≡ l
SkipsUncollectedLines false l m = SkipsPlainLines l m

-- ---- The locations of open files.

-- a file is read at the location of the line read last
abbrev pub IsSourceAt : Files → LineSource → SourceLocation → Type 0
IsSourceAt m (source.File f) p = IsFileAt m f p
IsSourceAt m _ p = ⊤

-- the number of the file's line is that of the location
abbrev pub IsLineOf : LineSource → SourceLocation → Type 0
IsLineOf (source.File f) p = p.line ≡ f.line
IsLineOf _ p = ⊤

-- the location after reading one more line
abbrev pub next_location : LineSource → SourceLocation → SourceLocation
next_location s p = if is_file s then location_at p (p.line + 1) else p

-- an included file has a location to restore
abbrev pub HasReturnLocation : LineSource → Option SourceLocation → Type 0
HasReturnLocation s None = is_file s ≡ false
HasReturnLocation s (Some p) = ⊤

-- The same for nested inputs, from the innermost on, given the location; the source has no location to
-- restore.
abbrev pub AreInputsAt : Files → List Input → SourceLocation → Type 0
AreInputsAt m [] p = ⊤
AreInputsAt m (i ∷ []) p = IsSourceAt m i.source p × (i.return_location ≡ None)
AreInputsAt m (i ∷ j ∷ is) p = IsSourceAt m i.source p × HasReturnLocation i.source i.return_location × AreInputsAt m (j ∷ is) (restored_location p i.return_location)

-- the open inputs, from the innermost on
abbrev pub open_inputs : InputStack → List Input
open_inputs r = r.top ∷ reverse r.outer.items

-- the open files are read at the positions that the input stack assumes
unfoldable pub IsStackPositioned : Files → InputStack → Type 0
IsStackPositioned m r = AreInputsAt m (open_inputs r) r.location

-- the same for the files that a store tells
abbrev pub IsStackPositionedIfKnown : Option Files → InputStack → Type 0
IsStackPositionedIfKnown files r = IfSome files (λ m. IsStackPositioned m r)

-- the innermost end mark and the outer inputs are unchanged
pub record PreservesInnermost (old new : InputStack) : Type 0 where
  pub mark : end_mark_of new.top ≡ end_mark_of old.top
  pub outer : new.outer ≡ old.outer

-- ---- The location of reading after a failure of the store.

-- a line of a file or its end comes next: only then the store is called
abbrev pub NeedsStoreCall : List Item → Type 0
NeedsStoreCall (file_line n bytes ∷ is) = ⊤
NeedsStoreCall (end_mark k ∷ is) = k.is_macro ≡ false
NeedsStoreCall _ = ⊥

-- The store fails while the next line is read: before its first byte, at the location of the previous line,
-- or within it, at its own location.
pub data FailsAtLine (m : Files) (last_failure : LastFailure) (l : RemainingInput) : SourceLocation → Type 0 where
  before : NeedsStoreCall l.items → IsReadingAt m last_failure l.place → FailsAtLine m last_failure l l.place
  within : (n : ℕ) (bytes : List ℕ) (is : List Item) → l.items ≡ file_line n bytes ∷ is → IsReadingAt m last_failure (location_at l.place n) → FailsAtLine m last_failure l (location_at l.place n)

-- The store fails in a line of a block, after lines that don't close the block.
pub data FailsInBlock (m : Files) (last_failure : LastFailure) (k : BlockKind) : ℕ → RemainingInput → SourceLocation → Type 0 where
  at_line : (d : ℕ) (l : RemainingInput) (p : SourceLocation) → FailsAtLine m last_failure l p → FailsInBlock m last_failure k d l p
  after_line : (d c : ℕ) (l n : RemainingInput) (ts : List Lexeme) (p : SourceLocation) → ReadsNextLine l (Ok (Some ts, n)) → line_verdict k d ts ≡ still_open c → FailsInBlock m last_failure k c n p → FailsInBlock m last_failure k d l p

-- the input stack is at such a location, in the input in which it began
pub record IsAtFailure (IsLocation : SourceLocation → Type 0) (old new : InputStack) : Type 0 where
  pub is_location : IsLocation new.location
  pub mark : end_mark_of new.top ≡ end_mark_of old.top

-- the location of an input stack after a failure of the store
abbrev pub HasFailureLocation : {A : Type 0} → (SourceLocation → Type 0) → InputStack → InputStack → Result A ExpandFault → Type 0
HasFailureLocation IsLocation old new result = IfErr result (λ e. is_failure e ≡ true → IsAtFailure IsLocation old new)

-- The location of the line read last: if no line of an included file was read, that of the line that
-- includes it.
abbrev pub last_read_location : SourceLocation → Option SourceLocation → SourceLocation
last_read_location p return_location = if p.line == 0 then restored_location p return_location else p

-- ---- The state that a preprocessor represents, and the results of its calls.

-- the macros, by name
abbrev pub macros_of : Preprocessor → List (List ℕ × Definition)
macros_of r = map (λ e. (e.0.items, definition_of e.1.value)) r.macros.entries

-- the state without a pending line
abbrev pub state_of : Files → Preprocessor → State
state_of m r = record { left = remaining_of m r.stack; macros = macros_of r; conditions = r.conditions; expansions = r.expansions; folders = r.folders }

-- the step result of a line outcome, given the state of the inputs after it
abbrev pub outcome_of_line : State → LineOutcome → StepResult
outcome_of_line s Continue = continues s
outcome_of_line s (Yield line) = yields (plain (tokens_in line)) s
outcome_of_line s (LabelAndRest line rest) = yields (label (tokens_in line)) (with_items s (label_rest (tokens_in rest) ∷ s.left.items))
outcome_of_line s (DecideElseIf line) = continues (with_items s (elseif_rest (tokens_in line) ∷ s.left.items))
outcome_of_line s EndOfInput = continues (with_items s [])

-- the line outcome refines such a step result, unless a system error occurred
abbrev pub RefinesLineOutcome : Result LineOutcome ExpandFault → State → (StepResult → Type 0) → Type 0
RefinesLineOutcome (Ok t) s IsSo = IsSo (outcome_of_line s t)
RefinesLineOutcome (Err f) s IsSo = Unless (is_system_error f) (IsSo (raises (f, s.left.place)))

-- the same for a step from the state before, if the store's files are known
abbrev pub HasLineOutcome : Option Files → Preprocessor → Preprocessor → Result LineOutcome ExpandFault → (Files → State → StepResult → Type 0) → Type 0
HasLineOutcome files old new result IsSo = IfSome files (λ m. RefinesLineOutcome result (state_of m new) (IsSo m (state_of m old)))

-- the same for this step, for all files
abbrev pub HasLineOutcomeForAllFiles : Preprocessor → Preprocessor → Result LineOutcome ExpandFault → (State → StepResult) → Type 0
HasLineOutcomeForAllFiles old new result step = (m : Files) → RefinesLineOutcome result (state_of m new) (λ r. r ≡ step (state_of m old))

-- the location of the preprocessor after a failure of the store, given the state before, if the files are
-- known
abbrev pub HasFailureLocationIfKnown : Option Files → Preprocessor → Preprocessor → Result LineOutcome ExpandFault → (Files → State → SourceLocation → Type 0) → Type 0
HasFailureLocationIfKnown files old new result IsLocation = IsStackPositionedIfKnown files old.stack → IfSome files (λ m. HasFailureLocation (IsLocation m (state_of m old)) old.stack new.stack result)

-- An upper bound for the remaining lines and ends of inputs. A line may open an input.
abbrev pub size_of : Preprocessor → ℕ
size_of r = 3 * r.stack.budget + length r.stack.outer.items

-- the weight of the pending line of an outcome
abbrev pub weight_of : LineOutcome → ℕ
weight_of Continue = 1
weight_of (Yield line) = 1
weight_of (LabelAndRest line rest) = 3
weight_of (DecideElseIf line) = 3
weight_of EndOfInput = 0

-- the frame of processing one line
pub record PreservesPositions (files : Option Files) (old new : Preprocessor) (result : Result LineOutcome ExpandFault) : Type 0 where
  pub stands : IsStackPositionedIfKnown files old.stack → OnOk result (IsStackPositionedIfKnown files new.stack)
  pub size : IfOk result (λ t. size_of new + weight_of t ≤ size_of old + 2)

-- a directive without operands
abbrev pub has_no_operands : Directive → Bool
has_no_operands directive.EndMacro = true
has_no_operands directive.ExitMacro = true
has_no_operands directive.EndRepeat = true
has_no_operands directive.Else = true
has_no_operands directive.EndIf = true
has_no_operands directive.End = true
has_no_operands _ = false

-- ---- The state that an expander represents.

-- the remaining input with the pending line in front
abbrev pub items_with_pending : PendingLine → List Item → List Item
items_with_pending Nothing is = is
items_with_pending (Rest line) is = label_rest (tokens_in line) ∷ is
items_with_pending (front.Branch line) is = elseif_rest (tokens_in line) ∷ is
items_with_pending front.End is = []

abbrev pub is_end : PendingLine → Bool
is_end front.End = true
is_end _ = false

-- a state with this pending line
abbrev pub with_pending : PendingLine → State → State
with_pending f s = with_items s (items_with_pending f s.left.items)

-- the state of the contents of an expander
abbrev pub state_in : Files → Expander → State
state_in m e = with_pending e.pending (state_of m e.processor)

-- an expander that hasn't failed represents one state
abbrev pub RepresentsState : Files → Expander → State → Type 0
RepresentsState m e s = (e.failed ≡ false) × (state_in m e ≡ s)

-- its open files are read at the positions that it assumes
abbrev pub IsPositioned : Files → Expander → Type 0
IsPositioned m e = IsStackPositioned m e.processor.stack

-- the location of the line read last
abbrev pub location_of : Expander → SourceLocation
location_of e = e.processor.stack.location

abbrev pub statement_of : Statement → ExpandedStatement
statement_of (Label line) = label (tokens_in line)
statement_of (Plain line) = plain (tokens_in line)

-- ---- The results of its calls.

-- an opened source represents its first state, unless a system error occurred
abbrev pub RepresentsFirstState : Files → Result Expander ExpandFault → Result State ExpandFault → Type 0
RepresentsFirstState m (Ok e) first = (s : State) × (first ≡ Ok s) × RepresentsState m e s
RepresentsFirstState m (Err f) first = Unless (is_system_error f) (first ≡ Err f)

-- from a state: a statement with the next state, the end, or an error at a location
abbrev pub RefinesNext : Files → EnvironmentView → State → Result (Option Statement) ExpandFault → State → Type 0
RefinesNext m k s (Ok (Some x)) t = ReachesNext m k s (statement (statement_of x) t)
RefinesNext m k s (Ok None) t = ReachesNext m k s (nothing t)
RefinesNext m k s (Err f) t = Unless (is_system_error f) (ReachesNext m k s (fault (f, t.left.place)))

-- the next statement of the state that an expander represented, and the state that it represents then
abbrev pub RefinesAnswer : Files → EnvironmentView → State → Result (Option Statement) ExpandFault → Expander → Type 0
RefinesAnswer m k s (Ok (Some x)) new = (t : State) × ReachesNext m k s (statement (statement_of x) t) × RepresentsState m new t
RefinesAnswer m k s (Ok None) new = (t : State) × ReachesNext m k s (nothing t) × RepresentsState m new t
RefinesAnswer m k s (Err f) new = Unless (is_system_error f) (ReachesNext m k s (fault (f, location_of new)))

abbrev pub RefinesNextStatement : Files → EnvironmentView → Expander → Result (Option Statement) ExpandFault → Expander → Type 0
RefinesNextStatement m k old r new = (s : State) → RepresentsState m old s → RefinesAnswer m k s r new

-- ---- One step, and the measure of the remaining input.

-- a step without or with a statement
abbrev pub step_of : State → Option Statement → StepResult
step_of s None = continues s
step_of s (Some x) = yields (statement_of x) s

-- the weight of a pending line: each line counts three times, so that each statement decreases the measure
abbrev pub weight_in : PendingLine → ℕ
weight_in Nothing = 1
weight_in (Rest line) = 3
weight_in (front.Branch line) = 3
weight_in front.End = 0

abbrev pub measure_of : Expander → ℕ
measure_of e = size_of e.processor + weight_in e.pending
