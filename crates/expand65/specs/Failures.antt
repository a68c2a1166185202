-- The location of expansion when the store fails, and the statements of buffered lines.
use Rattle.std.specs.Prelude.{◌≡◌, ℕ, true, List, Some, None, Result, IfErr, ◌⊎◌, Bool, false, [], ◌∷◌, drop, Ok, ◌<◌, ◌≤◌}
use Rattle.std.specs.Option.{option_and_then}
use Rattle.base65.specs.Store.{Files, FailedAt, LastFailure}
use Rattle.expand65.specs.State.{EnvironmentView, State, ExpansionStep, finishes, parses, decides, reads_line, reads_block, searches, continues, ExpandedStatement, label, plain, IsCondition}
use Rattle.expand65.specs.Representation.{RepresentsState, location_of, RefinesNextStatement, measure_of, state_in, statement_of, macros_of, last_read_location, FailsAtLine, FailsInBlock, IsPositioned}
use Rattle.expand65.specs.Expansion.{IsStep, step_from}
use Rattle.expand65.specs.Types.{Expander, ExpandFault, SourceLocation, ExprFault, Peeked, Nothing, Statement, Preprocessor}
use Rattle.expand65.specs.Lines.{file_limit, InputEnd, innermost, LineAndRest, ReadsNextLine}
use Rattle.syntax65.specs.Faults.{is_failure}
use Rattle.syntax65.specs.Expressions.{IsParsed}
use Rattle.syntax65.specs.Tokens.{Lexeme}
use Rattle.syntax65.specs.Trees.{Tree}
use Rattle.expand65.specs.LineStart.{first_directive, label_len}
use Rattle.expand65.specs.Macros.{macro_at}
use Rattle.expand65.specs.Replay.{IsNextLine}

-- ---- A step of expansion in which the store fails, and its location.

-- the last failed call requested one of these names, at the offset after the maximum file size, if the
-- store tells it
abbrev pub FailedOnOneOf : LastFailure → List (List ℕ) → Type 0
FailedOnOneOf b [] = ⊥
FailedOnOneOf b (name ∷ names) = FailedAt b name file_limit ⊎ FailedOnOneOf b names

-- The store fails while a line is read, in a line of a block, or while a file is searched; or in a later
-- part of the step.
abbrev pub StepFails : Files → LastFailure → ExpansionStep → SourceLocation → Type 0
StepFails m b (finishes x) p = ⊥
StepFails m b (parses ts next) p = (q : Result (Tree × ℕ) ExprFault) × IsParsed ts q × StepFails m b (next q) p
StepFails m b (decides k test ts next) p = (c : Result Bool ExpandFault) × IsCondition k test ts c × StepFails m b (next c) p
StepFails m b (reads_line l next) p = FailsAtLine m b l p ⊎ ((t : LineAndRest) × ReadsNextLine l t × StepFails m b (next t) p)
StepFails m b (reads_block k l next) p = FailsInBlock m b k 0 l p
StepFails m b (searches l names next) p = (p ≡ l.place) × FailedOnOneOf b names

-- the store fails in the step from a state, at this location
unfoldable pub StepFailsAt : Files → LastFailure → EnvironmentView → State → SourceLocation → Type 0
StepFailsAt m b k s p = StepFails m b (step_from k s s.left.items) p

-- ---- The location of expansion after a failure of the store.

-- steps lead from one state to another without a statement
pub data SilentSteps (m : Files) (k : EnvironmentView) : State → State → Type 0 where
  no_step : (s : State) → SilentSteps m k s s
  one_more : (s t u : State) → SilentSteps m k s t → IsStep m k t (continues u) → SilentSteps m k s u

-- The store failed in a step between a state and its next statement; this is the location of the line read
-- last.
pub record FailsBetweenStatements (m : Files) (last_failure : LastFailure) (k : EnvironmentView) (s : State) (location : SourceLocation) : Type 0 where
  pub state : State
  pub reading : SourceLocation
  pub goes : SilentSteps m k s state
  pub fails : StepFailsAt m last_failure k state reading
  pub at : location ≡ last_read_location reading (option_and_then (λ k. k.return_location) (innermost state.left.items))

-- the location of an expander after a failure of the store, given the state that it represented, if its
-- files were read at the assumed positions
abbrev pub HasFailureBetweenStatements : {A : Type 0} → Files → LastFailure → EnvironmentView → Expander → Result A ExpandFault → Expander → Type 0
HasFailureBetweenStatements m last_failure k old result new =
    IsPositioned m old → (s : State) → RepresentsState m old s → IfErr result (λ e. is_failure e ≡ true → FailsBetweenStatements m last_failure k s (location_of new))

-- ---- The location of the input stack during a read, before it becomes that of the line read last.

-- where the input stack was reading when the store failed
pub record FailsWhileReading (m : Files) (last_failure : LastFailure) (k : EnvironmentView) (s : State) (mark : InputEnd) (location : SourceLocation) : Type 0 where
  pub state : State
  pub goes : SilentSteps m k s state
  pub fails : StepFailsAt m last_failure k state location
  pub within : innermost state.left.items ≡ Some mark

abbrev pub HasFailureWhileReading : {A : Type 0} → Files → LastFailure → EnvironmentView → State → Result A ExpandFault → InputEnd → SourceLocation → Type 0
HasFailureWhileReading m last_failure k s result mark location = IfErr result (λ e. is_failure e ≡ true → FailsWhileReading m last_failure k s mark location)

-- ---- Lines of files that need no expansion.

-- the next line is this buffered one with these tokens, and the line budget allows it
abbrev pub IsPeekedLine : Expander → Peeked → List Lexeme → Type 0
IsPeekedLine e p ts = (e.failed ≡ false) × (e.pending ≡ Nothing) × IsNextLine e.processor.stack p ts

-- no macro has the name of the first token
abbrev pub CallsNoMacro : Preprocessor → List Lexeme → Type 0
CallsNoMacro r [] = Unit {0}
CallsNoMacro r (t ∷ ts) = macro_at (macros_of r) t ≡ None

-- a line with a label of this many tokens, whose rest needs no expansion
abbrev pub NeedsNoExpansion : ℕ → Preprocessor → List Lexeme → Type 0
NeedsNoExpansion n r ts = (label_len ts ≡ n) × (first_directive (drop n ts) ≡ None) × CallsNoMacro r (drop n ts)

-- the statement after a label, if there is one
abbrev pub rest_statements : List Lexeme → List ExpandedStatement
rest_statements [] = []
rest_statements (t ∷ ts) = plain (t ∷ ts) ∷ []

-- the statements of a line: the label if there is one, and the rest if it isn't empty
abbrev pub line_statements : List Lexeme → List Lexeme → List ExpandedStatement
line_statements [] rest = rest_statements rest
line_statements (t ∷ ts) rest = label (t ∷ ts) ∷ rest_statements rest

-- steps lead from old to new without a statement
pub record StepsSilently (old new : Expander) : Type 0 where
  pub goes : (m : Files) (k : EnvironmentView) → SilentSteps m k (state_in m old) (state_in m new)
  pub failed : new.failed ≡ old.failed
  pub size : measure_of new ≤ measure_of old

-- the statement x comes next, in every environment
pub record YieldsStatement (old : Expander) (x : Statement) (new : Expander) : Type 0 where
  pub next : (m : Files) (k : EnvironmentView) → RefinesNextStatement m k old (Ok (Some x)) new
  pub less : measure_of new < measure_of old

-- these statements come next, all at one location
pub data YieldsStatements : Expander → List ExpandedStatement → Expander → Type 0 where
  none : (old new : Expander) → StepsSilently old new → YieldsStatements old [] new
  one_more : (old mid new : Expander) (x : Statement) (xs : List ExpandedStatement) → YieldsStatement old x mid → location_of mid ≡ location_of new → YieldsStatements mid xs new → YieldsStatements old (statement_of x ∷ xs) new
