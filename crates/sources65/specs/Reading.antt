-- The statements of a source in order, their layout, and the outcome.
use Rattle.std.specs.Prelude.{Result, Ok, Err, ◌≡◌, ℕ, List, [], ◌∷◌, Option, Some, None, if◌then◌else◌, Bool, true, false}
use Rattle.semantics65.specs.Types.{SourceLocation, AsmFault, BadScope, Expansion, Statement, Constant, Incbin, IncbinPath}
use Rattle.base65.specs.Outcome.{AndThen, Unless}
use Rattle.base65.specs.Store.{Files}
use Rattle.syntax65.specs.Tokens.{Lexeme}
use Rattle.syntax65.specs.Trees.{number, name}
use Rattle.syntax65.specs.declared.fault.ExpandFault.{ExpandFault}
use Rattle.expand65.specs.Expansion.{ReachesNext, statement, nothing, fault, first_state_in, sibling_path, file_named}
use Rattle.expand65.specs.State as expand
use Rattle.ast65.specs.Faults.{is_system_error}
use Rattle.semantics65.specs.Layout.{is_not_global, Cursor, context_of, Layout, layout_after, empty_layout, line_fault, unless_fault}
use Rattle.ast65.specs.Parsing.{IsStatement, label_of}
use Rattle.expand65.specs.declared.expander.Expander.{Expander}
use Rattle.expand65.specs.Representation.{RepresentsState}
use Rattle.semantics65.specs.Symbols.{Binding, defined_at, binding_of, Symbols, symbols_of}
use Rattle.semantics65.specs.Module.{Outcome, LocatedFault, outcome_of}
use Rattle.semantics65.specs.Norms.{constant_in}

-- ---- The statements of a source in order, over any kind of state.

-- the step relation of a statement: state, location, statement, and next state or first error
abbrev pub StepRelation : Type 0 → Type 1
StepRelation S = S → SourceLocation → Statement → Result S AsmFault → Type 0

-- The semantics of statements over states S: the step relation, the environment of conditions, and the
-- innermost open scope.
pub record StatementSemantics (S : Type 0) : Type 1 where
  pub step_relation : StepRelation S
  pub environment : S → expand.EnvironmentView
  pub scope : S → ℕ

-- ---- A statement.

-- a label, if there is one
abbrev pub AssemblesLabel :
    {S : Type 0} → StepRelation S → S → SourceLocation → Option Statement → Result S AsmFault → Type 0
AssemblesLabel Steps y location None r = r ≡ Ok y
AssemblesLabel Steps y location (Some x) r = Steps y location x r

-- the bytes of a file, relative to the folder of the file that contains the statement
abbrev pub bytes_for : Files → SourceLocation → List ℕ → Option (List ℕ)
bytes_for m location n = file_named m (sibling_path location.file n)

-- a statement with the bytes that it reads from a file
abbrev pub with_bytes : Files → SourceLocation → Statement → Statement
with_bytes m location (IncbinPath n start len) = Incbin (bytes_for m location n) start len
with_bytes m location x = x

-- tokens as a statement, if there are any
abbrev pub AssemblesTokens :
    {S : Type 0} → Files → StepRelation S → S → SourceLocation → List Lexeme → Result S AsmFault → Type 0
AssemblesTokens m Steps y location [] r = r ≡ Ok y
AssemblesTokens m Steps y location (t ∷ ts) r =
    (x : Result Statement AsmFault) × IsStatement (t ∷ ts) x
    × AndThen x (λ s. Steps y location (with_bytes m location s)) r

-- the tokens of a label
abbrev pub AssemblesLabelTokens :
    {S : Type 0} → Files → StepRelation S → S → SourceLocation → List Lexeme → Result S AsmFault → Type 0
AssemblesLabelTokens m Steps y location ts r =
    (q : Result _ AsmFault) × AssemblesLabel Steps y location (label_of ts).0 q
    × AndThen q (λ z. AssemblesTokens m Steps z location (label_of ts).1) r

-- an expanded statement: a label, or a statement without one
abbrev pub AssemblesExpanded :
    {S : Type 0} → Files → StepRelation S → S → SourceLocation → expand.ExpandedStatement → Result S AsmFault → Type 0
AssemblesExpanded m Steps y location (expand.label ts) r = AssemblesLabelTokens m Steps y location ts r
AssemblesExpanded m Steps y location (expand.plain ts) r = AssemblesTokens m Steps y location ts r

-- ---- All statements.

-- the state after the statements up to the first error of a line, and that error, if any
pub record ReachedState (S : Type 0) : Type 0 where
  pub state : S
  pub fault : Option LocatedFault

abbrev pub stopped_at : {S : Type 0} → S → SourceLocation → AsmFault → ReachedState S
stopped_at y location e = record { state = y; fault = Some (record { place = location; fault = e }) }

-- the error of a scope that is open after the last line
abbrev pub open_scope_fault : SourceLocation → ℕ → Option LocatedFault
open_scope_fault last scope =
    if is_not_global scope then Some (record { place = last; fault = BadScope }) else None

-- From a state of expansion and a state S: expansion yields one statement after the other, in the
-- environment of the state before it, and each is assembled.
pub data AssemblesRest {S : Type 0} (m : Files) (b : StatementSemantics S) : expand.State → S → ReachedState S → Type 0 where
  statement_assembled :
      (s t : expand.State) (x : expand.ExpandedStatement) (y z : S) (r : ReachedState S) →
      ReachesNext m (b.environment y) s (statement x t) → AssemblesExpanded m b.step_relation y t.left.place x (Ok z) →
      AssemblesRest m b t z r → AssemblesRest m b s y r
  statement_rejected :
      (s t : expand.State) (x : expand.ExpandedStatement) (y : S) (e : AsmFault) →
      ReachesNext m (b.environment y) s (statement x t) → AssemblesExpanded m b.step_relation y t.left.place x (Err e) →
      AssemblesRest m b s y (stopped_at y t.left.place e)
  expansion_rejected :
      (s : expand.State) (y : S) (e : ExpandFault) (location : SourceLocation) →
      ReachesNext m (b.environment y) s (fault (e, location)) →
      AssemblesRest m b s y (stopped_at y location (Expansion e))
  source_ended :
      (s t : expand.State) (y : S) → ReachesNext m (b.environment y) s (nothing t) →
      AssemblesRest m b s y (record { state = y; fault = open_scope_fault t.left.place (b.scope y) })

-- ---- A source.

-- the name of a `-D` constant, and its value
abbrev pub Define : Type 0
Define = List ℕ × ℕ

-- `-D` constants are defined in the global scope before the first line
abbrev pub DefinesConstants :
    {S : Type 0} → StepRelation S → S → SourceLocation → List Define → Result S AsmFault → Type 0
DefinesConstants Steps y location [] r = r ≡ Ok y
DefinesConstants Steps y location (d ∷ ds) r =
    (q : Result _ AsmFault) × Steps y location (Constant d.0 (number d.1)) q
    × AndThen q (λ z. DefinesConstants Steps z location ds) r

-- the input of the assembler: a file, the folders of its includes, and the `-D` constants
pub record Job : Type 0 where
  pub source : List ℕ
  pub include : List (List ℕ)
  pub defines : List Define

abbrev pub no_line : List ℕ → SourceLocation
no_line file = record { file = file; line = 0 }

-- the statements of an opened source after the `-D` constants, or the error of a constant
abbrev pub AssemblesAfterDefines : {S : Type 0} → Files → StatementSemantics S → expand.State → SourceLocation → S →
    Result S AsmFault → ReachedState S → Type 0
AssemblesAfterDefines m b s location y (Ok z) r = AssemblesRest m b s z r
AssemblesAfterDefines m b s location y (Err e) r = r ≡ stopped_at y location e

abbrev pub AssemblesOpeningResult : {S : Type 0} → Files → StatementSemantics S → Job → S →
    Result expand.State ExpandFault → ReachedState S → Type 0
AssemblesOpeningResult m b job y (Err e) r = r ≡ stopped_at y (no_line job.source) (Expansion e)
AssemblesOpeningResult m b job y (Ok s) r =
    (q : Result _ AsmFault) × DefinesConstants b.step_relation y (no_line job.source) job.defines q
    × AssemblesAfterDefines m b s (no_line job.source) y q r

-- the state that a source reaches from an initial one
abbrev pub AssemblesSource : {S : Type 0} → Files → StatementSemantics S → Job → S → ReachedState S → Type 0
AssemblesSource m b job y r = AssemblesOpeningResult m b job y (first_state_in m job.source job.include) r

-- ---- Results of calls that assemble statements.

-- represents the state after a success, or has the error, unless a system error occurred
abbrev pub RepresentsOrFails :
    {S X : Type 0} → (Result S AsmFault → Type 0) → (S → Type 0) → Result X AsmFault → Type 0
RepresentsOrFails IsAnswer Holds (Ok x) = (z : _) × IsAnswer (Ok z) × Holds z
RepresentsOrFails IsAnswer Holds (Err e) = Unless (is_system_error e) (IsAnswer (Err e))

-- ---- From the middle of a source: the rest decides.

-- the statements from a state of expansion on lead to the final state of all
abbrev pub StateImpliesResult :
    {S : Type 0} → Files → StatementSemantics S → (ReachedState S → Type 0) → expand.State → S → Type 0
StateImpliesResult m b IsAll s y = (r : ReachedState _) → AssemblesRest m b s y r → IsAll r

-- the remaining statements of an expander lead to the final state of all
abbrev pub ExpanderImpliesResult :
    {S : Type 0} → Files → StatementSemantics S → (ReachedState S → Type 0) → Expander → S → Type 0
ExpanderImpliesResult m b IsAll e y = (s : expand.State) × RepresentsState m e s × StateImpliesResult m b IsAll s y

-- ---- The environment at a line.

-- an import is no definition, and neither is a name in a missing scope
abbrev pub is_definition : Result Binding AsmFault → Bool
is_definition (Ok (defined_at i)) = true
is_definition _ = false

-- the environment by the statements before
abbrev pub environment_at : Symbols → Cursor → expand.EnvironmentView
environment_at y w = record {
  value = constant_in y (context_of w);
  defined = λ global parts. is_definition (binding_of y (context_of w) (name global parts));
}

-- ---- From the statements of a source to its layout, or the first error of a line.

-- the layout with one more statement, or its first error
abbrev pub with_statement : Layout → SourceLocation → Statement → Result Layout AsmFault
with_statement y location x =
    unless_fault (line_fault (symbols_of y.laid) y.cursor x) (layout_after y location x)

abbrev pub IsLaidOut : Layout → SourceLocation → Statement → Result Layout AsmFault → Type 0
IsLaidOut y location x r = r ≡ with_statement y location x

abbrev pub layout_semantics : StatementSemantics Layout
layout_semantics = record {
  step_relation = IsLaidOut;
  environment = λ y. environment_at (symbols_of y.laid) y.cursor;
  scope = λ y. y.cursor.scope;
}

-- the statements of a source up to the first error of a line, and that error, if any
abbrev pub AreLaidOut : Files → Job → ReachedState Layout → Type 0
AreLaidOut m job r = AssemblesSource m layout_semantics job empty_layout r

-- the outcome of a source
abbrev pub IsOutcome : Files → Job → Outcome → Type 0
IsOutcome m job a = (r : ReachedState Layout) × AreLaidOut m job r × (a ≡ outcome_of r.state r.fault)
