-- The one-pass machine, and laws about it and about the meaning of sources.
use Rattle.std.specs.Prelude.{◌≡◌, ℕ, List, [], ◌∷◌, ◌++◌, Option, Some, None, Result, Ok, Err, if◌then◌else◌}
use Rattle.base65.specs.Outcome.{◌>>=◌}
use Rattle.base65.specs.Store.{Files}
use Rattle.semantics65.specs.Types.{Object, AsmFault, Statement, SourceLocation}
use Rattle.semantics65.specs.declared.contexts.Context.{Context}
use Rattle.semantics65.specs.Contents.{Content, section_request}
use Rattle.semantics65.specs.Symbols.{LaidOutStatement, needs_section, Symbols, definitions_of, imports_of, scope_opened, symbols_of, with_new_names, zero_page_names}
use Rattle.semantics65.specs.Layout.{Cursor, laid_out_statement, cursor_after, start, line_fault, Layout}
use Rattle.semantics65.specs.Numbering.{object_with, AreWellFormedContents, IsWellFormedLayout}
use Rattle.semantics65.specs.Module.{LocatedFault, Outcome, statement_stdout, statement_warning, Piece, pieces_of, without_warning, stdout_text, warning_text, Purpose, value_result, expression_value, Fixup, Slot, resolved, deferred, slot_result, Resolution, resolution_of, module_resolution}
use Rattle.sources65.specs.Reading.{environment_at, StatementSemantics, AssemblesSource, Job, ReachedState, AreLaidOut, IsOutcome}
use Rattle.semantics65.specs.Norms.{Extends, IsFinal}
use Rattle.syntax65.specs.Trees.{Tree}
use Rattle.object65.specs.Form.{Form}

-- ---- States between statements.

-- a symbol table with the definitions of one more statement
abbrev pub symbols_after : Symbols → LaidOutStatement → Symbols
symbols_after y l = record {
  definitions = y.definitions ++ definitions_of l;
  scopes = y.scopes ++ scope_opened l.context.scope l.stated;
  imports = with_new_names y.imports (imports_of l.stated);
  zero_page = with_new_names y.zero_page (zero_page_names l.stated);
}

pub record State : Type 0 where
  pub symbols : Symbols
  pub cursor : Cursor
  -- contents, declarations and deferred pieces, in source order
  pub slots : List Slot
  -- the text for standard output, and the warnings
  pub out : List ℕ
  pub err : List ℕ

abbrev pub initial_state : State
initial_state = record {
  symbols = symbols_of [];
  cursor = start;
  slots = [];
  out = [];
  err = [];
}

-- ---- A statement.

abbrev pub with_fixup : State → Fixup → State
with_fixup t w = record t { slots = t.slots ++ deferred w ∷ [] }

abbrev pub with_content : State → Content → State
with_content t c = record t { slots = t.slots ++ resolved c ∷ [] }

-- requests the section of a statement, if it needs one
abbrev pub with_section_request : State → LaidOutStatement → State
with_section_request t l = if needs_section l.stated then with_content t (section_request l.context.segment) else t

-- whatever statements follow, and whatever was exported before, the piece has this content and no warning
abbrev pub HasFinalContent : Symbols → SourceLocation → Context → Piece → Content → Type 0
HasFinalContent y location s p c =
    (z : Symbols) (names : List (List ℕ)) → Extends y z →
    slot_result z names (deferred (record { place = location; context = s; piece = p })) ≡ Ok (without_warning c)

-- a piece is emitted at its line, if it is resolved there, or it is deferred
pub data PieceStep (location : SourceLocation) (s : Context) (t : State) (p : Piece) : State → Type 0 where
  emitted_now : (c : Content) → HasFinalContent t.symbols location s p c → PieceStep location s t p (with_content t c)
  deferred_piece_step : PieceStep location s t p (with_fixup t (record { place = location; context = s; piece = p }))

-- the pieces in order
abbrev pub PieceSteps : SourceLocation → Context → State → List Piece → State → Type 0
PieceSteps location s t [] u = u ≡ t
PieceSteps location s t (p ∷ ps) u = (v : State) × PieceStep location s t p v × PieceSteps location s v ps u

-- then its names are defined, and its output is printed
abbrev pub with_symbols : State → LaidOutStatement → State
with_symbols t l = record t {
  symbols = symbols_after t.symbols l;
  cursor = cursor_after t.symbols t.cursor l.stated;
  out = t.out ++ statement_stdout l.stated;
  err = t.err ++ statement_warning l.place l.stated;
}

abbrev pub StepsWithoutError : State → LaidOutStatement → Result State AsmFault → Type 0
StepsWithoutError t l r =
    (u : State) × PieceSteps l.place l.context (with_section_request t l) (pieces_of l.length l.encoding l.stated) u
    × (r ≡ Ok (with_symbols u l))

abbrev pub UnlessFault :
    {A : Type 0} → Option AsmFault → (Result A AsmFault → Type 0) → Result A AsmFault → Type 0
UnlessFault None Next r = Next r
UnlessFault (Some e) Next r = r ≡ Err e

-- the first error of a statement at its line, or the next state
abbrev pub StepsTo : State → SourceLocation → Statement → Result State AsmFault → Type 0
StepsTo t location x r =
    UnlessFault (line_fault t.symbols t.cursor x) (StepsWithoutError t (laid_out_statement t.symbols t.cursor location x)) r

abbrev pub machine_semantics : StatementSemantics State
machine_semantics = record {
  step_relation = StepsTo;
  environment = λ t. environment_at t.symbols t.cursor;
  scope = λ t. t.cursor.scope;
}

-- the statements of a source
abbrev pub RunsStatements : Files → Job → ReachedState State → Type 0
RunsStatements m job r = AssemblesSource m machine_semantics job initial_state r

-- ---- After the last line.

-- the resolution of a state after the last line
abbrev pub resolution_of_state : State → Resolution
resolution_of_state t = resolution_of t.symbols [] t.slots

-- the outcome after the last line, or at the error of a line
abbrev pub outcome_of_state : State → Option LocatedFault → Outcome
outcome_of_state t None =
    let object : List Content → Object = object_with t.cursor.segments t.symbols.imports in
    record {
      result = (resolution_of_state t).found >>= (λ cs. Ok (object cs));
      out = t.out;
      err = t.err ++ (resolution_of_state t).printed_warnings;
    }
outcome_of_state t (Some e) = record { result = Err e; out = t.out; err = t.err }

-- ---- Laws about a source's layout and outcome, and the one pass.

-- a source has at most one layout
abbrev pub LayoutIsUnique : Type 0
LayoutIsUnique =
    (m : Files) (job : Job) (a b : ReachedState Layout) →
    AreLaidOut m job a → AreLaidOut m job b → a ≡ b

-- a source has at most one outcome: an object or an error with its location, and one text for each stream
abbrev pub OutcomeIsUnique : Type 0
OutcomeIsUnique =
    (m : Files) (job : Job) (a b : Outcome) →
    IsOutcome m job a → IsOutcome m job b → a ≡ b

-- the layout of a source is well-formed
abbrev pub LayoutIsWellFormed : Type 0
LayoutIsWellFormed =
    (m : Files) (job : Job) (r : ReachedState Layout) →
    AreLaidOut m job r → IsWellFormedLayout r.state

-- the conditions for the object of a well-formed layout hold
abbrev pub ContentsAreWellFormed : Type 0
ContentsAreWellFormed =
    (y : Layout) (cs : List Content) →
    IsWellFormedLayout y → (module_resolution y.laid).found ≡ Ok cs →
    AreWellFormedContents y.cursor.segments (symbols_of y.laid).imports cs

-- ---- The one-pass machine.

-- Representation relation: the state t has the symbol table, cursor and output of the layout y, and its
-- slots have the same resolution as the pieces of y.
pub record SimulatesLayout (y : Layout) (t : State) : Type 0 where
  pub symbols : t.symbols ≡ symbols_of y.laid
  pub cursor : t.cursor ≡ y.cursor
  pub out : t.out ≡ stdout_text y.laid
  pub err : t.err ≡ warning_text y.laid
  pub ending : resolution_of_state t ≡ module_resolution y.laid

-- the states that the machine reaches represent the layouts, with the same error of a line
abbrev pub MachineSimulatesLayout : Type 0
MachineSimulatesLayout =
    (m : Files) (job : Job) (r : ReachedState State) → RunsStatements m job r →
    (y : Layout) × AreLaidOut m job (record { state = y; fault = r.fault })
    × SimulatesLayout y r.state

-- a value whose form is final has the result of that form at its line, if that has no error and no warning
abbrev pub FinalFormIsResolved : Type 0
FinalFormIsResolved =
    (y : Symbols) (location : SourceLocation) (s : Context) (why : Purpose) (e : Tree) (f : Form) (c : Content) →
    IsFinal y s e f → value_result location s why f ≡ Ok (without_warning c) → HasFinalContent y location s (expression_value why e) c

-- one pass over the lines, and then one over the deferred pieces, assembles a source
abbrev pub OnePassSuffices : Type 0
OnePassSuffices =
    (m : Files) (job : Job) (r : ReachedState State) → RunsStatements m job r →
    IsOutcome m job (outcome_of_state r.state r.fault)

-- the machine reaches each layout: no line stops it except by its error
abbrev pub LayoutIsReachable : Type 0
LayoutIsReachable =
    (m : Files) (job : Job) (r : ReachedState Layout) → AreLaidOut m job r →
    (t : State) × RunsStatements m job (record { state = t; fault = r.fault })
