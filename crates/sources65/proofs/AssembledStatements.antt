-- Assembling the statements of a source in order: the first state, one further statement, and each kind of end.
use Rattle.std.proofs.lemmas.Grind.{common_steps}
use Rattle.expand65.specs.State as expand
use Rattle.syntax65.specs.Faults as expansion
use Rattle.std.proofs.Common.{arith, ◌≡◌, List, [], ◌∷◌, refl, sym, subst, Some, Bool, true, false, ap, Option}
use Rattle.std.specs.Prelude.{Result, Ok, Err, length}
use Rattle.base65.specs.Store.{Files}
use Rattle.syntax65.specs.Trees.{number}
use Rattle.syntax65.specs.declared.fault.ExpandFault.{ExpandFault}
use Rattle.syntax65.specs.declared.source_location.SourceLocation.{SourceLocation}
use Rattle.expand65.specs.Expansion.{ReachesNext, statement, nothing, fault, first_state_in}
use Rattle.ast65.specs.declared.fault.AsmFault.{AsmFault}
use Rattle.ast65.specs.declared.fault.AsmFault.TheVariants.{Expansion}
use Rattle.ast65.specs.declared.language.Statement.TheVariants.{Constant}
use Rattle.sources65.specs.Reading.{StateImpliesResult, DefinesConstants, statement_assembled, statement_rejected, expansion_rejected, source_ended, StatementSemantics, Define, AssemblesOpeningResult, AssemblesExpanded, AssemblesSource, Job, ReachedState, StepRelation, no_line, open_scope_fault, stopped_at}
use Rattle.base65.specs.Outcome.{Unless}
use Rattle.expand65.specs.declared.expander.Expander.{Expander}
use Rattle.expand65.specs.Representation.{RepresentsFirstState, RepresentsState, location_of}
use Rattle.ast65.specs.Faults.{is_system_error}
use Rattle.syntax65.specs.Tokens.{Lexeme, lexemes}
use Rattle.syntax65.specs.declared.lexing.tokens.Token.{Token}
use Rattle.ast65.specs.declared.language.Statement.{Statement}
use Rattle.ast65.specs.Parsing.{label_of}
use Rattle.semantics65.specs.Module.{statement_stdout, statement_warning}

-- ---- The statements of a source in order.

-- ---- Statements.

-- a statement is assembled
pub goes_on : {S : Type 0} (m : Files) (b : StatementSemantics S) (IsAll : ReachedState S → Type 0) (s t : expand.State) (x : expand.ExpandedStatement) (y z : S) → StateImpliesResult m b IsAll s y → ReachesNext m (b.environment y) s (statement x t) → AssemblesExpanded m b.step_relation y t.left.place x (Ok z) → StateImpliesResult m b IsAll t z
goes_on m b IsAll s t x y z inv reaches given = λ r h. inv r (statement_assembled s t x y z r reaches given h)

-- a statement has an error
pub stops : {S : Type 0} (m : Files) (b : StatementSemantics S) (IsAll : ReachedState S → Type 0) (s t : expand.State) (x : expand.ExpandedStatement) (y : S) (e : AsmFault) → StateImpliesResult m b IsAll s y → ReachesNext m (b.environment y) s (statement x t) → AssemblesExpanded m b.step_relation y t.left.place x (Err e) → IsAll (stopped_at y t.left.place e)
stops m b IsAll s t x y e inv reaches given = inv (stopped_at y t.left.place e) (statement_rejected s t x y e reaches given)

-- expansion has an error
pub is_refused : {S : Type 0} (m : Files) (b : StatementSemantics S) (IsAll : ReachedState S → Type 0) (s : expand.State) (y : S) (e : ExpandFault) (location : SourceLocation) → StateImpliesResult m b IsAll s y → ReachesNext m (b.environment y) s (fault (e, location)) → IsAll (stopped_at y location (Expansion e))
is_refused m b IsAll s y e location inv reaches = inv (stopped_at y location (Expansion e)) (expansion_rejected s y e location reaches)

-- the source ends
pub ends : {S : Type 0} (m : Files) (b : StatementSemantics S) (IsAll : ReachedState S → Type 0) (s t : expand.State) (y : S) → StateImpliesResult m b IsAll s y → ReachesNext m (b.environment y) s (nothing t) → IsAll (record { state = y; fault = open_scope_fault t.left.place (b.scope y) })
ends m b IsAll s t y inv reaches = inv (record { state = y; fault = open_scope_fault t.left.place (b.scope y) }) (source_ended s t y reaches)

-- ---- `-D` constants.

-- all results of the remaining constants from state `y` satisfy `IsAll`
abbrev pub DefinesOn :
    {S : Type 0} → StepRelation S → SourceLocation → (Result S AsmFault → Type 0) → List Define → S → Type 0
DefinesOn Steps location IsAll ds y = (r : Result _ AsmFault) → DefinesConstants Steps y location ds r → IsAll r

pub first_constant : {S : Type 0} (Steps : StepRelation S) (location : SourceLocation) (ds : List Define) (y : S) → DefinesOn Steps location (DefinesConstants Steps y location ds) ds y
first_constant Steps location ds y = λ r h. h

pub next_constant : {S : Type 0} (Steps : StepRelation S) (location : SourceLocation) (IsAll : Result S AsmFault → Type 0) (d : Define) (ds : List Define) (y z : S) → DefinesOn Steps location IsAll (d ∷ ds) y → Steps y location (Constant d.0 (number d.1)) (Ok z) → DefinesOn Steps location IsAll ds z
next_constant Steps location IsAll d ds y z inv takes = λ r h. inv r (Ok z, takes, h)

pub faulty_constant : {S : Type 0} (Steps : StepRelation S) (location : SourceLocation) (IsAll : Result S AsmFault → Type 0) (d : Define) (ds : List Define) (y : S) (e : AsmFault) → DefinesOn Steps location IsAll (d ∷ ds) y → Steps y location (Constant d.0 (number d.1)) (Err e) → IsAll (Err e)
faulty_constant Steps location IsAll d ds y e inv takes = inv (Err e) (Err e, takes, refl)

-- ---- A source.

-- the source can't be opened
pub not_opened : {S : Type 0} (m : Files) (b : StatementSemantics S) (job : Job) (y : S) (e : ExpandFault) → first_state_in m job.source job.include ≡ Err e → AssemblesSource m b job y (stopped_at y (no_line job.source) (Expansion e))
not_opened m b job y e is = subst (λ q. AssemblesOpeningResult m b job y q (stopped_at y (no_line job.source) (Expansion e))) (sym is) refl

-- a constant has an error
pub not_defined : {S : Type 0} (m : Files) (b : StatementSemantics S) (job : Job) (s : expand.State) (y : S) (e : AsmFault) → first_state_in m job.source job.include ≡ Ok s → DefinesConstants b.step_relation y (no_line job.source) job.defines (Err e) → AssemblesSource m b job y (stopped_at y (no_line job.source) e)
not_defined m b job s y e is defined = subst (λ q. AssemblesOpeningResult m b job y q (stopped_at y (no_line job.source) e)) (sym is) (Err e, defined, refl)

-- the constants are defined, and the statements begin
pub begins : {S : Type 0} (m : Files) (b : StatementSemantics S) (job : Job) (s : expand.State) (y z : S) → first_state_in m job.source job.include ≡ Ok s → DefinesConstants b.step_relation y (no_line job.source) job.defines (Ok z) → StateImpliesResult m b (AssemblesSource m b job y) s z
begins m b job s y z is defined = λ r h. subst (λ q. AssemblesOpeningResult m b job y q r) (sym is) (Ok z, defined, h)

-- ---- The statements of a source as an expander returns them.

-- an error of expansion is a system error if and only if its error of assembling is one
pub same_outside : (e : ExpandFault) → expansion.is_system_error e ≡ is_system_error (Expansion e)
same_outside x1 = grind (arith, common_steps)

unless_same : {P Q : Type 0} (a b : Bool) → a ≡ b → (P → Q) → Unless a P → Unless b Q
unless_same a true same f h = tt
unless_same true false same f h = absurd cc
unless_same false false same f h = f h

pub same_place : (m : Files) (e : Expander) (t : expand.State) → RepresentsState m e t → t.left.place ≡ location_of e
same_place m e t stands = ap (λ (s : expand.State). s.left.place) (sym stands.1)

-- ---- A source.

-- the source can't be opened
pub open_refused : {S : Type 0} (m : Files) (b : StatementSemantics S) (job : Job) (y : S) (e : ExpandFault) → RepresentsFirstState m (Err e) (first_state_in m job.source job.include) → Unless (is_system_error (Expansion e)) (AssemblesSource m b job y (stopped_at y (no_line job.source) (Expansion e)))
open_refused m b job y e opens = unless_same (expansion.is_system_error e) (is_system_error (Expansion e)) (same_outside e) (not_opened m b job y e) opens

-- a constant has an error
pub constants_refused : {S : Type 0} (m : Files) (b : StatementSemantics S) (job : Job) (opened : Expander) (y : S) (e : AsmFault) → RepresentsFirstState m (Ok opened) (first_state_in m job.source job.include) → DefinesConstants b.step_relation y (no_line job.source) job.defines (Err e) → AssemblesSource m b job y (stopped_at y (no_line job.source) e)
constants_refused m b job opened y e opens defined = not_defined m b job opens.0 y e opens.1 defined

-- ---- Statements.

-- ---- A label prints nothing.

abbrev IsQuiet : Option Statement → Type 0
IsQuiet o = (location : SourceLocation) (x : Statement) → o ≡ Some x → (statement_stdout x ≡ []) × (statement_warning location x ≡ [])

pub label_quiet : (ts : List Lexeme) → IsQuiet (label_of ts).0
label_quiet x1 = grind (arith, common_steps)

-- ---- The tokens after a label.

pub some_tokens : (tokens : List Token) → (length tokens ≡ 0 → ⊥) → lexemes tokens ≡ [] → ⊥
some_tokens x1 some e = grind (arith, common_steps)
