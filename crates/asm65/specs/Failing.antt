-- The store fails while a source is read: what was assembled before, and the location of the failure.
use Rattle.std.specs.Prelude.{◌≡◌, ◌⊎◌, ℕ, true, List, [], IfErr, Some, Ok, Err}
use Rattle.base65.specs.Store.{Files, FailedAt, LastFailure}
use Rattle.expand65.specs.Expansion.{ReachesNext, first_state_in, statement}
use Rattle.expand65.specs.State as expand
use Rattle.expand65.specs.Failures.{FailsBetweenStatements}
use Rattle.expand65.specs.Lines.{file_limit}
use Rattle.syntax65.specs.declared.fault.ExpandFault.TheVariants as expansion
use Rattle.syntax65.specs.declared.source_location.SourceLocation.{SourceLocation}
use Rattle.ast65.specs.declared.fault.AsmFault.{AsmFault}
use Rattle.ast65.specs.declared.fault.AsmFault.TheVariants.{Expansion, FileError, FileNotFound}
use Rattle.semantics65.specs.Layout.{empty_layout}
use Rattle.semantics65.specs.Module.{LocatedFault, stdout_text, warning_text}
use Rattle.sources65.specs.Reading.{DefinesConstants, StatementSemantics, AssemblesExpanded, Job, layout_semantics, no_line}
use Rattle.asm65.specs.Assembly.{is_store_failure, located_fault, AnswersWithoutFile}
use Rattle.asm65.specs.declared.assembling.Assembly.{Assembly}

-- The constants of the command line and the first statements of a source, one after the other, lead from the first state
-- to another; and this is what expansion has left.
pub data ReachesState {S : Type 0} (m : Files) (b : StatementSemantics S) (first : S) (job : Job) : expand.State → S → Type 0 where
  first_state :
      (s : expand.State) (y : S) → first_state_in m job.source job.include ≡ Ok s →
      DefinesConstants b.step_relation first (no_line job.source) job.defines (Ok y) → ReachesState m b first job s y
  next_state :
      (s left : expand.State) (x : expand.ExpandedStatement) (y z : S) → ReachesState m b first job s y →
      ReachesNext m (b.environment y) s (statement x left) →
      AssemblesExpanded m b.step_relation y left.left.place x (Ok z) → ReachesState m b first job left z

-- Expansion gives a statement next, at this location. Its error would be that its file isn't there, if the file of the last
-- failed call weren't there. So that is this statement's file, and no error comes before this one.
pub record IsNextStatement {S : Type 0} (m : Files) (b : StatementSemantics S) (last_failure : LastFailure) (s : expand.State) (y : S) (location : SourceLocation) :
    Type 0 where
  pub stated : expand.ExpandedStatement
  pub left : expand.State
  pub reaches : ReachesNext m (b.environment y) s (statement stated left)
  pub at : location ≡ left.left.place
  pub unread : AnswersWithoutFile (Some m) last_failure (λ m y. AssemblesExpanded m b.step_relation y location stated) y (Err FileNotFound)

-- The store failed at the next statement, whose file can't be read, or before expansion gave one.
abbrev pub IsFailureLocation : {S : Type 0} → Files → StatementSemantics S → LastFailure → expand.State → S → AsmFault → SourceLocation → Type 0
IsFailureLocation m b last_failure s y FileError location = IsNextStatement m b last_failure s y location
IsFailureLocation m b last_failure s y (Expansion e) location = FailsBetweenStatements m last_failure (b.environment y) s location
IsFailureLocation m b last_failure s y _ location = ⊥

-- The store failed after some of the statements, and what they print was printed.
pub record FailsAfterStatements {S : Type 0} (b : StatementSemantics S) (first : S) (out_of err_of : S → List ℕ)
    (m : Files) (last_failure : LastFailure) (job : Job) (e : LocatedFault) (out err : List ℕ) : Type 0 where
  pub left : expand.State
  pub following : S
  pub taken : ReachesState m b first job left following
  pub failure_location : IsFailureLocation m b last_failure left following e.fault e.place
  pub printed_out : out ≡ out_of following
  pub printed_err : err ≡ err_of following

-- after statements that are laid out
abbrev pub FailsAfterLayout : Files → LastFailure → Job → LocatedFault → (out err : List ℕ) → Type 0
FailsAfterLayout = FailsAfterStatements layout_semantics empty_layout (λ y. stdout_text y.laid) (λ y. warning_text y.laid)

-- no file, and no line
abbrev pub no_location : SourceLocation
no_location = record { file = []; line = 0 }

-- It failed at the source itself, before a line was read: there is no location, and nothing was printed.
pub record FailsAtSource (last_failure : LastFailure) (job : Job) (e : LocatedFault) (out err : List ℕ) : Type 0 where
  pub source : FailedAt last_failure job.source file_limit
  pub fault : e.fault ≡ Expansion expansion.FileError
  pub place : e.place ≡ no_location
  pub no_out : out ≡ []
  pub no_err : err ≡ []

-- the location of a failure, and what was printed before it
abbrev pub IsStoreFailureOutcome : Files → LastFailure → Job → LocatedFault → (out err : List ℕ) → Type 0
IsStoreFailureOutcome m last_failure job e out err = FailsAtSource last_failure job e out err ⊎ FailsAfterLayout m last_failure job e out err

-- an assembly that ends since the store failed
abbrev pub ReportsStoreFailure : Files → LastFailure → Job → Assembly → Type 0
ReportsStoreFailure m last_failure job a =
    IfErr a.result (λ e. is_store_failure e ≡ true → IsStoreFailureOutcome m last_failure job (located_fault e) a.out a.err)
