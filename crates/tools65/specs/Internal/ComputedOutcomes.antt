-- The outcome of a command line once its files are read, before anything is printed or written.
use Rattle.std.specs.Prelude.{◌≡◌, ℕ, ◌≤◌, ◌⊎◌, List, Option, Result, IfOk}
use Rattle.base65.specs.Store.{LastFailure, Files, HasFailed}
use Rattle.cli65.specs.Line.{CommandView}
use Rattle.output65.specs.declared.outcome.Outcome.{Outcome}
use Rattle.output65.specs.declared.outcome.Status.TheVariants.{Failure}
use Rattle.output65.specs.Outputs.{error_outcome}
use Rattle.tools65.specs.Command.{command_memory_message}
use Rattle.tools65.specs.Failures.{ReportsFailureOrMemory, outcome_without_files}
use Rattle.tools65.specs.ObjectFits.{IsFittingOutcome}

-- an outcome that only reports why a call of the store failed, or that memory ran out, given the last failed call
abbrev pub IsFailureReport : CommandView → Files → LastFailure → Outcome → Type 0
IsFailureReport line m last_failure o = (out : List ℕ) × (err : List ℕ) × ReportsFailureOrMemory line m last_failure out err × (o ≡ outcome_without_files out err)

-- An outcome that was computed from these files, between two counts of failures. If no call failed, it is that of the command
-- line, whose object fits, or only reports that memory ran out; otherwise it reports why. (`HasFailed old new → ⊥` is weaker than
-- `NoneFailed old new`, which also states that the counts are equal: with `monotone` of the frame below they are.)
pub record ComputesOutcome (line : CommandView) (m : Files) (last_failure : LastFailure) (old new : ℕ) (o : Outcome) : Type 0 where
  pub done : (HasFailed old new → ⊥) → IsFittingOutcome line m o ⊎ (o ≡ error_outcome (command_memory_message line))
  pub failed : HasFailed old new → IsFailureReport line m last_failure o

-- The results of computing an outcome: the files are unchanged, and the outcome is a failure if a call
-- failed.
pub record ComputeFrame {X E : Type 0} (files_of : X → Option Files) (failures_of : X → ℕ) (old new : X) (result : Result Outcome E) : Type 0 where
  pub files : files_of new ≡ files_of old
  pub monotone : failures_of old ≤ failures_of new
  pub failing : HasFailed (failures_of old) (failures_of new) → IfOk result (λ o. o.status ≡ Failure)
