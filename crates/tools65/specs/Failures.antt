-- The results of a run in which a call of the store fails.
use Rattle.std.specs.Prelude.{◌≡◌, ℕ, ◌⊎◌, true, List, [], ◌++◌, Option, Some, Result, Ok, Err}
use Rattle.base65.specs.Store.{Files, max_failures, LastFailure}
use Rattle.ar65.specs.declared.fault.ArchiveFault.{ArchiveFault}
use Rattle.ar65.specs.Naming.{IsCommandFailure as IsFaultOfArchive}
use Rattle.ar65.specs.Faults as archives
use Rattle.ld65.specs.declared.fault.LinkCommandFault.{LinkCommandFault}
use Rattle.ld65.specs.Faults.{is_failure, error_message}
use Rattle.ld65.specs.Naming.{IsCommandFailure as IsFaultOfLink}
use Rattle.ast65.specs.Faults as asm
use Rattle.cli65.specs.declared.fault.LineFault.{LineFault}
use Rattle.cli65.specs.Messages.{arguments_memory_message}
use Rattle.output65.specs.Outputs.{error_outcome}
use Rattle.cli65.specs.Line.{CommandView, assemble, link, archive, line_of}
use Rattle.semantics65.specs.Module.{LocatedFault}
use Rattle.asm65.specs.Failing.{IsStoreFailureOutcome}
use Rattle.tools65.specs.Assembling.{asm_message, job_in}
use Rattle.tools65.specs.Command.{ArgsRunHasOutcome, command_memory_message}
use Rattle.tools65.specs.ObjectFits.{IsFittingOutcome}
use Rattle.output65.specs.RunEffects.{CommitsOutcome, Streams}
use Rattle.output65.specs.WriteFailures.{HasWriteFailure}
use Rattle.output65.specs.declared.outcome.Outcome.{Outcome}
use Rattle.output65.specs.declared.outcome.Status.{Status}
use Rattle.output65.specs.declared.outcome.Status.TheVariants.{Failure}

-- texts for both streams, and failure
abbrev pub outcome_without_files : List ℕ → List ℕ → Outcome
outcome_without_files out err = record { out = out; err = err; outputs = []; status = Failure }

-- A call failed while files were read: no file is written, and the texts for both streams report why.
pub record FailsWhileReading (Why : List ℕ → List ℕ → Type 0) (old : Files) (new : Option Files) (io : Streams) (status : Status) : Type 0 where
  pub out : List ℕ
  pub err : List ℕ
  pub reason : Why out err
  pub performed : CommitsOutcome (outcome_without_files out err) old new io status

-- A run in which a call of the store failed: while the run read files, or while it wrote the files of the outcome that the files
-- before the run determine. `LastFailure` is the last failed call, if the store reveals it.
abbrev pub RunFails : (Files → Outcome → Type 0) → (Files → LastFailure → List ℕ → List ℕ → Type 0) → Files → Option Files → LastFailure → Streams → Status → Type 0
RunFails IsOutcomeOf Why m new last_failure io status =
    FailsWhileReading (Why m last_failure) m new io status
    ⊎ ((o : Outcome) × IsOutcomeOf m o × HasWriteFailure o m new last_failure io status)

-- The output of a command line of which a call failed while it read files: one message. For ca65 the message
-- has the location and follows the output of the source up to there. Otherwise it names the file that the
-- call requested: the script, an input or a member of one (`IsFaultOfLink`); the library or a FILE that is added
-- (`IsFaultOfArchive`).
abbrev pub ReportsFailure : CommandView → Files → LastFailure → List ℕ → List ℕ → Type 0
ReportsFailure (assemble a) m last_failure out err =
    (e : LocatedFault) × (before : List ℕ) × (asm.is_failure e.fault ≡ true) × IsStoreFailureOutcome m last_failure (job_in a) e out before × (err ≡ before ++ asm_message a.source e)
ReportsFailure (link l) m last_failure out err =
    (e : LinkCommandFault) × (is_failure e ≡ true) × IsFaultOfLink (Some m) last_failure l e × (out ≡ []) × (err ≡ error_message l e)
ReportsFailure (archive a) m last_failure out err =
    (e : ArchiveFault) × (archives.is_failure e ≡ true) × IsFaultOfArchive last_failure a e × (out ≡ []) × (err ≡ archives.error_message a e)

-- the output of such a command line, or the message that memory ran out as well
abbrev pub ReportsFailureOrMemory : CommandView → Files → LastFailure → List ℕ → List ℕ → Type 0
ReportsFailureOrMemory line m last_failure out err = ReportsFailure line m last_failure out err ⊎ ((out ≡ []) × (err ≡ command_memory_message line))

-- A run of a command line in which a call of the store failed. If it failed while files were written, the numbers of ca65's
-- object fit their types.
unfoldable pub CommandRunFails : CommandView → Files → Option Files → LastFailure → Streams → Status → Type 0
CommandRunFails line = RunFails (IsFittingOutcome line) (ReportsFailureOrMemory line)

-- Arguments that aren't a command line make no call of the store: their error is reported. `count` is the store's failure counter
-- when the run began. It can't rise above its maximum, so from there a run counts as failed even if it made no call: then memory
-- may also have run out while the arguments were parsed.
abbrev pub ParsedRunFails : ℕ → Result CommandView LineFault → Files → Option Files → LastFailure → Streams → Status → Type 0
ParsedRunFails count (Ok line) m new last_failure io status =
    CommandRunFails line m new last_failure io status
    ⊎ ((count ≡ max_failures) × CommitsOutcome (error_outcome arguments_memory_message) m new io status)
ParsedRunFails count (Err e) m new last_failure io status =
    ArgsRunHasOutcome (Err e) m new io status

unfoldable pub ArgsRunFails : ℕ → List (List ℕ) → Files → Option Files → LastFailure → Streams → Status → Type 0
ArgsRunFails count args = ParsedRunFails count (line_of args)
