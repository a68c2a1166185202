-- The outcome of a command: the texts for standard output and standard error, files and a status. (`asm.Outcome` is the
-- assembler's: an object or an error, and two such texts.)
use Rattle.std.specs.Prelude.{◌≡◌, ℕ, ◌⊎◌, List, [], ◌++◌, Option, Result, Ok, Err, if◌then◌else◌}
use Rattle.base65.specs.Store.{Files}
use Rattle.object65.specs.declared.object.Object.{Object}
use Rattle.object65.specs.Spelling.{object_bytes}
use Rattle.ast65.specs.Faults.{is_out_of_memory}
use Rattle.semantics65.specs.Module as asm
use Rattle.sources65.specs.Reading.{IsOutcome}
use Rattle.semantics65.specs.Module.{LocatedFault}
use Rattle.tools65.specs.Assembling.{IsOutputName, asm_message, job_in}
use Rattle.cli65.specs.declared.fault.LineFault.{LineFault}
use Rattle.link65.specs.declared.linking.Linked.{Linked}
use Rattle.ld65.specs.declared.fault.LinkCommandFault.{LinkCommandFault}
use Rattle.output65.specs.declared.outcome.Outcome.{Outcome}
use Rattle.output65.specs.declared.outcome.Status.{Status}
use Rattle.output65.specs.declared.outcome.Status.TheVariants.{Success, Failure}
use Rattle.output65.specs.RunEffects.{CommitsOutcome, HasMemoryFailure, Streams}
use Rattle.cli65.specs.Line.{AssembleView, LinkView, CommandView, assemble, link, archive, line_of}
use Rattle.ld65.specs.Linkage.{IsCommandLink}
use Rattle.output65.specs.Outputs.{error_outcome, outputs_of, with_map}
use Rattle.tools65.specs.Archives.{IsOutcomeOfArchive}
use Rattle.cli65.specs.Messages.{arguments_error_message, arguments_memory_message, file_memory_message}
use Rattle.ld65.specs.Faults.{error_message, link_memory_message}

-- the outcome of linking: warnings and files, the map last; or the error
abbrev pub link_outcome : LinkView → Result Linked LinkCommandFault → Outcome
link_outcome l (Ok linked) = record { out = []; err = linked.warnings; outputs = with_map l.map linked.files linked.map; status = Success }
link_outcome l (Err e) = error_outcome (error_message l e)

-- the outcome of a linker's command line with these files
abbrev pub IsOutcomeOfLink : LinkView → Files → Outcome → Type 0
IsOutcomeOfLink l m o = (r : Result Linked LinkCommandFault) × IsCommandLink m l r × (o ≡ link_outcome l r)

-- the outcome of assembling without an object: the output so far and the error; or only *out of memory*
abbrev pub failed_assembly_outcome : List ℕ → List ℕ → List ℕ → LocatedFault → Outcome
failed_assembly_outcome source out err e =
    if is_out_of_memory e.fault then error_outcome (file_memory_message source)
    else record { out = out; err = err ++ asm_message source e; outputs = []; status = Failure }

-- the outcome of assembling: the object's file; or the output so far and the error
abbrev pub IsResultOutcome : AssembleView → List ℕ → List ℕ → Result Object LocatedFault → Outcome → Type 0
IsResultOutcome a out err (Ok object) o =
    (name : List ℕ) × IsOutputName a.output a.source name × (o ≡ record { out = out; err = err; outputs = outputs_of name (object_bytes object); status = Success })
IsResultOutcome a out err (Err e) o = o ≡ failed_assembly_outcome a.source out err e

abbrev pub IsAssemblyOutcome : AssembleView → asm.Outcome → Outcome → Type 0
IsAssemblyOutcome a x o = IsResultOutcome a x.out x.err x.result o

-- the outcome of an assembler's command line with these files
abbrev pub IsOutcomeOfAssemble : AssembleView → Files → Outcome → Type 0
IsOutcomeOfAssemble a m o = (x : asm.Outcome) × IsOutcome m (job_in a) x × IsAssemblyOutcome a x o

-- A run has an outcome that `IsOutcomeOf` allows for the files before the run, or one that only reports that memory ran out.
-- The run prints the outcome's texts, writes its files and returns its status, or memory ran out while it wrote the files.
-- `Option Files` are the files after the run: `None` means that they aren't known, and then no run satisfies this.
abbrev pub RunHasOutcome : (Files → Outcome → Type 0) → List ℕ → Files → Option Files → Streams → Status → Type 0
RunHasOutcome IsOutcomeOf memory_text m new io status =
    (o : Outcome) × (IsOutcomeOf m o ⊎ (o ≡ error_outcome memory_text)) × (CommitsOutcome o m new io status ⊎ HasMemoryFailure o memory_text m new io status)

-- the outcome of a command line, given the files
abbrev pub IsOutcomeOfCommand : CommandView → Files → Outcome → Type 0
IsOutcomeOfCommand (assemble a) m o = IsOutcomeOfAssemble a m o
IsOutcomeOfCommand (link l) m o = IsOutcomeOfLink l m o
IsOutcomeOfCommand (archive a) m o = IsOutcomeOfArchive a m o

-- the outcome of arguments as a command, given the files
abbrev pub IsOutcomeOfArgs : Result CommandView LineFault → Files → Outcome → Type 0
IsOutcomeOfArgs (Ok line) m o = IsOutcomeOfCommand line m o
IsOutcomeOfArgs (Err e) m o = o ≡ error_outcome (arguments_error_message e)

-- the message if memory runs out while a command line runs
abbrev pub command_memory_message : CommandView → List ℕ
command_memory_message (assemble a) = file_memory_message a.source
command_memory_message (link l) = link_memory_message
command_memory_message (archive a) = file_memory_message a.library

-- A run with these arguments: of the command line that they parse to; if they don't parse, the run reports an error. Memory
-- may also run out before they are parsed.
abbrev pub ArgsRunHasOutcome : Result CommandView LineFault → Files → Option Files → Streams → Status → Type 0
ArgsRunHasOutcome (Ok line) m new io status =
    RunHasOutcome (IsOutcomeOfCommand line) (command_memory_message line) m new io status ⊎ CommitsOutcome (error_outcome arguments_memory_message) m new io status
ArgsRunHasOutcome (Err e) m new io status =
    RunHasOutcome (IsOutcomeOfArgs (Err e)) arguments_memory_message m new io status

-- Clause `done`: what a run with these arguments prints, writes and returns.
abbrev pub RunsCommand : List (List ℕ) → Files → Option Files → Streams → Status → Type 0
RunsCommand args = ArgsRunHasOutcome (line_of args)
