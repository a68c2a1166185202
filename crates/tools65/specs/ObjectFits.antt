-- The numbers in the object that ca65 makes fit their types.
use Rattle.std.specs.Prelude.{◌≡◌, ℕ, ◌⊎◌, List, Option, Result, Ok, Err, ⊤}
use Rattle.base65.specs.Store.{Files}
use Rattle.object65.specs.Objects.{ObjectFits}
use Rattle.object65.specs.declared.object.Object.{Object}
use Rattle.semantics65.specs.Module as asm
use Rattle.sources65.specs.Reading.{IsOutcome}
use Rattle.cli65.specs.Line.{AssembleView, CommandView, assemble, link, archive, line_of}
use Rattle.cli65.specs.Messages.{arguments_memory_message}
use Rattle.cli65.specs.declared.fault.LineFault.{LineFault}
use Rattle.output65.specs.Outputs.{error_outcome}
use Rattle.output65.specs.RunEffects.{CommitsOutcome, Streams}
use Rattle.output65.specs.declared.outcome.Outcome.{Outcome}
use Rattle.output65.specs.declared.outcome.Status.{Status}
use Rattle.tools65.specs.Assembling.{job_in}
use Rattle.tools65.specs.Command.{IsOutcomeOfCommand, command_memory_message}

-- the object that an assembler's command line makes of these files, if it makes one: its numbers fit their types
abbrev pub SourceObjectFits : AssembleView → Files → Type 0
SourceObjectFits a m =
    (x : asm.Outcome) (object : Object) → IsOutcome m (job_in a) x → x.result ≡ Ok object → ObjectFits object

-- the same of a command line; only the assembler's makes an object
abbrev pub CommandObjectFits : CommandView → Files → Type 0
CommandObjectFits (assemble a) m = SourceObjectFits a m
CommandObjectFits (link l) m = ⊤
CommandObjectFits (archive a) m = ⊤

-- the outcome of a command line, and its object's numbers fit
abbrev pub IsFittingOutcome : CommandView → Files → Outcome → Type 0
IsFittingOutcome line m o = IsOutcomeOfCommand line m o × CommandObjectFits line m

-- A run's object fits, or the run only reports that memory ran out.
unfoldable pub RunObjectFits : CommandView → Files → Option Files → Streams → Status → Type 0
RunObjectFits line m new io status =
    CommandObjectFits line m ⊎ CommitsOutcome (error_outcome (command_memory_message line)) m new io status

-- The same of the command line that arguments are, if they are one. Memory may also run out before they are parsed.
abbrev pub ParsedObjectFits : Result CommandView LineFault → Files → Option Files → Streams → Status → Type 0
ParsedObjectFits (Ok line) m new io status =
    RunObjectFits line m new io status ⊎ CommitsOutcome (error_outcome arguments_memory_message) m new io status
ParsedObjectFits (Err e) m new io status = ⊤

unfoldable pub ArgsObjectFits : List (List ℕ) → Files → Option Files → Streams → Status → Type 0
ArgsObjectFits args = ParsedObjectFits (line_of args)
