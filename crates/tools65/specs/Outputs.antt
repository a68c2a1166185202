-- Laws of outputs: the files that ca65 and ar65 write are object files of sources and libraries of such members, as laws of
-- inputs require.
use Rattle.std.specs.Prelude.{◌≡◌, ℕ, ◌≤◌, List, length, IfSome, Ok}
use Rattle.std.specs.FinMap.{get}
use Rattle.std.specs.List.{AllByRecursion}
use Rattle.base65.specs.Store.{Files}
use Rattle.object65.specs.Reading.{file_limit}
use Rattle.cli65.specs.declared.line.Operation.TheVariants.{Replace}
use Rattle.cli65.specs.Line.{ArchiveView, AssembleView}
use Rattle.ar65.specs.declared.archiving.ArchiveResult.TheVariants as archived
use Rattle.ar65.specs.Librarian.{archive_result}
use Rattle.output65.specs.declared.outcome.Outcome.{Outcome}
use Rattle.output65.specs.declared.outcome.Status.TheVariants.{Success}
use Rattle.tools65.specs.Assembling.{job_in}
use Rattle.tools65.specs.Command.{IsOutcomeOfAssemble}
use Rattle.tools65.specs.ObjectFits.{SourceObjectFits}
use Rattle.tools65.specs.OneProgram.{Source}
use Rattle.tools65.specs.ObjectFiles.{IsSourceLibrary, IsSourceObject, IsObjectFileOf}

-- the source of an assembler's command line, with these files
abbrev pub source_in : AssembleView → Files → Source
source_in a m = record { files = m; job = job_in a }

-- A file that an assembler's command line writes is an object file of the line's source, if it is within the file size
-- limit. The premises are clauses `done` and `fits` of the run.
abbrev pub AssembledFileLaw : Type 0
AssembledFileLaw =
    (a : AssembleView) (m : Files) (o : Outcome) → IsOutcomeOfAssemble a m o → SourceObjectFits a m → o.status ≡ Success →
    AllByRecursion (λ f. length f.bytes ≤ file_limit → IsObjectFileOf (source_in a m) f.bytes) o.outputs

-- From object files that ca65 wrote, `r` makes a library of such members, if the library had only such members or none.
abbrev pub ArchivedSourcesLaw : Type 0
ArchivedSourcesLaw =
    (sources : List Source) (m : Files) (a : ArchiveView) (bytes : List ℕ) → a.operation ≡ Replace →
    IfSome (get m a.library) (IsSourceLibrary sources) →
    AllByRecursion (λ file. IfSome (get m file) (IsSourceObject sources)) a.files →
    archive_result m a ≡ Ok (archived.Library bytes) → IsSourceLibrary sources bytes
