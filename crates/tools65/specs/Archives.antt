-- The outcome of the librarian's command lines.
use Rattle.std.specs.Prelude.{◌≡◌, ℕ, List, [], ◌∷◌, map, Result, Ok, Err}
use Rattle.base65.specs.Store.{Files}
use Rattle.cli65.specs.Line.{ArchiveView}
use Rattle.base65.specs.declared.output.OutputFile.{OutputFile}
use Rattle.ar65.specs.declared.archiving.ArchiveResult.{ArchiveResult}
use Rattle.ar65.specs.declared.archiving.ArchiveResult.TheVariants.{Library, Names, Members}
use Rattle.ar65.specs.declared.members.MemberFile.{MemberFile}
use Rattle.ar65.specs.declared.fault.ArchiveFault.{ArchiveFault}
use Rattle.ar65.specs.Librarian.{archive_result}
use Rattle.ar65.specs.Faults.{error_message}
use Rattle.output65.specs.declared.outcome.Outcome.{Outcome}
use Rattle.output65.specs.declared.outcome.Status.TheVariants.{Success}
use Rattle.output65.specs.Outputs.{error_outcome}

-- the library's file, under its name in the command line
abbrev pub library_file : List ℕ → List ℕ → List OutputFile
library_file name bytes = record { name = name; bytes = bytes } ∷ []

abbrev pub output_of : MemberFile → OutputFile
output_of file = record { name = file.name; bytes = file.bytes }

-- it writes the library anew, prints names, or writes members to files of their names
abbrev pub archived_outcome : ArchiveView → ArchiveResult → Outcome
archived_outcome a (Library bytes) = record { out = []; err = []; outputs = library_file a.library bytes; status = Success }
archived_outcome a (Names text) = record { out = text; err = []; outputs = []; status = Success }
archived_outcome a (Members files) = record { out = []; err = []; outputs = map output_of files; status = Success }

-- the outcome, or the error
abbrev pub archive_outcome : ArchiveView → Result ArchiveResult ArchiveFault → Outcome
archive_outcome a (Ok x) = archived_outcome a x
archive_outcome a (Err e) = error_outcome (error_message a e)

-- the outcome of a command line of the librarian with these files
abbrev pub IsOutcomeOfArchive : ArchiveView → Files → Outcome → Type 0
IsOutcomeOfArchive a m o = o ≡ archive_outcome a (archive_result m a)
