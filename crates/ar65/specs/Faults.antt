-- Why a line of the librarian is refused: in words, and whether the cause lies outside the files.
use Rattle.std.specs.Prelude.{ℕ, List, [], Bool, true, false, ◌||◌, get_or, if◌then◌else◌}
use Rattle.library65.specs.declared.fault.LibraryFault.TheVariants.{FileError}
use Rattle.library65.specs.Fault.{fault_text, is_memory as is_library_memory}
use Rattle.cli65.specs.Line.{ArchiveView}
use Rattle.cli65.specs.Messages.{file_message, file_memory_message}
use Rattle.ar65.specs.declared.fault.ArchiveFault.{ArchiveFault}
use Rattle.ar65.specs.declared.fault.ArchiveFault.TheVariants.{Library, File}

-- memory ran out
abbrev pub is_memory : ArchiveFault → Bool
is_memory (Library f) = is_library_memory f
is_memory (File k f) = is_library_memory f

-- the store failed
abbrev pub is_failure : ArchiveFault → Bool
is_failure (Library FileError) = true
is_failure (File k FileError) = true
is_failure _ = false

abbrev pub is_system_error : ArchiveFault → Bool
is_system_error e = is_memory e || is_failure e

-- the name of the FILE with this index among the FILEs
abbrev pub file_name_at : List (List ℕ) → ℕ → List ℕ
file_name_at files k = get_or files k []

-- the cause, after the name that it concerns
abbrev pub cause_message : ArchiveView → ArchiveFault → List ℕ
cause_message a (Library f) = file_message a.library (fault_text f)
cause_message a (File k f) = file_message (file_name_at a.files k) (fault_text f)

-- the message of an error, with the names of the command line; *out of memory* comes after the library's name
abbrev pub error_message : ArchiveView → ArchiveFault → List ℕ
error_message a e = if is_memory e then file_memory_message a.library else cause_message a e
