-- Laws of the librarian, whatever the files.
use Rattle.std.specs.Prelude.{◌≡◌, ℕ, List, [], ◌∷◌, codes, map, Some, IfSome, Ok}
use Rattle.std.specs.FinMap.{get}
use Rattle.std.specs.List.{AllByRecursion}
use Rattle.base65.specs.SystemErrors.{IsNoSystemError}
use Rattle.base65.specs.Store.{FailedCall, Files}
use Rattle.object65.specs.Record.{IsBytes}
use Rattle.library65.specs.Libraries.{bytes_within_limit}
use Rattle.library65.specs.Spelling.{IsLibrary, Member}
use Rattle.cli65.specs.Line.{ArchiveView}
use Rattle.cli65.specs.Messages.{file_message}
use Rattle.cli65.specs.declared.line.Operation.{Operation}
use Rattle.cli65.specs.declared.line.Operation.TheVariants as operation
use Rattle.ar65.specs.declared.archiving.ArchiveResult.TheVariants as archived
use Rattle.ar65.specs.declared.members.MemberFile.{MemberFile}
use Rattle.ar65.specs.Librarian.{archive_result, extracted_files, with_files}
use Rattle.ar65.specs.Naming.{IsCommandFailure}
use Rattle.ar65.specs.Faults.{is_system_error, error_message}
use Rattle.ar65.specs.declared.fault.ArchiveFault.{ArchiveFault}

-- the FILEs that an operation reads
abbrev pub files_read : Operation → List (List ℕ) → List (List ℕ)
files_read operation.Replace files = files
files_read _ files = []

-- files of these names have bytes
abbrev pub HaveBytes : Files → List (List ℕ) → Type 0
HaveBytes m names = AllByRecursion (λ name. IfSome (get m name) IsBytes) names

-- the files that a command line reads hold bytes: its library, and the FILEs that it adds
abbrev pub ReadsBytes : Files → ArchiveView → Type 0
ReadsBytes m a = HaveBytes m (a.library ∷ files_read a.operation a.files)

-- the result of a command line for any files is no system error
abbrev pub ArchiveExists : Type 0
ArchiveExists = (m : Files) (a : ArchiveView) → IsNoSystemError is_system_error (archive_result m a)

-- a library that `r` or `d` writes can be read
abbrev pub EditsPreserveLibrary : Type 0
EditsPreserveLibrary =
    (m : Files) (a : ArchiveView) (bytes : List ℕ) → ReadsBytes m a
    → archive_result m a ≡ Ok (archived.Library bytes)
    → (ms : List Member) × IsLibrary bytes ms

-- each of these files is there under its name
abbrev pub HasMemberFiles : Files → List MemberFile → Type 0
HasMemberFiles m files = AllByRecursion (λ f. get m f.name ≡ Some f.bytes) files

-- Members that were all written as files, put into a library of no member in their order, are the same library.
abbrev pub ExtractThenAddIsIdentity : Type 0
ExtractThenAddIsIdentity =
    (bytes : List ℕ) (ms : List Member) (files : List MemberFile) (m : Files) → IsLibrary bytes ms
    → extracted_files ms [] ≡ Ok files → HasMemberFiles m files
    → (with_files m [] 0 (map (λ f. f.name) files) ≡ Ok ms) × (bytes_within_limit ms ≡ Ok bytes)

-- a call that failed while files were read has one message: the name that it asked for, and `file error`
abbrev pub ArchiveNamingIsUnique : Type 0
ArchiveNamingIsUnique =
    (a : ArchiveView) (c : FailedCall) (e : ArchiveFault) →
    IsCommandFailure (Some c) a e → error_message a e ≡ file_message c.name (codes "file error")
