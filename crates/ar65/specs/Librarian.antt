-- The operations of the librarian on a library and files.
use Rattle.std.specs.Prelude.{◌≡◌, ℕ, ◌+◌, List, [], ◌∷◌, ◌++◌, map, Option, Some, None, Result, Ok, Err, true}
use Rattle.std.specs.FinMap.{get}
use Rattle.std.specs.List.{flat_map, AllByRecursion}
use Rattle.std.specs.Path.{rsplit_once, slash}
use Rattle.std.specs.Str.{is_utf8}
use Rattle.base65.specs.Outcome.{◌>>=◌, try_map}
use Rattle.base65.specs.Store.{Files}
use Rattle.library65.specs.declared.fault.LibraryFault.{LibraryFault}
use Rattle.library65.specs.declared.fault.LibraryFault.TheVariants.{NoSuchMember}
use Rattle.library65.specs.Libraries.{bytes_of, without_named_member, library_at, member_names, with_new_member, bytes_within_limit}
use Rattle.library65.specs.Reading.{in_file}
use Rattle.library65.specs.Spelling.{Member}
use Rattle.cli65.specs.declared.line.Operation.{Operation}
use Rattle.cli65.specs.declared.line.Operation.TheVariants as operation
use Rattle.cli65.specs.Line.{ArchiveView}
use Rattle.ar65.specs.declared.archiving.ArchiveResult.{ArchiveResult}
use Rattle.ar65.specs.declared.archiving.ArchiveResult.TheVariants as archived
use Rattle.ar65.specs.declared.members.MemberFile.{MemberFile}
use Rattle.ar65.specs.declared.fault.ArchiveFault.{ArchiveFault}
use Rattle.ar65.specs.declared.fault.ArchiveFault.TheVariants as error

-- the faults of the parts as the command's; a FILE is named by its index among the FILEs
abbrev pub as_library : {A : Type 0} → Result A LibraryFault → Result A ArchiveFault
as_library (Ok x) = Ok x
as_library (Err e) = Err (error.Library e)

abbrev pub as_file : {A : Type 0} → ℕ → Result A LibraryFault → Result A ArchiveFault
as_file k (Ok x) = Ok x
as_file k (Err e) = Err (error.File k e)

-- ---- The name of a member.

abbrev pub last_part : List ℕ → Option (List ℕ × List ℕ) → List ℕ
last_part file None = file
last_part file (Some parts) = parts.1

-- the part of a file's name after its last `/`, or all of it if there is none
abbrev pub member_name : List ℕ → List ℕ
member_name file = last_part file (rsplit_once slash file)

-- ---- The library of a line.

abbrev pub members_in : Files → List ℕ → Result (List Member) LibraryFault
members_in m library = in_file (get m library) library_at

-- the same where a library that isn't there is begun, with no member
abbrev pub library_or_empty : Option (List ℕ) → Result (List Member) LibraryFault
library_or_empty None = Ok []
library_or_empty (Some bytes) = library_at bytes

-- ---- What is done with its members.

-- the object of a FILE put in
abbrev pub with_file : Files → List Member → List ℕ → Result (List Member) LibraryFault
with_file m ms file = in_file (get m file) (with_new_member ms (member_name file))

-- those of FILEs in order, of which the first has this index among all of the FILEs
abbrev pub with_files : Files → List Member → ℕ → List (List ℕ) → Result (List Member) ArchiveFault
with_files m ms k [] = Ok ms
with_files m ms k (file ∷ files) = as_file k (with_file m ms file) >>= (λ ns. with_files m ns (k + 1) files)

-- members taken out, in order
abbrev pub without_files : List Member → List (List ℕ) → Result (List Member) LibraryFault
without_files ms [] = Ok ms
without_files ms (file ∷ files) = without_named_member ms (member_name file) >>= (λ ns. without_files ns files)

-- names, one a line
abbrev pub names_text : List (List ℕ) → List ℕ
names_text names = flat_map (λ name. name ++ 10 ∷ []) names

abbrev pub member_or_error : List ℕ → Option (List ℕ) → Result MemberFile LibraryFault
member_or_error name None = Err (NoSuchMember name)
member_or_error name (Some bytes) = Ok (record { name = name; bytes = bytes })

-- a member as a file of its name
abbrev pub file_of : List Member → List ℕ → Result MemberFile LibraryFault
file_of ms name = member_or_error name (bytes_of ms name)

abbrev pub files_of : List Member → List (List ℕ) → Result (List MemberFile) LibraryFault
files_of ms names = try_map (file_of ms) names

-- the members of FILEs' names, or all of them where no FILE is named
abbrev pub extracted_files : List Member → List (List ℕ) → Result (List MemberFile) LibraryFault
extracted_files ms [] = files_of ms (member_names ms)
extracted_files ms (file ∷ files) = files_of ms (map member_name (file ∷ files))

-- names that can be a file's
abbrev pub AreUtf8 : List (List ℕ) → Type 0
AreUtf8 names = AllByRecursion (λ name. is_utf8 name ≡ true) names

-- ---- The operations.

-- the library anew
abbrev pub rewritten_library : List Member → Result ArchiveResult LibraryFault
rewritten_library ms = bytes_within_limit ms >>= (λ bytes. Ok (archived.Library bytes))

-- `r`
unfoldable pub replace_result : Files → ArchiveView → Result ArchiveResult ArchiveFault
replace_result m a = do
  ms ← as_library (library_or_empty (get m a.library))
  ns ← with_files m ms 0 a.files
  as_library (rewritten_library ns)

-- `d`
unfoldable pub delete_result : Files → ArchiveView → Result ArchiveResult ArchiveFault
delete_result m a = do
  ms ← as_library (members_in m a.library)
  ns ← as_library (without_files ms a.files)
  as_library (rewritten_library ns)

-- `t`, which looks at no FILE
unfoldable pub list_result : Files → ArchiveView → Result ArchiveResult ArchiveFault
list_result m a = do
  ms ← as_library (members_in m a.library)
  Ok (archived.Names (names_text (member_names ms)))

-- `x`
unfoldable pub extract_result : Files → ArchiveView → Result ArchiveResult ArchiveFault
extract_result m a = do
  ms ← as_library (members_in m a.library)
  files ← as_library (extracted_files ms a.files)
  Ok (archived.Members files)

abbrev pub operation_result : Operation → Files → ArchiveView → Result ArchiveResult ArchiveFault
operation_result operation.Replace m a = replace_result m a
operation_result operation.Delete m a = delete_result m a
operation_result operation.List m a = list_result m a
operation_result operation.Extract m a = extract_result m a

-- the result of a command line, or its first error: first the library is read, then the FILEs in order
abbrev pub archive_result : Files → ArchiveView → Result ArchiveResult ArchiveFault
archive_result m a = operation_result a.operation m a
