-- For all files a command line of the librarian has a result, and it isn't a system error.
use Rattle.std.proofs.Common.{◌≡◌, ◌+◌, ℕ, false, List, [], ◌∷◌, map, Option, Some, None, Result, Ok, Err, refl}
use Rattle.std.specs.FinMap.{get}
use Rattle.base65.proofs.SystemErrors.{Own, bad, each_own, good, next}
use Rattle.base65.specs.Store.{Files}
use Rattle.library65.specs.declared.fault.LibraryFault.{LibraryFault}
use Rattle.library65.specs.declared.fault.LibraryFault.TheVariants as library
use Rattle.library65.specs.Fault.{is_system_error as is_library_system_error}
use Rattle.library65.specs.Libraries.{bytes_of, without_named_member, library_at, member_names, with_new_member, bytes_within_limit}
use Rattle.library65.specs.Reading.{in_file}
use Rattle.library65.specs.Spelling.{Member}
use Rattle.library65.proofs.LibraryExistence as from
use Rattle.cli65.specs.Line.{ArchiveView}
use Rattle.cli65.specs.declared.line.Operation.{Operation}
use Rattle.cli65.specs.declared.line.Operation.TheVariants as operation
use Rattle.ar65.specs.Laws.{ArchiveExists}
use Rattle.ar65.specs.Librarian.{as_file, as_library, library_or_empty, delete_result, operation_result, extracted_files, extract_result, file_of, files_of, member_or_error, list_result, member_name, members_in, replace_result, rewritten_library, with_file, with_files, without_files}
use Rattle.ar65.specs.Faults.{is_system_error}
use Rattle.ar65.specs.declared.fault.ArchiveFault.TheVariants as error

-- ---- Results that aren't system errors.

library_fault : (f : LibraryFault) → is_library_system_error f ≡ false → is_system_error (error.Library f) ≡ false
library_fault library.OutOfMemory h = h
library_fault library.FileError h = h
library_fault _ h = refl

file_fault : (k : ℕ) (f : LibraryFault) → is_library_system_error f ≡ false → is_system_error (error.File k f) ≡ false
file_fault k library.OutOfMemory h = h
file_fault k library.FileError h = h
file_fault k _ h = refl

of_library : {A : Type 0} (r : Result A LibraryFault) → Own is_library_system_error r → Own is_system_error (as_library r)
of_library (Ok x) h = good x
of_library (Err e) h = record { own = library_fault e h.own }

of_file : {A : Type 0} (k : ℕ) (r : Result A LibraryFault) → Own is_library_system_error r → Own is_system_error (as_file k r)
of_file k (Ok x) h = good x
of_file k (Err e) h = record { own = file_fault k e h.own }

-- ---- Operations on members.

in_file_own : {A : Type 0} (file : Option (List ℕ)) (read : List ℕ → Result A LibraryFault) → ((bytes : List ℕ) → Own is_library_system_error (read bytes)) → Own is_library_system_error (in_file file read)
in_file_own None read own = bad _ refl
in_file_own (Some bytes) read own = own bytes

members_own : (m : Files) (name : List ℕ) → Own is_library_system_error (members_in m name)
members_own m name = in_file_own (get m name) library_at from.library_own

begun_own : (file : Option (List ℕ)) → Own is_library_system_error (library_or_empty file)
begun_own None = good _
begun_own (Some bytes) = from.library_own bytes

with_own : (m : Files) (ms : List Member) (k : ℕ) (files : List (List ℕ)) → Own is_system_error (with_files m ms k files)
with_own m ms k [] = good _
with_own m ms k (file ∷ files) =
    next (as_file k (with_file m ms file)) _
    (of_file k (with_file m ms file) (in_file_own (get m file) (with_new_member ms (member_name file)) (from.replaced_own ms (member_name file))))
    (λ ns. with_own m ns (k + 1) files)

without_own : (ms : List Member) (files : List (List ℕ)) → Own is_library_system_error (without_files ms files)
without_own ms [] = good _
without_own ms (file ∷ files) = next (without_named_member ms (member_name file)) _ (from.deleted_own ms (member_name file)) (λ ns. without_own ns files)

found_own : (name : List ℕ) (bytes : Option (List ℕ)) → Own is_library_system_error (member_or_error name bytes)
found_own name None = bad _ refl
found_own name (Some bytes) = good _

files_own : (ms : List Member) (names : List (List ℕ)) → Own is_library_system_error (files_of ms names)
files_own ms names = each_own (file_of ms) (λ name. found_own name (bytes_of ms name)) names

extracted_own : (ms : List Member) (names : List (List ℕ)) → Own is_library_system_error (extracted_files ms names)
extracted_own ms [] = files_own ms (member_names ms)
extracted_own ms (name ∷ names) = files_own ms (map member_name (name ∷ names))

rewritten_own : (ms : List Member) → Own is_system_error (as_library (rewritten_library ms))
rewritten_own ms = of_library (rewritten_library ms) (next (bytes_within_limit ms) _ (from.written_own ms) (λ bytes. good _))

-- ---- The operations.

done_own : (o : Operation) (m : Files) (a : ArchiveView) → Own is_system_error (operation_result o m a)
unfolding replace_result delete_result list_result extract_result
done_own operation.Replace m a =
    next (as_library (library_or_empty (get m a.library))) _ (of_library (library_or_empty (get m a.library)) (begun_own (get m a.library))) (λ ms.
    next (with_files m ms 0 a.files) _ (with_own m ms 0 a.files) (λ ns. rewritten_own ns))
done_own operation.Delete m a =
    next (as_library (members_in m a.library)) _ (of_library (members_in m a.library) (members_own m a.library)) (λ ms.
    next (as_library (without_files ms a.files)) _ (of_library (without_files ms a.files) (without_own ms a.files)) (λ ns. rewritten_own ns))
done_own operation.List m a =
    next (as_library (members_in m a.library)) _ (of_library (members_in m a.library) (members_own m a.library)) (λ ms. good _)
done_own operation.Extract m a =
    next (as_library (members_in m a.library)) _ (of_library (members_in m a.library) (members_own m a.library)) (λ ms.
    next (as_library (extracted_files ms a.files)) _ (of_library (extracted_files ms a.files) (extracted_own ms a.files)) (λ files. good _))

pub some_archive : ArchiveExists
some_archive m a = (done_own a.operation m a).own
