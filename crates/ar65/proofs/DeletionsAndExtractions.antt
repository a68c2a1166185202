-- Members are deleted from a library, or extracted as files.
use Rattle.std.proofs.Common.{◌≡◌, ◌∙◌, ℕ, ◌+◌, Bool, true, false, List, [], ◌∷◌, length, drop, map, Option, Some, None, Result, Ok, Err, Bor, refl, sym, ap, subst}
use Rattle.std.specs.Prelude.{IfSome, ◌==◌}
use Rattle.std.specs.FinMap.{get}
use Rattle.base65.specs.Outcome.{◌>>=◌, RefinesErr, Unless}
use Rattle.base65.specs.Store.{Files}
use Rattle.library65.specs.declared.fault.LibraryFault.{LibraryFault}
use Rattle.library65.specs.declared.fault.LibraryFault.TheVariants as fault
use Rattle.library65.specs.Fault.{is_memory as is_library_memory}
use Rattle.library65.specs.Libraries.{bytes_within_limit, without_named_member, library_at, member_names}
use Rattle.library65.specs.Reading.{in_file}
use Rattle.library65.specs.Spelling.{Member}
use Rattle.cli65.specs.Line.{ArchiveView}
use Rattle.ar65.specs.declared.archiving.ArchiveResult.{ArchiveResult}
use Rattle.ar65.specs.declared.archiving.ArchiveResult.TheVariants as archived
use Rattle.ar65.specs.declared.members.MemberFile.{MemberFile}
use Rattle.ar65.specs.declared.fault.ArchiveFault.{ArchiveFault}
use Rattle.ar65.specs.declared.fault.ArchiveFault.TheVariants as error
use Rattle.ar65.specs.Librarian.{AreUtf8, delete_result, extracted_files, library_or_empty, replace_result, with_files, extract_result, file_of, files_of, member_name, without_files}
use Rattle.ar65.specs.Faults.{is_system_error}
use Rattle.ar65.proofs.Names.{names_are_texts}
use Rattle.ar65.proofs.LoopSteps.{ahead, each_none, refused_so}

-- ---- Deletion.

pub deleted_more : (before ms ns : List Member) (names : List (List ℕ)) (k : ℕ) (name put : List ℕ)
    → drop k names ≡ name ∷ drop (k + 1) names → put ≡ member_name name
    → without_files ms (drop k names) ≡ without_files before names
    → without_named_member ms put ≡ Ok ns
    → without_files ns (drop (k + 1) names) ≡ without_files before names
deleted_more before ms ns names k name put at named left gone =
    let here : without_named_member ms (member_name name) ≡ Ok ns = ap (without_named_member ms) (sym named) ∙ gone in
    sym (ap (λ r. r >>= (λ xs. without_files xs (drop (k + 1) names))) here) ∙ sym (ap (without_files ms) at) ∙ left

pub not_deleted : (before ms : List Member) (names : List (List ℕ)) (k : ℕ) (name put : List ℕ) (e : LibraryFault)
    → drop k names ≡ name ∷ drop (k + 1) names → put ≡ member_name name
    → without_files ms (drop k names) ≡ without_files before names
    → RefinesErr is_library_memory e (without_named_member ms put)
    → RefinesErr is_library_memory e (without_files before names)
not_deleted before ms names k name put e at named left gone =
    refused_so is_library_memory e (without_named_member ms put) (without_files before names)
    (λ h. sym left ∙ ap (without_files ms) at ∙ ap (λ r. r >>= (λ xs. without_files xs (drop (k + 1) names))) (ap (without_named_member ms) (sym named) ∙ h))
    gone

-- ---- Extraction.

pub file_missing : (library : List Member) (found : List MemberFile) (left : List (List ℕ)) (name : List ℕ) (more : List (List ℕ)) (put : List ℕ) (e : LibraryFault) {whole : Result (List MemberFile) LibraryFault}
    → left ≡ name ∷ more → put ≡ name → ahead found (files_of library left) ≡ whole
    → RefinesErr is_library_memory e (file_of library put) → RefinesErr is_library_memory e whole
file_missing library found left name more put e {whole} at named inv none =
    refused_so is_library_memory e (file_of library put) whole
    (λ h. sym inv ∙ each_none (file_of library) found left name more e at (ap (file_of library) (sym named) ∙ h))
    none

-- if at least one FILE is named, the members of these names are extracted
pub some_named : (ms : List Member) (files : List (Bor (List ℕ))) (b : Bool) → b ≡ false
    → b ≡ (length files == 0)
    → extracted_files ms (map (λ s. s.now) files) ≡ files_of ms (map member_name (map (λ s. s.now) files))
some_named ms [] b filled is = absurd (let bad : true ≡ false = sym is ∙ filled in cc)
some_named ms (x ∷ xs) b filled is = refl

-- ---- The operation.

library_outside : (e : LibraryFault) (P : Type 0) → Unless (is_library_memory e) P
    → Unless (is_system_error (error.Library e)) P
library_outside fault.OutOfMemory P h = tt
library_outside fault.FileError P h = tt
library_outside e P h = h

texts_in : (file : Option (List ℕ)) (ms : List Member) → in_file file library_at ≡ Ok ms
    → AreUtf8 (member_names ms)
texts_in None ms e = absurd cc
texts_in (Some bytes) ms e = names_are_texts bytes ms e

pub extracts : (known : Option Files) (a : ArchiveView) (ms : List Member) (names : List (List ℕ)) (found : List MemberFile)
    → names ≡ a.files → IfSome known (λ m. in_file (get m a.library) library_at ≡ Ok ms)
    → (AreUtf8 (member_names ms) → extracted_files ms names ≡ Ok found)
    → IfSome known (λ m. extract_result m a ≡ Ok (archived.Members found))
unfolding extract_result
extracts None a ms names found same read gives = tt
extracts (Some m) a ms names found same read gives =
    let given : extracted_files ms a.files ≡ Ok found = ap (extracted_files ms) (sym same) ∙ gives (texts_in (get m a.library) ms read) in
    rw (read, given) refl

pub not_extracted : (known : Option Files) (a : ArchiveView) (ms : List Member) (names : List (List ℕ)) (e : LibraryFault)
    → names ≡ a.files → IfSome known (λ m. in_file (get m a.library) library_at ≡ Ok ms)
    → (AreUtf8 (member_names ms) → RefinesErr is_library_memory e (extracted_files ms names))
    → IfSome known (λ m. RefinesErr is_system_error (error.Library e) (extract_result m a))
unfolding extract_result
not_extracted None a ms names e same read gives = tt
not_extracted (Some m) a ms names e same read gives =
    library_outside e (extract_result m a ≡ Err (error.Library e)) (go (is_library_memory e) (gives (texts_in (get m a.library) ms read)))
  where
    go : (b : Bool) → Unless b (extracted_files ms names ≡ Err e) → Unless b (extract_result m a ≡ Err (error.Library e))
    go true h = tt
    go false h = let given : extracted_files ms a.files ≡ Err e = ap (extracted_files ms) (sym same) ∙ h in rw (read, given) refl

-- ---- Errors of `r` and `d` after the library was read.

-- an error of the library after a step that is an error of the whole
outside_so : {A : Type 0} (e : LibraryFault) (step : Result A LibraryFault) (whole : Result ArchiveResult ArchiveFault)
    → (step ≡ Err e → whole ≡ Err (error.Library e)) → RefinesErr is_library_memory e step
    → RefinesErr is_system_error (error.Library e) whole
outside_so e step whole leads failed = library_outside e (whole ≡ Err (error.Library e)) (go (is_library_memory e) failed)
  where
    go : (b : Bool) → Unless b (step ≡ Err e) → Unless b (whole ≡ Err (error.Library e))
    go true h = tt
    go false h = leads h

pub deletion_fails : (known : Option Files) (a : ArchiveView) (ms : List Member) (names : List (List ℕ)) (e : LibraryFault)
    → names ≡ a.files → IfSome known (λ m. in_file (get m a.library) library_at ≡ Ok ms)
    → RefinesErr is_library_memory e (without_files ms names)
    → IfSome known (λ m. RefinesErr is_system_error (error.Library e) (delete_result m a))
unfolding delete_result
deletion_fails None a ms names e same read failed = tt
deletion_fails (Some m) a ms names e same read failed = outside_so e (without_files ms names) (delete_result m a)
    (λ h. let given : without_files ms a.files ≡ Err e = ap (without_files ms) (sym same) ∙ h in rw (read, given) refl) failed

pub deleted_too_long : (known : Option Files) (a : ArchiveView) (ms ns : List Member) (names : List (List ℕ)) (e : LibraryFault)
    → names ≡ a.files → IfSome known (λ m. in_file (get m a.library) library_at ≡ Ok ms) → without_files ms names ≡ Ok ns
    → RefinesErr is_library_memory e (bytes_within_limit ns)
    → IfSome known (λ m. RefinesErr is_system_error (error.Library e) (delete_result m a))
unfolding delete_result
deleted_too_long None a ms ns names e same read gone failed = tt
deleted_too_long (Some m) a ms ns names e same read gone failed = outside_so e (bytes_within_limit ns) (delete_result m a)
    (λ h. let given : without_files ms a.files ≡ Ok ns = ap (without_files ms) (sym same) ∙ gone in rw (read, given, h) refl) failed

pub addition_fails : (known now : Option Files) (a : ArchiveView) (ms : List Member) (names : List (List ℕ)) (e : ArchiveFault)
    → now ≡ known → names ≡ a.files → IfSome known (λ m. library_or_empty (get m a.library) ≡ Ok ms)
    → IfSome now (λ m. RefinesErr is_system_error e (with_files m ms 0 names))
    → IfSome known (λ m. RefinesErr is_system_error e (replace_result m a))
unfolding replace_result
addition_fails None now a ms names e is same read failed = tt
addition_fails (Some m) now a ms names e is same read failed =
    go (is_system_error e) (subst (λ o. IfSome o (λ m. RefinesErr is_system_error e (with_files m ms 0 names))) is failed)
  where
    go : (b : Bool) → Unless b (with_files m ms 0 names ≡ Err e) → Unless b (replace_result m a ≡ Err e)
    go true h = tt
    go false h = let given : with_files m ms 0 a.files ≡ Err e = ap (with_files m ms 0) (sym same) ∙ h in rw (read, given) refl

pub added_too_long : (known now : Option Files) (a : ArchiveView) (ms ns : List Member) (names : List (List ℕ)) (e : LibraryFault)
    → now ≡ known → names ≡ a.files → IfSome known (λ m. library_or_empty (get m a.library) ≡ Ok ms)
    → IfSome now (λ m. with_files m ms 0 names ≡ Ok ns) → RefinesErr is_library_memory e (bytes_within_limit ns)
    → IfSome known (λ m. RefinesErr is_system_error (error.Library e) (replace_result m a))
unfolding replace_result
added_too_long None now a ms ns names e is same read added failed = tt
added_too_long (Some m) now a ms ns names e is same read added failed = outside_so e (bytes_within_limit ns) (replace_result m a)
    (λ h. (let all = subst (λ o. IfSome o (λ m. with_files m ms 0 names ≡ Ok ns)) is added in
    let given : with_files m ms 0 a.files ≡ Ok ns = ap (with_files m ms 0) (sym same) ∙ all in rw (read, given, h) refl)) failed
