-- The name in the message if the store failed: the library, or a FILE that is added; and that the failed call
-- requested it, if the store tells that.
use Rattle.std.specs.Prelude.{◌≡◌, ℕ, ◌⊎◌, List, slice_get, Some, true}
use Rattle.base65.specs.Store.{FailedOn, LastFailure}
use Rattle.library65.specs.declared.fault.LibraryFault.TheVariants.{FileError}
use Rattle.cli65.specs.declared.line.Operation.TheVariants.{Replace}
use Rattle.cli65.specs.Line.{ArchiveView}
use Rattle.ar65.specs.declared.fault.ArchiveFault.{ArchiveFault}
use Rattle.ar65.specs.declared.fault.ArchiveFault.TheVariants.{Library, File}
use Rattle.ar65.specs.Faults.{is_failure}

-- the library, for which the failed call asked
abbrev pub IsLibraryFailure : LastFailure → List ℕ → ArchiveFault → Type 0
IsLibraryFailure last_failure library e = (e ≡ Library FileError) × FailedOn last_failure library

-- one of these files, for which it asked
abbrev pub IsFileFailure : LastFailure → List (List ℕ) → ArchiveFault → Type 0
IsFileFailure last_failure files e =
    (index : ℕ) × (name : List ℕ) × (slice_get files index ≡ Some name) × (e ≡ File index FileError) × FailedOn last_failure name

abbrev pub IsCommandFailure : LastFailure → ArchiveView → ArchiveFault → Type 0
IsCommandFailure last_failure a e =
    IsLibraryFailure last_failure a.library e ⊎ ((a.operation ≡ Replace) × IsFileFailure last_failure a.files e)

-- where the store failed, the refusal names one of these files
abbrev pub NamesFileFailure : LastFailure → List (List ℕ) → ArchiveFault → Type 0
NamesFileFailure last_failure files e = is_failure e ≡ true → IsFileFailure last_failure files e

-- where it failed, the refusal names something that the line reads
abbrev pub NamesCommandFailure : LastFailure → ArchiveView → ArchiveFault → Type 0
NamesCommandFailure last_failure a e = is_failure e ≡ true → IsCommandFailure last_failure a e
