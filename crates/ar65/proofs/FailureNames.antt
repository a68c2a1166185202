-- The file that an error names if a call of the store failed.
use Rattle.std.proofs.Common.{◌≡◌, ℕ, List, Some, slice_get, refl}
use Rattle.base65.specs.Store.{FailedOn, LastFailure}
use Rattle.library65.specs.declared.fault.LibraryFault.{LibraryFault}
use Rattle.library65.specs.declared.fault.LibraryFault.TheVariants.{BadIndex, BadMemberName, CutShort, FileError, FileNotFound, IndexDisagrees, NoSuchMember, NotALibrary, NotAnObject, OutOfMemory}
use Rattle.ar65.specs.declared.fault.ArchiveFault.TheVariants.{File}
use Rattle.ar65.specs.Naming.{NamesFileFailure}

pub of_file : (last_failure : LastFailure) (files : List (List ℕ)) (index : ℕ) (name : List ℕ) (f : LibraryFault) → slice_get files index ≡ Some name → (f ≡ FileError → FailedOn last_failure name) → NamesFileFailure last_failure files (File index f)
of_file last_failure files index name FileError at asked h = (index, name, at, refl, asked refl)
of_file last_failure files index name OutOfMemory at asked h = absurd cc
of_file last_failure files index name NotALibrary at asked h = absurd cc
of_file last_failure files index name CutShort at asked h = absurd cc
of_file last_failure files index name BadIndex at asked h = absurd cc
of_file last_failure files index name (NoSuchMember n) at asked h = absurd cc
of_file last_failure files index name NotAnObject at asked h = absurd cc
of_file last_failure files index name IndexDisagrees at asked h = absurd cc
of_file last_failure files index name FileNotFound at asked h = absurd cc
of_file last_failure files index name BadMemberName at asked h = absurd cc
