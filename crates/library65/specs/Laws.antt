-- Laws of indexes and libraries, whatever made them.
use Rattle.std.specs.Prelude.{◌≡◌, ℕ, List, [], Ok}
use Rattle.base65.specs.SystemErrors.{IsNoSystemError}
use Rattle.object65.specs.Record.{IsBytes}
use Rattle.library65.specs.declared.index.Entry.{Entry}
use Rattle.library65.specs.Fault.{is_system_error}
use Rattle.library65.specs.Libraries.{without_named_member as deleted_of, library_at, with_new_member as replaced_of, bytes_within_limit, written_after}
use Rattle.library65.specs.Reading.{index_at}
use Rattle.library65.specs.Spelling.{IsIndex, IsLibrary, IsMemberList, Member}

-- a list of members has at most one encoding as a library
abbrev pub LibraryEncodingIsUnique : Type 0
LibraryEncodingIsUnique = (a b : List ℕ) (ms : List Member) → IsLibrary a ms → IsLibrary b ms → a ≡ b

-- any bytes are read as an index, or have an error that is no system error
abbrev pub IndexExists : Type 0
IndexExists = (bytes : List ℕ) → IsNoSystemError is_system_error (index_at bytes)

-- any bytes are loaded as a library, or have an error that is no system error
abbrev pub LibraryExists : Type 0
LibraryExists = (bytes : List ℕ) → IsNoSystemError is_system_error (library_at bytes)

-- editing or writing any members succeeds, or has an error that is no system error
pub record EditExists : Type 0 where
  pub replaced : (ms : List Member) (n bytes : List ℕ) → IsNoSystemError is_system_error (replaced_of ms n bytes)
  pub deleted : (ms : List Member) (name : List ℕ) → IsNoSystemError is_system_error (deleted_of ms name)
  pub written : (before : List ℕ) (ms : List Member) → IsNoSystemError is_system_error (written_after before ms)

-- bytes that are read as an index are its encoding
abbrev pub ReadIndexIsEncoded : Type 0
ReadIndexIsEncoded = (bytes : List ℕ) (es : List Entry) → IsBytes bytes → index_at bytes ≡ Ok es → IsIndex bytes es

-- the encoding of an index is read as that index
abbrev pub IndexEncodingIsRead : Type 0
IndexEncodingIsRead = (bytes : List ℕ) (es : List Entry) → IsIndex bytes es → index_at bytes ≡ Ok es

-- the encoding of a library is loaded as that library
abbrev pub LibraryEncodingIsLoaded : Type 0
LibraryEncodingIsLoaded = (bytes : List ℕ) (ms : List Member) → IsLibrary bytes ms → library_at bytes ≡ Ok ms

-- the bytes that are written for a library's members encode a library of these members
abbrev pub WrittenBytesAreLibrary : Type 0
WrittenBytesAreLibrary = (ms : List Member) (bytes : List ℕ) → IsMemberList ms → bytes_within_limit ms ≡ Ok bytes → IsLibrary bytes ms

-- bytes that are loaded as a library are its encoding
abbrev pub LoadedLibraryIsEncoded : Type 0
LoadedLibraryIsEncoded = (bytes : List ℕ) (ms : List Member) → IsBytes bytes → library_at bytes ≡ Ok ms → IsLibrary bytes ms

-- the members of an empty, a loaded or an edited library can form a library
pub record EditsPreserveMemberList : Type 0 where
  pub none : IsMemberList []
  pub loaded : (bytes : List ℕ) (ms : List Member) → IsLibrary bytes ms → IsMemberList ms
  pub replaced : (ms ns : List Member) (name bytes : List ℕ) → IsBytes bytes → IsMemberList ms → replaced_of ms name bytes ≡ Ok ns → IsMemberList ns
  pub deleted : (ms ns : List Member) (name : List ℕ) → IsMemberList ms → deleted_of ms name ≡ Ok ns → IsMemberList ns
