-- Errors of libraries: their texts, and which are system errors.
use Rattle.std.specs.Prelude.{ℕ, List, ◌++◌, Bool, true, false, codes, encode_utf8_all, if◌then◌else◌}
use Rattle.std.specs.Str.{is_utf8}
use Rattle.base65.specs.declared.store.StoreFault.{StoreFault}
use Rattle.base65.specs.declared.store.StoreFault.TheVariants as store
use Rattle.object65.specs.declared.fault.ObjectFault.{ObjectFault}
use Rattle.object65.specs.declared.fault.ObjectFault.TheVariants as object
use Rattle.library65.specs.declared.fault.LibraryFault.{LibraryFault}
use Rattle.library65.specs.declared.fault.LibraryFault.TheVariants.{OutOfMemory, NotALibrary, CutShort, BadIndex, NoSuchMember, NotAnObject, IndexDisagrees, FileError, FileNotFound, BadMemberName}

abbrev pub of_store : StoreFault → LibraryFault
of_store store.OutOfMemory = OutOfMemory
of_store store.FileNotFound = FileNotFound
of_store store.FileError = FileError

-- the error of a member, for an error of its object
abbrev pub of_object : ObjectFault → LibraryFault
of_object object.OutOfMemory = OutOfMemory
of_object _ = NotAnObject

-- memory ran out
abbrev pub is_memory : LibraryFault → Bool
is_memory OutOfMemory = true
is_memory _ = false

-- memory ran out or the store failed
abbrev pub is_system_error : LibraryFault → Bool
is_system_error OutOfMemory = true
is_system_error FileError = true
is_system_error _ = false

abbrev pub fault_text : LibraryFault → List ℕ
fault_text OutOfMemory = codes "out of memory"
fault_text NotALibrary = codes "not a library"
fault_text CutShort = codes "library cut short"
fault_text BadIndex = codes "bad index"
fault_text (NoSuchMember name) = codes "no such member: " ++ name
fault_text NotAnObject = codes "member is not an object"
fault_text IndexDisagrees = codes "index disagrees with member"
fault_text FileError = codes "file error"
fault_text FileNotFound = codes "file not found"
fault_text BadMemberName = codes "bad member name"

-- a name for printing: if it isn't UTF-8, each byte as the character of its code
abbrev pub name_text : List ℕ → List ℕ
name_text name = if is_utf8 name then name else encode_utf8_all name

abbrev pub display_text : LibraryFault → List ℕ
display_text (NoSuchMember name) = codes "no such member: " ++ name_text name
display_text OutOfMemory = codes "out of memory"
display_text NotALibrary = codes "not a library"
display_text CutShort = codes "library cut short"
display_text BadIndex = codes "bad index"
display_text NotAnObject = codes "member is not an object"
display_text IndexDisagrees = codes "index disagrees with member"
display_text FileError = codes "file error"
display_text FileNotFound = codes "file not found"
display_text BadMemberName = codes "bad member name"
