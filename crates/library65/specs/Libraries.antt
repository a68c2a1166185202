-- Libraries as lists of members.
use Rattle.std.specs.Prelude.{ℕ, List, [], ◌∷◌, ◌++◌, length, map, take, drop, Bool, nat_lt, ◌&&◌, Option, Some, None, Result, Ok, Err, if◌then◌else◌, ◌≡◌, true}
use Rattle.std.specs.Cmp.Lexicographic.{pointwise}
use Rattle.std.specs.List.{flat_map, AllByRecursion}
use Rattle.std.specs.Str.{bytes_eq}
use Rattle.byteorder.specs.Endian.{little_bytes}
use Rattle.base65.specs.Outcome.{◌>>=◌}
use Rattle.object65.specs.declared.fault.ObjectFault.{ObjectFault}
use Rattle.object65.specs.declared.object.Object.{Object}
use Rattle.object65.specs.Reading.{file_limit, object_at}
use Rattle.library65.specs.declared.contents.Contents.{Contents}
use Rattle.library65.specs.declared.index.Entry.{Entry}
use Rattle.library65.specs.declared.fault.LibraryFault.{LibraryFault}
use Rattle.library65.specs.declared.fault.LibraryFault.TheVariants.{BadIndex, BadMemberName, CutShort, IndexDisagrees, NoSuchMember, NotAnObject}
use Rattle.library65.specs.Spelling.{is_among, is_member_name, are_member_names, Member, library_head, index_entry_bytes, HasValidSymbols}
use Rattle.library65.specs.Reading.{index_at}
use Rattle.std.specs.Global.{Vec}
use Rattle.indexmap.specs.IndexMap.{IndexMap}
use Rattle.library65.specs.declared.library.StoredMember.{StoredMember}

-- ---- Members.

abbrev pub member_names : List Member → List (List ℕ)
member_names ms = map (λ m. m.0) ms

-- the members with one more: it replaces the one of its name, or is the last
abbrev pub with_member : List Member → List ℕ → List ℕ → List Member
with_member [] name bytes = (name, bytes) ∷ []
with_member (m ∷ ms) name bytes = if bytes_eq name m.0 then (m.0, bytes) ∷ ms else m ∷ with_member ms name bytes

-- the members without the one of a name
abbrev pub without_member : List Member → List ℕ → List Member
without_member [] name = []
without_member (m ∷ ms) name = if bytes_eq name m.0 then ms else m ∷ without_member ms name

-- the bytes of the member of a name, if there is one
abbrev pub bytes_of : List Member → List ℕ → Option (List ℕ)
bytes_of [] name = None
bytes_of (m ∷ ms) name = if bytes_eq name m.0 then Some m.1 else bytes_of ms name

-- ---- The object in a member's bytes.

abbrev pub as_member : Result Object ObjectFault → Result Object LibraryFault
as_member (Ok o) = Ok o
as_member (Err e) = Err NotAnObject

-- the object that the bytes encode
abbrev pub object_in : List ℕ → Result Object LibraryFault
object_in bytes = as_member (object_at 0 (length bytes) bytes)

abbrev pub contents_from : Object → Contents
contents_from o = record { exports = map (λ e. e.name) o.exports; imports = o.imports }

-- the exports and imports of the object in the bytes
unfoldable pub contents_in : List ℕ → Result Contents LibraryFault
contents_in bytes = object_in bytes >>= (λ o. Ok (contents_from o))

-- the exports and imports of a member of this name and these bytes
unfoldable pub member_contents : List ℕ → List ℕ → Result Contents LibraryFault
member_contents name bytes = if is_member_name name then contents_in bytes else Err BadMemberName

-- ---- Edits.

unfoldable pub with_new_member : List Member → List ℕ → List ℕ → Result (List Member) LibraryFault
with_new_member ms name bytes = do
  contents ← member_contents name bytes
  Ok (with_member ms name bytes)

abbrev pub without_named_member : List Member → List ℕ → Result (List Member) LibraryFault
without_named_member ms name = if is_among (member_names ms) name then Ok (without_member ms name) else Err (NoSuchMember name)

-- ---- Reading.

abbrev pub are_same : List (List ℕ) → List (List ℕ) → Bool
are_same names others = pointwise bytes_eq names others

-- the entry's names are those of the object
abbrev pub has_index_names : Entry → Contents → Bool
has_index_names e c = are_same e.exports c.exports && are_same e.imports c.imports

-- the bytes of a member, none of which may be missing
abbrev pub member_bytes_at : ℕ → ℕ → List ℕ → Result (List ℕ) LibraryFault
member_bytes_at size offset bytes = if nat_lt (length (take size (drop offset bytes))) size then Err CutShort else Ok (take size (drop offset bytes))

-- the exports and imports of an entry's member, if the entry has these names
unfoldable pub indexed_contents : Entry → List ℕ → Result Contents LibraryFault
indexed_contents e found = do
  contents ← member_contents e.name found
  if has_index_names e contents then Ok contents else Err IndexDisagrees

-- the members before and that of an entry, which has these bytes
abbrev pub with_entry : List Member → Entry → List ℕ → Result (List Member) LibraryFault
with_entry before e found = indexed_contents e found >>= (λ c. Ok (with_member before e.name found))

-- the members before and that of an entry, whose bytes are among those of the library
unfoldable pub with_library_entry : List Member → Entry → List ℕ → Result (List Member) LibraryFault
with_library_entry before e bytes = member_bytes_at e.size e.place bytes >>= (λ found. with_entry before e found)

abbrev pub with_library_entries : List Member → List Entry → List ℕ → Result (List Member) LibraryFault
with_library_entries before [] bytes = Ok before
with_library_entries before (e ∷ es) bytes = with_library_entry before e bytes >>= (λ ms. with_library_entries ms es bytes)

-- the members of the library that the bytes encode, or the first error
unfoldable pub library_at : List ℕ → Result (List Member) LibraryFault
library_at bytes = index_at bytes >>= (λ es. with_library_entries [] es bytes)

-- ---- Writing.

abbrev pub or_none : Result Contents LibraryFault → Contents
or_none (Ok c) = c
or_none (Err e) = record { exports = []; imports = [] }

-- the bytes of a member's index entry
abbrev pub member_entry_bytes : Member → List ℕ
member_entry_bytes m = let c = or_none (contents_in m.1) in index_entry_bytes m.0 (length m.1) c.exports c.imports

-- the bytes of the library of these members
abbrev pub library_bytes : List Member → List ℕ
library_bytes ms = (library_head ++ (little_bytes 4 (length ms) ++ flat_map member_entry_bytes ms)) ++ flat_map (λ m. m.1) ms

-- the bytes, unless they exceed the size limit of a file
abbrev pub bytes_within_limit : List Member → Result (List ℕ) LibraryFault
bytes_within_limit ms = if nat_lt file_limit (length (library_bytes ms)) then Err BadIndex else Ok (library_bytes ms)

abbrev pub written_after : List ℕ → List Member → Result (List ℕ) LibraryFault
written_after before ms = bytes_within_limit ms >>= (λ bytes. Ok (before ++ bytes))

-- ---- The representation of members.

abbrev pub member_of : Vec ℕ × StoredMember → Member
member_of e = (e.0.items, e.1.bytes.items)

abbrev pub members_of : {S : Type 0} → IndexMap (Vec ℕ) StoredMember S → List Member
members_of m = map member_of m.entries

-- a member's stored exports and imports are those of its bytes, and have valid names
abbrev pub HasMatchingContents : Vec ℕ × StoredMember → Type 0
HasMatchingContents e = (member_contents e.0.items e.1.bytes.items ≡ Ok e.1.contents) × HasValidSymbols e.1.contents

-- the invariant of a library
pub record LibraryInvariant {S : Type 0} (m : IndexMap (Vec ℕ) StoredMember S) : Type 0 where
  pub names : are_member_names (member_names (members_of m)) ≡ true
  pub stored : AllByRecursion HasMatchingContents m.entries
