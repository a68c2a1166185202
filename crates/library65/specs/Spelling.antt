-- The encoding of libraries as bytes.
use Rattle.std.specs.Prelude.{ℕ, List, [], ◌∷◌, length, Bool, true, not, nat_lt, ◌==◌, ◌&&◌, ◌||◌, ◌≡◌, ◌<◌, ◌++◌, Result, Ok, Err, ⊤, ◌+◌, ◌≤◌, ◌^◌, map, take, drop, sum_by}
use Rattle.std.specs.List.{list_all, flat_map, AllByRecursion}
use Rattle.std.specs.Str.{bytes_eq, is_utf8}
use Rattle.object65.specs.Reading.{file_limit}
use Rattle.library65.specs.declared.contents.Contents.{Contents}
use Rattle.library65.specs.declared.fault.LibraryFault.{LibraryFault}
use Rattle.library65.specs.declared.fault.LibraryFault.TheVariants.{BadIndex, OutOfMemory}
use Rattle.byteorder.specs.Endian.{little_bytes}
use Rattle.object65.specs.declared.object.Object.{Object}
use Rattle.object65.specs.Spelling.{IsObject}
use Rattle.library65.specs.declared.index.Entry.{Entry}
pub use Rattle.object65.specs.Objects.{is_name, is_among}

-- ---- Names of members, exports and imports.

-- the byte is no ASCII control character and no `/`
abbrev pub is_plain : ℕ → Bool
is_plain b = not (nat_lt b 0x20) && not (b == 0x7f) && not (b == 0x2f)

-- `.` or `..`
abbrev pub is_folder : List ℕ → Bool
is_folder name = bytes_eq name (0x2e ∷ []) || bytes_eq name (0x2e ∷ 0x2e ∷ [])

-- 1 to 255 bytes of UTF-8 without control characters of ASCII and `/`, other than `.` and `..`
abbrev pub is_member_name : List ℕ → Bool
is_member_name name = nat_lt 0 (length name) && nat_lt (length name) 256 && list_all is_plain name && is_utf8 name && not (is_folder name)

-- valid names of members, none twice
abbrev pub are_member_names : List (List ℕ) → Bool
are_member_names [] = true
are_member_names (name ∷ names) = is_member_name name && not (is_among names name) && are_member_names names

-- ---- Writing part by part.

-- the names of exports and imports are valid
pub record HasValidSymbols (c : Contents) : Type 0 where
  pub exports : list_all is_name c.exports ≡ true
  pub imports : list_all is_name c.imports ≡ true

-- A part is appended; or there is an error, since memory ran out or this total exceeds the size limit of a file.
abbrev pub AppendsBytes : List ℕ → ℕ → List ℕ → List ℕ → Result (Unit {0}) LibraryFault → Type 0
AppendsBytes part total old new (Ok u) = new ≡ old ++ part
AppendsBytes part total old new (Err OutOfMemory) = ⊤
AppendsBytes part total old new (Err BadIndex) = file_limit < total
AppendsBytes part total old new (Err _) = ⊥

-- ---- The bytes of an index and of a library, as a grammar.

-- the bytes with which a library begins
abbrev pub library_head : List ℕ
library_head = 0x52 ∷ 0x36 ∷ 0x35 ∷ 0x6c ∷ 0x01 ∷ []

-- the length of a name, and the name
abbrev pub name_bytes : List ℕ → List ℕ
name_bytes name = length name ∷ name

-- the number of names and, for each, its length and its bytes
abbrev pub names_bytes : List (List ℕ) → List ℕ
names_bytes names = little_bytes 4 (length names) ++ flat_map name_bytes names

-- a member in the index: its name, its size, its exports and its imports
abbrev pub index_entry_bytes : List ℕ → ℕ → List (List ℕ) → List (List ℕ) → List ℕ
index_entry_bytes name size exports imports = name_bytes name ++ (little_bytes 4 size ++ (names_bytes exports ++ names_bytes imports))

abbrev pub entry_bytes : Entry → List ℕ
entry_bytes e = index_entry_bytes e.name e.size e.exports e.imports

-- a head and an index
abbrev pub index_bytes : List Entry → List ℕ
index_bytes es = library_head ++ (little_bytes 4 (length es) ++ flat_map entry_bytes es)

-- the members are contiguous from an offset on
abbrev pub AreContiguous : ℕ → List Entry → Type 0
AreContiguous at [] = ⊤
AreContiguous at (e ∷ es) = (e.place ≡ at) × AreContiguous (at + e.size) es

-- valid names, and numbers of 32 bits
pub record IsWellFormedEntry (e : Entry) : Type 0 where
  pub exports : list_all is_name e.exports ≡ true
  pub imports : list_all is_name e.imports ≡ true
  pub size : e.size < 2 ^ 32
  pub export_count : length e.exports < 2 ^ 32
  pub import_count : length e.imports < 2 ^ 32

-- The bytes are a head, an index and its members' bytes, and nothing more, within the size limit of a file.
pub record IsIndex (bytes : List ℕ) (es : List Entry) : Type 0 where
  pub names : are_member_names (map (λ e. e.name) es) ≡ true
  pub entries : AllByRecursion IsWellFormedEntry es
  pub count : length es < 2 ^ 32
  pub contiguous : AreContiguous (length (index_bytes es)) es
  pub members : List ℕ
  pub spelled : bytes ≡ index_bytes es ++ members
  pub sizes : length members ≡ sum_by (λ e. e.size) es
  pub limit : length bytes ≤ file_limit

-- a member: its name and its bytes
abbrev pub Member : Type 0
Member = List ℕ × List ℕ

-- the member's bytes are those at the entry's offset, and encode an object with the entry's names
pub record IsMember (library : List ℕ) (e : Entry) (m : Member) : Type 0 where
  pub name : m.0 ≡ e.name
  pub bytes : m.1 ≡ take e.size (drop e.place library)
  pub object : Object
  pub is_object : IsObject m.1 object
  pub exports : e.exports ≡ map (λ x. x.name) object.exports
  pub imports : e.imports ≡ object.imports

abbrev pub AreMembers : List ℕ → List Entry → List Member → Type 0
AreMembers bytes [] [] = ⊤
AreMembers bytes [] (m ∷ ms) = ⊥
AreMembers bytes (e ∷ es) [] = ⊥
AreMembers bytes (e ∷ es) (m ∷ ms) = IsMember bytes e m × AreMembers bytes es ms

-- the bytes are a library of these members, in this order
pub record IsLibrary (bytes : List ℕ) (ms : List Member) : Type 0 where
  pub index : List Entry
  pub is_index : IsIndex bytes index
  pub members : AreMembers bytes index ms

-- members that can form a library: their names are valid, none twice, and their bytes encode objects
pub record IsMemberList (ms : List Member) : Type 0 where
  pub names : are_member_names (map (λ m. m.0) ms) ≡ true
  pub objects : AllByRecursion (λ m. (o : Object) × IsObject m.1 o) ms
