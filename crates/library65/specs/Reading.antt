-- Reading an index from left to right, up to the first error.
use Rattle.std.specs.Prelude.{ℕ, zero, suc, ◌+◌, List, [], ◌∷◌, ◌++◌, length, map, take, drop, get_or, Option, Some, None, Result, Ok, Err, nat_lt, ◌||◌, ◌&&◌, not, if◌then◌else◌}
use Rattle.std.specs.Str.{bytes_eq}
use Rattle.byteorder.specs.Endian.{little_number}
use Rattle.object65.specs.Reading.{file_limit}
use Rattle.base65.specs.Outcome.{◌>>=◌}
use Rattle.library65.specs.declared.index.Entry.{Entry}
use Rattle.library65.specs.declared.index.UnplacedEntry.{UnplacedEntry}
use Rattle.library65.specs.declared.fault.LibraryFault.{LibraryFault}
use Rattle.library65.specs.declared.fault.LibraryFault.TheVariants.{NotALibrary, CutShort, BadIndex, FileNotFound}
use Rattle.library65.specs.Spelling.{is_among, is_member_name, is_name, library_head}

-- the result of reading a file's bytes, or the error that there is no such file
abbrev pub in_file : {A : Type 0} → Option (List ℕ) → (List ℕ → Result A LibraryFault) → Result A LibraryFault
in_file None read = Err FileNotFound
in_file (Some bytes) read = read bytes

-- rejects bytes other than the five with which a library begins
abbrev pub head_of : List ℕ → Result (Unit {0}) LibraryFault
head_of head = if nat_lt (length head) 5 || not (bytes_eq head library_head) then Err NotALibrary else Ok tt

abbrev pub head_at : List ℕ → Result (Unit {0}) LibraryFault
head_at bytes = head_of (take 5 bytes)

-- The bytes that were found at an offset, if they are as many as were requested. A position past the size
-- limit is reported before the end of the file.
abbrev pub field_or_cut_short : ℕ → ℕ → List ℕ → Result (List ℕ) LibraryFault
field_or_cut_short n at found = if nat_lt file_limit (at + length found) then Err BadIndex else if nat_lt (length found) n then Err CutShort else Ok found

abbrev pub field_at : ℕ → ℕ → List ℕ → Result (List ℕ) LibraryFault
field_at n at bytes = field_or_cut_short n at (take n (drop at bytes))

unfoldable pub number_at : ℕ → List ℕ → Result ℕ LibraryFault
number_at at bytes = do
  field ← field_at 4 at bytes
  Ok (little_number 4 field)

-- a length and a name, and the offset after it
unfoldable pub name_at : ℕ → List ℕ → Result (List ℕ × ℕ) LibraryFault
name_at at bytes = do
  len ← field_at 1 at bytes
  name ← field_at (get_or len 0 0) (at + 1) bytes
  Ok (name, at + 1 + get_or len 0 0)

-- the name of an export or an import
unfoldable pub symbol_at : ℕ → List ℕ → Result (List ℕ × ℕ) LibraryFault
symbol_at at bytes = do
  name ← name_at at bytes
  if is_name name.0 then Ok name else Err BadIndex

-- this many more names, after those read before
abbrev pub symbols_at : ℕ → List (List ℕ) → ℕ → List ℕ → Result (List (List ℕ) × ℕ) LibraryFault
symbols_at zero before at bytes = Ok (before, at)
symbols_at (suc n) before at bytes = symbol_at at bytes >>= (λ s. symbols_at n (before ++ s.0 ∷ []) s.1 bytes)

-- a number and that many names
unfoldable pub counted_names_at : ℕ → List ℕ → Result (List (List ℕ) × ℕ) LibraryFault
counted_names_at at bytes = do
  count ← number_at at bytes
  symbols_at count [] (at + 4) bytes

-- the name of a member, which no earlier member has
unfoldable pub member_name_at : List (List ℕ) → ℕ → List ℕ → Result (List ℕ × ℕ) LibraryFault
member_name_at names at bytes = do
  name ← name_at at bytes
  if is_member_name name.0 && not (is_among names name.0) then Ok name else Err BadIndex

abbrev pub unplaced_entry : List ℕ → ℕ → List (List ℕ) → List (List ℕ) → UnplacedEntry
unplaced_entry name size exports imports = record { name = name; size = size; exports = exports; imports = imports }

unfoldable pub unplaced_entry_at : List (List ℕ) → ℕ → List ℕ → Result (UnplacedEntry × ℕ) LibraryFault
unplaced_entry_at names at bytes = do
  name ← member_name_at names at bytes
  size ← number_at name.1 bytes
  exports ← counted_names_at (name.1 + 4) bytes
  imports ← counted_names_at exports.1 bytes
  Ok (unplaced_entry name.0 size exports.0 imports.0, imports.1)

-- this many more entries, after those read before
abbrev pub unplaced_entries_at : ℕ → List UnplacedEntry → ℕ → List ℕ → Result (List UnplacedEntry × ℕ) LibraryFault
unplaced_entries_at zero before at bytes = Ok (before, at)
unplaced_entries_at (suc n) before at bytes = unplaced_entry_at (map (λ m. m.name) before) at bytes >>= (λ m. unplaced_entries_at n (before ++ m.0 ∷ []) m.1 bytes)

abbrev pub entry_at : ℕ → UnplacedEntry → Entry
entry_at at m = record { name = m.name; place = at; size = m.size; exports = m.exports; imports = m.imports }

-- the members in order with their offsets, and the offset after the last one; none ends past the size limit
-- of a file
abbrev pub members_with_offsets : List Entry → ℕ → List UnplacedEntry → Result (List Entry × ℕ) LibraryFault
members_with_offsets before at [] = Ok (before, at)
members_with_offsets before at (m ∷ ms) = if nat_lt file_limit (at + m.size) then Err BadIndex else members_with_offsets (before ++ entry_at at m ∷ []) (at + m.size) ms

-- checks that the file ends at an offset
abbrev pub end_at : ℕ → List ℕ → Result (Unit {0}) LibraryFault
end_at end bytes = if nat_lt (length bytes) end then Err CutShort else if nat_lt end (length bytes) then Err BadIndex else Ok tt

-- the number of members, after the head
abbrev pub count_at : List ℕ → Result ℕ LibraryFault
count_at bytes = head_at bytes >>= (λ u. number_at 5 bytes)

-- the entries of all members, and the offset after them
unfoldable pub member_entries_at : List ℕ → Result (List UnplacedEntry × ℕ) LibraryFault
member_entries_at bytes = do
  count ← count_at bytes
  unplaced_entries_at count [] 9 bytes

-- the index of a library's bytes, or the first error
unfoldable pub index_at : List ℕ → Result (List Entry) LibraryFault
index_at bytes = do
  listed ← member_entries_at bytes
  entries ← members_with_offsets [] listed.1 listed.0
  u ← end_at entries.1 bytes
  Ok entries.0
