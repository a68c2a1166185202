-- The contract view of a store in memory.
use Rattle.std.specs.Prelude.{ℕ, suc, List, [], ◌∷◌, map, Bool, Option, Some, None, nat_eq, if◌then◌else◌}
use Rattle.std.specs.Option.{option_map}
use Rattle.std.specs.Cmp.Lexicographic.{pointwise}
use Rattle.std.specs.FinMap.{from_entries}
use Rattle.base65.specs.declared.mem_store.File.{File}
use Rattle.base65.specs.Store.{Files}

-- a file's name and bytes
abbrev pub entry : File → List ℕ × List ℕ
entry f = (f.name.items, f.bytes.items)

-- the files of a list; of files with the same name, the first counts
abbrev pub files_of : List File → Files
files_of fs = from_entries (map entry fs)

-- a file has this name
abbrev pub is_named : List ℕ → File → Bool
is_named name f = pointwise nat_eq name f.name.items

-- the index of the first file with a name
abbrev pub file_index : List ℕ → List File → Option ℕ
file_index name [] = None
file_index name (f ∷ fs) = if is_named name f then Some 0 else option_map suc (file_index name fs)
