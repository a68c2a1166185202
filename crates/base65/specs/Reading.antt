-- The first bytes of a file.
use Rattle.std.specs.Prelude.{◌≡◌, ℕ, List, ◌++◌, length, take, drop, Option, Some, None, Result, Ok, Err, ⊤}
use Rattle.base65.specs.declared.store.StoreFault.{StoreFault}
use Rattle.base65.specs.declared.store.StoreFault.TheVariants.{OutOfMemory, FileNotFound, FileError}

-- the first n bytes of a file, or all if it has fewer
abbrev pub file_prefix : Option (List ℕ) → ℕ → Result (List ℕ) StoreFault
file_prefix None most = Err FileNotFound
file_prefix (Some bytes) most = Ok (take most bytes)

-- new is old followed by at most n bytes of the file from an offset
abbrev pub ReadsChunk : Option (List ℕ) → ℕ → ℕ → List ℕ → List ℕ → Result ℕ StoreFault → Type 0
ReadsChunk None at max_len old new (Ok n) = ⊥
ReadsChunk (Some bytes) at max_len old new (Ok n) = (new ≡ old ++ take max_len (drop at bytes)) × (n ≡ length (take max_len (drop at bytes)))
ReadsChunk file at max_len old new (Err FileNotFound) = file ≡ None
ReadsChunk file at max_len old new (Err FileError) = ⊤
ReadsChunk file at max_len old new (Err OutOfMemory) = ⊤
