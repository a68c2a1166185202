-- The offsets that a failed call can have requested while the index of a library's file was read.
use Rattle.std.specs.Prelude.{◌≡◌, ℕ, ◌+◌, ◌<◌, ◌⊎◌, List, [], ◌∷◌, length, Option, Some, Result, Ok, IfSome}
use Rattle.std.specs.FinMap.{get}
use Rattle.base65.specs.Store.{LastFailure, Files}
use Rattle.library65.specs.declared.fault.LibraryFault.{LibraryFault}
use Rattle.library65.specs.declared.index.Entry.{Entry}
use Rattle.library65.specs.Reading.{index_at, name_at}

-- if the file's bytes and the failed call are known, the call requested an offset with this property in these bytes
abbrev pub RequestsOffset : Option Files → LastFailure → List ℕ → (List ℕ → ℕ → Type 0) → Type 0
RequestsOffset known last_failure file IsPlace =
    IfSome known (λ m. IfSome (get m file) (λ bytes. IfSome last_failure (λ c. (at : ℕ) × (c.at ≡ Some at) × IsPlace bytes at)))

-- if reading the bytes succeeds, the offset is before the end of the part that is read
abbrev pub IsOffsetInPart : {A : Type 0} → (List ℕ → Result (A × ℕ) LibraryFault) → List ℕ → ℕ → Type 0
IsOffsetInPart {A} read bytes at = (x : A × ℕ) → read bytes ≡ Ok x → at < x.1

-- if a name at the first offset is read and isn't empty, the second offset is before its end
abbrev pub IsOffsetInName : ℕ → List ℕ → ℕ → Type 0
IsOffsetInName begin bytes at = (x : List ℕ × ℕ) → name_at begin bytes ≡ Ok x → 0 < length x.0 → at < x.1

-- the offset of the first member, or of the end of the file if there is none
abbrev pub members_offset : List Entry → ℕ → ℕ
members_offset [] end = end
members_offset (e ∷ es) end = e.place

-- If the bytes have an index, the offset is before the members; or it is that of the last byte or of the end, which
-- are requested to compare the index with the length of the file.
abbrev pub IsIndexOffset : List ℕ → ℕ → Type 0
IsIndexOffset bytes at =
    (es : List Entry) → index_at bytes ≡ Ok es →
    (at < members_offset es (length bytes)) ⊎ (length bytes ≡ at + 1) ⊎ (length bytes ≡ at)
