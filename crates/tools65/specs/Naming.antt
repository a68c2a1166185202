-- The object's name where the line gives none.
use Rattle.std.specs.Prelude.{◌≡◌, ℕ, ◌-◌, ◌<◌, ◌≢◌, ◌⊎◌, List, ◌++◌, length, take, get_or, codes}

abbrev dot : ℕ
dot = 46

abbrev slash : ℕ
slash = 47

-- neither ends a part of a name nor begins an extension
pub record IsPlain (byte : ℕ) : Type 0 where
  pub dot : byte ≢ 46
  pub slash : byte ≢ 47

-- A name's extension begins at this index: with a `.` that no `.` or `/` follows, after a byte that isn't
-- `/`.
pub record IsExtension (name : List ℕ) (k : ℕ) : Type 0 where
  pub inside : k < length name
  pub dot : get_or name k 0 ≡ dot
  pub before : 0 < k
  pub part : get_or name (k - 1) 0 ≢ slash
  pub following : (i : ℕ) → k < i → i < length name → IsPlain (get_or name i 0)

abbrev pub HasNoExtension : List ℕ → Type 0
HasNoExtension name = (k : ℕ) → IsExtension name k → ⊥

-- a source's name with `.o` in place of its extension, or added if it has none
abbrev pub IsObjectName : List ℕ → List ℕ → Type 0
IsObjectName source name =
    ((k : ℕ) × IsExtension source k × (name ≡ take k source ++ codes ".o"))
    ⊎ (HasNoExtension source × (name ≡ source ++ codes ".o"))
