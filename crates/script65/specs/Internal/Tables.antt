-- Tables of entries.
use Rattle.std.specs.Prelude.{◌≡◌, ◌++◌, ℕ, List, Option, codes, position}
use Rattle.std.specs.List.{AllByRecursion}
use Rattle.std.specs.Str.{bytes_eq}
use Rattle.script65.specs.declared.reading.entries.ConfigEntry.{ConfigEntry}

-- the key of each entry is its own name
abbrev pub KeysMatchNames : List (List ℕ × ConfigEntry) → Type 0
KeysMatchNames es = AllByRecursion (λ (e : List ℕ × ConfigEntry). e.0 ≡ e.1.name) es

-- the index of the entry N for which the name is `__N` and this ending
abbrev pub owner_index_by_ending : List ConfigEntry → List ℕ → List ℕ → Option ℕ
owner_index_by_ending es name end = position (λ (e : ConfigEntry). bytes_eq name (codes "__" ++ (e.name ++ end))) es
