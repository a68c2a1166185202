-- The members of a library that a link needs.
use Rattle.std.specs.Prelude.{◌≡◌, ◌<◌, ℕ, List, [], ◌∷◌, Bool, true, false, Option, Some, nat_eq, slice_get, ⊤}
use Rattle.std.specs.List.{AllByRecursion, list_any, position_from}
use Rattle.std.specs.Option.{option_map_or}
use Rattle.library65.specs.declared.index.Entry.{Entry}
use Rattle.object65.specs.Objects.{is_among}

-- ---- The selected members.

-- the index of the first member that exports a name
abbrev pub first_exporter : List Entry → List ℕ → Option ℕ
first_exporter es name = position_from (λ e. is_among e.exports name) 0 es

-- the imports of the member at an index
abbrev pub imports_at : List Entry → ℕ → List (List ℕ)
imports_at es index = option_map_or (λ e. e.imports) (slice_get es index) []

abbrev pub has_index : List ℕ → ℕ → Bool
has_index indices index = list_any (nat_eq index) indices

-- A set of names that has the wanted names that aren't defined; and with each name those that its first
-- exporter imports and that aren't defined.
pub record IsClosed (es : List Entry) (wanted defined : List (List ℕ)) (has : List ℕ → Bool) : Type 0 where
  pub has_wanted : (name : List ℕ) → is_among wanted name ≡ true → is_among defined name ≡ false → has name ≡ true
  pub has_imports : (name other : List ℕ) (index : ℕ) → has name ≡ true → first_exporter es name ≡ Some index → is_among (imports_at es index) other ≡ true → is_among defined other ≡ false → has other ≡ true

-- the list is strictly increasing
abbrev pub IsAscending : List ℕ → Type 0
IsAscending [] = ⊤
IsAscending (i ∷ is) = AllByRecursion (λ j. i < j) is × IsAscending is

-- The indices, ascending, of the first exporters of the names in the least closed set.
pub record IsSelection (es : List Entry) (wanted defined : List (List ℕ)) (indices : List ℕ) : Type 0 where
  pub has : List ℕ → Bool
  pub closed : IsClosed es wanted defined has
  pub least : (other : List ℕ → Bool) → IsClosed es wanted defined other → (name : List ℕ) → has name ≡ true → other name ≡ true
  pub exporters : (index : ℕ) → has_index indices index ≡ true → (name : List ℕ) × (has name ≡ true) × (first_exporter es name ≡ Some index)
  pub all : (name : List ℕ) (index : ℕ) → has name ≡ true → first_exporter es name ≡ Some index → has_index indices index ≡ true
  pub ascending : IsAscending indices

-- ---- Laws of selections.

-- a list of wanted names has at most one selection
abbrev pub SelectionIsUnique : Type 0
SelectionIsUnique = (es : List Entry) (wanted defined : List (List ℕ)) (a b : List ℕ) → IsSelection es wanted defined a → IsSelection es wanted defined b → a ≡ b

-- a list of wanted names has a selection
abbrev pub SelectionExists : Type 0
SelectionExists =
    (es : List Entry) (wanted defined : List (List ℕ)) →
    (indices : List ℕ) × IsSelection es wanted defined indices

-- a member that is selected for some wanted names is also selected if more names are wanted
abbrev pub SelectionIsMonotone : Type 0
SelectionIsMonotone = (es : List Entry) (wanted more defined : List (List ℕ)) (a b : List ℕ) → ((name : List ℕ) → is_among wanted name ≡ true → is_among more name ≡ true) → IsSelection es wanted defined a → IsSelection es more defined b → (index : ℕ) → has_index a index ≡ true → has_index b index ≡ true
