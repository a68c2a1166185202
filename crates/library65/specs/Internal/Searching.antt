-- The search for the members that a link needs, as the code performs it.
use Rattle.std.specs.Prelude.{◌≡◌, ◌<◌, ℕ, ◌+◌, List, [], ◌∷◌, ◌++◌, length, Bool, true, false, not, Some, get_or, count_by, slice_get, if◌then◌else◌}
use Rattle.std.specs.Str.{bytes_eq}
use Rattle.indexmap.specs.IndexMap.{get_by}
use Rattle.library65.specs.declared.index.Entry.{Entry}
use Rattle.library65.specs.declared.selecting.Exporters.{Exporters}
use Rattle.library65.specs.declared.selecting.FoundMembers.{FoundMembers}
use Rattle.object65.specs.Objects.{is_among}
use Rattle.library65.specs.Selection.{IsClosed, first_exporter, has_index, imports_at}

-- the table has the first exporter of each name
abbrev pub IsExporterTable : Exporters → Type 0
IsExporterTable t = (name : List ℕ) → get_by (λ k. bytes_eq name k.now) t.by_name ≡ first_exporter t.entries.now name

-- the marked members are those that were found, each once
pub record IsWellFormedSearch (f : FoundMembers) : Type 0 where
  pub marks : (i : ℕ) → get_or f.marks.items i false ≡ has_index f.indices.items i
  pub count : count_by not f.marks.items + length f.indices.items ≡ length f.marks.items

-- the members found are extended by first exporters of the names that aren't defined, and have all of them
pub record MarksExporters (es : List Entry) (defined names : List (List ℕ)) (old new : List ℕ) : Type 0 where
  pub following : List ℕ
  pub more : new ≡ old ++ following
  pub all : (name : List ℕ) (i : ℕ) → is_among names name ≡ true → is_among defined name ≡ false → first_exporter es name ≡ Some i → has_index new i ≡ true
  pub only : (i : ℕ) → has_index following i ≡ true → (name : List ℕ) × (is_among names name ≡ true) × (is_among defined name ≡ false) × (first_exporter es name ≡ Some i)

-- a table of first exporters, and the members found among its entries
pub record SearchInvariant (t : Exporters) (f : FoundMembers) : Type 0 where
  pub table : IsExporterTable t
  pub sound : IsWellFormedSearch f
  pub marks : length f.marks.items ≡ length t.entries.now

-- the first exporters of the names that aren't defined are found, and no others; the invariant still holds
pub record ExtendsSearch (t : Exporters) (defined names : List (List ℕ)) (old new : FoundMembers) : Type 0 where
  pub found : MarksExporters t.entries.now defined names old.indices.items new.indices.items
  pub stands : SearchInvariant t new

-- a name that is in every closed set
abbrev pub IsNeeded : List Entry → List (List ℕ) → List (List ℕ) → List ℕ → Type 0
IsNeeded es wanted defined name = (has : List ℕ → Bool) → IsClosed es wanted defined has → has name ≡ true

-- All members found are needed; the first exporters of the wanted names were found, and those of the imports
-- of the members before an index of the list.
pub record IsSearchState (es : List Entry) (wanted defined : List (List ℕ)) (found : List ℕ) (next : ℕ) : Type 0 where
  pub needed : (i : ℕ) → has_index found i ≡ true → (name : List ℕ) × IsNeeded es wanted defined name × (first_exporter es name ≡ Some i)
  pub wanted_found : (name : List ℕ) (i : ℕ) → is_among wanted name ≡ true → is_among defined name ≡ false → first_exporter es name ≡ Some i → has_index found i ≡ true
  pub imports_found : (k index : ℕ) → k < next → slice_get found k ≡ Some index → (name : List ℕ) (i : ℕ) → is_among (imports_at es index) name ≡ true → is_among defined name ≡ false → first_exporter es name ≡ Some i → has_index found i ≡ true

-- the indices that are marked, if the first mark has this index
abbrev pub marked_indices_from : ℕ → List Bool → List ℕ
marked_indices_from i [] = []
marked_indices_from i (mark ∷ marks) = if mark then i ∷ marked_indices_from (i + 1) marks else marked_indices_from (i + 1) marks
