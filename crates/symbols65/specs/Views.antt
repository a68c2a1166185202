-- The models of the symbol table in memory and of the forms known by it.
use Rattle.std.specs.Prelude.{◌≡◌, ℕ, List, [], ◌∷◌, ◌++◌, map, slice_get, Bool, Option, Some, None, option_map, if◌then◌else◌, nat_eq}
use Rattle.std.specs.Option.{option_and_then, unwrap_or}
use Rattle.semantics65.specs.Symbols as l
use Rattle.semantics65.specs.Symbols.{Definition, Scope, or_else, unnamed_at, with_new_names}
use Rattle.object65.specs.Form.{Form}
use Rattle.indexmap.specs.IndexMap.{IndexMap, get}
use Rattle.symbols65.specs.Tables.{key_in, table_without_imports}
use Rattle.symbols65.specs.declared.table.symbols.SearchEntry.{SearchEntry}
use Rattle.symbols65.specs.declared.table.symbols.SearchEntry.TheVariants.{KnownForm}
use Rattle.symbols65.specs.declared.table.symbols.Symbols.{Symbols}

-- the interned names, by their numbers
abbrev pub interned_names_of : Symbols → List (List ℕ)
interned_names_of t = map (λ k. k.items) t.interned_names.keys

abbrev pub table_of : Symbols → l.Symbols
table_of t = record (table_without_imports (interned_names_of t) t.definitions.entries t.scopes.entries) {
  imports = map (λ k. k.items) t.imports.keys;
  zero_page = map (λ k. k.items) t.zero_page.keys;
}

-- the key of the definition at an index
abbrev pub key_at : Symbols → ℕ → l.Key
key_at t index =
    unwrap_or (option_map (λ e. key_in (interned_names_of t) e.0) (slice_get t.definitions.entries index)) (unnamed_at 0)

-- ---- What a statement adds.

abbrev pub with_definition : l.Symbols → Definition → l.Symbols
with_definition y d = record y { definitions = y.definitions ++ d ∷ [] }

abbrev pub with_scope : l.Symbols → Scope → l.Symbols
with_scope y c = record y { scopes = y.scopes ++ c ∷ [] }

-- with imported names, for the zero page if `is_zero_page`
abbrev pub with_names : l.Symbols → Bool → List (List ℕ) → l.Symbols
with_names y is_zero_page names =
    record y { imports = with_new_names y.imports names; zero_page = with_new_names y.zero_page (if is_zero_page then names else []) }

-- ---- Known forms of constants.

-- the final form that is stored with a definition
abbrev pub final_form : Symbols → ℕ → Option Form
final_form t j = option_and_then (λ d. d.form) (option_map (λ e. e.1) (slice_get t.definitions.entries j))

-- the final form, or else the form that a search has found
abbrev pub known_by : Symbols → (ℕ → Option Form) → ℕ → Option Form
known_by t found j = or_else (final_form t j) (found j)

-- the form in an entry of a search, if there is one
abbrev pub entry_form : Option SearchEntry → Option Form
entry_form (Some (KnownForm f)) = Some f
entry_form _ = None

-- the known forms during a search with these entries
abbrev pub known_among : {S : Type 0} → Symbols → IndexMap ℕ SearchEntry S → ℕ → Option Form
known_among t met = known_by t (λ j. entry_form (get nat_eq met j))

-- the new entries are the old ones with the entry at one index replaced
abbrev pub IsRecorded : {S : Type 0} → IndexMap ℕ SearchEntry S → IndexMap ℕ SearchEntry S → ℕ → SearchEntry → Type 0
IsRecorded old new index entry = (j : ℕ) → get nat_eq new j ≡ (if nat_eq index j then Some entry else get nat_eq old j)
