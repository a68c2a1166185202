-- The symbol table that the parts of a table in memory represent.
use Rattle.std.specs.Prelude.{◌≡◌, ◌<◌, ◌≤◌, ◌^◌, ℕ, suc, nat_eq, if◌then◌else◌, List, [], ◌++◌, length, map, get_or, slice_get, Bool, true, false, Option, Some, None, option_map, position, ◌==◌, ◌&&◌}
use Rattle.std.specs.Coded.{Coded-set, coded_option}
use Rattle.std.specs.Result.{result_ok}
use Rattle.std.specs.Str.{bytes_eq}
use Rattle.object65.specs.Form.{Form, form_code}
use Rattle.semantics65.specs.Symbols as l
use Rattle.semantics65.specs.Symbols.{Scope, named, cheap_in, unnamed_at}
use Rattle.symbols65.specs.declared.table.symbols.Key as code
use Rattle.symbols65.specs.declared.table.symbols.Key.TheVariants as key
use Rattle.symbols65.specs.declared.table.symbols.InternedKey.{InternedKey}
use Rattle.symbols65.specs.declared.table.symbols.InternedKey.TheVariants as entry
use Rattle.symbols65.specs.declared.table.symbols.ScopeKey.{ScopeKey}
use Rattle.symbols65.specs.declared.table.symbols.ScopeKey.TheVariants as opening
use Rattle.symbols65.specs.declared.table.symbols.Definition.{Definition}
use Rattle.symbols65.specs.declared.table.symbols.SearchEntry.{SearchEntry}
use Rattle.symbols65.specs.declared.table.symbols.SearchEntry.TheVariants.{KnownForm, NoForm}
use Rattle.semantics65.specs.Norms.{Extends, defined_form, form_of_value, norm, norm_of}
use Rattle.symbols65.specs.Plains.{plain_result}
use Rattle.indexmap.specs.IndexMap.{IndexMap, get}

abbrev pub key_of : code.Key → l.Key
key_of (key.Named scope name) = named scope name.now
key_of (key.Cheap region name) = cheap_in region name.now
key_of (key.Unnamed count) = unnamed_at count

-- ---- Interned names.

abbrev pub interned_name : List (List ℕ) → ℕ → List ℕ
interned_name ws w = get_or ws w []

-- the first number of the interned name with this number
abbrev pub first_number : List (List ℕ) → Option ℕ → Option ℕ
first_number ws None = None
first_number ws (Some w) = position (bytes_eq (interned_name ws w)) ws

abbrev pub key_name_id : InternedKey → Option ℕ
key_name_id (entry.Named scope w) = Some w
key_name_id (entry.Cheap region w) = Some w
key_name_id (entry.Unnamed count) = None

abbrev pub scope_name_id : ScopeKey → Option ℕ
scope_name_id (opening.Named within w) = Some w
scope_name_id (opening.Nameless within number) = None

-- each key with an interned name has the first number of that name
abbrev pub AreNumbered : {K : Type 0} → (K → Option ℕ) → List (List ℕ) → List K → Type 0
AreNumbered {K} name_id ws ks = (i : ℕ) (k : K) → slice_get ks i ≡ Some k → first_number ws (name_id k) ≡ name_id k

-- the number of a scope without a name is its index
abbrev pub AreDistinct : List ScopeKey → Type 0
AreDistinct ks = (i within number : ℕ) → slice_get ks i ≡ Some (opening.Nameless within number) → number ≡ i

-- the count of an unnamed label fits in 64 bits
abbrev pub IsCounted : InternedKey → Type 0
IsCounted k = (count : ℕ) → k ≡ entry.Unnamed count → count < 2 ^ 64

abbrev pub AreCounted : List InternedKey → Type 0
AreCounted ks = (i : ℕ) (k : InternedKey) → slice_get ks i ≡ Some k → IsCounted k

-- the key of a scope has this number if it has no name
abbrev pub HasNumber : ℕ → ScopeKey → Type 0
HasNumber i k = (within number : ℕ) → k ≡ opening.Nameless within number → number ≡ i

-- if this is the key of a name in a scope other than the global one, that name is marked
abbrev pub IsInnerKnown : List Bool → InternedKey → Type 0
IsInnerKnown inner k = (scope w : ℕ) → k ≡ entry.Named (suc scope) w → slice_get inner w ≡ Some true

abbrev pub AreInnerKnown : List InternedKey → List Bool → Type 0
AreInnerKnown ks inner = (i : ℕ) (k : InternedKey) → slice_get ks i ≡ Some k → IsInnerKnown inner k

-- the second list begins with the first
abbrev pub IsPrefixOf : {A : Type 0} → List A → List A → Type 0
IsPrefixOf {A} xs ys = (later : List A) × (ys ≡ xs ++ later)

-- the key of a scope with an optional name
abbrev pub IsScopeKey : List (List ℕ) → ℕ → ℕ → Option (List ℕ) → ScopeKey → Type 0
IsScopeKey ws count within None k = k ≡ opening.Nameless within count
IsScopeKey ws count within (Some n) k = option_map (opening.Named within) (position (bytes_eq n) ws) ≡ Some k

-- ---- Definitions and scopes.

abbrev pub key_in : List (List ℕ) → InternedKey → l.Key
key_in ws (entry.Named scope w) = named scope (interned_name ws w)
key_in ws (entry.Cheap region w) = cheap_in region (interned_name ws w)
key_in ws (entry.Unnamed count) = unnamed_at count

abbrev pub definition_view : l.Key → Definition → l.Definition
definition_view k d = record { key = k; value = d.value; context = d.context; size = d.size }

abbrev pub definition_in : List (List ℕ) → InternedKey × Definition → l.Definition
definition_in ws e = definition_view (key_in ws e.0) e.1

abbrev pub scope_by : List (List ℕ) → ScopeKey → Bool → Scope
scope_by ws (opening.Named within w) is_proc = record { within = within; name = Some (interned_name ws w); is_proc = is_proc }
scope_by ws (opening.Nameless within number) is_proc = record { within = within; name = None; is_proc = is_proc }

abbrev pub scope_opened : List (List ℕ) → ScopeKey × Bool → Scope
scope_opened ws s = scope_by ws s.0 s.1

-- the symbol table of these parts, without imports
abbrev pub table_without_imports : List (List ℕ) → List (InternedKey × Definition) → List (ScopeKey × Bool) → l.Symbols
table_without_imports ws es ss = record { definitions = map (definition_in ws) es; scopes = map (scope_opened ws) ss; imports = []; zero_page = [] }

-- if there is a form, it is the form of the definition at an index whatever statements follow
abbrev pub HasFinalForm : l.Symbols → ℕ → l.Definition → Option Form → Type 0
HasFinalForm y j d form = (f : Form) → form ≡ Some f → (z : l.Symbols) → Extends y z → result_ok (form_of_value (norm (suc j) z) d.context d.value) ≡ Some f

-- the blocker of a definition: whatever statements follow, the definition has no number and no address if this
-- constant has none
abbrev pub HasBlocker : l.Symbols → l.Definition → Option ℕ → Type 0
HasBlocker y d blocker =
    (r : ℕ) → blocker ≡ Some r → (z : l.Symbols) → Extends y z → plain_result (defined_form z r) ≡ None →
    plain_result (form_of_value (norm_of z) d.context d.value) ≡ None

-- the form and the blocker that are stored with the definition at an index are final
abbrev pub StoresFinalForm : l.Symbols → ℕ → l.Definition → Definition → Type 0
StoresFinalForm y j d kept = HasFinalForm y j d kept.form × HasBlocker y d kept.blocker

-- the stored form and blocker of each definition are final
abbrev pub AreFinal : List (List ℕ) → List (InternedKey × Definition) → List (ScopeKey × Bool) → Type 0
AreFinal ws es ss = (j : ℕ) (e : InternedKey × Definition) → slice_get es j ≡ Some e → StoresFinalForm (table_without_imports ws es ss) j (definition_in ws e) e.1

pub AreFinal-prop : (ws : List (List ℕ)) (es : List (InternedKey × Definition)) (ss : List (ScopeKey × Bool)) → IsProp (AreFinal ws es ss)
AreFinal-prop ws es ss = λ p q i j e at. (
  λ f is z more. Coded-set (coded_option form_code) _ _ ((p j e at).0 f is z more) ((q j e at).0 f is z more) i,
  λ r is z more none. Coded-set (coded_option form_code) _ _ ((p j e at).1 r is z more none) ((q j e at).1 r is z more none) i,
)

-- ---- Entries of searches.

-- the symbol table of these parts
abbrev pub table_in : List (List ℕ) → List (InternedKey × Definition) → List (ScopeKey × Bool) → List (List ℕ) → List (List ℕ) → l.Symbols
table_in ws es ss imports zero_page = record (table_without_imports ws es ss) { imports = imports; zero_page = zero_page }

-- the result of a search in an entry, with this many definitions: one without a form counts only with as many
-- definitions
abbrev pub entry_at : ℕ → Option SearchEntry → Option (Option Form)
entry_at count None = None
entry_at count (Some (KnownForm f)) = Some (Some f)
entry_at count (Some (NoForm n)) = if nat_eq n count then Some None else None

abbrev pub entries_at : ℕ → (ℕ → Option SearchEntry) → ℕ → Option (Option Form)
entries_at count searched j = entry_at count (searched j)

-- no entry without a form was made with more definitions
abbrev pub ArePast : ℕ → (ℕ → Option SearchEntry) → Type 0
ArePast count searched = (j n : ℕ) → searched j ≡ Some (NoForm n) → n ≤ count

-- The entries of searches, by the index of a constant, are right: a constant has the normal form of its entry, and no
-- normal form if its entry has none.
abbrev pub AreSearched : l.Symbols → (ℕ → Option (Option Form)) → Type 0
AreSearched y searched = (j : ℕ) (o : Option Form) → searched j ≡ Some o → result_ok (defined_form y j) ≡ o

pub AreSearched-prop : (y : l.Symbols) (searched : ℕ → Option (Option Form)) → IsProp (AreSearched y searched)
AreSearched-prop y searched = λ p q i j o at. Coded-set (coded_option form_code) _ _ (p j o at) (q j o at) i

-- the entries of searches that are stored in a symbol table are right
abbrev pub KeepsSearches : l.Symbols → (ℕ → Option SearchEntry) → Type 0
KeepsSearches y searched = AreSearched y (entries_at (length y.definitions) searched) × ArePast (length y.definitions) searched

-- no constant is pending or has an entry without a form
abbrev pub IsUnmarked : {S : Type 0} → l.Symbols → IndexMap ℕ SearchEntry S → Type 0
IsUnmarked y known = (j : ℕ) → entries_at (length y.definitions) (get nat_eq known) j ≡ Some None → ⊥

-- the entries of searches after the last line, between two searches
abbrev pub IsFormCache : {S : Type 0} → l.Symbols → IndexMap ℕ SearchEntry S → Type 0
IsFormCache y known = KeepsSearches y (get nat_eq known) × IsUnmarked y known

-- ---- Lookup of keys.

abbrev pub same_interned_key : InternedKey → InternedKey → Bool
same_interned_key (entry.Named s w) (entry.Named t v) = s == t && w == v
same_interned_key (entry.Cheap s w) (entry.Cheap t v) = s == t && w == v
same_interned_key (entry.Unnamed c) (entry.Unnamed d) = c == d
same_interned_key _ _ = false

abbrev pub same_scope_key : ScopeKey → ScopeKey → Bool
same_scope_key (opening.Named s w) (opening.Named t v) = s == t && w == v
same_scope_key (opening.Nameless s w) (opening.Nameless t v) = s == t && w == v
same_scope_key _ _ = false

-- the interned key of a key, if its name is interned
abbrev pub interned_key_of : List (List ℕ) → l.Key → Option InternedKey
interned_key_of ws (named scope n) = option_map (entry.Named scope) (position (bytes_eq n) ws)
interned_key_of ws (cheap_in region n) = option_map (entry.Cheap region) (position (bytes_eq n) ws)
interned_key_of ws (unnamed_at count) = Some (entry.Unnamed count)
