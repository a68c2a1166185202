-- Symbol tables with a further interned name, definition or scope.
use Rattle.std.proofs.lemmas.Grind.{common_steps}
use Rattle.std.proofs.Common.{◌≡◌, ℕ, zero, suc, ◌+◌, ◌<◌, Bool, true, false, cond, List, [], ◌∷◌, ◌++◌, length, map, get_or, position, Option, Some, None, option_map, refl, sym, ap, ◌∙◌, subst, arith}
use Rattle.std.specs.Prelude.{OnOk, OnErr, Result, slice_get, if◌then◌else◌}
use Rattle.std.specs.List.{position_from}
use Rattle.std.specs.Map.{keys_of}
use Rattle.std.specs.Str.{bytes_eq}
use Rattle.std.proofs.lemmas.Iterator.Adapters.{position_from-zero}
use Rattle.std.proofs.lemmas.Bool.Decides.{nat_tests}
use Rattle.std.proofs.lemmas.Option.{slice_get_within}
use Rattle.indexmap.specs.IndexMap.{insert_entry}
use Rattle.symbols65.specs.declared.table.symbols.SearchEntry.{SearchEntry}
use Rattle.symbols65.specs.declared.table.symbols.SearchEntry.TheVariants.{NoForm}
use Rattle.semantics65.specs.Symbols as l
use Rattle.semantics65.specs.Symbols.{Key, named, cheap_in, unnamed_at}
use Rattle.semantics65.specs.Layout.{opened_twice}
use Rattle.symbols65.specs.declared.table.symbols.InternedKey.{InternedKey}
use Rattle.symbols65.specs.declared.table.symbols.InternedKey.TheVariants as entry
use Rattle.symbols65.specs.declared.table.symbols.ScopeKey.{ScopeKey}
use Rattle.symbols65.specs.declared.table.symbols.ScopeKey.TheVariants as opening
use Rattle.symbols65.specs.declared.table.symbols.Definition.{Definition}
use Rattle.semantics65.specs.Norms.{Extends}
use Rattle.symbols65.specs.Tables.{AreCounted, AreDistinct, AreFinal, AreInnerKnown, AreNumbered, KeepsSearches, IsPrefixOf, HasNumber, IsCounted, IsInnerKnown, IsScopeKey, StoresFinalForm, definition_in, entry_at, interned_key_of, first_number, key_in, same_scope_key, scope_by, scope_opened, table_in, table_without_imports, interned_name, key_name_id, scope_name_id}
use Rattle.symbols65.proofs.InternedNames.{position_none, first_within, first_passes, get_more, map_same, position_same, position_stays, finds_opened, get_word, keys_get}
use Rattle.ast65.proofs.Lists.{same_bytes}

-- ---- Maps.

-- a new key is inserted at the end
pub inserted_last : {K V : Type 0} (eq : K → K → Bool) (es : List (K × V)) (k : K) (v : V) → position (eq k) (keys_of es) ≡ None → insert_entry eq es k v ≡ es ++ (k, v) ∷ []
inserted_last {K} {V} eq es k v h = go 0 es (sym (position_from-zero (eq k) (keys_of es)) ∙ h)
  where
    go : (i : ℕ) (xs : List (K × V)) → position_from (eq k) i (keys_of xs) ≡ None → insert_entry eq xs k v ≡ xs ++ (k, v) ∷ []
    go i [] e = refl
    go i (x ∷ xs) e = step (eq k x.0) e (go (i + 1) xs)
      where
        step : (b : Bool) → cond b (Some i) (position_from (eq k) (i + 1) (keys_of xs)) ≡ None → (position_from (eq k) (i + 1) (keys_of xs) ≡ None → insert_entry eq xs k v ≡ xs ++ (k, v) ∷ []) → (if b then (x.0, v) ∷ xs else x ∷ insert_entry eq xs k v) ≡ x ∷ (xs ++ (k, v) ∷ [])
        step true e rest = absurd cc
        step false e rest = ap (λ l. x ∷ l) (rest e)

pub inserted_by : {K V : Type 0} (eq same : K → K → Bool) → ((x y : K) → eq x y ≡ same x y) → (es : List (K × V)) (k : K) (v : V) → position (same k) (keys_of es) ≡ None → insert_entry eq es k v ≡ es ++ (k, v) ∷ []
inserted_by eq same agree es k v h = inserted_last eq es k v (position_same (eq k) (same k) (keys_of es) (λ i x at. agree k x) ∙ h)

pub keys_pushed : {K V : Type 0} (es : List (K × V)) (k : K) (v : V) → keys_of (es ++ (k, v) ∷ []) ≡ keys_of es ++ k ∷ []
keys_pushed [] k v = refl
keys_pushed (e ∷ es) k v = ap (λ l. e.0 ∷ l) (keys_pushed es k v)

pub keys_length : {K V : Type 0} (es : List (K × V)) → length (keys_of es) ≡ length es
keys_length [] = refl
keys_length (e ∷ es) = ap suc (keys_length es)

-- ---- Further interned names.

get_or_stays : (ws more : List (List ℕ)) (w : ℕ) → w < length ws → get_or (ws ++ more) w [] ≡ get_or ws w []
get_or_stays [] more w lt = absurd (omega arith)
get_or_stays (n ∷ ws) more zero lt = refl
get_or_stays (n ∷ ws) more (suc w) lt = get_or_stays ws more w (omega arith)

module _ (ws more : List (List ℕ)) where
  word_stays : (w : ℕ) → position (bytes_eq (interned_name ws w)) ws ≡ Some w → interned_name (ws ++ more) w ≡ interned_name ws w
  word_stays w h = get_or_stays ws more w (first_within (bytes_eq (interned_name ws w)) ws w h)

  number_stays : (o : Option ℕ) → first_number ws o ≡ o → first_number (ws ++ more) o ≡ o
  number_stays None h = refl
  number_stays (Some w) h = ap (λ n. position (bytes_eq n) (ws ++ more)) (word_stays w h) ∙ position_stays (bytes_eq (interned_name ws w)) ws more w h

  key_stays : (k : InternedKey) → first_number ws (key_name_id k) ≡ key_name_id k → key_in (ws ++ more) k ≡ key_in ws k
  key_stays x h = grind (arith, common_steps)

  scope_stays : (k : ScopeKey) (is_proc : Bool) → first_number ws (scope_name_id k) ≡ scope_name_id k → scope_by (ws ++ more) k is_proc ≡ scope_by ws k is_proc
  scope_stays x is_proc h = grind (arith, common_steps)

  definition_stays : (e : InternedKey × Definition) → first_number ws (key_name_id e.0) ≡ key_name_id e.0 → definition_in (ws ++ more) e ≡ definition_in ws e
  definition_stays e h = ap (λ k. record { key = k; value = (definition_in ws e).value; context = (definition_in ws e).context; size = (definition_in ws e).size }) (key_stays e.0 h)

  pub numbered_more : {K : Type 0} (name_id : K → Option ℕ) (ks : List K) → AreNumbered name_id ws ks → AreNumbered name_id (ws ++ more) ks
  numbered_more name_id ks h = λ i k at. number_stays (name_id k) (h i k at)

  pub definitions_stay : (es : List (InternedKey × Definition)) → AreNumbered key_name_id ws (keys_of es) → map (definition_in (ws ++ more)) es ≡ map (definition_in ws) es
  definitions_stay es h = map_same (definition_in (ws ++ more)) (definition_in ws) es (λ i e at. definition_stays e (h i e.0 (keys_get ws es i e at)))

  pub scopes_stay : (ss : List (ScopeKey × Bool)) → AreNumbered scope_name_id ws (keys_of ss) → map (scope_opened (ws ++ more)) ss ≡ map (scope_opened ws) ss
  scopes_stay ss h = map_same (scope_opened (ws ++ more)) (scope_opened ws) ss (λ i e at. scope_stays e.0 e.1 (h i e.0 (keys_get ws ss i e at)))

  pub final_more : (es : List (InternedKey × Definition)) (ss : List (ScopeKey × Bool)) → AreNumbered key_name_id ws (keys_of es) → AreNumbered scope_name_id ws (keys_of ss) → AreFinal ws es ss → AreFinal (ws ++ more) es ss
  final_more es ss entered scoped h = grind (arith, common_steps, definitions_stay, scopes_stay)

  pub searched_more : (es : List (InternedKey × Definition)) (ss : List (ScopeKey × Bool)) (imports zero_page : List (List ℕ)) (searched : ℕ → Option SearchEntry) → AreNumbered key_name_id ws (keys_of es) → AreNumbered scope_name_id ws (keys_of ss) →
      KeepsSearches (table_in ws es ss imports zero_page) searched → KeepsSearches (table_in (ws ++ more) es ss imports zero_page) searched
  searched_more es ss imports zero_page searched entered scoped h =
      let Holds : l.Symbols → Type 0 = λ y. KeepsSearches y searched in
      subst Holds (ap (λ cs. record { definitions = map (definition_in (ws ++ more)) es; scopes = cs; imports = imports; zero_page = zero_page }) (sym (scopes_stay ss scoped)))
      (subst Holds (ap (λ ds. record { definitions = ds; scopes = map (scope_opened ws) ss; imports = imports; zero_page = zero_page }) (sym (definitions_stay es entered))) h)

-- a property of each list of the form `ws ++ more` is one of each list that begins with `ws`
pub begun : (P : List (List ℕ) → Type 0) (ws new : List (List ℕ)) → IsPrefixOf ws new → ((more : List (List ℕ)) → P (ws ++ more)) → P new
begun P ws new h k = subst P (sym h.1) (k h.0)

-- ---- Entries of searches.

-- a table without entries satisfies `KeepsSearches`
pub none_searched : (y : l.Symbols) (searched : ℕ → Option SearchEntry) → ((j : ℕ) → searched j ≡ None) → KeepsSearches y searched
none_searched y searched none = (
  λ j o at. (let never : None ≡ Some o = sym (ap (entry_at (length y.definitions)) (none j)) ∙ at in absurd cc),
  λ j n at. (let never : None ≡ Some (NoForm n) = sym (none j) ∙ at in absurd cc),
)

-- ---- A further definition or scope.

pub numbered_pushed : {K V : Type 0} (name_id : K → Option ℕ) (ws : List (List ℕ)) (es : List (K × V)) (k : K) (v : V) → AreNumbered name_id ws (keys_of es) → first_number ws (name_id k) ≡ name_id k → AreNumbered name_id ws (keys_of (es ++ (k, v) ∷ []))
numbered_pushed {K} name_id ws es k v h own = grind (arith, common_steps, get_more, keys_pushed)

pub counted_pushed : {V : Type 0} (es : List (InternedKey × V)) (k : InternedKey) (v : V) → AreCounted (keys_of es) → IsCounted k → AreCounted (keys_of (es ++ (k, v) ∷ []))
counted_pushed es k v h own = grind (arith, common_steps, get_more, keys_pushed)

pub inner_pushed : {V : Type 0} (es : List (InternedKey × V)) (k : InternedKey) (v : V) (inner : List Bool) → AreInnerKnown (keys_of es) inner → IsInnerKnown inner k → AreInnerKnown (keys_of (es ++ (k, v) ∷ [])) inner
inner_pushed es k v inner h own = grind (arith, common_steps, get_more, keys_pushed)

-- `AreInnerKnown` is preserved if each recorded name is still recorded
pub inner_kept : (ks : List InternedKey) (old new : List Bool) → ((w : ℕ) → slice_get old w ≡ Some true → slice_get new w ≡ Some true) → AreInnerKnown ks old → AreInnerKnown ks new
inner_kept ks old new kept h = λ i k at scope w is. kept w (h i k at scope w is)

pub distinct_pushed : (ss : List (ScopeKey × Bool)) (k : ScopeKey) (v : Bool) → AreDistinct (keys_of ss) → HasNumber (length ss) k → AreDistinct (keys_of (ss ++ (k, v) ∷ []))
distinct_pushed ss k v h own = grind (arith, common_steps, get_more, keys_pushed, keys_length)

module _ (ws : List (List ℕ)) (es : List (InternedKey × Definition)) (ss : List (ScopeKey × Bool)) where
  -- an extension of the table with a further definition or scope is an extension of the table
  less_definition : (e : InternedKey × Definition) (z : l.Symbols) → Extends (table_without_imports ws (es ++ e ∷ []) ss) z → Extends (table_without_imports ws es ss) z
  less_definition e z h = grind (arith, common_steps)

  less_scope : (s : ScopeKey × Bool) (z : l.Symbols) → Extends (table_without_imports ws es (ss ++ s ∷ [])) z → Extends (table_without_imports ws es ss) z
  less_scope s z h = grind (arith, common_steps)

  pub final_pushed : (e : InternedKey × Definition) → AreFinal ws es ss → StoresFinalForm (table_without_imports ws es ss) (length es) (definition_in ws e) e.1 → AreFinal ws (es ++ e ∷ []) ss
  final_pushed e h own = grind (arith, common_steps, less_definition, get_more)

  pub final_scoped : (s : ScopeKey × Bool) → AreFinal ws es ss → AreFinal ws es (ss ++ s ∷ [])
  final_scoped s h = λ j d at. (λ f is z extends. (h j d at).0 f is z (less_scope s z extends), λ r is z extends none. (h j d at).1 r is z (less_scope s z extends) none)

-- ---- The interned key of a key.

-- a key of an interned name has the first number of the name, and represents the key of the name
named_entry : (ws : List (List ℕ)) (n : List ℕ) (k : InternedKey) (make : ℕ → InternedKey) (key : List ℕ → Key) → ((w : ℕ) → key_name_id (make w) ≡ Some w) → ((w : ℕ) → key_in ws (make w) ≡ key (interned_name ws w)) → (o : Option ℕ) → position (bytes_eq n) ws ≡ o → option_map make o ≡ Some k →
    (first_number ws (key_name_id k) ≡ key_name_id k) × (key_in ws k ≡ key n)
named_entry ws n k make key numbered names None is e = absurd cc
named_entry ws n k make key numbered names (Some w) is e =
    let same : make w ≡ k = cc in
    let (m, at, passes) = first_passes (bytes_eq n) ws w is in
    let name_id : interned_name ws w ≡ n = get_word ws w m at ∙ sym (same_bytes n m passes) in
    subst (λ x. (first_number ws (key_name_id x) ≡ key_name_id x) × (key_in ws x ≡ key n)) same
    (ap (first_number ws) (numbered w) ∙ ap (λ m. position (bytes_eq m) ws) name_id ∙ is ∙ sym (numbered w), names w ∙ ap key name_id)

-- the interned key has the first number of its name, and represents the key
pub entry_is : (ws : List (List ℕ)) (q : Key) (k : InternedKey) → interned_key_of ws q ≡ Some k → (first_number ws (key_name_id k) ≡ key_name_id k) × (key_in ws k ≡ q)
entry_is ws (named s n) k e = named_entry ws n k (entry.Named s) (named s) (λ w. refl) (λ w. refl) (position (bytes_eq n) ws) refl e
entry_is ws (cheap_in s n) k e = named_entry ws n k (entry.Cheap s) (cheap_in s) (λ w. refl) (λ w. refl) (position (bytes_eq n) ws) refl e
entry_is ws (unnamed_at c) k e = (let same : entry.Unnamed c ≡ k = cc in subst (λ x. (first_number ws (key_name_id x) ≡ key_name_id x) × (key_in ws x ≡ unnamed_at c)) same (refl, refl))

-- The key of a scope with a name has the first number of the name, and represents the scope. `HasNumber` is trivial, since
-- it restricts only keys without a name.
pub opening_is : (ws : List (List ℕ)) (s : ℕ) (n : List ℕ) (k : ScopeKey) (is_proc : Bool) → option_map (opening.Named s) (position (bytes_eq n) ws) ≡ Some k →
    (first_number ws (scope_name_id k) ≡ scope_name_id k) × (scope_by ws k is_proc ≡ record { within = s; name = Some n; is_proc = is_proc }) × ((i : ℕ) → HasNumber i k)
opening_is ws s n k is_proc e = by (position (bytes_eq n) ws) refl e
  where
    by : (o : Option ℕ) → position (bytes_eq n) ws ≡ o → option_map (opening.Named s) o ≡ Some k →
        (first_number ws (scope_name_id k) ≡ scope_name_id k) × (scope_by ws k is_proc ≡ record { within = s; name = Some n; is_proc = is_proc }) × ((i : ℕ) → HasNumber i k)
    by None is e = absurd cc
    by (Some w) is e =
        let same : opening.Named s w ≡ k = cc in
        let (m, at, passes) = first_passes (bytes_eq n) ws w is in
        let name_id : interned_name ws w ≡ n = get_word ws w m at ∙ sym (same_bytes n m passes) in
        subst (λ x. (first_number ws (scope_name_id x) ≡ scope_name_id x) × (scope_by ws x is_proc ≡ record { within = s; name = Some n; is_proc = is_proc }) × ((i : ℕ) → HasNumber i x)) same
        (ap (λ m. position (bytes_eq m) ws) name_id ∙ is, ap (λ m. record { within = s; name = Some m; is_proc = is_proc }) name_id, λ i within number no. absurd cc)

-- ---- The key of a scope.

module _ (ws : List (List ℕ)) (s : ℕ) (k : ScopeKey) where
  pub opening_numbered : (count : ℕ) (name : Option (List ℕ)) → IsScopeKey ws count s name k → first_number ws (scope_name_id k) ≡ scope_name_id k
  opening_numbered count None h = subst (λ x. first_number ws (scope_name_id x) ≡ scope_name_id x) (sym h) refl
  opening_numbered count (Some n) h = (opening_is ws s n k false h).0

  pub opening_distinct : (count : ℕ) (name : Option (List ℕ)) → IsScopeKey ws count s name k → HasNumber count k
  opening_distinct count x h = grind (arith, common_steps)

  pub opening_scope : (count : ℕ) (name : Option (List ℕ)) (is_proc : Bool) → IsScopeKey ws count s name k → scope_by ws k is_proc ≡ record { within = s; name = name; is_proc = is_proc }
  opening_scope count None is_proc h = ap (λ x. scope_by ws x is_proc) h
  opening_scope count (Some n) is_proc h = (opening_is ws s n k is_proc h).1

  -- if the parent scope contains no scope of this name, the key of the scope is new
  pub opened_once : (ss : List (ScopeKey × Bool)) (name : Option (List ℕ)) → AreNumbered scope_name_id ws (keys_of ss) → AreDistinct (keys_of ss) → IsScopeKey ws (length ss) s name k →
      opened_twice (map (scope_opened ws) ss) s name ≡ None → position (same_scope_key k) (keys_of ss) ≡ None
  opened_once ss x numbers distinct h e = grind (arith, common_steps, position_none, slice_get_within, keys_length, nat_tests, finds_opened)

-- a fact that both the success and the failure of a call imply
pub after : {A E P Q R : Type 0} (r : Result A E) → (P → R) → (Q → R) → OnOk r P → OnErr r Q → R
after x f g p q = grind (arith, common_steps)
