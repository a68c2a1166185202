-- Interned names, and the lookup of definitions and scopes by their numbers.
use Rattle.std.proofs.lemmas.Grind.{common_steps}
use Rattle.std.proofs.Common.{◌≡◌, ℕ, zero, suc, ◌+◌, ◌-◌, ◌<◌, ◌≤◌, Bool, true, false, cond, List, [], ◌∷◌, ◌++◌, length, map, position, Some, None, ◌⊎◌, inl, inr, refl, sym, ap, ◌∙◌, arith, ◌^◌, Option, option_map, append-nil}
use Rattle.std.specs.Prelude.{slice_get, ◌==◌, ◌&&◌, ◌||◌, not, if◌then◌else◌}
use Rattle.std.specs.List.{position_from, list_any, position_or_len}
use Rattle.std.proofs.lemmas.Bool.Decides.{nat_tests}
use Rattle.std.proofs.lemmas.Iterator.Adapters.{position_from-zero}
use Rattle.std.proofs.lemmas.Option.{slice_get_within}
use Rattle.std.specs.Map.{keys_of}
use Rattle.std.specs.Str.{bytes_eq}
use Rattle.std.proofs.lemmas.Slice.Eq.{bytes_eq-Decides}
use Rattle.semantics65.specs.Norms.{Extends}
use Rattle.semantics65.specs.Symbols as l
use Rattle.semantics65.specs.Symbols.{Key, Scope, named, cheap_in, unnamed_at, same_key, is_named}
use Rattle.ast65.proofs.Lists.{bytes_swap, position_mapped, same_bytes}
use Rattle.symbols65.specs.declared.table.symbols.InternedKey.{InternedKey}
use Rattle.symbols65.specs.declared.table.symbols.InternedKey.TheVariants as entry
use Rattle.symbols65.specs.declared.table.symbols.ScopeKey.{ScopeKey}
use Rattle.symbols65.specs.declared.table.symbols.ScopeKey.TheVariants as opening
use Rattle.symbols65.specs.declared.table.symbols.Definition.{Definition}
use Rattle.symbols65.specs.Tables.{AreCounted, AreInnerKnown, AreNumbered, IsCounted, definition_in, interned_key_of, first_number, key_in, same_interned_key, same_scope_key, scope_by, scope_opened, table_without_imports, interned_name, key_name_id, scope_name_id, IsPrefixOf}
use Rattle.symbols65.specs.Views.{table_of, interned_names_of}
use Rattle.symbols65.specs.declared.table.symbols.Symbols.{Symbols}
use Rattle.indexmap.specs.IndexSet.{insert_key}

-- an extension of a table extends the table without its imports
pub without_imports : (t : Symbols) (z : l.Symbols) → Extends (table_of t) z → Extends (table_without_imports (interned_names_of t) t.definitions.entries t.scopes.entries) z
without_imports t z h = record { later_definitions = h.later_definitions; definitions = h.definitions; later_scopes = h.later_scopes; scopes = h.scopes }

-- ---- Tests.

pub same_test : (b c : Bool) → (b ≡ true → c ≡ true) → (c ≡ true → b ≡ true) → b ≡ c
same_test true true f g = refl
same_test false false f g = refl
same_test true false f g = sym (f refl)
same_test false true f g = g refl

pub swapped : (m n : ℕ) → (m == n) ≡ (n == m)
swapped m n = same_test (m == n) (n == m) (λ e. grind (arith, nat_tests)) (λ e. grind (arith, nat_tests))

-- ---- Positions.

-- the item at the position of a test passes the test
pub first_passes : {A : Type 0} (p : A → Bool) (xs : List A) (j : ℕ) → position p xs ≡ Some j → (x : A) × (slice_get xs j ≡ Some x) × (p x ≡ true)
first_passes {A = A} p xs j e = (let (x, at, passes, le) = go 0 xs j (sym (position_from-zero p xs) ∙ e) in (x, ap (slice_get xs) (let whole : j ≡ j - 0 = omega arith in whole) ∙ at, passes))
  where
    go : (i : ℕ) (ys : List A) (j : ℕ) → position_from p i ys ≡ Some j → (x : A) × (slice_get ys (j - i) ≡ Some x) × (p x ≡ true) × (i ≤ j)
    go i [] j e = absurd cc
    go i (y ∷ ys) j e = step (p y) refl e (go (i + 1) ys j)
      where
        step : (b : Bool) → p y ≡ b → cond b (Some i) (position_from p (i + 1) ys) ≡ Some j → (position_from p (i + 1) ys ≡ Some j → (x : A) × (slice_get ys (j - (i + 1)) ≡ Some x) × (p x ≡ true) × (i + 1 ≤ j)) → (x : A) × (slice_get (y ∷ ys) (j - i) ≡ Some x) × (p x ≡ true) × (i ≤ j)
        step true q e rest = (let same : i ≡ j = cc in (y, ap (slice_get (y ∷ ys)) (let here : j - i ≡ 0 = omega (arith, same) in here), q, omega (arith, same)))
        step false q e rest = (let (x, at, passes, le) = rest e in (x, ap (slice_get (y ∷ ys)) (let more : j - i ≡ suc (j - (i + 1)) = omega (arith, le) in more) ∙ at, passes, omega (arith, le)))

pub first_within : {A : Type 0} (p : A → Bool) (xs : List A) (j : ℕ) → position p xs ≡ Some j → j < length xs
first_within p xs j e = (let (x, at, passes) = first_passes p xs j e in slice_get_within xs j x at)

-- tests that agree on all items have the same position
pub position_same : {A : Type 0} (p q : A → Bool) (xs : List A) → ((i : ℕ) (x : A) → slice_get xs i ≡ Some x → p x ≡ q x) → position p xs ≡ position q xs
position_same {A = A} p q xs h = position_from-zero p xs ∙ go 0 xs h ∙ sym (position_from-zero q xs)
  where
    go : (k : ℕ) (ys : List A) → ((i : ℕ) (x : A) → slice_get ys i ≡ Some x → p x ≡ q x) → position_from p k ys ≡ position_from q k ys
    go k [] h = refl
    go k (y ∷ ys) h = ap (λ b. cond b (Some k) (position_from p (k + 1) ys)) (h zero y refl) ∙ ap (cond (q y) (Some k)) (go (k + 1) ys (λ i x e. h (suc i) x e))

-- the case that no item passes
pub position_none : {A : Type 0} (p : A → Bool) (xs : List A) → ((i : ℕ) (x : A) → slice_get xs i ≡ Some x → p x ≡ false) → position p xs ≡ None
position_none {A = A} p xs h = position_same p (λ x. false) xs h ∙ position_from-zero (λ (x : A). false) xs ∙ go 0 xs
  where
    go : (k : ℕ) (ys : List A) → position_from (λ (x : A). false) k ys ≡ None
    go k [] = refl
    go k (y ∷ ys) = go (k + 1) ys

-- a position is preserved if items are appended
pub position_stays : {A : Type 0} (p : A → Bool) (xs ys : List A) (j : ℕ) → position p xs ≡ Some j → position p (xs ++ ys) ≡ Some j
position_stays {A = A} p xs ys j e = position_from-zero p (xs ++ ys) ∙ go 0 xs (sym (position_from-zero p xs) ∙ e)
  where
    go : (k : ℕ) (zs : List A) → position_from p k zs ≡ Some j → position_from p k (zs ++ ys) ≡ Some j
    go k [] e = absurd cc
    go k (z ∷ zs) e = step (p z) e (go (k + 1) zs)
      where
        step : (b : Bool) → cond b (Some k) (position_from p (k + 1) zs) ≡ Some j → (position_from p (k + 1) zs ≡ Some j → position_from p (k + 1) (zs ++ ys) ≡ Some j) → cond b (Some k) (position_from p (k + 1) (zs ++ ys)) ≡ Some j
        step true e rest = e
        step false e rest = rest e

-- ---- Items.

pub get_stays : {A : Type 0} (xs ys : List A) (i : ℕ) → i < length xs → slice_get (xs ++ ys) i ≡ slice_get xs i
get_stays [] ys i lt = absurd (omega arith)
get_stays (x ∷ xs) ys zero lt = refl
get_stays (x ∷ xs) ys (suc i) lt = get_stays xs ys i (omega arith)

-- an item of a list with one item appended is in the list, or is that item
pub get_more : {A : Type 0} (xs : List A) (x y : A) (i : ℕ) → slice_get (xs ++ x ∷ []) i ≡ Some y → (slice_get xs i ≡ Some y) ⊎ ((i ≡ length xs) × (x ≡ y))
get_more [] x y zero e = inr (refl, (let same : x ≡ y = cc in same))
get_more [] x y (suc i) e = absurd cc
get_more (z ∷ xs) x y zero e = inl e
get_more (z ∷ xs) x y (suc i) e = grind (arith, common_steps, (get_more xs x y i e))

-- functions that agree on all items have the same results
pub map_same : {A B : Type 0} (f g : A → B) (xs : List A) → ((i : ℕ) (x : A) → slice_get xs i ≡ Some x → f x ≡ g x) → map f xs ≡ map g xs
map_same f g [] h = refl
map_same f g (x ∷ xs) h = ap (λ y. y ∷ map f xs) (h zero x refl) ∙ ap (λ l. g x ∷ l) (map_same f g xs (λ i y e. h (suc i) y e))

pub get_mapped : {A B : Type 0} (f : A → B) (xs : List A) (i : ℕ) (x : A) → slice_get xs i ≡ Some x → slice_get (map f xs) i ≡ Some (f x)
get_mapped f [] i x e = absurd cc
get_mapped f (y ∷ xs) zero x e = (let same : y ≡ x = cc in ap (λ z. Some (f z)) same)
get_mapped f (y ∷ xs) (suc i) x e = get_mapped f xs i x e

pub get_mapped_none : {A B : Type 0} (f : A → B) (xs : List A) (i : ℕ) → slice_get xs i ≡ None → slice_get (map f xs) i ≡ None
get_mapped_none f [] i e = refl
get_mapped_none f (y ∷ xs) zero e = absurd cc
get_mapped_none f (y ∷ xs) (suc i) e = get_mapped_none f xs i e

-- ---- Numbers of names.

pub itself : (n : List ℕ) → bytes_eq n n ≡ true
itself n = grind (arith, bytes_eq-Decides n n)

pub get_word : (ws : List (List ℕ)) (w : ℕ) (n : List ℕ) → slice_get ws w ≡ Some n → interned_name ws w ≡ n
get_word [] w n e = absurd cc
get_word (m ∷ ws) zero n e = cc
get_word (m ∷ ws) (suc w) n e = get_word ws w n e

-- whether an optional index is this number
abbrev pub is_number : Option ℕ → ℕ → Bool
is_number None v = false
is_number (Some w) v = w == v

-- the first number of a name is found by that name, and by no other
pub word_test : (ws : List (List ℕ)) (n : List ℕ) (v : ℕ) → position (bytes_eq (interned_name ws v)) ws ≡ Some v → is_number (position (bytes_eq n) ws) v ≡ bytes_eq (interned_name ws v) n
word_test ws n v h = same_test (is_number (position (bytes_eq n) ws) v) (bytes_eq (interned_name ws v) n) (λ t. found (position (bytes_eq n) ws) refl t) (λ t. (let same : interned_name ws v ≡ n = same_bytes (interned_name ws v) n t in ap (λ m. is_number (position (bytes_eq m) ws) v) (sym same) ∙ ap (λ o. is_number o v) h ∙ (let own : (v == v) ≡ true = grind (arith, nat_tests) in own)))
  where
    found : (o : Option ℕ) → position (bytes_eq n) ws ≡ o → is_number o v ≡ true → bytes_eq (interned_name ws v) n ≡ true
    found None e t = absurd cc
    found (Some w) e t =
        let one : w ≡ v = grind (arith, nat_tests) in
        let (m, at, passes) = first_passes (bytes_eq n) ws w e in
        let is : interned_name ws v ≡ m = ap (interned_name ws) (sym one) ∙ get_word ws w m at in
        ap (λ k. bytes_eq k n) is ∙ bytes_swap m n ∙ passes

-- ---- Definitions.

abbrev tests : Option InternedKey → InternedKey → Bool
tests None k = false
tests (Some q) k = same_interned_key q k

pub and_false : (b : Bool) → (b && false) ≡ false
and_false true = refl
and_false false = refl

named_test : (s t v : ℕ) (o : Option ℕ) → tests (option_map (entry.Named s) o) (entry.Named t v) ≡ (s == t && is_number o v)
named_test s t v x = grind (arith, common_steps)

cheap_test : (s t v : ℕ) (o : Option ℕ) → tests (option_map (entry.Cheap s) o) (entry.Cheap t v) ≡ (s == t && is_number o v)
cheap_test s t v x = grind (arith, common_steps)

other_named : (s : ℕ) (o : Option ℕ) (k : InternedKey) → ((w : ℕ) → same_interned_key (entry.Named s w) k ≡ false) → tests (option_map (entry.Named s) o) k ≡ false
other_named s x k h = grind (arith, common_steps)

other_cheap : (s : ℕ) (o : Option ℕ) (k : InternedKey) → ((w : ℕ) → same_interned_key (entry.Cheap s w) k ≡ false) → tests (option_map (entry.Cheap s) o) k ≡ false
other_cheap s x k h = grind (arith, common_steps)

abbrev opens : Option ScopeKey → ScopeKey → Bool
opens None k = false
opens (Some q) k = same_scope_key q k

opened_test : (s t v : ℕ) (o : Option ℕ) → opens (option_map (opening.Named s) o) (opening.Named t v) ≡ (s == t && is_number o v)
opened_test s t v x = grind (arith, common_steps)

other_opened : (s t v : ℕ) (o : Option ℕ) → opens (option_map (opening.Named s) o) (opening.Nameless t v) ≡ false
other_opened s t v x = grind (arith, common_steps)

abbrev pub place_of_opening : List (ScopeKey × Bool) → Option ScopeKey → Option ℕ
place_of_opening ss None = None
place_of_opening ss (Some k) = position (same_scope_key k) (keys_of ss)

abbrev pub place_of_entry : List (InternedKey × Definition) → Option InternedKey → Option ℕ
place_of_entry es None = None
place_of_entry es (Some k) = position (same_interned_key k) (keys_of es)

module _ (ws : List (List ℕ)) where
  entry_test : (q : Key) (k : InternedKey) → first_number ws (key_name_id k) ≡ key_name_id k → tests (interned_key_of ws q) k ≡ same_key (key_in ws k) q
  entry_test (named s n) (entry.Named t v) h = named_test s t v (position (bytes_eq n) ws) ∙ ap (λ b. b && is_number (position (bytes_eq n) ws) v) (swapped s t) ∙ ap (λ b. t == s && b) (word_test ws n v h)
  entry_test (named s n) (entry.Cheap t v) h = other_named s (position (bytes_eq n) ws) (entry.Cheap t v) (λ w. refl)
  entry_test (named s n) (entry.Unnamed c) h = other_named s (position (bytes_eq n) ws) (entry.Unnamed c) (λ w. refl)
  entry_test (cheap_in s n) (entry.Named t v) h = other_cheap s (position (bytes_eq n) ws) (entry.Named t v) (λ w. refl)
  entry_test (cheap_in s n) (entry.Cheap t v) h = cheap_test s t v (position (bytes_eq n) ws) ∙ ap (λ b. b && is_number (position (bytes_eq n) ws) v) (swapped s t) ∙ ap (λ b. t == s && b) (word_test ws n v h)
  entry_test (cheap_in s n) (entry.Unnamed c) h = other_cheap s (position (bytes_eq n) ws) (entry.Unnamed c) (λ w. refl)
  entry_test (unnamed_at c) (entry.Named t v) h = refl
  entry_test (unnamed_at c) (entry.Cheap t v) h = refl
  entry_test (unnamed_at c) (entry.Unnamed d) h = swapped c d

  pub keys_get : {K V : Type 0} (es : List (K × V)) (i : ℕ) (e : K × V) → slice_get es i ≡ Some e → slice_get (keys_of es) i ≡ Some e.0
  keys_get [] i e h = absurd cc
  keys_get (x ∷ es) zero e h = (let same : x ≡ e = cc in ap (λ p. Some p.0) same)
  keys_get (x ∷ es) (suc i) e h = keys_get es i e h

  keys_position : {K V : Type 0} (p : K → Bool) (es : List (K × V)) → position p (keys_of es) ≡ position (λ e. p e.0) es
  keys_position p es = position_mapped p (λ e. e.0) es

  -- the position of an interned key is the index of the definition of the key
  pub finds : (es : List (InternedKey × Definition)) (q : Key) → AreNumbered key_name_id ws (keys_of es) → place_of_entry es (interned_key_of ws q) ≡ position (λ d. same_key d.key q) (map (definition_in ws) es)
  finds es q h = by (interned_key_of ws q) refl ∙ sym (position_mapped (λ d. same_key d.key q) (definition_in ws) es)
    where
      by : (o : Option InternedKey) → interned_key_of ws q ≡ o → place_of_entry es o ≡ position (λ e. same_key (key_in ws e.0) q) es
      by None is = sym (position_none (λ e. same_key (key_in ws e.0) q) es (λ i e at. sym (entry_test q e.0 (h i e.0 (keys_get es i e at))) ∙ ap (λ o. tests o e.0) is))
      by (Some k) is = keys_position (same_interned_key k) es ∙ position_same (λ e. same_interned_key k e.0) (λ e. same_key (key_in ws e.0) q) es (λ i e at. sym (ap (λ o. tests o e.0) is) ∙ entry_test q e.0 (h i e.0 (keys_get es i e at)))

  -- no unnamed label has a count of 2 ^ 64 or more
  pub never_counted : (es : List (InternedKey × Definition)) (count : ℕ) → AreNumbered key_name_id ws (keys_of es) → AreCounted (keys_of es) → 2 ^ 64 ≤ count → position (λ d. same_key d.key (unnamed_at count)) (map (definition_in ws) es) ≡ None
  never_counted es count h counted le = sym (finds es (unnamed_at count) h) ∙ position_none (same_interned_key (entry.Unnamed count)) (keys_of es) (λ i k at. differs k (counted i k at))
    where
      differs : (k : InternedKey) → IsCounted k → same_interned_key (entry.Unnamed count) k ≡ false
      differs (entry.Named t v) own = refl
      differs (entry.Cheap t v) own = refl
      differs (entry.Unnamed d) own = (let lt = own d refl in grind (arith, nat_tests, lt, le))

  -- if a name isn't recorded as an inner name, no scope but the global one defines it
  pub never_inner : (es : List (InternedKey × Definition)) (inner : List Bool) (w : ℕ) → AreNumbered key_name_id ws (keys_of es) → AreInnerKnown (keys_of es) inner → (slice_get inner w ≡ Some true → ⊥) → (scope : ℕ) (n : List ℕ) → position (bytes_eq n) ws ≡ Some w → position (λ d. same_key d.key (named (suc scope) n)) (map (definition_in ws) es) ≡ None
  never_inner es inner w h known none scope n at =
      sym (finds es (named (suc scope) n) h)
      ∙ ap (λ o. place_of_entry es (option_map (entry.Named (suc scope)) o)) at
      ∙ position_none (same_interned_key (entry.Named (suc scope) w)) (keys_of es) (λ i k here. differs k (λ is. none (known i k here scope w is)))
    where
      differs : (k : InternedKey) → (k ≡ entry.Named (suc scope) w → ⊥) → same_interned_key (entry.Named (suc scope) w) k ≡ false
      differs (entry.Named t v) other = by ((suc scope == t) && (w == v)) refl
        where
          by : (b : Bool) → ((suc scope == t) && (w == v)) ≡ b → ((suc scope == t) && (w == v)) ≡ false
          by false e = e
          by true e =
              let s : suc scope ≡ t = grind (arith, nat_tests, common_steps) in
              let v' : w ≡ v = grind (arith, nat_tests, common_steps) in
              absurd (other (sym (ap (λ (x : ℕ). entry.Named x w) s ∙ ap (entry.Named t) v')))
      differs (entry.Cheap t v) other = refl
      differs (entry.Unnamed d) other = refl

  -- ---- Scopes.

  opening_test : (s : ℕ) (n : List ℕ) (k : ScopeKey) (is_proc : Bool) → first_number ws (scope_name_id k) ≡ scope_name_id k → opens (option_map (opening.Named s) (position (bytes_eq n) ws)) k ≡ ((scope_by ws k is_proc).within == s && is_named n (scope_by ws k is_proc).name)
  opening_test s n x is_proc h = grind (arith, common_steps, opened_test, swapped, word_test, other_opened, and_false)

  -- the position of the key of a scope is the index of the scope
  pub finds_opened : (ss : List (ScopeKey × Bool)) (s : ℕ) (n : List ℕ) → AreNumbered scope_name_id ws (keys_of ss) →
      place_of_opening ss (option_map (opening.Named s) (position (bytes_eq n) ws)) ≡ position (λ c. c.within == s && is_named n c.name) (map (scope_opened ws) ss)
  finds_opened ss s n h = by (option_map (opening.Named s) (position (bytes_eq n) ws)) refl ∙ sym (position_mapped is_it (scope_opened ws) ss)
    where
      is_it : Scope → Bool
      is_it c = c.within == s && is_named n c.name

      by : (o : Option ScopeKey) → option_map (opening.Named s) (position (bytes_eq n) ws) ≡ o → place_of_opening ss o ≡ position (λ e. is_it (scope_opened ws e)) ss
      by None is = sym (position_none (λ e. is_it (scope_opened ws e)) ss (λ i e at. sym (opening_test s n e.0 e.1 (h i e.0 (keys_get ss i e at))) ∙ ap (λ o. opens o e.0) is))
      by (Some k) is = keys_position (same_scope_key k) ss ∙ position_same (λ e. same_scope_key k e.0) (λ e. is_it (scope_opened ws e)) ss (λ i e at. sym (ap (λ o. opens o e.0) is) ∙ opening_test s n e.0 e.1 (h i e.0 (keys_get ss i e at)))

-- membership in a list of names, with the operands of the comparison swapped
pub any_swapped : {K : Type 0} (f : K → List ℕ) (n : List ℕ) (ks : List K) → list_any (λ k. bytes_eq n (f k)) ks ≡ list_any (λ m. bytes_eq m n) (map f ks)
any_swapped f n [] = refl
any_swapped f n (k ∷ ks) = ap (λ b. b || list_any (λ k. bytes_eq n (f k)) ks) (bytes_swap n (f k)) ∙ ap (λ b. bytes_eq (f k) n || b) (any_swapped f n ks)

-- ---- Sets of names.

-- the list with a name appended, unless it contains the name
abbrev pub with_one : List (List ℕ) → List ℕ → List (List ℕ)
with_one known n = if list_any (λ k. bytes_eq n k) known then known else known ++ n ∷ []

module _ {K : Type 0} (f : K → List ℕ) where
  any_mapped : (n : List ℕ) (known : List K) → list_any (λ k. bytes_eq n (f k)) known ≡ list_any (λ k. bytes_eq n k) (map f known)
  any_mapped n [] = refl
  any_mapped n (k ∷ known) = ap (λ b. bytes_eq n (f k) || b) (any_mapped n known)

  append_mapped : (n : K) (known : List K) → map f (known ++ n ∷ []) ≡ map f known ++ f n ∷ []
  append_mapped n [] = refl
  append_mapped n (k ∷ known) = ap (λ l. f k ∷ l) (append_mapped n known)

  -- the keys of a set of names after an insertion
  pub insert_name : (known : List K) (n : K) → map f (insert_key (λ a b. bytes_eq (f a) (f b)) known n) ≡ with_one (map f known) (f n)
  insert_name known n = by (list_any (λ k. bytes_eq (f n) (f k)) known) ∙ ap (λ b. if b then map f known else map f known ++ f n ∷ []) (any_mapped (f n) known)
    where
      by : (b : Bool) → map f (if b then known else known ++ n ∷ []) ≡ (if b then map f known else map f known ++ f n ∷ [])
      by true = refl
      by false = append_mapped n known

  pub number_mapped : (n : List ℕ) (ks : List K) → position_or_len (bytes_eq n) (map f ks) ≡ position_or_len (λ k. bytes_eq n (f k)) ks
  number_mapped n [] = refl
  number_mapped n (k ∷ ks) = ap (λ m. cond (not (bytes_eq n (f k))) (1 + m) 0) (number_mapped n ks)

pub one_begins : (ks : List (List ℕ)) (n : List ℕ) → IsPrefixOf ks (with_one ks n)
one_begins ks n = by (list_any (λ k. bytes_eq n k) ks)
  where
    by : (b : Bool) → IsPrefixOf ks (if b then ks else ks ++ n ∷ [])
    by true = ([], sym (append-nil ks))
    by false = (n ∷ [], refl)

-- the name is at its number
pub one_found : (ks : List (List ℕ)) (n : List ℕ) → position (bytes_eq n) (with_one ks n) ≡ Some (position_or_len (bytes_eq n) ks)
one_found ks n = position_from-zero (bytes_eq n) (with_one ks n) ∙ by (list_any (λ k. bytes_eq n k) ks) refl
  where
    there : (i : ℕ) (ys : List (List ℕ)) → list_any (λ k. bytes_eq n k) ys ≡ true → position_from (bytes_eq n) i ys ≡ Some (i + position_or_len (bytes_eq n) ys)
    there i [] e = absurd cc
    there i (y ∷ ys) e = step (bytes_eq n y) e (there (i + 1) ys)
      where
        step : (b : Bool) → (b || list_any (λ k. bytes_eq n k) ys) ≡ true → (list_any (λ k. bytes_eq n k) ys ≡ true → position_from (bytes_eq n) (i + 1) ys ≡ Some (i + 1 + position_or_len (bytes_eq n) ys)) → cond b (Some i) (position_from (bytes_eq n) (i + 1) ys) ≡ Some (i + cond (not b) (1 + position_or_len (bytes_eq n) ys) 0)
        step true e rest = ap Some (omega arith)
        step false e rest = rest e ∙ ap Some (omega arith)

    new : (i : ℕ) (ys : List (List ℕ)) → list_any (λ k. bytes_eq n k) ys ≡ false → position_from (bytes_eq n) i (ys ++ n ∷ []) ≡ Some (i + position_or_len (bytes_eq n) ys)
    new i [] e = ap (λ b. cond b (Some i) None) (itself n) ∙ ap Some (omega arith)
    new i (y ∷ ys) e = step (bytes_eq n y) e (new (i + 1) ys)
      where
        step : (b : Bool) → (b || list_any (λ k. bytes_eq n k) ys) ≡ false → (list_any (λ k. bytes_eq n k) ys ≡ false → position_from (bytes_eq n) (i + 1) (ys ++ n ∷ []) ≡ Some (i + 1 + position_or_len (bytes_eq n) ys)) → cond b (Some i) (position_from (bytes_eq n) (i + 1) (ys ++ n ∷ [])) ≡ Some (i + cond (not b) (1 + position_or_len (bytes_eq n) ys) 0)
        step true e rest = absurd cc
        step false e rest = rest e ∙ ap Some (omega arith)

    by : (b : Bool) → list_any (λ k. bytes_eq n k) ks ≡ b → position_from (bytes_eq n) 0 (if b then ks else ks ++ n ∷ []) ≡ Some (position_or_len (bytes_eq n) ks)
    by true e = there 0 ks e ∙ ap Some (omega arith)
    by false e = new 0 ks e ∙ ap Some (omega arith)
