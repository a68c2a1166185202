-- Entries of searches: the number of constants without an entry, and the effect of a further entry.
use Rattle.std.proofs.Common.{◌≡◌, ◌≢◌, ℕ, zero, suc, ◌+◌, ◌<◌, ◌≤◌, refl, sym, ap, ◌∙◌, arith, Option, Some, None, Bool, true, false, nat_eq, ◌⊎◌, inl, inr}
use Rattle.std.specs.Prelude.{if◌then◌else◌}
use Rattle.std.specs.Option.{option_and_then}
use Rattle.std.proofs.lemmas.Bool.Decides.{nat_tests}
use Rattle.object65.specs.Form.{Form}
use Rattle.symbols65.specs.Tables.{ArePast, entries_at, entry_at}
use Rattle.symbols65.specs.Views.{entry_form}
use Rattle.symbols65.specs.declared.table.symbols.SearchEntry.{SearchEntry}
use Rattle.symbols65.specs.declared.table.symbols.SearchEntry.TheVariants.{KnownForm, NoForm}

-- ---- The number of constants that a search hasn't visited.

abbrev is_new : {X : Type 0} → Option X → ℕ
is_new None = 1
is_new (Some x) = 0

abbrev pub unmet : {X : Type 0} → (ℕ → Option X) → ℕ → ℕ
unmet met zero = 0
unmet met (suc n) = is_new (met n) + unmet met n

-- the new entries are the old ones, with the entry at one index set to `x`
abbrev pub Meets : {X : Type 0} → (ℕ → Option X) → (ℕ → Option X) → ℕ → X → Type 0
Meets old new j x = (i : ℕ) → new i ≡ (if nat_eq j i then Some x else old i)

module _ {X : Type 0} (old new : ℕ → Option X) (j : ℕ) (x : X) (h : Meets old new j x) where
  -- an index is the one that was set, or its entry is unchanged
  pub meets_cases : (i : ℕ) → ((i ≡ j) × (new i ≡ Some x)) ⊎ ((i ≢ j) × (new i ≡ old i))
  meets_cases i = go (nat_eq j i) refl
    where
      go : (b : Bool) → nat_eq j i ≡ b → ((i ≡ j) × (new i ≡ Some x)) ⊎ ((i ≢ j) × (new i ≡ old i))
      go true b = let one : i ≡ j = grind (arith, nat_tests) in inl (one, h i ∙ ap (λ (t : Bool). if t then Some x else old i) b)
      go false b = let other : i ≢ j = grind (arith, nat_tests) in inr (other, h i ∙ ap (λ (t : Bool). if t then Some x else old i) b)

  few : (o : Option X) → is_new o ≤ 1
  few None = omega arith
  few (Some y) = omega arith

  pub unmet_no_more : (n : ℕ) → unmet new n ≤ unmet old n
  unmet_no_more zero = omega arith
  unmet_no_more (suc n) = go (meets_cases n) (unmet_no_more n)
    where
      go : ((n ≡ j) × (new n ≡ Some x)) ⊎ ((n ≢ j) × (new n ≡ old n)) → unmet new n ≤ unmet old n → unmet new (suc n) ≤ unmet old (suc n)
      go (inl (one, is)) le = let none : is_new (new n) ≡ 0 = ap is_new is in omega (arith, none, le)
      go (inr (other, is)) le = let same : is_new (new n) ≡ is_new (old n) = ap is_new is in omega (arith, same, le)

  pub unmet_fewer : old j ≡ None → (n : ℕ) → j < n → suc (unmet new n) ≤ unmet old n
  unmet_fewer unmet_before zero lt = absurd (omega (arith, lt))
  unmet_fewer unmet_before (suc n) lt = go (meets_cases n) (λ less. unmet_fewer unmet_before n less)
    where
      go : ((n ≡ j) × (new n ≡ Some x)) ⊎ ((n ≢ j) × (new n ≡ old n)) → (j < n → suc (unmet new n) ≤ unmet old n) → suc (unmet new (suc n)) ≤ unmet old (suc n)
      go (inl (one, is)) rest =
          let none : is_new (new n) ≡ 0 = ap is_new is in
          let all : is_new (old n) ≡ 1 = ap (λ (i : ℕ). is_new (old i)) one ∙ ap is_new unmet_before in
          let more = unmet_no_more n in
          omega (arith, none, all, more)
      go (inr (other, is)) rest =
          let same : is_new (new n) ≡ is_new (old n) = ap is_new is in
          let fewer = rest (omega (arith, lt, other)) in
          omega (arith, same, fewer)

-- ---- Entries.

pub entry_same : (count : ℕ) (o : Option SearchEntry) → entry_form o ≡ option_and_then (λ x. x) (entry_at count o)
entry_same count None = refl
entry_same count (Some (KnownForm f)) = refl
entry_same count (Some (NoForm n)) = by (nat_eq n count) (entry_at count (Some (NoForm n))) refl
  where
    by : (b : Bool) (o : Option (Option Form)) → o ≡ (if b then Some None else None) → entry_form (Some (NoForm n)) ≡ option_and_then (λ x. x) o
    by true o is = sym (ap (option_and_then (λ x. x)) is)
    by false o is = sym (ap (option_and_then (λ x. x)) is)

-- `entry_at` distributes over `if`
entry_pushed : (count : ℕ) (b : Bool) (x : SearchEntry) (o : Option SearchEntry) → entry_at count (if b then Some x else o) ≡ (if b then entry_at count (Some x) else entry_at count o)
entry_pushed count true x o = refl
entry_pushed count false x o = refl

pub mark_says : (count n : ℕ) → n ≡ count → entry_at count (Some (NoForm n)) ≡ Some None
mark_says count n is = by (nat_eq n count) refl (entry_at count (Some (NoForm n))) refl
  where
    by : (b : Bool) → nat_eq n count ≡ b → (o : Option (Option Form)) → o ≡ (if b then Some None else None) → o ≡ Some None
    by true e o q = q
    by false e o q = (let other : n ≢ count = grind (arith, nat_tests) in absurd (other is))

module _ (count : ℕ) (old new : ℕ → Option SearchEntry) (j : ℕ) where
  pub meets_form : (f : Form) → ((i : ℕ) → new i ≡ (if nat_eq j i then Some (KnownForm f) else old i)) → Meets (entries_at count old) (entries_at count new) j (Some f)
  meets_form f h i = ap (entry_at count) (h i) ∙ entry_pushed count (nat_eq j i) (KnownForm f) (old i)

  pub meets_mark : (n : ℕ) → n ≡ count → ((i : ℕ) → new i ≡ (if nat_eq j i then Some (NoForm n) else old i)) → Meets (entries_at count old) (entries_at count new) j None
  meets_mark n is h i = ap (entry_at count) (h i) ∙ entry_pushed count (nat_eq j i) (NoForm n) (old i) ∙ ap (λ (o : Option (Option Form)). if nat_eq j i then o else entry_at count (old i)) (mark_says count n is)

  pub past_form : (f : Form) → ((i : ℕ) → new i ≡ (if nat_eq j i then Some (KnownForm f) else old i)) → ArePast count old → ArePast count new
  past_form f h past i n at = by (nat_eq j i) (sym (h i) ∙ at)
    where
      by : (b : Bool) → (if b then Some (KnownForm f) else old i) ≡ Some (NoForm n) → n ≤ count
      by true q = absurd cc
      by false q = past i n q

  pub past_mark : (m : ℕ) → m ≡ count → ((i : ℕ) → new i ≡ (if nat_eq j i then Some (NoForm m) else old i)) → ArePast count old → ArePast count new
  past_mark m is h past i n at = by (nat_eq j i) (sym (h i) ∙ at)
    where
      by : (b : Bool) → (if b then Some (NoForm m) else old i) ≡ Some (NoForm n) → n ≤ count
      by true q = (let same : m ≡ n = cc in omega (arith, same, is))
      by false q = past i n q
