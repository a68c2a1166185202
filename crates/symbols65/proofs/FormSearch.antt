-- The search for the form of an expression, with a list of pending constants, each of which needs the next.
use Rattle.std.proofs.Common.{◌≡◌, ◌≢◌, ℕ, zero, suc, ◌+◌, ◌-◌, ◌<◌, ◌≤◌, refl, sym, ap, ◌∙◌, subst, arith, List, [], ◌∷◌, ◌++◌, length, Option, Some, None, is_some, slice_get, Bool, true, false, nat_eq, Result, Ok, Err, ◌⊎◌, inl, inr}
use Rattle.std.specs.Prelude.{⊤, if◌then◌else◌}
use Rattle.std.specs.Option.{option_and_then}
use Rattle.std.specs.Result.{result_ok}
use Rattle.std.proofs.lemmas.Grind.{common_steps}
use Rattle.std.proofs.lemmas.Option.{slice_get_within}
use Rattle.std.proofs.Math.Path.{fun_ext}
use Rattle.base65.specs.Outcome.{RefinesProp, Unless}
use Rattle.object65.specs.Form.{Form}
use Rattle.ast65.specs.Faults.{is_out_of_memory}
use Rattle.ast65.specs.declared.fault.AsmFault.{AsmFault}
use Rattle.ast65.specs.declared.fault.AsmFault.TheVariants.{Circular}
use Rattle.semantics65.specs.Norms.{defined_form}
use Rattle.semantics65.specs.Symbols.{Definition, Symbols, or_else}
use Rattle.symbols65.specs.declared.resolving.attempt.AttemptError.{AttemptError}
use Rattle.symbols65.specs.declared.resolving.attempt.AttemptError.TheVariants.{Needs, Fault}
use Rattle.symbols65.specs.declared.table.symbols.SearchEntry.{SearchEntry}
use Rattle.symbols65.specs.declared.table.symbols.SearchEntry.TheVariants.{KnownForm, NoForm}
use Rattle.symbols65.specs.declared.table.symbols.Symbols as code
use Rattle.symbols65.specs.Resolving.{FindsForm, HaveBoundedDepth, IsEntryOf, plain_form, plain_result, constant_attempt}
use Rattle.symbols65.specs.Tables.{AreSearched, KeepsSearches, entries_at}
use Rattle.symbols65.specs.Views.{entry_form, final_form, known_by, table_of}
use Rattle.symbols65.proofs.Chains.{Among, IsChain, among_after, among_cases, among_last, among_more, chain_less, chain_more, chain_passes, last_course, met_ever}
use Rattle.symbols65.proofs.Entries.{Meets, entry_same, meets_cases, meets_form, meets_mark, past_form, past_mark}
use Rattle.symbols65.proofs.KnownForms.{has_form, known_found}
use Rattle.symbols65.proofs.ExpansionDepths.{Course, EventuallyEquals, circular_before, constant_course, constant_is, constant_is_last, ok_later}
use Rattle.symbols65.proofs.Attempts.{Near, Agrees, IsAttempt, at_turn, attempt_at}

-- ---- One constant needs another.

-- The course `v` inherits the errors of constant `j`: an error that `j` has at all large depths is one of `v`. If `j` is
-- circular at depth k, then `v` is circular at depth k + 1.
pub record InheritsErrors (table : Symbols) (v : Course) (j : ℕ) : Type 0 where
  pub faults : (e : AsmFault) → EventuallyEquals (constant_course table j) (Err e) → EventuallyEquals v (Err e)
  pub circular : (n : ℕ) → constant_course table j n ≡ Err Circular → v (suc n) ≡ Err Circular
  pub starts : constant_course table j 0 ≡ Err Circular

near_so : (r s : Result Form AsmFault) → Near ⊥ r s → r ≡ s
near_so r s x = grind (arith, common_steps)

near_circular : (r : Result Form AsmFault) → Near ⊤ r (Err Circular) → r ≡ Err Circular
near_circular r x = grind (arith, common_steps)

leads_from : (c : ℕ) (table : Symbols) (known : ℕ → Option Form) (v : Course) (a : Result Form AttemptError) (j : ℕ) → IsAttempt c table known v a → a ≡ Err (Needs j) → InheritsErrors table v j
leads_from c table known v a j t e = record {
  faults = λ z (n, h). (suc (c + n), λ k le. later z n h k le);
  circular = λ k h. (let P : Result Form AttemptError → Type 0 = λ x. Agrees ⊤ (at_turn table k) x (v (suc k)) in near_circular (v (suc k)) (subst P e (t.ever k) Circular h));
  starts = (t.lacks j e).starts;
}
  where
    later : (z : AsmFault) (n : ℕ) → ((k : ℕ) → n ≤ k → constant_course table j k ≡ Err z) → (k : ℕ) → suc (c + n) ≤ k → v k ≡ Err z
    later z n h zero le = absurd (omega (arith, le))
    later z n h (suc k) le = (let P : Result Form AttemptError → Type 0 = λ x. Agrees ⊥ (at_turn table k) x (v (suc k)) in near_so (v (suc k)) (Err z) (subst P e (t.later k (omega (arith, le))) z (h k (omega (arith, le)))))

fault_from : (c : ℕ) (table : Symbols) (known : ℕ → Option Form) (v : Course) (a : Result Form AttemptError) (z : AsmFault) → IsAttempt c table known v a → a ≡ Err (Fault z) → (k : ℕ) → c ≤ k → v (suc k) ≡ Err z
fault_from c table known v a z t e k le = (let P : Result Form AttemptError → Type 0 = λ x. Agrees ⊥ (at_turn table k) x (v (suc k)) in near_so (v (suc k)) (Err z) (subst P e (t.later k le)))

pub form_from : (c : ℕ) (table : Symbols) (known : ℕ → Option Form) (v : Course) (a : Result Form AttemptError) (f : Form) → IsAttempt c table known v a → a ≡ Ok f → (k : ℕ) → c ≤ k → v (suc k) ≡ Ok f
form_from c table known v a f t e k le = (let P : Result Form AttemptError → Type 0 = λ x. Agrees ⊥ (at_turn table k) x (v (suc k)) in near_so (v (suc k)) (Ok f) (subst P e (t.later k le)))

-- ---- The search.

-- the forms that a search has found
abbrev pub found_in : (ℕ → Option (Option Form)) → ℕ → Option Form
found_in met j = option_and_then (λ o. o) (met j)

module _ (t : code.Symbols) where
  abbrev y : Symbols
  y = table_of t

  abbrev count : ℕ
  count = length (table_of t).definitions

  -- The invariant of a search. Each pending constant needs the next, and the depth of the forms that were found is bounded.
  -- A constant with an entry without a form is pending, or had such an entry before the search.
  pub record IsPursuit (before met : ℕ → Option (Option Form)) (v : Course) (ws : List ℕ) : Type 0 where
    pub turns : ℕ
    pub found : HaveBoundedDepth turns y (found_in met)
    pub chain : IsChain y (InheritsErrors y) v ws
    pub marked : (j : ℕ) → met j ≡ Some None → Among j ws ⊎ (before j ≡ Some None)

  pub pursuit_starts : (met : ℕ → Option (Option Form)) (v : Course) → AreSearched y met → IsPursuit met met v []
  pursuit_starts met v h = record {
    turns = suc count;
    found = λ j f q. recorded j f (met j) refl q;
    chain = tt;
    marked = λ j q. inr q;
  }
    where
      recorded : (j : ℕ) (f : Form) (o : Option (Option Form)) → met j ≡ o → option_and_then (λ x. x) o ≡ Some f → constant_course y j (suc count) ≡ Ok f
      recorded j f None is q = absurd cc
      recorded j f (Some None) is q = absurd cc
      recorded j f (Some (Some g)) is q = (let same : g ≡ f = cc in has_form (constant_course y j (suc count)) f (h j (Some f) (is ∙ ap (λ x. Some (Some x)) same)))

  abbrev pub known_of : (ℕ → Option (Option Form)) → ℕ → Option Form
  known_of met = known_by t (found_in met)

  pub known_same : (n : ℕ) (searched : ℕ → Option SearchEntry) → known_by t (λ j. entry_form (searched j)) ≡ known_of (entries_at n searched)
  known_same n searched = fun_ext (λ j. ap (or_else (final_form t j)) (entry_same n (searched j)))

  within : (j : ℕ) → (slice_get y.definitions j ≡ None → ⊥) → j < count
  within j some = by (slice_get y.definitions j) refl
    where
      by : (o : Option Definition) → slice_get y.definitions j ≡ o → j < count
      by None is = absurd (some is)
      by (Some d) is = slice_get_within y.definitions j d is

  -- a constant that has an error at all large depths has no form
  pub defined_ends : (j : ℕ) (z : AsmFault) → EventuallyEquals (constant_course y j) (Err z) → result_ok (defined_form y j) ≡ None
  defined_ends j z (n, h) = ap result_ok (constant_is_last y n j ∙ h (suc (n + count)) (omega arith))

  module _ (before met : ℕ → Option (Option Form)) (v : Course) (ws : List ℕ) (p : IsPursuit before met v ws) where
    abbrev AtLast : Result Form AttemptError → Type 0
    AtLast a = IsAttempt (p.turns + count) y (known_of met) (last_course y v ws) a

    pub pursuit_known : HaveBoundedDepth (p.turns + count) y (known_of met)
    pursuit_known = known_found t p.turns (found_in met) p.found

    -- If the attempt at the last pending constant needs constant `j`, the last constant inherits the errors of `j`, and `j`
    -- is defined. If no constant is pending, the attempt is at the expression.
    pub pursuit_leads : (a : Result Form AttemptError) (j : ℕ) → AtLast a → a ≡ Err (Needs j) → InheritsErrors y (last_course y v ws) j × (j < count)
    pursuit_leads a j h e = (leads_from (p.turns + count) y (known_of met) (last_course y v ws) a j h e, within j (h.lacks j e).inside)

    -- the invariant is preserved if a needed constant is marked and becomes the last pending constant
    pub pursuit_needs : (new : ℕ → Option (Option Form)) (more : List ℕ) (j : ℕ) → InheritsErrors y (last_course y v ws) j → Meets met new j None → more ≡ ws ++ j ∷ [] → IsPursuit before new v more
    pursuit_needs new more j l meets pushed = subst (IsPursuit before new v) (sym pushed) record {
      turns = p.turns;
      found = λ i f q. founds i f (meets_cases met new j None meets i) q;
      chain = chain_more y (InheritsErrors y) v ws j p.chain l;
      marked = λ i q. marks i (meets_cases met new j None meets i) q;
    }
      where
        founds : (i : ℕ) (f : Form) → ((i ≡ j) × (new i ≡ Some None)) ⊎ ((i ≢ j) × (new i ≡ met i)) → found_in new i ≡ Some f → constant_course y i p.turns ≡ Ok f
        founds i f (inl (one, is)) q = (let never : None ≡ Some f = sym (ap (option_and_then (λ o. o)) is) ∙ q in absurd cc)
        founds i f (inr (other, is)) q = p.found i f (sym (ap (option_and_then (λ o. o)) is) ∙ q)

        marks : (i : ℕ) → ((i ≡ j) × (new i ≡ Some None)) ⊎ ((i ≢ j) × (new i ≡ met i)) → new i ≡ Some None → Among i (ws ++ j ∷ []) ⊎ (before i ≡ Some None)
        marks i (inl (one, is)) q = inl (among_last i j ws one)
        marks i (inr (other, is)) q = still (p.marked i (sym is ∙ q))
          where
            still : Among i ws ⊎ (before i ≡ Some None) → Among i (ws ++ j ∷ []) ⊎ (before i ≡ Some None)
            still (inl m) = inl (among_more i j ws m)
            still (inr was) = inr was

    -- a needed constant with an entry is pending, or had an entry without a form before the search
    pub pursuit_meets : (a : Result Form AttemptError) (j : ℕ) → AtLast a → a ≡ Err (Needs j) → is_some (met j) ≡ true → Among j ws ⊎ (before j ≡ Some None)
    pursuit_meets a j h e there = by (met j) refl there
      where
        unfound : (f : Form) (o : Option Form) → ((g : Form) → or_else o (Some f) ≡ Some g → ⊥) → ⊥
        unfound f None none = none f refl
        unfound f (Some g) none = none g refl

        by : (o : Option (Option Form)) → met j ≡ o → is_some o ≡ true → Among j ws ⊎ (before j ≡ Some None)
        by None is q = absurd cc
        by (Some None) is q = p.marked j is
        by (Some (Some f)) is q = absurd (unfound f (final_form t j) (λ g k. (h.lacks j e).unfound g (ap (λ o. or_else (final_form t j) (option_and_then (λ x. x) o)) is ∙ k)))

    -- ---- The result of the last pending constant.

    pub last_faults : (a : Result Form AttemptError) (z : AsmFault) → AtLast a → a ≡ Err (Fault z) → EventuallyEquals (last_course y v ws) (Err z)
    last_faults a z h e = (suc (p.turns + count), λ k le. later k le)
      where
        later : (k : ℕ) → suc (p.turns + count) ≤ k → last_course y v ws k ≡ Err z
        later zero le = absurd (omega (arith, le))
        later (suc k) le = fault_from (p.turns + count) y (known_of met) (last_course y v ws) a z h e k (omega (arith, le))

    pub last_circular : (j : ℕ) → InheritsErrors y (last_course y v ws) j → Among j ws → EventuallyEquals (last_course y v ws) (Err Circular)
    last_circular j l m = (1, λ k le. later k le)
      where
        later : (k : ℕ) → 1 ≤ k → last_course y v ws k ≡ Err Circular
        later zero le = absurd (omega (arith, le))
        later (suc k) le =
            l.circular k (met_ever y (InheritsErrors y) (λ v k. v k ≡ Err Circular) (λ v j k l e. l.circular k e) (λ j n k le e. circular_before (constant_course y j) (constant_is y j) k n le e) (λ v j l. l.starts) v ws j p.chain l m k)

    pub last_lacks : (j : ℕ) → InheritsErrors y (last_course y v ws) j → result_ok (defined_form y j) ≡ None → (z : AsmFault) × EventuallyEquals (last_course y v ws) (Err z)
    last_lacks j l none = by (defined_form y j) refl none
      where
        by : (r : Result Form AsmFault) → defined_form y j ≡ r → result_ok r ≡ None → (z : AsmFault) × EventuallyEquals (last_course y v ws) (Err z)
        by (Ok f) is q = absurd cc
        by (Err z) is q = (z, l.faults z (suc count, λ k le. (let far : k ≡ suc (k - suc count + count) = omega (arith, le) in ap (constant_course y j) far ∙ sym (constant_is_last y (k - suc count) j) ∙ is)))

    -- ---- The result of the search.

    found_recorded : (j : ℕ) (f : Form) → met j ≡ Some (Some f) → result_ok (defined_form y j) ≡ Some f
    found_recorded j f at = ap result_ok (constant_is_last y p.turns j ∙ ok_later (constant_course y j) (constant_is y j) p.turns (suc (p.turns + count)) f (omega arith) (p.found j f (ap (option_and_then (λ o. o)) at)))

    -- an error of the last pending constant is an error of the expression and of all pending constants
    module _ (z : AsmFault) (ends : EventuallyEquals (last_course y v ws) (Err z)) where
      pub search_ends : EventuallyEquals v (Err z)
      search_ends = chain_passes y (InheritsErrors y) (λ v k. EventuallyEquals v (Err z)) (λ v j k l q. l.faults z q) v ws 0 p.chain ends

      pub ends_recorded : AreSearched y before → AreSearched y met
      ends_recorded h j (Some f) at = found_recorded j f at
      ends_recorded h j None at = pending (p.marked j at)
        where
          pending : Among j ws ⊎ (before j ≡ Some None) → result_ok (defined_form y j) ≡ None
          pending (inl m) =
              let (d, after) = among_after y (InheritsErrors y) (λ v k. EventuallyEquals v (Err z)) (λ v j k l q. l.faults z q) v ws j p.chain m in
              defined_ends j z (after 0 ends)
          pending (inr was) = h j None was

    -- the case that no constant is pending
    module _ (empty : ws ≡ []) where
      no_mark : (j : ℕ) → Among j ws ⊎ (before j ≡ Some None) → before j ≡ Some None
      no_mark j (inl m) = absurd (subst (Among j) empty m)
      no_mark j (inr was) = was

      pub all_recorded : AreSearched y before → AreSearched y met
      all_recorded h j (Some f) at = found_recorded j f at
      all_recorded h j None at = h j None (no_mark j (p.marked j at))

      pub still_unmarked : ((j : ℕ) → before j ≡ Some None → ⊥) → (j : ℕ) → met j ≡ Some None → ⊥
      still_unmarked none j at = none j (no_mark j (p.marked j at))

      pub search_done : (a : Result Form AttemptError) (f : Form) → AtLast a → a ≡ Ok f → EventuallyEquals v (Ok f)
      search_done a f h e = (suc (p.turns + count), λ k le. later k le)
        where
          later : (k : ℕ) → suc (p.turns + count) ≤ k → v k ≡ Ok f
          later zero le = absurd (omega (arith, le))
          later (suc k) le = subst (λ (z : List ℕ). last_course y v z (suc k) ≡ Ok f) empty (form_from (p.turns + count) y (known_of met) (last_course y v ws) a f h e k (omega (arith, le)))

  -- the invariant is preserved if the form of the last pending constant is recorded and the constant is popped
  pub pursuit_up : (before met new : ℕ → Option (Option Form)) (v : Course) (ws others : List ℕ) (j : ℕ) (f : Form) (a : Result Form AttemptError) (p : IsPursuit before met v ws) → IsAttempt (p.turns + count) y (known_of met) (constant_course y j) a → a ≡ Ok f →
      Meets met new j (Some f) → ws ≡ others ++ j ∷ [] → IsPursuit before new v others
  pursuit_up before met new v ws others j f a p h e meets popped = record {
    turns = suc (p.turns + count);
    found = λ i g q. founds i g (meets_cases met new j (Some f) meets i) q;
    chain = chain_less y (InheritsErrors y) v others j (subst (IsChain y (InheritsErrors y) v) popped p.chain);
    marked = λ i q. marks i (meets_cases met new j (Some f) meets i) q;
  }
    where
      own : constant_course y j (suc (p.turns + count)) ≡ Ok f
      own = form_from (p.turns + count) y (known_of met) (constant_course y j) a f h e (p.turns + count) (omega arith)

      founds : (i : ℕ) (g : Form) → ((i ≡ j) × (new i ≡ Some (Some f))) ⊎ ((i ≢ j) × (new i ≡ met i)) → found_in new i ≡ Some g → constant_course y i (suc (p.turns + count)) ≡ Ok g
      founds i g (inl (one, is)) q = (let same : f ≡ g = (let both : Some f ≡ Some g = sym (ap (option_and_then (λ o. o)) is) ∙ q in cc) in ap (λ x. constant_course y x (suc (p.turns + count))) one ∙ own ∙ ap Ok same)
      founds i g (inr (other, is)) q = ok_later (constant_course y i) (constant_is y i) p.turns (suc (p.turns + count)) g (omega arith) (p.found i g (sym (ap (option_and_then (λ o. o)) is) ∙ q))

      marks : (i : ℕ) → ((i ≡ j) × (new i ≡ Some (Some f))) ⊎ ((i ≢ j) × (new i ≡ met i)) → new i ≡ Some None → Among i others ⊎ (before i ≡ Some None)
      marks i (inl (one, is)) q = (let never : Some (Some f) ≡ Some None = sym is ∙ q in absurd cc)
      marks i (inr (other, is)) q = rest (p.marked i (sym is ∙ q))
        where
          still : Among i others ⊎ (i ≡ j) → Among i others ⊎ (before i ≡ Some None)
          still (inl m) = inl m
          still (inr same) = absurd (other same)

          rest : Among i ws ⊎ (before i ≡ Some None) → Among i others ⊎ (before i ≡ Some None)
          rest (inl m) = still (among_cases i j others (subst (Among i) popped m))
          rest (inr was) = inr was

  -- an attempt at a constant, by the forms that searches have found
  module _ (met : ℕ → Option (Option Form)) (h : AreSearched y met) (r : ℕ) where
    tried : IsAttempt (suc count + count) y (known_of met) (constant_course y r) (constant_attempt (known_of met) y r)
    unfolding pursuit_starts
    tried = attempt_at (suc count + count) y (known_of met) (pursuit_known met met (constant_course y r) [] (pursuit_starts met (constant_course y r) h)) r

    pub form_at : (f : Form) → constant_attempt (known_of met) y r ≡ Ok f → defined_form y r ≡ Ok f
    form_at f e = constant_is_last y (suc count + count) r ∙ form_from (suc count + count) y (known_of met) (constant_course y r) (constant_attempt (known_of met) y r) f tried e (suc count + count + count) (omega arith)

    pub fault_at : (z : AsmFault) → constant_attempt (known_of met) y r ≡ Err (Fault z) → defined_form y r ≡ Err z
    fault_at z e = constant_is_last y (suc count + count) r ∙ fault_from (suc count + count) y (known_of met) (constant_course y r) (constant_attempt (known_of met) y r) z tried e (suc count + count + count) (omega arith)

pub unless_not : {P : Type 0} (b : Bool) → b ≡ false → Unless b P → P
unless_not true is h = absurd cc
unless_not false is h = h

-- the number or address of a result, if it has one
pub plain_known : (r : Result Form AsmFault) (o : Option Form) → result_ok r ≡ o → option_and_then plain_form o ≡ plain_result r
plain_known (Ok f) o h = ap (option_and_then plain_form) (sym h)
plain_known (Err z) o h = ap (option_and_then plain_form) (sym h)

-- ---- The entry of a further constant.

pub entry_kept : {K : Type 0} (n : ℕ) (r : Result Form AsmFault) (e : SearchEntry) → IsEntryOf n r e → RefinesProp is_out_of_memory (λ q. K) r → K
entry_kept n (Ok f) e is h = h
entry_kept n (Err z) e is h = unless_not (is_out_of_memory z) is.0 h

module _ (y : Symbols) (old new : ℕ → Option SearchEntry) (j : ℕ) where
  abbrev so_many : ℕ
  so_many = length y.definitions

  entry_holds : (o : Option Form) → Meets (entries_at so_many old) (entries_at so_many new) j o → result_ok (defined_form y j) ≡ o → AreSearched y (entries_at so_many old) → AreSearched y (entries_at so_many new)
  entry_holds o meets own h i p at = by (meets_cases (entries_at so_many old) (entries_at so_many new) j o meets i)
    where
      by : ((i ≡ j) × (entries_at so_many new i ≡ Some o)) ⊎ ((i ≢ j) × (entries_at so_many new i ≡ entries_at so_many old i)) → result_ok (defined_form y i) ≡ p
      by (inl (one, is)) = (let same : o ≡ p = cc in ap (λ (k : ℕ). result_ok (defined_form y k)) one ∙ own ∙ same)
      by (inr (other, is)) = h i p (sym is ∙ at)

  pub searched_more : (r : Result Form AsmFault) (e : SearchEntry) → FindsForm r (defined_form y j) → IsEntryOf so_many r e → ((i : ℕ) → new i ≡ (if nat_eq j i then Some e else old i)) → KeepsSearches y old → KeepsSearches y new
  searched_more (Ok f) e finds is h (hold, past) =
      let made : (i : ℕ) → new i ≡ (if nat_eq j i then Some (KnownForm f) else old i) = λ i. h i ∙ ap (λ (x : SearchEntry). if nat_eq j i then Some x else old i) is in (
        entry_holds (Some f) (meets_form so_many old new j f made) (ap result_ok finds) hold,
        past_form so_many old new j f made past,
      )
  searched_more (Err z) e finds (is, mark) h (hold, past) =
      let made : (i : ℕ) → new i ≡ (if nat_eq j i then Some (NoForm so_many) else old i) = λ i. h i ∙ ap (λ (x : SearchEntry). if nat_eq j i then Some x else old i) mark in (
        entry_holds None (meets_mark so_many old new j so_many refl made) (unless_not (is_out_of_memory z) is finds) hold,
        past_mark so_many old new j so_many refl made past,
      )
