use Rattle.std.proofs.Common.{rules, ◌≡◌, ◌∙◌, ◌+◌, ◌<◌, ◌⊎◌, inl, inr, ℕ, Option, None, Some, Result, Ok, Err, List, [], ◌∷◌, length, length-append, nat_eq, is_some, true, false, sym, ap, refl, subst, arith}
use Rattle.std.proofs.lemmas.List.{nil_from_length}
use Rattle.std.specs.Result.{result_ok}
use Rattle.base65.specs.Outcome.{RefinesErr}
use Rattle.indexmap.specs.IndexMap.{get}
use Rattle.object65.specs.Form.{Form}
use Rattle.ast65.specs.Faults.{is_out_of_memory}
use Rattle.ast65.specs.declared.fault.AsmFault.{AsmFault}
use Rattle.ast65.specs.declared.fault.AsmFault.TheVariants.{Circular}
use Rattle.semantics65.specs.declared.contexts.Context.{Context}
use Rattle.semantics65.specs.Norms.{norm_of}
use Rattle.syntax65.specs.Trees.{Tree}
use Rattle.symbols65.specs.declared.resolving.attempt.AttemptError.{AttemptError}
use Rattle.symbols65.specs.declared.resolving.attempt.AttemptError.TheVariants.{Needs, Fault}
use Rattle.symbols65.specs.declared.table.symbols.Symbols.{Symbols}
use Rattle.symbols65.specs.declared.table.symbols.SearchEntry.{SearchEntry}
use Rattle.symbols65.specs.Resolving.{form_attempt, lacks_memory, constant_attempt, last_attempt}
use Rattle.symbols65.specs.Tables.{AreSearched, entries_at, entry_at}
use Rattle.symbols65.specs.Views.{entry_form, known_by, table_of}
use Rattle.symbols65.proofs.Chains.{Among, last_course}
use Rattle.symbols65.proofs.Entries.{meets_form, meets_mark, past_form, past_mark, unmet_fewer, unmet_no_more}
use Rattle.symbols65.proofs.LastPending.{last_tried}
use Rattle.symbols65.proofs.FormSearch.{InheritsErrors, IsPursuit, all_recorded, ends_recorded, known_of, known_same, last_circular, last_faults, last_lacks, pursuit_known, pursuit_leads, pursuit_meets, pursuit_needs, pursuit_starts, pursuit_up, search_done, search_ends, still_unmarked}
use Rattle.symbols65.proofs.Attempts.{IsAttempt, attempt_at, attempt_first, attempt_last}
use Rattle.symbols65.proofs.ExpansionDepths.{EventuallyEquals, comes_to_norm, expression_course}
use Rattle.symbols65.proofs.StatementLayouts.{unless_then}
use Rattle.symbols65.proofs.resolving.search.run_search.Goals as goal

-- an error has no form
no_form : (r : Result Form AsmFault) (z : AsmFault) → r ≡ Err z → result_ok r ≡ None
no_form r z is = ap result_ok is

none_of : (o : Option (Option Form)) → is_some o ≡ false → o ≡ None
none_of None q = refl
none_of (Some x) q = absurd cc

module _ (t : Symbols) (s : Context) (e : Tree) where
  abbrev count : ℕ
  count = length (table_of t).definitions

  abbrev course : ℕ → Result Form AsmFault
  course = expression_course (table_of t) s e

  -- the attempt at the last pending constant, by the known forms
  abbrev last_by : (ℕ → Option Form) → List ℕ → Result Form AttemptError
  last_by known ws = last_attempt (constant_attempt known (table_of t)) (form_attempt known (table_of t) s e) ws

  same_last : (searched : ℕ → Option SearchEntry) (ws0 ws : List ℕ) → ws0 ≡ ws → last_by (known_of t (entries_at count searched)) ws ≡ last_by (known_by t (λ j. entry_form (searched j))) ws0
  same_last searched ws0 ws is = ap (λ known. last_by known ws) (sym (known_same t count searched)) ∙ ap (last_by (known_by t (λ j. entry_form (searched j)))) (sym is)

  module _ (before met : ℕ → Option (Option Form)) (ws : List ℕ) (p : IsPursuit t before met course ws) where
    abbrev last_at : Result Form AttemptError
    last_at = last_by (known_of t met) ws

    attempt : IsAttempt (p.turns + count) (table_of t) (known_of t met) (last_course (table_of t) course ws) last_at
    attempt =
        let known = pursuit_known t before met course ws p in
        attempt_last (p.turns + count) (table_of t) (known_of t met) known course (form_attempt (known_of t met) (table_of t) s e) (attempt_first (p.turns + count) (table_of t) (known_of t met) known s e) ws

    needed : (x : AttemptError) (j : ℕ) (r : Result Form AttemptError) → last_at ≡ r → x ≡ Needs j → RefinesErr lacks_memory x r → last_at ≡ Err (Needs j)
    needed x j r same is h = (let P : AttemptError → Type 0 = λ q. RefinesErr lacks_memory q r in same ∙ subst P is h)

    leads : (j : ℕ) → last_at ≡ Err (Needs j) → InheritsErrors (table_of t) (last_course (table_of t) course ws) j × (j < count)
    leads j needs = pursuit_leads t before met course ws p last_at j attempt needs

    -- an error of the last pending constant is an error of the expression
    ended : (z : AsmFault) → EventuallyEquals (last_course (table_of t) course ws) (Err z) → norm_of (table_of t) s e ≡ Err z
    ended z ends = comes_to_norm (table_of t) s e (Err z) (search_ends t before met course ws p z ends)

    faults : (z : AsmFault) → last_at ≡ Err (Fault z) → EventuallyEquals (last_course (table_of t) course ws) (Err z)
    faults z is = last_faults t before met course ws p last_at z attempt is

    -- a needed constant with an entry is pending, or had an entry without a form before the search
    met_before : (j : ℕ) → last_at ≡ Err (Needs j) → is_some (met j) ≡ true → Among j ws ⊎ (before j ≡ Some None)
    met_before j needs there = pursuit_meets t before met course ws p last_at j attempt needs there

    circular : (j : ℕ) → last_at ≡ Err (Needs j) → Among j ws → EventuallyEquals (last_course (table_of t) course ws) (Err Circular)
    circular j needs m = last_circular t before met course ws p j (leads j needs).0 m

    ended_met : AreSearched (table_of t) before → (j : ℕ) → last_at ≡ Err (Needs j) → is_some (met j) ≡ true → (z : AsmFault) × EventuallyEquals (last_course (table_of t) course ws) (Err z)
    ended_met h j needs there = by (met_before j needs there)
      where
        by : Among j ws ⊎ (before j ≡ Some None) → (z : AsmFault) × EventuallyEquals (last_course (table_of t) course ws) (Err z)
        by (inl m) = (Circular, circular j needs m)
        by (inr was) = last_lacks t before met course ws p j (leads j needs).0 (h j None was)

    first_met : ((j : ℕ) → before j ≡ Some None → ⊥) → (j : ℕ) → last_at ≡ Err (Needs j) → is_some (met j) ≡ true → norm_of (table_of t) s e ≡ Err Circular
    first_met none j needs there = by (met_before j needs there)
      where
        by : Among j ws ⊎ (before j ≡ Some None) → norm_of (table_of t) s e ≡ Err Circular
        by (inl m) = ended Circular (circular j needs m)
        by (inr was) = absurd (none j was)

    recorded : AreSearched (table_of t) before → (z : AsmFault) → EventuallyEquals (last_course (table_of t) course ws) (Err z) → AreSearched (table_of t) met
    recorded h z ends = ends_recorded t before met course ws p z ends h

    found : (f : Form) → ws ≡ [] → last_at ≡ Ok f → norm_of (table_of t) s e ≡ Ok f
    found f empty is = comes_to_norm (table_of t) s e (Ok f) (search_done t before met course ws p empty last_at f attempt is)

-- ---- The goals.

pub find-init : goal.find-init
find-init c =
    let t = c.args.symbols.now in (
      rw c.new-pending_constants.ensures.items (pursuit_starts t (entries_at (length (table_of t).definitions) (get nat_eq c.args.known.now)) (expression_course (table_of t) c.args.context c.args.value.now) c.requires.0),
      c.requires.1,
    )

pub returns-in-None : goal.returns-in-None
returns-in-None c =
    let t = c.args.symbols.now in
    let s = c.args.context in
    let e = c.args.value.now in
    let searched = get nat_eq c.find.known in
    let before = entries_at (length (table_of t).definitions) (get nat_eq c.args.known.now) in
    let met = entries_at (length (table_of t).definitions) searched in
    let ws = c.find.pending_constants.items in
    let zero : length ws ≡ 0 = search (rules, c.in-None.ensures.cases) in
    let none = nil_from_length ws zero in
    let form = found t s e before met ws c.find.invariant.0 c.in-Ok.form none (same_last t s e searched c.deref.result.now ws c.deref.ensures.value ∙ c.in-Ok.ensures) in record {
      form = form;
      first = λ unmarked. form;
      entries = (all_recorded t before met (expression_course (table_of t) s e) ws c.find.invariant.0 none c.requires.0, c.find.invariant.1);
      unmarked = still_unmarked t before met (expression_course (table_of t) s e) ws c.find.invariant.0 none;
    }

pub find-smaller-in-Continue-1 : goal.find-smaller-in-Continue-1
find-smaller-in-Continue-1 c =
    let t = c.args.symbols.now in
    let count = length (table_of t).definitions in
    let old = get nat_eq c.find.known in
    let new = get nat_eq c.record.new.known in
    let fewer = unmet_no_more (entries_at count old) (entries_at count new) c.in-Some.last (Some c.in-Ok.form) (meets_form count old new c.in-Some.last c.in-Ok.form c.in_ok-record-in-Some.ensures) count in
    let popped : length c.find.pending_constants.items ≡ length c.pop.new.self.items + 1 = ap length c.in-Some.ensures.items ∙ length-append c.pop.new.self.items (c.in-Some.last ∷ []) in
    omega (arith, fewer, popped)

pub find-preserved-in-Continue-1 : goal.find-preserved-in-Continue-1
find-preserved-in-Continue-1 c =
    let t = c.args.symbols.now in
    let y = table_of t in
    let s = c.args.context in
    let e = c.args.value.now in
    let count = length y.definitions in
    let searched = get nat_eq c.find.known in
    let new = get nat_eq c.record.new.known in
    let before = entries_at count (get nat_eq c.args.known.now) in
    let met = entries_at count searched in
    let ws = c.find.pending_constants.items in
    let others = c.pop.new.self.items in
    let j = c.in-Some.last in
    let f = c.in-Ok.form in
    let p = c.find.invariant.0 in
    let known = known_of t met in
    let at = constant_attempt known y in
    let is : last_by t s e known ws ≡ Ok f = same_last t s e searched c.deref.result.now ws c.deref.ensures.value ∙ c.in-Ok.ensures in
    let own : at j ≡ Ok f = sym (last_tried at others (form_attempt known y s e) j) ∙ ap (last_by t s e known) (sym c.in-Some.ensures.items) ∙ is in (
      pursuit_up t before met (entries_at count new) (expression_course y s e) ws others j f (at j) p (attempt_at (p.turns + count) y known (pursuit_known t before met (expression_course y s e) ws p) j) own
          (meets_form count searched new j f c.in_ok-record-in-Some.ensures) c.in-Some.ensures.items,
      past_form count searched new j f c.in_ok-record-in-Some.ensures c.find.invariant.1,
    )

pub returns-in-Err-Fault : goal.returns-in-Err-Fault
returns-in-Err-Fault c =
    let t = c.args.symbols.now in
    let s = c.args.context in
    let e = c.args.value.now in
    let searched = get nat_eq c.find.known in
    let before = entries_at (length (table_of t).definitions) (get nat_eq c.args.known.now) in
    let met = entries_at (length (table_of t).definitions) searched in
    let ws = c.find.pending_constants.items in
    let z = c.in-Err-Fault.fault in
    let p = c.find.invariant.0 in
    let P : AttemptError → Type 0 = λ x. RefinesErr lacks_memory x (last_by t s e (known_by t (λ j. entry_form (searched j))) c.deref.result.now) in
    let fails = unless_then (is_out_of_memory z) (λ h. faults t s e before met ws p z (same_last t s e searched c.deref.result.now ws c.deref.ensures.value ∙ h)) (subst P c.in-Err-Fault.field-0-is c.in-Err-Fault.ensures) in record {
      form = unless_then (is_out_of_memory z) (λ ends. no_form (norm_of (table_of t) s e) z (ended t s e before met ws p z ends)) fails;
      first = λ none. unless_then (is_out_of_memory z) (ended t s e before met ws p z) fails;
      entries = unless_then (is_out_of_memory z) (λ ends. (recorded t s e before met ws p c.requires.0 z ends, c.find.invariant.1)) fails;
      unmarked = tt;
    }

pub returns-then-is_visited : goal.returns-then-is_visited
returns-then-is_visited c =
    let t = c.args.symbols.now in
    let s = c.args.context in
    let e = c.args.value.now in
    let searched = get nat_eq c.find.known in
    let before = entries_at (length (table_of t).definitions) (get nat_eq c.args.known.now) in
    let met = entries_at (length (table_of t).definitions) searched in
    let ws = c.find.pending_constants.items in
    let j = c.in-Err-Needs.index in
    let p = c.find.invariant.0 in
    let needs = needed t s e before met ws p c.in-Err-Needs.field-0 j (last_by t s e (known_by t (λ j. entry_form (searched j))) c.deref.result.now) (same_last t s e searched c.deref.result.now ws c.deref.ensures.value) c.in-Err-Needs.field-0-is c.in-Err-Needs.ensures in
    let there : is_some (met j) ≡ true = ap (λ (n : ℕ). is_some (entry_at n (searched j))) (sym c.definition_count-count.ensures) ∙ sym c.is_visited.ensures ∙ c.if-is_visited.true in
    let (z, ends) = ended_met t s e before met ws p c.requires.0 j needs there in record {
      form = no_form (norm_of (table_of t) s e) z (ended t s e before met ws p z ends);
      first = λ none. first_met t s e before met ws p none j needs there;
      entries = (recorded t s e before met ws p c.requires.0 z ends, c.find.invariant.1);
      unmarked = tt;
    }

pub find-smaller : goal.find-smaller
find-smaller c =
    let t = c.args.symbols.now in
    let s = c.args.context in
    let e = c.args.value.now in
    let count = length (table_of t).definitions in
    let searched = get nat_eq c.find.known in
    let before = entries_at count (get nat_eq c.args.known.now) in
    let met = entries_at count searched in
    let ws = c.find.pending_constants.items in
    let j = c.in-Err-Needs.index in
    let p = c.find.invariant.0 in
    let needs = needed t s e before met ws p c.in-Err-Needs.field-0 j (last_by t s e (known_by t (λ j. entry_form (searched j))) c.deref.result.now) (same_last t s e searched c.deref.result.now ws c.deref.ensures.value) c.in-Err-Needs.field-0-is c.in-Err-Needs.ensures in
    let absent : met j ≡ None = none_of (met j) (ap (λ (n : ℕ). is_some (entry_at n (searched j))) (sym c.definition_count-count.ensures) ∙ sym c.is_visited.ensures ∙ c.if-is_visited.false) in
    let new = get nat_eq c.record-in-Err-Needs.new.known in
    let fewer = unmet_fewer met (entries_at count new) j None (meets_mark count searched new j c.definition_count-count.result c.definition_count-count.ensures c.in_ok-record-in-Err-Needs.ensures) absent count (leads t s e before met ws p j needs).1 in
    let pushed : length c.push.new.self.items ≡ length ws + 1 = ap length c.in_ok-push-in-Err-Needs.ensures.items ∙ length-append ws (j ∷ []) in
    omega (arith, fewer, pushed)

pub find-preserved : goal.find-preserved
find-preserved c =
    let t = c.args.symbols.now in
    let s = c.args.context in
    let e = c.args.value.now in
    let count = length (table_of t).definitions in
    let searched = get nat_eq c.find.known in
    let before = entries_at count (get nat_eq c.args.known.now) in
    let met = entries_at count searched in
    let ws = c.find.pending_constants.items in
    let j = c.in-Err-Needs.index in
    let p = c.find.invariant.0 in
    let needs = needed t s e before met ws p c.in-Err-Needs.field-0 j (last_by t s e (known_by t (λ j. entry_form (searched j))) c.deref.result.now) (same_last t s e searched c.deref.result.now ws c.deref.ensures.value) c.in-Err-Needs.field-0-is c.in-Err-Needs.ensures in
    let new = get nat_eq c.record-in-Err-Needs.new.known in (
      pursuit_needs t before met (expression_course (table_of t) s e) ws p (entries_at count new) c.push.new.self.items j (leads t s e before met ws p j needs).0 (meets_mark count searched new j c.definition_count-count.result c.definition_count-count.ensures c.in_ok-record-in-Err-Needs.ensures) c.in_ok-push-in-Err-Needs.ensures.items,
      past_mark count searched new j c.definition_count-count.result c.definition_count-count.ensures c.in_ok-record-in-Err-Needs.ensures c.find.invariant.1,
    )
