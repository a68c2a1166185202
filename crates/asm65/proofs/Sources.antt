-- The statements of a source, as an expander yields them and an assembler assembles them.
use Rattle.std.proofs.Common.{◌≡◌, [], List, length, ◌∙◌, ℕ, ◌+◌, ◌*◌, ◌≤◌, ◌<◌, Bool, true, false, Option, Some, None, refl, sym, ap, subst, arith}
use Rattle.std.specs.Prelude.{Result, Ok, Err, IfSome, if◌then◌else◌}
use Rattle.base65.specs.Outcome.{Unless}
use Rattle.base65.specs.Store.{Files, LastFailure}
use Rattle.expand65.specs.declared.expander.Statement.{Statement}
use Rattle.expand65.specs.declared.expander.Statement.TheVariants.{Label, Plain}
use Rattle.syntax65.specs.declared.fault.ExpandFault.{ExpandFault}
use Rattle.syntax65.specs.declared.source_location.SourceLocation.{SourceLocation}
use Rattle.syntax65.specs.declared.fault.ExpandFault.TheVariants as fault_of
use Rattle.expand65.specs.Expansion.{ReachesNext, statement, nothing, fault, first_state_in}
use Rattle.syntax65.specs.Faults as expansion
use Rattle.expand65.specs.Representation.{RefinesAnswer, RefinesNextStatement, IsPositioned, RepresentsFirstState, RepresentsState, measure_of, location_of, state_in, statement_of}
use Rattle.expand65.specs.State as expand
use Rattle.expand65.specs.Failures.{YieldsStatements, StepsSilently, none as no_more, one_more as gives_more, SilentSteps as Walks, FailsBetweenStatements, HasFailureBetweenStatements, no_step}
use Rattle.expand65.proofs.BufferedLines.{reaches_after}
use Rattle.expand65.proofs.ExpansionFailures.{goes_over}
use Rattle.expand65.specs.declared.expander.Expander.{Expander}
use Rattle.ast65.specs.declared.fault.AsmFault.{AsmFault}
use Rattle.ast65.specs.declared.fault.AsmFault.TheVariants.{BadScope, Expansion, FileNotFound}
use Rattle.ast65.specs.Faults.{is_failure, is_system_error}
use Rattle.semantics65.specs.Layout.{is_not_global, Cursor}
use Rattle.semantics65.specs.Numbering.{AreSymbolNames}
use Rattle.sources65.specs.Reading.{StateImpliesResult, environment_at, DefinesConstants, AssemblesExpanded, AssemblesSource, Job, no_line, open_scope_fault, stopped_at}
use Rattle.sources65.specs.Machine.{RunsStatements, State, StepsTo, initial_state, machine_semantics}
use Rattle.sources65.proofs.AssembledStatements.{same_outside, same_place, begins, ends, goes_on, is_refused, stops}
use Rattle.sources65.proofs.FitSteps as fitting
use Rattle.sources65.proofs.FitSteps.{fewer_given, IsStateFit, next_fit, opened_fit}
use Rattle.sources65.proofs.FitTokens.{AreFit, are_named}
use Rattle.asm65.specs.declared.assembler.Assembler.{Assembler}
use Rattle.asm65.specs.declared.driver.Run.{Run}
use Rattle.symbols65.specs.Measuring.{opening_limit}
use Rattle.asm65.specs.Failing.{ReachesState, first_state, next_state, IsFailureLocation}
use Rattle.asm65.specs.Internal.StoreFailures.{RunFailsAfterStatements, RunReportsFailure}
use Rattle.asm65.specs.Assembly.{AnswersWithoutFile}
use Rattle.asm65.specs.Internal.AssemblerState.{Represents}
use Rattle.asm65.specs.Internal.RunState.{RepresentsWithin, RunRepresents, HasHeadroom, IsRunning, RefinesRun, HasSameOutput, KeepsOutputAtFailure, AssemblesStatements, RefinesAllTransitions, AssemblesLine, AssemblesStatement, none, one_more, rejected, running_limit, tokens_of}
use Rattle.asm65.proofs.Runs.{Answer, GivenBy}

pub some_both : (P Q R : Files → Type 0) (o : Option Files) → ((m : Files) → P m → Q m → R m) → IfSome o P → IfSome o Q → IfSome o R
some_both P Q R None f h k = tt
some_both P Q R (Some m) f h k = f m h k

-- ---- The limit of openings.

few_opened : (count left : ℕ) → count + 2 * left ≤ running_limit → 0 < left → count + 2 ≤ opening_limit
few_opened count left room some = omega arith

room_after : (count more old mid new limit : ℕ) → count + 2 * old ≤ limit → more ≤ count + 2 → mid < old → new ≡ mid → more + 2 * new ≤ limit
room_after count more old mid new limit room few less same = omega arith

some_left : (old mid : ℕ) → mid < old → 0 < old
some_left old mid less = omega arith

holds_same : (count : ℕ) (t : State) (a b : Assembler) → b ≡ a → Represents count t a → Represents count t b
holds_same count t a b e h = subst (Represents count t) (sym e) h

says_held : (count : ℕ) (t : State) (a b : Assembler) → b ≡ a → Represents count t a → HasSameOutput t b
says_held count t a b e h = (ap (λ (x : Assembler). x.texts.out) e ∙ h.out, ap (λ (x : Assembler). x.texts.err) e ∙ h.err)

held_after : (t u : State) (old mid new : Run) → (h : RunRepresents t old) → RepresentsWithin (h.count + 2) u new.assembler → measure_of mid.expander < measure_of old.expander → new.expander ≡ mid.expander → RunRepresents u new
held_after t u old mid new h b less same = record {
  count = b.0;
  room = room_after h.count b.0 (measure_of old.expander) (measure_of mid.expander) (measure_of new.expander) running_limit h.room b.1 less (ap measure_of same);
  holds = b.2;
}

-- ---- A further statement, with any store.

module _ (old mid : Run) (same : mid.assembler ≡ old.assembler) (less : measure_of mid.expander < measure_of old.expander) where
  -- the openings of a statement are within the limit
  pub next_roomy : IsRunning old → HasHeadroom 2 mid.assembler
  next_roomy held =
      let h = held.2 in
      let room = few_opened h.count (measure_of old.expander) h.room (some_left (measure_of old.expander) (measure_of mid.expander) less) in
      (h.count, held.0, room, holds_same h.count held.0 old.assembler mid.assembler same h.holds)

  abbrev Takes2 : Option Files → Statement → Run → Answer → Type 0
  Takes2 f x new r = RefinesAllTransitions (AreSymbolNames (tokens_of (statement_of x))) (GivenBy f (location_of mid.expander) (statement_of x)) 2 mid.assembler new.assembler r

  pub still_running : (f : Option Files) (x : Statement) (new : Run) (v : Unit {0}) → Takes2 f x new (Ok v) → new.expander ≡ mid.expander → IsRunning old → IsRunning new
  still_running f x new v taken stays held =
      let h = held.2 in
      let room = few_opened h.count (measure_of old.expander) h.room (some_left (measure_of old.expander) (measure_of mid.expander) less) in
      let b = taken h.count held.0 room (holds_same h.count held.0 old.assembler mid.assembler same h.holds) in
      (b.0, b.2 held.1, held_after held.0 b.0 old mid new h b.3 less stays)

-- ---- Files that are known.

-- The invariant of a run: the rest of the source leads from the represented state to the result of the whole source. Since
-- the last statement, the expander may have made some steps, none of which yielded a statement.
pub record Stays (m : Files) (job : Job) (run : Run) (u : State) : Type 0 where
  pub left : expand.State
  pub here : expand.State
  pub walks : (k : expand.EnvironmentView) → Walks m k left here
  pub stands : RepresentsState m run.expander here
  pub fit : IsStateFit m 0 left
  pub goes : StateImpliesResult m machine_semantics (AssemblesSource m machine_semantics job initial_state) left u
  pub taken : ReachesState m machine_semantics initial_state job left u
  pub held : RunRepresents u run

abbrev pub Goes : Files → Run → Run → Type 0
Goes m first now =
    (job : Job) (t : State) → RepresentsFirstState m (Ok first.expander) (first_state_in m job.source job.include) →
    DefinesConstants StepsTo initial_state (no_line job.source) job.defines (Ok t) → RunRepresents t first → (u : State) × Stays m job now u

abbrev pub RanAll : Files → Run → Run → Answer → Type 0
RanAll m first now r =
    (job : Job) (t : State) → RepresentsFirstState m (Ok first.expander) (first_state_in m job.source job.include) →
    DefinesConstants StepsTo initial_state (no_line job.source) job.defines (Ok t) → RunRepresents t first → RefinesRun m job now r

abbrev pub NextBy : Files → Run → Result (Option Statement) ExpandFault → Run → Type 0
NextBy m old r mid = (t : State) → RunRepresents t old → RefinesNextStatement m (environment_at t.symbols t.cursor) old.expander r mid.expander

-- the store failed before the next statement
abbrev pub StopsBy : Files → LastFailure → Run → Result (Option Statement) ExpandFault → Run → Type 0
StopsBy m last_failure old r mid = (t : State) → RunRepresents t old → HasFailureBetweenStatements m last_failure (environment_at t.symbols t.cursor) old.expander r mid.expander

-- if the files are positioned as the expander assumes at the beginning, they are so now
abbrev pub StaysPlaced : Files → Run → Run → Type 0
StaysPlaced m first now = IsPositioned m first.expander → IsPositioned m now.expander

pub goes_first : (m : Files) (run : Run) → Goes m run run
goes_first m run job t opens defined held = (
  t,
  record {
    left = opens.0;
    here = opens.0;
    walks = λ k. no_step opens.0;
    stands = opens.2;
    fit = opened_fit m job.source job.include opens.0 opens.1;
    goes = begins m machine_semantics job opens.0 initial_state t opens.1 defined;
    taken = first_state opens.0 t opens.1 defined;
    held = held;
  },
)

same_tokens : (m : Files) (x : Statement) → AreFit m (fitting.tokens_of (statement_of x)) → AreSymbolNames (tokens_of (statement_of x))
same_tokens m (Label line) h = are_named m _ h
same_tokens m (Plain line) h = are_named m _ h

-- if the error of expansion is a failure of the store, it is one for the expander, too
of_store : (e : ExpandFault) → is_failure (Expansion e) ≡ true → expansion.is_failure e ≡ true
of_store fault_of.FileError h = refl
of_store _ h = absurd cc

-- steps without a statement don't change which statement is next
answered_from : (m : Files) (k : expand.EnvironmentView) (s here : expand.State) (r : Result (Option Statement) ExpandFault) (new : Expander) → Walks m k s here → RefinesAnswer m k here r new → RefinesAnswer m k s r new
answered_from m k s here (Ok (Some x)) new walks (t, reaches, stands) = (t, reaches_after m k s here (statement (statement_of x) t) walks reaches, stands)
answered_from m k s here (Ok None) new walks (t, reaches, stands) = (t, reaches_after m k s here (nothing t) walks reaches, stands)
answered_from m k s here (Err f) new walks answer = by (expansion.is_system_error f) answer
  where
    by : (b : Bool) → Unless b (ReachesNext m k here (fault (f, location_of new))) → Unless b (ReachesNext m k s (fault (f, location_of new)))
    by true h = tt
    by false h = reaches_after m k s here (fault (f, location_of new)) walks h

module _ (m : Files) (first old mid : Run) (same : mid.assembler ≡ old.assembler) where
  -- the case of a statement that is assembled
  pub goes_further : (x : Statement) (new : Run) (v : Unit {0}) → measure_of mid.expander < measure_of old.expander → NextBy m old (Ok (Some x)) mid → RefinesAllTransitions (AreSymbolNames (tokens_of (statement_of x))) (λ t. AssemblesExpanded m StepsTo t (location_of mid.expander) (statement_of x)) 2 mid.assembler new.assembler (Ok v) → new.expander ≡ mid.expander → Goes m first old → Goes m first new
  goes_further x new v less next taken stays so_far job t opens defined begun_held =
      let now = so_far job t opens defined begun_held in
      let u = now.0 in
      let s = now.1 in
      let h = s.held in
      let a = answered_from m (environment_at u.symbols u.cursor) s.left s.here (Ok (Some x)) mid.expander (s.walks (environment_at u.symbols u.cursor)) (next u h s.here s.stands) in
      let fits = next_fit m 0 (environment_at u.symbols u.cursor) s.left (statement (statement_of x) a.0) s.fit a.1 in
      let room = few_opened h.count (measure_of old.expander) h.room (some_left (measure_of old.expander) (measure_of mid.expander) less) in
      let b = taken h.count u room (holds_same h.count u old.assembler mid.assembler same h.holds) in
      let location = same_place m mid.expander a.0 a.2 in (
        b.0,
        record {
          left = a.0;
          here = a.0;
          walks = λ k. no_step a.0;
          stands = subst (λ e. RepresentsState m e a.0) (sym stays) a.2;
          fit = fewer_given m 0 (length (fitting.tokens_of (statement_of x))) a.0 fits.1;
          goes = goes_on m machine_semantics (AssemblesSource m machine_semantics job initial_state) s.left a.0 (statement_of x) u b.0 s.goes a.1 (subst (λ p. AssemblesExpanded m StepsTo u p (statement_of x) (Ok b.0)) (sym location) b.1);
          taken = next_state s.left a.0 (statement_of x) u b.0 s.taken a.1 (subst (λ p. AssemblesExpanded m StepsTo u p (statement_of x) (Ok b.0)) (sym location) b.1);
          held = held_after u b.0 old mid new h b.3 less stays;
        },
      )

  -- the case of a statement with an error
  pub goes_wrong : (x : Statement) (new : Run) (e : AsmFault) (r : Answer) → r ≡ Err e → measure_of mid.expander < measure_of old.expander → NextBy m old (Ok (Some x)) mid → RefinesAllTransitions (AreSymbolNames (tokens_of (statement_of x))) (λ t. AssemblesExpanded m StepsTo t (location_of mid.expander) (statement_of x)) 2 mid.assembler new.assembler (Err e) → new.expander ≡ mid.expander → Goes m first old → RanAll m first new r
  goes_wrong x new e r fails less next taken stays so_far job t opens defined begun_held =
      let now = so_far job t opens defined begun_held in
      let u = now.0 in
      let s = now.1 in
      let h = s.held in
      let a = answered_from m (environment_at u.symbols u.cursor) s.left s.here (Ok (Some x)) mid.expander (s.walks (environment_at u.symbols u.cursor)) (next u h s.here s.stands) in
      let fits = next_fit m 0 (environment_at u.symbols u.cursor) s.left (statement (statement_of x) a.0) s.fit a.1 in
      let room = few_opened h.count (measure_of old.expander) h.room (some_left (measure_of old.expander) (measure_of mid.expander) less) in
      let b = taken h.count u room (holds_same h.count u old.assembler mid.assembler same h.holds) in
      let at_mid = same_place m mid.expander a.0 a.2 in
      let at_new : location_of new.expander ≡ a.0.left.place = ap location_of stays ∙ sym at_mid in
      subst (RefinesRun m job new) (sym fails) (by u s a.0 a.1 fits.0 at_mid at_new (is_system_error e) b)
    where
      by : (u : State) (s : Stays m job old u) (t' : expand.State) → ReachesNext m (environment_at u.symbols u.cursor) s.left (statement (statement_of x) t') → AreFit m (fitting.tokens_of (statement_of x)) → t'.left.place ≡ location_of mid.expander → location_of new.expander ≡ t'.left.place → (b : Bool) → Unless b ((AreSymbolNames (tokens_of (statement_of x)) → AssemblesExpanded m StepsTo u (location_of mid.expander) (statement_of x) (Err e)) × HasSameOutput u new.assembler) → Unless b ((w : State) × RunsStatements m job (stopped_at w (location_of new.expander) e) × HasSameOutput w new.assembler)
      by u s t' reaches fit at_mid at_new true h = tt
      by u s t' reaches fit at_mid at_new false h =
          (u, subst (λ p. RunsStatements m job (stopped_at u p e)) (sym at_new) (stops m machine_semantics (AssemblesSource m machine_semantics job initial_state) s.left t' (statement_of x) u e s.goes reaches (subst (λ p. AssemblesExpanded m StepsTo u p (statement_of x) (Err e)) (sym at_mid) (h.0 (same_tokens m x fit)))), h.1)

  -- the case of an error of expansion
  pub goes_out : (e : ExpandFault) (r : Answer) → r ≡ Err (Expansion e) → NextBy m old (Err e) mid → Goes m first old → RanAll m first mid r
  goes_out e r fails next so_far job t opens defined begun_held =
      let now = so_far job t opens defined begun_held in
      let u = now.0 in
      let s = now.1 in
      subst (RefinesRun m job mid) (sym fails) (by u s (expansion.is_system_error e) (is_system_error (Expansion e)) (same_outside e) (answered_from m (environment_at u.symbols u.cursor) s.left s.here (Err e) mid.expander (s.walks (environment_at u.symbols u.cursor)) (next u s.held s.here s.stands)))
    where
      by : (u : State) (s : Stays m job old u) (a b : Bool) → a ≡ b → Unless a (ReachesNext m (environment_at u.symbols u.cursor) s.left (fault (e, location_of mid.expander))) → Unless b ((w : State) × RunsStatements m job (stopped_at w (location_of mid.expander) (Expansion e)) × HasSameOutput w mid.assembler)
      by u s a true eq h = tt
      by u s true false eq h = absurd cc
      by u s false false eq h = (u, is_refused m machine_semantics (AssemblesSource m machine_semantics job initial_state) s.left u e (location_of mid.expander) s.goes h, says_held s.held.count u old.assembler mid.assembler same s.held.holds)

  -- the case of the end of the source
  pub goes_to_end : (r : Answer) → r ≡ (if is_not_global mid.assembler.cursor.scope then Err BadScope else Ok tt) → NextBy m old (Ok None) mid → Goes m first old → RanAll m first mid r
  goes_to_end r is next so_far job t opens defined begun_held =
      let now = so_far job t opens defined begun_held in
      let u = now.0 in
      let s = now.1 in
      let h = s.held in
      let a = answered_from m (environment_at u.symbols u.cursor) s.left s.here (Ok None) mid.expander (s.walks (environment_at u.symbols u.cursor)) (next u h s.here s.stands) in
      let holds = holds_same h.count u old.assembler mid.assembler same h.holds in
      let scope : mid.assembler.cursor.scope ≡ u.cursor.scope = ap (λ (w : Cursor). w.scope) holds.cursor in
      let location = same_place m mid.expander a.0 a.2 in
      let all = ends m machine_semantics (AssemblesSource m machine_semantics job initial_state) s.left a.0 u s.goes a.1 in
      let all' : RunsStatements m job (record { state = u; fault = open_scope_fault (location_of mid.expander) mid.assembler.cursor.scope }) = subst (λ n. RunsStatements m job (record { state = u; fault = open_scope_fault (location_of mid.expander) n })) (sym scope) (subst (λ p. RunsStatements m job (record { state = u; fault = open_scope_fault p u.cursor.scope })) location all) in
      subst (RefinesRun m job mid) (sym is) (by u h.count holds (is_not_global mid.assembler.cursor.scope) all')
    where
      by : (u : State) (count : ℕ) → Represents count u mid.assembler → (b : Bool) → RunsStatements m job (record { state = u; fault = if b then Some (record { place = location_of mid.expander; fault = BadScope }) else None }) → RefinesRun m job mid (if b then Err BadScope else Ok tt)
      by u count holds true runs = (u, runs, (holds.out, holds.err))
      by u count holds false runs = (u, runs, (count, holds))

  -- the case that the store fails during expansion
  pub stops_out : (last_failure : LastFailure) (e : ExpandFault) (r : Answer) → r ≡ Err (Expansion e) → StopsBy m last_failure old (Err e) mid → Goes m first old → StaysPlaced m first old → RunReportsFailure m last_failure first mid r
  stops_out last_failure e r fails where_it_is so_far placed = subst (RunReportsFailure m last_failure first mid) (sym fails) (λ failed job begun_so. by (of_store e failed) job (placed begun_so.2) (so_far job begun_so.0 begun_so.1 begun_so.3 begun_so.4))
    where
      by : expansion.is_failure e ≡ true → (job : Job) → IsPositioned m old.expander → (u : State) × Stays m job old u → RunFailsAfterStatements m last_failure job (record { place = location_of mid.expander; fault = Expansion e }) mid.assembler.texts.out mid.assembler.texts.err
      by failed job here now =
          let u = now.0 in
          let s = now.1 in
          let says = says_held s.held.count u old.assembler mid.assembler same s.held.holds in
          let k = environment_at u.symbols u.cursor in
          let walked : FailsBetweenStatements m last_failure k s.here (location_of mid.expander) → FailsBetweenStatements m last_failure k s.left (location_of mid.expander) = λ so. record { state = so.state; reading = so.reading; goes = goes_over m k s.left s.here so.state (s.walks k) so.goes; fails = so.fails; at = so.at } in
          record { left = s.left; following = u; taken = s.taken; failure_location = walked (where_it_is u s.held here s.here s.stands failed); printed_out = says.0; printed_err = says.1 }

  -- the case that the store fails while a statement is assembled
  pub stops_wrong : (last_failure : LastFailure) (x : Statement) (new : Run) (e : AsmFault) (r : Answer) → r ≡ Err e → NextBy m old (Ok (Some x)) mid → measure_of mid.expander < measure_of old.expander → KeepsOutputAtFailure (AnswersWithoutFile (Some m) last_failure (λ m t. AssemblesExpanded m StepsTo t (location_of mid.expander) (statement_of x))) 2 mid.assembler new.assembler (Err e) → new.expander ≡ mid.expander → Goes m first old → RunReportsFailure m last_failure first new r
  stops_wrong last_failure x new e r fails next less quiet stays so_far = subst (RunReportsFailure m last_failure first new) (sym fails) (λ failed job begun_so. by failed job (so_far job begun_so.0 begun_so.1 begun_so.3 begun_so.4))
    where
      by : is_failure e ≡ true → (job : Job) → (u : State) × Stays m job old u → RunFailsAfterStatements m last_failure job (record { place = location_of new.expander; fault = e }) new.assembler.texts.out new.assembler.texts.err
      by failed job now =
          let u = now.0 in
          let s = now.1 in
          let q = quiet failed in
          let says = says_held s.held.count u old.assembler mid.assembler same s.held.holds in
          let a = answered_from m (environment_at u.symbols u.cursor) s.left s.here (Ok (Some x)) mid.expander (s.walks (environment_at u.symbols u.cursor)) (next u s.held s.here s.stands) in
          let at_new : location_of new.expander ≡ a.0.left.place = ap location_of stays ∙ sym (same_place m mid.expander a.0 a.2) in
          let room = few_opened s.held.count (measure_of old.expander) s.held.room (some_left (measure_of old.expander) (measure_of mid.expander) less) in
          let unread = q.unread s.held.count u room (holds_same s.held.count u old.assembler mid.assembler same s.held.holds) in
          record {
            left = s.left;
            following = u;
            taken = s.taken;
            failure_location = subst (λ f. IsFailureLocation m machine_semantics last_failure s.left u f (location_of new.expander)) (sym q.fault) (record { stated = statement_of x; left = a.0; reaches = a.1; at = at_new; unread = subst (λ p. AnswersWithoutFile (Some m) last_failure (λ m t. AssemblesExpanded m StepsTo t p (statement_of x)) u (Err FileNotFound)) (ap location_of (sym stays)) unread });
            printed_out = q.out ∙ says.0;
            printed_err = q.err ∙ says.1;
          }

-- ---- Files that may be unknown.

module _ (o p : Option Files) (told : p ≡ o) (first old mid : Run) (same : mid.assembler ≡ old.assembler) (so_far : IfSome o (λ m. Goes m first old)) where
  pub all_out : (e : ExpandFault) (r : Answer) → r ≡ Err (Expansion e) → IfSome p (λ m. NextBy m old (Err e) mid) → IfSome o (λ m. RanAll m first mid r)
  all_out e r fails next =
      some_both (λ m. Goes m first old) (λ m. NextBy m old (Err e) mid) (λ m. RanAll m first mid r) o (λ m so n. goes_out m first old mid same e r fails n so) so_far (subst (λ q. IfSome q (λ m. NextBy m old (Err e) mid)) told next)

  pub all_stop : (last_failure : LastFailure) (e : ExpandFault) (r : Answer) → r ≡ Err (Expansion e) → IfSome o (λ m. StaysPlaced m first old) → IfSome p (λ m. StopsBy m last_failure old (Err e) mid) → IfSome o (λ m. RunReportsFailure m last_failure first mid r)
  all_stop last_failure e r fails placed stops =
      some_both (λ m. Goes m first old × StaysPlaced m first old) (λ m. StopsBy m last_failure old (Err e) mid) (λ m. RunReportsFailure m last_failure first mid r) o (λ m so s. stops_out m first old mid same last_failure e r fails s so.0 so.1)
      (some_both (λ m. Goes m first old) (λ m. StaysPlaced m first old) (λ m. Goes m first old × StaysPlaced m first old) o (λ m so here. (so, here)) so_far placed) (subst (λ q. IfSome q (λ m. StopsBy m last_failure old (Err e) mid)) told stops)

  module _ (q : Option Statement) (next : IfSome p (λ m. NextBy m old (Ok q) mid)) where
    given : (x : Option Statement) → q ≡ x → IfSome o (λ m. NextBy m old (Ok x) mid)
    given x is = subst (λ z. IfSome o (λ m. NextBy m old (Ok z) mid)) is (subst (λ z. IfSome z (λ m. NextBy m old (Ok q) mid)) told next)

    pub all_end : q ≡ None → (r : Answer) → r ≡ (if is_not_global mid.assembler.cursor.scope then Err BadScope else Ok tt) → IfSome o (λ m. RanAll m first mid r)
    all_end is r ends = some_both (λ m. Goes m first old) (λ m. NextBy m old (Ok None) mid) (λ m. RanAll m first mid r) o (λ m so n. goes_to_end m first old mid same r ends n so) so_far (given None is)

    module _ (x : Statement) (is : q ≡ Some x) (less : measure_of mid.expander < measure_of old.expander) (new : Run) (stays : new.expander ≡ mid.expander) (f : Option Files) (there : f ≡ o) where
      abbrev TakesIn : Answer → Files → Type 0
      TakesIn r m = RefinesAllTransitions (AreSymbolNames (tokens_of (statement_of x))) (λ t. AssemblesExpanded m StepsTo t (location_of mid.expander) (statement_of x)) 2 mid.assembler new.assembler r

      told_taken : (r : Answer) → Takes2 old mid same less f x new r → IfSome o (TakesIn r)
      told_taken r taken = by o (subst (λ g. Takes2 old mid same less g x new r) there taken)
        where
          by : (g : Option Files) → Takes2 old mid same less g x new r → IfSome g (TakesIn r)
          by None h = tt
          by (Some m) h = h

      pub all_further : (v : Unit {0}) → Takes2 old mid same less f x new (Ok v) → IfSome o (λ m. Goes m first new)
      all_further v taken =
          some_both (λ m. Goes m first old × NextBy m old (Ok (Some x)) mid) (TakesIn (Ok v)) (λ m. Goes m first new) o (λ m so t. goes_further m first old mid same x new v less so.1 t stays so.0)
          (some_both (λ m. Goes m first old) (λ m. NextBy m old (Ok (Some x)) mid) (λ m. Goes m first old × NextBy m old (Ok (Some x)) mid) o (λ m so n. (so, n)) so_far (given (Some x) is)) (told_taken (Ok v) taken)

      pub all_stopped : (last_failure : LastFailure) (e : AsmFault) (r : Answer) → r ≡ Err e → KeepsOutputAtFailure (AnswersWithoutFile f last_failure (λ m t. AssemblesExpanded m StepsTo t (location_of mid.expander) (statement_of x))) 2 mid.assembler new.assembler (Err e) → IfSome o (λ m. RunReportsFailure m last_failure first new r)
      all_stopped last_failure e r fails quiet =
          some_both (λ m. Goes m first old × NextBy m old (Ok (Some x)) mid) Quiet (λ m. RunReportsFailure m last_failure first new r) o (λ m so q. stops_wrong m first old mid same last_failure x new e r fails so.1 less q stays so.0)
          (some_both (λ m. Goes m first old) (λ m. NextBy m old (Ok (Some x)) mid) (λ m. Goes m first old × NextBy m old (Ok (Some x)) mid) o (λ m so n. (so, n)) so_far (given (Some x) is)) (by o (subst Quietly there quiet))
        where
          Quietly : Option Files → Type 0
          Quietly g = KeepsOutputAtFailure (AnswersWithoutFile g last_failure (λ m t. AssemblesExpanded m StepsTo t (location_of mid.expander) (statement_of x))) 2 mid.assembler new.assembler (Err e)

          Quiet : Files → Type 0
          Quiet m = Quietly (Some m)

          by : (g : Option Files) → Quietly g → IfSome g Quiet
          by None h = tt
          by (Some m) h = h

      pub all_wrong : (e : AsmFault) (r : Answer) → r ≡ Err e → Takes2 old mid same less f x new (Err e) → IfSome o (λ m. RanAll m first new r)
      all_wrong e r fails taken =
          some_both (λ m. Goes m first old × NextBy m old (Ok (Some x)) mid) (TakesIn (Err e)) (λ m. RanAll m first new r) o (λ m so t. goes_wrong m first old mid same x new e r fails less so.1 t stays so.0)
          (some_both (λ m. Goes m first old) (λ m. NextBy m old (Ok (Some x)) mid) (λ m. Goes m first old × NextBy m old (Ok (Some x)) mid) o (λ m so n. (so, n)) so_far (given (Some x) is)) (told_taken (Err e) taken)

-- a further statement preserves the positions of files
pub placed_on : (o p : Option Files) → p ≡ o → (first old mid new : Run) → new.expander ≡ mid.expander → IfSome o (λ m. StaysPlaced m first old) → IfSome p (λ m. StaysPlaced m old mid) → IfSome o (λ m. StaysPlaced m first new)
placed_on o p told first old mid new stays placed next =
    some_both (λ m. StaysPlaced m first old) (λ m. StaysPlaced m old mid) (λ m. StaysPlaced m first new) o (λ m a b h. subst (IsPositioned m) (sym stays) (b (a h))) placed (subst (λ q. IfSome q (λ m. StaysPlaced m old mid)) told next)

-- ---- The statements of a line.

abbrev run_of : Expander → Assembler → Run
run_of e a = record { expander = e; assembler = a }

held_passed : (t : State) (e f : Expander) (a : Assembler) → StepsSilently e f → RunRepresents t (run_of e a) → RunRepresents t (run_of f a)
held_passed t e f a passes h = record { count = h.count; room = omega (arith, h.room, passes.size); holds = h.holds }

goes_passed : (m : Files) (first : Run) (e f : Expander) (a : Assembler) → StepsSilently e f → Goes m first (run_of e a) → Goes m first (run_of f a)
goes_passed m first e f a passes so_far job t opens defined held =
    let now = so_far job t opens defined held in
    let s = now.1 in (
      now.0,
      record {
        left = s.left;
        here = state_in m f;
        walks = λ k. goes_over m k s.left s.here (state_in m f) (s.walks k) (subst (λ z. Walks m k z (state_in m f)) s.stands.1 (passes.goes m k));
        stands = (passes.failed ∙ s.stands.0, refl);
        fit = s.fit;
        goes = s.goes;
        taken = s.taken;
        held = held_passed now.0 e f a passes s.held;
      },
    )

module _ (o : Option Files) (last_failure : LastFailure) (location : SourceLocation) where
  -- the location of the line is that of the expander after the statement
  taken_at : (x : expand.ExpandedStatement) (mid f : Expander) (a b : Assembler) (r : Answer) → location ≡ location_of f → location_of mid ≡ location_of f → AssemblesStatement o last_failure location x a b r → AssemblesStatement o last_failure (location_of mid) x a b r
  taken_at x mid f a b r here at h = subst (λ p. AssemblesStatement o last_failure p x a b r) (here ∙ sym at) h

  pub line_running : (xs : List expand.ExpandedStatement) (e f : Expander) (a b : Assembler) → YieldsStatements e xs f → AssemblesStatements o last_failure location xs a b (Ok tt) → location ≡ location_of f → IsRunning (run_of e a) → IsRunning (run_of f b)
  line_running [] e f a b (no_more _ _ passes) (none _) here (t, reached, held) = (t, reached, held_passed t e f a passes held)
  line_running _ e f a b (gives_more _ mid _ x xs follows at given) (one_more _ c _ _ _ _ one all) here held =
      line_running xs mid f c b given all here (still_running (run_of e a) (run_of mid a) refl follows.less o x (run_of mid c) tt (taken_at (statement_of x) mid f a c (Ok tt) here at one).taken refl held)

module _ (m : Files) (last_failure : LastFailure) (location : SourceLocation) (first : Run) where
  line_goes_on : (xs : List expand.ExpandedStatement) (e f : Expander) (a b : Assembler) → YieldsStatements e xs f → AssemblesStatements (Some m) last_failure location xs a b (Ok tt) → location ≡ location_of f → Goes m first (run_of e a) → Goes m first (run_of f b)
  line_goes_on [] e f a b (no_more _ _ passes) (none _) here so_far = goes_passed m first e f a passes so_far
  line_goes_on _ e f a b (gives_more _ mid _ x xs follows at given) (one_more _ c _ _ _ _ one all) here so_far =
      line_goes_on xs mid f c b given all here (goes_further m first (run_of e a) (run_of mid a) refl x (run_of mid c) tt follows.less (λ t held. follows.next m (environment_at t.symbols t.cursor)) (taken_at (Some m) last_failure location (statement_of x) mid f a c (Ok tt) here at one).taken refl so_far)

  line_refused : (xs : List expand.ExpandedStatement) (e f : Expander) (a b : Assembler) (g : AsmFault) → YieldsStatements e xs f → AssemblesStatements (Some m) last_failure location xs a b (Err g) → location ≡ location_of f → Goes m first (run_of e a) → RanAll m first (run_of f b) (Err g) × RunReportsFailure m last_failure first (run_of f b) (Err g)
  line_refused _ _ _ a b g (no_more old new _) x14 here so_far = elim x14 [ ]
  line_refused _ e f a b g (gives_more _ mid _ x xs follows at given) (rejected _ _ _ _ _ one) here so_far =
      let here_one = taken_at (Some m) last_failure location (statement_of x) mid f a b (Err g) here at one in
      let next : NextBy m (run_of e a) (Ok (Some x)) (run_of mid a) = λ t held. follows.next m (environment_at t.symbols t.cursor) in
      let wrong = goes_wrong m first (run_of e a) (run_of mid a) refl x (run_of mid b) g (Err g) refl follows.less next here_one.taken refl so_far in
      let stops = stops_wrong m first (run_of e a) (run_of mid a) refl last_failure x (run_of mid b) g (Err g) refl next follows.less here_one.stopped refl so_far in (
        λ job t opens defined held. subst (λ p. Unless (is_system_error g) ((w : State) × RunsStatements m job (stopped_at w p g) × HasSameOutput w b)) at (wrong job t opens defined held),
        λ failed job begins. subst (λ p. RunFailsAfterStatements m last_failure job (record { place = p; fault = g }) b.texts.out b.texts.err) at (stops failed job begins),
      )
  line_refused _ e f a b g (gives_more _ mid _ x xs follows at given) (one_more _ c _ _ _ _ one all) here so_far =
      line_refused xs mid f c b g given all here (goes_further m first (run_of e a) (run_of mid a) refl x (run_of mid c) tt follows.less (λ t held. follows.next m (environment_at t.symbols t.cursor)) (taken_at (Some m) last_failure location (statement_of x) mid f a c (Ok tt) here at one).taken refl so_far)

module _ (o : Option Files) (last_failure : LastFailure) (first old new : Run) where
  pub all_on : AssemblesLine o last_failure old new (Ok tt) → IfSome o (λ m. Goes m first old) → IfSome o (λ m. Goes m first new)
  all_on line so_far = by o line so_far
    where
      by : (p : Option Files) → AssemblesLine p last_failure old new (Ok tt) → IfSome p (λ m. Goes m first old) → IfSome p (λ m. Goes m first new)
      by None l h = tt
      by (Some m) l h = line_goes_on m last_failure (location_of new.expander) first l.statements old.expander new.expander old.assembler new.assembler l.given l.taken refl h

  pub all_refused : (e : AsmFault) (r : Answer) → r ≡ Err e → AssemblesLine o last_failure old new (Err e) → IfSome o (λ m. Goes m first old) → IfSome o (λ m. RanAll m first new r) × IfSome o (λ m. RunReportsFailure m last_failure first new r)
  all_refused e r fails line so_far = rw fails (by o line so_far)
    where
      by : (p : Option Files) → AssemblesLine p last_failure old new (Err e) → IfSome p (λ m. Goes m first old) → IfSome p (λ m. RanAll m first new (Err e)) × IfSome p (λ m. RunReportsFailure m last_failure first new (Err e))
      by None l h = (tt, tt)
      by (Some m) l h = line_refused m last_failure (location_of new.expander) first l.statements old.expander new.expander old.assembler new.assembler e l.given l.taken refl h
