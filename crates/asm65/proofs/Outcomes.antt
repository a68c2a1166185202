-- The result of an assembly, from the state that the statements of a source lead to.
use Rattle.std.proofs.Common.{◌≡◌, ◌∙◌, ℕ, ◌+◌, ◌*◌, ◌≤◌, ◌<◌, inl, inr, arith, nat_lt, Bool, true, false, List, [], Option, Some, None, refl, sym, ap, subst}
use Rattle.std.specs.Prelude.{Result, Ok, Err, IfOk, IfErr, IfSome, ⊤, ◌||◌, ◌⊎◌}
use Rattle.base65.specs.Outcome.{RefinesProp, Unless, ◌>>=◌}
use Rattle.base65.specs.Store.{Files, FailedAt, PropagatesIoError, PropagatesIoErrors, LastFailure}
use Rattle.std.proofs.lemmas.Bool.Decides.{nat_tests}
use Rattle.syntax65.specs.declared.fault.ExpandFault.TheVariants.{FileError}
use Rattle.expand65.specs.declared.expander.Expander.{Expander}
use Rattle.syntax65.specs.declared.fault.ExpandFault.{ExpandFault}
use Rattle.expand65.specs.Expansion.{first_state_in}
use Rattle.object65.specs.declared.object.Object.{Object}
use Rattle.object65.specs.Objects.{is_well_formed_object}
use Rattle.syntax65.specs.declared.source_location.SourceLocation.{SourceLocation}
use Rattle.expand65.specs.Representation.{IsPositioned, RepresentsFirstState, measure_of, location_of}
use Rattle.ast65.specs.declared.fault.AsmFault.TheVariants.{Expansion, OutOfMemory, FileError as PartError}
use Rattle.semantics65.specs.Contents.{Content}
use Rattle.ast65.specs.declared.fault.AsmFault.{AsmFault}
use Rattle.ast65.specs.Faults.{is_failure, is_out_of_memory, is_system_error}
use Rattle.semantics65.specs.Layout.{Layout, Cursor, empty_layout}
use Rattle.semantics65.specs.Numbering.{object_with, AreWellFormedContents}
use Rattle.semantics65.specs.Symbols.{Symbols, symbols_of}
use Rattle.sources65.specs.Machine.{SimulatesLayout, RunsStatements, State, StepsTo, initial_state, outcome_of_state, resolution_of_state, machine_semantics}
use Rattle.semantics65.specs.Module.{Resolution, Outcome, module_resolution, LocatedFault}
use Rattle.sources65.specs.Reading.{IsOutcome, DefinesConstants, Job, no_line, stopped_at}
use Rattle.sources65.proofs.AssembledStatements.{constants_refused, open_refused}
use Rattle.sources65.proofs.TwoPasses.{Follows, begun_follows, one_pass, stands_for, takes_follows}
use Rattle.sources65.proofs.SoundContents.{sound_contents}
use Rattle.sources65.proofs.SoundLayouts as layouts
use Rattle.sources65.proofs.SoundLayouts.{IsGood, good_statement, nothing_good}
use Rattle.emit65.proofs.GoodObjects.{good_object}
use Rattle.asm65.specs.declared.assembler.Assembler.{Assembler}
use Rattle.asm65.specs.declared.assembling.Assembly.{Assembly}
use Rattle.asm65.specs.declared.texts.Diagnostic.{Diagnostic}
use Rattle.asm65.specs.declared.driver.Run.{Run}
use Rattle.asm65.specs.Assembly.{RefinesOutcome, assembly_outcome, is_store_failure, is_memory_error_result, is_system_error_result, is_diagnostic_system_error, located_fault}
use Rattle.asm65.specs.Failing.{no_location, FailsAtSource}
use Rattle.asm65.specs.Internal.StoreFailures.{StartsRun, RunFailsAfterStatements, RunReportsStoreFailure, RunReportsFailure}
use Rattle.asm65.specs.Internal.AssemblerState.{Represents}
use Rattle.asm65.specs.Internal.RunState.{RepresentsWithin, RunRepresents, IsReached, at_first, following, RepresentsSome, IsRunning, RefinesTransition, RefinesRun, HasSameOutput, running_limit}
use Rattle.asm65.proofs.Runs.{some_all, some_then}
use Rattle.asm65.proofs.Sources.{RanAll, some_both}

-- ---- The objects of reached states are well-formed.

record Laid (t : State) : Type 0 where
  layout : Layout
  follows : Follows layout t
  good : IsGood layout

laid_reached : (t : State) → IsReached t → Laid t
laid_reached _ at_first = record { layout = empty_layout; follows = begun_follows; good = nothing_good }
laid_reached _ (following t u location x reached sound takes) =
    let before = laid_reached t reached in
    let more = takes_follows before.layout t location x (Ok u) before.follows takes in
    record { layout = more.0; follows = more.2; good = good_statement before.layout more.0 location x before.good sound more.1 }

stands_reached : (t : State) (l : Laid t) → SimulatesLayout l.layout t
stands_reached t l = subst (SimulatesLayout l.layout) (sym l.follows.same) (stands_for l.layout l.follows.slots l.follows.comes)

pub good_concluded : (t : State) (o : Object) → IsReached t → (outcome_of_state t None).result ≡ Ok o → is_well_formed_object o ≡ true
good_concluded t o reached is = by (resolution_of_state t).found refl is
  where
    by : (r : Result (List Content) LocatedFault) → (resolution_of_state t).found ≡ r → (r >>= (λ cs. Ok (object_with t.cursor.segments t.symbols.imports cs))) ≡ Ok o → is_well_formed_object o ≡ true
    by (Err e) found made = absurd cc
    by (Ok cs) found made =
        let l = laid_reached t reached in
        let y = l.layout in
        let for = stands_reached t l in
        let same : object_with t.cursor.segments t.symbols.imports cs ≡ o = cc in
        let whole : (module_resolution y.laid).found ≡ Ok cs = ap (λ (f : Resolution). f.found) (sym for.ending) ∙ found in
        let sound : AreWellFormedContents y.cursor.segments (symbols_of y.laid).imports cs = sound_contents y cs (layouts.sound_from y l.good) whole in
        let sound' : AreWellFormedContents y.cursor.segments t.symbols.imports cs = subst (λ (z : Symbols). AreWellFormedContents y.cursor.segments z.imports cs) (sym for.symbols) sound in
        let sound'' : AreWellFormedContents t.cursor.segments t.symbols.imports cs = subst (λ (w : Cursor). AreWellFormedContents w.segments t.symbols.imports cs) (sym for.cursor) sound' in
        ap is_well_formed_object (sym same) ∙ good_object t.cursor.segments t.symbols.imports cs sound''

-- ---- Results.

abbrev pub Found : Type 0
Found = Result Object Diagnostic

good_found : (a : Assembly) (t : State) (r : Found) → IsReached t → RefinesProp is_diagnostic_system_error (λ q. assembly_outcome a q ≡ outcome_of_state t None) r → IfOk r (λ o. is_well_formed_object o ≡ true)
good_found a t (Ok o) reached h = good_concluded t o reached (sym (ap (λ (x : Outcome). x.result) h))
good_found a t (Err e) reached h = tt

pub good_answer : (a : Assembly) (b : Assembler) → ((t : State) × IsReached t × RepresentsSome t b) → ((count : ℕ) (t : State) → Represents count t b → RefinesOutcome (outcome_of_state t None) a) → IfOk a.result (λ o. is_well_formed_object o ≡ true)
good_answer a b reached h = good_found a reached.0 a.result reached.1 (h reached.2.0 reached.0 reached.2.1)

outcome_found : (a : Assembly) (o : Outcome) (m : Files) (job : Job) (r : Found) → IsOutcome m job o → RefinesProp is_diagnostic_system_error (λ q. assembly_outcome a q ≡ o) r → RefinesProp is_diagnostic_system_error (λ q. IsOutcome m job (assembly_outcome a q)) r
outcome_found a o m job (Ok x) is h = subst (IsOutcome m job) (sym h) is
outcome_found a o m job (Err e) is h = by (is_diagnostic_system_error e) h
  where
    by : (b : Bool) → Unless b (assembly_outcome a (Err e) ≡ o) → Unless b (IsOutcome m job (assembly_outcome a (Err e)))
    by true h = tt
    by false h = subst (IsOutcome m job) (sym h) is

pub outcome_answer : (a : Assembly) (o : Outcome) (m : Files) (job : Job) → IsOutcome m job o → RefinesOutcome o a → RefinesProp is_diagnostic_system_error (λ q. IsOutcome m job (assembly_outcome a q)) a.result
outcome_answer a o m job is h = outcome_found a o m job a.result is h

pub outside_found : (P : Found → Type 0) (r : Found) → is_system_error_result r ≡ true → RefinesProp is_diagnostic_system_error P r
outside_found P (Ok o) h = absurd cc
outside_found P (Err e) h = by (is_diagnostic_system_error e) h
  where
    by : (b : Bool) → b ≡ true → Unless b (P (Err e))
    by true h = tt
    by false h = absurd cc

abbrev pub RefusedBy : Assembler → SourceLocation → AsmFault → Assembly → Type 0
RefusedBy b location e a = is_system_error e ≡ false → (t : State) → HasSameOutput t b → RefinesOutcome (outcome_of_state t (Some (record { place = location; fault = e }))) a

-- the case of an error at a location of the source
pub refused_answer : (a : Assembly) (b : Assembler) (m : Files) (job : Job) (location : SourceLocation) (e : AsmFault) → Unless (is_system_error e) ((u : State) × RunsStatements m job (stopped_at u location e) × HasSameOutput u b) → (is_system_error e ≡ true → is_system_error_result a.result ≡ true) → RefusedBy b location e a → RefinesProp is_diagnostic_system_error (λ q. IsOutcome m job (assembly_outcome a q)) a.result
refused_answer a b m job location e ran outside refused = by (is_system_error e) refl ran
  where
    by : (c : Bool) → is_system_error e ≡ c → Unless c ((u : State) × RunsStatements m job (stopped_at u location e) × HasSameOutput u b) → RefinesProp is_diagnostic_system_error (λ q. IsOutcome m job (assembly_outcome a q)) a.result
    by true is h = outside_found (λ q. IsOutcome m job (assembly_outcome a q)) a.result (outside is)
    by false is h = outcome_answer a (outcome_of_state h.0 (Some (record { place = location; fault = e }))) m job (one_pass m job (stopped_at h.0 location e) h.1) (refused is h.0 h.2)

-- the case of a source without an error at a line
pub concluded_answer : (a : Assembly) (m : Files) (job : Job) (run : Run) (v : Unit {0}) → RefinesRun m job run (Ok v) → ((count : ℕ) (t : State) → Represents count t run.assembler → RefinesOutcome (outcome_of_state t None) a) → RefinesProp is_diagnostic_system_error (λ q. IsOutcome m job (assembly_outcome a q)) a.result
concluded_answer a m job run v ran h =
    outcome_answer a (outcome_of_state ran.0 None) m job (one_pass m job (record { state = ran.0; fault = None }) ran.1) (h ran.2.0 ran.0 ran.2.1)

-- ---- Outcomes for known files.

abbrev pub AnswersAs : Files → Job → Assembly → Type 0
AnswersAs m job a = RefinesProp is_diagnostic_system_error (λ r. IsOutcome m job (assembly_outcome a r)) a.result

abbrev pub AnswersAll : Files → Run → Assembly → Type 0
AnswersAll m first a =
    (job : Job) (t : State) → RepresentsFirstState m (Ok first.expander) (first_state_in m job.source job.include) →
    DefinesConstants StepsTo initial_state (no_line job.source) job.defines (Ok t) → RunRepresents t first → AnswersAs m job a

pub all_concluded : (o : Option Files) (first now : Run) (v : Unit {0}) (a : Assembly) → ((count : ℕ) (t : State) → Represents count t now.assembler → RefinesOutcome (outcome_of_state t None) a) → IfSome o (λ m. RanAll m first now (Ok v)) → IfSome o (λ m. AnswersAll m first a)
all_concluded o first now v a h ran = some_then (λ m. RanAll m first now (Ok v)) (λ m. AnswersAll m first a) o (λ m r job t opens defined held. concluded_answer a m job now v (r job t opens defined held) h) ran

pub all_refused : (o : Option Files) (first now : Run) (e : AsmFault) (location : SourceLocation) (a : Assembly) → location ≡ location_of now.expander → (is_system_error e ≡ true → is_system_error_result a.result ≡ true) → RefusedBy now.assembler location e a → IfSome o (λ m. RanAll m first now (Err e)) → IfSome o (λ m. AnswersAll m first a)
all_refused o first now e location a at outside refused ran =
    some_then (λ m. RanAll m first now (Err e)) (λ m. AnswersAll m first a) o (λ m r job t opens defined held. refused_answer a now.assembler m job (location_of now.expander) e (r job t opens defined held) outside (subst (λ p. RefusedBy now.assembler p e a) at refused)) ran

says_begun : (b : Assembler) → Represents 0 initial_state b → HasSameOutput initial_state b
says_begun b h = (h.out, h.err)

unless_state : (m : Files) (job : Job) (location : SourceLocation) (e : AsmFault) (b : Assembler) (c : Bool) → HasSameOutput initial_state b → Unless c (RunsStatements m job (stopped_at initial_state location e)) → Unless c ((u : State) × RunsStatements m job (stopped_at u location e) × HasSameOutput u b)
unless_state m job location e b true says h = tt
unless_state m job location e b false says h = (initial_state, h, says)

pub open_answer : (o : Option Files) (job : Job) (e : ExpandFault) (a : Assembly) (b : Assembler) → Represents 0 initial_state b → (is_system_error (Expansion e) ≡ true → is_system_error_result a.result ≡ true) → RefusedBy b (no_line job.source) (Expansion e) a → IfSome o (λ m. RepresentsFirstState m (Err e) (first_state_in m job.source job.include)) → IfSome o (λ m. AnswersAs m job a)
open_answer o job e a b h outside refused opens =
    some_then (λ m. RepresentsFirstState m (Err e) (first_state_in m job.source job.include)) (λ m. AnswersAs m job a) o (λ m q. refused_answer a b m job (no_line job.source) (Expansion e) (unless_state m job (no_line job.source) (Expansion e) b (is_system_error (Expansion e)) (says_begun b h) (open_refused m machine_semantics job initial_state e q)) outside refused) opens

pub define_answer : (o : Option Files) (job : Job) (x : Expander) (e : AsmFault) (a : Assembly) (b : Assembler) → RefinesTransition ⊤ (DefinesConstants StepsTo initial_state (no_line job.source) job.defines) 0 initial_state b (Err e) → (is_system_error e ≡ true → is_system_error_result a.result ≡ true) → RefusedBy b (no_line job.source) e a → IfSome o (λ m. RepresentsFirstState m (Ok x) (first_state_in m job.source job.include)) → IfSome o (λ m. AnswersAs m job a)
define_answer o job x e a b left outside refused opens =
    some_then (λ m. RepresentsFirstState m (Ok x) (first_state_in m job.source job.include)) (λ m. AnswersAs m job a) o (λ m q. refused_answer a b m job (no_line job.source) e (by m q (is_system_error e) left) outside refused) opens
  where
    by : (m : Files) → RepresentsFirstState m (Ok x) (first_state_in m job.source job.include) → (c : Bool) → Unless c ((⊤ → DefinesConstants StepsTo initial_state (no_line job.source) job.defines (Err e)) × HasSameOutput initial_state b) → Unless c ((u : State) × RunsStatements m job (stopped_at u (no_line job.source) e) × HasSameOutput u b)
    by m q true h = tt
    by m q false h = (initial_state, constants_refused m machine_semantics job x initial_state e q (h.0 tt), h.1)

-- a run that begins after the constants represents the state after them
pub first_held : (x : Expander) (b : Assembler) (u : State) (run : Run) → run ≡ record { expander = x; assembler = b } → measure_of x ≤ 3145729 → RepresentsWithin 0 u b → RunRepresents u run
first_held x b u run is size held = subst (RunRepresents u) (sym is) (record {
  count = held.0;
  room = first_room held.0 (measure_of x) held.1 size;
  holds = held.2;
})
  where
    first_room : (count size : ℕ) → count ≤ 0 → size ≤ 3145729 → count + 2 * size ≤ running_limit
    first_room count size none few = omega arith

abbrev AreLeft : Job → Assembler → Unit {0} → Type 0
AreLeft job b v = RefinesTransition ⊤ (DefinesConstants StepsTo initial_state (no_line job.source) job.defines) 0 initial_state b (Ok v)

pub first_running : (job : Job) (x : Expander) (b : Assembler) (v : Unit {0}) → AreLeft job b v → measure_of x ≤ 3145729 → IsRunning (record { expander = x; assembler = b })
first_running job x b v left size = (left.0, left.2 at_first, first_held x b left.0 (record { expander = x; assembler = b }) refl size left.3)

pub run_answer : (o : Option Files) (job : Job) (x : Expander) (b : Assembler) (v : Unit {0}) (a : Assembly) → AreLeft job b v → measure_of x ≤ 3145729 → IfSome o (λ m. RepresentsFirstState m (Ok x) (first_state_in m job.source job.include)) → IfSome o (λ m. AnswersAll m (record { expander = x; assembler = b }) a) → IfSome o (λ m. AnswersAs m job a)
run_answer o job x b v a left size opens all =
    some_both (λ m. RepresentsFirstState m (Ok x) (first_state_in m job.source job.include)) (λ m. AnswersAll m (record { expander = x; assembler = b }) a) (λ m. AnswersAs m job a) o (λ m q r. r job left.0 q left.1 (first_held x b left.0 (record { expander = x; assembler = b }) refl size left.3)) opens all

-- ---- Failures of the store.

pub passed_on : (old new : ℕ) (v : Unit {0}) (r : Found) → PropagatesIoErrors {T = Unit {0}} {E = AsmFault} is_failure old new (Ok v) → IfErr r (λ e. is_store_failure e ≡ false) → PropagatesIoErrors is_store_failure old new r
passed_on old new v (Ok o) p h = record { monotone = p.monotone; reported = λ lt. absurd (p.reported lt); caused = tt }
passed_on old new v (Err e) p h = record { monotone = p.monotone; reported = λ lt. absurd (p.reported lt); caused = λ yes. (let no : true ≡ false = sym yes ∙ h in absurd cc) }

pub passed_as : (old new : ℕ) (e : AsmFault) (r : Found) → PropagatesIoErrors {T = Unit {0}} {E = AsmFault} is_failure old new (Err e) → IfOk r (λ o. ⊥) → IfErr r (λ x. is_store_failure x ≡ is_failure e) → PropagatesIoErrors is_store_failure old new r
passed_as old new e (Ok o) p none h = absurd none
passed_as old new e (Err x) p none h = record { monotone = p.monotone; reported = λ lt. h ∙ p.reported lt; caused = λ yes. p.caused (sym h ∙ yes) }

pub not_answered : (P : Object → Type 0) (r : Found) → IfOk r (λ o. ⊥) → IfOk r P
not_answered P (Ok o) h = absurd h
not_answered P (Err e) h = tt

same_count : (old mid : ℕ) → old ≤ mid → (old < mid → ⊥) → mid ≡ old
same_count old mid le never = by (nat_lt old mid) refl
  where
    by : (b : Bool) → nat_lt old mid ≡ b → mid ≡ old
    by true e = (let lt : old < mid = grind (arith, nat_tests) in absurd (never lt))
    by false e = grind (arith, nat_tests)

pub passed_through : (old mid new : ℕ) (x : Expander) (r : Found) → PropagatesIoError {T = Expander} {E = ExpandFault} FileError old mid (Ok x) → PropagatesIoErrors is_store_failure mid new r → PropagatesIoErrors is_store_failure old new r
passed_through old mid new x r p q =
    let same : mid ≡ old = same_count old mid p.monotone (λ lt. let told = p.reported lt in cc) in
    subst (λ n. PropagatesIoErrors is_store_failure n new r) same q

pub none_passed : (old new : ℕ) (x : Expander) (e : AsmFault) (r : Found) → PropagatesIoError {T = Expander} {E = ExpandFault} FileError old new (Ok x) → is_failure e ≡ false → IfOk r (λ o. ⊥) → IfErr r (λ y. is_store_failure y ≡ is_failure e) → PropagatesIoErrors is_store_failure old new r
none_passed old new x e (Ok o) p inside none h = absurd none
none_passed old new x e (Err y) p inside none h = record { monotone = p.monotone; reported = λ lt. (let told = p.reported lt in absurd cc); caused = λ yes. (let no : true ≡ false = sym yes ∙ h ∙ inside in absurd cc) }

-- ---- Output before a failure of the store.

or_true : (b : Bool) → b || true ≡ true
or_true true = refl
or_true false = refl

pub failure_outside : (e : AsmFault) → is_failure e ≡ true → is_system_error e ≡ true
failure_outside e h = ap (λ b. is_out_of_memory e || b) h ∙ or_true (is_out_of_memory e)

memory_outside : (e : AsmFault) → is_out_of_memory e ≡ true → is_system_error e ≡ true
memory_outside e h = ap (λ b. b || is_failure e) h

pub failure_inside : (e : AsmFault) → is_failure e ≡ true → is_out_of_memory e ≡ false
failure_inside PartError h = refl
failure_inside (Expansion FileError) h = refl
failure_inside _ h = absurd cc

expansion_error : (e : ExpandFault) → is_failure (Expansion e) ≡ true → Expansion e ≡ Expansion FileError
expansion_error FileError h = refl
expansion_error _ h = absurd cc

pub only_error : (e : ExpandFault) → is_failure (Expansion e) ≡ true → e ≡ FileError
only_error FileError h = refl
only_error _ h = absurd cc

-- a condition for all system errors applies if memory runs out
pub memory_silent : (r : Found) (P : Type 0) → (is_system_error_result r ≡ true → P) → is_memory_error_result r ≡ true → P
memory_silent (Ok o) P f h = absurd cc
memory_silent (Err e) P f h = f (memory_outside e.fault h)

-- the case that the store didn't fail
never_so : (m : Files) (last_failure : LastFailure) (job : Job) (a : Assembly) → IfErr a.result (λ e. is_store_failure e ≡ false) → RunReportsStoreFailure m last_failure job a
never_so m last_failure job a none = by a.result none
  where
    by : (r : Found) → IfErr r (λ e. is_store_failure e ≡ false) → IfErr r (λ e. is_store_failure e ≡ true → FailsAtSource last_failure job (located_fault e) a.out a.err ⊎ RunFailsAfterStatements m last_failure job (located_fault e) a.out a.err)
    by (Ok o) h = tt
    by (Err e) h = λ yes. absurd (let both : true ≡ false = sym yes ∙ h in cc)

pub stops_never_so : (o : Option Files) (last_failure : LastFailure) (job : Job) (a : Assembly) → IfErr a.result (λ e. is_store_failure e ≡ false) → IfSome o (λ m. RunReportsStoreFailure m last_failure job a)
stops_never_so o last_failure job a none = some_all (λ m. RunReportsStoreFailure m last_failure job a) o (λ m. never_so m last_failure job a none)

abbrev pub StopsFrom : Files → LastFailure → Run → Assembly → Type 0
StopsFrom m last_failure first a = (job : Job) → StartsRun m job first → RunReportsStoreFailure m last_failure job a

pub stops_never_from : (o : Option Files) (last_failure : LastFailure) (first : Run) (a : Assembly) → IfErr a.result (λ e. is_store_failure e ≡ false) → IfSome o (λ m. StopsFrom m last_failure first a)
stops_never_from o last_failure first a none = some_all (λ m. StopsFrom m last_failure first a) o (λ m job begins. never_so m last_failure job a none)

pub as_fault : (r : Found) (e : AsmFault) → is_failure e ≡ false → IfErr r (λ x. is_store_failure x ≡ is_failure e) → IfErr r (λ x. is_store_failure x ≡ false)
as_fault (Ok o) e inside h = tt
as_fault (Err x) e inside h = h ∙ inside

pub as_memory : (r : Found) → IfErr r (λ e. e.fault ≡ OutOfMemory) → IfErr r (λ x. is_store_failure x ≡ false)
as_memory (Ok o) h = tt
as_memory (Err x) h = ap is_failure h

-- the case of a failure before the first line is read
pub stops_first : (o : Option Files) (last_failure : LastFailure) (job : Job) (e : ExpandFault) (a : Assembly) → IfErr a.result (λ x. is_store_failure x ≡ is_failure (Expansion e)) → (is_failure (Expansion e) ≡ true → IfErr a.result (λ x. (x.fault ≡ Expansion e) × ((located_fault x).place ≡ no_location))) → (is_system_error_result a.result ≡ true → (a.out ≡ []) × (a.err ≡ [])) → (e ≡ FileError → FailedAt last_failure job.source 16777216) → IfSome o (λ m. RunReportsStoreFailure m last_failure job a)
stops_first o last_failure job e a failed first silent requested = some_all (λ m. RunReportsStoreFailure m last_failure job a) o (λ m. by m a.result failed first silent)
  where
    by : (m : Files) (r : Found) → IfErr r (λ x. is_store_failure x ≡ is_failure (Expansion e)) → (is_failure (Expansion e) ≡ true → IfErr r (λ x. (x.fault ≡ Expansion e) × ((located_fault x).place ≡ no_location))) → (is_system_error_result r ≡ true → (a.out ≡ []) × (a.err ≡ [])) → IfErr r (λ x. is_store_failure x ≡ true → FailsAtSource last_failure job (located_fault x) a.out a.err ⊎ RunFailsAfterStatements m last_failure job (located_fault x) a.out a.err)
    by m (Ok x) failed first silent = tt
    by m (Err x) failed first silent = λ yes.
        (let is : is_failure (Expansion e) ≡ true = sym failed ∙ yes in
        let there = first is in
        let nothing = silent (failure_outside x.fault yes) in
        inl (record { source = requested (only_error e is); fault = there.0 ∙ expansion_error e is; place = there.1; no_out = nothing.0; no_err = nothing.1 }))

abbrev pub StoppedAt : SourceLocation → AsmFault → Found → Type 0
StoppedAt location e r = IfErr r (λ x. located_fault x ≡ record { place = location; fault = e })

-- the case of a failure after some statements
pub stops_here : (o : Option Files) (last_failure : LastFailure) (first now : Run) (e : AsmFault) (a : Assembly) → is_failure e ≡ true → StoppedAt (location_of now.expander) e a.result → a.out ≡ now.assembler.texts.out → a.err ≡ now.assembler.texts.err → IfSome o (λ m. RunReportsFailure m last_failure first now (Err e)) → IfSome o (λ m. StopsFrom m last_failure first a)
stops_here o last_failure first now e a failed placed out err all =
    some_then (λ m. RunReportsFailure m last_failure first now (Err e)) (λ m. StopsFrom m last_failure first a) o (λ m h job begins. by m job a.result placed (h failed job begins)) all
  where
    at : LocatedFault
    at = record { place = location_of now.expander; fault = e }

    by : (m : Files) (job : Job) (r : Found) → StoppedAt (location_of now.expander) e r → RunFailsAfterStatements m last_failure job (record { place = location_of now.expander; fault = e }) now.assembler.texts.out now.assembler.texts.err → IfErr r (λ x. is_store_failure x ≡ true → FailsAtSource last_failure job (located_fault x) a.out a.err ⊎ RunFailsAfterStatements m last_failure job (located_fault x) a.out a.err)
    by m job (Ok x) p h = tt
    by m job (Err x) p h = λ yes.
        inr (subst (λ (q : LocatedFault). RunFailsAfterStatements m last_failure job q a.out a.err) (sym p) (subst (λ (t : List ℕ). RunFailsAfterStatements m last_failure job at t a.err) (sym out) (subst (λ (t : List ℕ). RunFailsAfterStatements m last_failure job at now.assembler.texts.out t) (sym err) h)))

-- the case of an error after some statements, which may be a failure of the store
pub stops_after : (o : Option Files) (last_failure : LastFailure) (first now : Run) (e : AsmFault) (a : Assembly) → IfErr a.result (λ x. is_store_failure x ≡ is_failure e) → (is_failure e ≡ true → StoppedAt (location_of now.expander) e a.result) → (is_failure e ≡ true → (a.out ≡ now.assembler.texts.out) × (a.err ≡ now.assembler.texts.err)) → IfSome o (λ m. RunReportsFailure m last_failure first now (Err e)) → IfSome o (λ m. StopsFrom m last_failure first a)
stops_after o last_failure first now e a same stopped_at said all = by (is_failure e) refl
  where
    by : (b : Bool) → is_failure e ≡ b → IfSome o (λ m. StopsFrom m last_failure first a)
    by true is = stops_here o last_failure first now e a is (stopped_at is) (said is).0 (said is).1 all
    by false is = stops_never_from o last_failure first a (as_fault a.result e is same)

-- a failure in a run that begins after the constants is a failure in the source
pub run_stops : (o : Option Files) (last_failure : LastFailure) (job : Job) (x : Expander) (b : Assembler) (v : Unit {0}) (a : Assembly) → AreLeft job b v → measure_of x ≤ 3145729 → IfSome o (λ m. RepresentsFirstState m (Ok x) (first_state_in m job.source job.include)) → IfSome o (λ m. IsPositioned m x) → IfSome o (λ m. StopsFrom m last_failure (record { expander = x; assembler = b }) a) → IfSome o (λ m. RunReportsStoreFailure m last_failure job a)
run_stops o last_failure job x b v a left size opens placed all =
    some_both (λ m. RepresentsFirstState m (Ok x) (first_state_in m job.source job.include) × IsPositioned m x) (λ m. StopsFrom m last_failure (record { expander = x; assembler = b }) a) (λ m. RunReportsStoreFailure m last_failure job a) o (λ m q r. r job (left.0, q.0, q.1, left.1, first_held x b left.0 (record { expander = x; assembler = b }) refl size left.3))
    (some_both (λ m. RepresentsFirstState m (Ok x) (first_state_in m job.source job.include)) (λ m. IsPositioned m x) (λ m. RepresentsFirstState m (Ok x) (first_state_in m job.source job.include) × IsPositioned m x) o (λ m q p. (q, p)) opens placed) all
