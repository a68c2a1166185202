-- Each source has a layout, up to its last line or its first error, and an outcome: each statement shrinks the input that
-- remains to be expanded.
use Rattle.std.proofs.Common.{arith, ◌≡◌, ℕ, zero, suc, ◌<◌, true, false, List, [], ◌∷◌, Option, Some, None, refl}
use Rattle.std.specs.Prelude.{Result, Ok, Err, IfSome}
use Rattle.base65.specs.Outcome.{◌>>=◌}
use Rattle.base65.specs.SystemErrors.{IsNoSystemError}
use Rattle.base65.specs.Store.{Files}
use Rattle.base65.proofs.SystemErrors.{Own, first_own, good, Has}
use Rattle.syntax65.specs.Faults.{is_system_error as is_expand_system_error}
use Rattle.syntax65.specs.Tokens.{Lexeme}
use Rattle.syntax65.specs.Trees.{number}
use Rattle.syntax65.specs.declared.fault.ExpandFault.{ExpandFault}
use Rattle.syntax65.specs.declared.fault.ExpandFault.TheVariants as expansion
use Rattle.expand65.specs.Expansion.{bytes_in, fault, file_named, first_state, Next, nothing, ReachesNext, statement}
use Rattle.expand65.specs.Laws.{IsOrdered, DecreasesInput, input_measure}
use Rattle.expand65.specs.State as expand
use Rattle.expand65.proofs.NextTotality.{some_next}
use Rattle.ast65.specs.Faults.{is_system_error}
use Rattle.ast65.specs.Parsing.{label_of}
use Rattle.ast65.proofs.StatementTotality.{statement_there}
use Rattle.sources65.specs.Laws.{is_located_system_error, OutcomeExists, LayoutExists}
use Rattle.semantics65.specs.Layout.{empty_layout}
use Rattle.semantics65.specs.Module.{outcome_of}
use Rattle.sources65.specs.Reading.{DefinesConstants, AssemblesRest, statement_assembled, statement_rejected, expansion_rejected, source_ended, StatementSemantics, Define, AssemblesAfterDefines, AssemblesOpeningResult, AssemblesExpanded, AssemblesLabelTokens, AssemblesLabel, AssemblesTokens, AssemblesSource, Job, layout_semantics, no_line, open_scope_fault, ReachedState, stopped_at, with_bytes, with_statement}
use Rattle.semantics65.specs.Types.{AsmFault, Constant, Expansion, SourceLocation, Statement}
use Rattle.sources65.proofs.ContentExistence.{outcome_own}
use Rattle.sources65.proofs.LineExistence.{statement_own}

expansion_own : (e : ExpandFault) → is_expand_system_error e ≡ false → is_system_error (Expansion e) ≡ false
expansion_own expansion.OutOfMemory h = absurd (let e : true ≡ false = h in cc)
expansion_own expansion.FileError h = absurd (let e : true ≡ false = h in cc)
expansion_own _ h = refl

-- ---- Over any states, if each statement has a result.

-- there is no error, or it is no system error
abbrev IsOwnAt : {S : Type 0} → ReachedState S → Type 0
IsOwnAt r = IfSome r.fault (λ e. is_located_system_error e ≡ false)

module _ {S : Type 0} (m : Files) (b : StatementSemantics S) (some : (y : S) (location : SourceLocation) (x : Statement) → Has is_system_error (b.step_relation y location x)) where
  labelled_there : (y : S) (location : SourceLocation) (o : Option Statement) → Has is_system_error (AssemblesLabel b.step_relation y location o)
  labelled_there y location None = (Ok y, refl, good y)
  labelled_there y location (Some x) = some y location x

  rest_there : (y : S) (location : SourceLocation) (ts : List Lexeme) → Has is_system_error (AssemblesTokens m b.step_relation y location ts)
  rest_there y location [] = (Ok y, refl, good y)
  rest_there y location (t ∷ ts) =
      let x = statement_there (t ∷ ts) in
      let r = first_own is_system_error x.0 (λ s. b.step_relation y location (with_bytes m location s)) x.2 (λ s. some y location (with_bytes m location s)) in
      (r.0, (x.0, x.1, r.1), r.2)

  label_there : (y : S) (location : SourceLocation) (ts : List Lexeme) → Has is_system_error (AssemblesLabelTokens m b.step_relation y location ts)
  label_there y location ts =
      let q = labelled_there y location (label_of ts).0 in
      let r = first_own is_system_error q.0 (λ z. AssemblesTokens m b.step_relation z location (label_of ts).1) q.2 (λ z. rest_there z location (label_of ts).1) in
      (r.0, (q.0, q.1, r.1), r.2)

  given_there : (y : S) (location : SourceLocation) (x : expand.ExpandedStatement) → Has is_system_error (AssemblesExpanded m b.step_relation y location x)
  given_there y location (expand.label ts) = label_there y location ts
  given_there y location (expand.plain ts) = rest_there y location ts

  -- ---- All statements.

  abbrev HasTaken : expand.State → S → Type 0
  HasTaken s y = (r : ReachedState S) × AssemblesRest m b s y r × IsOwnAt r

  open_own : (location : SourceLocation) (scope : ℕ) → IfSome (open_scope_fault location scope) (λ e. is_located_system_error e ≡ false)
  open_own location zero = tt
  open_own location (suc i) = refl

  module _ (s : expand.State) (y : S) (more : (t : expand.State) (z : S) → input_measure t < input_measure s → IsOrdered t → HasTaken t z) where
    following : (t : expand.State) (x : expand.ExpandedStatement) → ReachesNext m (b.environment y) s (statement x t) → IsOrdered t × (input_measure t < input_measure s) → (q : Result S AsmFault) → AssemblesExpanded m b.step_relation y t.left.place x q → Own is_system_error q → HasTaken s y
    following t x reach less (Ok z) h own = let r = more t z less.1 less.0 in (r.0, statement_assembled s t x y z r.0 reach h r.1, r.2)
    following t x reach less (Err e) h own = (stopped_at y t.left.place e, statement_rejected s t x y e reach h, own.own)

    after : (n : Next) → ReachesNext m (b.environment y) s n → DecreasesInput s n → HasTaken s y
    after (statement x t) reach less = let q = given_there y t.left.place x in following t x reach less q.0 q.1 q.2
    after (nothing t) reach less = (record { state = y; fault = open_scope_fault t.left.place (b.scope y) }, source_ended s t y reach, open_own t.left.place (b.scope y))
    after (fault (e, location)) reach less = (stopped_at y location (Expansion e), expansion_rejected s y e location reach, expansion_own e less)

  taken_within : (n : ℕ) (s : expand.State) (y : S) → input_measure s < n → IsOrdered s → HasTaken s y
  taken_within zero s y lt h = absurd (omega arith)
  taken_within (suc n) s y lt h =
      let r = some_next.next m (b.environment y) s h in
      after s y (λ t z less j. taken_within n t z (omega arith) j) r.0 r.1 r.2

  -- ---- A source.

  defined_there : (y : S) (location : SourceLocation) (ds : List Define) → Has is_system_error (DefinesConstants b.step_relation y location ds)
  defined_there y location [] = (Ok y, refl, good y)
  defined_there y location (d ∷ ds) =
      let q = some y location (Constant d.0 (number d.1)) in
      let r = first_own is_system_error q.0 (λ z. DefinesConstants b.step_relation z location ds) q.2 (λ z. defined_there z location ds) in
      (r.0, (q.0, q.1, r.1), r.2)

  follows_there : (s : expand.State) (location : SourceLocation) (y : S) → IsOrdered s → (q : Result S AsmFault) → Own is_system_error q → (r : ReachedState S) × AssemblesAfterDefines m b s location y q r × IsOwnAt r
  follows_there s location y h (Ok z) own = taken_within (suc (input_measure s)) s z (omega arith) h
  follows_there s location y h (Err e) own = (stopped_at y location e, refl, own.own)

  module _ (job : Job) (y : S) where
    begun_there : (q : Result (List ℕ) ExpandFault) → IsNoSystemError is_expand_system_error (q >>= (λ bytes. Ok (first_state job.source job.include bytes))) → (r : ReachedState S) × AssemblesOpeningResult m b job y (q >>= (λ bytes. Ok (first_state job.source job.include bytes))) r × IsOwnAt r
    begun_there (Err e) own = (stopped_at y (no_line job.source) (Expansion e), refl, expansion_own e own)
    begun_there (Ok bytes) own =
        let q = defined_there y (no_line job.source) job.defines in
        let r = follows_there (first_state job.source job.include bytes) (no_line job.source) y (some_next.first job.source job.include bytes) q.0 q.2 in
        (r.0, (q.0, q.1, r.1), r.2)

    pub source_there : (r : ReachedState S) × AssemblesSource m b job y r × IsOwnAt r
    source_there = begun_there (bytes_in (file_named m job.source)) (some_next.opened m job.source job.include)

-- ---- Layouts.

pub some_layout : LayoutExists
some_layout m job = source_there m layout_semantics (λ y location x. (with_statement y location x, refl, statement_own y location x)) job empty_layout

pub some_answer : OutcomeExists
some_answer m job =
    let r = some_layout m job in
    (outcome_of r.0.state r.0.fault, (r.0, r.1, refl), outcome_own r.0.state r.0.fault r.2)
