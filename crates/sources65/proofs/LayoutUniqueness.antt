-- A source has at most one layout and one outcome, and simulation of single statements implies simulation of sources.
use Rattle.std.proofs.lemmas.Grind.{common_steps}
use Rattle.expand65.specs.State as expand
use Rattle.std.proofs.Common.{arith, ◌≡◌, List, [], ◌∷◌, Option, Some, None, refl, sym, subst, ◌∙◌, ap}
use Rattle.std.specs.Prelude.{Result, Ok, Err}
use Rattle.base65.specs.Outcome.{AndThen}
use Rattle.base65.specs.Store.{Files}
use Rattle.syntax65.specs.Tokens.{Lexeme}
use Rattle.syntax65.specs.Trees.{number}
use Rattle.syntax65.specs.declared.fault.ExpandFault.{ExpandFault}
use Rattle.syntax65.specs.declared.source_location.SourceLocation.{SourceLocation}
use Rattle.expand65.specs.Expansion.{Next, ReachesNext, statement, nothing, fault, first_state_in}
use Rattle.ast65.specs.declared.fault.AsmFault.{AsmFault}
use Rattle.ast65.specs.declared.language.Statement.{Statement}
use Rattle.ast65.specs.declared.language.Statement.TheVariants.{Constant}
use Rattle.ast65.specs.Parsing.{IsStatement, label_of}
use Rattle.sources65.specs.Reading.{DefinesConstants, AssemblesRest, statement_assembled, statement_rejected, expansion_rejected, source_ended, StatementSemantics, Define, AssemblesAfterDefines, AssemblesOpeningResult, AssemblesExpanded, AssemblesLabelTokens, AssemblesLabel, AssemblesTokens, AssemblesSource, Job, ReachedState, StepRelation, no_line, open_scope_fault, with_bytes, stopped_at, AreLaidOut, IsLaidOut, layout_semantics, with_statement}
use Rattle.expand65.proofs.StepUniqueness.{one_next}
use Rattle.expand65.specs.Lines.{LocatedError}
use Rattle.ast65.specs.declared.fault.AsmFault.TheVariants.{Expansion}
use Rattle.semantics65.specs.Layout.{Layout, empty_layout}
use Rattle.ast65.proofs.UniqueStatement.{One, followed_one, made_one, same_one, statement_one}
use Rattle.sources65.specs.Machine.{OutcomeIsUnique, LayoutIsUnique}
use Rattle.semantics65.specs.Module.{outcome_of}

-- ---- Simulation.

-- a success of the second relation has a related result of the first; an error is the same
abbrev pub Matches : {A B : Type 0} → (A → B → Type 0) → (Result A AsmFault → Type 0) → Result B AsmFault → Type 0
Matches R P (Ok u) = (z : _) × P (Ok z) × R z u
Matches R P (Err e) = P (Err e)

abbrev pub MatchesAll : {A B : Type 0} → (A → B → Type 0) → (ReachedState A → Type 0) → ReachedState B → Type 0
MatchesAll R P r = (z : _) × P (record { state = z; fault = r.fault }) × R z r.state

-- each step of the second relation is matched by a step of the first
abbrev pub Simulates : {A B : Type 0} → (A → B → Type 0) → StepRelation A → StepRelation B → Type 0
Simulates R TakesA TakesB = (y : _) (t : _) (location : SourceLocation) (x : Statement) (r : Result _ AsmFault) → R y t → TakesB t location x r → Matches R (TakesA y location x) r

-- a simulation with the same environment and the same open scope
pub record StandIn {A B : Type 0} (R : A → B → Type 0) (a : StatementSemantics A) (b : StatementSemantics B) : Type 0 where
  pub step_relation : Simulates R a.step_relation b.step_relation
  pub environment : (y : A) (t : B) → R y t → a.environment y ≡ b.environment t
  pub scope : (y : A) (t : B) → R y t → a.scope y ≡ b.scope t

-- ---- A statement.

matches_then : {A B : Type 0} (R : A → B → Type 0) (P Q : Result A AsmFault → Type 0) → ((r : Result A AsmFault) → P r → Q r) → (r : Result B AsmFault) → Matches R P r → Matches R Q r
matches_then x1 x2 x3 f x4 m = grind (arith, common_steps)

matches_same : {A B : Type 0} (R : A → B → Type 0) (P : Result A AsmFault → Type 0) (r s : Result B AsmFault) → s ≡ r → Matches R P s → Matches R P r
matches_same R P r s e m = subst (Matches R P) e m

labelled_matches : {A B : Type 0} (R : A → B → Type 0) (TakesA : StepRelation A) (TakesB : StepRelation B) → Simulates R TakesA TakesB → (y : A) (t : B) (location : SourceLocation) (o : Option Statement) (r : Result B AsmFault) → R y t → AssemblesLabel TakesB t location o r → Matches R (AssemblesLabel TakesA y location o) r
labelled_matches R TakesA TakesB sim y t location None r stands is = matches_same R (AssemblesLabel TakesA y location None) r (Ok t) (sym is) (y, refl, stands)
labelled_matches R TakesA TakesB sim y t location (Some x) r stands is = sim y t location x r stands is

rest_matches : {A B : Type 0} (m : Files) (R : A → B → Type 0) (TakesA : StepRelation A) (TakesB : StepRelation B) → Simulates R TakesA TakesB → (y : A) (t : B) (location : SourceLocation) (ts : List Lexeme) (r : Result B AsmFault) → R y t → AssemblesTokens m TakesB t location ts r → Matches R (AssemblesTokens m TakesA y location ts) r
rest_matches m R TakesA TakesB sim y t location [] r stands is = matches_same R (AssemblesTokens m TakesA y location []) r (Ok t) (sym is) (y, refl, stands)
rest_matches m R TakesA TakesB sim y t location (k ∷ ts) r stands is = by is.0 is.1 is.2
  where
    by : (x : Result Statement AsmFault) → IsStatement (k ∷ ts) x → AndThen x (λ s. TakesB t location (with_bytes m location s)) r → Matches R (AssemblesTokens m TakesA y location (k ∷ ts)) r
    by (Ok x) says takes = matches_then R (TakesA y location (with_bytes m location x)) (AssemblesTokens m TakesA y location (k ∷ ts)) (λ s h. (Ok x, says, h)) r (sim y t location (with_bytes m location x) r stands takes)
    by (Err e) says takes = matches_same R (AssemblesTokens m TakesA y location (k ∷ ts)) r (Err e) (sym takes) (Err e, says, refl)

label_matches : {A B : Type 0} (m : Files) (R : A → B → Type 0) (TakesA : StepRelation A) (TakesB : StepRelation B) → Simulates R TakesA TakesB → (y : A) (t : B) (location : SourceLocation) (ts : List Lexeme) (r : Result B AsmFault) → R y t → AssemblesLabelTokens m TakesB t location ts r → Matches R (AssemblesLabelTokens m TakesA y location ts) r
label_matches m R TakesA TakesB sim y t location ts r stands is = by is.0 is.2 (labelled_matches R TakesA TakesB sim y t location (label_of ts).0 is.0 stands is.1)
  where
    by : (q : Result _ AsmFault) → AndThen q (λ z. AssemblesTokens m TakesB z location (label_of ts).1) r → Matches R (AssemblesLabel TakesA y location (label_of ts).0) q → Matches R (AssemblesLabelTokens m TakesA y location ts) r
    by (Ok u) rest h = matches_then R (AssemblesTokens m TakesA h.0 location (label_of ts).1) (AssemblesLabelTokens m TakesA y location ts) (λ s k. (Ok h.0, h.1, k)) r (rest_matches m R TakesA TakesB sim h.0 u location (label_of ts).1 r h.2 rest)
    by (Err e) same h = matches_same R (AssemblesLabelTokens m TakesA y location ts) r (Err e) (sym same) (Err e, h, refl)

pub given_matches : {A B : Type 0} (m : Files) (R : A → B → Type 0) (TakesA : StepRelation A) (TakesB : StepRelation B) → Simulates R TakesA TakesB → (y : A) (t : B) (location : SourceLocation) (x : expand.ExpandedStatement) (r : Result B AsmFault) → R y t → AssemblesExpanded m TakesB t location x r → Matches R (AssemblesExpanded m TakesA y location x) r
given_matches m R TakesA TakesB sim y t location (expand.label ts) r stands is = label_matches m R TakesA TakesB sim y t location ts r stands is
given_matches m R TakesA TakesB sim y t location (expand.plain ts) r stands is = rest_matches m R TakesA TakesB sim y t location ts r stands is

-- ---- All statements.

-- in related states, expansion reaches the same next result
pub next_same : {A B : Type 0} (R : A → B → Type 0) (a : StatementSemantics A) (b : StatementSemantics B) → StandIn R a b → (m : Files) (s : expand.State) (y : A) (t : B) (n : Next) → R y t → ReachesNext m (b.environment t) s n → ReachesNext m (a.environment y) s n
next_same R a b for m s y t n stands h = subst (λ k. ReachesNext m k s n) (sym (for.environment y t stands)) h

taken_matches : {A B : Type 0} (R : A → B → Type 0) (a : StatementSemantics A) (b : StatementSemantics B) → StandIn R a b → (m : Files) (s : expand.State) (y : A) (t : B) (r : ReachedState B) → R y t → AssemblesRest m b s t r → MatchesAll R (AssemblesRest m a s y) r
taken_matches R a b for m s y t r stands (statement_assembled _ u x _ z _ h g more) =
    let g' : Matches R (AssemblesExpanded m a.step_relation y u.left.place x) (Ok z) = given_matches m R a.step_relation b.step_relation for.step_relation y t u.left.place x (Ok z) stands g in
    let n = taken_matches R a b for m u g'.0 z r g'.2 more in
    (n.0, statement_assembled s u x y g'.0 _ (next_same R a b for m s y t (statement x u) stands h) g'.1 n.1, n.2)
taken_matches R a b for m s y t r stands (statement_rejected _ u x _ e h g) =
    (y, statement_rejected s u x y e (next_same R a b for m s y t (statement x u) stands h) (given_matches m R a.step_relation b.step_relation for.step_relation y t u.left.place x (Err e) stands g), stands)
taken_matches R a b for m s y t r stands (expansion_rejected _ _ e location h) =
    (y, expansion_rejected s y e location (next_same R a b for m s y t (fault (e, location)) stands h), stands)
taken_matches R a b for m s y t r stands (source_ended _ u _ h) =
    let end = source_ended s u y (next_same R a b for m s y t (nothing u) stands h) in
    (y, subst (λ scope. AssemblesRest m a s y (record { state = y; fault = open_scope_fault u.left.place scope })) (for.scope y t stands) end, stands)

-- ---- A source.

pub defined_matches : {A B : Type 0} (R : A → B → Type 0) (TakesA : StepRelation A) (TakesB : StepRelation B) → Simulates R TakesA TakesB → (y : A) (t : B) (location : SourceLocation) (ds : List Define) (r : Result B AsmFault) → R y t → DefinesConstants TakesB t location ds r → Matches R (DefinesConstants TakesA y location ds) r
defined_matches R TakesA TakesB sim y t location [] r stands is = matches_same R (DefinesConstants TakesA y location []) r (Ok t) (sym is) (y, refl, stands)
defined_matches R TakesA TakesB sim y t location (d ∷ ds) r stands is =
    by is.0 is.2 (sim y t location (Constant d.0 (number d.1)) is.0 stands is.1) (λ z u. defined_matches R TakesA TakesB sim z u location ds r)
  where
    by : (q : Result _ AsmFault) → AndThen q (λ z. DefinesConstants TakesB z location ds) r → Matches R (TakesA y location (Constant d.0 (number d.1))) q → ((z : _) (u : _) → R z u → DefinesConstants TakesB u location ds r → Matches R (DefinesConstants TakesA z location ds) r) → Matches R (DefinesConstants TakesA y location (d ∷ ds)) r
    by (Ok u) rest m more = matches_then R (DefinesConstants TakesA m.0 location ds) (DefinesConstants TakesA y location (d ∷ ds)) (λ s h. (Ok m.0, m.1, h)) r (more m.0 u m.2 rest)
    by (Err e) same m more = matches_same R (DefinesConstants TakesA y location (d ∷ ds)) r (Err e) (sym same) (Err e, m, refl)

begun_matches : {A B : Type 0} (R : A → B → Type 0) (a : StatementSemantics A) (b : StatementSemantics B) → StandIn R a b → (m : Files) (job : Job) (y : A) (t : B) (o : Result expand.State ExpandFault) (r : ReachedState B) → R y t → AssemblesOpeningResult m b job t o r → MatchesAll R (AssemblesOpeningResult m a job y o) r
begun_matches R a b for m job y t (Err e) r stands is =
    subst (MatchesAll R (AssemblesOpeningResult m a job y (Err e))) (sym is) (y, refl, stands)
begun_matches R a b for m job y t (Ok s) r stands is =
    by is.0 is.2 (defined_matches R a.step_relation b.step_relation for.step_relation y t (no_line job.source) job.defines is.0 stands is.1)
  where
    by : (q : Result _ AsmFault) → AssemblesAfterDefines m b s (no_line job.source) t q r → Matches R (DefinesConstants a.step_relation y (no_line job.source) job.defines) q → MatchesAll R (AssemblesOpeningResult m a job y (Ok s)) r
    by (Ok u) next d = (let n = taken_matches R a b for m s d.0 u r d.2 next in (n.0, (Ok d.0, d.1, n.1), n.2))
    by (Err e) same d = subst (MatchesAll R (AssemblesOpeningResult m a job y (Ok s))) (sym same) (y, (Err e, d, refl), stands)

pub source_matches : {A B : Type 0} (R : A → B → Type 0) (a : StatementSemantics A) (b : StatementSemantics B) → StandIn R a b → (m : Files) (job : Job) (y : A) (t : B) (r : ReachedState B) → R y t → AssemblesSource m b job t r → MatchesAll R (AssemblesSource m a job y) r
source_matches R a b for m job y t r stands is = begun_matches R a b for m job y t (first_state_in m job.source job.include) r stands is

-- ---- A source has at most one layout.

-- ---- A statement.

labelled_one : (y : Layout) (location : SourceLocation) (o : Option Statement) → One (AssemblesLabel IsLaidOut y location o)
labelled_one y location x1 = grind (arith, common_steps)

rest_one : (m : Files) (y : Layout) (location : SourceLocation) (ts : List Lexeme) → One (AssemblesTokens m IsLaidOut y location ts)
rest_one m y location [] = same_one (Ok y)
rest_one m y location (t ∷ ts) = followed_one (IsStatement (t ∷ ts)) (λ x. x) (λ x. IsLaidOut y location (with_bytes m location x)) (statement_one (t ∷ ts)) (λ x. same_one (with_statement y location (with_bytes m location x)))

label_one : (m : Files) (y : Layout) (location : SourceLocation) (ts : List Lexeme) → One (AssemblesLabelTokens m IsLaidOut y location ts)
label_one m y location ts = followed_one (AssemblesLabel IsLaidOut y location (label_of ts).0) (λ q. q) (λ z. AssemblesTokens m IsLaidOut z location (label_of ts).1) (labelled_one y location (label_of ts).0) (λ z. rest_one m z location (label_of ts).1)

given_one : (m : Files) (y : Layout) (location : SourceLocation) (x : expand.ExpandedStatement) → One (AssemblesExpanded m IsLaidOut y location x)
given_one m y location (expand.label ts) = label_one m y location ts
given_one m y location (expand.plain ts) = rest_one m y location ts

-- ---- All statements.

-- the expansion states after the next statement are equal, and so are the results of the statement
same_given : (m : Files) (s t u : expand.State) (x w : expand.ExpandedStatement) (y : Layout) (a b : Result Layout AsmFault) → ReachesNext m (layout_semantics.environment y) s (statement x t) → AssemblesExpanded m IsLaidOut y t.left.place x a → ReachesNext m (layout_semantics.environment y) s (statement w u) → AssemblesExpanded m IsLaidOut y u.left.place w b → (t ≡ u) × (a ≡ b)
same_given m s t u x w y a b h g j k = grind (arith, common_steps, one_next, given_one)

taken_one : (m : Files) (s : expand.State) (y : Layout) (p q : ReachedState Layout) → AssemblesRest m layout_semantics s y p → AssemblesRest m layout_semantics s y q → p ≡ q
taken_one m s y p q (statement_assembled _ t x _ z _ h g more) k = by q k (λ c. taken_one m t z p c more)
  where
    by : (q : ReachedState Layout) → AssemblesRest m layout_semantics s y q → ((c : ReachedState Layout) → AssemblesRest m layout_semantics t z c → p ≡ c) → p ≡ q
    by q (statement_assembled _ u w _ v _ j f less) same =
        let e = same_given m s t u x w y (Ok z) (Ok v) h g j f in
        let following : v ≡ z = let e1 = e.1 in cc in
        same q (subst (λ c. AssemblesRest m layout_semantics c z q) (sym e.0) (subst (λ c. AssemblesRest m layout_semantics u c q) following less))
    by q (statement_rejected _ u w _ e j f) same = let d = (same_given m s t u x w y (Ok z) (Err e) h g j f).1 in absurd cc
    by q (expansion_rejected _ _ e location j) same = let d = one_next m (layout_semantics.environment y) s (statement x t) (fault (e, location)) h j in absurd cc
    by q (source_ended _ u _ j) same = let d = one_next m (layout_semantics.environment y) s (statement x t) (nothing u) h j in absurd cc
taken_one m s y p q (statement_rejected _ t x _ e h g) k = by q k
  where
    by : (q : ReachedState Layout) → AssemblesRest m layout_semantics s y q → stopped_at y t.left.place e ≡ q
    by q (statement_assembled _ u w _ v _ j f less) = let d = (same_given m s t u x w y (Err e) (Ok v) h g j f).1 in absurd cc
    by q (statement_rejected _ u w _ d j f) =
        let same = same_given m s t u x w y (Err e) (Err d) h g j f in
        let state = same.0 in
        let one = same.1 in
        let fault : e ≡ d = cc in
        ap (λ (v : expand.State). stopped_at y v.left.place e) state ∙ ap (stopped_at y u.left.place) fault
    by q (expansion_rejected _ _ d location j) = let d = one_next m (layout_semantics.environment y) s (statement x t) (fault (d, location)) h j in absurd cc
    by q (source_ended _ u _ j) = let d = one_next m (layout_semantics.environment y) s (statement x t) (nothing u) h j in absurd cc
taken_one m s y p q (expansion_rejected _ _ e location h) k = by q k
  where
    by : (q : ReachedState Layout) → AssemblesRest m layout_semantics s y q → stopped_at y location (Expansion e) ≡ q
    by q (statement_assembled _ u w _ v _ j f less) = let d = one_next m (layout_semantics.environment y) s (fault (e, location)) (statement w u) h j in absurd cc
    by q (statement_rejected _ u w _ d j f) = let d = one_next m (layout_semantics.environment y) s (fault (e, location)) (statement w u) h j in absurd cc
    by q (expansion_rejected _ _ d there j) =
        let same = one_next m (layout_semantics.environment y) s (fault (e, location)) (fault (d, there)) h j in
        let pair : (e, location) ≡ (d, there) = cc in
        ap (λ (c : LocatedError). stopped_at y c.1 (Expansion c.0)) pair
    by q (source_ended _ u _ j) = let d = one_next m (layout_semantics.environment y) s (fault (e, location)) (nothing u) h j in absurd cc
taken_one m s y p q (source_ended _ t _ h) k = by q k
  where
    by : (q : ReachedState Layout) → AssemblesRest m layout_semantics s y q → record { state = y; fault = open_scope_fault t.left.place (layout_semantics.scope y) } ≡ q
    by q (statement_assembled _ u w _ v _ j f less) = let d = one_next m (layout_semantics.environment y) s (nothing t) (statement w u) h j in absurd cc
    by q (statement_rejected _ u w _ d j f) = let d = one_next m (layout_semantics.environment y) s (nothing t) (statement w u) h j in absurd cc
    by q (expansion_rejected _ _ d location j) = let d = one_next m (layout_semantics.environment y) s (nothing t) (fault (d, location)) h j in absurd cc
    by q (source_ended _ u _ j) =
        let next = one_next m (layout_semantics.environment y) s (nothing t) (nothing u) h j in
        let same : t ≡ u = cc in
        ap (λ (v : expand.State). record { state = y; fault = open_scope_fault v.left.place (layout_semantics.scope y) }) same

-- ---- A source.

defined_one : (y : Layout) (location : SourceLocation) (ds : List Define) → One (DefinesConstants IsLaidOut y location ds)
defined_one y location [] = same_one (Ok y)
defined_one y location (d ∷ ds) = followed_one (IsLaidOut y location (Constant d.0 (number d.1))) (λ q. q) (λ z. DefinesConstants IsLaidOut z location ds) (same_one (with_statement y location (Constant d.0 (number d.1)))) (λ z. defined_one z location ds)

follows_one : (m : Files) (s : expand.State) (location : SourceLocation) (y : Layout) (q : Result Layout AsmFault) → One (AssemblesAfterDefines m layout_semantics s location y q)
follows_one m s location y x1 r t h k = grind (arith, common_steps, taken_one)

begun_one : (m : Files) (job : Job) (y : Layout) (o : Result expand.State ExpandFault) → One (AssemblesOpeningResult m layout_semantics job y o)
begun_one m job y x1 r s h k = grind (arith, common_steps, defined_one, follows_one)

pub one_layout : LayoutIsUnique
one_layout m job = begun_one m job empty_layout (first_state_in m job.source job.include)

pub one_answer : OutcomeIsUnique
one_answer m job = made_one (AreLaidOut m job) (λ r. outcome_of r.state r.fault) (one_layout m job)
