-- Single steps, by the first item of the input, and sequences of steps.
use Rattle.std.proofs.lemmas.Grind.{common_steps}
use Rattle.std.proofs.Common.{arith, ◌≡◌, ℕ, Bool, true, false, List, [], ◌∷◌, ◌++◌, drop, Option, Some, None, IfSome, Result, Ok, Err, refl, sym, subst}
use Rattle.base65.specs.Outcome.{Unless}
use Rattle.base65.specs.Store.{Files}
use Rattle.syntax65.specs.Tokens.{Lexeme}
use Rattle.expand65.specs.Macros.{macro_at, plain_line_result, file_of}
use Rattle.syntax65.specs.Faults.{is_system_error}
use Rattle.expand65.specs.LineStart.{first_directive, is_mislabelled, label_len, string_of, ok_or_not_understood}
use Rattle.expand65.specs.Expansion.{StepReaches, line_step, unless_mislabelled, directive_step, first_file, include_file, file_step, step_after, step_from, candidate_names, IsStep, Next, statement, nothing, fault, ReachesNext, further, yielded, ended, stopped}
use Rattle.expand65.specs.Representation.{remaining_of, RefinesLineOutcome, macros_of, state_of, outcome_of_line, RefinesNext, with_pending, is_end, step_of, location_of, state_in, statement_of}
use Rattle.expand65.specs.Replay.{tokens_in}
use Rattle.expand65.specs.State.{EnvironmentView, State, plain, ExpansionStep, reads_line, StepResult, yields, raises, ends, if_line, and_then_step}
use Rattle.expand65.specs.Lines.{Item, file_line, body_line, label_rest, elseif_rest, end_mark, LineAndRest, ReadsNextLine}
use Rattle.expand65.specs.declared.line_start.Directive.{Directive}
use Rattle.syntax65.specs.declared.fault.ExpandFault.{ExpandFault}
use Rattle.expand65.specs.declared.line.StoredLine.{StoredLine}
use Rattle.syntax65.specs.declared.source_location.SourceLocation.{SourceLocation}
use Rattle.expand65.specs.declared.preprocessor.Preprocessor.{Preprocessor}
use Rattle.expand65.specs.declared.preprocessor.LineOutcome.{LineOutcome}
use Rattle.expand65.proofs.Inputs.{AreLines, lines_left, own_split}
use Rattle.expand65.specs.declared.line_start.ConditionKind.TheVariants.{True}
use Rattle.expand65.specs.declared.expander.Expander.{Expander}
use Rattle.expand65.specs.declared.expander.PendingLine.{PendingLine}
use Rattle.expand65.specs.declared.expander.PendingLine.TheVariants.{Nothing, Rest, Branch, End}
use Rattle.expand65.specs.declared.expander.Statement.{Statement}

-- ---- Line outcomes that refine equal steps.

pub turns_so : (r : Result LineOutcome ExpandFault) (s : State) (P Q : StepResult → Type 0) → ((x : StepResult) → P x → Q x) → RefinesLineOutcome r s P → RefinesLineOutcome r s Q
turns_so x s y z f h = grind (arith, common_steps)

-- equal steps
pub turns_by : (o : Option Files) (r : Result LineOutcome ExpandFault) (new : Preprocessor) (x y : Files → ExpansionStep) → ((m : Files) → x m ≡ y m) → IfSome o (λ m. RefinesLineOutcome r (state_of m new) (StepReaches m (x m))) → IfSome o (λ m. RefinesLineOutcome r (state_of m new) (StepReaches m (y m)))
turns_by None r new x y e h = tt
turns_by (Some m) r new x y e h = subst (λ z. RefinesLineOutcome r (state_of m new) (StepReaches m z)) (e m) h

pub where_known : (o : Option Files) (P Q : Files → Type 0) → ((m : Files) → P m → Q m) → IfSome o P → IfSome o Q
where_known x y z f h = grind (arith, common_steps)

pub where_so : (o : Option Files) (Q : Files → Type 0) → ((m : Files) → Q m) → IfSome o Q
where_so x y f = grind (arith, common_steps)

-- ---- A line without a directive.

pub no_call : (m : Files) (r : Preprocessor) (t : Lexeme) (ts : List Lexeme) → macro_at (macros_of r) t ≡ None → yields (plain (t ∷ ts)) (state_of m r) ≡ plain_line_result (state_of m r) (t ∷ ts)
no_call m r t ts h = grind (arith, common_steps)

-- ---- A line that may begin with a label.

pub unlabelled : (k : EnvironmentView) (s : State) (ts : List Lexeme) → label_len ts ≡ 0 → unless_mislabelled k s ts (is_mislabelled ts) ≡ line_step k s ts (first_directive ts)
unlabelled k s ts e = grind (arith, common_steps)

-- ---- The first line of the remaining input.

abbrev pub BeginsPlain : List Item → Type 0
BeginsPlain (label_rest ts ∷ is) = ⊥
BeginsPlain (elseif_rest ts ∷ is) = ⊥
BeginsPlain _ = Unit {0}

begins_plain : (is js : List Item) → AreLines is → BeginsPlain js → BeginsPlain (is ++ js)
begins_plain [] js h k = k
begins_plain (file_line n b ∷ is) js h k = tt
begins_plain (body_line e ts ∷ is) js h k = tt
begins_plain (label_rest ts ∷ is) js h k = absurd h
begins_plain (elseif_rest ts ∷ is) js h k = absurd h
begins_plain (end_mark x ∷ is) js h k = absurd h

pub begins_at_line : (m : Files) (r : Preprocessor) → BeginsPlain (remaining_of m r.stack).items
begins_at_line m r = grind (arith, common_steps, own_split, begins_plain, lines_left)

takes_first : (k : EnvironmentView) (s : State) (is : List Item) → BeginsPlain is → step_from k s is ≡ reads_line s.left (step_after k s)
takes_first k s [] b = refl
takes_first k s (file_line n bytes ∷ is) b = refl
takes_first k s (body_line e ts ∷ is) b = refl
takes_first k s (label_rest ts ∷ is) b = absurd b
takes_first k s (elseif_rest ts ∷ is) b = absurd b
takes_first k s (end_mark x ∷ is) b = refl

-- in the state of a preprocessor, the next item is a line or an end mark
pub first_taken : (m : Files) (k : EnvironmentView) (r : Preprocessor) → step_from k (state_of m r) (remaining_of m r.stack).items ≡ reads_line (remaining_of m r.stack) (step_after k (state_of m r))
first_taken m k r = takes_first k (state_of m r) (remaining_of m r.stack).items (begins_at_line m r)

-- the step of a state whose next item is a line or an end mark
pub step_taken : (m : Files) (k : EnvironmentView) (r : Preprocessor) (t : LineAndRest) (x : StepResult) → ReadsNextLine (remaining_of m r.stack) t → StepReaches m (step_after k (state_of m r) t) x → IsStep m k (state_of m r) x
unfolding IsStep
step_taken m k r t x h b = subst (λ z. StepReaches m z x) (sym (first_taken m k r)) (t, h, b)

-- a line that begins with a directive
pub acted_by : (k : EnvironmentView) (s : State) (ts us : List Lexeme) (d : Directive) → first_directive ts ≡ Some d → us ≡ drop 1 ts → directive_step k s d us ≡ line_step k s ts (first_directive ts)
acted_by k s ts us d e u = rw (u, e) refl

pub refused_step : (m : Files) (k : EnvironmentView) (r : Preprocessor) (f : ExpandFault) (p : SourceLocation) → Unless (is_system_error f) (ReadsNextLine (remaining_of m r.stack) (Err (f, p))) → Unless (is_system_error f) (IsStep m k (state_of m r) (raises (f, p)))
refused_step m k r f p h = by (is_system_error f) h
  where
    by : (b : Bool) → Unless b (ReadsNextLine (remaining_of m r.stack) (Err (f, p))) → Unless b (IsStep m k (state_of m r) (raises (f, p)))
    by true h = tt
    by false h = step_taken m k r (Err (f, p)) (raises (f, p)) h refl

pub where_both : (o : Option Files) (P Q R : Files → Type 0) → ((m : Files) → P m → Q m → R m) → IfSome o P → IfSome o Q → IfSome o R
where_both x y z u f h k = grind (arith, common_steps)

-- `.include` searches the file that its string names
pub include_is : (s : State) (ts : List Lexeme) (name : List ℕ) → string_of ts ≡ Some name → include_file s name ≡ and_then_step s (ok_or_not_understood (string_of ts)) (include_file s)
include_is s ts name e = rw e refl

-- a file that was found is included
pub include_found : (m : Files) (s : State) (name beside file : List ℕ) (folders : List (List ℕ)) (x : StepResult) → beside ≡ s.left.place.file → folders ≡ s.folders → first_file m (candidate_names beside folders name) ≡ Ok (file_of m file) → x ≡ file_step s (file_of m file) → StepReaches m (include_file s name) x
include_found m s name beside file folders x b f h e = grind (arith, common_steps)

-- ---- The step by the pending line.

pub step_rest : (m : Files) (k : EnvironmentView) (e : Expander) (line : StoredLine) (x : StepResult) → e.pending ≡ Rest line → StepReaches m (line_step k (state_of m e.processor) (tokens_in line) (first_directive (tokens_in line))) x → IsStep m k (state_in m e) x
unfolding IsStep
step_rest m k e line x h s = let P : PendingLine → Type 0 = λ f. IsStep m k (with_pending f (state_of m e.processor)) x in subst P (sym h) s

pub step_branch : (m : Files) (k : EnvironmentView) (e : Expander) (line : StoredLine) (x : StepResult) → e.pending ≡ Branch line → StepReaches m (if_line k (state_of m e.processor) True (tokens_in line)) x → IsStep m k (state_in m e) x
unfolding IsStep
step_branch m k e line x h s = let P : PendingLine → Type 0 = λ f. IsStep m k (with_pending f (state_of m e.processor)) x in subst P (sym h) s

step_end : (m : Files) (k : EnvironmentView) (f : PendingLine) (s : State) → is_end f ≡ true → IsStep m k (with_pending f s) (ends (with_pending f s))
unfolding IsStep
step_end m k Nothing s h = absurd (cc)
step_end m k (Rest line) s h = absurd (cc)
step_end m k (Branch line) s h = absurd (cc)
step_end m k End s h = (Ok (None, (with_pending End s).left), refl, refl)

-- ---- From a state to its next statement, end or error.

-- all that expander `e` reaches is reached from `i`
abbrev pub ReachesAll : EnvironmentView → Expander → Expander → Files → Type 0
ReachesAll k i e m = (n : Next) → ReachesNext m k (state_in m e) n → ReachesNext m k (state_in m i) n

pub none_led : (o : Option Files) (k : EnvironmentView) (e : Expander) → IfSome o (ReachesAll k e e)
none_led x k e = grind (arith, common_steps)

pub goes_on : (o : Option Files) (k : EnvironmentView) (i e mid new : Expander) (t : LineOutcome) → IfSome o (ReachesAll k i e) → IfSome o (λ m. IsStep m k (state_in m e) (outcome_of_line (state_of m mid.processor) t)) → ((m : Files) → outcome_of_line (state_of m mid.processor) t ≡ step_of (state_in m new) None) → IfSome o (ReachesAll k i new)
goes_on None k i e mid new t h s f = tt
goes_on (Some m) k i e mid new t h s f = λ n r. h n (further (state_in m e) (state_in m new) n (subst (IsStep m k (state_in m e)) (f m) s) r)

pub gave : (o : Option Files) (k : EnvironmentView) (i e mid new : Expander) (t : LineOutcome) (x : Statement) → IfSome o (ReachesAll k i e) → IfSome o (λ m. IsStep m k (state_in m e) (outcome_of_line (state_of m mid.processor) t)) → ((m : Files) → outcome_of_line (state_of m mid.processor) t ≡ step_of (state_in m new) (Some x)) → IfSome o (λ m. RefinesNext m k (state_in m i) (Ok (Some x)) (state_in m new))
gave None k i e mid new t x h s f = tt
gave (Some m) k i e mid new t x h s f = h (statement (statement_of x) (state_in m new)) (yielded (state_in m e) (state_in m new) (statement_of x) (subst (IsStep m k (state_in m e)) (f m) s))

pub came_to_end : (o : Option Files) (k : EnvironmentView) (i e : Expander) → IfSome o (ReachesAll k i e) → is_end e.pending ≡ true → IfSome o (λ m. RefinesNext m k (state_in m i) (Ok None) (state_in m e))
came_to_end None k i e h b = tt
came_to_end (Some m) k i e h b = h (nothing (state_in m e)) (ended (state_in m e) (state_in m e) (step_end m k e.pending (state_of m e.processor) b))

pub came_to_fault : (o : Option Files) (k : EnvironmentView) (i e new : Expander) (f : ExpandFault) → IfSome o (ReachesAll k i e) → IfSome o (λ m. Unless (is_system_error f) (IsStep m k (state_in m e) (raises (f, location_of new)))) → IfSome o (λ m. RefinesNext m k (state_in m i) (Err f) (state_in m new))
came_to_fault None k i e new f h s = tt
came_to_fault (Some m) k i e new f h s = by (is_system_error f) s
  where
    by : (b : Bool) → Unless b (IsStep m k (state_in m e) (raises (f, location_of new))) → Unless b (ReachesNext m k (state_in m i) (fault (f, location_of new)))
    by true s = tt
    by false s = h (fault (f, location_of new)) (stopped (state_in m e) (f, location_of new) s)
