-- The location of expansion after a store failure.
use Rattle.std.proofs.lemmas.Grind.{common_steps}
use Rattle.std.proofs.Common.{arith, ◌≡◌, ℕ, List, [], ◌∷◌, ◌++◌, Bool, true, false, Option, Some, None, IfSome, Ok, Err, ap, refl, sym, subst, ◌∙◌, inl, inr, Result}
use Rattle.std.specs.Prelude.{if◌then◌else◌}
use Rattle.base65.specs.Outcome.{Unless}
use Rattle.base65.specs.Store.{Files, LastFailure}
use Rattle.syntax65.specs.Tokens.{Lexeme}
use Rattle.std.specs.Option.{option_map_or}
use Rattle.expand65.specs.Blocks.{Block, CompleteBlock}
use Rattle.expand65.specs.declared.blocks.BlockKind.TheVariants.{RemainingBranches}
use Rattle.expand65.specs.State.{else_line, if_line, without_last_condition, ExpansionStep, reads_line, StepResult, continues, raises, with_conditions, with_items, State, with_remaining, EnvironmentView}
use Rattle.syntax65.specs.Faults.{is_system_error, is_failure}
use Rattle.expand65.specs.LineStart.{ok_or_not_understood, first_directive, is_mislabelled}
use Rattle.expand65.specs.Representation.{is_call, remaining_in, remaining_of, end_mark_of, outer_items, input_items, FailsAtLine, FailsInBlock, HasFailureLocation, state_of, outcome_of_line, with_pending, step_of, state_in}
use Rattle.expand65.specs.Lines.{with_local_names, Item, InputEnd, end_mark, innermost, ReadsNextLine}
use Rattle.expand65.specs.Macros.{local_line, local_result, new_names}
use Rattle.expand65.specs.Expansion.{StepReaches, line_step, unless_mislabelled, last_condition, step_after, IsStep}
use Rattle.syntax65.specs.declared.fault.ExpandFault.{ExpandFault}
use Rattle.syntax65.specs.declared.fault.ExpandFault.TheVariants.{NotOpened, NotUnderstood, FileError}
use Rattle.expand65.specs.declared.input.LineSource.{LineSource}
use Rattle.syntax65.specs.declared.source_location.SourceLocation.{SourceLocation}
use Rattle.expand65.specs.declared.input_stack.Input.{Input}
use Rattle.expand65.specs.declared.input_stack.InputStack.{InputStack}
use Rattle.expand65.specs.declared.preprocessor.Preprocessor.{Preprocessor}
use Rattle.expand65.proofs.Inputs.{innermost_is, own_split}
use Rattle.expand65.specs.Replay.{tokens_in}
use Rattle.expand65.specs.declared.line_start.ConditionKind.TheVariants.{True}
use Rattle.expand65.specs.declared.line.StoredLine.{StoredLine}
use Rattle.expand65.specs.Failures.{StepFails, StepFailsAt, SilentSteps, FailsWhileReading, HasFailureWhileReading, no_step, one_more}
use Rattle.expand65.specs.declared.expander.Expander.{Expander}
use Rattle.expand65.specs.declared.expander.PendingLine.{PendingLine}
use Rattle.expand65.specs.declared.expander.PendingLine.TheVariants.{Nothing, Rest, Branch}
use Rattle.expand65.specs.declared.preprocessor.LineOutcome.{LineOutcome}
use Rattle.expand65.proofs.StepSequences.{first_taken}

-- ---- The last open condition, and the innermost end mark, of a preprocessor.

-- an input with another source of lines
abbrev pub with_source : Input → LineSource → Input
with_source i src = record { source = src; conditions = i.conditions; return_location = i.return_location }

abbrev mark_by : Bool → Input → InputEnd
mark_by b i = record { is_macro = b; conditions = i.conditions; return_location = i.return_location }

-- the last open condition, by the number of conditions that were open at the beginning of the innermost input
pub last_is : (m : Files) (r : Preprocessor) → last_condition (state_of m r) ≡ without_last_condition r.conditions r.stack.top.conditions
last_is m r = ap (λ (k : Option InputEnd). without_last_condition r.conditions (option_map_or (λ x. x.conditions) k 0)) (innermost_is m r.stack)

-- ---- An `.elseif` or `.else` after a true condition.

abbrev ElseIn : Files → Preprocessor → StepResult → Type 0
ElseIn m old r = StepReaches m (else_line (state_of m old) (last_condition (state_of m old))) r

else_is : (m : Files) (old : Preprocessor) (o : Option (Bool × List Bool)) → without_last_condition old.conditions old.stack.top.conditions ≡ o → else_line (state_of m old) o ≡ else_line (state_of m old) (last_condition (state_of m old))
else_is m old o e = ap (else_line (state_of m old)) (sym (last_is m old ∙ e))

else_by : (m : Files) (old : Preprocessor) (o : Option (Bool × List Bool)) (r : StepResult) → without_last_condition old.conditions old.stack.top.conditions ≡ o → StepReaches m (else_line (state_of m old) o) r → ElseIn m old r
else_by m old o r e h = subst (λ z. StepReaches m z r) (else_is m old o e) h

pub else_passed : (o : Option Files) (old : Preprocessor) (rd : InputStack) (cs : List Bool) (b : CompleteBlock) → without_last_condition old.conditions old.stack.top.conditions ≡ Some (false, cs) → IfSome o (λ m. Block RemainingBranches 0 [] (remaining_of m old.stack) (Ok (b, remaining_of m rd))) → IfSome o (λ m. ElseIn m old (continues (with_conditions (state_of m old) cs (remaining_of m rd))))
else_passed x old rd cs b e h = grind (arith, common_steps, else_by)

pub else_refused : (o : Option Files) (old : Preprocessor) (p : SourceLocation) (cs : List Bool) (f : ExpandFault) → without_last_condition old.conditions old.stack.top.conditions ≡ Some (false, cs) → IfSome o (λ m. Unless (is_system_error f) (Block RemainingBranches 0 [] (remaining_of m old.stack) (Err (f, p)))) → IfSome o (λ m. Unless (is_system_error f) (ElseIn m old (raises (f, p))))
else_refused x old p cs f e h = grind (arith, common_steps, else_by)

pub else_none : (o : Option Files) (old : Preprocessor) → without_last_condition old.conditions old.stack.top.conditions ≡ None → IfSome o (λ m. ElseIn m old (raises (NotOpened, old.stack.location)))
else_none x old e = grind (arith, common_steps, else_by)

pub else_twice : (o : Option Files) (old : Preprocessor) (bs : List Bool) → without_last_condition old.conditions old.stack.top.conditions ≡ Some (true, bs) → IfSome o (λ m. ElseIn m old (raises (NotOpened, old.stack.location)))
else_twice x old bs e = grind (arith, common_steps, else_by)

-- ---- `.local`.

local_in : (m : Files) (r : Preprocessor) (ts : List Lexeme) (b : Bool) → is_call r.stack.top.source ≡ b → local_line (state_of m r) ts ≡ (if b then local_result (state_of m r) (new_names ts) else raises (NotUnderstood, r.stack.location))
local_in m r ts b e = grind (arith, common_steps, innermost_is)

pub no_macro : (m : Files) (r : Preprocessor) (ts : List Lexeme) → is_call r.stack.top.source ≡ false → raises (NotUnderstood, r.stack.location) ≡ local_line (state_of m r) ts
no_macro m r ts e = sym (local_in m r ts false e)

pub bad_names : (m : Files) (r : Preprocessor) (ts : List Lexeme) (f : ExpandFault) → is_call r.stack.top.source ≡ true → Unless (is_system_error f) (ok_or_not_understood (new_names ts) ≡ Err f) → Unless (is_system_error f) (raises (f, r.stack.location) ≡ local_line (state_of m r) ts)
bad_names m r ts f e h = grind (arith, common_steps)

pub names_added : (m : Files) (r : Preprocessor) (src : LineSource) (ts : List Lexeme) (names : List (List ℕ)) → is_call r.stack.top.source ≡ true → ok_or_not_understood (new_names ts) ≡ Ok names → is_call src ≡ is_call r.stack.top.source → ((k : InputEnd) (is : List Item) → remaining_in m src ++ end_mark k ∷ is ≡ with_local_names names (remaining_in m r.stack.top.source ++ end_mark k ∷ is)) → continues (with_items (state_of m r) (input_items m (with_source r.stack.top src) ++ outer_items m r.stack.outer.items)) ≡ local_line (state_of m r) ts
names_added m r src ts names c h i a =
    let s = state_of m r in
    let js = outer_items m r.stack.outer.items in
    let k = end_mark_of r.stack.top in
    let mark_same : end_mark_of (with_source r.stack.top src) ≡ k = ap (λ (b : Bool). mark_by b r.stack.top) i in
    let items : input_items m (with_source r.stack.top src) ++ js ≡ with_local_names names (remaining_of m r.stack).items =
    own_split m (with_source r.stack.top src) js ∙ ap (λ x. remaining_in m src ++ end_mark x ∷ js) mark_same ∙ a k js ∙ ap (with_local_names names) (sym (own_split m r.stack.top js)) in
    ap (λ is. continues (with_items s is)) items ∙ some (new_names ts) h ∙ sym (local_in m r ts true c)
  where
    some : (o : Option (List (List ℕ))) → ok_or_not_understood o ≡ Ok names → continues (with_items (state_of m r) (with_local_names names (remaining_of m r.stack).items)) ≡ local_result (state_of m r) o
    some None h = absurd (cc)
    some (Some ns) h = let same : names ≡ ns = cc in ap (λ (x : List (List ℕ)). continues (with_items (state_of m r) (with_local_names x (remaining_of m r.stack).items))) same

-- ---- Failures of the input stack.

pub stops_so : {A : Type 0} (o : Option Files) (P Q : Files → SourceLocation → Type 0) (old new : InputStack) (r : Result A ExpandFault) → ((m : Files) (p : SourceLocation) → P m p → Q m p) → IfSome o (λ m. HasFailureLocation (P m) old new r) → IfSome o (λ m. HasFailureLocation (Q m) old new r)
stops_so x y z old new r f h = grind (arith, common_steps)

-- no input was read
pub stood : (A : Type 0) (o : Option Files) (P : Files → SourceLocation → Type 0) (reader : InputStack) (f : ExpandFault) → ((m : Files) → is_failure f ≡ true → P m reader.location) → IfSome o (λ m. HasFailureLocation {A = A} (P m) reader reader (Err f))
stood x y z reader f h = grind (arith, common_steps)

pub stood_inside : (A : Type 0) (o : Option Files) (P : Files → SourceLocation → Type 0) (reader : InputStack) (f : ExpandFault) → is_failure f ≡ false → IfSome o (λ m. HasFailureLocation {A = A} (P m) reader reader (Err f))
stood_inside A o P reader f inside = stood A o P reader f (λ m failed. cc)

pub only_error : (f : ExpandFault) → is_failure f ≡ true → f ≡ FileError
only_error x h = grind (arith, common_steps)

-- equal steps fail at the same locations
pub stops_by : {A : Type 0} (o : Option Files) (last_failure : LastFailure) (x y : Files → ExpansionStep) (old new : InputStack) (r : Result A ExpandFault) → ((m : Files) → x m ≡ y m) → IfSome o (λ m. HasFailureLocation (StepFails m last_failure (x m)) old new r) → IfSome o (λ m. HasFailureLocation (StepFails m last_failure (y m)) old new r)
stops_by None last_failure x y old new r e h = tt
stops_by (Some m) last_failure x y old new r e h = subst (λ z. HasFailureLocation (StepFails m last_failure z) old new r) (e m) h

-- a failure while a line is read, or after it
fails_taken : (last_failure : LastFailure) (m : Files) (k : EnvironmentView) (r : Preprocessor) (p : SourceLocation) → StepFails m last_failure (reads_line (remaining_of m r.stack) (step_after k (state_of m r))) p → StepFailsAt m last_failure k (state_of m r) p
unfolding StepFailsAt
fails_taken last_failure m k r p h = subst (λ z. StepFails m last_failure z p) (sym (first_taken m k r)) h

pub stops_taking : {A : Type 0} (o : Option Files) (last_failure : LastFailure) (k : EnvironmentView) (old : Preprocessor) (new : InputStack) (r : Result A ExpandFault) → IfSome o (λ m. HasFailureLocation (FailsAtLine m last_failure (remaining_of m old.stack)) old.stack new r) → IfSome o (λ m. HasFailureLocation (StepFailsAt m last_failure k (state_of m old)) old.stack new r)
stops_taking o last_failure k old new r h = stops_so o (λ m. FailsAtLine m last_failure (remaining_of m old.stack)) (λ m. StepFailsAt m last_failure k (state_of m old)) old.stack new r (λ m p f. fails_taken last_failure m k old p (inl f)) h

-- a failure after a line
pub stops_after : {A : Type 0} (o : Option Files) (last_failure : LastFailure) (k : EnvironmentView) (old mid : Preprocessor) (new : InputStack) (ts : List Lexeme) (r : Result A ExpandFault) → IfSome o (λ m. ReadsNextLine (remaining_of m old.stack) (Ok (Some ts, remaining_of m mid.stack))) → ((m : Files) → state_of m mid ≡ with_remaining (state_of m old) (remaining_of m mid.stack)) → end_mark_of mid.stack.top ≡ end_mark_of old.stack.top → IfSome o (λ m. HasFailureLocation (StepFails m last_failure (unless_mislabelled k (state_of m mid) ts (is_mislabelled ts))) mid.stack new r) → IfSome o (λ m. HasFailureLocation (StepFailsAt m last_failure k (state_of m old)) old.stack new r)
stops_after None last_failure k old mid new ts r t e same h = tt
stops_after (Some m) last_failure k old mid new ts (Ok x) t e same h = tt
stops_after (Some m) last_failure k old mid new ts (Err f) t e same h = λ failed.
    let so = h failed in
    let following = subst (λ s. StepFails m last_failure (unless_mislabelled k s ts (is_mislabelled ts)) new.location) (e m) so.is_location in
    record { is_location = fails_taken last_failure m k old new.location (inr (Ok (Some ts, remaining_of m mid.stack), t, following)); mark = so.mark ∙ same }

-- ---- Failures in one line.

-- after a true condition, `.elseif` and `.else` skip the remaining branches
pub stops_at_else : {A : Type 0} (o : Option Files) (last_failure : LastFailure) (old : Preprocessor) (new : InputStack) (cs : List Bool) (r : Result A ExpandFault) → without_last_condition old.conditions old.stack.top.conditions ≡ Some (false, cs) → IfSome o (λ m. HasFailureLocation (FailsInBlock m last_failure RemainingBranches 0 (remaining_of m old.stack)) old.stack new r) → IfSome o (λ m. HasFailureLocation (StepFails m last_failure (else_line (state_of m old) (last_condition (state_of m old)))) old.stack new r)
stops_at_else o last_failure old new cs r e h = stops_by o last_failure (λ m. else_line (state_of m old) (Some (false, cs))) (λ m. else_line (state_of m old) (last_condition (state_of m old))) old.stack new r (λ m. else_is m old (Some (false, cs)) e) h

-- ---- Failures in one step, by the pending line.

fails_rest : (last_failure : LastFailure) (m : Files) (k : EnvironmentView) (r : Preprocessor) (line : StoredLine) (p : SourceLocation) → StepFails m last_failure (line_step k (state_of m r) (tokens_in line) (first_directive (tokens_in line))) p → StepFailsAt m last_failure k (with_pending (Rest line) (state_of m r)) p
unfolding StepFailsAt
fails_rest last_failure m k r line p h = h

fails_branch : (last_failure : LastFailure) (m : Files) (k : EnvironmentView) (r : Preprocessor) (line : StoredLine) (p : SourceLocation) → StepFails m last_failure (if_line k (state_of m r) True (tokens_in line)) p → StepFailsAt m last_failure k (with_pending (Branch line) (state_of m r)) p
unfolding StepFailsAt
fails_branch last_failure m k r line p h = h

stops_in : {A : Type 0} (o : Option Files) (last_failure : LastFailure) (k : EnvironmentView) (old : Expander) (new : InputStack) (r : Result A ExpandFault) (pending : PendingLine) (P : Files → SourceLocation → Type 0) → old.pending ≡ pending → ((m : Files) → innermost (with_pending pending (state_of m old.processor)).left.items ≡ innermost (remaining_of m old.processor.stack).items) → ((m : Files) (p : SourceLocation) → P m p → StepFailsAt m last_failure k (with_pending pending (state_of m old.processor)) p) → IfSome o (λ m. HasFailureLocation (P m) old.processor.stack new r) → IfSome o (λ m. HasFailureWhileReading m last_failure k (state_in m old) r (end_mark_of new.top) new.location)
stops_in None last_failure k old new r pending P is same f h = tt
stops_in (Some m) last_failure k old new (Ok x) pending P is same f h = tt
stops_in (Some m) last_failure k old new (Err e) pending P is same f h = λ failed.
    let so = h failed in
    let s = with_pending pending (state_of m old.processor) in
    let Q : PendingLine → Type 0 = λ b. FailsWhileReading m last_failure k (with_pending b (state_of m old.processor)) (end_mark_of new.top) new.location in
    subst Q (sym is) (record {
      state = s;
      goes = no_step s;
      fails = f m new.location so.is_location;
      within = same m ∙ innermost_is m old.processor.stack ∙ ap Some (sym so.mark);
    })

pub stops_plain : {A : Type 0} (o : Option Files) (last_failure : LastFailure) (k : EnvironmentView) (old : Expander) (new : InputStack) (r : Result A ExpandFault) → old.pending ≡ Nothing → IfSome o (λ m. HasFailureLocation (StepFailsAt m last_failure k (state_of m old.processor)) old.processor.stack new r) → IfSome o (λ m. HasFailureWhileReading m last_failure k (state_in m old) r (end_mark_of new.top) new.location)
stops_plain o last_failure k old new r is h = stops_in o last_failure k old new r Nothing (λ m. StepFailsAt m last_failure k (state_of m old.processor)) is (λ m. refl) (λ m p f. f) h

pub stops_rest : {A : Type 0} (o : Option Files) (last_failure : LastFailure) (k : EnvironmentView) (old : Expander) (new : InputStack) (line : StoredLine) (r : Result A ExpandFault) → old.pending ≡ Rest line → IfSome o (λ m. HasFailureLocation (StepFails m last_failure (line_step k (state_of m old.processor) (tokens_in line) (first_directive (tokens_in line)))) old.processor.stack new r) → IfSome o (λ m. HasFailureWhileReading m last_failure k (state_in m old) r (end_mark_of new.top) new.location)
stops_rest o last_failure k old new line r is h = stops_in o last_failure k old new r (Rest line) (λ m. StepFails m last_failure (line_step k (state_of m old.processor) (tokens_in line) (first_directive (tokens_in line)))) is (λ m. refl) (λ m p. fails_rest last_failure m k old.processor line p) h

pub stops_branch : {A : Type 0} (o : Option Files) (last_failure : LastFailure) (k : EnvironmentView) (old : Expander) (new : InputStack) (line : StoredLine) (r : Result A ExpandFault) → old.pending ≡ Branch line → IfSome o (λ m. HasFailureLocation (StepFails m last_failure (if_line k (state_of m old.processor) True (tokens_in line))) old.processor.stack new r) → IfSome o (λ m. HasFailureWhileReading m last_failure k (state_in m old) r (end_mark_of new.top) new.location)
stops_branch o last_failure k old new line r is h = stops_in o last_failure k old new r (Branch line) (λ m. StepFails m last_failure (if_line k (state_of m old.processor) True (tokens_in line))) is (λ m. refl) (λ m p. fails_branch last_failure m k old.processor line p) h

-- ---- Failures in a sequence of steps.

abbrev pub HasGone : EnvironmentView → Expander → Expander → Files → Type 0
HasGone k i e m = SilentSteps m k (state_in m i) (state_in m e)

pub none_gone : (o : Option Files) (k : EnvironmentView) (e : Expander) → IfSome o (HasGone k e e)
none_gone None k e = tt
none_gone (Some m) k e = no_step (state_in m e)

pub gone_on : (o : Option Files) (k : EnvironmentView) (i e mid new : Expander) (t : LineOutcome) → IfSome o (HasGone k i e) → IfSome o (λ m. IsStep m k (state_in m e) (outcome_of_line (state_of m mid.processor) t)) → ((m : Files) → outcome_of_line (state_of m mid.processor) t ≡ step_of (state_in m new) None) → IfSome o (HasGone k i new)
gone_on None k i e mid new t h s f = tt
gone_on (Some m) k i e mid new t h s f = one_more (state_in m i) (state_in m e) (state_in m new) h (subst (IsStep m k (state_in m e)) (f m) s)

pub goes_over : (m : Files) (k : EnvironmentView) (s t u : State) → SilentSteps m k s t → SilentSteps m k t u → SilentSteps m k s u
goes_over m k s _ _ g (no_step t) = g
goes_over m k s t _ g (one_more _ v u h step) = one_more s v u (goes_over m k s t v g h) step

pub stops_later : {A : Type 0} (B : Type 0) (o : Option Files) (last_failure : LastFailure) (k : EnvironmentView) (i e : Expander) (end_mark : InputEnd) (location : SourceLocation) (r : Result A ExpandFault) (f : ExpandFault) → r ≡ Err f → IfSome o (HasGone k i e) → IfSome o (λ m. HasFailureWhileReading {A = B} m last_failure k (state_in m e) (Err f) end_mark location) → IfSome o (λ m. HasFailureWhileReading m last_failure k (state_in m i) r end_mark location)
stops_later x y last_failure k i e there location r f is h s = grind (arith, common_steps, goes_over)
