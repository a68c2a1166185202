use Rattle.std.proofs.lemmas.Grind.{common_steps}
use Rattle.std.proofs.Common.{◌≡◌, [], Option, None, Some, IfSome, Ok, Err, refl, subst, arith}
use Rattle.std.specs.Option.{option_map}
use Rattle.std.specs.Prelude.{IfNone}
use Rattle.std.proofs.lemmas.Result.{err_from_is_err_and}
use Rattle.base65.specs.Outcome.{Unless}
use Rattle.syntax65.specs.Faults.{is_system_error}
use Rattle.expand65.specs.Representation.{remaining_in, remaining_of, HasFailureLocation, RefinesLineOutcome, state_of}
use Rattle.expand65.specs.LineStart.{is_mislabelled}
use Rattle.expand65.specs.Replay.{tokens_in}
use Rattle.expand65.specs.Failures.{StepFails}
use Rattle.expand65.specs.Expansion.{StepReaches, unless_mislabelled, IsStep, end_mark_step}
use Rattle.expand65.specs.State.{raises}
use Rattle.expand65.specs.Lines.{ReadsNextLine}
use Rattle.expand65.specs.declared.line.StoredLine.{StoredLine}
use Rattle.expand65.specs.declared.preprocessor.Preprocessor.{Preprocessor}
use Rattle.expand65.specs.declared.preprocessor.LineOutcome.{LineOutcome}
use Rattle.expand65.proofs.StepSequences.{refused_step, step_taken, turns_so, where_both, where_known}
use Rattle.expand65.proofs.Lines.{moved_to}
use Rattle.expand65.proofs.FilePositions.{stands_on_ok, stands_where}
use Rattle.expand65.proofs.ExpansionFailures.{stops_after, stops_taking}
use Rattle.expand65.proofs.preprocessor.Preprocessor.execute_next.Goals as goal

pub returns-in_err-next_line-clause-stopped : goal.returns-in_err-next_line-clause-stopped
returns-in_err-next_line-clause-stopped g c = λ names.
    (let p = err_from_is_err_and c.from_residual.result c.from_residual.ensures.1 in
    rw (p.1, p.2) (stops_taking {A = LineOutcome} (g.S.Store.files c.args.store.now) (g.S.Store.last_failure c.next_line.new.store) (g.K.Knows.meaning c.args.knows.now) c.args.self.now c.next_line.new.self (Err c.in_err-next_line.field-0.0) (c.in_err-next_line.ensures.stopped names)))

pub returns-in_err-next_line-clause-outcome : goal.returns-in_err-next_line-clause-outcome
returns-in_err-next_line-clause-outcome g c =
    let p = err_from_is_err_and c.from_residual.result c.from_residual.ensures.1 in
    let old = c.args.self.now in
    let k = g.K.Knows.meaning c.args.knows.now in
    let f = c.in_err-next_line.field-0.0 in
    let location = c.next_line.new.self.location in
    rw (p.1, p.2) (where_known (g.S.Store.files c.args.store.now) (λ m. Unless (is_system_error f) (ReadsNextLine (remaining_of m old.stack) (Err (f, location)))) (λ m. Unless (is_system_error f) (IsStep m k (state_of m old) (raises (f, location)))) (λ m h. refused_step m k old f location h) c.in_err-next_line.ensures.read)

pub returns-in-None-clause-outcome : goal.returns-in-None-clause-outcome
returns-in-None-clause-outcome g c =
    let old = c.args.self.now in
    let new = c.next_line.new.self in
    let o = g.S.Store.files c.args.store.now in
    let k = g.K.Knows.meaning c.args.knows.now in
    let mid : Preprocessor = record { alloc = old.alloc; stack = new; macros = old.macros; conditions = old.conditions; expansions = old.expansions; folders = old.folders } in
    let r = c.end_input.result in
    let end = c.end_input.new.self in
    let P : Option StoredLine → Type 0 = λ l. IfSome o (λ m. ReadsNextLine (remaining_of m old.stack) (Ok (option_map tokens_in l, remaining_of m new))) in
    let Q : Option StoredLine → Type 0 = λ l. IfSome o (λ m. IfNone l (remaining_in m new.top.source ≡ [])) in
    let taken = subst P c.in-None.is c.in_ok-next_line.ensures.read in
    let spent = subst Q c.in-None.is c.in_ok-next_line.ensures.at_end in
    where_both o (λ m. ReadsNextLine (remaining_of m old.stack) (Ok (None, remaining_of m new))) (λ m. remaining_in m new.top.source ≡ []) (λ m. RefinesLineOutcome r (state_of m end) (IsStep m k (state_of m old))) (λ m h e. turns_so r (state_of m end) (λ x. x ≡ end_mark_step (state_of m mid) (remaining_of m new).items) (IsStep m k (state_of m old)) (λ x y. step_taken m k old (Ok (None, remaining_of m new)) x h y) (c.end_input.ensures.outcome m e)) taken spent

pub returns-in-Some-clause-outcome : goal.returns-in-Some-clause-outcome
returns-in-Some-clause-outcome g c =
    let old = c.args.self.now in
    let new = c.next_line.new.self in
    let o = g.S.Store.files c.args.store.now in
    let k = g.K.Knows.meaning c.args.knows.now in
    let mid : Preprocessor = record { alloc = old.alloc; stack = new; macros = old.macros; conditions = old.conditions; expansions = old.expansions; folders = old.folders } in
    let ts = tokens_in c.in-Some.line in
    let r = c.execute_labelled_line.result in
    let end = c.execute_labelled_line.new.self in
    let P : Option StoredLine → Type 0 = λ l. IfSome o (λ m. ReadsNextLine (remaining_of m old.stack) (Ok (option_map tokens_in l, remaining_of m new))) in
    let taken = subst P c.in-Some.is c.in_ok-next_line.ensures.read in
    let from = moved_to (λ m. RefinesLineOutcome r (state_of m end) (StepReaches m (unless_mislabelled k (state_of m mid) ts (is_mislabelled ts)))) o (g.S.Store.files c.next_line.new.store) c.in_ok-next_line.ensures.frame.files c.execute_labelled_line.ensures.outcome in
    where_both o (λ m. ReadsNextLine (remaining_of m old.stack) (Ok (Some ts, remaining_of m new))) (λ m. RefinesLineOutcome r (state_of m end) (StepReaches m (unless_mislabelled k (state_of m mid) ts (is_mislabelled ts)))) (λ m. RefinesLineOutcome r (state_of m end) (IsStep m k (state_of m old))) (λ m h e. turns_so r (state_of m end) (StepReaches m (unless_mislabelled k (state_of m mid) ts (is_mislabelled ts))) (IsStep m k (state_of m old)) (λ x y. step_taken m k old (Ok (Some ts, remaining_of m new)) x h y) e) taken from

pub returns-in-Some-clause-stopped : goal.returns-in-Some-clause-stopped
returns-in-Some-clause-stopped g c = λ names.
    (let old = c.args.self.now in
    let new = c.next_line.new.self in
    let o = g.S.Store.files c.args.store.now in
    let k = g.K.Knows.meaning c.args.knows.now in
    let mid : Preprocessor = record { alloc = old.alloc; stack = new; macros = old.macros; conditions = old.conditions; expansions = old.expansions; folders = old.folders } in
    let ts = tokens_in c.in-Some.line in
    let r = c.execute_labelled_line.result in
    let end = c.execute_labelled_line.new.self in
    let P : Option StoredLine → Type 0 = λ l. IfSome o (λ m. ReadsNextLine (remaining_of m old.stack) (Ok (option_map tokens_in l, remaining_of m new))) in
    let last_failure = g.S.Store.last_failure c.execute_labelled_line.new.store in
    let taken = subst P c.in-Some.is c.in_ok-next_line.ensures.read in
    let stopped = moved_to (λ m. HasFailureLocation (StepFails m last_failure (unless_mislabelled k (state_of m mid) ts (is_mislabelled ts))) new end.stack r) o (g.S.Store.files c.next_line.new.store) c.in_ok-next_line.ensures.frame.files (c.execute_labelled_line.ensures.stopped (stands_where o (g.S.Store.files c.next_line.new.store) new c.in_ok-next_line.ensures.frame.files (c.in_ok-next_line.ensures.stack_position names))) in
    stops_after o last_failure k old mid end.stack ts r taken (λ m. refl) c.in_ok-next_line.ensures.innermost.mark stopped)

pub returns-in-None-clause-stack_position : goal.returns-in-None-clause-stack_position
returns-in-None-clause-stack_position g c = λ stands. c.end_input.ensures.stack_position (g.S.Store.files c.args.store.now) (c.in_ok-next_line.ensures.stack_position stands)

pub returns-in-Some-clause-stack_position : goal.returns-in-Some-clause-stack_position
returns-in-Some-clause-stack_position g c = λ stands.
    stands_on_ok (g.S.Store.files c.args.store.now) (g.S.Store.files c.next_line.new.store) c.execute_labelled_line.result c.next_line.new.self c.execute_labelled_line.new.self.stack c.in_ok-next_line.ensures.frame.files c.execute_labelled_line.ensures.stack_position (c.in_ok-next_line.ensures.stack_position stands)

pub returns-in-None-clause-frame : goal.returns-in-None-clause-frame
returns-in-None-clause-frame g c = grind (arith, common_steps)
