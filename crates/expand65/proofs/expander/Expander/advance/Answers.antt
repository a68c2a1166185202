use Rattle.std.proofs.lemmas.Grind.{common_steps}
use Rattle.std.proofs.Common.{◌∙◌, Err, ap, arith, refl, subst, sym, rules}
use Rattle.std.proofs.lemmas.Result.{err_from_is_err_and}
use Rattle.base65.specs.Outcome.{Unless}
use Rattle.syntax65.specs.Faults.{is_system_error}
use Rattle.expand65.specs.Representation.{IsStackPositionedIfKnown, state_of, outcome_of_line, step_of, location_of, state_in, end_mark_of}
use Rattle.expand65.specs.State.{raises}
use Rattle.expand65.specs.Expansion.{IsStep}
use Rattle.expand65.specs.Failures.{HasFailureWhileReading}
use Rattle.expand65.specs.declared.preprocessor.Preprocessor.{Preprocessor}
use Rattle.expand65.specs.declared.preprocessor.LineOutcome.{LineOutcome}
use Rattle.expand65.proofs.Lines.{moved_to}
use Rattle.expand65.proofs.StepSequences.{came_to_end, came_to_fault, gave, goes_on, none_led}
use Rattle.expand65.proofs.FilePositions.{stands_back, stands_where}
use Rattle.expand65.proofs.ExpansionFailures.{gone_on, none_gone, stops_later}
use Rattle.expand65.proofs.expander.Expander.advance.Goals as goal

pub returns-then-is_end-clause-next_item : goal.returns-then-is_end-clause-next_item
returns-then-is_end-clause-next_item g c =
    came_to_end (g.S.Store.files c.args.store.now) (g.K.Knows.meaning c.args.knows.now) c.args.self.now c.steps.self c.steps.invariant.so_far (sym c.is_end.ensures ∙ c.if-is_end.true)

pub returns-in_err-line_outcome-clause-next_item : goal.returns-in_err-line_outcome-clause-next_item
returns-in_err-line_outcome-clause-next_item g c =
    let p = err_from_is_err_and c.from_residual.result c.from_residual.ensures.1 in
    let o = g.S.Store.files c.args.store.now in
    let k = g.K.Knows.meaning c.args.knows.now in
    let f = c.in_err-line_outcome.field-0.0 in
    let new = c.line_outcome.new.self in
    let step = moved_to (λ m. Unless (is_system_error f) (IsStep m k (state_in m c.steps.self) (raises (f, location_of new)))) o (g.S.Store.files c.steps.store) c.steps.invariant.files c.in_err-line_outcome.ensures.outcome in
    rw (p.1, p.2) (came_to_fault o k c.args.self.now c.steps.self new f c.steps.invariant.so_far step)

pub returns-in-Some-clause-next_item : goal.returns-in-Some-clause-next_item
returns-in-Some-clause-next_item g c =
    let o = g.S.Store.files c.args.store.now in
    let k = g.K.Knows.meaning c.args.knows.now in
    let mid = c.line_outcome.new.self in
    let new = c.apply_outcome.new.self in
    let t = c.in_ok-line_outcome.line_outcome in
    let step = moved_to (λ m. IsStep m k (state_in m c.steps.self) (outcome_of_line (state_of m mid.processor) t)) o (g.S.Store.files c.steps.store) c.steps.invariant.files c.in_ok-line_outcome.ensures.outcome in
    gave o k c.args.self.now c.steps.self mid new t c.in-Some.statement c.steps.invariant.so_far step (λ m. c.apply_outcome.ensures.pending m ∙ ap (step_of (state_in m new)) c.in-Some.is)

pub returns-in-Some-clause-size : goal.returns-in-Some-clause-size
returns-in-Some-clause-size g c = omega (arith, c.steps.invariant.size, c.in_ok-line_outcome.ensures.size, c.apply_outcome.ensures.size)

pub steps-preserved : goal.steps-preserved
steps-preserved g c =
    let o = g.S.Store.files c.args.store.now in
    let k = g.K.Knows.meaning c.args.knows.now in
    let mid = c.line_outcome.new.self in
    let new = c.apply_outcome.new.self in
    let t = c.in_ok-line_outcome.line_outcome in
    let step = moved_to (λ m. IsStep m k (state_in m c.steps.self) (outcome_of_line (state_of m mid.processor) t)) o (g.S.Store.files c.steps.store) c.steps.invariant.files c.in_ok-line_outcome.ensures.outcome in
    let moves : IsStackPositionedIfKnown o mid.processor.stack → IsStackPositionedIfKnown o new.processor.stack = subst (λ (r : Preprocessor). IsStackPositionedIfKnown o r.stack) (sym c.apply_outcome.ensures.processor) in
    record {
      files = c.in_ok-line_outcome.ensures.frame.files ∙ c.steps.invariant.files;
      count = search rules;
      size = omega (arith, c.steps.invariant.size, c.in_ok-line_outcome.ensures.size, c.apply_outcome.ensures.size);
      stands = λ h. moves (stands_back o (g.S.Store.files c.steps.store) c.steps.self.processor.stack mid.processor.stack c.steps.invariant.files c.in_ok-line_outcome.ensures.stack_position (c.steps.invariant.stands h));
      gone = gone_on o k c.args.self.now c.steps.self mid new t c.steps.invariant.gone step (λ m. c.apply_outcome.ensures.pending m ∙ ap (step_of (state_in m new)) c.in_default.is);
      so_far = goes_on o k c.args.self.now c.steps.self mid new t c.steps.invariant.so_far step (λ m. c.apply_outcome.ensures.pending m ∙ ap (step_of (state_in m new)) c.in_default.is);
    }

pub returns-in_err-line_outcome-clause-stopped : goal.returns-in_err-line_outcome-clause-stopped
returns-in_err-line_outcome-clause-stopped g c = λ names.
    (let p = err_from_is_err_and c.from_residual.result c.from_residual.ensures.1 in
    let o = g.S.Store.files c.args.store.now in
    let k = g.K.Knows.meaning c.args.knows.now in
    let f = c.in_err-line_outcome.field-0.0 in
    let new = c.line_outcome.new.self in
    let last_failure = g.S.Store.last_failure c.line_outcome.new.store in
    let stopped = moved_to (λ m. HasFailureWhileReading {A = LineOutcome} m last_failure k (state_in m c.steps.self) (Err f) (end_mark_of new.processor.stack.top) (location_of new)) o (g.S.Store.files c.steps.store) c.steps.invariant.files (c.in_err-line_outcome.ensures.stopped (stands_where o (g.S.Store.files c.steps.store) c.steps.self.processor.stack c.steps.invariant.files (c.steps.invariant.stands names))) in
    stops_later LineOutcome o last_failure k c.args.self.now c.steps.self (end_mark_of new.processor.stack.top) (location_of new) c.from_residual.result f (p.1 ∙ ap Err p.2) c.steps.invariant.gone stopped)

pub steps-init : goal.steps-init
steps-init g c =
    let o = g.S.Store.files c.args.store.now in
    let k = g.K.Knows.meaning c.args.knows.now in
    record {
      files = refl;
      count = refl;
      size = omega arith;
      stands = λ h. h;
      gone = none_gone o k c.args.self.now;
      so_far = none_led o k c.args.self.now;
    }

pub returns-in-Some-clause-stack_position : goal.returns-in-Some-clause-stack_position
returns-in-Some-clause-stack_position g c = λ stands.
    (let o = g.S.Store.files c.args.store.now in
    let old = c.steps.self.processor.stack in
    let mid = c.line_outcome.new.self.processor.stack in
    subst (λ (r : Preprocessor). IsStackPositionedIfKnown o r.stack) (sym c.apply_outcome.ensures.processor) (stands_back o (g.S.Store.files c.steps.store) old mid c.steps.invariant.files c.in_ok-line_outcome.ensures.stack_position (c.steps.invariant.stands stands)))

pub returns-in-Some-clause-stopped : goal.returns-in-Some-clause-stopped
returns-in-Some-clause-stopped g c = grind (arith, common_steps)

pub returns-then-is_end-clause-frame : goal.returns-then-is_end-clause-frame
returns-then-is_end-clause-frame g c = grind (arith, common_steps)

pub returns-in-Some-clause-frame : goal.returns-in-Some-clause-frame
returns-in-Some-clause-frame g c = grind (arith, common_steps)
