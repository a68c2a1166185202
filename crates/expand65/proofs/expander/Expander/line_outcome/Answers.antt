use Rattle.std.proofs.lemmas.Grind.{common_steps}
use Rattle.std.proofs.Common.{◌∙◌, List, IfSome, ap, subst, sym, arith}
use Rattle.syntax65.specs.Tokens.{Lexeme, lexemes}
use Rattle.expand65.specs.Representation.{HasFailureLocation, RefinesLineOutcome, state_of, state_in}
use Rattle.expand65.specs.Failures.{StepFails}
use Rattle.expand65.specs.State.{if_line}
use Rattle.expand65.specs.LineStart.{first_directive}
use Rattle.expand65.specs.Replay.{tokens_in}
use Rattle.expand65.specs.Expansion.{StepReaches, line_step, IsStep}
use Rattle.expand65.specs.declared.line_start.ConditionKind.TheVariants.{True}
use Rattle.expand65.proofs.StepSequences.{turns_so, where_known, step_branch, step_rest}
use Rattle.expand65.proofs.ExpansionFailures.{stops_branch, stops_plain, stops_rest}
use Rattle.expand65.proofs.expander.Expander.line_outcome.Goals as goal

pub returns-in-Rest-clause-outcome : goal.returns-in-Rest-clause-outcome
returns-in-Rest-clause-outcome g c =
    let old = c.args.self.now in
    let k = g.K.Knows.meaning c.args.knows.now in
    let line = c.in-Rest.line in
    let ts = tokens_in line in
    let new = c.execute_line.new.self in
    where_known (g.S.Store.files c.args.store.now) (λ m. RefinesLineOutcome c.execute_line.result (state_of m new) (StepReaches m (line_step k (state_of m old.processor) ts (first_directive ts)))) (λ m. RefinesLineOutcome c.execute_line.result (state_of m new) (IsStep m k (state_in m old))) (λ m h. turns_so c.execute_line.result (state_of m new) (StepReaches m (line_step k (state_of m old.processor) ts (first_directive ts))) (IsStep m k (state_in m old)) (λ x s. step_rest m k old line x (sym c.replace.ensures.value ∙ c.in-Rest.is) s) h) c.execute_line.ensures.outcome

pub returns-in_ok-tokens-in-Branch-clause-outcome : goal.returns-in_ok-tokens-in-Branch-clause-outcome
returns-in_ok-tokens-in-Branch-clause-outcome g c =
    let o = g.S.Store.files c.args.store.now in
    let old = c.args.self.now in
    let k = g.K.Knows.meaning c.args.knows.now in
    let line = c.in-Branch.line in
    let ts = tokens_in line in
    let r = c.begin_if.result in
    let new = c.begin_if.new.self in
    let P : List Lexeme → Type 0 = λ us. IfSome o (λ m. RefinesLineOutcome r (state_of m new) (StepReaches m (if_line k (state_of m old.processor) True us))) in
    let turns = subst P (ap lexemes c.as_slice.ensures.value ∙ c.in_ok-tokens-in-Branch.ensures) c.begin_if.ensures.outcome in
    where_known o (λ m. RefinesLineOutcome r (state_of m new) (StepReaches m (if_line k (state_of m old.processor) True ts))) (λ m. RefinesLineOutcome r (state_of m new) (IsStep m k (state_in m old))) (λ m h. turns_so r (state_of m new) (StepReaches m (if_line k (state_of m old.processor) True ts)) (IsStep m k (state_in m old)) (λ x s. step_branch m k old line x (sym c.replace.ensures.value ∙ c.in-Branch.is) s) h) turns

pub returns-in-Nothing-clause-stopped : goal.returns-in-Nothing-clause-stopped
returns-in-Nothing-clause-stopped g c = λ names.
    stops_plain (g.S.Store.files c.args.store.now) (g.S.Store.last_failure c.execute_next.new.store) (g.K.Knows.meaning c.args.knows.now) c.args.self.now c.execute_next.new.self.stack c.execute_next.result (sym c.replace.ensures.value ∙ c.in-Nothing.is) (c.execute_next.ensures.stopped names)

pub returns-in-Rest-clause-stopped : goal.returns-in-Rest-clause-stopped
returns-in-Rest-clause-stopped g c = λ names.
    stops_rest (g.S.Store.files c.args.store.now) (g.S.Store.last_failure c.execute_line.new.store) (g.K.Knows.meaning c.args.knows.now) c.args.self.now c.execute_line.new.self.stack c.in-Rest.line c.execute_line.result (sym c.replace.ensures.value ∙ c.in-Rest.is) (c.execute_line.ensures.stopped names)

pub returns-in_ok-tokens-in-Branch-clause-stopped : goal.returns-in_ok-tokens-in-Branch-clause-stopped
returns-in_ok-tokens-in-Branch-clause-stopped g c = λ names.
    (let o = g.S.Store.files c.args.store.now in
    let old = c.args.self.now in
    let k = g.K.Knows.meaning c.args.knows.now in
    let last_failure = g.S.Store.last_failure c.begin_if.new.store in
    let new = c.begin_if.new.self.stack in
    let P : List Lexeme → Type 0 = λ us. IfSome o (λ m. HasFailureLocation (StepFails m last_failure (if_line k (state_of m old.processor) True us)) old.processor.stack new c.begin_if.result) in
    let stopped = subst P (ap lexemes c.as_slice.ensures.value ∙ c.in_ok-tokens-in-Branch.ensures) (c.begin_if.ensures.stopped names) in
    stops_branch o last_failure k old new c.in-Branch.line c.begin_if.result (sym c.replace.ensures.value ∙ c.in-Branch.is) stopped)

pub returns-in_ok-tokens-in-Branch-clause-size : goal.returns-in_ok-tokens-in-Branch-clause-size
returns-in_ok-tokens-in-Branch-clause-size g c = grind (arith, common_steps)
