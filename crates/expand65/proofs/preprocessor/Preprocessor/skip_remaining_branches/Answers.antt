use Rattle.std.proofs.lemmas.Grind.{common_steps}
use Rattle.std.proofs.Common.{Err, arith}
use Rattle.std.proofs.lemmas.Result.{err_from_is_err_and}
use Rattle.expand65.proofs.ExpansionFailures.{else_passed, else_refused, else_none, else_twice, stops_at_else}
use Rattle.expand65.specs.declared.preprocessor.LineOutcome.{LineOutcome}
use Rattle.expand65.proofs.preprocessor.Preprocessor.skip_remaining_branches.Goals as goal

pub returns-in_err-read_block-in-Some-false-clause-outcome : goal.returns-in_err-read_block-in-Some-false-clause-outcome
returns-in_err-read_block-in-Some-false-clause-outcome g c =
    let p = err_from_is_err_and c.from_residual.result c.from_residual.ensures.1 in
    let popped = rw c.in-Some-false.field-0-test at c.in-Some-false.ensures.pops in
    rw (p.1, p.2) (else_refused (g.S.Store.files c.args.store.now) c.args.self.now c.read_block.new.self.location c.pop_above.new.self c.in_err-read_block-in-Some-false.field-0.0 popped c.in_err-read_block-in-Some-false.ensures.read)

pub returns-in_ok-read_block-in-Some-false-clause-outcome : goal.returns-in_ok-read_block-in-Some-false-clause-outcome
returns-in_ok-read_block-in-Some-false-clause-outcome g c =
    let popped = rw c.in-Some-false.field-0-test at c.in-Some-false.ensures.pops in
    else_passed (g.S.Store.files c.args.store.now) c.args.self.now c.read_block.new.self c.pop_above.new.self _ popped c.in_ok-read_block-in-Some-false.ensures.read

pub returns-in-None-clause-outcome : goal.returns-in-None-clause-outcome
returns-in-None-clause-outcome g c = else_none (g.S.Store.files c.args.store.now) c.args.self.now c.in-None.ensures.pops

pub returns-in-Some-true-clause-outcome : goal.returns-in-Some-true-clause-outcome
returns-in-Some-true-clause-outcome g c =
    let popped = rw c.in-Some-true.field-0-test at c.in-Some-true.ensures.pops in
    else_twice (g.S.Store.files c.args.store.now) c.args.self.now c.pop_above.new.self popped

pub returns-in_err-read_block-in-Some-false-clause-stopped : goal.returns-in_err-read_block-in-Some-false-clause-stopped
returns-in_err-read_block-in-Some-false-clause-stopped g c = λ names.
    (let p = err_from_is_err_and c.from_residual.result c.from_residual.ensures.1 in
    let popped = rw c.in-Some-false.field-0-test at c.in-Some-false.ensures.pops in
    rw (p.1, p.2) (stops_at_else {A = LineOutcome} (g.S.Store.files c.args.store.now) (g.S.Store.last_failure c.read_block.new.store) c.args.self.now c.read_block.new.self c.pop_above.new.self (Err c.in_err-read_block-in-Some-false.field-0.0) popped (c.in_err-read_block-in-Some-false.ensures.stopped names)))

pub returns-in_ok-read_block-in-Some-false-clause-frame : goal.returns-in_ok-read_block-in-Some-false-clause-frame
returns-in_ok-read_block-in-Some-false-clause-frame g c = grind (arith, common_steps)
