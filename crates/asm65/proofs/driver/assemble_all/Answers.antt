use Rattle.std.proofs.lemmas.Grind.{common_steps}
use Rattle.std.proofs.Common.{rules, ◌≡◌, ◌<◌, ◌∙◌, ap, refl, sym, subst, Option, Some, None, Ok, Err, arith}
use Rattle.std.specs.Prelude.{IfSome}
use Rattle.std.proofs.lemmas.Result.{err_from_is_err_and}
use Rattle.base65.specs.Store.{PropagatesIoErrors}
use Rattle.expand65.specs.Representation.{measure_of, location_of}
use Rattle.expand65.specs.declared.expander.Statement.{Statement}
use Rattle.ast65.specs.Faults.{is_failure}
use Rattle.ast65.specs.declared.fault.AsmFault.{AsmFault}
use Rattle.asm65.specs.Internal.RunState.{IsRunning, AssemblesLine}
use Rattle.asm65.specs.declared.driver.Run.{Run}
use Rattle.asm65.proofs.PeekedLines.{line_taken, no_line_taken}
use Rattle.asm65.proofs.Runs.{some_all, some_then}
use Rattle.asm65.proofs.Sources.{Goes, NextBy, all_end, all_further, all_on, all_out, all_refused, all_stop, all_stopped, all_wrong, goes_first, line_running, next_roomy, placed_on, still_running, StaysPlaced}
use Rattle.asm65.proofs.driver.assemble_all.Given.{Over}
use Rattle.asm65.proofs.driver.assemble_all.Goals.{After-next_statement, In-Some}
use Rattle.asm65.proofs.driver.assemble_all.Goals as goal

-- ---- If no peeked line was assembled.

module _ (g : Over) (c : After-next_statement g) where
  same_run : c.assemble_peeked_line.new.run ≡ c.statements.run
  same_run = no_line_taken (g.S.Store.files c.statements.store) (g.S.Store.last_failure c.assemble_peeked_line.new.store) c.statements.run c.assemble_peeked_line.new.run c.in_ok-assemble_peeked_line.field-0 c.if-branch.false c.in_ok-assemble_peeked_line.ensures.next

  same_files : g.S.Store.files c.assemble_peeked_line.new.store ≡ g.S.Store.files c.args.store.now
  same_files = c.in_ok-assemble_peeked_line.ensures.frame.files ∙ c.statements.invariant.files

  so_far : IfSome (g.S.Store.files c.args.store.now) (λ m. Goes m c.args.run.now c.assemble_peeked_line.new.run)
  so_far = subst (λ (r : Run). IfSome (g.S.Store.files c.args.store.now) (λ m. Goes m c.args.run.now r)) (sym same_run) c.statements.invariant.so_far

  placed : IfSome (g.S.Store.files c.args.store.now) (λ m. StaysPlaced m c.args.run.now c.assemble_peeked_line.new.run)
  placed = subst (λ (r : Run). IfSome (g.S.Store.files c.args.store.now) (λ m. StaysPlaced m c.args.run.now r)) (sym same_run) c.statements.invariant.placed

  running : IsRunning c.assemble_peeked_line.new.run
  running = subst IsRunning (sym same_run) c.statements.invariant.running

module _ (g : Over) (c : In-Some g) where
  given : IfSome (g.S.Store.files c.assemble_peeked_line.new.store) (λ m. NextBy m c.assemble_peeked_line.new.run (Ok (Some c.in-Some.statement)) c.next_statement.new.run)
  given = subst (λ (x : Option Statement). IfSome (g.S.Store.files c.assemble_peeked_line.new.store) (λ m. NextBy m c.assemble_peeked_line.new.run (Ok x) c.next_statement.new.run)) c.in-Some.is c.in_ok-statement.ensures.next

  less : measure_of c.next_statement.new.run.expander < measure_of c.assemble_peeked_line.new.run.expander
  less = subst (λ (x : Option Statement). IfSome x (λ y. measure_of c.next_statement.new.run.expander < measure_of c.assemble_peeked_line.new.run.expander)) c.in-Some.is c.in_ok-statement.ensures.size

-- ---- The goals.

pub statements-init : goal.statements-init
statements-init g c = record {
  files = refl;
  count = refl;
  running = c.requires;
  so_far = some_all (λ m. Goes m c.args.run.now c.args.run.now) (g.S.Store.files c.args.store.now) (λ m. goes_first m c.args.run.now);
  placed = some_all (λ m. StaysPlaced m c.args.run.now c.args.run.now) (g.S.Store.files c.args.store.now) (λ m h. h);
}

pub returns-in_err-statement-clause-ran : goal.returns-in_err-statement-clause-ran
returns-in_err-statement-clause-ran g c =
    let w = (goal.at.returns-in_err-statement-clause-ran g c).After-next_statement in
    let r = c.from_residual-in_err-statement.result in
    let p = err_from_is_err_and r c.from_residual-in_err-statement.ensures.1 in
    let e = c.in_err-statement.ensures in
    all_out (g.S.Store.files c.args.store.now) (g.S.Store.files c.assemble_peeked_line.new.store) (same_files g w) c.args.run.now c.assemble_peeked_line.new.run c.next_statement.new.run e.same (so_far g w) c.in_err-statement.field-0.0 r (p.1 ∙ ap Err p.2) e.next

pub returns-in_err-statement-clause-stopped : goal.returns-in_err-statement-clause-stopped
returns-in_err-statement-clause-stopped g c =
    let w = (goal.at.returns-in_err-statement-clause-stopped g c).After-next_statement in
    let r = c.from_residual-in_err-statement.result in
    let p = err_from_is_err_and r c.from_residual-in_err-statement.ensures.1 in
    let e = c.in_err-statement.ensures in
    all_stop (g.S.Store.files c.args.store.now) (g.S.Store.files c.assemble_peeked_line.new.store) (same_files g w) c.args.run.now c.assemble_peeked_line.new.run c.next_statement.new.run e.same (so_far g w) (g.S.Store.last_failure c.next_statement.new.store) c.in_err-statement.field-0.0 r (p.1 ∙ ap Err p.2) (placed g w) e.stopped

pub assemble_at_location-requires : goal.assemble_at_location-requires
assemble_at_location-requires g c =
    let w = goal.at.assemble_at_location-requires g c in
    next_roomy c.assemble_peeked_line.new.run c.next_statement.new.run c.in_ok-statement.ensures.same (less g w.In-Some) (running g w.After-next_statement)

pub returns-in_err-assemble_at_location-clause-ran : goal.returns-in_err-assemble_at_location-clause-ran
returns-in_err-assemble_at_location-clause-ran g c =
    let w = goal.at.returns-in_err-assemble_at_location-clause-ran g c in
    let told = same_files g w.After-next_statement in
    let r = c.from_residual-in_err-assemble_at_location.result in
    let p = err_from_is_err_and r c.from_residual-in_err-assemble_at_location.ensures.1 in
    let e = c.in_ok-statement.ensures in
    let statement = c.in-Some.statement in
    all_wrong (g.S.Store.files c.args.store.now) (g.S.Store.files c.assemble_peeked_line.new.store) told c.args.run.now c.assemble_peeked_line.new.run c.next_statement.new.run e.same (so_far g w.After-next_statement) (Some statement) (given g w.In-Some) statement refl (less g w.In-Some) c.assemble_at_location.new.run c.in_err-assemble_at_location.ensures.same (g.S.Store.files c.next_statement.new.store) (e.files ∙ told) c.in_err-assemble_at_location.field-0.0 r (p.1 ∙ ap Err p.2) c.in_err-assemble_at_location.ensures.read.taken

pub returns-in_err-assemble_at_location-clause-stopped : goal.returns-in_err-assemble_at_location-clause-stopped
returns-in_err-assemble_at_location-clause-stopped g c =
    let w = goal.at.returns-in_err-assemble_at_location-clause-stopped g c in
    let told = same_files g w.After-next_statement in
    let r = c.from_residual-in_err-assemble_at_location.result in
    let p = err_from_is_err_and r c.from_residual-in_err-assemble_at_location.ensures.1 in
    let e = c.in_ok-statement.ensures in
    let statement = c.in-Some.statement in
    all_stopped (g.S.Store.files c.args.store.now) (g.S.Store.files c.assemble_peeked_line.new.store) told c.args.run.now c.assemble_peeked_line.new.run c.next_statement.new.run e.same (so_far g w.After-next_statement) (Some statement) (given g w.In-Some) statement refl (less g w.In-Some) c.assemble_at_location.new.run c.in_err-assemble_at_location.ensures.same (g.S.Store.files c.next_statement.new.store) (e.files ∙ told) (g.S.Store.last_failure c.assemble_at_location.new.store) c.in_err-assemble_at_location.field-0.0 r (p.1 ∙ ap Err p.2) c.in_err-assemble_at_location.ensures.read.stopped

pub statements-preserved : goal.statements-preserved
statements-preserved g c =
    let w = goal.at.statements-preserved g c in
    let told = same_files g w.After-next_statement in
    let old = c.assemble_peeked_line.new.run in
    let mid = c.next_statement.new.run in
    let new = c.assemble_at_location.new.run in
    let e = c.in_ok-statement.ensures in
    let statement = c.in-Some.statement in
    let t = c.in_ok-assemble_at_location.ensures in
    record {
      files = t.frame.files ∙ e.files ∙ told;
      count = search rules;
      running = still_running old mid e.same (less g w.In-Some) (g.S.Store.files c.next_statement.new.store) statement new c.in_ok-assemble_at_location.field-0 t.read.taken t.same (running g w.After-next_statement);
      placed = placed_on (g.S.Store.files c.args.store.now) (g.S.Store.files c.assemble_peeked_line.new.store) told c.args.run.now old mid new t.same (placed g w.After-next_statement) e.placed;
      so_far = all_further (g.S.Store.files c.args.store.now) (g.S.Store.files c.assemble_peeked_line.new.store) told c.args.run.now old mid e.same (so_far g w.After-next_statement) (Some statement) (given g w.In-Some) statement refl (less g w.In-Some) new t.same (g.S.Store.files c.next_statement.new.store) (e.files ∙ told) c.in_ok-assemble_at_location.field-0 t.read.taken;
    }

pub statements-preserved-in_ok-assemble_at_location : goal.statements-preserved-in_ok-assemble_at_location
statements-preserved-in_ok-assemble_at_location g c =
    let w = goal.at.statements-preserved-in_ok-assemble_at_location g c in
    let told = same_files g w.After-next_statement in
    let old = c.assemble_peeked_line.new.run in
    let mid = c.next_statement.new.run in
    let new = c.assemble_at_location.new.run in
    let e = c.in_ok-statement.ensures in
    let statement = c.in-Some.statement in
    let t = c.in_ok-assemble_at_location.ensures in
    record {
      files = t.frame.files ∙ e.files ∙ told;
      count = search rules;
      running = still_running old mid e.same (less g w.In-Some) (g.S.Store.files c.next_statement.new.store) statement new c.in_ok-assemble_at_location.field-0 t.read.taken t.same (running g w.After-next_statement);
      placed = placed_on (g.S.Store.files c.args.store.now) (g.S.Store.files c.assemble_peeked_line.new.store) told c.args.run.now old mid new t.same (placed g w.After-next_statement) e.placed;
      so_far = all_further (g.S.Store.files c.args.store.now) (g.S.Store.files c.assemble_peeked_line.new.store) told c.args.run.now old mid e.same (so_far g w.After-next_statement) (Some statement) (given g w.In-Some) statement refl (less g w.In-Some) new t.same (g.S.Store.files c.next_statement.new.store) (e.files ∙ told) c.in_ok-assemble_at_location.field-0 t.read.taken;
    }

pub statements-smaller : goal.statements-smaller
statements-smaller g c =
    let w = goal.at.statements-smaller g c in
    subst (λ x. measure_of x < measure_of c.statements.run.expander) (sym c.in_ok-assemble_at_location.ensures.same) (subst (λ (r : Run). measure_of c.next_statement.new.run.expander < measure_of r.expander) (same_run g w.After-next_statement) (less g w.In-Some))

pub statements-smaller-in_ok-assemble_at_location : goal.statements-smaller-in_ok-assemble_at_location
statements-smaller-in_ok-assemble_at_location g c =
    let w = goal.at.statements-smaller-in_ok-assemble_at_location g c in
    subst (λ x. measure_of x < measure_of c.statements.run.expander) (sym c.in_ok-assemble_at_location.ensures.same) (subst (λ (r : Run). measure_of c.next_statement.new.run.expander < measure_of r.expander) (same_run g w.After-next_statement) (less g w.In-Some))

pub statements-smaller-then-branch : goal.statements-smaller-then-branch
statements-smaller-then-branch g c = (line_taken (g.S.Store.files c.statements.store) (g.S.Store.last_failure c.assemble_peeked_line.new.store) c.statements.run c.assemble_peeked_line.new.run c.in_ok-assemble_peeked_line.field-0 c.if-branch.true c.in_ok-assemble_peeked_line.ensures.next).less

pub returns-in_default-clause-ran : goal.returns-in_default-clause-ran
returns-in_default-clause-ran g c =
    let w = (goal.at.returns-in_default-clause-ran g c).After-next_statement in
    let e = c.in_ok-statement.ensures in
    let P : Option Statement → Type 0 = λ x. IfSome (g.S.Store.files c.assemble_peeked_line.new.store) (λ m. NextBy m c.assemble_peeked_line.new.run (Ok x) c.next_statement.new.run) in
    all_end (g.S.Store.files c.args.store.now) (g.S.Store.files c.assemble_peeked_line.new.store) (same_files g w) c.args.run.now c.assemble_peeked_line.new.run c.next_statement.new.run e.same (so_far g w) None (subst P c.in_default.is e.next) refl c.check_closed.result c.check_closed.ensures

pub returns-in_err-assemble_peeked_line-clause-ran : goal.returns-in_err-assemble_peeked_line-clause-ran
returns-in_err-assemble_peeked_line-clause-ran g c =
    let r = c.from_residual.result in
    let p = err_from_is_err_and r c.from_residual.ensures.1 in
    let last_failure = g.S.Store.last_failure c.assemble_peeked_line.new.store in
    let e = c.in_err-assemble_peeked_line.field-0.0 in
    let line = subst (λ o. AssemblesLine o last_failure c.statements.run c.assemble_peeked_line.new.run (Err e)) c.statements.invariant.files c.in_err-assemble_peeked_line.ensures.next in
    (all_refused (g.S.Store.files c.args.store.now) last_failure c.args.run.now c.statements.run c.assemble_peeked_line.new.run e r (p.1 ∙ ap Err p.2) line c.statements.invariant.so_far).0

pub returns-in_err-assemble_peeked_line-clause-stopped : goal.returns-in_err-assemble_peeked_line-clause-stopped
returns-in_err-assemble_peeked_line-clause-stopped g c =
    let r = c.from_residual.result in
    let p = err_from_is_err_and r c.from_residual.ensures.1 in
    let last_failure = g.S.Store.last_failure c.assemble_peeked_line.new.store in
    let e = c.in_err-assemble_peeked_line.field-0.0 in
    let line = subst (λ o. AssemblesLine o last_failure c.statements.run c.assemble_peeked_line.new.run (Err e)) c.statements.invariant.files c.in_err-assemble_peeked_line.ensures.next in
    (all_refused (g.S.Store.files c.args.store.now) last_failure c.args.run.now c.statements.run c.assemble_peeked_line.new.run e r (p.1 ∙ ap Err p.2) line c.statements.invariant.so_far).1

pub statements-preserved-then-branch : goal.statements-preserved-then-branch
statements-preserved-then-branch g c =
    let old = c.statements.run in
    let new = c.assemble_peeked_line.new.run in
    let e = c.in_ok-assemble_peeked_line.ensures in
    let last_failure = g.S.Store.last_failure c.assemble_peeked_line.new.store in
    let o = g.S.Store.files c.statements.store in
    let line = line_taken o last_failure old new c.in_ok-assemble_peeked_line.field-0 c.if-branch.true e.next in
    record {
      files = e.frame.files ∙ c.statements.invariant.files;
      count = search rules;
      running = line_running o last_failure (location_of new.expander) line.statements old.expander new.expander old.assembler new.assembler line.given line.taken refl c.statements.invariant.running;
      placed = some_then (λ m. StaysPlaced m c.args.run.now old) (λ m. StaysPlaced m c.args.run.now new) (g.S.Store.files c.args.store.now) (λ m h first. line.placed m (h first)) c.statements.invariant.placed;
      so_far = all_on (g.S.Store.files c.args.store.now) last_failure c.args.run.now old new (subst (λ q. AssemblesLine q last_failure old new (Ok tt)) c.statements.invariant.files line) c.statements.invariant.so_far;
    }

pub returns-in_err-assemble_at_location-clause-frame : goal.returns-in_err-assemble_at_location-clause-frame
returns-in_err-assemble_at_location-clause-frame g c =
    let r = c.from_residual-in_err-assemble_at_location.result in
    let p = err_from_is_err_and r c.from_residual-in_err-assemble_at_location.ensures.1 in
    let now = g.S.Store.failures c.assemble_at_location.new.store in
    let same : g.S.Store.failures c.next_statement.new.store ≡ g.S.Store.failures c.args.store.now = search rules in
    let here = subst (λ n. PropagatesIoErrors {T = Unit {0}} {E = AsmFault} is_failure n now (Err c.in_err-assemble_at_location.field-0.0)) same c.in_err-assemble_at_location.ensures.frame.count in
    record {
      files = c.in_err-assemble_at_location.ensures.frame.files ∙ c.in_ok-statement.ensures.files ∙ c.in_ok-assemble_peeked_line.ensures.frame.files ∙ c.statements.invariant.files;
      count = subst (λ x. PropagatesIoErrors {T = Unit {0}} {E = AsmFault} is_failure (g.S.Store.failures c.args.store.now) now x) (sym (p.1 ∙ ap Err p.2)) here;
    }

pub next_statement-requires : goal.next_statement-requires
next_statement-requires g c = grind (arith, common_steps)
