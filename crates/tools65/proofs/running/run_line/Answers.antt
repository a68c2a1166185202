use Rattle.std.proofs.Common.{rules}
use Rattle.cli65.specs.Line.{view}
use Rattle.tools65.specs.Command.{IsOutcomeOfCommand, RunHasOutcome, command_memory_message}
use Rattle.tools65.specs.Failures.{CommandRunFails}
use Rattle.tools65.specs.ObjectFits.{RunObjectFits}
use Rattle.tools65.specs.OneProgram.{CommandLinksWholeProgram}
use Rattle.tools65.proofs.Runs.{over_writers}
use Rattle.tools65.proofs.running.run_line.Goals as goal

pub returns-clause-done : goal.returns-clause-done
returns-clause-done g c =
    over_writers _ _ _ _ _ _ c.run_line_with_streams.new.out.has_failed c.run_line_with_streams.new.err.has_failed
    (λ m io. RunHasOutcome (IsOutcomeOfCommand (view c.args.line.now)) (command_memory_message (view c.args.line.now)) m (g.S.Store.files c.run_line_with_streams.new.store) io c.run_line_with_streams.result) (search rules)

pub returns-clause-fits : goal.returns-clause-fits
returns-clause-fits g c =
    over_writers _ _ _ _ _ _ c.run_line_with_streams.new.out.has_failed c.run_line_with_streams.new.err.has_failed
    (λ m io. RunObjectFits (view c.args.line.now) m (g.S.Store.files c.run_line_with_streams.new.store) io c.run_line_with_streams.result) (search rules)

pub returns-clause-failed : goal.returns-clause-failed
returns-clause-failed g c =
    over_writers _ _ _ _ _ _ c.run_line_with_streams.new.out.has_failed c.run_line_with_streams.new.err.has_failed
    (λ m io. CommandRunFails (view c.args.line.now) m (g.S.Store.files c.run_line_with_streams.new.store) (g.S.Store.last_failure c.run_line_with_streams.new.store) io c.run_line_with_streams.result) (search rules)

pub returns-clause-one_program : goal.returns-clause-one_program
returns-clause-one_program g c =
    over_writers _ _ _ _ _ _ c.run_line_with_streams.new.out.has_failed c.run_line_with_streams.new.err.has_failed
    (λ m io. CommandLinksWholeProgram (view c.args.line.now) m (g.S.Store.files c.run_line_with_streams.new.store) io c.run_line_with_streams.result) (search rules)
