use Rattle.std.proofs.Common.{refl}
use Rattle.cli65.specs.Line.{view}
use Rattle.tools65.specs.Command.{IsOutcomeOfCommand, command_memory_message}
use Rattle.tools65.proofs.Failures.{line_failed, line_fails, only_memory_fails}
use Rattle.tools65.proofs.ObjectFits.{line_fits, only_memory_fits}
use Rattle.tools65.proofs.Runs.{line_done, only_memory}
use Rattle.tools65.proofs.WholeRuns.{line_whole}
use Rattle.tools65.proofs.running.run_line_with_streams.Goals as goal

pub returns-in-Ok-clause-done : goal.returns-in-Ok-clause-done
returns-in-Ok-clause-done g c =
    line_done _ _ _ _ _ _ (view c.args.line.now) _ c.in-Ok.outcome _ _ c.in-Ok.ensures.frame.files c.in-Ok.ensures.frame.monotone c.commit_outcome.ensures.later c.in-Ok.ensures.computed (rw c.memory_name.ensures at c.commit_outcome.ensures.done)

pub returns-in-Err-clause-done : goal.returns-in-Err-clause-done
returns-in-Err-clause-done g c =
    only_memory _ _ (IsOutcomeOfCommand (view c.args.line.now)) _ _ _ (command_memory_message (view c.args.line.now)) _ _ _ _ c.compute.ensures.frame.files refl c.requires.out (rw c.memory_name-in-Err.ensures at c.print_out_of_memory.ensures.printed)

pub returns-in-Ok-clause-fits : goal.returns-in-Ok-clause-fits
returns-in-Ok-clause-fits g c =
    line_fits _ _ _ _ _ _ (view c.args.line.now) _ c.in-Ok.outcome _ _ c.in-Ok.ensures.frame.files c.in-Ok.ensures.frame.monotone c.commit_outcome.ensures.later c.in-Ok.ensures.computed (rw c.memory_name.ensures at c.commit_outcome.ensures.done)

pub returns-in-Err-clause-fits : goal.returns-in-Err-clause-fits
returns-in-Err-clause-fits g c =
    only_memory_fits _ _ (view c.args.line.now) _ _ _ _ _ _ _ c.compute.ensures.frame.files refl c.requires.out (rw c.memory_name-in-Err.ensures at c.print_out_of_memory.ensures.printed)

pub returns-in-Ok-clause-failed : goal.returns-in-Ok-clause-failed
returns-in-Ok-clause-failed g c =
    line_fails _ _ _ _ _ _ (view c.args.line.now) c.in-Ok.outcome _ _ _ _ c.in-Ok.ensures.frame.files c.in-Ok.ensures.frame.monotone c.in-Ok.ensures.computed c.commit_outcome.ensures.plain c.commit_outcome.ensures.untouched c.commit_outcome.ensures.failed

pub returns-in-Err-clause-failed : goal.returns-in-Err-clause-failed
returns-in-Err-clause-failed g c =
    only_memory_fails _ _ (view c.args.line.now) _ _ _ _ _ _ _ _ c.compute.ensures.frame.files refl c.requires.out (rw c.memory_name-in-Err.ensures at c.print_out_of_memory.ensures.printed)

pub returns-in-Ok-clause-one_program : goal.returns-in-Ok-clause-one_program
returns-in-Ok-clause-one_program g c =
    line_whole _ _ _ _ (view c.args.line.now) _ _
    (line_done _ _ _ _ _ _ (view c.args.line.now) _ c.in-Ok.outcome _ _ c.in-Ok.ensures.frame.files c.in-Ok.ensures.frame.monotone c.commit_outcome.ensures.later c.in-Ok.ensures.computed (rw c.memory_name.ensures at c.commit_outcome.ensures.done))

pub returns-in-Err-clause-one_program : goal.returns-in-Err-clause-one_program
returns-in-Err-clause-one_program g c =
    line_whole _ _ _ _ (view c.args.line.now) _ _
    (only_memory _ _ (IsOutcomeOfCommand (view c.args.line.now)) _ _ _ (command_memory_message (view c.args.line.now)) _ _ _ _ c.compute.ensures.frame.files refl c.requires.out (rw c.memory_name-in-Err.ensures at c.print_out_of_memory.ensures.printed))

pub returns-in-Ok-clause-status : goal.returns-in-Ok-clause-status
returns-in-Ok-clause-status g c =
    line_failed _ _ _ c.in-Ok.outcome _ c.in-Ok.ensures.frame.monotone c.in-Ok.ensures.frame.failing c.commit_outcome.ensures.status c.commit_outcome.ensures.failing
