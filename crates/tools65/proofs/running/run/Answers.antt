use Rattle.std.proofs.Common.{map, rules}
use Rattle.cli65.specs.Line.{line_of}
use Rattle.tools65.specs.Command.{RunsCommand}
use Rattle.tools65.specs.Failures.{ArgsRunFails}
use Rattle.tools65.specs.ObjectFits.{ArgsObjectFits}
use Rattle.tools65.specs.OneProgram.{ArgsLinkWholeProgram}
use Rattle.tools65.proofs.Runs.{over_writers}
use Rattle.tools65.proofs.running.run.Goals as goal

pub returns-clause-done : goal.returns-clause-done
returns-clause-done g c =
    over_writers _ _ _ _ _ _ c.run_with_streams.new.out.has_failed c.run_with_streams.new.err.has_failed
    (λ m io. RunsCommand (map g.A.AsStr.text c.args.args.now) m (g.S.Store.files c.run_with_streams.new.store) io c.run_with_streams.result) (search rules)

pub returns-clause-fits : goal.returns-clause-fits
returns-clause-fits g c =
    over_writers _ _ _ _ _ _ c.run_with_streams.new.out.has_failed c.run_with_streams.new.err.has_failed
    (λ m io. ArgsObjectFits (map g.A.AsStr.text c.args.args.now) m (g.S.Store.files c.run_with_streams.new.store) io c.run_with_streams.result) (search rules)

pub returns-clause-failed : goal.returns-clause-failed
returns-clause-failed g c =
    over_writers _ _ _ _ _ _ c.run_with_streams.new.out.has_failed c.run_with_streams.new.err.has_failed
    (λ m io. ArgsRunFails (g.S.Store.failures c.args.store.now) (map g.A.AsStr.text c.args.args.now) m (g.S.Store.files c.run_with_streams.new.store) (g.S.Store.last_failure c.run_with_streams.new.store) io c.run_with_streams.result) (search rules)

pub returns-clause-one_program : goal.returns-clause-one_program
returns-clause-one_program g c =
    over_writers _ _ _ _ _ _ c.run_with_streams.new.out.has_failed c.run_with_streams.new.err.has_failed
    (λ m io. ArgsLinkWholeProgram (line_of (map g.A.AsStr.text c.args.args.now)) m (g.S.Store.files c.run_with_streams.new.store) io c.run_with_streams.result) (search rules)
