use Rattle.std.proofs.Common.{refl, map}
use Rattle.tools65.proofs.Failures.{failed_words, refused_fails}
use Rattle.tools65.proofs.ObjectFits.{refused_fit, words_fit}
use Rattle.tools65.proofs.Runs.{line_run, refused_words}
use Rattle.tools65.proofs.WholeRuns.{words_whole}
use Rattle.tools65.proofs.running.run_with_streams.Goals as goal

pub returns-in-Ok-clause-done : goal.returns-in-Ok-clause-done
returns-in-Ok-clause-done g c = line_run _ _ _ _ (map g.A.AsStr.text c.args.args.now) _ _ _ c.in-Ok.ensures c.run_line_with_streams.ensures.done

pub returns-in-Err-clause-done : goal.returns-in-Err-clause-done
returns-in-Err-clause-done g c =
    refused_words _ _ (map g.A.AsStr.text c.args.args.now) c.in-Err.fault _ _ _ _ _ _ _ refl refl c.in-Err.ensures c.requires.out (rw (c.fault_message.ensures, c.print.ensures.refused) at c.print.ensures.printed)

pub returns-in-Ok-clause-fits : goal.returns-in-Ok-clause-fits
returns-in-Ok-clause-fits g c = words_fit _ _ _ _ (map g.A.AsStr.text c.args.args.now) _ _ _ c.in-Ok.ensures c.run_line_with_streams.ensures.fits

pub returns-in-Err-clause-fits : goal.returns-in-Err-clause-fits
returns-in-Err-clause-fits g c =
    refused_fit _ _ (map g.A.AsStr.text c.args.args.now) c.in-Err.fault _ _ _ _ _ _ _ refl refl c.in-Err.ensures c.requires.out (rw (c.fault_message.ensures, c.print.ensures.refused) at c.print.ensures.printed)

pub returns-in-Ok-clause-failed : goal.returns-in-Ok-clause-failed
returns-in-Ok-clause-failed g c = failed_words _ _ _ _ (map g.A.AsStr.text c.args.args.now) _ _ _ _ c.in-Ok.ensures c.run_line_with_streams.ensures.failed

pub returns-in-Err-clause-failed : goal.returns-in-Err-clause-failed
returns-in-Err-clause-failed g c =
    refused_fails _ _ _ (map g.A.AsStr.text c.args.args.now) c.in-Err.fault _ _ _ _ _ _ _ refl refl c.in-Err.ensures c.requires.out (rw (c.fault_message.ensures, c.print.ensures.refused) at c.print.ensures.printed)

pub returns-in-Ok-clause-one_program : goal.returns-in-Ok-clause-one_program
returns-in-Ok-clause-one_program g c =
    words_whole _ _ _ _ (map g.A.AsStr.text c.args.args.now) _ _
    (line_run _ _ _ _ (map g.A.AsStr.text c.args.args.now) _ _ _ c.in-Ok.ensures c.run_line_with_streams.ensures.done)

pub returns-in-Err-clause-one_program : goal.returns-in-Err-clause-one_program
returns-in-Err-clause-one_program g c =
    words_whole _ _ _ _ (map g.A.AsStr.text c.args.args.now) _ _
    (refused_words _ _ (map g.A.AsStr.text c.args.args.now) c.in-Err.fault _ _ _ _ _ _ _ refl refl c.in-Err.ensures c.requires.out (rw (c.fault_message.ensures, c.print.ensures.refused) at c.print.ensures.printed))
