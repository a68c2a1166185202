use Rattle.std.proofs.Common.{◌∙◌, refl, sym}
use Rattle.cli65.specs.Messages.{file_memory_message}
use Rattle.output65.specs.RunEffects.{stream_states}
use Rattle.output65.proofs.WriteFailureLemmas.{stops_writing}
use Rattle.output65.proofs.Texts.{after_both, short}
use Rattle.output65.proofs.committing.commit_outcome.Goals as goal

pub returns-in-Err-clause-done : goal.returns-in-Err-clause-done
returns-in-Err-clause-done g c =
    let mid = stream_states g.W.Write.contents g.E.Write.contents c.args.out.now c.print_both.new.out c.args.err.now c.print_both.new.err in
    let printed = rw (c.as_slice.ensures, c.as_slice-2.ensures) at c.print_both.ensures.printed in
    short _ _ _ _ _ c.args.outcome.now (file_memory_message c.args.memory_name.now) c.in-Err.write_error _ _ _ refl c.in-Err.ensures.count.monotone refl c.in-Err.ensures.count.caused c.in-Err.ensures.there
    (rw c.as_slice-3.ensures at c.in-Err.ensures.err) (λ h. after_both _ mid _ _ _ refl (sym c.print_both.ensures.accepted ∙ c.if-not-print_both.false) printed (c.print_write_error.ensures.memory h))

pub returns-in-Err-clause-failed : goal.returns-in-Err-clause-failed
returns-in-Err-clause-failed g c =
    let mid = stream_states g.W.Write.contents g.E.Write.contents c.args.out.now c.print_both.new.out c.args.err.now c.print_both.new.err in
    let printed = rw (c.as_slice.ensures, c.as_slice-2.ensures) at c.print_both.ensures.printed in
    stops_writing _ _ _ _ c.args.outcome.now c.in-Err.write_error _ _ _ refl c.in-Err.ensures.count.reported
    (rw c.as_slice-3.ensures at c.in-Err.ensures.err) (λ file h at. after_both _ mid _ _ _ refl (sym c.print_both.ensures.accepted ∙ c.if-not-print_both.false) printed ((rw c.as_slice-in-Err.ensures at c.print_write_error.ensures.failed) file h at))
    (rw c.as_slice-3.ensures at c.in-Err.ensures.last_failure)
