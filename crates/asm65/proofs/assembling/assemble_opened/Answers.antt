use Rattle.std.proofs.Common.{◌≡◌, refl, true}
use Rattle.object65.specs.Objects.{ObjectFits, is_well_formed_object}
use Rattle.expand65.specs.Representation.{location_of}
use Rattle.asm65.proofs.Outcomes.{all_concluded, all_refused, good_answer, memory_silent, not_answered, passed_as, passed_on, stops_after, stops_never_from}
use Rattle.asm65.proofs.assembling.assemble_opened.Goals as goal

pub returns-in-Ok-clause-assembled : goal.returns-in-Ok-clause-assembled
returns-in-Ok-clause-assembled g c = all_concluded (g.S.Store.files c.args.store.now) c.args.run c.assemble_all-ran.new.run c.in-Ok.field-0 c.finish_assembly.result c.finish_assembly.ensures.concluded c.in-Ok.ensures.ran

pub returns-in-Ok-clause-count : goal.returns-in-Ok-clause-count
returns-in-Ok-clause-count g c = passed_on _ _ c.in-Ok.field-0 c.finish_assembly.result.result c.in-Ok.ensures.frame.count c.finish_assembly.ensures.no_failure

pub returns-in-Ok-clause-good : goal.returns-in-Ok-clause-good
returns-in-Ok-clause-good g c = good_answer c.finish_assembly.result c.assemble_all-ran.new.run.assembler c.in-Ok.ensures.represented c.finish_assembly.ensures.concluded

pub returns-in-Ok-clause-stopped : goal.returns-in-Ok-clause-stopped
returns-in-Ok-clause-stopped g c = stops_never_from (g.S.Store.files c.args.store.now) (g.S.Store.last_failure c.assemble_all-ran.new.store) c.args.run c.finish_assembly.result c.finish_assembly.ensures.no_failure

pub returns-in-Ok-clause-silent : goal.returns-in-Ok-clause-silent
returns-in-Ok-clause-silent g c = memory_silent c.finish_assembly.result.result _ c.finish_assembly.ensures.silent

pub returns-in-Err-clause-assembled : goal.returns-in-Err-clause-assembled
returns-in-Err-clause-assembled g c =
    let now = c.assemble_all-ran.new.run in
    all_refused (g.S.Store.files c.args.store.now) c.args.run now c.in-Err.fault (location_of now.expander) c.fail_with_output.result refl c.fail_with_output.ensures.outside c.fail_with_output.ensures.refused c.in-Err.ensures.ran

pub returns-in-Err-clause-count : goal.returns-in-Err-clause-count
returns-in-Err-clause-count g c = passed_as _ _ c.in-Err.fault c.fail_with_output.result.result c.in-Err.ensures.frame.count c.fail_with_output.ensures.none c.fail_with_output.ensures.failed

pub returns-in-Err-clause-good : goal.returns-in-Err-clause-good
returns-in-Err-clause-good g c = not_answered (λ o. is_well_formed_object o ≡ true) c.fail_with_output.result.result c.fail_with_output.ensures.none

pub returns-in-Err-clause-numbers : goal.returns-in-Err-clause-numbers
returns-in-Err-clause-numbers g c = not_answered ObjectFits c.fail_with_output.result.result c.fail_with_output.ensures.none

pub returns-in-Err-clause-stopped : goal.returns-in-Err-clause-stopped
returns-in-Err-clause-stopped g c =
    stops_after (g.S.Store.files c.args.store.now) (g.S.Store.last_failure c.assemble_all-ran.new.store) c.args.run c.assemble_all-ran.new.run c.in-Err.fault c.fail_with_output.result c.fail_with_output.ensures.failed c.fail_with_output.ensures.stopped c.fail_with_output.ensures.reported c.in-Err.ensures.stopped
