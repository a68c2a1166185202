use Rattle.std.proofs.Common.{◌≡◌, Err, ap, true, subst}
use Rattle.std.specs.Prelude.{IfSome, Option}
use Rattle.base65.specs.Store.{Files}
use Rattle.object65.specs.Objects.{ObjectFits, is_well_formed_object}
use Rattle.asm65.specs.declared.driver.Run.{Run}
use Rattle.asm65.specs.Assembly.{job_of}
use Rattle.asm65.proofs.Outcomes.{AnswersAll, StopsFrom, as_fault, define_answer, first_running, memory_silent, none_passed, not_answered, open_answer, passed_through, run_answer, run_stops, stops_first, stops_never_so}
use Rattle.asm65.proofs.ErrorResults.{refused_asked, refused_passed}
use Rattle.asm65.proofs.assembling.assemble_with.Goals as goal

pub assemble_opened-requires : goal.assemble_opened-requires
assemble_opened-requires g c = first_running (job_of c.args.job.now) c.in-Ok.expander c.define_all.new.assembler c.in-Ok-define_all.field-0 c.in-Ok-define_all.ensures.defined c.in-Ok.ensures.size

pub returns-in-Err-clause-assembled : goal.returns-in-Err-clause-assembled
returns-in-Err-clause-assembled g c = open_answer (g.S.Store.files c.args.store.now) (job_of c.args.job.now) c.in-Err.fault c.fail_at_location.result c.args.assembler c.requires c.fail_at_location.ensures.outside c.fail_at_location.ensures.refused c.in-Err.ensures.opened

pub returns-in-Err-clause-count : goal.returns-in-Err-clause-count
returns-in-Err-clause-count g c = refused_passed _ _ c.in-Err.fault c.fail_at_location.result.result c.in-Err.ensures.count c.fail_at_location.ensures.none c.fail_at_location.ensures.failed

pub returns-in-Err-clause-at_last_count : goal.returns-in-Err-clause-at_last_count
returns-in-Err-clause-at_last_count g c = refused_asked (g.S.Store.failures c.args.store.now) c.in-Err.fault c.fail_at_location.result.result c.in-Err.ensures.at_last_count c.fail_at_location.ensures.outside

pub returns-in-Err-define_all-clause-assembled : goal.returns-in-Err-define_all-clause-assembled
returns-in-Err-define_all-clause-assembled g c =
    define_answer (g.S.Store.files c.args.store.now) (job_of c.args.job.now) c.in-Ok.expander c.in-Err-define_all.fault c.fail_at_location-in-Err-define_all.result c.define_all.new.assembler c.in-Err-define_all.ensures.defined c.fail_at_location-in-Err-define_all.ensures.outside c.fail_at_location-in-Err-define_all.ensures.refused c.in-Ok.ensures.opened

pub returns-in-Err-define_all-clause-count : goal.returns-in-Err-define_all-clause-count
returns-in-Err-define_all-clause-count g c = none_passed _ _ c.in-Ok.expander c.in-Err-define_all.fault c.fail_at_location-in-Err-define_all.result.result c.in-Ok.ensures.count c.in-Err-define_all.ensures.no_failure c.fail_at_location-in-Err-define_all.ensures.none c.fail_at_location-in-Err-define_all.ensures.failed

pub returns-in-Err-define_all-clause-good : goal.returns-in-Err-define_all-clause-good
returns-in-Err-define_all-clause-good g c = not_answered (λ o. is_well_formed_object o ≡ true) c.fail_at_location-in-Err-define_all.result.result c.fail_at_location-in-Err-define_all.ensures.none

pub returns-in-Err-define_all-clause-numbers : goal.returns-in-Err-define_all-clause-numbers
returns-in-Err-define_all-clause-numbers g c = not_answered ObjectFits c.fail_at_location-in-Err-define_all.result.result c.fail_at_location-in-Err-define_all.ensures.none

pub returns-in-Ok-define_all-clause-assembled : goal.returns-in-Ok-define_all-clause-assembled
returns-in-Ok-define_all-clause-assembled g c =
    let run : Run = record { expander = c.in-Ok.expander; assembler = c.define_all.new.assembler } in
    let P : Option Files → Type 0 = λ o. IfSome o (λ m. AnswersAll m run c.assemble_opened.result) in
    run_answer (g.S.Store.files c.args.store.now) (job_of c.args.job.now) c.in-Ok.expander c.define_all.new.assembler c.in-Ok-define_all.field-0 c.assemble_opened.result c.in-Ok-define_all.ensures.defined c.in-Ok.ensures.size c.in-Ok.ensures.opened (subst P c.in-Ok.ensures.files c.assemble_opened.ensures.assembled)

pub returns-in-Ok-define_all-clause-count : goal.returns-in-Ok-define_all-clause-count
returns-in-Ok-define_all-clause-count g c = passed_through _ _ _ c.in-Ok.expander c.assemble_opened.result.result c.in-Ok.ensures.count c.assemble_opened.ensures.count

pub returns-in-Err-clause-stopped : goal.returns-in-Err-clause-stopped
returns-in-Err-clause-stopped g c = stops_first (g.S.Store.files c.args.store.now) (g.S.Store.last_failure c.open_source.new.store) (job_of c.args.job.now) c.in-Err.fault c.fail_at_location.result c.fail_at_location.ensures.failed c.fail_at_location.ensures.first c.fail_at_location.ensures.silent (λ same. c.in-Err.ensures.last_failure (ap Err same))

pub returns-in-Err-clause-silent : goal.returns-in-Err-clause-silent
returns-in-Err-clause-silent g c = memory_silent c.fail_at_location.result.result _ c.fail_at_location.ensures.silent

pub returns-in-Err-define_all-clause-stopped : goal.returns-in-Err-define_all-clause-stopped
returns-in-Err-define_all-clause-stopped g c =
    let a = c.fail_at_location-in-Err-define_all.result in
    stops_never_so (g.S.Store.files c.args.store.now) (g.S.Store.last_failure c.open_source.new.store) (job_of c.args.job.now) a (as_fault a.result c.in-Err-define_all.fault c.in-Err-define_all.ensures.no_failure c.fail_at_location-in-Err-define_all.ensures.failed)

pub returns-in-Err-define_all-clause-silent : goal.returns-in-Err-define_all-clause-silent
returns-in-Err-define_all-clause-silent g c = memory_silent c.fail_at_location-in-Err-define_all.result.result _ c.fail_at_location-in-Err-define_all.ensures.silent

pub returns-in-Ok-define_all-clause-stopped : goal.returns-in-Ok-define_all-clause-stopped
returns-in-Ok-define_all-clause-stopped g c =
    let run : Run = record { expander = c.in-Ok.expander; assembler = c.define_all.new.assembler } in
    let P : Option Files → Type 0 = λ o. IfSome o (λ m. StopsFrom m (g.S.Store.last_failure c.assemble_opened.new.store) run c.assemble_opened.result) in
    run_stops (g.S.Store.files c.args.store.now) (g.S.Store.last_failure c.assemble_opened.new.store) (job_of c.args.job.now) c.in-Ok.expander c.define_all.new.assembler c.in-Ok-define_all.field-0 c.assemble_opened.result c.in-Ok-define_all.ensures.defined c.in-Ok.ensures.size c.in-Ok.ensures.opened c.in-Ok.ensures.placed (subst P c.in-Ok.ensures.files c.assemble_opened.ensures.stopped)
