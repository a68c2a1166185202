use Rattle.std.proofs.Common.{◌∙◌, ap, arith, refl, Err}
use Rattle.std.proofs.lemmas.Result.{err_from_is_err_and}
use Rattle.object65.proofs.Records.{kept_count}
use Rattle.ld65.specs.Internal.AddedModules.{input_of}
use Rattle.ld65.proofs.Frames.{err_is, none_passed, fault_after, unread_after, untouched}
use Rattle.ld65.proofs.Objects.{end_free, no_head, no_records, more_after, whole_module}
use Rattle.ld65.proofs.FailureOrder.{later_in, read_within}
use Rattle.ld65.proofs.linking.add_object.Goals as goal

pub returns-in_err-head-clause-added : goal.returns-in_err-head-clause-added
returns-in_err-head-clause-added g c =
    let p = err_from_is_err_and c.from_residual.result c.from_residual.ensures.1 in
    rw (p.1, p.2) (no_head _ (input_of c.args.object.now) c.args.linker.now c.args.linker.now c.in_err-head.field-0.0 c.in_err-head.ensures.read)

pub returns-in_err-end-clause-added : goal.returns-in_err-end-clause-added
returns-in_err-end-clause-added g c =
    let p = err_from_is_err_and c.from_residual-in_err-end.result c.from_residual-in_err-end.ensures.1 in
    let begun = c.in_ok-begin_module.ensures.begun in
    rw (p.1, p.2) (no_records _ (input_of c.args.object.now) c.args.linker.now _ c.in_ok-head.head c.begin_module.new.self c.add_records.new.linker c.in_err-end.field-0.0 c.in_ok-head.ensures.frame.files c.in_ok-head.ensures.read begun c.in_err-end.ensures.added)

pub returns-in_err-check_end-clause-added : goal.returns-in_err-check_end-clause-added
returns-in_err-check_end-clause-added g c =
    let p = err_from_is_err_and c.from_residual-in_err-check_end.result c.from_residual-in_err-check_end.ensures.1 in
    let begun = c.in_ok-begin_module.ensures.begun in
    let files = c.in_ok-head.ensures.frame.files in
    rw (p.1, p.2) (more_after _ (input_of c.args.object.now) c.args.linker.now _ _ c.in_ok-head.head c.in_ok-end.end c.begin_module.new.self c.add_records.new.linker c.in_err-check_end.field-0.0 files (c.in_ok-end.ensures.files ∙ files) c.in_ok-head.ensures.read begun c.in_ok-end.ensures.added c.in_err-check_end.ensures.read)

pub returns-clause-added : goal.returns-clause-added
returns-clause-added g c =
    let begun = c.in_ok-begin_module.ensures.begun in
    let files = c.in_ok-head.ensures.frame.files in
    let script = c.in_ok-end.ensures.keeps.script ∙ c.in_ok-begin_module.ensures.keeps.script in
    whole_module _ (input_of c.args.object.now) c.args.linker.now _ _ c.in_ok-head.head c.in_ok-end.end c.begin_module.new.self c.add_records.new.linker c.end_module.new.self c.end_module.result files (c.in_ok-end.ensures.files ∙ files) c.in_ok-head.ensures.read begun c.in_ok-end.ensures.added c.in_ok-check_end.ensures.read script c.end_module.ensures.ended

pub returns-in_err-head-clause-frame : goal.returns-in_err-head-clause-frame
returns-in_err-head-clause-frame g c modules stands =
    let p = err_from_is_err_and c.from_residual.result c.from_residual.ensures.1 in
    rw (p.1, p.2) (unread_after _ _ _ _ c.in_err-head.field-0.0 refl refl c.in_err-head.ensures.frame)

pub returns-in_err-end-clause-frame : goal.returns-in_err-end-clause-frame
returns-in_err-end-clause-frame g c modules stands =
    let p = err_from_is_err_and c.from_residual-in_err-end.result c.from_residual-in_err-end.ensures.1 in
    let head = c.in_ok-head.ensures.frame in
    let begun = c.in_ok-begin_module.ensures.begun modules stands in
    rw (p.1, p.2) (fault_after _ _ _ _ c.in_err-end.field-0.0 head.files (kept_count _ _ _ head.count) (c.in_err-end.ensures.frame modules c.args.object.now.name.now _ begun))

pub returns-in_err-check_end-clause-frame : goal.returns-in_err-check_end-clause-frame
returns-in_err-check_end-clause-frame g c modules stands =
    let p = err_from_is_err_and c.from_residual-in_err-check_end.result c.from_residual-in_err-check_end.ensures.1 in
    let head = c.in_ok-head.ensures.frame in
    let fed = c.in_ok-end.ensures.frame modules c.args.object.now.name.now _ (c.in_ok-begin_module.ensures.begun modules stands) in
    rw (p.1, p.2) (unread_after _ _ _ _ c.in_err-check_end.field-0.0 (fed.files ∙ head.files) (none_passed _ _ _ fed.count ∙ kept_count _ _ _ head.count) c.in_err-check_end.ensures.frame)

pub returns-clause-frame : goal.returns-clause-frame
returns-clause-frame g c modules stands =
    let head = c.in_ok-head.ensures.frame in
    let begun = c.in_ok-begin_module.ensures.begun in
    let fed = c.in_ok-end.ensures.frame modules c.args.object.now.name.now _ (begun modules stands) in
    let end = c.in_ok-check_end.ensures.frame in
    untouched _ _ _ c.end_module.result (end.files ∙ fed.files ∙ head.files) (kept_count _ _ _ end.count ∙ none_passed _ _ _ fed.count ∙ kept_count _ _ _ head.count)
    (end_free c.in_ok-head.head c.in_ok-end.end _ (input_of c.args.object.now) c.args.linker.now c.begin_module.new.self c.add_records.new.linker c.end_module.new.self c.end_module.result begun c.in_ok-end.ensures.added c.end_module.ensures.ended modules stands)

pub returns-in_err-head-clause-within : goal.returns-in_err-head-clause-within
returns-in_err-head-clause-within g c modules stands failed fits =
    let p = err_from_is_err_and c.from_residual.result c.from_residual.ensures.1 in
    read_within _ _ _ _ _ c.in_err-head.field-0.0 (omega arith) fits c.in_err-head.ensures.within (rw (p.1, p.2) at failed)

pub returns-in_err-end-clause-within : goal.returns-in_err-end-clause-within
returns-in_err-end-clause-within g c modules stands failed fits =
    let p = err_from_is_err_and c.from_residual-in_err-end.result c.from_residual-in_err-end.ensures.1 in
    let bound = c.in_ok-head.ensures.bound in
    let begun = c.in_ok-begin_module.ensures.begun modules stands in
    let fault = err_is _ _ (rw (p.1, p.2) at failed) in
    later_in _ _ _ _ _ (omega (arith, bound.0)) (c.in_err-end.ensures.within modules c.args.object.now.name.now _ begun (ap Err fault) bound.1)

pub returns-in_err-check_end-clause-within : goal.returns-in_err-check_end-clause-within
returns-in_err-check_end-clause-within g c modules stands failed fits =
    let p = err_from_is_err_and c.from_residual-in_err-check_end.result c.from_residual-in_err-check_end.ensures.1 in
    let bound = c.in_ok-head.ensures.bound in
    read_within _ _ _ _ _ c.in_err-check_end.field-0.0 (omega (arith, bound.0, c.in_ok-end.ensures.bound.0)) c.in_ok-end.ensures.bound.1 c.in_err-check_end.ensures.within (rw (p.1, p.2) at failed)

pub returns-clause-within : goal.returns-clause-within
returns-clause-within g c modules stands failed fits =
    let begun = c.in_ok-begin_module.ensures.begun in
    absurd (end_free c.in_ok-head.head c.in_ok-end.end _ (input_of c.args.object.now) c.args.linker.now c.begin_module.new.self c.add_records.new.linker c.end_module.new.self c.end_module.result begun c.in_ok-end.ensures.added c.end_module.ensures.ended modules stands failed)
