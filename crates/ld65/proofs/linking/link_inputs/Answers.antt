use Rattle.std.proofs.Common.{◌≡◌, ◌∙◌, Err, Ok, ap, map, rules}
use Rattle.std.proofs.lemmas.Result.{err_from_is_err_and}
use Rattle.cli65.specs.Line.{link_view}
use Rattle.ld65.specs.Linkage.{output_of}
use Rattle.ld65.specs.Naming.{IsInputListFailure}
use Rattle.ld65.proofs.Frames.{linked_left, refused_left}
use Rattle.ld65.proofs.LineInputs.{inputs_refused, inputs_linked}
use Rattle.ld65.proofs.linking.link_inputs.Goals as goal

pub returns-in_err-add_inputs-clause-linked : goal.returns-in_err-add_inputs-clause-linked
returns-in_err-add_inputs-clause-linked g c =
    let p = err_from_is_err_and c.from_residual-in_err-add_inputs.result c.from_residual-in_err-add_inputs.ensures.1 in
    let names = ap (map (λ s. s.now)) c.as_slice.ensures in
    rw (p.1, p.2) (inputs_refused _ (link_view c.args.line.now) _ c.args.script c.in_ok-linker.linker c.add_inputs.new.linker c.in_err-add_inputs.field-0.0 names c.in_ok-linker.ensures.names c.in_ok-linker.ensures.script c.in_ok-linker.ensures.modules c.in_err-add_inputs.ensures.added)

pub returns-in_err-add_inputs-clause-frame : goal.returns-in_err-add_inputs-clause-frame
returns-in_err-add_inputs-clause-frame g c =
    let p = err_from_is_err_and c.from_residual-in_err-add_inputs.result c.from_residual-in_err-add_inputs.ensures.1 in
    let names = ap (map (λ s. s.now)) c.as_slice.ensures in
    rw (p.1, p.2) (refused_left (IsInputListFailure (g.S.Store.files c.args.store.now)) c.args.script _ _ _ _ _ _ c.in_ok-linker.ensures.script c.in_ok-linker.ensures.modules c.in_err-add_inputs.field-0.0 names c.in_err-add_inputs.ensures.frame)

pub returns-in_err-finish-clause-linked : goal.returns-in_err-finish-clause-linked
returns-in_err-finish-clause-linked g c =
    let p = err_from_is_err_and c.from_residual-in_err-finish.result c.from_residual-in_err-finish.ensures.1 in
    let names = ap (map (λ s. s.now)) c.as_slice.ensures in
    let kept = c.in_ok-add_inputs.ensures.frame.config in
    let output : c.unwrap_or-output.result.now ≡ output_of (link_view c.args.line.now) = search rules in
    rw (p.1, p.2) (inputs_linked _ (link_view c.args.line.now) _ c.unwrap_or-output.result.now c.args.script c.in_ok-linker.linker c.add_inputs.new.linker (Err c.in_err-finish.field-0.0) names output c.in_ok-linker.ensures.names c.in_ok-linker.ensures.script (kept.script ∙ c.in_ok-linker.ensures.script) (kept.output ∙ c.in_ok-linker.ensures.output) c.in_ok-linker.ensures.modules c.in_ok-add_inputs.ensures.added c.in_err-finish.ensures.linked)

pub returns-in_err-finish-clause-frame : goal.returns-in_err-finish-clause-frame
returns-in_err-finish-clause-frame g c =
    let p = err_from_is_err_and c.from_residual-in_err-finish.result c.from_residual-in_err-finish.ensures.1 in
    rw (p.1, p.2) (linked_left (IsInputListFailure (g.S.Store.files c.args.store.now)) c.args.script _ _ _ _ _ _ c.in_ok-linker.ensures.script c.in_ok-linker.ensures.modules (Err c.in_err-finish.field-0.0) c.in_ok-add_inputs.ensures.frame)

pub returns-clause-linked : goal.returns-clause-linked
returns-clause-linked g c =
    let names = ap (map (λ s. s.now)) c.as_slice.ensures in
    let kept = c.in_ok-add_inputs.ensures.frame.config in
    let output : c.unwrap_or-output.result.now ≡ output_of (link_view c.args.line.now) = search rules in
    inputs_linked _ (link_view c.args.line.now) _ c.unwrap_or-output.result.now c.args.script c.in_ok-linker.linker c.add_inputs.new.linker (Ok c.in_ok-finish.field-0) names output c.in_ok-linker.ensures.names c.in_ok-linker.ensures.script (kept.script ∙ c.in_ok-linker.ensures.script) (kept.output ∙ c.in_ok-linker.ensures.output) c.in_ok-linker.ensures.modules c.in_ok-add_inputs.ensures.added c.in_ok-finish.ensures.linked

pub returns-clause-frame : goal.returns-clause-frame
returns-clause-frame g c = linked_left (IsInputListFailure (g.S.Store.files c.args.store.now)) c.args.script _ _ _ _ _ _ c.in_ok-linker.ensures.script c.in_ok-linker.ensures.modules (Ok c.in_ok-finish.field-0) c.in_ok-add_inputs.ensures.frame
