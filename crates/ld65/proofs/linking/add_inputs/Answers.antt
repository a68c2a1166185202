use Rattle.std.proofs.Common.{map, Ok, Err}
use Rattle.std.proofs.lemmas.Result.{err_from_is_err_and}
use Rattle.ld65.proofs.Frames.{after_others}
use Rattle.ld65.proofs.LineInputs.{following_more, name_at, name_there, refused_input}
use Rattle.ld65.proofs.FailureOrder.{next_input, of_inputs}
use Rattle.ld65.proofs.linking.add_inputs.Goals as goal

pub returns-in_err-add_input-clause-added : goal.returns-in_err-add_input-clause-added
returns-in_err-add_input-clause-added g c =
    let p = err_from_is_err_and c.from_residual.result c.from_residual.ensures.1 in
    let inv = c.loop-input_index.invariant in
    let names = map (λ s. s.now) c.args.inputs.now in
    rw (p.1, p.2) (refused_input _ names c.loop-input_index.input_index _ _ c.args.linker.now c.loop-input_index.linker c.add_input.new.linker c.in_err-add_input.field-0.0 inv.kept.files (name_at c.args.inputs.now c.loop-input_index.input_index _ c.loop-input_index-test.true) inv.kept.config.script inv.stands c.in_err-add_input.ensures.added)

pub returns-in_err-add_input-clause-frame : goal.returns-in_err-add_input-clause-frame
returns-in_err-add_input-clause-frame g c =
    let p = err_from_is_err_and c.from_residual.result c.from_residual.ensures.1 in
    let inv = c.loop-input_index.invariant in
    let names = map (λ s. s.now) c.args.inputs.now in
    rw (p.1, p.2) (after_others _ _ _ _ _ _ _ _ (Err c.in_err-add_input.field-0.0) (of_inputs _ _ names c.loop-input_index.input_index _ c.args.linker.now c.loop-input_index.linker (name_there c.args.inputs.now c.loop-input_index.input_index _ c.loop-input_index-test.true) inv.kept.files inv.kept.config.script inv.turned _ c.in_err-add_input.field-0.0) inv.kept c.in_err-add_input.ensures.frame)

pub loop-input_index-preserved : goal.loop-input_index-preserved
loop-input_index-preserved g c =
    let inv = c.loop-input_index.invariant in
    let names = map (λ s. s.now) c.args.inputs.now in
    record {
      kept = after_others _ _ _ _ _ _ _ _ (Ok tt) (λ modules stands. let m = inv.stands modules stands in (m.0, m.1, λ h. tt)) inv.kept c.in_ok-add_input.ensures.frame;
      stands = following_more _ names c.loop-input_index.input_index _ _ c.args.linker.now c.loop-input_index.linker c.add_input.new.linker inv.kept.files (name_at c.args.inputs.now c.loop-input_index.input_index _ c.loop-input_index-test.true) inv.kept.config.script inv.stands c.in_ok-add_input.ensures.added;
      turned = next_input _ _ names c.loop-input_index.input_index _ c.args.linker.now c.loop-input_index.linker (name_there c.args.inputs.now c.loop-input_index.input_index _ c.loop-input_index-test.true) inv.kept.files inv.kept.config.script inv.turned c.add_input.new.linker c.in_ok-add_input.ensures.added;
    }
