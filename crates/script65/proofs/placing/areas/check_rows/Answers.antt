use Rattle.std.proofs.lemmas.Grind.{common_steps}
use Rattle.std.proofs.Common.{arith, sym, ap, ◌∙◌}
use Rattle.script65.specs.Placing.{has_row}
use Rattle.script65.proofs.Members.{need_step, need_stops}
use Rattle.script65.proofs.placing.areas.check_rows.Goals as goal

pub returns-then-not-contains : goal.returns-then-not-contains
returns-then-not-contains c = need_stops c.args.rows.now c.args.needs.now c.loop-need.need-index c.need-item.result c.in_ok-copy_of.field-0 c.loop-need-test.true c.need-item.is
    (ap (has_row c.args.rows.now) (sym c.as_slice.ensures) ∙ sym (c.in_ok-names.ensures c.as_slice.result.now) ∙ sym c.contains.ensures ∙ c.if-not-contains.true)
    (c.in_ok-copy_of.ensures ∙ c.as_slice-then-not-contains.ensures)
    c.loop-need.invariant

pub loop-need-preserved : goal.loop-need-preserved
loop-need-preserved c = need_step c.args.rows.now c.args.needs.now c.loop-need.need-index c.need-item.result c.loop-need-test.true c.need-item.is
    (ap (has_row c.args.rows.now) (sym c.as_slice.ensures) ∙ sym (c.in_ok-names.ensures c.as_slice.result.now) ∙ sym c.contains.ensures ∙ c.if-not-contains.false)
    c.loop-need.invariant

pub returns : goal.returns
returns c = grind (arith, common_steps)
