use Rattle.std.proofs.lemmas.Grind.{common_steps}
use Rattle.std.proofs.Common.{arith, ◌≡◌, ℕ, Option, ◌++◌, map, drop, ◌+◌, sym, ap, ◌∙◌, subst}
use Rattle.script65.specs.Placing.{size_of, unplaced_row}
use Rattle.script65.specs.declared.placing.row_placing.RowState.{RowState}
use Rattle.script65.proofs.Members.{map_more}
use Rattle.script65.proofs.placing.areas.unplaced_rows.Goals as goal

pub loop-row-preserved : goal.loop-row-preserved
loop-row-preserved c =
    subst (λ s. s ++ map (unplaced_row c.args.needs.now) (drop (c.loop-row.row-index + 1) c.args.rows.now) ≡ map (unplaced_row c.args.needs.now) c.args.rows.now) (sym c.in_ok-push.ensures.items)
    (map_more (unplaced_row c.args.needs.now) c.args.rows.now c.loop-row.row-index c.row-item.result c.loop-row.row_states.items _ c.loop-row-test.true c.row-item.is
    (ap (λ (o : Option ℕ). let s : RowState = record { size = o; run = 0; load = 0 } in s)
    (c.copied.ensures ∙ c.get.ensures.value ∙ c.in_ok-sizes.ensures c.as_slice.result.now ∙ ap (size_of c.args.needs.now) c.as_slice.ensures))
    c.loop-row.invariant)

pub returns : goal.returns
returns c = grind (arith, common_steps)
