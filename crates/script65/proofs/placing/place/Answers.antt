use Rattle.std.proofs.Common.{rules, arith, Ok}
use Rattle.std.proofs.lemmas.Grind.{common_steps}
use Rattle.script65.specs.declared.placement.Placement.{Placement}
use Rattle.script65.proofs.PlacementCorrectness.{placed_so}
use Rattle.script65.proofs.placing.place.Goals as goal

pub returns-in_err-check_rows-clause-placement : goal.returns-in_err-check_rows-clause-placement
returns-in_err-check_rows-clause-placement c = placed_so c.args.script.now c.args.needs.now c.from_residual.result (search rules)

pub returns-in_err-areas-clause-placement : goal.returns-in_err-areas-clause-placement
returns-in_err-areas-clause-placement c = placed_so c.args.script.now c.args.needs.now c.from_residual-in_err-areas.result (search rules)

pub returns-clause-placement : goal.returns-clause-placement
returns-clause-placement c =
    let p : Placement = record { areas = c.in_ok-areas.areas; rows = c.in_ok-row_placements.field-0 } in
    placed_so c.args.script.now c.args.needs.now (Ok p) (grind (arith, common_steps))

pub returns-clause-value : goal.returns-clause-value
returns-clause-value c = grind (arith, common_steps)

pub place_areas-requires-clause-count : goal.place_areas-requires-clause-count
place_areas-requires-clause-count c = grind (arith, common_steps)
