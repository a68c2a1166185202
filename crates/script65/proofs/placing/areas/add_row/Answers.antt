use Rattle.std.proofs.Common.{ap, ◌∙◌}
use Rattle.std.specs.Option.{option_map}
use Rattle.std.specs.Prelude.{◌==◌}
use Rattle.script65.proofs.Members.{added_once, added_twice, with_if}
use Rattle.script65.proofs.placing.areas.add_row.Goals as goal

pub returns-in_ok-add_member-2 : goal.returns-in_ok-add_member-2
returns-in_ok-add_member-2 c = λ k. c.in_ok-add_member-2.ensures k ∙ ap (option_map (with_if (c.args.row.now.load == k) c.args.index)) (c.in_ok-add_member.ensures k) ∙ added_twice k c.args.index c.args.row.now _ c.if-row.true

pub returns-else-row : goal.returns-else-row
returns-else-row c = λ k. c.in_ok-add_member.ensures k ∙ added_once k c.args.index c.args.row.now _ c.if-row.false
