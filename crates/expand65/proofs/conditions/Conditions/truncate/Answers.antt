use Rattle.std.proofs.Common.{◌∙◌, ap, reverse}
use Rattle.expand65.specs.Macros.{outermost}
use Rattle.expand65.proofs.Tables.{reverse_take}
use Rattle.expand65.proofs.conditions.Conditions.truncate.Goals as goal

pub returns : goal.returns
returns c = ap reverse c.truncate.ensures.items ∙ reverse_take c.args.count c.self.inside.flags.items ∙ ap (outermost c.args.count) c.self.view_is
