use Rattle.std.proofs.Common.{◌∙◌}
use Rattle.script65.proofs.Tables.{by_names, position-same}
use Rattle.script65.proofs.reading.entries.Table.index_of.Goals as goal

pub returns : goal.returns
returns c = rw (← c.self.view_is) (c.get_index_of.ensures.index ∙ position-same _ _ _ _ c.self.inside.entries.entries (by_names (λ k. k.now) c.args.name.now c.self.inside.entries.entries c.self.invariant))
