use Rattle.std.proofs.Common.{◌∙◌}
use Rattle.script65.proofs.Tables.{by_names, is_some-lookup}
use Rattle.script65.proofs.reading.entries.Table.has.Goals as goal

pub returns : goal.returns
returns c = rw (← c.self.view_is) (c.contains_key.ensures ∙ is_some-lookup _ _ c.self.inside.entries.entries (by_names (λ k. k.now) c.args.name.now c.self.inside.entries.entries c.self.invariant))
