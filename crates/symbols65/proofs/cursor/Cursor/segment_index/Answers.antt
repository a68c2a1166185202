use Rattle.std.proofs.Common.{◌∙◌}
use Rattle.symbols65.proofs.Segments.{place_is}
use Rattle.symbols65.proofs.cursor.Cursor.segment_index.Goals as goal

pub returns : goal.returns
returns c = rw (← c.self.view_is) (c.get_index_of.ensures.index ∙ place_is c.args.name.now c.self.inside c.self.invariant.names)
