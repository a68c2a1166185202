use Rattle.std.proofs.Common.{◌∙◌, sym}
use Rattle.std.specs.Str.{bytes_eq}
use Rattle.link65.proofs.SegmentLemmas.{position_map}
use Rattle.link65.proofs.building.segment_index.Goals as goal

pub returns-clause-index : goal.returns-clause-index
returns-clause-index c = c.get_index_of.ensures.index ∙ sym (position_map (bytes_eq c.args.name.now) (λ n. n.items) c.args.names.now.keys)
