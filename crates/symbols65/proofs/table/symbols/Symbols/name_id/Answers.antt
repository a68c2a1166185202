use Rattle.std.proofs.Common.{sym, ◌∙◌}
use Rattle.std.specs.Str.{bytes_eq}
use Rattle.ast65.proofs.Lists.{position_mapped}
use Rattle.symbols65.proofs.table.symbols.Symbols.name_id.Goals as goal

pub returns : goal.returns
returns c = c.get_index_of.ensures.index ∙ sym (position_mapped (bytes_eq c.args.name.now) (λ k. k.items) c.args.self.now.interned_names.keys)
