use Rattle.std.proofs.Common.{◌∙◌}
use Rattle.symbols65.proofs.InternedNames.{any_swapped}
use Rattle.symbols65.proofs.table.symbols.Symbols.is_zero_page.Goals as goal

pub returns : goal.returns
returns c = c.contains.ensures ∙ any_swapped (λ k. k.items) c.args.name.now c.args.self.now.zero_page.keys
