use Rattle.std.proofs.Common.{◌∙◌}
use Rattle.symbols65.proofs.measuring.trees.search_statement.Goals as goal

pub returns-in_err-search_constants : goal.returns-in_err-search_constants
returns-in_err-search_constants c = c.search_constants.ensures ∙ c.loop-item.invariant
