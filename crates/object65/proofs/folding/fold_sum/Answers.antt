use Rattle.std.proofs.Common.{rules}
use Rattle.std.proofs.lemmas.Int.{wraps}
use Rattle.object65.proofs.folding.fold_sum.Goals as goal

pub returns-in-SectionOffset-NumberNode : goal.returns-in-SectionOffset-NumberNode
returns-in-SectionOffset-NumberNode c = search (rules, wraps)
