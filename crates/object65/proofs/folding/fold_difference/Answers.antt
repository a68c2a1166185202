use Rattle.std.proofs.Common.{rules}
use Rattle.std.proofs.lemmas.Int.{wraps}
use Rattle.object65.proofs.folding.fold_difference.Goals as goal

pub returns-in-SectionOffset-SectionOffset : goal.returns-in-SectionOffset-SectionOffset
returns-in-SectionOffset-SectionOffset c = search (rules, wraps)

pub returns-in-SectionOffset-NumberNode : goal.returns-in-SectionOffset-NumberNode
returns-in-SectionOffset-NumberNode c = search (rules, wraps)
