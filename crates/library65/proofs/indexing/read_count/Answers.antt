use Rattle.std.proofs.Common.{arith}
use Rattle.std.proofs.lemmas.Grind.{common_steps}
use Rattle.library65.proofs.indexing.read_count.Goals as goal

pub returns-then-n-lt5-clause-read : goal.returns-then-n-lt5-clause-read
returns-then-n-lt5-clause-read g c = grind (arith, common_steps)
