use Rattle.std.proofs.Common.{arith}
use Rattle.std.proofs.lemmas.Grind.{common_steps}
use Rattle.script65.proofs.reading.keyword_tables.find_keyword.Goals as goal

pub loop-name-preserved : goal.loop-name-preserved
loop-name-preserved g c = grind (arith, common_steps)

pub returns-then-is_same_keyword : goal.returns-then-is_same_keyword
returns-then-is_same_keyword g c = grind (arith, common_steps)

pub returns : goal.returns
returns g c = grind (arith, common_steps)
