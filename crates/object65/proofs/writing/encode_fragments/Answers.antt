use Rattle.std.proofs.Common.{arith}
use Rattle.std.proofs.lemmas.Grind.{common_steps}
use Rattle.object65.proofs.writing.encode_fragments.Goals as goal

pub encode_fragment-requires : goal.encode_fragment-requires
encode_fragment-requires c = grind (arith, common_steps)

pub loop-fragment-preserved : goal.loop-fragment-preserved
loop-fragment-preserved c = grind (arith, common_steps)

pub returns : goal.returns
returns c = grind (arith, common_steps)
