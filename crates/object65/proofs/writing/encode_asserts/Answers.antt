use Rattle.std.proofs.lemmas.Grind.{common_steps}
use Rattle.std.proofs.Common.{arith}
use Rattle.object65.proofs.writing.encode_asserts.Goals as goal

pub loop-assert-preserved : goal.loop-assert-preserved
loop-assert-preserved c = grind (arith, common_steps)

pub encode_assert-requires : goal.encode_assert-requires
encode_assert-requires c = grind (arith, common_steps)

pub returns : goal.returns
returns c = grind (arith, common_steps)
