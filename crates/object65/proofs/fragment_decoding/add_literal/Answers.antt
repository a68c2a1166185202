use Rattle.object65.specs.Scanning.{with_literal}
use Rattle.std.proofs.lemmas.Grind.{common_steps}
use Rattle.std.proofs.Common.{arith}
use Rattle.object65.proofs.fragment_decoding.add_literal.Goals as goal

pub returns-in_err-check-3 : goal.returns-in_err-check-3
unfolding with_literal
returns-in_err-check-3 c = grind (arith, common_steps)

pub fill_after-grown-requires : goal.fill_after-grown-requires
unfolding with_literal
fill_after-grown-requires c = grind (arith, common_steps)
