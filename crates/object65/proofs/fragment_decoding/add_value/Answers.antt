use Rattle.object65.specs.Scanning.{with_value}
use Rattle.std.proofs.lemmas.Grind.{common_steps}
use Rattle.std.proofs.Common.{arith}
use Rattle.object65.proofs.fragment_decoding.add_value.Goals as goal

pub fill_after-grown-requires : goal.fill_after-grown-requires
unfolding with_value
fill_after-grown-requires c = grind (arith, common_steps)
