use Rattle.std.proofs.Common.{arith}
use Rattle.std.proofs.lemmas.Grind.{common_steps}
use Rattle.asm65.proofs.emission.values.file_bytes.Goals as goal

pub returns-in-Some-FileOffset : goal.returns-in-Some-FileOffset
returns-in-Some-FileOffset c = grind (arith, common_steps)
