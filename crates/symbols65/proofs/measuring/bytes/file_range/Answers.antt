use Rattle.std.proofs.lemmas.Grind.{common_steps}
use Rattle.std.proofs.Common.{arith}
use Rattle.symbols65.proofs.measuring.bytes.file_range.Goals as goal

pub returns-in_err-len-clause-part : goal.returns-in_err-len-clause-part
returns-in_err-len-clause-part c = grind (arith, common_steps)

pub returns-in_err-start-clause-part : goal.returns-in_err-start-clause-part
returns-in_err-start-clause-part c = grind (arith, common_steps)
