use Rattle.std.proofs.Common.{arith}
use Rattle.std.proofs.lemmas.Grind.{common_steps}
use Rattle.syntax65.proofs.lexing.lines.read_many.Goals as goal

pub returns-in_err-read_rest : goal.returns-in_err-read_rest
returns-in_err-read_rest c = grind (arith, common_steps)

pub returns : goal.returns
returns c = grind (arith, common_steps)
