use Rattle.std.proofs.Common.{arith}
use Rattle.syntax65.proofs.FirstToken.{of_table}
use Rattle.syntax65.proofs.lexing.positions.is_identifier_byte.Goals as goal

pub returns : goal.returns
returns c = rw c.from.ensures (of_table c.args.b (omega arith))
