use Rattle.std.proofs.Common.{arith}
use Rattle.syntax65.proofs.FirstToken.{prefix_here}
use Rattle.syntax65.proofs.lexing.positions.prefix_or_identifier_at.Goals as goal

pub returns-in-Some : goal.returns-in-Some
returns-in-Some c = record { longest = prefix_here c.args.first c.in-Some.size c.args.here.now c.in-Some.ensures; short = omega arith; value = tt }
