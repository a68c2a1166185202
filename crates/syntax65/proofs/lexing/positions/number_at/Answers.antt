use Rattle.std.proofs.Common.{arith}
use Rattle.syntax65.proofs.FirstToken.{number_here}
use Rattle.syntax65.proofs.lexing.positions.number_at.Goals as goal

pub returns-in-Some : goal.returns-in-Some
returns-in-Some c = λ first. record {
  longest = number_here first c.args.here.now c.in-Some.value c.in-Some.len c.requires c.in-Some.ensures.0;
  short = omega arith;
  value = c.in-Some.ensures.1;
}
