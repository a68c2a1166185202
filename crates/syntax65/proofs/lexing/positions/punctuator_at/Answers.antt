use Rattle.std.proofs.Common.{arith}
use Rattle.syntax65.proofs.UniqueKind.{long_here, short_here, no_mark_here}
use Rattle.syntax65.proofs.lexing.positions.punctuator_at.Goals as goal

pub returns-in-Some : goal.returns-in-Some
returns-in-Some c = λ first.
    record { longest = long_here first c.args.here.now c.in-Some.punctuator c.requires (c.in-Some.ensures first); short = omega arith; value = tt }

pub returns-in-Some-punctuator_of_one : goal.returns-in-Some-punctuator_of_one
returns-in-Some-punctuator_of_one c = λ first.
    record { longest = short_here first c.args.here.now c.in-Some-punctuator_of_one.punctuator c.requires c.in-Some-punctuator_of_one.ensures c.in_default.ensures; short = omega arith; value = tt }

pub returns-in-None : goal.returns-in-None
returns-in-None c = λ first. no_mark_here first c.args.here.now c.requires c.in-None.ensures c.in_default.ensures
