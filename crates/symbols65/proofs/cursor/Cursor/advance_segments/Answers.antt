use Rattle.std.proofs.Common.{arith}
use Rattle.std.proofs.lemmas.Grind.{common_steps}
use Rattle.symbols65.proofs.cursor.Cursor.advance_segments.Goals as goal

pub returns-in_ok-push-in-PushSegment : goal.returns-in_ok-push-in-PushSegment
returns-in_ok-push-in-PushSegment c = grind (arith, common_steps)

pub invariant_of-self-in-PushSegment : goal.invariant_of-self-in-PushSegment
invariant_of-self-in-PushSegment c = grind (arith, common_steps)

pub invariant_of-self : goal.invariant_of-self
invariant_of-self c = grind (arith, common_steps)

pub returns-in-Some : goal.returns-in-Some
returns-in-Some c = grind (arith, common_steps)
