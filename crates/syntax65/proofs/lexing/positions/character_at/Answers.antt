use Rattle.std.proofs.Common.{arith}
use Rattle.syntax65.proofs.FirstToken.{character_here, no_character_here}
use Rattle.syntax65.proofs.lexing.positions.character_at.Goals as goal
use Rattle.syntax65.proofs.lexing.positions.character_at.Goals.{else-here-gt2-via-then-here-gt2+else-here-eq39, else-here-gt2-via-else-here-gt2}

pub returns-then-here-eq39 : goal.returns-then-here-eq39
returns-then-here-eq39 c = λ first.
    record { longest = character_here first c.args.here.now c.requires c.if-here-gt2.true c.if-here-eq39.true; short = omega arith; value = tt }

pub returns-else-here-gt2 : goal.returns-else-here-gt2
returns-else-here-gt2 c = λ first.
    elim c.else-here-gt2.branch [
      | else-here-gt2-via-then-here-gt2+else-here-eq39 w ↦ no_character_here first c.args.here.now c.requires (λ lt e. w.if-here-eq39.false e)
      | else-here-gt2-via-else-here-gt2 w ↦ no_character_here first c.args.here.now c.requires (λ lt e. omega arith)
    ]
