use Rattle.std.proofs.Common.{◌≡◌, ◌+◌, drop, false}
use Rattle.script65.specs.Tokens.{gap}
use Rattle.script65.proofs.reading.tokens.gap_len.Given as goal

abbrev pub invariant-loop-i : goal.invariant-loop-i
invariant-loop-i l = l.i + gap l.comment (drop l.i l.bytes) ≡ gap false l.bytes
