use Rattle.std.proofs.Common.{◌≤◌, ◌<◌, length, ◌+◌, ◌-◌, ◌*◌}
use Rattle.syntax65.specs.Tokens.{lexemes}
use Rattle.syntax65.proofs.Phrases.{IsPart}
use Rattle.syntax65.proofs.expressions.reading.+expr.Given as goal

abbrev pub decreases-read_negated : goal.decreases-read_negated
decreases-read_negated l = 16 * l.depth_left + 1

abbrev pub decreases-read_enclosed : goal.decreases-read_enclosed
decreases-read_enclosed l = 16 * l.depth_left + 1

abbrev pub decreases-read_prefixed : goal.decreases-read_prefixed
decreases-read_prefixed l = 16 * l.depth_left + 1

abbrev pub decreases-read_operand : goal.decreases-read_operand
decreases-read_operand l = 16 * l.depth_left + 2

abbrev pub decreases-read_level : goal.decreases-read_level
decreases-read_level l = 16 * l.depth_left + 3 + l.level

abbrev pub decreases-read_whole : goal.decreases-read_whole
decreases-read_whole l = 16 * l.depth_left + 9

abbrev pub invariant-read_level-operators : goal.invariant-read_level-operators
invariant-read_level-operators l = record {
  part : IsPart (lexemes l.tokens) l.depth_left l.level l.at l.end l.left;
  further : l.at < l.end;
  within : l.end ≤ length l.tokens;
}

abbrev pub decreases-read_level-operators : goal.decreases-read_level-operators
decreases-read_level-operators l = length l.tokens - l.end
