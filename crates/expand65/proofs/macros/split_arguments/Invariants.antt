use Rattle.std.proofs.Common.{◌≡◌, ◌≤◌, ◌-◌, ◌++◌, map, drop, length}
use Rattle.syntax65.specs.Tokens.{lexemes}
use Rattle.expand65.specs.Macros.{arguments_within, without_braces}
use Rattle.expand65.specs.Replay.{tokens_in}
use Rattle.expand65.proofs.macros.split_arguments.Given as goal

abbrev pub invariant-parts : goal.invariant-parts
invariant-parts l = record {
  so_far : map tokens_in l.lines ++ map without_braces (arguments_within 0 (lexemes (drop l.at l.tokens))) ≡ map without_braces (arguments_within 0 (lexemes l.tokens));
  inside : l.at ≤ length l.tokens;
}

abbrev pub decreases-parts : goal.decreases-parts
decreases-parts l = length l.tokens - l.at
