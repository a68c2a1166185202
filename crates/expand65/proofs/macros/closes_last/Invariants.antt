use Rattle.std.proofs.Common.{◌≡◌, ◌≤◌, drop}
use Rattle.syntax65.specs.Tokens.{lexemes}
use Rattle.expand65.specs.Macros.{closes_last}
use Rattle.expand65.proofs.macros.closes_last.Given as goal

abbrev pub invariant-loop-index : goal.invariant-loop-index
invariant-loop-index l = record {
  so_far : closes_last 0 (lexemes l.tokens) ≡ closes_last l.depth (lexemes (drop l.index l.tokens));
  depth : l.depth ≤ l.index;
}
