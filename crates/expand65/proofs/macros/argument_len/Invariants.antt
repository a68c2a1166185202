use Rattle.std.proofs.Common.{◌≡◌, ◌≤◌, ◌+◌, drop}
use Rattle.syntax65.specs.Tokens.{lexemes}
use Rattle.expand65.specs.Macros.{argument_len}
use Rattle.expand65.proofs.macros.argument_len.Given as goal

abbrev pub invariant-loop-index : goal.invariant-loop-index
invariant-loop-index l = record {
  so_far : argument_len 0 (lexemes l.tokens) ≡ l.index + argument_len l.depth (lexemes (drop l.index l.tokens));
  depth : l.depth ≤ l.index;
}
