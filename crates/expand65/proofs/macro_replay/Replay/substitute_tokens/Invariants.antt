use Rattle.std.proofs.Common.{◌≡◌, ◌≤◌, ◌++◌, drop, length}
use Rattle.syntax65.specs.Tokens.{lexemes}
use Rattle.expand65.specs.Replay.{tokens_in, substitution_of}
use Rattle.expand65.specs.Lines.{substituted_line}
use Rattle.expand65.proofs.macro_replay.Replay.substitute_tokens.Given as goal

abbrev pub invariant-loop-token : goal.invariant-loop-token
invariant-loop-token l = record {
  so_far : lexemes l.out.items ++ substituted_line (substitution_of l.self) (lexemes (drop l.token-index l.token-items)) ≡ substituted_line (substitution_of l.self) (tokens_in l.line);
  few : length l.out.items ≤ 4096;
}
