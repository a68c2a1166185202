use Rattle.std.proofs.Common.{◌≡◌, ◌++◌, drop, length, take}
use Rattle.syntax65.specs.Tokens.{lexemes}
use Rattle.expand65.specs.Replay.{split_lexemes}
use Rattle.expand65.proofs.line.StoredLine.store_tokens.Given as goal

abbrev pub invariant-loop-span : goal.invariant-loop-span
invariant-loop-span l = record {
  count : l.count ≡ l.span-index;
  buffer : length l.buffer ≡ length l.initial.buffer;
  so_far : lexemes (take l.count l.buffer) ++ split_lexemes (drop l.span-index l.span-items) l.left ≡ split_lexemes l.self.spans l.self.bytes;
}
