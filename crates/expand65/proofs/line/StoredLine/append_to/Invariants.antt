use Rattle.std.proofs.Common.{◌≡◌, ◌++◌, drop}
use Rattle.syntax65.specs.Tokens.{lexemes}
use Rattle.expand65.specs.Replay.{split_lexemes}
use Rattle.expand65.proofs.line.StoredLine.append_to.Given as goal

abbrev pub invariant-loop-span : goal.invariant-loop-span
invariant-loop-span l = lexemes l.tokens.items ++ split_lexemes (drop l.span-index l.span-items) l.rest ≡ lexemes l.initial.tokens.items ++ split_lexemes l.self.spans l.self.bytes
