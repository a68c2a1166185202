use Rattle.std.proofs.Common.{◌≡◌, ◌++◌, ℕ, List, take}
use Rattle.syntax65.specs.Tokens.{lexemes}
use Rattle.expand65.specs.Replay.{split_lexemes}
use Rattle.expand65.specs.declared.line.StoredToken.{StoredToken}
use Rattle.expand65.proofs.line.StoredLine.copy_of.Given as goal

abbrev pub invariant-loop-token : goal.invariant-loop-token
invariant-loop-token l = (ws : List StoredToken) (bs : List ℕ) → split_lexemes (l.spans.items ++ ws) (l.bytes.items ++ bs) ≡ lexemes (take l.token-index l.tokens) ++ split_lexemes ws bs
