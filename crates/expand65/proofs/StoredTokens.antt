-- The stored tokens of a line.
use Rattle.std.proofs.Common.{◌≡◌, ◌++◌, ℕ, List}
use Rattle.syntax65.specs.Tokens.{Lexeme}
use Rattle.expand65.specs.Replay.{split_lexemes}
use Rattle.expand65.specs.declared.line.StoredToken.{StoredToken}

-- splitting the bytes results in these tokens, whatever follows them
abbrev pub AreKept : List StoredToken → List ℕ → List Lexeme → Type 0
AreKept spans bytes ts = (ws : List StoredToken) (bs : List ℕ) → split_lexemes (spans ++ ws) (bytes ++ bs) ≡ ts ++ split_lexemes ws bs
