-- A line with a label is split into the label and the rest.
use Rattle.std.proofs.lemmas.Grind.{common_steps}
use Rattle.std.proofs.Common.{arith, ◌≡◌, ◌≢◌, ℕ, zero, suc, false, List, take, drop, refl}
use Rattle.std.proofs.lemmas.List.{take-map, drop-map}
use Rattle.syntax65.specs.Tokens.{Lexeme, lexemes}
use Rattle.syntax65.specs.declared.lexing.tokens.Token.{Token}
use Rattle.expand65.specs.LineStart.{is_mislabelled, label_len}
use Rattle.expand65.specs.Replay.{tokens_in, IsLabelSplit}
use Rattle.expand65.specs.declared.line.StoredLine.{StoredLine}

pub parts : (toks : List Token) (ts : List Lexeme) (len : ℕ) (a b : StoredLine) → lexemes toks ≡ ts → len ≡ label_len (lexemes toks) → len ≢ 0 → is_mislabelled (lexemes toks) ≡ false → tokens_in a ≡ lexemes (take len toks) → tokens_in b ≡ lexemes (drop len toks) → (n : ℕ) × IsLabelSplit ts n a b
parts toks ts zero a b e l z w p q = absurd (z refl)
parts toks ts (suc n) a b e l z w p q = grind (arith, common_steps, take-map, drop-map)
