-- Texts in parts.
use Rattle.std.specs.Prelude.{ℕ, List}
use Rattle.std.specs.List.{flat_map}

-- the concatenation of texts
abbrev pub concat_texts : List (List ℕ) → List ℕ
concat_texts parts = flat_map (λ p. p) parts
