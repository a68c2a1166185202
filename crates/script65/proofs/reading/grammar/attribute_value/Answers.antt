use Rattle.std.proofs.Common.{◌≡◌, ◌∙◌, ℕ, List, refl, rules, sym}
use Rattle.script65.specs.Attributes.{Block, ValueKind, a_sum}
use Rattle.script65.specs.Entries.{ConfigEntry, Entries, value_of}
use Rattle.script65.specs.SyntaxErrors.{attribute_move, attribute_value}
use Rattle.script65.specs.Tokens.{Lexeme}
use Rattle.script65.proofs.reading.grammar.attribute_value.Goals as goal

-- The value of an attribute that isn't a sum is one token.
one_token : (es : Entries) (b : Block) (e : ConfigEntry) (a : List ℕ) (k : ValueKind) (l : Lexeme) (at : ℕ)
    → (k ≡ a_sum → ⊥) → attribute_value es b e a k l at ≡ attribute_move es b e a at (value_of k l)
one_token es b e a a_sum l at no_sum = absurd (no_sum refl)
one_token es b e a _ l at no_sum = refl

pub returns : goal.returns
returns c = λ es.
    let x = c.args in
    let one = one_token es x.block x.entry x.row.0 x.row.1 x.lexeme x.at c.in_default.not-Sum in
    let value = sym c.value_of.ensures ∙ c.in-Err.is in
    rw (one, value) (search rules)

pub returns-in-Ok : goal.returns-in-Ok
returns-in-Ok c = λ es.
    let x = c.args in
    let one = one_token es x.block x.entry x.row.0 x.row.1 x.lexeme x.at c.in_default.not-Sum in
    let value = sym c.value_of.ensures ∙ c.in-Ok.is in
    rw (one, value) (search rules)
