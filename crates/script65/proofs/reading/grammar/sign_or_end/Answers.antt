use Rattle.std.proofs.Common.{◌≡◌, ℕ, List, Some, refl, rules}
use Rattle.script65.specs.Attributes.{Block}
use Rattle.script65.specs.Entries.{ConfigEntry, Entries, ParsedTerm, sum_of_terms}
use Rattle.script65.specs.SyntaxErrors.{sign_or_end, sum_end}
use Rattle.script65.specs.Tokens.{Lexeme, minus, plus}
use Rattle.script65.proofs.reading.grammar.sign_or_end.Goals as goal

-- A token that is no sign ends a sum.
sum_ends : (es : Entries) (b : Block) (e : ConfigEntry) (a : List ℕ) (ps : List ParsedTerm)
    → (l : Lexeme) (at : ℕ) → (l ≡ plus → ⊥) → (l ≡ minus → ⊥)
    → sign_or_end es b e a ps l at ≡ sum_end es b e a ps (sum_of_terms ps) l at
sum_ends es b e a ps plus at no_plus no_minus = absurd (no_plus refl)
sum_ends es b e a ps minus at no_plus no_minus = absurd (no_minus refl)
sum_ends es b e a ps _ at no_plus no_minus = refl

pub returns-in-Some : goal.returns-in-Some
returns-in-Some c =
    let x = c.args in
    let ends = sum_ends x.entries.now x.block x.entry x.sum.0 x.sum.1 x.lexeme x.at
    c.in_default.not-Plus c.in_default.not-Minus in
    let value : sum_of_terms x.sum.1 ≡ Some c.in-Some.value = cc in
    rw (ends, value) (search rules)
