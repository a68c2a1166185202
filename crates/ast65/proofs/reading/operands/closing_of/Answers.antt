use Rattle.std.proofs.Common.{◌≡◌, false, List, [], ◌∷◌, length, get_or, Err, arith, rules}
use Rattle.std.specs.Prelude.{◌&&◌, codes}
use Rattle.syntax65.specs.declared.lexing.tokens.Token.{Token}
use Rattle.syntax65.specs.declared.lexing.tokens.TokenKind.TheVariants.{Identifier}
use Rattle.syntax65.specs.Tokens.{lexeme_of, lexemes}
use Rattle.ast65.specs.declared.fault.AsmFault.TheVariants.{NotUnderstood}
use Rattle.ast65.specs.Parsing.{closing_of, is_close, is_comma, is_identifier_named}
use Rattle.ast65.proofs.reading.operands.closing_of.Goals.{else-is_comma-via-then-is_comma+then-is_identifier_named+else-is_close-2 as no_close, else-is_comma-via-then-is_comma+else-is_identifier_named as no_x, else-is_comma-via-else-is_comma as no_comma}
use Rattle.ast65.proofs.reading.operands.closing_of.Goals.{else-is_close-3-via-then-is_close-3+then-is_comma-2+else-is_identifier_named-2 as no_y, else-is_close-3-via-then-is_close-3+else-is_comma-2 as no_later_comma, else-is_close-3-via-else-is_close-3 as no_first_close}
use Rattle.ast65.proofs.reading.operands.closing_of.Goals as goal

-- what a place after the end of a list of tokens has
abbrev no_token : Token
no_token = record { kind = Identifier; text = record { ref_ptr = (0, 0); now = [] } }

-- Three tokens that are neither `,x)` nor `),y`.
refused : (ts : List Token) → length ts ≡ 3
    → (is_comma (lexeme_of (get_or ts 0 no_token)) && is_identifier_named (lexeme_of (get_or ts 1 no_token)) (codes "x")
    && is_close (lexeme_of (get_or ts 2 no_token))) ≡ false
    → (is_close (lexeme_of (get_or ts 0 no_token)) && is_comma (lexeme_of (get_or ts 1 no_token))
    && is_identifier_named (lexeme_of (get_or ts 2 no_token)) (codes "y")) ≡ false
    → Err NotUnderstood ≡ closing_of (lexemes ts)
refused [] n x y = absurd (omega arith)
refused (a ∷ []) n x y = absurd (omega arith)
refused (a ∷ b ∷ []) n x y = absurd (omega arith)
refused (a ∷ b ∷ d ∷ []) n x y = rw (x, y)
refused (a ∷ b ∷ d ∷ e ∷ ts) n x y = absurd (omega arith)

pub returns-else-is_close-3 : goal.returns-else-is_close-3
returns-else-is_close-3 c =
    refused c.args.tokens.now (omega arith)
    (elim c.else-is_comma.branch [
      | no_close w ↦ search rules
      | no_x w ↦ search rules
      | no_comma w ↦ search rules
    ])
    (elim c.else-is_close-3.branch [
      | no_y w ↦ search rules
      | no_later_comma w ↦ search rules
      | no_first_close w ↦ search rules
    ])
