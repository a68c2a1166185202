use Rattle.std.proofs.Common.{◌≡◌, List, ℕ, ◌∷◌, Result, ap, refl, rules, subst, sym, ◌∙◌}
use Rattle.syntax65.specs.Tokens.{Lexeme, lexemes}
use Rattle.syntax65.specs.declared.lexing.tokens.AddressSize.{AddressSize}
use Rattle.syntax65.specs.declared.lexing.tokens.Punctuation.{Punctuation}
use Rattle.syntax65.specs.declared.lexing.tokens.Punctuation.TheVariants as mark
use Rattle.syntax65.specs.declared.lexing.tokens.TokenKind.{TokenKind}
use Rattle.syntax65.specs.declared.lexing.tokens.TokenKind.TheVariants as token
use Rattle.ast65.specs.declared.fault.AsmFault.{AsmFault}
use Rattle.ast65.specs.declared.language.Operand.{Operand}
use Rattle.ast65.specs.Parsing.{IsOperand, IsPlainOperand, RefinesParse}
use Rattle.ast65.proofs.reading.operands.operand.Goals.{in_default-kind-via-in-Symbol+in_default, in_default-kind-via-in_default}
use Rattle.ast65.proofs.reading.operands.operand.Goals as goal

-- An operand that begins with a symbol other than `#` and `(` has no prefix.
after_symbol : (m : Punctuation) (s : List ℕ) (ts : List Lexeme)
    → (m ≡ mark.Hash → ⊥) → (m ≡ mark.OpenParenthesis → ⊥)
    → IsOperand ((token.Symbol m, s) ∷ ts) ≡ IsPlainOperand ((token.Symbol m, s) ∷ ts)
after_symbol mark.Hash s ts no_hash no_open = absurd (no_hash refl)
after_symbol mark.OpenParenthesis s ts no_hash no_open = absurd (no_open refl)
after_symbol _ s ts no_hash no_open = refl

-- Neither has one that begins with a token that is no symbol and no prefix.
after_other : (k : TokenKind) (s : List ℕ) (ts : List Lexeme)
    → ((m : Punctuation) → k ≡ token.Symbol m → ⊥) → ((size : AddressSize) → k ≡ token.SizePrefix size → ⊥)
    → IsOperand ((k, s) ∷ ts) ≡ IsPlainOperand ((k, s) ∷ ts)
after_other (token.Symbol m) s ts no_symbol no_prefix = absurd (no_symbol m refl)
after_other (token.SizePrefix size) s ts no_symbol no_prefix = absurd (no_prefix size refl)
after_other _ s ts no_symbol no_prefix = refl

parses_plain : (ts us : List Lexeme) (r : Result Operand AsmFault) → ts ≡ us → IsOperand us ≡ IsPlainOperand us
    → RefinesParse r (IsPlainOperand ts) → RefinesParse r (IsOperand ts)
parses_plain ts us r same plain h =
    let of_us : RefinesParse r (IsPlainOperand us) = subst (λ (q : List Lexeme). RefinesParse r (IsPlainOperand q)) same h in
    let parsed = subst (λ (P : Result Operand AsmFault → Type 0). RefinesParse r P) (sym plain) of_us in
    subst (λ (q : List Lexeme). RefinesParse r (IsOperand q)) (sym same) parsed

pub returns-in_default-kind : goal.returns-in_default-kind
returns-in_default-kind c =
    let ts = lexemes c.args.tokens.now in
    let first = c.in-Some.first.now in
    let rest = lexemes c.in-Some.following.now in
    let begins : ts ≡ (first.kind, first.text.now) ∷ rest = ap lexemes c.in-Some.ensures.cases.0 in
    elim c.in_default-kind.branch [
      | in_default-kind-via-in-Symbol+in_default w ↦
          let is_symbol = ap (λ (k : TokenKind). (k, first.text.now) ∷ rest) w.in_default-kind.is in
          let plain = after_symbol w.in_default-kind.field-0 first.text.now rest (search rules) (search rules) in
          parses_plain ts _ _ (begins ∙ is_symbol) plain c.plain_operand.ensures
      | in_default-kind-via-in_default w ↦
          let plain = after_other first.kind first.text.now rest (search rules) w.in_default-kind.not-SizePrefix in
          parses_plain ts _ _ begins plain c.plain_operand.ensures
    ]
