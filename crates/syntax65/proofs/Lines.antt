-- The tokens of a line are split off in order.
use Rattle.std.proofs.lemmas.Grind.{common_steps}
use Rattle.std.proofs.Common.{◌≡◌, ℕ, ◌+◌, ◌≤◌, Bool, true, false, cond, List, [], ◌∷◌, ◌++◌, length, take, drop, Option, Some, refl, sym, ap, ◌∙◌, arith, append_assoc}
use Rattle.std.proofs.lemmas.List.{take-append-drop}
use Rattle.std.specs.List.{prefix_len}
use Rattle.std.specs.Prelude.{Err}
use Rattle.syntax65.specs.Forms.{is_blank, BeginsWithClass, HasFaultAt}
use Rattle.syntax65.specs.Faults.{is_lex_system_error}
use Rattle.base65.specs.Outcome.{Unless}
use Rattle.syntax65.specs.Tokens.{IsTokenSplit, Lexeme, without_leading_blanks, HasTokens, IsRead}
use Rattle.syntax65.specs.declared.lexing.positions.Class.TheVariants.{Blank}
use Rattle.syntax65.specs.declared.lexing.tokens.LexFault.{LexFault}

abbrev FirstFails : (ℕ → Bool) → List ℕ → Type 0
FirstFails p [] = Unit {0}
FirstFails p (x ∷ xs) = p x ≡ false

after_step : (p : ℕ → Bool) (x : ℕ) (xs : List ℕ) (b : Bool) → p x ≡ b → FirstFails p (drop (prefix_len p xs) xs) → FirstFails p (drop (cond b (1 + prefix_len p xs) 0) (x ∷ xs))
after_step p x xs true e h = grind (arith, common_steps)
after_step p x xs false e h = e

following : (p : ℕ → Bool) (xs : List ℕ) → FirstFails p (drop (prefix_len p xs) xs)
following p [] = tt
following p (x ∷ xs) = after_step p x xs (p x) refl (following p xs)

no_blank : (here : List ℕ) → FirstFails is_blank here → BeginsWithClass Blank here → ⊥
no_blank x h b = grind (arith, common_steps)

-- after the leading blanks there is no blank
pub no_blank_after : (line : List ℕ) → BeginsWithClass Blank (without_leading_blanks line) → ⊥
no_blank_after line = no_blank (without_leading_blanks line) (following is_blank line)

pub refuse : (first : Bool) (line here : List ℕ) (ts : List Lexeme) (fault : LexFault) → length line ≤ 4096 → HasFaultAt first here fault → HasTokens true line ts (Some fault) → Unless (is_lex_system_error fault) (IsRead line (Err fault))
refuse first line here ts x short h reads = grind (arith, common_steps)

-- a token is split off after the blanks
pub cut_off : (rest here text left : List ℕ) (n : ℕ) → here ≡ without_leading_blanks rest → text ≡ take n here → left ≡ drop n here → IsTokenSplit rest text left
cut_off rest here text left n e front back =
    let k = prefix_len is_blank rest in
    let whole : without_leading_blanks rest ≡ text ++ left = sym e ∙ sym (take-append-drop n here) ∙ rw (front, back) refl in
    (take k rest, sym (take-append-drop k rest) ∙ ap (λ l. take k rest ++ l) whole)

pub read_after : (line rest left : List ℕ) (a b : Bool) (ts : List Lexeme) (t : Lexeme) → ((us : List Lexeme) (end : Option LexFault) → HasTokens a rest us end → HasTokens true line (ts ++ us) end) → ((us : List Lexeme) (end : Option LexFault) → HasTokens b left us end → HasTokens a rest (t ∷ us) end) → (us : List Lexeme) (end : Option LexFault) → HasTokens b left us end → HasTokens true line ((ts ++ t ∷ []) ++ us) end
read_after line rest left a b ts t so_far next us end h = rw append_assoc (so_far (t ∷ us) end (next us end h))
