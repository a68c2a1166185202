-- A text has exactly one result: a script or a first error.
use Rattle.std.proofs.Common.{arith, ◌≡◌, ◌≤◌, ◌<◌, ℕ, zero, suc, ◌+◌, Bool, true, false, List, [], ◌∷◌, length, length-drop, drop, Option, Some, None, refl, sym, ap, ◌∙◌, subst, ◌⊎◌, inl, inr}
use Rattle.std.specs.Prelude.{◌==◌, ◌&&◌, not, if◌then◌else◌, Result, Ok, Err}
use Rattle.std.specs.List.{list_any, take_while}
use Rattle.std.specs.Str.{is_utf8}
use Rattle.std.specs.Char.{is_ascii_digit, is_ascii_hexdigit}
use Rattle.base65.specs.Outcome.{◌>>=◌}
use Rattle.script65.specs.declared.fault.FaultAt.{FaultAt}
use Rattle.script65.specs.Faults.{fault_at}
use Rattle.script65.specs.declared.fault.Fault.TheVariants.{TooLong}
use Rattle.script65.specs.Attributes.{Block, ValueKind, Value}
use Rattle.script65.specs.Entries.{Entries, ConfigEntry, ParsedTerm, no_entries, sum_of_terms}
use Rattle.script65.specs.SyntaxErrors.{ParseState, Move, accepted, finished, rejected, token_move, between_blocks, after_block_keyword, between_entries, after_name, between_attributes, after_keyword, before_value, before_term, after_term, after_value, attribute_value, sum_end}
use Rattle.script65.proofs.TokenByToken.{Reads, next, ends, stops, ReadsText}
use Rattle.script65.specs.declared.script.Script.{Script}
use Rattle.script65.specs.declared.fault.ScriptFault.{ScriptFault}
use Rattle.script65.specs.Laws.{ReadingIsUnique}
use Rattle.script65.proofs.GrammarEquivalence.{Follows, follows, reads_of}
use Rattle.script65.specs.Scripts.{IsParseResult, IsScript, UnlessTooLong, is_too_long, script_from, with_line}
use Rattle.script65.specs.Tokens.{Lexeme, the_end, leading_token, gap, hex_after, punctuator, string_after, token, begins_with, is_letter, is_string_byte, is_identifier_byte, identifier_after, decimal_after, output, none}

-- ---- At most one result.

module _ (bytes : List ℕ) where
  pub reads_one : (es : Entries) (p : ParseState) (at : ℕ) (r q : Result Entries FaultAt) → Reads bytes es p at r → Reads bytes es p at q → r ≡ q
  reads_one _ _ _ _ u (next es fs p q at r e h) k = reads_one fs q (token bytes at).following r u h (subst (λ m. Follows bytes at m u) e (follows bytes es p at u k))
  reads_one _ _ _ _ u (ends es fs p at e) k = sym (subst (λ m. Follows bytes at m u) e (follows bytes es p at u k))
  reads_one _ _ _ _ u (stops es p at f offset e) k = sym (subst (λ m. Follows bytes at m u) e (follows bytes es p at u k))

  pub entries_one : (r q : Result Entries FaultAt) → ReadsText bytes r → ReadsText bytes q → r ≡ q
  entries_one r q = by (is_too_long bytes)
    where
      by : (x : Bool) → UnlessTooLong x r (Reads bytes no_entries between_blocks 0 r) → UnlessTooLong x q (Reads bytes no_entries between_blocks 0 q) → r ≡ q
      by true h k = h ∙ sym k
      by false h k = reads_one no_entries between_blocks 0 r q h k

pub one_reading : ReadingIsUnique
one_reading bytes r q h k = h.2 ∙ ap (λ x. with_line bytes (x >>= script_from)) (entries_one bytes h.0 k.0 (reads_of bytes h.0 h.1) (reads_of bytes k.0 k.1)) ∙ sym k.2

-- ---- At least one result.

-- a token that isn't the end has at least one byte
pub some_bytes : (b : ℕ) (bs : List ℕ) → 0 < (leading_token (b ∷ bs)).1
some_bytes b bs = by (is_letter b) (is_ascii_digit b) (b == 36) (b == 34) (b == 37)
  where
    hex : (ds : List ℕ) → 0 < (hex_after ds).1
    hex [] = omega arith
    hex (d ∷ ds) = omega arith

    closed : (x : Bool) (text : List ℕ) → 0 < (if◌then◌else◌ {A = Lexeme × ℕ} x (Rattle.script65.specs.Tokens.string text, 2 + length text) (none, 1)).1
    closed true text = omega arith
    closed false text = omega arith

    capital : (x : Bool) → 0 < (if◌then◌else◌ {A = Lexeme × ℕ} x (output, 2) (none, 1)).1
    capital true = omega arith
    capital false = omega arith

    by : (x y z u v : Bool) → 0 < (if x then identifier_after b (take_while is_identifier_byte bs) else if y then decimal_after b (take_while is_ascii_digit bs) else if z then hex_after (take_while is_ascii_hexdigit bs) else if u then string_after (take_while is_string_byte bs) bs else if v then (if begins_with 79 bs then (output, 2) else (none, 1)) else (punctuator b, 1)).1
    by true y z u v = omega arith
    by false true z u v = omega arith
    by false false true u v = hex (take_while is_ascii_hexdigit bs)
    by false false false true v = let text = take_while is_string_byte bs in closed (begins_with 34 (drop (length text) bs) && is_utf8 text && not (list_any (λ b. b == 37) text)) text
    by false false false false true = capital (begins_with 79 bs)
    by false false false false false = omega arith

-- the token is accepted
abbrev pub Leads : Move → Type 0
Leads (accepted es p) = Unit {0}
Leads _ = ⊥

no_value : (es : Entries) (b : Block) (e : ConfigEntry) (a : List ℕ) (t : ValueKind) (at : ℕ) → Leads (attribute_value es b e a t the_end at) → ⊥
no_value es b e a Rattle.script65.specs.Attributes.a_sum at h = h
no_value es b e a _ at h = h

no_sum : (es : Entries) (b : Block) (e : ConfigEntry) (a : List ℕ) (ps : List ParsedTerm) (v : Option Value) (at : ℕ) → Leads (sum_end es b e a ps v the_end at) → ⊥
no_sum es b e a ps (Some v) at h = h
no_sum es b e a ps None at h = h

pub end_leads : (es : Entries) (p : ParseState) (at : ℕ) → Leads (token_move es p the_end at) → ⊥
end_leads es between_blocks at h = h
end_leads es (after_block_keyword b) at h = h
end_leads es (between_entries b) at h = h
end_leads es (after_name b e) at h = h
end_leads es (between_attributes b e) at h = h
end_leads es (after_keyword b e row) at h = no_value es b e row.0 row.1 at h
end_leads es (before_value b e row) at h = no_value es b e row.0 row.1 at h
end_leads es (before_term b e a ps subtracted) at h = h
end_leads es (after_term b e a ps) at h = no_sum es b e a ps (sum_of_terms ps) at h
end_leads es (after_value b e) at h = h

module _ (bytes : List ℕ) where
  -- a token that isn't the end ends after its offset
  further : (at : ℕ) → ((token bytes at).lexeme ≡ the_end) ⊎ ((at < length bytes) × (at < (token bytes at).following))
  unfolding token
  further at = by (drop (at + gap false (drop at bytes)) bytes) refl
    where
      by : (here : List ℕ) → drop (at + gap false (drop at bytes)) bytes ≡ here → ((leading_token here).0 ≡ the_end) ⊎ ((at < length bytes) × (at < (at + gap false (drop at bytes)) + (leading_token here).1))
      by [] e = inl refl
      by (b ∷ bs) e = inr (omega (arith, length-drop (at + gap false (drop at bytes)) bytes, ap length e), omega (arith, some_bytes b bs))

  -- there is a result from each offset with at most `n` remaining bytes
  abbrev Some_from : ℕ → Type 0
  Some_from n = (at : ℕ) (es : Entries) (p : ParseState) → length bytes ≤ at + n → (r : Result Entries FaultAt) × Reads bytes es p at r

  some_step : (n at : ℕ) (es : Entries) (p : ParseState) → length bytes ≤ at + n → (at < length bytes → (k : ℕ) × Some_from k × (k + 1 ≡ n)) → (r : Result Entries FaultAt) × Reads bytes es p at r
  some_step n at es p enough rest = by (token_move es p (token bytes at).lexeme (token bytes at).at) refl
    where
      on_to : (fs : Entries) (q : ParseState) → token_move es p (token bytes at).lexeme (token bytes at).at ≡ accepted fs q → ((token bytes at).lexeme ≡ the_end) ⊎ ((at < length bytes) × (at < (token bytes at).following)) → (r : Result Entries FaultAt) × Reads bytes es p at r
      on_to fs q e (inl end) = absurd (end_leads es p (token bytes at).at (subst Leads (sym e ∙ ap (λ l. token_move es p l (token bytes at).at) end) tt))
      on_to fs q e (inr h) =
          let k = rest h.0 in
          let left : length bytes ≤ (token bytes at).following + k.0 = omega (arith, k.2) in
          let more = k.1 (token bytes at).following fs q left in
          (more.0, next es fs p q at more.0 e more.1)

      by : (m : Move) → token_move es p (token bytes at).lexeme (token bytes at).at ≡ m → (r : Result Entries FaultAt) × Reads bytes es p at r
      by (finished fs) e = (Ok fs, ends es fs p at e)
      by (rejected f offset) e = (Err (fault_at f offset), stops es p at f offset e)
      by (accepted fs q) e = on_to fs q e (further at)

  pub reads_some : (n : ℕ) → Some_from n
  reads_some zero at es p enough = some_step zero at es p enough (λ lt. absurd (omega arith))
  reads_some (suc n) at es p enough = some_step (suc n) at es p enough (λ lt. (n, reads_some n, omega arith))

  pub entries_some : (r : Result Entries FaultAt) × ReadsText bytes r
  entries_some = by (is_too_long bytes)
    where
      by : (x : Bool) → (r : Result Entries FaultAt) × UnlessTooLong x r (Reads bytes no_entries between_blocks 0 r)
      by true = (Err (fault_at TooLong 0), refl)
      by false = reads_some (length bytes) 0 no_entries between_blocks (omega arith)

-- ---- Texts that are too long.

-- all texts that are too long have the same error
pub long_texts : (text bytes : List ℕ) (q : Result Script ScriptFault) → is_too_long text ≡ true → is_too_long bytes ≡ true → IsScript text q → IsScript bytes q
long_texts text bytes q h k s =
    let long : Result Entries FaultAt = Err (fault_at TooLong 0) in
    let same : s.0 ≡ long = subst (λ b. UnlessTooLong b s.0 (IsParseResult text s.0)) h s.1 in
    (long, subst (λ b. UnlessTooLong b long (IsParseResult bytes long)) (sym k) refl, s.2 ∙ ap (λ d. with_line text (d >>= script_from)) same)
