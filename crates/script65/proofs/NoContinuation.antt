-- No text that begins with the tokens up to the token of the first error is a script.
use Rattle.std.proofs.Common.{◌≡◌, ◌∙◌, ◌⊎◌, inl, inr, ◌≤◌, ℕ, Bool, true, false, List, [], Option, Some, None, Result, Ok, Err, refl, sym, ap, subst, arith}
use Rattle.std.specs.Prelude.{⊤, if◌then◌else◌}
use Rattle.std.specs.Option.{option_map_or}
use Rattle.script65.specs.declared.fault.Fault.{Fault}
use Rattle.script65.specs.declared.fault.Fault.TheVariants.{AttributeTwice, NameTwice, OutOfRange, SyntaxError}
use Rattle.script65.specs.declared.fault.FaultAt.{FaultAt}
use Rattle.script65.specs.Attributes.{Block, ValueKind, Value, a_sum, attributes, blocks, find_keyword, value_of_keyword}
use Rattle.script65.specs.SyntaxErrors.{SyntaxErrorAt, ParseState, Move, here, later, accepted, finished, rejected, token_move, add_term, attribute_or_end, attribute_value, between_blocks, after_block_keyword, between_entries, after_name, between_attributes, after_keyword, before_value, before_term, after_term, after_value, block_brace, block_keyword, comma_or_next, entry_colon, entry_end, entry_name, equals_or_value, attribute_move, known_attribute, sign_or_end, sum_end}
use Rattle.script65.specs.Entries.{Entries, ConfigEntry, ParsedTerm, entry_fault, has_name, has_attribute, no_entries, new_entry, parsed_term, sum_of_terms, value_of}
use Rattle.script65.specs.Laws.{IsFoundAt, NoContinuation, SameTokens}
use Rattle.script65.specs.Tokens.{Lexeme, Token, brace, colon, comma, end_brace, equals, minus, plus, semicolon, the_end, token, identifier}
use Rattle.script65.proofs.ReadingUniqueness.{reads_one}
use Rattle.script65.proofs.TokenByToken.{Reads, next, stops}
use Rattle.script65.proofs.GrammarEquivalence.{read_of}

-- ---- An error is at its token, or a number is out of range.

abbrev pub IsAt : ℕ → Move → Type 0
IsAt at (accepted es p) = ⊤
IsAt at (finished es) = ⊤
IsAt at (rejected fault offset) = (offset ≡ at) ⊎ (fault ≡ OutOfRange)

block_word_at : (es : Entries) (l : Lexeme) (at : ℕ) → IsAt at (block_keyword es l at)
block_word_at es (identifier w) at = go (value_of_keyword w blocks)
  where
    go : (o : Option Block) → IsAt at (option_map_or (λ b. accepted es (after_block_keyword b)) o (rejected SyntaxError at))
    go None = inl refl
    go (Some b) = tt
block_word_at es the_end at = tt
block_word_at es _ at = inl refl

block_brace_at : (es : Entries) (b : Block) (l : Lexeme) (at : ℕ) → IsAt at (block_brace es b l at)
block_brace_at es b brace at = tt
block_brace_at es b _ at = inl refl

entry_name_at : (es : Entries) (b : Block) (l : Lexeme) (at : ℕ) → IsAt at (entry_name es b l at)
entry_name_at es b (identifier w) at = go (has_name w b es)
  where
    go : (x : Bool) → IsAt at (if x then rejected NameTwice at else accepted es (after_name b (new_entry w at)))
    go true = inl refl
    go false = tt
entry_name_at es b end_brace at = tt
entry_name_at es b _ at = inl refl

entry_colon_at : (es : Entries) (b : Block) (e : ConfigEntry) (l : Lexeme) (at : ℕ) → IsAt at (entry_colon es b e l at)
entry_colon_at es b e colon at = tt
entry_colon_at es b e _ at = inl refl

known_at : (es : Entries) (b : Block) (e : ConfigEntry) (row : Option (List ℕ × ValueKind)) (at : ℕ) → IsAt at (known_attribute es b e row at)
known_at es b e None at = inl refl
known_at es b e (Some row) at = go (has_attribute row.0 e)
  where
    go : (x : Bool) → IsAt at (if x then rejected AttributeTwice at else accepted es (after_keyword b e row))
    go true = inl refl
    go false = tt

entry_end_at : (es : Entries) (b : Block) (e : ConfigEntry) (o : Option Fault) (at : ℕ) → IsAt at (entry_end es b e o at)
entry_end_at es b e (Some fault) at = inl refl
entry_end_at es b e None at = tt

attribute_or_end_at : (es : Entries) (b : Block) (e : ConfigEntry) (l : Lexeme) (at : ℕ) → IsAt at (attribute_or_end es b e l at)
attribute_or_end_at es b e (identifier w) at = known_at es b e (find_keyword w (attributes b)) at
attribute_or_end_at es b e semicolon at = entry_end_at es b e (entry_fault b e) at
attribute_or_end_at es b e _ at = inl refl

give_at : (es : Entries) (b : Block) (e : ConfigEntry) (a : List ℕ) (at : ℕ) (r : Result Value Fault) → IsAt at (attribute_move es b e a at r)
give_at es b e a at (Ok v) = tt
give_at es b e a at (Err fault) = inl refl

add_part_at : (es : Entries) (b : Block) (e : ConfigEntry) (a : List ℕ) (ps : List ParsedTerm) (at : ℕ) (r : Result ParsedTerm Fault) → IsAt at (add_term es b e a ps at r)
add_part_at es b e a ps at (Ok p) = tt
add_part_at es b e a ps at (Err fault) = inl refl

attribute_value_at : (es : Entries) (b : Block) (e : ConfigEntry) (a : List ℕ) (t : ValueKind) (l : Lexeme) (at : ℕ) → IsAt at (attribute_value es b e a t l at)
attribute_value_at es b e a a_sum l at = add_part_at es b e a [] at (parsed_term false at l)
attribute_value_at es b e a t l at = give_at es b e a at (value_of t l)

equals_or_value_at : (es : Entries) (b : Block) (e : ConfigEntry) (row : List ℕ × ValueKind) (l : Lexeme) (at : ℕ) → IsAt at (equals_or_value es b e row l at)
equals_or_value_at es b e row equals at = tt
equals_or_value_at es b e row l at = attribute_value_at es b e row.0 row.1 l at

comma_or_next_at : (es : Entries) (b : Block) (e : ConfigEntry) (l : Lexeme) (at : ℕ) → IsAt at (comma_or_next es b e l at)
comma_or_next_at es b e comma at = tt
comma_or_next_at es b e l at = attribute_or_end_at es b e l at

sum_end_at : (es : Entries) (b : Block) (e : ConfigEntry) (a : List ℕ) (ps : List ParsedTerm) (v : Option Value) (l : Lexeme) (at : ℕ) → IsAt at (sum_end es b e a ps v l at)
sum_end_at es b e a ps (Some v) l at = comma_or_next_at es b _ l at
sum_end_at es b e a ps None l at = inr refl

sign_or_end_at : (es : Entries) (b : Block) (e : ConfigEntry) (a : List ℕ) (ps : List ParsedTerm) (l : Lexeme) (at : ℕ) → IsAt at (sign_or_end es b e a ps l at)
sign_or_end_at es b e a ps plus at = tt
sign_or_end_at es b e a ps minus at = tt
sign_or_end_at es b e a ps l at = sum_end_at es b e a ps (sum_of_terms ps) l at

pub move_at : (es : Entries) (p : ParseState) (l : Lexeme) (at : ℕ) → IsAt at (token_move es p l at)
move_at es between_blocks l at = block_word_at es l at
move_at es (after_block_keyword b) l at = block_brace_at es b l at
move_at es (between_entries b) l at = entry_name_at es b l at
move_at es (after_name b e) l at = entry_colon_at es b e l at
move_at es (between_attributes b e) l at = attribute_or_end_at es b e l at
move_at es (after_keyword b e row) l at = equals_or_value_at es b e row l at
move_at es (before_value b e row) l at = attribute_value_at es b e row.0 row.1 l at
move_at es (before_term b e a ps subtracted) l at = add_part_at es b e a ps at (parsed_term subtracted at l)
move_at es (after_term b e a ps) l at = sign_or_end_at es b e a ps l at
move_at es (after_value b e) l at = comma_or_next_at es b e l at

-- ---- Other texts.

pub after_place : (bytes : List ℕ) (at : ℕ) → at ≤ (token bytes at).following
unfolding token
after_place bytes at = omega arith

module _ (bytes : List ℕ) where
  -- the offset of the error; each text with the same tokens up to this offset has the same error
  record Found (es : Entries) (p : ParseState) (at : ℕ) (f : FaultAt) : Type 0 where
    offset : ℕ
    from : at ≤ offset
    found : IsFoundAt bytes f offset
    carried : (other : List ℕ) → SameTokens bytes other offset → Reads other es p at (Err f)

  found : (es : Entries) (p : ParseState) (at : ℕ) (f : FaultAt) → SyntaxErrorAt bytes es p at f → Found es p at f
  found _ _ _ _ (later es fs p q at f e rest) =
      let r = found fs q (token bytes at).following f rest in
      let before : at ≤ r.offset = omega (arith, after_place bytes at, r.from) in
      record {
        offset = r.offset;
        from = before;
        found = r.found;
        carried = λ other same.
            let t = same at before in
            next es fs p q at (Err f) (ap (λ (x : Token). token_move es p x.lexeme x.at) t ∙ e) (subst (λ n. Reads other fs q n (Err f)) (sym (ap (λ (x : Token). x.following) t)) (r.carried other same));
      }
  found _ _ _ _ (here es p at fault offset e) = record {
    offset = at;
    from = omega arith;
    found = subst (IsAt (token bytes at).at) e (move_at es p (token bytes at).lexeme (token bytes at).at);
    carried = λ other same. stops es p at fault offset (ap (λ (x : Token). token_move es p x.lexeme x.at) (same at (omega arith)) ∙ e);
  }

pub no_continuation : NoContinuation
no_continuation bytes f is =
    let r = found bytes no_entries between_blocks 0 f is in (
      r.offset,
      r.found,
      λ other es same written. (let both : ◌≡◌ {A = Result Entries FaultAt} (Ok es) (Err f) = reads_one other no_entries between_blocks 0 (Ok es) (Err f) (read_of other (Ok es) written) (r.carried other same) in absurd cc),
    )
