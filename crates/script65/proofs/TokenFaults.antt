-- An error by the grammar of the text before it is the first error of reading.
use Rattle.std.proofs.Common.{◌≡◌, ◌⊎◌, inl, inr, ℕ, Bool, true, false, List, [], ◌∷◌, Option, Some, None, Result, Ok, Err, refl, sym, ap, ◌∙◌, subst}
use Rattle.std.specs.Prelude.{IfSome, codes, if◌then◌else◌, nat_lt, not, unwrap_or, ◌&&◌, ◌+◌, ◌^◌, ⊤}
use Rattle.std.specs.Option.{option_map_or}
use Rattle.script65.specs.declared.fault.Fault.{Fault}
use Rattle.script65.specs.declared.fault.Fault.TheVariants.{AttributeMissing, AttributeTwice, Excluded, NameTwice, OutOfRange, SyntaxError, UnknownAttribute}
use Rattle.script65.specs.declared.fault.FaultAt.{FaultAt}
use Rattle.script65.specs.Attributes.{Block, SymbolType, ValueKind, Value, a_byte, a_file, a_sum, an_area, attributes, blocks, imported, memory, number_from, one_of, find_keyword, value_of_keyword, segments, symbols}
use Rattle.script65.specs.SyntaxErrors.{ParseState, accepted, rejected, token_move, move_at_offset, between_blocks, after_block_keyword, between_entries, after_name, between_attributes, after_keyword, before_value, before_term, after_term}
use Rattle.script65.specs.SyntaxErrors as breaks
use Rattle.script65.specs.Entries.{Entries, ConfigEntry, ParsedTerm, entry_fault, has_name, has_attribute, last_term_offset, no_entries, number_for, new_entry, parsed_term, role_for, sum_of_terms, symbol_entry_fault, value_of}
use Rattle.script65.specs.Faults.{fault_at}
use Rattle.script65.specs.FirstFaults.{HasFault, InAttribute, InBlock, InEntry, InSum, TokenFaultsAreExact, attribute_twice, first_term, is_sign, name_twice, next_term, unknown_attribute, wrong_end, wrong_number, wrong_sum, wrong_term}
use Rattle.script65.specs.Grammar.{IsOptionalToken, sign}
use Rattle.script65.specs.Tokens.{Lexeme, brace, colon, equals, minus, plus, semicolon, token, identifier}
use Rattle.script65.proofs.PrecedingText.{fault_of}
use Rattle.script65.proofs.TokenByToken.{Reads, stops}
use Rattle.script65.proofs.GrammarEquivalence.{IsFine, attributes_read, blocks_read, entries_read, equals_passes, is_read, passes, same_moves, sign_goes, steps, terms_read}

-- ---- Errors other than syntax errors.

fine_at : (fault : Fault) (offset : ℕ) → (fault ≡ SyntaxError → ⊥) → (at : ℕ) → ◌≡◌ {A = Result Entries FaultAt} (Err (fault_at fault offset)) (Err (fault_at SyntaxError at)) → ⊥
fine_at fault offset own at e = let same : fault_at fault offset ≡ fault_at SyntaxError at = cc in own (ap (λ (s : FaultAt). s.fault) same)

name_own : NameTwice ≡ SyntaxError → ⊥
name_own e = cc

unknown_own : UnknownAttribute ≡ SyntaxError → ⊥
unknown_own e = cc

twice_own : AttributeTwice ≡ SyntaxError → ⊥
twice_own e = cc

missing_own : AttributeMissing ≡ SyntaxError → ⊥
missing_own e = cc

range_own : OutOfRange ≡ SyntaxError → ⊥
range_own e = cc

excluded_own : Excluded ≡ SyntaxError → ⊥
excluded_own e = cc

symbol_own : (o : Option SymbolType) (valued : Bool) → IfSome (symbol_entry_fault o valued) (λ f. f ≡ SyntaxError → ⊥)
symbol_own None valued = missing_own
symbol_own (Some imported) true = excluded_own
symbol_own (Some imported) false = tt
symbol_own (Some _) true = tt
symbol_own (Some _) false = missing_own

row_own : (given : Bool) → IfSome (if given then None else Some AttributeMissing) (λ f. f ≡ SyntaxError → ⊥)
row_own true = tt
row_own false = missing_own

closing_own : (b : Block) (e : ConfigEntry) → IfSome (entry_fault b e) (λ f. f ≡ SyntaxError → ⊥)
closing_own memory e = area_own (not (has_attribute (codes "start") e && has_attribute (codes "size") e)) (nat_lt (2 ^ 32) (unwrap_or (number_for (codes "start") e) 0 + unwrap_or (number_for (codes "size") e) 0))
  where
    area_own : (lacks wide : Bool) → IfSome (if◌then◌else◌ {A = Option Fault} lacks (Some AttributeMissing) (if wide then Some OutOfRange else None)) (λ f. f ≡ SyntaxError → ⊥)
    area_own true wide = missing_own
    area_own false true = range_own
    area_own false false = tt
closing_own segments e = row_own (has_attribute (codes "load") e)
closing_own symbols e = symbol_own (role_for e) (has_attribute (codes "value") e)

end_own : (b : Block) (e : ConfigEntry) (fault : Fault) → entry_fault b e ≡ Some fault → fault ≡ SyntaxError → ⊥
end_own b e fault k = subst (λ o. IfSome o (λ f. f ≡ SyntaxError → ⊥)) k (closing_own b e)

pub fault_own : (bytes : List ℕ) (f : FaultAt) → HasFault bytes f → f.fault ≡ SyntaxError → ⊥
fault_own bytes _ (name_twice b es w at h e k) = name_own
fault_own bytes _ (unknown_attribute b es f w at h e k) = unknown_own
fault_own bytes _ (attribute_twice b es f w row at h e k given) = twice_own
fault_own bytes _ (wrong_end b es e fault at h s k) = end_own b e fault k
fault_own bytes _ (wrong_number b es e row at h k) = range_own
fault_own bytes _ (wrong_term b es e a ps subtracted start at h s k) = range_own
fault_own bytes _ (wrong_sum b es e a ps start at h t s k) = range_own

module _ (bytes : List ℕ) where
  -- ---- Reading after the text before an error.

  module _ (r : Result Entries FaultAt) (fine : IsFine bytes r) where
    block_read : (b : Block) (es : Entries) (at : ℕ) → InBlock bytes b es at → Reads bytes es (between_entries b) at r → Reads bytes no_entries between_blocks 0 r
    block_read b es at h k =
        blocks_read bytes no_entries h.before r fine 0 h.begin h.blocks_before
        (steps bytes h.before h.before between_blocks (after_block_keyword b) (identifier h.written) h.begin h.after_keyword r h.stands (ap (λ o. option_map_or (λ b. accepted h.before (after_block_keyword b)) o (rejected SyntaxError (token bytes h.begin).at)) h.known)
        (steps bytes h.before h.before (after_block_keyword b) (between_entries b) brace h.after_keyword h.start r h.opens refl
        (entries_read bytes b h.before es r fine h.start at h.entries_before k)))

    entry_read : (b : Block) (es : Entries) (e : ConfigEntry) (at : ℕ) → InEntry bytes b es e at → Reads bytes es (between_attributes b e) at r → Reads bytes no_entries between_blocks 0 r
    entry_read b es e at h k =
        block_read b es h.begin h.inside
        (steps bytes es es (between_entries b) (after_name b (new_entry e.name e.at)) (identifier e.name) h.begin h.after_name r h.name
        (ap (λ (x : Bool). if x then rejected NameTwice (token bytes h.begin).at else accepted es (after_name b (new_entry e.name (token bytes h.begin).at))) h.fresh ∙ ap (λ n. accepted es (after_name b (new_entry e.name n))) (sym h.place))
        (steps bytes es es (after_name b (new_entry e.name e.at)) (between_attributes b (new_entry e.name e.at)) colon h.after_name h.start r h.colon_after refl
        (attributes_read bytes es b (new_entry e.name e.at) e r fine h.start at h.gives k)))

    attribute_read : (b : Block) (es : Entries) (e : ConfigEntry) (row : List ℕ × ValueKind) (at : ℕ) → InAttribute bytes b es e row at → Reads bytes es (before_value b e row) at r → Reads bytes no_entries between_blocks 0 r
    attribute_read b es e row at h k =
        entry_read b es e h.begin h.inside
        (steps bytes es es (between_attributes b e) (after_keyword b e row) (identifier h.written) h.begin h.after_keyword r h.stands
        (ap (λ o. breaks.known_attribute es b e o (token bytes h.begin).at) h.known ∙ ap (λ (x : Bool). if x then rejected AttributeTwice (token bytes h.begin).at else accepted es (after_keyword b e row)) h.once)
        (begins h.equals_sign))
      where
        begins : IsOptionalToken bytes equals h.after_keyword at → Reads bytes es (after_keyword b e row) h.after_keyword r
        begins (inl s) = steps bytes es es (after_keyword b e row) (before_value b e row) equals h.after_keyword at r s refl k
        begins (inr same) = passes bytes es r fine (before_value b e row) (after_keyword b e row) h.after_keyword (equals_passes bytes es b e row.0 row.1 (token bytes h.after_keyword).lexeme (token bytes h.after_keyword).at) (subst (λ n. Reads bytes es (before_value b e row) n r) (sym same) k)

    -- before the next term of a sum
    sum_read : (b : Block) (es : Entries) (e : ConfigEntry) (a : List ℕ) (start at : ℕ) (ps : List ParsedTerm) (subtracted : Bool) → InAttribute bytes b es e (a, a_sum) start → InSum bytes start ps subtracted at → Reads bytes es (before_term b e a ps subtracted) at r → Reads bytes no_entries between_blocks 0 r
    sum_read b es e a start _ _ _ h first_term k =
        attribute_read b es e (a, a_sum) start h (same_moves bytes es es (before_value b e (a, a_sum)) (before_term b e a [] false) start r refl k)
    sum_read b es e a start _ _ _ h (next_term ps subtracted mid at terms s) k =
        attribute_read b es e (a, a_sum) start h
        (terms_read bytes es b e a [] ps false (before_value b e (a, a_sum)) start mid r terms refl
        (steps bytes es es (after_term b e a ps) (before_term b e a ps subtracted) (sign subtracted) mid at r s (sign_goes bytes es b e a ps subtracted (token bytes mid).at) k))

  -- ---- Each error.

  -- a sum without a value ends at a token that isn't a sign
  sum_stops : (es : Entries) (b : Block) (e : ConfigEntry) (a : List ℕ) (ps : List ParsedTerm) (l : Lexeme) (at : ℕ) → is_sign l ≡ false → sum_of_terms ps ≡ None → breaks.sign_or_end es b e a ps l at ≡ rejected OutOfRange (last_term_offset ps)
  sum_stops es b e a ps plus at s k = let never : true ≡ false = s in absurd cc
  sum_stops es b e a ps minus at s k = let never : true ≡ false = s in absurd cc
  sum_stops es b e a ps l at s k = ap (λ o. breaks.sum_end es b e a ps o l at) k

  -- a value that is no sum
  value_stops : (es : Entries) (b : Block) (e : ConfigEntry) (a : List ℕ) (value_kind : ValueKind) (l : Lexeme) (at : ℕ) → value_of value_kind l ≡ Err OutOfRange → breaks.attribute_value es b e a value_kind l at ≡ rejected OutOfRange at
  value_stops es b e a a_sum l at k = let never : ◌≡◌ {A = Result Value Fault} (Err SyntaxError) (Err OutOfRange) = k in absurd cc
  value_stops es b e a (number_from low high) l at k = ap (breaks.attribute_move es b e a at) k
  value_stops es b e a a_byte l at k = ap (breaks.attribute_move es b e a at) k
  value_stops es b e a (one_of keyword_set) l at k = ap (breaks.attribute_move es b e a at) k
  value_stops es b e a an_area l at k = ap (breaks.attribute_move es b e a at) k
  value_stops es b e a a_file l at k = ap (breaks.attribute_move es b e a at) k

  pub fault_reads : (f : FaultAt) → HasFault bytes f → Reads bytes no_entries between_blocks 0 (Err f)
  fault_reads _ (name_twice b es w at h e k) =
      block_read (Err (fault_at NameTwice (token bytes at).at)) (fine_at NameTwice (token bytes at).at name_own) b es at h
      (stops es (between_entries b) at NameTwice (token bytes at).at (ap (λ l. breaks.entry_name es b l (token bytes at).at) e ∙ ap (λ (x : Bool). if x then rejected NameTwice (token bytes at).at else accepted es (after_name b (new_entry w (token bytes at).at))) k))
  fault_reads _ (unknown_attribute b es f w at h e k) =
      entry_read (Err (fault_at UnknownAttribute (token bytes at).at)) (fine_at UnknownAttribute (token bytes at).at unknown_own) b es f at h
      (stops es (between_attributes b f) at UnknownAttribute (token bytes at).at (ap (λ l. breaks.attribute_or_end es b f l (token bytes at).at) e ∙ ap (λ o. breaks.known_attribute es b f o (token bytes at).at) k))
  fault_reads _ (attribute_twice b es f w row at h e k given) =
      entry_read (Err (fault_at AttributeTwice (token bytes at).at)) (fine_at AttributeTwice (token bytes at).at twice_own) b es f at h
      (stops es (between_attributes b f) at AttributeTwice (token bytes at).at
      (ap (λ l. breaks.attribute_or_end es b f l (token bytes at).at) e ∙ ap (λ o. breaks.known_attribute es b f o (token bytes at).at) k ∙ ap (λ (x : Bool). if x then rejected AttributeTwice (token bytes at).at else accepted es (after_keyword b f row)) given))
  fault_reads _ (wrong_end b es e fault at h s k) =
      entry_read (Err (fault_at fault (token bytes at).at)) (fine_at fault (token bytes at).at (end_own b e fault k)) b es e at h
      (stops es (between_attributes b e) at fault (token bytes at).at (ap (λ l. breaks.attribute_or_end es b e l (token bytes at).at) s ∙ ap (λ o. breaks.entry_end es b e o (token bytes at).at) k))
  fault_reads _ (wrong_number b es e row at h k) =
      attribute_read (Err (fault_at OutOfRange (token bytes at).at)) (fine_at OutOfRange (token bytes at).at range_own) b es e row at h
      (stops es (before_value b e row) at OutOfRange (token bytes at).at (value_stops es b e row.0 row.1 (token bytes at).lexeme (token bytes at).at k))
  fault_reads _ (wrong_term b es e a ps subtracted start at h s k) =
      sum_read (Err (fault_at OutOfRange (token bytes at).at)) (fine_at OutOfRange (token bytes at).at range_own) b es e a start at ps subtracted h s
      (stops es (before_term b e a ps subtracted) at OutOfRange (token bytes at).at (ap (breaks.add_term es b e a ps (token bytes at).at) k))
  fault_reads _ (wrong_sum b es e a ps start at h t s k) =
      attribute_read (Err (fault_at OutOfRange (last_term_offset ps))) (fine_at OutOfRange (last_term_offset ps) range_own) b es e (a, a_sum) start h
      (terms_read bytes es b e a [] ps false (before_value b e (a, a_sum)) start at (Err (fault_at OutOfRange (last_term_offset ps))) t refl
      (stops es (after_term b e a ps) at OutOfRange (last_term_offset ps) (sum_stops es b e a ps (token bytes at).lexeme (token bytes at).at s k)))

pub numbered_faults : TokenFaultsAreExact
numbered_faults bytes f = (fault_of bytes f, λ h. is_read bytes (Err f) (fault_reads bytes f h))
