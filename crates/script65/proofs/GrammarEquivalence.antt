-- Reading token by token is equivalent to the grammar.
use Rattle.std.proofs.Common.{◌≡◌, ℕ, Bool, true, false, List, [], ◌∷◌, Option, Some, None, refl, sym, ap, ◌∙◌, subst, ◌⊎◌, inl, inr}
use Rattle.std.specs.Prelude.{Result, Ok, Err, if◌then◌else◌}
use Rattle.std.specs.Option.{option_map_or}
use Rattle.std.proofs.Common.{◌++◌, append_assoc}
use Rattle.script65.specs.declared.fault.FaultAt.{FaultAt}
use Rattle.script65.specs.Faults.{fault_at}
use Rattle.script65.specs.declared.fault.Fault.{Fault}
use Rattle.script65.specs.declared.fault.Fault.TheVariants.{SyntaxError, NameTwice, AttributeTwice}
use Rattle.script65.specs.Attributes.{Block, ValueKind, Value, a_sum, a_byte, number_from, one_of, an_area, a_file, attributes, blocks, find_keyword, value_of_keyword}
use Rattle.script65.specs.Entries.{Entries, ConfigEntry, AttributeValue, ParsedTerm, entry_fault, has_attribute, has_name, no_entries, new_entry, parsed_term, sum_of_terms, value_of, with_entry, with_attribute}
use Rattle.script65.specs.SyntaxErrors.{ParseState, Move, SyntaxErrorAt, later, here, accepted, finished, rejected, token_move, move_at_offset, between_blocks, after_block_keyword, between_entries, after_name, between_attributes, after_keyword, before_value, before_term, after_term, after_value}
use Rattle.script65.specs.SyntaxErrors as breaks
use Rattle.script65.specs.Grammar.{TokenAt, IsOptionalToken, IsTerm, AreTerms, sign, one, more, IsValue, IsAttribute, AreAttributes, no_attribute, attribute, IsEntry, AreEntries, no_entry, entry, IsBlock, AreBlocks, no_block, block, MatchesGrammar}
use Rattle.script65.specs.Scripts.{HasEntries, IsParseResult, UnlessTooLong, is_too_long}
use Rattle.script65.specs.Tokens.{Lexeme, token, identifier, colon, semicolon, comma, equals, plus, minus, brace, end_brace, the_end}
use Rattle.script65.proofs.TokenByToken.{Reads, ReadsText, next, ends, stops}

apart : {A B : Type 0} (x : A) (y : B) → ◌≡◌ {A = Result A B} (Ok x) (Err y) → ⊥
apart x y h = cc

module _ (bytes : List ℕ) where
  -- ---- Errors.

  breaks_reads : (es : Entries) (p : ParseState) (at : ℕ) (f : FaultAt) → SyntaxErrorAt bytes es p at f → Reads bytes es p at (Err f)
  breaks_reads _ _ _ f (later es fs p q at g e h) = next es fs p q at (Err f) e (breaks_reads fs q (token bytes at).following f h)
  breaks_reads _ _ _ _ (here es p at fault offset e) = stops es p at fault offset e

  reads_breaks : (es : Entries) (p : ParseState) (at : ℕ) (r : Result Entries FaultAt) → Reads bytes es p at r → (f : FaultAt) → r ≡ Err f → SyntaxErrorAt bytes es p at f
  reads_breaks _ _ _ _ (next es fs p q at r e h) f same = later es fs p q at f e (reads_breaks fs q (token bytes at).following r h f same)
  reads_breaks _ _ _ _ (ends es fs p at e) f same = absurd cc
  reads_breaks _ _ _ _ (stops es p at fault offset e) f same = let is : fault_at fault offset ≡ f = cc in subst (SyntaxErrorAt bytes es p at) is (here es p at fault offset e)

  -- ---- A text in the grammar is read.

  -- the result after a move
  abbrev pub Follows : ℕ → Move → Result Entries FaultAt → Type 0
  Follows at (accepted fs q) r = Reads bytes fs q (token bytes at).following r
  Follows at (finished fs) r = r ≡ Ok fs
  Follows at (rejected f offset) r = r ≡ Err (fault_at f offset)

  pub follows : (es : Entries) (p : ParseState) (at : ℕ) (r : Result Entries FaultAt) → Reads bytes es p at r → Follows at (move_at_offset bytes es p at) r
  follows _ _ _ _ (next es fs p q at r e h) = subst (λ m. Follows at m r) (sym e) h
  follows _ _ _ _ (ends es fs p at e) = subst (λ m. Follows at m (Ok fs)) (sym e) refl
  follows _ _ _ _ (stops es p at f offset e) = subst (λ m. Follows at m (Err (fault_at f offset))) (sym e) refl

  -- states with equal moves have equal results
  pub same_moves : (es fs : Entries) (p q : ParseState) (at : ℕ) (r : Result Entries FaultAt) → move_at_offset bytes es p at ≡ move_at_offset bytes fs q at → Reads bytes fs q at r → Reads bytes es p at r
  same_moves es _ p _ _ _ e (next fs gs q s at r h k) = next es gs p s at r (e ∙ h) k
  same_moves es _ p _ _ _ e (ends fs gs q at h) = ends es gs p at (e ∙ h)
  same_moves es _ p _ _ _ e (stops fs q at f offset h) = stops es p at f offset (e ∙ h)

  -- reading one token of the text
  pub steps : (es fs : Entries) (p q : ParseState) (l : Lexeme) (at to : ℕ) (r : Result Entries FaultAt) → TokenAt bytes l at to → token_move es p l (token bytes at).at ≡ accepted fs q → Reads bytes fs q to r → Reads bytes es p at r
  steps es fs p q l at to r s e k = next es fs p q at r (ap (λ l. token_move es p l (token bytes at).at) s.lexeme ∙ e) (subst (λ n. Reads bytes fs q n r) (sym s.following) k)

  -- the moves are equal, or the first rejects the token with a syntax error
  abbrev Either : Move → Move → ℕ → Type 0
  Either m n at = (n ≡ m) ⊎ (m ≡ rejected SyntaxError at)

  -- the result is no syntax error
  abbrev pub IsFine : Result Entries FaultAt → Type 0
  IsFine r = (at : ℕ) → r ≡ Err (fault_at SyntaxError at) → ⊥

  pub passes : (es : Entries) (r : Result Entries FaultAt) (fine : IsFine r) (p q : ParseState) (at : ℕ) → Either (move_at_offset bytes es p at) (move_at_offset bytes es q at) (token bytes at).at → Reads bytes es p at r → Reads bytes es q at r
  passes es r fine p q at (inl same) h = same_moves es es q p at r same h
  passes es r fine p q at (inr e) h = absurd (fine (token bytes at).at (subst (λ m. Follows at m r) e (follows es p at r h)))

  module _ (es : Entries) (b : Block) (e : ConfigEntry) (a : List ℕ) where
    pub sign_goes : (ps : List ParsedTerm) (subtracted : Bool) (at : ℕ) → breaks.sign_or_end es b e a ps (sign subtracted) at ≡ accepted es (before_term b e a ps subtracted)
    sign_goes ps false at = refl
    sign_goes ps true at = refl

    pub terms_read : (ps qs : List ParsedTerm) (subtracted : Bool) (p : ParseState) (at to : ℕ) (r : Result Entries FaultAt) → AreTerms bytes subtracted qs at to → move_at_offset bytes es p at ≡ breaks.add_term es b e a ps (token bytes at).at (parsed_term subtracted (token bytes at).at (token bytes at).lexeme) → Reads bytes es (after_term b e a (ps ++ qs)) to r → Reads bytes es p at r
    terms_read ps _ _ p _ _ r (one subtracted q at to t) same k =
        let made : parsed_term subtracted (token bytes at).at (token bytes at).lexeme ≡ Ok q = ap (parsed_term subtracted (token bytes at).at) t.stands.lexeme ∙ t.part in
        next es es p (after_term b e a (ps ++ q ∷ [])) at r (same ∙ ap (breaks.add_term es b e a ps (token bytes at).at) made) (subst (λ n. Reads bytes es (after_term b e a (ps ++ q ∷ [])) n r) (sym t.stands.following) k)
    terms_read ps _ _ p _ _ r (more subtracted then_subtracted q qs at mid start to t s rest) same k =
        let made : parsed_term subtracted (token bytes at).at (token bytes at).lexeme ≡ Ok q = ap (parsed_term subtracted (token bytes at).at) t.stands.lexeme ∙ t.part in
        let all : Reads bytes es (after_term b e a ((ps ++ q ∷ []) ++ qs)) to r = subst (λ l. Reads bytes es (after_term b e a l) to r) (sym (append_assoc ps (q ∷ []) qs)) k in
        next es es p (after_term b e a (ps ++ q ∷ [])) at r (same ∙ ap (breaks.add_term es b e a ps (token bytes at).at) made)
        (subst (λ n. Reads bytes es (after_term b e a (ps ++ q ∷ [])) n r) (sym t.stands.following)
        (steps es es (after_term b e a (ps ++ q ∷ [])) (before_term b e a (ps ++ q ∷ []) then_subtracted) (sign then_subtracted) mid start r s (sign_goes (ps ++ q ∷ []) then_subtracted (token bytes mid).at)
        (terms_read (ps ++ q ∷ []) qs then_subtracted (before_term b e a (ps ++ q ∷ []) then_subtracted) start to r rest refl all)))

    -- a sum ends at a token that isn't a sign
    sum_passes : (ps : List ParsedTerm) (v : Value) (l : Lexeme) (at : ℕ) → sum_of_terms ps ≡ Some v → Either (breaks.comma_or_next es b (with_attribute (record { identifier = a; value = v; parsed_terms = ps }) e) l at) (breaks.sign_or_end es b e a ps l at) at
    sum_passes ps v plus at h = inr refl
    sum_passes ps v minus at h = inr refl
    sum_passes ps v l at h = inl (ap (λ o. breaks.sum_end es b e a ps o l at) h)

    comma_passes : (l : Lexeme) (at : ℕ) → Either (breaks.attribute_or_end es b e l at) (breaks.comma_or_next es b e l at) at
    comma_passes comma at = inr refl
    comma_passes l at = inl refl

    pub equals_passes : (value_kind : ValueKind) (l : Lexeme) (at : ℕ) → Either (breaks.attribute_value es b e a value_kind l at) (breaks.equals_or_value es b e (a, value_kind) l at) at
    equals_passes a_sum equals at = inr refl
    equals_passes value_kind equals at = inr refl
    equals_passes value_kind l at = inl refl

  plain_value : (es : Entries) (b : Block) (e : ConfigEntry) (g : AttributeValue) (value_kind : ValueKind) (r : Result Entries FaultAt) (fine : IsFine r) (at to : ℕ) (l : Lexeme) → TokenAt bytes l at to → breaks.attribute_value es b e g.identifier value_kind l (token bytes at).at ≡ breaks.attribute_move es b e g.identifier (token bytes at).at (value_of value_kind l) → value_of value_kind l ≡ Ok g.value → g.parsed_terms ≡ [] → Reads bytes es (after_value b (with_attribute g e)) to r → Reads bytes es (before_value b e (g.identifier, value_kind)) at r
  plain_value es b e g value_kind r fine at to l s same made empty k =
      let whole : g ≡ record { identifier = g.identifier; value = g.value; parsed_terms = [] } = ap (λ (ps : List ParsedTerm). let h : AttributeValue = record { identifier = g.identifier; value = g.value; parsed_terms = ps } in h) empty in
      steps es es (before_value b e (g.identifier, value_kind)) (after_value b (with_attribute (record { identifier = g.identifier; value = g.value; parsed_terms = [] }) e)) l at to r s
      (same ∙ ap (breaks.attribute_move es b e g.identifier (token bytes at).at) made) (subst (λ g. Reads bytes es (after_value b (with_attribute g e)) to r) whole k)

  value_reads : (es : Entries) (b : Block) (e : ConfigEntry) (g : AttributeValue) (value_kind : ValueKind) (r : Result Entries FaultAt) (fine : IsFine r) (at to : ℕ) → IsValue bytes value_kind g at to → Reads bytes es (after_value b (with_attribute g e)) to r → Reads bytes es (before_value b e (g.identifier, value_kind)) at r
  value_reads es b e g a_sum r fine at to v k =
      terms_read es b e g.identifier [] g.parsed_terms false (before_value b e (g.identifier, a_sum)) at to r v.0 refl
      (passes es r fine (after_value b (with_attribute g e)) (after_term b e g.identifier g.parsed_terms) to (sum_passes es b e g.identifier g.parsed_terms g.value (token bytes to).lexeme (token bytes to).at v.1) k)
  value_reads es b e g (number_from low high) r fine at to v k = plain_value es b e g (number_from low high) r fine at to v.0 v.1 refl v.2 v.3 k
  value_reads es b e g a_byte r fine at to v k = plain_value es b e g a_byte r fine at to v.0 v.1 refl v.2 v.3 k
  value_reads es b e g (one_of keyword_set) r fine at to v k = plain_value es b e g (one_of keyword_set) r fine at to v.0 v.1 refl v.2 v.3 k
  value_reads es b e g an_area r fine at to v k = plain_value es b e g an_area r fine at to v.0 v.1 refl v.2 v.3 k
  value_reads es b e g a_file r fine at to v k = plain_value es b e g a_file r fine at to v.0 v.1 refl v.2 v.3 k

  attribute_reads : (es : Entries) (b : Block) (e : ConfigEntry) (g : AttributeValue) (r : Result Entries FaultAt) (fine : IsFine r) (at to : ℕ) → IsAttribute bytes b e g at to → Reads bytes es (between_attributes b (with_attribute g e)) to r → Reads bytes es (between_attributes b e) at r
  attribute_reads es b e g r fine at to h k =
      steps es es (between_attributes b e) (after_keyword b e (g.identifier, h.value_kind)) (identifier h.written) at h.after_keyword r h.stands
      (ap (λ o. breaks.known_attribute es b e o (token bytes at).at) h.known ∙ ap (λ (x : Bool). if x then rejected AttributeTwice (token bytes at).at else accepted es (after_keyword b e (g.identifier, h.value_kind))) h.once)
      (begins h.equals_sign (value_reads es b e g h.value_kind r fine h.start h.end h.value (closes h.comma_after)))
    where
      closes : IsOptionalToken bytes comma h.end to → Reads bytes es (after_value b (with_attribute g e)) h.end r
      closes (inl s) = steps es es (after_value b (with_attribute g e)) (between_attributes b (with_attribute g e)) comma h.end to r s refl k
      closes (inr same) = passes es r fine (between_attributes b (with_attribute g e)) (after_value b (with_attribute g e)) h.end (comma_passes es b (with_attribute g e) [] (token bytes h.end).lexeme (token bytes h.end).at) (subst (λ n. Reads bytes es (between_attributes b (with_attribute g e)) n r) (sym same) k)

      begins : IsOptionalToken bytes equals h.after_keyword h.start → Reads bytes es (before_value b e (g.identifier, h.value_kind)) h.start r → Reads bytes es (after_keyword b e (g.identifier, h.value_kind)) h.after_keyword r
      begins (inl s) m = steps es es (after_keyword b e (g.identifier, h.value_kind)) (before_value b e (g.identifier, h.value_kind)) equals h.after_keyword h.start r s refl m
      begins (inr same) m = passes es r fine (before_value b e (g.identifier, h.value_kind)) (after_keyword b e (g.identifier, h.value_kind)) h.after_keyword (equals_passes es b e g.identifier h.value_kind (token bytes h.after_keyword).lexeme (token bytes h.after_keyword).at) (subst (λ n. Reads bytes es (before_value b e (g.identifier, h.value_kind)) n r) (sym same) m)

  pub attributes_read : (es : Entries) (b : Block) (e f : ConfigEntry) (r : Result Entries FaultAt) (fine : IsFine r) (at to : ℕ) → AreAttributes bytes b e f at to → Reads bytes es (between_attributes b f) to r → Reads bytes es (between_attributes b e) at r
  attributes_read es b _ _ r fine _ _ (no_attribute e at) k = k
  attributes_read es b _ _ r fine _ _ (attribute e f g at mid to h rest) k = attribute_reads es b e g r fine at mid h (attributes_read es b (with_attribute g e) f r fine mid to rest k)

  entry_reads : (b : Block) (es : Entries) (e : ConfigEntry) (r : Result Entries FaultAt) (fine : IsFine r) (at to : ℕ) → IsEntry bytes b es e at to → Reads bytes (with_entry b e es) (between_entries b) to r → Reads bytes es (between_entries b) at r
  entry_reads b es e r fine at to h k =
      steps es es (between_entries b) (after_name b (new_entry e.name e.at)) (identifier e.name) at h.after_name r h.name
      (ap (λ (x : Bool). if x then rejected NameTwice (token bytes at).at else accepted es (after_name b (new_entry e.name (token bytes at).at))) h.fresh ∙ ap (λ n. accepted es (after_name b (new_entry e.name n))) (sym h.place))
      (steps es es (after_name b (new_entry e.name e.at)) (between_attributes b (new_entry e.name e.at)) colon h.after_name h.start r h.colon_after refl
      (attributes_read es b (new_entry e.name e.at) e r fine h.start h.end h.gives
      (steps es (with_entry b e es) (between_attributes b e) (between_entries b) semicolon h.end to r h.semicolon_after (ap (λ o. breaks.entry_end es b e o (token bytes h.end).at) h.whole) k)))

  pub entries_read : (b : Block) (es fs : Entries) (r : Result Entries FaultAt) (fine : IsFine r) (at to : ℕ) → AreEntries bytes b es fs at to → Reads bytes fs (between_entries b) to r → Reads bytes es (between_entries b) at r
  entries_read b _ _ r fine _ _ (no_entry es at) k = k
  entries_read b _ _ r fine _ _ (entry es fs e at mid to h rest) k = entry_reads b es e r fine at mid h (entries_read b (with_entry b e es) fs r fine mid to rest k)

  block_reads : (es fs : Entries) (r : Result Entries FaultAt) (fine : IsFine r) (at to : ℕ) → IsBlock bytes es fs at to → Reads bytes fs between_blocks to r → Reads bytes es between_blocks at r
  block_reads es fs r fine at to h k =
      steps es es between_blocks (after_block_keyword h.block) (identifier h.written) at h.after_keyword r h.stands (ap (λ o. option_map_or (λ b. accepted es (after_block_keyword b)) o (rejected SyntaxError (token bytes at).at)) h.known)
      (steps es es (after_block_keyword h.block) (between_entries h.block) brace h.after_keyword h.start r h.opens refl
      (entries_read h.block es fs r fine h.start h.end h.has_entries
      (steps fs fs (between_entries h.block) between_blocks end_brace h.end to r h.closes refl k)))

  pub blocks_read : (es fs : Entries) (r : Result Entries FaultAt) (fine : IsFine r) (at to : ℕ) → AreBlocks bytes es fs at to → Reads bytes fs between_blocks to r → Reads bytes es between_blocks at r
  blocks_read _ _ r fine _ _ (no_block es at) k = k
  blocks_read _ _ r fine _ _ (block es fs hs at mid to h rest) k = block_reads es fs r fine at mid h (blocks_read fs hs r fine mid to rest k)

  pub written_reads : (es : Entries) → MatchesGrammar bytes es → Reads bytes no_entries between_blocks 0 (Ok es)
  written_reads es h = blocks_read no_entries es (Ok es) (λ at e. apart es (fault_at SyntaxError at) e) 0 h.end h.blocks (ends es es between_blocks h.end (ap (λ l. token_move es between_blocks l (token bytes h.end).at) h.ends))

  -- ---- A text that is read is in the grammar.

  module _ (fs : Entries) where
    -- the rest of the text after each state, if `fs` are the entries of the text
    record RestBlocks (es : Entries) (at : ℕ) : Type 0 where
      pub end : ℕ
      pub blocks : AreBlocks bytes es fs at end
      pub ends : (token bytes end).lexeme ≡ the_end

    record RestEntries (b : Block) (es : Entries) (at : ℕ) : Type 0 where
      pub gs : Entries
      pub end : ℕ
      pub to : ℕ
      pub has_entries : AreEntries bytes b es gs at end
      pub closes : TokenAt bytes end_brace end to
      pub rest : RestBlocks gs to

    record RestAttributes (b : Block) (es : Entries) (e : ConfigEntry) (at : ℕ) : Type 0 where
      pub f : ConfigEntry
      pub end : ℕ
      pub to : ℕ
      pub gives : AreAttributes bytes b e f at end
      pub whole : entry_fault b f ≡ None
      pub semicolon_after : TokenAt bytes semicolon end to
      pub rest : RestEntries b (with_entry b f es) to

    record RestComma (b : Block) (es : Entries) (e : ConfigEntry) (at : ℕ) : Type 0 where
      pub to : ℕ
      pub comma_after : IsOptionalToken bytes comma at to
      pub rest : RestAttributes b es e to

    record RestTerms (b : Block) (es : Entries) (e : ConfigEntry) (a : List ℕ) (ps : List ParsedTerm) (subtracted : Bool) (at : ℕ) : Type 0 where
      pub qs : List ParsedTerm
      pub v : Value
      pub end : ℕ
      pub terms : AreTerms bytes subtracted qs at end
      pub value : sum_of_terms (ps ++ qs) ≡ Some v
      pub rest : RestComma b es (with_attribute (record { identifier = a; value = v; parsed_terms = ps ++ qs }) e) end

    record SumEnds (b : Block) (es : Entries) (e : ConfigEntry) (a : List ℕ) (ps : List ParsedTerm) (at : ℕ) : Type 0 where
      pub v : Value
      pub value : sum_of_terms ps ≡ Some v
      pub rest : RestComma b es (with_attribute (record { identifier = a; value = v; parsed_terms = ps }) e) at

    record SignAfter (b : Block) (es : Entries) (e : ConfigEntry) (a : List ℕ) (ps : List ParsedTerm) (at : ℕ) : Type 0 where
      pub subtracted : Bool
      pub start : ℕ
      pub stands : TokenAt bytes (sign subtracted) at start
      pub rest : RestTerms b es e a ps subtracted start

    record RestValue (b : Block) (es : Entries) (e : ConfigEntry) (row : List ℕ × ValueKind) (at : ℕ) : Type 0 where
      pub value : Value
      pub parsed_terms : List ParsedTerm
      pub end : ℕ
      pub is_value : IsValue bytes row.1 (record { identifier = row.0; value = value; parsed_terms = parsed_terms }) at end
      pub rest : RestComma b es (with_attribute (record { identifier = row.0; value = value; parsed_terms = parsed_terms }) e) end

    record RestEquals (b : Block) (es : Entries) (e : ConfigEntry) (row : List ℕ × ValueKind) (at : ℕ) : Type 0 where
      pub start : ℕ
      pub equals_sign : IsOptionalToken bytes equals at start
      pub rest : RestValue b es e row start

    record RestColon (b : Block) (es : Entries) (e : ConfigEntry) (at : ℕ) : Type 0 where
      pub start : ℕ
      pub colon_after : TokenAt bytes colon at start
      pub rest : RestAttributes b es e start

    record RestBrace (b : Block) (es : Entries) (at : ℕ) : Type 0 where
      pub start : ℕ
      pub opens : TokenAt bytes brace at start
      pub rest : RestEntries b es start

    abbrev Rest : Entries → ParseState → ℕ → Type 0
    Rest es between_blocks at = RestBlocks es at
    Rest es (after_block_keyword b) at = RestBrace b es at
    Rest es (between_entries b) at = RestEntries b es at
    Rest es (after_name b e) at = RestColon b es e at
    Rest es (between_attributes b e) at = RestAttributes b es e at
    Rest es (after_keyword b e row) at = RestEquals b es e row at
    Rest es (before_value b e row) at = RestValue b es e row at
    Rest es (before_term b e a ps subtracted) at = RestTerms b es e a ps subtracted at
    Rest es (after_term b e a ps) at = SumEnds b es e a ps at ⊎ SignAfter b es e a ps at
    Rest es (after_value b e) at = RestComma b es e at

    -- the rest of the text after a token, by the token's move
    abbrev After : ℕ → Move → Type 0
    After at (accepted es p) = Rest es p (token bytes at).following
    After at (finished es) = es ≡ fs
    After at (rejected f offset) = ⊥

    stood : (l : Lexeme) (at : ℕ) → (token bytes at).lexeme ≡ l → TokenAt bytes l at (token bytes at).following
    stood l at e = record { lexeme = e; following = refl }

    block_rest : (es : Entries) (at offset : ℕ) (l : Lexeme) → (token bytes at).lexeme ≡ l → After at (breaks.block_keyword es l offset) → RestBlocks es at
    block_rest es at offset (identifier w) e h = by (value_of_keyword w blocks) refl h
      where
        by : (o : Option Block) → value_of_keyword w blocks ≡ o → After at (option_map_or (λ b. accepted es (after_block_keyword b)) o (rejected SyntaxError offset)) → RestBlocks es at
        by None k h = absurd h
        by (Some b) k h =
            let inner = h.rest in
            let following = inner.rest in
            record {
              end = following.end;
              blocks = block es inner.gs fs at inner.to following.end (record { written = w; block = b; after_keyword = (token bytes at).following; start = h.start; end = inner.end; stands = stood (identifier w) at e; known = k; opens = h.opens; has_entries = inner.has_entries; closes = inner.closes }) following.blocks;
              ends = following.ends;
            }
    block_rest es at offset the_end e h = record { end = at; blocks = subst (λ es. AreBlocks bytes es fs at at) (sym h) (no_block fs at); ends = e }
    block_rest es at offset _ e h = absurd h

    brace_rest : (es : Entries) (b : Block) (at offset : ℕ) (l : Lexeme) → (token bytes at).lexeme ≡ l → After at (breaks.block_brace es b l offset) → RestBrace b es at
    brace_rest es b at offset brace e h = record { start = (token bytes at).following; opens = stood brace at e; rest = h }
    brace_rest es b at offset _ e h = absurd h

    -- attributes don't change the name and offset of an entry
    keeps_name : (b : Block) (e f : ConfigEntry) (at to : ℕ) → AreAttributes bytes b e f at to → (f.name ≡ e.name) × (f.at ≡ e.at)
    keeps_name b _ _ _ _ (no_attribute e at) = (refl, refl)
    keeps_name b _ _ _ _ (attribute e f g at mid to h rest) = keeps_name b (with_attribute g e) f mid to rest

    name_rest : (es : Entries) (b : Block) (at : ℕ) (l : Lexeme) → (token bytes at).lexeme ≡ l → After at (breaks.entry_name es b l (token bytes at).at) → RestEntries b es at
    name_rest es b at (identifier w) e h = by (has_name w b es) refl h
      where
        by : (x : Bool) → has_name w b es ≡ x → After at (if x then rejected NameTwice (token bytes at).at else accepted es (after_name b (new_entry w (token bytes at).at))) → RestEntries b es at
        by true k h = absurd h
        by false k h =
            let inner = h.rest in
            let following = inner.rest in
            let kept = keeps_name b (new_entry w (token bytes at).at) inner.f h.start inner.end inner.gives in
            let same : new_entry w (token bytes at).at ≡ new_entry inner.f.name inner.f.at = ap (λ n. new_entry n (token bytes at).at) (sym kept.0) ∙ ap (new_entry inner.f.name) (sym kept.1) in
            let is : IsEntry bytes b es inner.f at inner.to = record {
              after_name = (token bytes at).following;
              start = h.start;
              end = inner.end;
              name = stood (identifier inner.f.name) at (e ∙ ap identifier (sym kept.0));
              place = kept.1;
              fresh = ap (λ n. has_name n b es) kept.0 ∙ k;
              colon_after = h.colon_after;
              gives = subst (λ o. AreAttributes bytes b o inner.f h.start inner.end) same inner.gives;
              whole = inner.whole;
              semicolon_after = inner.semicolon_after;
            } in
            record { gs = following.gs; end = following.end; to = following.to; has_entries = entry es following.gs inner.f at inner.to following.end is following.has_entries; closes = following.closes; rest = following.rest }
    name_rest es b at end_brace e h = record { gs = es; end = at; to = (token bytes at).following; has_entries = no_entry es at; closes = stood end_brace at e; rest = h }
    name_rest es b at _ e h = absurd h

    colon_rest : (es : Entries) (b : Block) (f : ConfigEntry) (at offset : ℕ) (l : Lexeme) → (token bytes at).lexeme ≡ l → After at (breaks.entry_colon es b f l offset) → RestColon b es f at
    colon_rest es b f at offset colon e h = record { start = (token bytes at).following; colon_after = stood colon at e; rest = h }
    colon_rest es b f at offset _ e h = absurd h

    attribute_rest : (es : Entries) (b : Block) (f : ConfigEntry) (at offset : ℕ) (l : Lexeme) → (token bytes at).lexeme ≡ l → After at (breaks.attribute_or_end es b f l offset) → RestAttributes b es f at
    attribute_rest es b f at offset (identifier w) e h = by (find_keyword w (attributes b)) refl h
      where
        once : (row : List ℕ × ValueKind) → find_keyword w (attributes b) ≡ Some row → (x : Bool) → has_attribute row.0 f ≡ x → After at (if x then rejected AttributeTwice offset else accepted es (after_keyword b f row)) → RestAttributes b es f at
        once row k true x h = absurd h
        once row k false x h =
            let inner = h.rest in
            let g : AttributeValue = record { identifier = row.0; value = inner.value; parsed_terms = inner.parsed_terms } in
            let following = inner.rest in
            let more = following.rest in
            let is : IsAttribute bytes b f g at following.to = record { written = w; value_kind = row.1; after_keyword = (token bytes at).following; start = h.start; end = inner.end; stands = stood (identifier w) at e; known = k; once = x; equals_sign = h.equals_sign; value = inner.is_value; comma_after = following.comma_after } in
            record { f = more.f; end = more.end; to = more.to; gives = attribute f more.f g at following.to more.end is more.gives; whole = more.whole; semicolon_after = more.semicolon_after; rest = more.rest }

        by : (o : Option (List ℕ × ValueKind)) → find_keyword w (attributes b) ≡ o → After at (breaks.known_attribute es b f o offset) → RestAttributes b es f at
        by None k h = absurd h
        by (Some row) k h = once row k (has_attribute row.0 f) refl h
    attribute_rest es b f at offset semicolon e h = by (entry_fault b f) refl h
      where
        by : (o : Option Fault) → entry_fault b f ≡ o → After at (breaks.entry_end es b f o offset) → RestAttributes b es f at
        by (Some fault) k h = absurd h
        by None k h = record { f = f; end = at; to = (token bytes at).following; gives = no_attribute f at; whole = k; semicolon_after = stood semicolon at e; rest = h }
    attribute_rest es b f at offset _ e h = absurd h

    comma_rest : (es : Entries) (b : Block) (f : ConfigEntry) (at offset : ℕ) (l : Lexeme) → (token bytes at).lexeme ≡ l → After at (breaks.comma_or_next es b f l offset) → RestComma b es f at
    comma_rest es b f at offset comma e h = record { to = (token bytes at).following; comma_after = inl (stood comma at e); rest = h }
    comma_rest es b f at offset l e h = record { to = at; comma_after = inr refl; rest = attribute_rest es b f at offset l e h }

    end_rest : (es : Entries) (b : Block) (f : ConfigEntry) (a : List ℕ) (ps : List ParsedTerm) (at offset : ℕ) (l : Lexeme) (o : Option Value) → sum_of_terms ps ≡ o → (token bytes at).lexeme ≡ l → After at (breaks.sum_end es b f a ps o l offset) → SumEnds b es f a ps at
    end_rest es b f a ps at offset l None k e h = absurd h
    end_rest es b f a ps at offset l (Some v) k e h = record { v = v; value = k; rest = comma_rest es b (with_attribute (record { identifier = a; value = v; parsed_terms = ps }) f) at offset l e h }

    sign_rest : (es : Entries) (b : Block) (f : ConfigEntry) (a : List ℕ) (ps : List ParsedTerm) (at offset : ℕ) (l : Lexeme) → (token bytes at).lexeme ≡ l → After at (breaks.sign_or_end es b f a ps l offset) → SumEnds b es f a ps at ⊎ SignAfter b es f a ps at
    sign_rest es b f a ps at offset plus e h = inr (record { subtracted = false; start = (token bytes at).following; stands = stood plus at e; rest = h })
    sign_rest es b f a ps at offset minus e h = inr (record { subtracted = true; start = (token bytes at).following; stands = stood minus at e; rest = h })
    sign_rest es b f a ps at offset l e h = inl (end_rest es b f a ps at offset l (sum_of_terms ps) refl e h)

    -- a term, and the rest after it
    term_rest : (es : Entries) (b : Block) (f : ConfigEntry) (a : List ℕ) (ps : List ParsedTerm) (subtracted : Bool) (at : ℕ) → After at (breaks.add_term es b f a ps (token bytes at).at (parsed_term subtracted (token bytes at).at (token bytes at).lexeme)) → RestTerms b es f a ps subtracted at
    term_rest es b f a ps subtracted at = by (parsed_term subtracted (token bytes at).at (token bytes at).lexeme) refl
      where
        following : (p : ParsedTerm) → IsTerm bytes subtracted p at (token bytes at).following → SumEnds b es f a (ps ++ p ∷ []) (token bytes at).following ⊎ SignAfter b es f a (ps ++ p ∷ []) (token bytes at).following → RestTerms b es f a ps subtracted at
        following p is (inl h) = record { qs = p ∷ []; v = h.v; end = (token bytes at).following; terms = one subtracted p at (token bytes at).following is; value = h.value; rest = h.rest }
        following p is (inr h) =
            let more_terms = h.rest in
            let same : (ps ++ p ∷ []) ++ more_terms.qs ≡ ps ++ p ∷ more_terms.qs = append_assoc ps (p ∷ []) more_terms.qs in
            record {
              qs = p ∷ more_terms.qs;
              v = more_terms.v;
              end = more_terms.end;
              terms = more subtracted h.subtracted p more_terms.qs at (token bytes at).following h.start more_terms.end is h.stands more_terms.terms;
              value = subst (λ l. sum_of_terms l ≡ Some more_terms.v) same more_terms.value;
              rest = subst (λ l. RestComma b es (with_attribute (record { identifier = a; value = more_terms.v; parsed_terms = l }) f) more_terms.end) same more_terms.rest;
            }

        by : (r : Result ParsedTerm Fault) → parsed_term subtracted (token bytes at).at (token bytes at).lexeme ≡ r → After at (breaks.add_term es b f a ps (token bytes at).at r) → RestTerms b es f a ps subtracted at
        by (Err fault) k h = absurd h
        by (Ok p) k h = following p (record { lexeme = (token bytes at).lexeme; stands = stood (token bytes at).lexeme at refl; part = k }) h

    -- a value that is no sum
    give_rest : (es : Entries) (b : Block) (f : ConfigEntry) (row : List ℕ × ValueKind) (at : ℕ) (r : Result Value Fault) → ((v : Value) → r ≡ Ok v → IsValue bytes row.1 (record { identifier = row.0; value = v; parsed_terms = [] }) at (token bytes at).following) → After at (breaks.attribute_move es b f row.0 (token bytes at).at r) → RestValue b es f row at
    give_rest es b f row at (Err fault) is h = absurd h
    give_rest es b f row at (Ok v) is h = record { value = v; parsed_terms = []; end = (token bytes at).following; is_value = is v refl; rest = h }

    plain : (value_kind : ValueKind) (v : Value) (at : ℕ) → value_of value_kind (token bytes at).lexeme ≡ Ok v → (l : Lexeme) × TokenAt bytes l at (token bytes at).following × (value_of value_kind l ≡ Ok v) × (◌≡◌ {A = List ParsedTerm} [] [])
    plain value_kind v at k = ((token bytes at).lexeme, stood (token bytes at).lexeme at refl, k, refl)

    value_rest : (es : Entries) (b : Block) (f : ConfigEntry) (a : List ℕ) (value_kind : ValueKind) (at : ℕ) → After at (breaks.attribute_value es b f a value_kind (token bytes at).lexeme (token bytes at).at) → RestValue b es f (a, value_kind) at
    value_rest es b f a a_sum at h =
        let sum = term_rest es b f a [] false at h in
        record { value = sum.v; parsed_terms = sum.qs; end = sum.end; is_value = (sum.terms, sum.value); rest = sum.rest }
    value_rest es b f a (number_from low high) at h = give_rest es b f (a, number_from low high) at (value_of (number_from low high) (token bytes at).lexeme) (λ v k. plain (number_from low high) v at k) h
    value_rest es b f a a_byte at h = give_rest es b f (a, a_byte) at (value_of a_byte (token bytes at).lexeme) (λ v k. plain a_byte v at k) h
    value_rest es b f a (one_of keyword_set) at h = give_rest es b f (a, one_of keyword_set) at (value_of (one_of keyword_set) (token bytes at).lexeme) (λ v k. plain (one_of keyword_set) v at k) h
    value_rest es b f a an_area at h = give_rest es b f (a, an_area) at (value_of an_area (token bytes at).lexeme) (λ v k. plain an_area v at k) h
    value_rest es b f a a_file at h = give_rest es b f (a, a_file) at (value_of a_file (token bytes at).lexeme) (λ v k. plain a_file v at k) h

    equals_rest : (es : Entries) (b : Block) (f : ConfigEntry) (row : List ℕ × ValueKind) (at : ℕ) (l : Lexeme) → (token bytes at).lexeme ≡ l → After at (breaks.equals_or_value es b f row l (token bytes at).at) → RestEquals b es f row at
    equals_rest es b f row at equals e h = record { start = (token bytes at).following; equals_sign = inl (stood equals at e); rest = h }
    equals_rest es b f row at l e h = record { start = at; equals_sign = inr refl; rest = value_rest es b f row.0 row.1 at (subst (λ l. After at (breaks.attribute_value es b f row.0 row.1 l (token bytes at).at)) (sym e) h) }

    move_rest : (es : Entries) (p : ParseState) (at : ℕ) → After at (move_at_offset bytes es p at) → Rest es p at
    move_rest es between_blocks at h = block_rest es at (token bytes at).at (token bytes at).lexeme refl h
    move_rest es (after_block_keyword b) at h = brace_rest es b at (token bytes at).at (token bytes at).lexeme refl h
    move_rest es (between_entries b) at h = name_rest es b at (token bytes at).lexeme refl h
    move_rest es (after_name b e) at h = colon_rest es b e at (token bytes at).at (token bytes at).lexeme refl h
    move_rest es (between_attributes b e) at h = attribute_rest es b e at (token bytes at).at (token bytes at).lexeme refl h
    move_rest es (after_keyword b e row) at h = equals_rest es b e row at (token bytes at).lexeme refl h
    move_rest es (before_value b e row) at h = value_rest es b e row.0 row.1 at h
    move_rest es (before_term b e a ps subtracted) at h = term_rest es b e a ps subtracted at h
    move_rest es (after_term b e a ps) at h = sign_rest es b e a ps at (token bytes at).at (token bytes at).lexeme refl h
    move_rest es (after_value b e) at h = comma_rest es b e at (token bytes at).at (token bytes at).lexeme refl h

    read_rest : (es : Entries) (p : ParseState) (at : ℕ) (r : Result Entries FaultAt) → Reads bytes es p at r → r ≡ Ok fs → Rest es p at
    read_rest _ _ _ _ (next es gs p q at r e h) same = move_rest es p at (subst (After at) (sym e) (read_rest gs q (token bytes at).following r h same))
    read_rest _ _ _ _ (ends es gs p at e) same = let is : gs ≡ fs = cc in move_rest es p at (subst (After at) (sym e) is)
    read_rest _ _ _ _ (stops es p at f offset e) same = absurd cc

  reads_written : (es : Entries) → Reads bytes no_entries between_blocks 0 (Ok es) → MatchesGrammar bytes es
  reads_written es h = let rest = read_rest es no_entries between_blocks 0 (Ok es) h refl in record { end = rest.end; blocks = rest.blocks; ends = rest.ends }

  -- ---- Texts.

  pub read_of : (r : Result Entries FaultAt) → IsParseResult bytes r → Reads bytes no_entries between_blocks 0 r
  read_of (Ok es) h = written_reads es h
  read_of (Err f) h = breaks_reads no_entries between_blocks 0 f h

  pub is_read : (r : Result Entries FaultAt) → Reads bytes no_entries between_blocks 0 r → IsParseResult bytes r
  is_read (Ok es) h = reads_written es h
  is_read (Err f) h = reads_breaks no_entries between_blocks 0 (Err f) h f refl

  pub reads_of : (r : Result Entries FaultAt) → HasEntries bytes r → ReadsText bytes r
  reads_of r = by (is_too_long bytes)
    where
      by : (x : Bool) → UnlessTooLong x r (IsParseResult bytes r) → UnlessTooLong x r (Reads bytes no_entries between_blocks 0 r)
      by true h = h
      by false h = read_of r h

  pub has_of : (r : Result Entries FaultAt) → ReadsText bytes r → HasEntries bytes r
  has_of r = by (is_too_long bytes)
    where
      by : (x : Bool) → UnlessTooLong x r (Reads bytes no_entries between_blocks 0 r) → UnlessTooLong x r (IsParseResult bytes r)
      by true h = h
      by false h = is_read r h
