-- The text before each state of the grammar, and the errors of the tokens after it.
use Rattle.std.proofs.Common.{◌≡◌, ◌⊎◌, inl, inr, ℕ, Bool, true, false, List, [], ◌∷◌, ◌++◌, Option, Some, None, Result, Ok, Err, refl, sym, ap, ◌∙◌, subst}
use Rattle.std.specs.Prelude.{IfErr, if◌then◌else◌, nat_le, ◌&&◌, ⊤}
use Rattle.std.specs.Option.{option_map_or}
use Rattle.script65.specs.declared.fault.Fault.{Fault}
use Rattle.script65.specs.declared.fault.Fault.TheVariants.{AttributeTwice, NameTwice, OutOfRange, SyntaxError}
use Rattle.script65.specs.declared.fault.FaultAt.{FaultAt}
use Rattle.script65.specs.Attributes.{Block, KeywordValue, ValueKind, Value, a_byte, a_file, a_sum, an_area, attributes, blocks, keywords, number_from, one_of, find_keyword, value_of_keyword}
use Rattle.script65.specs.SyntaxErrors.{SyntaxErrorAt, Move, ParseState, here, later, accepted, finished, rejected, move_at_offset, between_blocks, after_block_keyword, between_entries, after_name, between_attributes, after_keyword, before_value, before_term, after_term, after_value}
use Rattle.script65.specs.SyntaxErrors as breaks
use Rattle.script65.specs.Entries.{Entries, ConfigEntry, AttributeValue, ParsedTerm, parsed_number, as_value, keyword_or_syntax_error, entry_fault, has_name, in_range, has_attribute, no_entries, new_entry, parsed_term, sum_of_terms, value_of, with_entry, with_attribute}
use Rattle.script65.specs.Faults.{fault_at}
use Rattle.script65.specs.FirstFaults.{HasFault, InAttribute, InBlock, InEntry, InSum, attribute_twice, first_term, is_sign, name_twice, next_term, unknown_attribute, wrong_end, wrong_number, wrong_sum, wrong_term}
use Rattle.script65.specs.Grammar.{AreAttributes, AreBlocks, AreEntries, AreTerms, IsAttribute, IsBlock, IsEntry, IsTerm, IsValue, IsOptionalToken, TokenAt, attribute, block, entry, more, no_attribute, no_block, no_entry, one, sign}
use Rattle.script65.specs.Tokens.{Lexeme, brace, colon, comma, end_brace, equals, minus, numeral, output, plus, semicolon, string, the_end, token, identifier}

-- ---- Errors of tokens that an attribute or a sum doesn't accept.

abbrev pub IsOfValue : Fault → Type 0
IsOfValue f = (f ≡ SyntaxError) ⊎ (f ≡ OutOfRange)

range_faults : (low high : ℕ) (o : Option ℕ) → IfErr (in_range low high o) IsOfValue
range_faults low high None = inr refl
range_faults low high (Some n) = by (nat_le low n && nat_le n high)
  where
    by : (c : Bool) → IfErr (if◌then◌else◌ {A = Result ℕ Fault} c (Ok n) (Err OutOfRange)) IsOfValue
    by true = tt
    by false = inr refl

made_faults : (made : ℕ → Value) (r : Result ℕ Fault) → IfErr r IsOfValue → IfErr (as_value made r) IsOfValue
made_faults made (Ok n) h = tt
made_faults made (Err f) h = h

word_faults : (o : Option KeywordValue) → IfErr (keyword_or_syntax_error o) IsOfValue
word_faults (Some v) = tt
word_faults None = inl refl

value_faults : (value_kind : ValueKind) (l : Lexeme) → IfErr (value_of value_kind l) IsOfValue
value_faults (number_from low high) (numeral n) = made_faults _ (in_range low high n) (range_faults low high n)
value_faults a_byte (numeral n) = made_faults _ (in_range 0 0xff n) (range_faults 0 0xff n)
value_faults (one_of keyword_set) (identifier w) = word_faults (value_of_keyword w (keywords keyword_set))
value_faults an_area (identifier w) = tt
value_faults a_file (string s) = tt
value_faults a_file output = tt
value_faults _ _ = inl refl

a_part_faults : (subtracted : Bool) (at : ℕ) (r : Result ℕ Fault) → IfErr r IsOfValue → IfErr (parsed_number subtracted at r) IsOfValue
a_part_faults subtracted at (Ok n) h = tt
a_part_faults subtracted at (Err f) h = h

part_faults : (subtracted : Bool) (at : ℕ) (l : Lexeme) → IfErr (parsed_term subtracted at l) IsOfValue
part_faults subtracted at (numeral n) = a_part_faults subtracted at (in_range 0 0xffffffff n) (range_faults 0 0xffffffff n)
part_faults subtracted at (identifier w) = tt
part_faults subtracted at _ = inl refl

module _ (bytes : List ℕ) where
  -- ---- Appending one further element.

  pub blocks_more : (es fs gs : Entries) (at mid next : ℕ) → AreBlocks bytes es fs at mid → IsBlock bytes fs gs mid next → AreBlocks bytes es gs at next
  blocks_more _ _ gs _ _ next (no_block es at) h = block es gs gs at next next h (no_block gs next)
  blocks_more _ _ gs _ _ next (block es fs hs at mid to first rest) h = block es fs gs at mid next first (blocks_more fs hs gs mid to next rest h)

  pub entries_more : (b : Block) (es fs : Entries) (e : ConfigEntry) (at mid next : ℕ) → AreEntries bytes b es fs at mid → IsEntry bytes b fs e mid next → AreEntries bytes b es (with_entry b e fs) at next
  entries_more b _ _ e _ _ next (no_entry es at) h = entry es (with_entry b e es) e at next next h (no_entry (with_entry b e es) next)
  entries_more b _ _ e _ _ next (entry es fs f at mid to first rest) h = entry es (with_entry b e fs) f at mid next first (entries_more b (with_entry b f es) fs e mid to next rest h)

  pub attributes_more : (b : Block) (e f : ConfigEntry) (g : AttributeValue) (at mid next : ℕ) → AreAttributes bytes b e f at mid → IsAttribute bytes b f g mid next → AreAttributes bytes b e (with_attribute g f) at next
  attributes_more b _ _ g _ _ next (no_attribute e at) h = attribute e (with_attribute g e) g at next next h (no_attribute (with_attribute g e) next)
  attributes_more b _ _ g _ _ next (attribute e f d at mid to first rest) h = attribute e (with_attribute g f) d at mid next first (attributes_more b (with_attribute d e) f g mid to next rest h)

  terms_more : (first subtracted : Bool) (ps : List ParsedTerm) (p : ParsedTerm) (at mid start next : ℕ) → AreTerms bytes first ps at mid → TokenAt bytes (sign subtracted) mid start → IsTerm bytes subtracted p start next → AreTerms bytes first (ps ++ p ∷ []) at next
  terms_more _ subtracted _ p _ _ start next (one first q at mid t) s h = more first subtracted q (p ∷ []) at mid start next t s (one subtracted p start next h)
  terms_more _ subtracted _ p _ _ start next (more first second q ps at mid from to t s rest) z h = more first second q (ps ++ p ∷ []) at mid from next t s (terms_more second subtracted ps p from to start next rest z h)

  pub sum_more : (start at next : ℕ) (ps : List ParsedTerm) (subtracted : Bool) (p : ParsedTerm) → InSum bytes start ps subtracted at → IsTerm bytes subtracted p at next → AreTerms bytes false (ps ++ p ∷ []) start next
  sum_more start _ next _ _ p first_term h = one false p start next h
  sum_more start _ next _ _ p (next_term ps subtracted mid at terms s) h = terms_more false subtracted ps p start mid at next terms s h

  -- ---- The text before each state.

  pub record BlockWord (b : Block) (es : Entries) (at : ℕ) : Type 0 where
    pub begin : ℕ
    pub written : List ℕ
    pub blocks_before : AreBlocks bytes no_entries es 0 begin
    pub stands : TokenAt bytes (identifier written) begin at
    pub known : value_of_keyword written blocks ≡ Some b

  pub record EntryName (b : Block) (es : Entries) (e : ConfigEntry) (at : ℕ) : Type 0 where
    pub begin : ℕ
    pub inside : InBlock bytes b es begin
    pub name : TokenAt bytes (identifier e.name) begin at
    pub place : e.at ≡ (token bytes begin).at
    pub fresh : has_name e.name b es ≡ false
    pub new : e ≡ new_entry e.name e.at

  pub record AttributeWord (b : Block) (es : Entries) (e : ConfigEntry) (row : List ℕ × ValueKind) (at : ℕ) : Type 0 where
    pub begin : ℕ
    pub written : List ℕ
    pub inside : InEntry bytes b es e begin
    pub stands : TokenAt bytes (identifier written) begin at
    pub known : find_keyword written (attributes b) ≡ Some row
    pub once : has_attribute row.0 e ≡ false

  pub record SumBegun (b : Block) (es : Entries) (e : ConfigEntry) (a : List ℕ) (ps : List ParsedTerm) (subtracted : Bool) (at : ℕ) : Type 0 where
    pub start : ℕ
    pub inside : InAttribute bytes b es e (a, a_sum) start
    pub sum : InSum bytes start ps subtracted at

  pub record TermsAfter (b : Block) (es : Entries) (e : ConfigEntry) (a : List ℕ) (ps : List ParsedTerm) (at : ℕ) : Type 0 where
    pub start : ℕ
    pub inside : InAttribute bytes b es e (a, a_sum) start
    pub terms : AreTerms bytes false ps start at

  pub record ValueAfter (b : Block) (es : Entries) (e : ConfigEntry) (at : ℕ) : Type 0 where
    pub before : ConfigEntry
    pub assignments : AttributeValue
    pub value_kind : ValueKind
    pub start : ℕ
    pub inside : InAttribute bytes b es before (assignments.identifier, value_kind) start
    pub value : IsValue bytes value_kind assignments start at
    pub same : e ≡ with_attribute assignments before

  abbrev pub Before : Entries → ParseState → ℕ → Type 0
  Before es between_blocks at = AreBlocks bytes no_entries es 0 at
  Before es (after_block_keyword b) at = BlockWord b es at
  Before es (between_entries b) at = InBlock bytes b es at
  Before es (after_name b e) at = EntryName b es e at
  Before es (between_attributes b e) at = InEntry bytes b es e at
  Before es (after_keyword b e row) at = AttributeWord b es e row at
  Before es (before_value b e row) at = InAttribute bytes b es e row at
  Before es (before_term b e a ps subtracted) at = SumBegun b es e a ps subtracted at
  Before es (after_term b e a ps) at = TermsAfter b es e a ps at
  Before es (after_value b e) at = ValueAfter b es e at

  -- the text before the state that follows a token; a rejection is a syntax error or an error by the text before it
  abbrev pub Following : ℕ → Move → Type 0
  Following at (accepted es p) = Before es p (token bytes at).following
  Following at (finished es) = ⊤
  Following at (rejected fault offset) = (fault ≡ SyntaxError) ⊎ HasFault bytes (fault_at fault offset)

  stood : (l : Lexeme) (at : ℕ) → (token bytes at).lexeme ≡ l → TokenAt bytes l at (token bytes at).following
  stood l at e = record { lexeme = e; following = refl }

  -- the beginning of a block
  pub brace_stands : (b : Block) (es : Entries) (at next : ℕ) → BlockWord b es at → TokenAt bytes brace at next → InBlock bytes b es next
  brace_stands b es at next h s = record {
    before = es;
    begin = h.begin;
    written = h.written;
    after_keyword = at;
    start = next;
    blocks_before = h.blocks_before;
    stands = h.stands;
    known = h.known;
    opens = s;
    entries_before = no_entry es next;
  }

  -- the beginning of an entry
  pub colon_stands : (b : Block) (es : Entries) (e : ConfigEntry) (at next : ℕ) → EntryName b es e at → TokenAt bytes colon at next → InEntry bytes b es e next
  colon_stands b es e at next h s = record {
    begin = h.begin;
    after_name = at;
    start = next;
    inside = h.inside;
    name = h.name;
    place = h.place;
    fresh = h.fresh;
    colon_after = s;
    gives = subst (λ o. AreAttributes bytes b o e next next) h.new (no_attribute e next);
  }

  -- the end of an attribute, with an optional `,`
  pub value_ends : (b : Block) (es : Entries) (e : ConfigEntry) (at next : ℕ) → ValueAfter b es e at → IsOptionalToken bytes comma at next → InEntry bytes b es e next
  value_ends b es e at next h c =
      let word_is = h.inside in
      let entry_is = word_is.inside in
      let is : IsAttribute bytes b h.before h.assignments word_is.begin next = record {
        written = word_is.written;
        value_kind = h.value_kind;
        after_keyword = word_is.after_keyword;
        start = h.start;
        end = at;
        stands = word_is.stands;
        known = word_is.known;
        once = word_is.once;
        equals_sign = word_is.equals_sign;
        value = h.value;
        comma_after = c;
      } in
      let whole : InEntry bytes b es (with_attribute h.assignments h.before) next = record {
        begin = entry_is.begin;
        after_name = entry_is.after_name;
        start = entry_is.start;
        inside = entry_is.inside;
        name = entry_is.name;
        place = entry_is.place;
        fresh = entry_is.fresh;
        colon_after = entry_is.colon_after;
        gives = attributes_more b (new_entry h.before.name h.before.at) h.before h.assignments entry_is.start word_is.begin next entry_is.gives is;
      } in
      subst (λ e. InEntry bytes b es e next) (sym h.same) whole

  -- the end of an entry
  pub entry_ends : (b : Block) (es : Entries) (e : ConfigEntry) (at next : ℕ) → InEntry bytes b es e at → entry_fault b e ≡ None → TokenAt bytes semicolon at next → InBlock bytes b (with_entry b e es) next
  entry_ends b es e at next h whole s =
      let block_is = h.inside in
      let is : IsEntry bytes b es e h.begin next = record {
        after_name = h.after_name;
        start = h.start;
        end = at;
        name = h.name;
        place = h.place;
        fresh = h.fresh;
        colon_after = h.colon_after;
        gives = h.gives;
        whole = whole;
        semicolon_after = s;
      } in
      record {
        before = block_is.before;
        begin = block_is.begin;
        written = block_is.written;
        after_keyword = block_is.after_keyword;
        start = block_is.start;
        blocks_before = block_is.blocks_before;
        stands = block_is.stands;
        known = block_is.known;
        opens = block_is.opens;
        entries_before = entries_more b block_is.before es e block_is.start h.begin next block_is.entries_before is;
      }

  -- the end of a block
  pub block_ends : (b : Block) (es : Entries) (at next : ℕ) → InBlock bytes b es at → TokenAt bytes end_brace at next → AreBlocks bytes no_entries es 0 next
  block_ends b es at next h s =
      let is : IsBlock bytes h.before es h.begin next = record {
        written = h.written;
        block = b;
        after_keyword = h.after_keyword;
        start = h.start;
        end = at;
        stands = h.stands;
        known = h.known;
        opens = h.opens;
        has_entries = h.entries_before;
        closes = s;
      } in
      blocks_more no_entries h.before es 0 h.begin next h.blocks_before is

  -- ---- After each token.

  word_leads : (es : Entries) (at offset : ℕ) (l : Lexeme) → (token bytes at).lexeme ≡ l → AreBlocks bytes no_entries es 0 at → Following at (breaks.block_keyword es l offset)
  word_leads es at offset (identifier w) e h = by (value_of_keyword w blocks) refl
    where
      by : (o : Option Block) → value_of_keyword w blocks ≡ o → Following at (option_map_or (λ b. accepted es (after_block_keyword b)) o (rejected SyntaxError offset))
      by None k = inl refl
      by (Some b) k = record { begin = at; written = w; blocks_before = h; stands = stood (identifier w) at e; known = k }
  word_leads es at offset the_end e h = tt
  word_leads es at offset _ e h = inl refl

  brace_leads : (es : Entries) (b : Block) (at offset : ℕ) (l : Lexeme) → (token bytes at).lexeme ≡ l → BlockWord b es at → Following at (breaks.block_brace es b l offset)
  brace_leads es b at offset brace e h = brace_stands b es at (token bytes at).following h (stood brace at e)
  brace_leads es b at offset _ e h = inl refl

  name_leads : (es : Entries) (b : Block) (at : ℕ) (l : Lexeme) → (token bytes at).lexeme ≡ l → InBlock bytes b es at → Following at (breaks.entry_name es b l (token bytes at).at)
  name_leads es b at (identifier w) e h = by (has_name w b es) refl
    where
      by : (x : Bool) → has_name w b es ≡ x → Following at (if x then rejected NameTwice (token bytes at).at else accepted es (after_name b (new_entry w (token bytes at).at)))
      by true k = inr (name_twice b es w at h e k)
      by false k = record { begin = at; inside = h; name = stood (identifier w) at e; place = refl; fresh = k; new = refl }
  name_leads es b at end_brace e h = block_ends b es at (token bytes at).following h (stood end_brace at e)
  name_leads es b at _ e h = inl refl

  colon_leads : (es : Entries) (b : Block) (f : ConfigEntry) (at offset : ℕ) (l : Lexeme) → (token bytes at).lexeme ≡ l → EntryName b es f at → Following at (breaks.entry_colon es b f l offset)
  colon_leads es b f at offset colon e h = colon_stands b es f at (token bytes at).following h (stood colon at e)
  colon_leads es b f at offset _ e h = inl refl

  attribute_leads : (es : Entries) (b : Block) (f : ConfigEntry) (at : ℕ) (l : Lexeme) → (token bytes at).lexeme ≡ l → InEntry bytes b es f at → Following at (breaks.attribute_or_end es b f l (token bytes at).at)
  attribute_leads es b f at (identifier w) e h = by (find_keyword w (attributes b)) refl
    where
      once : (row : List ℕ × ValueKind) → find_keyword w (attributes b) ≡ Some row → (x : Bool) → has_attribute row.0 f ≡ x → Following at (if x then rejected AttributeTwice (token bytes at).at else accepted es (after_keyword b f row))
      once row k true x = inr (attribute_twice b es f w row at h e k x)
      once row k false x = record { begin = at; written = w; inside = h; stands = stood (identifier w) at e; known = k; once = x }

      by : (o : Option (List ℕ × ValueKind)) → find_keyword w (attributes b) ≡ o → Following at (breaks.known_attribute es b f o (token bytes at).at)
      by None k = inr (unknown_attribute b es f w at h e k)
      by (Some row) k = once row k (has_attribute row.0 f) refl
  attribute_leads es b f at semicolon e h = by (entry_fault b f) refl
    where
      by : (o : Option Fault) → entry_fault b f ≡ o → Following at (breaks.entry_end es b f o (token bytes at).at)
      by (Some fault) k = inr (wrong_end b es f fault at h e k)
      by None k = entry_ends b es f at (token bytes at).following h k (stood semicolon at e)
  attribute_leads es b f at _ e h = inl refl

  comma_leads : (es : Entries) (b : Block) (f : ConfigEntry) (at : ℕ) (l : Lexeme) → (token bytes at).lexeme ≡ l → ValueAfter b es f at → Following at (breaks.comma_or_next es b f l (token bytes at).at)
  comma_leads es b f at comma e h = value_ends b es f at (token bytes at).following h (inl (stood comma at e))
  comma_leads es b f at l e h = attribute_leads es b f at l e (value_ends b es f at at h (inr refl))

  -- a value that is no sum
  give_leads : (es : Entries) (b : Block) (f : ConfigEntry) (row : List ℕ × ValueKind) (at : ℕ) (r : Result Value Fault) → value_of row.1 (token bytes at).lexeme ≡ r → ((v : Value) → r ≡ Ok v → IsValue bytes row.1 (record { identifier = row.0; value = v; parsed_terms = [] }) at (token bytes at).following) → InAttribute bytes b es f row at → IfErr r IsOfValue → Following at (breaks.attribute_move es b f row.0 (token bytes at).at r)
  give_leads es b f row at (Ok v) k is h own = record { before = f; assignments = record { identifier = row.0; value = v; parsed_terms = [] }; value_kind = row.1; start = at; inside = h; value = is v refl; same = refl }
  give_leads es b f row at (Err fault) k is h (inl syntax) = inl syntax
  give_leads es b f row at (Err fault) k is h (inr range) =
      inr (subst (λ f. HasFault bytes (fault_at f (token bytes at).at)) (sym range) (wrong_number b es f row at h (subst (λ (f : Fault). value_of row.1 (token bytes at).lexeme ≡ Err f) range k)))

  -- a term, at the end of a sum or before a sign
  term_leads : (es : Entries) (b : Block) (f : ConfigEntry) (a : List ℕ) (ps : List ParsedTerm) (subtracted : Bool) (at : ℕ) → SumBegun b es f a ps subtracted at → Following at (breaks.add_term es b f a ps (token bytes at).at (parsed_term subtracted (token bytes at).at (token bytes at).lexeme))
  term_leads es b f a ps subtracted at h = by (parsed_term subtracted (token bytes at).at (token bytes at).lexeme) refl (part_faults subtracted (token bytes at).at (token bytes at).lexeme)
    where
      by : (r : Result ParsedTerm Fault) → parsed_term subtracted (token bytes at).at (token bytes at).lexeme ≡ r → IfErr r IsOfValue → Following at (breaks.add_term es b f a ps (token bytes at).at r)
      by (Ok p) k own = record { start = h.start; inside = h.inside; terms = sum_more h.start at (token bytes at).following ps subtracted p h.sum (record { lexeme = (token bytes at).lexeme; stands = stood (token bytes at).lexeme at refl; part = k }) }
      by (Err fault) k (inl syntax) = inl syntax
      by (Err fault) k (inr range) = inr (subst (λ f. HasFault bytes (fault_at f (token bytes at).at)) (sym range) (wrong_term b es f a ps subtracted h.start at h.inside h.sum (subst (λ (f : Fault). parsed_term subtracted (token bytes at).at (token bytes at).lexeme ≡ Err f) range k)))

  sum_leads : (es : Entries) (b : Block) (f : ConfigEntry) (a : List ℕ) (ps : List ParsedTerm) (at : ℕ) (l : Lexeme) (o : Option Value) → sum_of_terms ps ≡ o → is_sign l ≡ false → (token bytes at).lexeme ≡ l → TermsAfter b es f a ps at → Following at (breaks.sum_end es b f a ps o l (token bytes at).at)
  sum_leads es b f a ps at l None k s e h = inr (wrong_sum b es f a ps h.start at h.inside h.terms (ap is_sign e ∙ s) k)
  sum_leads es b f a ps at l (Some v) k s e h =
      comma_leads es b (with_attribute (record { identifier = a; value = v; parsed_terms = ps }) f) at l e
      (record { before = f; assignments = record { identifier = a; value = v; parsed_terms = ps }; value_kind = a_sum; start = h.start; inside = h.inside; value = (h.terms, k); same = refl })

  sign_leads : (es : Entries) (b : Block) (f : ConfigEntry) (a : List ℕ) (ps : List ParsedTerm) (at : ℕ) (l : Lexeme) → (token bytes at).lexeme ≡ l → TermsAfter b es f a ps at → Following at (breaks.sign_or_end es b f a ps l (token bytes at).at)
  sign_leads es b f a ps at plus e h = record { start = h.start; inside = h.inside; sum = next_term ps false at (token bytes at).following h.terms (stood plus at e) }
  sign_leads es b f a ps at minus e h = record { start = h.start; inside = h.inside; sum = next_term ps true at (token bytes at).following h.terms (stood minus at e) }
  sign_leads es b f a ps at l e h = sum_leads es b f a ps at l (sum_of_terms ps) refl refl e h

  plain_value : (es : Entries) (b : Block) (f : ConfigEntry) (a : List ℕ) (value_kind : ValueKind) (at : ℕ) (v : Value) → value_of value_kind (token bytes at).lexeme ≡ Ok v → (l : Lexeme) × TokenAt bytes l at (token bytes at).following × (value_of value_kind l ≡ Ok v) × (◌≡◌ {A = List ParsedTerm} [] [])
  plain_value es b f a value_kind at v k = ((token bytes at).lexeme, stood (token bytes at).lexeme at refl, k, refl)

  value_leads : (es : Entries) (b : Block) (f : ConfigEntry) (a : List ℕ) (value_kind : ValueKind) (at : ℕ) → InAttribute bytes b es f (a, value_kind) at → Following at (breaks.attribute_value es b f a value_kind (token bytes at).lexeme (token bytes at).at)
  value_leads es b f a a_sum at h = term_leads es b f a [] false at (record { start = at; inside = h; sum = first_term })
  value_leads es b f a (number_from low high) at h = give_leads es b f (a, number_from low high) at (value_of (number_from low high) (token bytes at).lexeme) refl (λ v k. plain_value es b f a (number_from low high) at v k) h (value_faults (number_from low high) (token bytes at).lexeme)
  value_leads es b f a a_byte at h = give_leads es b f (a, a_byte) at (value_of a_byte (token bytes at).lexeme) refl (λ v k. plain_value es b f a a_byte at v k) h (value_faults a_byte (token bytes at).lexeme)
  value_leads es b f a (one_of keyword_set) at h = give_leads es b f (a, one_of keyword_set) at (value_of (one_of keyword_set) (token bytes at).lexeme) refl (λ v k. plain_value es b f a (one_of keyword_set) at v k) h (value_faults (one_of keyword_set) (token bytes at).lexeme)
  value_leads es b f a an_area at h = give_leads es b f (a, an_area) at (value_of an_area (token bytes at).lexeme) refl (λ v k. plain_value es b f a an_area at v k) h (value_faults an_area (token bytes at).lexeme)
  value_leads es b f a a_file at h = give_leads es b f (a, a_file) at (value_of a_file (token bytes at).lexeme) refl (λ v k. plain_value es b f a a_file at v k) h (value_faults a_file (token bytes at).lexeme)

  equals_leads : (es : Entries) (b : Block) (f : ConfigEntry) (row : List ℕ × ValueKind) (at : ℕ) (l : Lexeme) → (token bytes at).lexeme ≡ l → AttributeWord b es f row at → Following at (breaks.equals_or_value es b f row l (token bytes at).at)
  equals_leads es b f row at equals e h = record { begin = h.begin; written = h.written; after_keyword = at; inside = h.inside; stands = h.stands; known = h.known; once = h.once; equals_sign = inl (stood equals at e) }
  equals_leads es b f row at l e h =
      subst (λ l. Following at (breaks.attribute_value es b f row.0 row.1 l (token bytes at).at)) e
      (value_leads es b f row.0 row.1 at (record { begin = h.begin; written = h.written; after_keyword = at; inside = h.inside; stands = h.stands; known = h.known; once = h.once; equals_sign = inr refl }))

  pub moved : (es : Entries) (p : ParseState) (at : ℕ) → Before es p at → Following at (move_at_offset bytes es p at)
  moved es between_blocks at h = word_leads es at (token bytes at).at (token bytes at).lexeme refl h
  moved es (after_block_keyword b) at h = brace_leads es b at (token bytes at).at (token bytes at).lexeme refl h
  moved es (between_entries b) at h = name_leads es b at (token bytes at).lexeme refl h
  moved es (after_name b e) at h = colon_leads es b e at (token bytes at).at (token bytes at).lexeme refl h
  moved es (between_attributes b e) at h = attribute_leads es b e at (token bytes at).lexeme refl h
  moved es (after_keyword b e row) at h = equals_leads es b e row at (token bytes at).lexeme refl h
  moved es (before_value b e row) at h = value_leads es b e row.0 row.1 at h
  moved es (before_term b e a ps subtracted) at h = term_leads es b e a ps subtracted at h
  moved es (after_term b e a ps) at h = sign_leads es b e a ps at (token bytes at).lexeme refl h
  moved es (after_value b e) at h = comma_leads es b e at (token bytes at).lexeme refl h

  -- ---- The first error.

  fault_from : (es : Entries) (p : ParseState) (at : ℕ) (f : FaultAt) → Before es p at → SyntaxErrorAt bytes es p at f → (f.fault ≡ SyntaxError) ⊎ HasFault bytes f
  fault_from _ _ _ _ before (later es fs p q at f e rest) = fault_from fs q (token bytes at).following f (subst (Following at) e (moved es p at before)) rest
  fault_from _ _ _ _ before (here es p at fault offset e) = subst (Following at) e (moved es p at before)

  pub fault_of : (f : FaultAt) → SyntaxErrorAt bytes no_entries between_blocks 0 f → (f.fault ≡ SyntaxError) ⊎ HasFault bytes f
  fault_of f h = fault_from no_entries between_blocks 0 f (no_block no_entries 0) h
