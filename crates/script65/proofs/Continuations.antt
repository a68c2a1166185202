-- From each state of the grammar, some text continues up to its end.
use Rattle.std.proofs.lemmas.Grind.{common_steps}
use Rattle.std.proofs.lemmas.Bool.Decides.{nat_tests}
use Rattle.std.proofs.Common.{arith, ◌≡◌, ◌≢◌, ◌≤◌, ◌<◌, ◌⊎◌, inl, inr, ℕ, zero, suc, ◌+◌, Bool, true, false, List, [], ◌∷◌, ◌++◌, cond, find, is_some, length, drop, Option, Some, None, Result, Ok, Err, refl, sym, ap, ◌∙◌, subst}
use Rattle.std.specs.Prelude.{codes, if◌then◌else◌, nat_le, nat_lt, not, unwrap_or, ◌&&◌, ◌||◌, ◌-◌, ◌^◌, ⊤}
use Rattle.std.specs.List.{AllByRecursion, list_any}
use Rattle.std.specs.Option.{option_and_then, option_map, option_or}
use Rattle.std.specs.Str.{bytes_eq, str_eq_ignore_ascii_case}
use Rattle.std.proofs.lemmas.List.{drop-drop}
use Rattle.std.proofs.lemmas.List.Folds.{find-append, list_any-append}
use Rattle.script65.specs.declared.fault.Fault.{Fault}
use Rattle.script65.specs.declared.fault.Fault.TheVariants.{AttributeMissing, Excluded, OutOfRange}
use Rattle.script65.specs.declared.script.SegmentType.TheVariants.{ReadOnly}
use Rattle.script65.specs.AreaSums.{sum_where, difference, sum_of}
use Rattle.script65.specs.Attributes.{Block, KeywordValue, SymbolType, ValueKind, Value, a_byte, a_file, a_sum, access, address_width, an_area, area, area_access, attributes, byte, exported, flag, imported, keywords, keyword, memory, number, number_from, one_of, output_file, role, row_access, find_keyword, value_of_keyword, segments, symbol_role, symbols, unknown_sum, weak, width, yes_or_no}
use Rattle.script65.specs.SyntaxErrors.{ParseState, between_blocks, after_block_keyword, between_entries, after_name, between_attributes, after_keyword, before_value, before_term, after_term, after_value}
use Rattle.script65.specs.Entries.{Entries, ConfigEntry, AttributeValue, ParsedTerm, as_number, as_role, keyword_or_syntax_error, entry_fault, attribute_for, has_attribute, no_entries, number_for, new_entry, parsed_term, role_for, sum_of_terms, symbol_entry_fault, value_for, value_of, with_entry, with_attribute}
use Rattle.script65.specs.FirstFaults.{HasWrongEnd, InAttribute, InBlock, InEntry, InSum, IsInGrammar, HasWrongAttributes, first_term, next_term, value_of_import, wrong_entry}
use Rattle.script65.specs.Grammar.{AreAttributes, AreBlocks, AreTerms, IsAttribute, IsTerm, IsValue, MatchesGrammar, IsOptionalToken, TokenAt, attribute, more, no_attribute, one, sign}
use Rattle.script65.specs.Tokens.{Lexeme, brace, colon, end_brace, equals, leading_token, gap, numeral, output, plus, semicolon, the_end, token, identifier}
use Rattle.script65.proofs.NoContinuation.{after_place}
use Rattle.script65.proofs.PrecedingText.{AttributeWord, Before, BlockWord, EntryName, SumBegun, TermsAfter, ValueAfter, block_ends, brace_stands, colon_stands, entry_ends, sum_more, value_ends}
use Rattle.script65.proofs.ConstantSums.{find_all, not_over}

-- ---- Tokens on lines of their own.

following : (xs ys : List ℕ) → drop (length xs) (xs ++ ys) ≡ ys
following [] ys = refl
following (x ∷ xs) ys = following xs ys

no_more : (n : ℕ) → ◌≡◌ {A = List ℕ} (drop n []) []
no_more zero = refl
no_more (suc n) = refl

module _ (other : List ℕ) where
  -- the next token, and the rest after it
  record Next (l : Lexeme) (at : ℕ) (text : List ℕ) : Type 0 where
    pub next : ℕ
    pub further : at ≤ next
    pub stands : TokenAt other l at next
    pub rest : drop next other ≡ text

  next_token : (at : ℕ) (w text : List ℕ) (l : Lexeme) → drop at other ≡ 10 ∷ (w ++ text) → leading_token (w ++ text) ≡ (l, length w) → gap false (w ++ text) ≡ 0 → Next l at text
  unfolding token
  next_token at w text l e f g =
      let gap_is : gap false (drop at other) ≡ 1 = ap (gap false) e ∙ ap (λ k. 1 + k) g in
      let here : drop (at + 1) other ≡ w ++ text = sym (drop-drop 1 at other) ∙ ap (drop 1) e in
      let front_is : leading_token (drop (at + gap false (drop at other)) other) ≡ (l, length w) = ap (λ g. leading_token (drop (at + g) other)) gap_is ∙ ap leading_token here ∙ f in
      let long : (leading_token (drop (at + gap false (drop at other)) other)).1 ≡ length w = ap (λ (x : Lexeme × ℕ). x.1) front_is in
      record {
        next = (at + 1) + length w;
        further = omega arith;
        stands = record { lexeme = ap (λ (x : Lexeme × ℕ). x.0) front_is; following = omega (arith, gap_is, long) };
        rest = sym (drop-drop (length w) (at + 1) other) ∙ ap (drop (length w)) here ∙ following w text;
      }

  end_there : (at : ℕ) → drop at other ≡ 10 ∷ [] → (token other at).lexeme ≡ the_end
  unfolding token
  end_there at e =
      let n = gap false (drop at other) in
      ap (λ l. (leading_token l).0) (sym (drop-drop n at other) ∙ ap (λ k. drop k (drop at other)) (ap (gap false) e) ∙ ap (drop 1) e)

-- ---- Values that attributes accept.

-- the value of a sum is `unknown_sum`, and a symbol type is `exported`; any other value fits
abbrev pub Fits : ValueKind → Value → Type 0
Fits a_sum v = v ≡ unknown_sum
Fits (one_of symbol_role) v = v ≡ keyword (role exported)
Fits _ v = ⊤

record Filler (value_kind : ValueKind) : Type 0 where
  pub text : List ℕ
  pub lexeme : Lexeme
  pub value : Value
  pub fits : Fits value_kind value
  pub reads : (t : List ℕ) → leading_token (text ++ 10 ∷ t) ≡ (lexeme, length text)
  pub begins : (t : List ℕ) → gap false (text ++ 10 ∷ t) ≡ 0
  pub is : (other a : List ℕ) (at next : ℕ) → TokenAt other lexeme at next → (ps : List ParsedTerm) × IsValue other value_kind (record { identifier = a; value = value; parsed_terms = ps }) at next

abbrev sum_filler : Filler a_sum
sum_filler = record {
  text = 120 ∷ [];
  lexeme = identifier (120 ∷ []);
  value = unknown_sum;
  fits = refl;
  reads = λ t. refl;
  begins = λ t. refl;
  is = λ other a at next s. (record { minus = false; number = None; name = 120 ∷ []; at = (token other at).at } ∷ [], (one false (record { minus = false; number = None; name = 120 ∷ []; at = (token other at).at }) at next (record { lexeme = identifier (120 ∷ []); stands = s; part = refl }), refl));
}

abbrev align_filler : Filler (number_from 1 65536)
align_filler = record { text = 49 ∷ []; lexeme = numeral (Some 1); value = number 1; fits = tt; reads = λ t. refl; begins = λ t. refl; is = λ other a at next s. ([], (numeral (Some 1), s, refl, refl)) }

abbrev number_filler : Filler (number_from 0 0xffffffff)
number_filler = record { text = 49 ∷ []; lexeme = numeral (Some 1); value = number 1; fits = tt; reads = λ t. refl; begins = λ t. refl; is = λ other a at next s. ([], (numeral (Some 1), s, refl, refl)) }

abbrev byte_filler : Filler a_byte
byte_filler = record { text = 49 ∷ []; lexeme = numeral (Some 1); value = byte 1; fits = tt; reads = λ t. refl; begins = λ t. refl; is = λ other a at next s. ([], (numeral (Some 1), s, refl, refl)) }

abbrev flag_filler : Filler (one_of yes_or_no)
flag_filler = record { text = codes "no"; lexeme = identifier (codes "no"); value = keyword (flag false); fits = tt; reads = λ t. refl; begins = λ t. refl; is = λ other a at next s. ([], (identifier (codes "no"), s, refl, refl)) }

abbrev area_access_filler : Filler (one_of area_access)
area_access_filler = record { text = codes "ro"; lexeme = identifier (codes "ro"); value = keyword (access ReadOnly); fits = tt; reads = λ t. refl; begins = λ t. refl; is = λ other a at next s. ([], (identifier (codes "ro"), s, refl, refl)) }

abbrev row_access_filler : Filler (one_of row_access)
row_access_filler = record { text = codes "ro"; lexeme = identifier (codes "ro"); value = keyword (access ReadOnly); fits = tt; reads = λ t. refl; begins = λ t. refl; is = λ other a at next s. ([], (identifier (codes "ro"), s, refl, refl)) }

abbrev role_filler : Filler (one_of symbol_role)
role_filler = record { text = codes "export"; lexeme = identifier (codes "export"); value = keyword (role exported); fits = refl; reads = λ t. refl; begins = λ t. refl; is = λ other a at next s. ([], (identifier (codes "export"), s, refl, refl)) }

abbrev width_filler : Filler (one_of address_width)
width_filler = record { text = codes "abs"; lexeme = identifier (codes "abs"); value = keyword width; fits = tt; reads = λ t. refl; begins = λ t. refl; is = λ other a at next s. ([], (identifier (codes "abs"), s, refl, refl)) }

abbrev area_filler : Filler an_area
area_filler = record { text = 120 ∷ []; lexeme = identifier (120 ∷ []); value = area (120 ∷ []); fits = tt; reads = λ t. refl; begins = λ t. refl; is = λ other a at next s. ([], (identifier (120 ∷ []), s, refl, refl)) }

abbrev file_filler : Filler a_file
file_filler = record { text = codes "%O"; lexeme = output; value = output_file; fits = tt; reads = λ t. refl; begins = λ t. refl; is = λ other a at next s. ([], (output, s, refl, refl)) }

abbrev FillerOf : List ℕ × ValueKind → Type 0
FillerOf row = Filler row.1

filler : (b : Block) (w : List ℕ) (row : List ℕ × ValueKind) → find_keyword w (attributes b) ≡ Some row → FillerOf row
filler memory w row h = find_all FillerOf (λ (row : List ℕ × ValueKind). str_eq_ignore_ascii_case w row.0) (attributes memory) row (sum_filler, (sum_filler, (area_access_filler, (file_filler, (flag_filler, (byte_filler, (flag_filler, tt))))))) h
filler segments w row h = find_all FillerOf (λ (row : List ℕ × ValueKind). str_eq_ignore_ascii_case w row.0) (attributes segments) row (area_filler, (area_filler, (row_access_filler, (align_filler, (align_filler, (number_filler, (number_filler, (byte_filler, (flag_filler, (flag_filler, tt)))))))))) h
filler symbols w row h = find_all FillerOf (λ (row : List ℕ × ValueKind). str_eq_ignore_ascii_case w row.0) (attributes symbols) row (role_filler, (number_filler, (width_filler, tt))) h

-- ---- The attributes of an entry that are checked at its `;`.

abbrev Shape : Block → Type 0
Shape memory = Option Value × Option Value
Shape segments = Option Value
Shape symbols = Option Value × Option Value

abbrev shape_of : (b : Block) → ConfigEntry → Shape b
shape_of memory e = (value_for (codes "start") e, value_for (codes "size") e)
shape_of segments e = value_for (codes "load") e
shape_of symbols e = (value_for (codes "type") e, value_for (codes "value") e)

-- after one further attribute
abbrev put : List ℕ → List ℕ → Value → Option Value → Option Value
put w a v o = option_or o (cond (bytes_eq w a) (Some v) None)

abbrev shape_more : (b : Block) → Shape b → List ℕ → Value → Shape b
shape_more memory s a v = (put (codes "start") a v s.0, put (codes "size") a v s.1)
shape_more segments s a v = put (codes "load") a v s
shape_more symbols s a v = (put (codes "type") a v s.0, put (codes "value") a v s.1)

-- the errors at the `;`
abbrev number_in : Option Value → ℕ
number_in o = unwrap_or (option_and_then as_number o) 0

abbrev close : (b : Block) → Shape b → Option Fault
close memory s = if not (is_some s.0 && is_some s.1) then Some AttributeMissing else if nat_lt (2 ^ 32) (number_in s.0 + number_in s.1) then Some OutOfRange else None
close segments s = if is_some s then None else Some AttributeMissing
close symbols s = symbol_entry_fault (option_and_then as_role s.0) (is_some s.1)

some_value : (o : Option AttributeValue) → is_some o ≡ is_some (option_map (λ (g : AttributeValue). g.value) o)
some_value None = refl
some_value (Some g) = refl

closing_is : (b : Block) (e : ConfigEntry) → entry_fault b e ≡ close b (shape_of b e)
closing_is memory e =
    ap (λ x. if not (x && has_attribute (codes "size") e) then Some AttributeMissing else if nat_lt (2 ^ 32) (number_in (value_for (codes "start") e) + number_in (value_for (codes "size") e)) then Some OutOfRange else None) (some_value (attribute_for (codes "start") e))
    ∙ ap (λ x. if not (is_some (value_for (codes "start") e) && x) then Some AttributeMissing else if nat_lt (2 ^ 32) (number_in (value_for (codes "start") e) + number_in (value_for (codes "size") e)) then Some OutOfRange else None) (some_value (attribute_for (codes "size") e))
closing_is segments e = ap (λ x. if x then None else Some AttributeMissing) (some_value (attribute_for (codes "load") e))
closing_is symbols e = ap (symbol_entry_fault (role_for e)) (some_value (attribute_for (codes "value") e))

given_more : (a : List ℕ) (g : AttributeValue) (e : ConfigEntry) → attribute_for a (with_attribute g e) ≡ option_or (attribute_for a e) (cond (bytes_eq a g.identifier) (Some g) None)
given_more a g e = find-append (λ (g : AttributeValue). bytes_eq a g.identifier) e.assignments (g ∷ [])

value_more : (o : Option AttributeValue) (c : Bool) (g : AttributeValue) → option_map (λ (g : AttributeValue). g.value) (option_or o (cond c (Some g) None)) ≡ option_or (option_map (λ (g : AttributeValue). g.value) o) (cond c (Some g.value) None)
value_more None true g = refl
value_more None false g = refl
value_more (Some d) c g = refl

value_is : (a : List ℕ) (g : AttributeValue) (e : ConfigEntry) → value_for a (with_attribute g e) ≡ put a g.identifier g.value (value_for a e)
value_is a g e = ap (option_map (λ (g : AttributeValue). g.value)) (given_more a g e) ∙ value_more (attribute_for a e) (bytes_eq a g.identifier) g

shape_is : (b : Block) (g : AttributeValue) (e : ConfigEntry) → shape_of b (with_attribute g e) ≡ shape_more b (shape_of b e) g.identifier g.value
shape_is memory g e =
    ap (λ x. (x, value_for (codes "size") (with_attribute g e))) (value_is (codes "start") g e)
    ∙ ap (λ x. (put (codes "start") g.identifier g.value (value_for (codes "start") e), x)) (value_is (codes "size") g e)
shape_is segments g e = value_is (codes "load") g e
shape_is symbols g e =
    ap (λ x. (x, value_for (codes "value") (with_attribute g e))) (value_is (codes "type") g e)
    ∙ ap (λ x. (put (codes "type") g.identifier g.value (value_for (codes "type") e), x)) (value_is (codes "value") g e)

or_none : (o : Option Value) → option_or o None ≡ o
or_none None = refl
or_none (Some v) = refl

or_some : (o : Option Value) (v : Value) → is_some (option_or o (Some v)) ≡ true
or_some None v = refl
or_some (Some u) v = refl

none_value : (o : Option AttributeValue) → is_some o ≡ false → option_map (λ (g : AttributeValue). g.value) o ≡ None
none_value None k = refl
none_value (Some g) k = absurd cc

none_given : (o : Option AttributeValue) → option_map (λ (g : AttributeValue). g.value) o ≡ None → is_some o ≡ false
none_given None k = refl
none_given (Some g) k = absurd cc

-- ---- Properties of all attributes of entries.

-- a number is at most `2 ^ 32`
abbrev IsSmall : Option Value → Type 0
IsSmall o = number_in o ≤ 2 ^ 32

-- the value of a symbol's type is a symbol type
abbrev IsTyped : Option Value → Type 0
IsTyped None = ⊤
IsTyped (Some v) = is_some (as_role v) ≡ true

abbrev IsSound : (b : Block) → Shape b → Type 0
IsSound memory s = IsSmall s.0 × IsSmall s.1
IsSound segments s = ⊤
IsSound symbols s = IsTyped s.0

zero_small : 0 ≤ 2 ^ 32
zero_small = omega arith

other_small : (o : Option Value) → IsSmall o → IsSmall (option_or o None)
other_small None h = h
other_small (Some v) h = h

new_small : (o : Option Value) (v : Value) → IsSmall o → IsSmall (Some v) → IsSmall (option_or o (Some v))
new_small None v h k = k
new_small (Some u) v h k = h

difference_small : (added subtracted : ℕ) (v : Value) → option_map number (difference added subtracted) ≡ Some v → IsSmall (Some v)
difference_small added subtracted v h = by (nat_le subtracted added) (nat_lt (added - subtracted) (2 ^ 32)) refl h
  where
    by : (x y : Bool) → nat_lt (added - subtracted) (2 ^ 32) ≡ y → option_map number (if x && y then Some (added - subtracted) else None) ≡ Some v → IsSmall (Some v)
    by true true lt k =
        let is : number (added - subtracted) ≡ v = cc in
        let small : added - subtracted ≤ 2 ^ 32 = grind (arith, nat_tests) in
        subst (λ v. IsSmall (Some v)) is small
    by true false lt k = absurd cc
    by false y lt k = absurd cc

sum_small : (ps : List ParsedTerm) (v : Value) → sum_of_terms ps ≡ Some v → IsSmall (Some v)
sum_small ps v h = by (list_any (λ (p : ParsedTerm). not (is_some p.number)) ps) h
  where
    by : (x : Bool) → (if x then Some unknown_sum else option_map number (sum_of (λ (p : ParsedTerm). p.minus) (λ (p : ParsedTerm). unwrap_or p.number 0) ps)) ≡ Some v → IsSmall (Some v)
    by true k = let is : unknown_sum ≡ v = cc in subst (λ v. IsSmall (Some v)) is zero_small
    by false k = difference_small (sum_where (λ (p : ParsedTerm). not p.minus) (λ (p : ParsedTerm). unwrap_or p.number 0) ps) (sum_where (λ (p : ParsedTerm). p.minus) (λ (p : ParsedTerm). unwrap_or p.number 0) ps) v k

abbrev IsRoleValue : Value → Type 0
IsRoleValue v = is_some (as_role v) ≡ true

role_meant : (w : List ℕ) (v : Value) → keyword_or_syntax_error (value_of_keyword w (keywords symbol_role)) ≡ Ok v → IsRoleValue v
role_meant w v h = by (find_keyword w (keywords symbol_role)) refl h
  where
    by : (o : Option (List ℕ × KeywordValue)) → find_keyword w (keywords symbol_role) ≡ o → keyword_or_syntax_error (option_map (λ (row : List ℕ × KeywordValue). row.1) o) ≡ Ok v → IsRoleValue v
    by None k h = absurd cc
    by (Some row) k h =
        let is : keyword row.1 ≡ v = cc in
        subst IsRoleValue is (find_all (λ (row : List ℕ × KeywordValue). IsRoleValue (keyword row.1)) (λ (row : List ℕ × KeywordValue). str_eq_ignore_ascii_case w row.0) (keywords symbol_role) row (refl, (refl, (refl, tt))) k)

role_value : (l : Lexeme) (v : Value) → value_of (one_of symbol_role) l ≡ Ok v → IsRoleValue v
role_value (identifier w) v h = role_meant w v h
role_value _ v h = absurd cc

other_typed : (o : Option Value) → IsTyped o → IsTyped (option_or o None)
other_typed None h = tt
other_typed (Some v) h = h

new_typed : (o : Option Value) (v : Value) → IsTyped o → IsRoleValue v → IsTyped (option_or o (Some v))
new_typed None v h k = k
new_typed (Some u) v h k = h

-- each further attribute preserves these properties
abbrev KeepsSound : (b : Block) → List ℕ × ValueKind → Type 0
KeepsSound b row = (bytes : List ℕ) (g : AttributeValue) (at to : ℕ) → IsValue bytes row.1 g at to → (s : Shape b) → IsSound b s → IsSound b (shape_more b s row.0 g.value)

other_areas : (s : Shape memory) → IsSound memory s → IsSmall (option_or s.0 None) × IsSmall (option_or s.1 None)
other_areas s h = (other_small s.0 h.0, other_small s.1 h.1)

row_keeps : (b : Block) (w : List ℕ) (row : List ℕ × ValueKind) → find_keyword w (attributes b) ≡ Some row → KeepsSound b row
row_keeps memory w row k =
    find_all (KeepsSound memory) (λ (row : List ℕ × ValueKind). str_eq_ignore_ascii_case w row.0) (attributes memory) row (
      λ bytes g at to v s h. (new_small s.0 g.value h.0 (sum_small g.parsed_terms g.value v.1), other_small s.1 h.1),
      (
        λ bytes g at to v s h. (other_small s.0 h.0, new_small s.1 g.value h.1 (sum_small g.parsed_terms g.value v.1)),
        (
          λ bytes g at to v s h. other_areas s h,
          (
            λ bytes g at to v s h. other_areas s h,
            (
              λ bytes g at to v s h. other_areas s h,
              (
                λ bytes g at to v s h. other_areas s h,
                (λ bytes g at to v s h. other_areas s h, tt),
              ),
            ),
          ),
        ),
      ),
    ) k
row_keeps segments w row k = λ bytes g at to v s h. tt
row_keeps symbols w row k =
    find_all (KeepsSound symbols) (λ (row : List ℕ × ValueKind). str_eq_ignore_ascii_case w row.0) (attributes symbols) row (
      λ bytes g at to v s h. new_typed s.0 g.value h (role_value v.0 g.value v.2),
      (
        λ bytes g at to v s h. other_typed s.0 h,
        (λ bytes g at to v s h. other_typed s.0 h, tt),
      ),
    ) k

none_sound : (b : Block) (name : List ℕ) (at : ℕ) → IsSound b (shape_of b (new_entry name at))
none_sound memory name at = (zero_small, zero_small)
none_sound segments name at = tt
none_sound symbols name at = tt

attributes_sound : (bytes : List ℕ) (b : Block) (e f : ConfigEntry) (at to : ℕ) → AreAttributes bytes b e f at to → IsSound b (shape_of b e) → IsSound b (shape_of b f)
attributes_sound bytes b _ _ _ _ (no_attribute e at) s = s
attributes_sound bytes b _ _ _ _ (attribute e f g at mid to h rest) s =
    attributes_sound bytes b (with_attribute g e) f mid to rest
    (subst (IsSound b) (sym (shape_is b g e)) (row_keeps b h.written (g.identifier, h.value_kind) h.known bytes g h.start h.end h.value (shape_of b e) s))

sound : (bytes : List ℕ) (b : Block) (es : Entries) (e : ConfigEntry) (at : ℕ) → InEntry bytes b es e at → IsSound b (shape_of b e)
sound bytes b es e at h = attributes_sound bytes b (new_entry e.name e.at) e h.start at h.gives (none_sound b e.name e.at)

-- ---- Such a value causes no new error at the `;`, unless the symbol is an import.

-- the error isn't `AttributeMissing`
not_missing : (fault : Fault) → ◌≡◌ {A = Option Fault} (Some AttributeMissing) (Some fault) → fault ≢ AttributeMissing → ⊥
not_missing fault k ne = ne (let same : AttributeMissing ≡ fault = cc in sym same)

no_fault : (fault : Fault) → ◌≡◌ {A = Option Fault} None (Some fault) → ⊥
no_fault fault k = cc

small_fits : (n : ℕ) → n ≤ 2 ^ 32 → (o : Option Fault) → (if nat_lt (2 ^ 32) n then Some OutOfRange else o) ≡ o
small_fits n le o = ap (λ x. if x then Some OutOfRange else o) (not_over n le)

-- one of the two numbers is unknown
open_start : (o : Option Value) → IsSmall o → (fault : Fault) → close memory (Some unknown_sum, o) ≡ Some fault → fault ≢ AttributeMissing → ⊥
open_start None small fault k ne = not_missing fault k ne
open_start (Some u) small fault k ne = no_fault fault (sym (small_fits (number_in (Some unknown_sum) + number_in (Some u)) (omega arith) None) ∙ k)

open_size : (o : Option Value) → IsSmall o → (fault : Fault) → close memory (o, Some unknown_sum) ≡ Some fault → fault ≢ AttributeMissing → ⊥
open_size None small fault k ne = not_missing fault k ne
open_size (Some u) small fault k ne = no_fault fault (sym (small_fits (number_in (Some u) + number_in (Some unknown_sum)) (omega arith) None) ∙ k)

no_row : (x : Bool) (fault : Fault) → (if◌then◌else◌ {A = Option Fault} x None (Some AttributeMissing)) ≡ Some fault → fault ≢ AttributeMissing → ⊥
no_row true fault k ne = no_fault fault k
no_row false fault k ne = not_missing fault k ne

no_export : (x : Bool) (fault : Fault) → symbol_entry_fault (Some exported) x ≡ Some fault → fault ≢ AttributeMissing → ⊥
no_export true fault k ne = no_fault fault k
no_export false fault k ne = not_missing fault k ne

with_value : (o : Option SymbolType) (fault : Fault) → symbol_entry_fault o true ≡ Some fault → fault ≢ AttributeMissing → o ≡ Some imported
with_value None fault k ne = absurd (not_missing fault k ne)
with_value (Some imported) fault k ne = refl
with_value (Some exported) fault k ne = absurd (no_fault fault k)
with_value (Some weak) fault k ne = absurd (no_fault fault k)

-- the attribute is the value of an import
abbrev IsValueOf : Block → ConfigEntry → List ℕ → Type 0
IsValueOf symbols e a = (a ≡ codes "value") × (role_for e ≡ Some imported)
IsValueOf _ e a = ⊥

abbrev WasWrong : (b : Block) → List ℕ × ValueKind → Type 0
WasWrong b row = (e : ConfigEntry) → has_attribute row.0 e ≡ false → IsSound b (shape_of b e) → (v : Value) → Fits row.1 v → (fault : Fault) → close b (shape_more b (shape_of b e) row.0 v) ≡ Some fault → fault ≢ AttributeMissing → (entry_fault b e ≡ Some fault) ⊎ IsValueOf b e row.0

was_area : (e : ConfigEntry) (fault : Fault) → close memory (option_or (value_for (codes "start") e) None, option_or (value_for (codes "size") e) None) ≡ Some fault → entry_fault memory e ≡ Some fault
was_area e fault k =
    closing_is memory e
    ∙ ap (λ (o : Option Value). close memory (o, value_for (codes "size") e)) (sym (or_none (value_for (codes "start") e)))
    ∙ ap (λ (o : Option Value). close memory (option_or (value_for (codes "start") e) None, o)) (sym (or_none (value_for (codes "size") e)))
    ∙ k

was_symbol : (e : ConfigEntry) (fault : Fault) → close symbols (option_or (value_for (codes "type") e) None, option_or (value_for (codes "value") e) None) ≡ Some fault → entry_fault symbols e ≡ Some fault
was_symbol e fault k =
    closing_is symbols e
    ∙ ap (λ (o : Option Value). close symbols (o, value_for (codes "value") e)) (sym (or_none (value_for (codes "type") e)))
    ∙ ap (λ (o : Option Value). close symbols (option_or (value_for (codes "type") e) None, o)) (sym (or_none (value_for (codes "value") e)))
    ∙ k

was_start : WasWrong memory (codes "start", a_sum)
was_start e once s v fits fault k ne =
    let was : value_for (codes "start") e ≡ None = none_value (attribute_for (codes "start") e) once in
    absurd (open_start (option_or (value_for (codes "size") e) None) (other_small (value_for (codes "size") e) s.1) fault
    (sym (ap (λ (o : Option Value). close memory (o, option_or (value_for (codes "size") e) None)) (ap (λ (o : Option Value). option_or o (Some v)) was ∙ ap (λ v. Some v) fits)) ∙ k) ne)

was_size : WasWrong memory (codes "size", a_sum)
was_size e once s v fits fault k ne =
    let was : value_for (codes "size") e ≡ None = none_value (attribute_for (codes "size") e) once in
    absurd (open_size (option_or (value_for (codes "start") e) None) (other_small (value_for (codes "start") e) s.0) fault
    (sym (ap (λ (o : Option Value). close memory (option_or (value_for (codes "start") e) None, o)) (ap (λ (o : Option Value). option_or o (Some v)) was ∙ ap (λ v. Some v) fits)) ∙ k) ne)

was_type : WasWrong symbols (codes "type", one_of symbol_role)
was_type e once s v fits fault k ne =
    let was : value_for (codes "type") e ≡ None = none_value (attribute_for (codes "type") e) once in
    absurd (no_export (is_some (option_or (value_for (codes "value") e) None)) fault
    (sym (ap (λ (o : Option Value). close symbols (o, option_or (value_for (codes "value") e) None)) (ap (λ (o : Option Value). option_or o (Some v)) was ∙ ap (λ v. Some v) fits)) ∙ k) ne)

was_value : WasWrong symbols (codes "value", number_from 0 0xffffffff)
was_value e once s v fits fault k ne =
    inr (
      refl,
      with_value (role_for e) fault
          (sym (ap (λ (o : Option Value). symbol_entry_fault (option_and_then as_role o) (is_some (option_or (value_for (codes "value") e) (Some v)))) (or_none (value_for (codes "type") e)) ∙ ap (symbol_entry_fault (role_for e)) (or_some (value_for (codes "value") e) v)) ∙ k) ne,
    )

was_wrong : (b : Block) (w : List ℕ) (row : List ℕ × ValueKind) → find_keyword w (attributes b) ≡ Some row → WasWrong b row
was_wrong memory w row known =
    find_all (WasWrong memory) (λ (row : List ℕ × ValueKind). str_eq_ignore_ascii_case w row.0) (attributes memory) row (
      was_start,
      (
        was_size,
        (
          λ e once s v fits fault k ne. inl (was_area e fault k),
          (
            λ e once s v fits fault k ne. inl (was_area e fault k),
            (
              λ e once s v fits fault k ne. inl (was_area e fault k),
              (
                λ e once s v fits fault k ne. inl (was_area e fault k),
                (λ e once s v fits fault k ne. inl (was_area e fault k), tt),
              ),
            ),
          ),
        ),
      ),
    ) known
was_wrong segments w row known = λ e once s v fits fault k ne. absurd (no_row (is_some (put (codes "load") row.0 v (value_for (codes "load") e))) fault k ne)
was_wrong symbols w row known =
    find_all (WasWrong symbols) (λ (row : List ℕ × ValueKind). str_eq_ignore_ascii_case w row.0) (attributes symbols) row (
      was_type,
      (
        was_value,
        (λ e once s v fits fault k ne. inl (was_symbol e fault k), tt),
      ),
    ) known

-- ---- The offsets in an attribute are after its name.

perhaps_after : (bytes : List ℕ) (l : Lexeme) (at next : ℕ) → IsOptionalToken bytes l at next → at ≤ next
perhaps_after bytes l at next (inl s) = omega (arith, after_place bytes at, s.following)
perhaps_after bytes l at next (inr same) = omega arith

terms_after : (bytes : List ℕ) (subtracted : Bool) (ps : List ParsedTerm) (at next : ℕ) → AreTerms bytes subtracted ps at next → at ≤ next
terms_after bytes _ _ _ _ (one subtracted p at next h) = omega (arith, after_place bytes at, h.stands.following)
terms_after bytes _ _ _ _ (more subtracted then_subtracted p ps at mid start next h s rest) =
    omega (arith, after_place bytes at, h.stands.following, after_place bytes mid, s.following, terms_after bytes then_subtracted ps start next rest)

sum_after : (bytes : List ℕ) (start at : ℕ) (ps : List ParsedTerm) (subtracted : Bool) → InSum bytes start ps subtracted at → start ≤ at
sum_after bytes start _ _ _ first_term = omega arith
sum_after bytes start _ _ _ (next_term ps subtracted mid at terms s) = omega (arith, terms_after bytes false ps start mid terms, after_place bytes mid, s.following)

attribute_after : (bytes : List ℕ) (b : Block) (es : Entries) (e : ConfigEntry) (row : List ℕ × ValueKind) (at : ℕ) (h : InAttribute bytes b es e row at) → h.begin ≤ at
attribute_after bytes b es e row at h = omega (arith, after_place bytes h.begin, h.stands.following, perhaps_after bytes equals h.after_keyword at h.equals_sign)

-- if an attribute makes an entry wrong, the entry was wrong before, or it is an import with a value
wrong_before : (bytes : List ℕ) (b : Block) (es : Entries) (e : ConfigEntry) (row : List ℕ × ValueKind) (at offset : ℕ) → InAttribute bytes b es e row at → at ≤ offset → (v : Value) → Fits row.1 v → (ps : List ParsedTerm) (fault : Fault) → entry_fault b (with_attribute (record { identifier = row.0; value = v; parsed_terms = ps }) e) ≡ Some fault → fault ≢ AttributeMissing → HasWrongAttributes bytes offset
wrong_before bytes b es e row at offset h le v fits ps fault k ne =
    let more : AttributeValue = record { identifier = row.0; value = v; parsed_terms = ps } in
    by b h (was_wrong b h.written row h.known e h.once (sound bytes b es e h.begin h.inside) v fits fault (ap (close b) (sym (shape_is b more e)) ∙ sym (closing_is b (with_attribute more e)) ∙ k) ne)
  where
    by : (b : Block) (h : InAttribute bytes b es e row at) → (entry_fault b e ≡ Some fault) ⊎ IsValueOf b e row.0 → HasWrongAttributes bytes offset
    by b h (inl c) = wrong_entry b es e fault h.begin h.inside (omega (arith, attribute_after bytes b es e row at h)) c ne
    by symbols h (inr i) = value_of_import es e row at h le i.0 i.1
    by memory h (inr i) = absurd i
    by segments h (inr i) = absurd i

-- ---- Up to the end of an entry, and of the text.

abbrev memory_text : Option Value → Option Value → List ℕ
memory_text (Some u) (Some v) = 59 ∷ 10 ∷ 125 ∷ 10 ∷ []
memory_text (Some u) None = codes "size" ++ 10 ∷ 120 ∷ 10 ∷ 59 ∷ 10 ∷ 125 ∷ 10 ∷ []
memory_text None (Some v) = codes "start" ++ 10 ∷ 120 ∷ 10 ∷ 59 ∷ 10 ∷ 125 ∷ 10 ∷ []
memory_text None None = codes "start" ++ 10 ∷ 120 ∷ 10 ∷ codes "size" ++ 10 ∷ 120 ∷ 10 ∷ 59 ∷ 10 ∷ 125 ∷ 10 ∷ []

abbrev row_text : Option Value → List ℕ
row_text (Some v) = 59 ∷ 10 ∷ 125 ∷ 10 ∷ []
row_text None = codes "load" ++ 10 ∷ 120 ∷ 10 ∷ 59 ∷ 10 ∷ 125 ∷ 10 ∷ []

abbrev typed_text : Option SymbolType → Option Value → List ℕ
typed_text (Some exported) None = codes "value" ++ 10 ∷ 49 ∷ 10 ∷ 59 ∷ 10 ∷ 125 ∷ 10 ∷ []
typed_text (Some weak) None = codes "value" ++ 10 ∷ 49 ∷ 10 ∷ 59 ∷ 10 ∷ 125 ∷ 10 ∷ []
typed_text _ _ = 59 ∷ 10 ∷ 125 ∷ 10 ∷ []

abbrev symbol_text : Option Value → Option Value → List ℕ
symbol_text None o = codes "type" ++ 10 ∷ codes "export" ++ 10 ∷ typed_text (Some exported) o
symbol_text (Some v) o = typed_text (as_role v) o

abbrev shape_text : (b : Block) → Shape b → List ℕ
shape_text memory s = memory_text s.0 s.1
shape_text segments s = row_text s
shape_text symbols s = symbol_text s.0 s.1

module _ (other : List ℕ) where
  -- an entry with one further attribute
  record Gives (b : Block) (es : Entries) (e : ConfigEntry) (a : List ℕ) (v : Value) (at : ℕ) (text : List ℕ) : Type 0 where
    pub parsed_terms : List ParsedTerm
    pub next : ℕ
    pub further : at ≤ next
    pub inside : InEntry other b es (with_attribute (record { identifier = a; value = v; parsed_terms = parsed_terms }) e) next
    pub rest : drop next other ≡ 10 ∷ text

  filled : (b : Block) (es : Entries) (e : ConfigEntry) (a : List ℕ) (value_kind : ValueKind) (at : ℕ) (text : List ℕ) (f : Filler value_kind) → InAttribute other b es e (a, value_kind) at → drop at other ≡ 10 ∷ (f.text ++ 10 ∷ text) → Gives b es e a f.value at text
  filled b es e a value_kind at text f h d =
      let n = next_token other at f.text (10 ∷ text) f.lexeme d (f.reads text) (f.begins text) in
      let v = f.is other a at n.next n.stands in
      record {
        parsed_terms = v.0;
        next = n.next;
        further = n.further;
        inside = value_ends other b es (with_attribute (record { identifier = a; value = f.value; parsed_terms = v.0 }) e) n.next n.next (record { before = e; assignments = record { identifier = a; value = f.value; parsed_terms = v.0 }; value_kind = value_kind; start = at; inside = h; value = v.1; same = refl }) (inr refl);
        rest = n.rest;
      }

  given_next : (b : Block) (es : Entries) (e : ConfigEntry) (w a : List ℕ) (value_kind : ValueKind) (at : ℕ) (text : List ℕ) (f : Filler value_kind) → find_keyword w (attributes b) ≡ Some (a, value_kind) → has_attribute a e ≡ false → leading_token (w ++ 10 ∷ (f.text ++ 10 ∷ text)) ≡ (identifier w, length w) → gap false (w ++ 10 ∷ (f.text ++ 10 ∷ text)) ≡ 0 → InEntry other b es e at → drop at other ≡ 10 ∷ (w ++ 10 ∷ (f.text ++ 10 ∷ text)) → Gives b es e a f.value at text
  given_next b es e w a value_kind at text f known once reads begins h d =
      let n = next_token other at w (10 ∷ (f.text ++ 10 ∷ text)) (identifier w) d reads begins in
      let g = filled b es e a value_kind n.next text f (record { begin = at; written = w; after_keyword = n.next; inside = h; stands = n.stands; known = known; once = once; equals_sign = inr refl }) n.rest in
      record { parsed_terms = g.parsed_terms; next = g.next; further = omega (arith, n.further, g.further); inside = g.inside; rest = g.rest }

  -- the text is a script, or `W` is true and the text is wrong at a `;`
  module _ (offset : ℕ) (W : Type 0) where
    abbrev Ends : Type 0
    Ends = IsInGrammar other ⊎ (W × HasWrongEnd other offset)

    -- if the entry is wrong, `W` is true
    abbrev IfWrong : Block → ConfigEntry → Type 0
    IfWrong b e = (fault : Fault) → entry_fault b e ≡ Some fault → fault ≢ AttributeMissing → W

    text_closes : (es : Entries) (at : ℕ) → AreBlocks other no_entries es 0 at → drop at other ≡ 10 ∷ [] → Ends
    text_closes es at h d = inl (es, record { end = at; blocks = h; ends = end_there other at d })

    block_closes : (b : Block) (es : Entries) (at : ℕ) → InBlock other b es at → drop at other ≡ 10 ∷ 125 ∷ 10 ∷ [] → Ends
    block_closes b es at h d =
        let n = next_token other at (125 ∷ []) (10 ∷ []) end_brace d refl refl in
        text_closes es n.next (block_ends other b es at n.next h n.stands) n.rest

    entry_closes : (b : Block) (es : Entries) (e : ConfigEntry) (at : ℕ) → offset ≤ at → IfWrong b e → (entry_fault b e ≡ Some AttributeMissing → ⊥) → InEntry other b es e at → drop at other ≡ 10 ∷ 59 ∷ 10 ∷ 125 ∷ 10 ∷ [] → Ends
    entry_closes b es e at le wrong whole h d = by (entry_fault b e) refl
      where
        n : Next other semicolon at (10 ∷ 125 ∷ 10 ∷ [])
        n = next_token other at (59 ∷ []) (10 ∷ 125 ∷ 10 ∷ []) semicolon d refl refl

        by : (o : Option Fault) → entry_fault b e ≡ o → Ends
        by None k = block_closes b (with_entry b e es) n.next (entry_ends other b es e at n.next h k n.stands) n.rest
        by (Some fault) k =
            let ne : fault ≢ AttributeMissing = λ m. whole (k ∙ ap (λ f. Some f) m) in
            inr (wrong fault k ne, record { block = b; entries = es; entry = e; fault = fault; at = at; inside = h; further = le; ends = n.stands.lexeme; wrong = k; whole = ne })

    -- entries of areas
    area_whole : (u v : Value) → close memory (Some u, Some v) ≡ Some AttributeMissing → ⊥
    area_whole u v = by (nat_lt (2 ^ 32) (number_in (Some u) + number_in (Some v)))
      where
        by : (x : Bool) → (if◌then◌else◌ {A = Option Fault} x (Some OutOfRange) None) ≡ Some AttributeMissing → ⊥
        by true k = cc
        by false k = cc

    area_is : (e : ConfigEntry) (s z : Option Value) → value_for (codes "start") e ≡ s → value_for (codes "size") e ≡ z → entry_fault memory e ≡ close memory (s, z)
    area_is e s z j k =
        closing_is memory e
        ∙ ap (λ (o : Option Value). close memory (o, value_for (codes "size") e)) j
        ∙ ap (λ (o : Option Value). close memory (s, o)) k

    area_closes : (u v : Value) (es : Entries) (e : ConfigEntry) (at : ℕ) → offset ≤ at → IfWrong memory e → value_for (codes "start") e ≡ Some u → value_for (codes "size") e ≡ Some v → InEntry other memory es e at → drop at other ≡ 10 ∷ 59 ∷ 10 ∷ 125 ∷ 10 ∷ [] → Ends
    area_closes u v es e at le wrong j k h d = entry_closes memory es e at le wrong (λ m. area_whole u v (sym (area_is e (Some u) (Some v) j k) ∙ m)) h d

    size_closes : (u : Value) (es : Entries) (e : ConfigEntry) (at : ℕ) → offset ≤ at → value_for (codes "start") e ≡ Some u → value_for (codes "size") e ≡ None → InEntry other memory es e at → drop at other ≡ 10 ∷ (codes "size" ++ 10 ∷ 120 ∷ 10 ∷ 59 ∷ 10 ∷ 125 ∷ 10 ∷ []) → Ends
    size_closes u es e at le j k h d =
        let g = given_next memory es e (codes "size") (codes "size") a_sum at (59 ∷ 10 ∷ 125 ∷ 10 ∷ []) sum_filler refl (none_given (attribute_for (codes "size") e) k) refl refl h d in
        let with_size : AttributeValue = record { identifier = codes "size"; value = unknown_sum; parsed_terms = g.parsed_terms } in
        let start_is : value_for (codes "start") (with_attribute with_size e) ≡ Some u = value_is (codes "start") with_size e ∙ or_none (value_for (codes "start") e) ∙ j in
        let size_is : value_for (codes "size") (with_attribute with_size e) ≡ Some unknown_sum = value_is (codes "size") with_size e ∙ ap (λ (o : Option Value). option_or o (Some unknown_sum)) k in
        let small : IsSmall (Some u) = subst IsSmall j (sound other memory es e at h).0 in
        area_closes u unknown_sum es (with_attribute with_size e) g.next (omega (arith, g.further))
        (λ fault c ne. absurd (open_size (Some u) small fault (sym (area_is (with_attribute with_size e) (Some u) (Some unknown_sum) start_is size_is) ∙ c) ne))
        start_is size_is g.inside g.rest

    memory_closes : (s z : Option Value) (es : Entries) (e : ConfigEntry) (at : ℕ) → offset ≤ at → IfWrong memory e → value_for (codes "start") e ≡ s → value_for (codes "size") e ≡ z → InEntry other memory es e at → drop at other ≡ 10 ∷ memory_text s z → Ends
    memory_closes (Some u) (Some v) es e at le wrong j k h d = area_closes u v es e at le wrong j k h d
    memory_closes (Some u) None es e at le wrong j k h d = size_closes u es e at le j k h d
    memory_closes None (Some v) es e at le wrong j k h d =
        let g = given_next memory es e (codes "start") (codes "start") a_sum at (59 ∷ 10 ∷ 125 ∷ 10 ∷ []) sum_filler refl (none_given (attribute_for (codes "start") e) j) refl refl h d in
        let with_start : AttributeValue = record { identifier = codes "start"; value = unknown_sum; parsed_terms = g.parsed_terms } in
        let start_is : value_for (codes "start") (with_attribute with_start e) ≡ Some unknown_sum = value_is (codes "start") with_start e ∙ ap (λ (o : Option Value). option_or o (Some unknown_sum)) j in
        let size_is : value_for (codes "size") (with_attribute with_start e) ≡ Some v = value_is (codes "size") with_start e ∙ or_none (value_for (codes "size") e) ∙ k in
        let small : IsSmall (Some v) = subst IsSmall k (sound other memory es e at h).1 in
        area_closes unknown_sum v es (with_attribute with_start e) g.next (omega (arith, g.further))
        (λ fault c ne. absurd (open_start (Some v) small fault (sym (area_is (with_attribute with_start e) (Some unknown_sum) (Some v) start_is size_is) ∙ c) ne))
        start_is size_is g.inside g.rest
    memory_closes None None es e at le wrong j k h d =
        let g = given_next memory es e (codes "start") (codes "start") a_sum at (codes "size" ++ 10 ∷ 120 ∷ 10 ∷ 59 ∷ 10 ∷ 125 ∷ 10 ∷ []) sum_filler refl (none_given (attribute_for (codes "start") e) j) refl refl h d in
        let with_start : AttributeValue = record { identifier = codes "start"; value = unknown_sum; parsed_terms = g.parsed_terms } in
        size_closes unknown_sum es (with_attribute with_start e) g.next (omega (arith, g.further))
        (value_is (codes "start") with_start e ∙ ap (λ (o : Option Value). option_or o (Some unknown_sum)) j)
        (value_is (codes "size") with_start e ∙ or_none (value_for (codes "size") e) ∙ k)
        g.inside g.rest

    -- entries of rows
    row_is : (e : ConfigEntry) (o : Option Value) → value_for (codes "load") e ≡ o → entry_fault segments e ≡ close segments o
    row_is e o j = closing_is segments e ∙ ap (close segments) j

    never : (o : Option Fault) → o ≡ None → o ≡ Some AttributeMissing → ⊥
    never o n k = no_fault AttributeMissing (sym n ∙ k)

    right : (b : Block) (e : ConfigEntry) → entry_fault b e ≡ None → IfWrong b e
    right b e n fault k ne = absurd (no_fault fault (sym n ∙ k))

    right_closes : (b : Block) (es : Entries) (e : ConfigEntry) (at : ℕ) → offset ≤ at → entry_fault b e ≡ None → InEntry other b es e at → drop at other ≡ 10 ∷ 59 ∷ 10 ∷ 125 ∷ 10 ∷ [] → Ends
    right_closes b es e at le n h d = entry_closes b es e at le (right b e n) (never (entry_fault b e) n) h d

    row_closes : (o : Option Value) (es : Entries) (e : ConfigEntry) (at : ℕ) → offset ≤ at → value_for (codes "load") e ≡ o → InEntry other segments es e at → drop at other ≡ 10 ∷ row_text o → Ends
    row_closes (Some u) es e at le j h d = right_closes segments es e at le (row_is e (Some u) j) h d
    row_closes None es e at le j h d =
        let g = given_next segments es e (codes "load") (codes "load") an_area at (59 ∷ 10 ∷ 125 ∷ 10 ∷ []) area_filler refl (none_given (attribute_for (codes "load") e) j) refl refl h d in
        let with_load : AttributeValue = record { identifier = codes "load"; value = area (120 ∷ []); parsed_terms = g.parsed_terms } in
        right_closes segments es (with_attribute with_load e) g.next (omega (arith, g.further))
        (row_is (with_attribute with_load e) (Some (area (120 ∷ []))) (value_is (codes "load") with_load e ∙ ap (λ (o : Option Value). option_or o (Some (area (120 ∷ [])))) j))
        g.inside g.rest

    -- entries of symbols
    symbol_is : (e : ConfigEntry) (o : Option SymbolType) (v : Option Value) → role_for e ≡ o → value_for (codes "value") e ≡ v → entry_fault symbols e ≡ symbol_entry_fault o (is_some v)
    symbol_is e o v j k =
        closing_is symbols e
        ∙ ap (λ o. symbol_entry_fault o (is_some (value_for (codes "value") e))) j
        ∙ ap (λ (v : Option Value). symbol_entry_fault o (is_some v)) k

    value_closes : (kind : SymbolType) (es : Entries) (e : ConfigEntry) (at : ℕ) → symbol_entry_fault (Some kind) true ≡ None → offset ≤ at → role_for e ≡ Some kind → value_for (codes "value") e ≡ None → InEntry other symbols es e at → drop at other ≡ 10 ∷ (codes "value" ++ 10 ∷ 49 ∷ 10 ∷ 59 ∷ 10 ∷ 125 ∷ 10 ∷ []) → Ends
    value_closes kind es e at closing le j k h d =
        let g = given_next symbols es e (codes "value") (codes "value") (number_from 0 0xffffffff) at (59 ∷ 10 ∷ 125 ∷ 10 ∷ []) number_filler refl (none_given (attribute_for (codes "value") e) k) refl refl h d in
        let with_it : AttributeValue = record { identifier = codes "value"; value = number 1; parsed_terms = g.parsed_terms } in
        right_closes symbols es (with_attribute with_it e) g.next (omega (arith, g.further))
        (symbol_is (with_attribute with_it e) (Some kind) (Some (number 1))
        (ap (option_and_then as_role) (value_is (codes "type") with_it e ∙ or_none (value_for (codes "type") e)) ∙ j)
        (value_is (codes "value") with_it e ∙ ap (λ (o : Option Value). option_or o (Some (number 1))) k) ∙ closing)
        g.inside g.rest

    typed_closes : (o : Option SymbolType) (v : Option Value) (es : Entries) (e : ConfigEntry) (at : ℕ) → is_some o ≡ true → offset ≤ at → IfWrong symbols e → role_for e ≡ o → value_for (codes "value") e ≡ v → InEntry other symbols es e at → drop at other ≡ 10 ∷ typed_text o v → Ends
    typed_closes None v es e at some le wrong j k h d = absurd cc
    typed_closes (Some exported) None es e at some le wrong j k h d = value_closes exported es e at refl le j k h d
    typed_closes (Some weak) None es e at some le wrong j k h d = value_closes weak es e at refl le j k h d
    typed_closes (Some exported) (Some v) es e at some le wrong j k h d = right_closes symbols es e at le (symbol_is e (Some exported) (Some v) j k) h d
    typed_closes (Some weak) (Some v) es e at some le wrong j k h d = right_closes symbols es e at le (symbol_is e (Some weak) (Some v) j k) h d
    typed_closes (Some imported) None es e at some le wrong j k h d = right_closes symbols es e at le (symbol_is e (Some imported) None j k) h d
    typed_closes (Some imported) (Some v) es e at some le wrong j k h d =
        entry_closes symbols es e at le wrong (λ m. excluded_whole (sym (symbol_is e (Some imported) (Some v) j k) ∙ m)) h d
      where
        excluded_whole : ◌≡◌ {A = Option Fault} (Some Excluded) (Some AttributeMissing) → ⊥
        excluded_whole m = cc

    symbol_closes : (o v : Option Value) (es : Entries) (e : ConfigEntry) (at : ℕ) → offset ≤ at → IfWrong symbols e → value_for (codes "type") e ≡ o → value_for (codes "value") e ≡ v → InEntry other symbols es e at → drop at other ≡ 10 ∷ symbol_text o v → Ends
    symbol_closes None v es e at le wrong j k h d =
        let g = given_next symbols es e (codes "type") (codes "type") (one_of symbol_role) at (typed_text (Some exported) v) role_filler refl (none_given (attribute_for (codes "type") e) j) refl refl h d in
        let with_type : AttributeValue = record { identifier = codes "type"; value = keyword (role exported); parsed_terms = g.parsed_terms } in
        let role_is : role_for (with_attribute with_type e) ≡ Some exported = ap (option_and_then as_role) (value_is (codes "type") with_type e ∙ ap (λ (o : Option Value). option_or o (Some (keyword (role exported)))) j) in
        typed_closes (Some exported) v es (with_attribute with_type e) g.next refl (omega (arith, g.further))
        (λ fault c ne. absurd (no_export (is_some (value_for (codes "value") (with_attribute with_type e))) fault (sym (symbol_is (with_attribute with_type e) (Some exported) (value_for (codes "value") (with_attribute with_type e)) role_is refl) ∙ c) ne))
        role_is
        (value_is (codes "value") with_type e ∙ or_none (value_for (codes "value") e) ∙ k)
        g.inside g.rest
    symbol_closes (Some u) v es e at le wrong j k h d =
        typed_closes (as_role u) v es e at (subst IsTyped j (sound other symbols es e at h)) le wrong (ap (option_and_then as_role) j) k h d

    closes : (b : Block) (es : Entries) (e : ConfigEntry) (at : ℕ) → offset ≤ at → IfWrong b e → InEntry other b es e at → drop at other ≡ 10 ∷ shape_text b (shape_of b e) → Ends
    closes memory es e at le wrong h d = memory_closes (value_for (codes "start") e) (value_for (codes "size") e) es e at le wrong refl refl h d
    closes segments es e at le wrong h d = row_closes (value_for (codes "load") e) es e at le refl h d
    closes symbols es e at le wrong h d = symbol_closes (value_for (codes "type") e) (value_for (codes "value") e) es e at le wrong refl refl h d

    -- an entry after one further attribute
    more_closes : (b : Block) (es : Entries) (e : ConfigEntry) (g : AttributeValue) (at : ℕ) → offset ≤ at → IfWrong b (with_attribute g e) → InEntry other b es (with_attribute g e) at → drop at other ≡ 10 ∷ shape_text b (shape_more b (shape_of b e) g.identifier g.value) → Ends
    more_closes b es e g at le wrong h d = closes b es (with_attribute g e) at le wrong h (d ∙ ap (λ s. 10 ∷ shape_text b s) (sym (shape_is b g e)))

    value_there : (b : Block) (es : Entries) (e : ConfigEntry) (row : List ℕ × ValueKind) (at : ℕ) (f : Filler row.1) → offset ≤ at → ((ps : List ParsedTerm) → IfWrong b (with_attribute (record { identifier = row.0; value = f.value; parsed_terms = ps }) e)) → InAttribute other b es e row at → drop at other ≡ 10 ∷ (f.text ++ 10 ∷ shape_text b (shape_more b (shape_of b e) row.0 f.value)) → Ends
    value_there b es e row at f le wrong h d =
        let g = filled b es e row.0 row.1 at (shape_text b (shape_more b (shape_of b e) row.0 f.value)) f h d in
        more_closes b es e (record { identifier = row.0; value = f.value; parsed_terms = g.parsed_terms }) g.next (omega (arith, g.further)) (wrong g.parsed_terms) g.inside g.rest

    -- a sum with a name has the value `unknown_sum`
    or_true : (x : Bool) → (x || true) ≡ true
    or_true true = refl
    or_true false = refl

    named : (ps : List ParsedTerm) (p : ParsedTerm) → p.number ≡ None → sum_of_terms (ps ++ p ∷ []) ≡ Some unknown_sum
    named ps p n =
        let some : list_any (λ (p : ParsedTerm). not (is_some p.number)) (ps ++ p ∷ []) ≡ true =
        list_any-append (λ (p : ParsedTerm). not (is_some p.number)) ps (p ∷ [])
        ∙ ap (λ o. list_any (λ (p : ParsedTerm). not (is_some p.number)) ps || (not (is_some o) || false)) n
        ∙ or_true (list_any (λ (p : ParsedTerm). not (is_some p.number)) ps) in
        ap (λ c. if c then Some unknown_sum else option_map number (sum_of (λ (p : ParsedTerm). p.minus) (λ (p : ParsedTerm). unwrap_or p.number 0) (ps ++ p ∷ []))) some

    term_there : (b : Block) (es : Entries) (e : ConfigEntry) (a : List ℕ) (ps : List ParsedTerm) (subtracted : Bool) (at : ℕ) → offset ≤ at → ((ps : List ParsedTerm) → IfWrong b (with_attribute (record { identifier = a; value = unknown_sum; parsed_terms = ps }) e)) → SumBegun other b es e a ps subtracted at → drop at other ≡ 10 ∷ 120 ∷ 10 ∷ shape_text b (shape_more b (shape_of b e) a unknown_sum) → Ends
    term_there b es e a ps subtracted at le wrong h d =
        let n = next_token other at (120 ∷ []) (10 ∷ shape_text b (shape_more b (shape_of b e) a unknown_sum)) (identifier (120 ∷ [])) d refl refl in
        let p : ParsedTerm = record { minus = subtracted; number = None; name = 120 ∷ []; at = (token other at).at } in
        let is : IsTerm other subtracted p at n.next = record { lexeme = identifier (120 ∷ []); stands = n.stands; part = refl } in
        let g : AttributeValue = record { identifier = a; value = unknown_sum; parsed_terms = ps ++ p ∷ [] } in
        more_closes b es e g n.next (omega (arith, n.further)) (wrong (ps ++ p ∷ []))
        (value_ends other b es (with_attribute g e) n.next n.next (record { before = e; assignments = g; value_kind = a_sum; start = h.start; inside = h.inside; value = (sum_more other h.start at n.next ps subtracted p h.sum is, named ps p refl); same = refl }) (inr refl))
        n.rest

-- ---- After each state.

-- a text that can follow this state in any text
pub record Closed (bytes : List ℕ) (es : Entries) (p : ParseState) (at : ℕ) : Type 0 where
  pub text : List ℕ
  pub ends : (other : List ℕ) → Before other es p at → drop at other ≡ 10 ∷ text → IsInGrammar other ⊎ (HasWrongAttributes bytes at × HasWrongEnd other at)

at_least : (n : ℕ) → n ≤ n
at_least n = omega arith

-- the only error of an entry without attributes is `AttributeMissing`
nothing_given : (b : Block) (e : ConfigEntry) (name : List ℕ) (at : ℕ) → e ≡ new_entry name at → (fault : Fault) → entry_fault b e ≡ Some fault → fault ≢ AttributeMissing → ⊥
nothing_given memory e name at new fault k ne = not_missing fault (sym (ap (entry_fault memory) new) ∙ k) ne
nothing_given segments e name at new fault k ne = not_missing fault (sym (ap (entry_fault segments) new) ∙ k) ne
nothing_given symbols e name at new fault k ne = not_missing fault (sym (ap (entry_fault symbols) new) ∙ k) ne

pub closed : (bytes : List ℕ) (es : Entries) (p : ParseState) (at : ℕ) → Before bytes es p at → Closed bytes es p at
closed bytes es between_blocks at h = record { text = []; ends = λ other i d. text_closes other at (HasWrongAttributes bytes at) es at i d }
closed bytes es (after_block_keyword b) at h = record {
  text = 123 ∷ 10 ∷ 125 ∷ 10 ∷ [];
  ends = λ other i d.
      let n = next_token other at (123 ∷ []) (10 ∷ 125 ∷ 10 ∷ []) brace d refl refl in
      block_closes other at (HasWrongAttributes bytes at) b es n.next (brace_stands other b es at n.next i n.stands) n.rest;
}
closed bytes es (between_entries b) at h = record { text = 125 ∷ 10 ∷ []; ends = λ other i d. block_closes other at (HasWrongAttributes bytes at) b es at i d }
closed bytes es (after_name b e) at h = record {
  text = 58 ∷ 10 ∷ shape_text b (shape_of b e);
  ends = λ other i d.
      let n = next_token other at (58 ∷ []) (10 ∷ shape_text b (shape_of b e)) colon d refl refl in
      closes other at (HasWrongAttributes bytes at) b es e n.next n.further (λ fault k ne. absurd (nothing_given b e e.name e.at h.new fault k ne)) (colon_stands other b es e at n.next i n.stands) n.rest;
}
closed bytes es (between_attributes b e) at h = record {
  text = shape_text b (shape_of b e);
  ends = λ other i d. closes other at (HasWrongAttributes bytes at) b es e at (at_least at) (λ fault k ne. wrong_entry b es e fault at h (at_least at) k ne) i d;
}
closed bytes es (after_keyword b e row) at h =
    let f = filler b h.written row h.known in
    let within : InAttribute bytes b es e row at = record { begin = h.begin; written = h.written; after_keyword = at; inside = h.inside; stands = h.stands; known = h.known; once = h.once; equals_sign = inr refl } in
    record {
      text = f.text ++ 10 ∷ shape_text b (shape_more b (shape_of b e) row.0 f.value);
      ends = λ other i d.
          value_there other at (HasWrongAttributes bytes at) b es e row at f (at_least at)
          (λ ps fault k ne. wrong_before bytes b es e row at at within (at_least at) f.value f.fits ps fault k ne)
          (record { begin = i.begin; written = i.written; after_keyword = at; inside = i.inside; stands = i.stands; known = i.known; once = i.once; equals_sign = inr refl }) d;
    }
closed bytes es (before_value b e row) at h =
    let f = filler b h.written row h.known in
    record {
      text = f.text ++ 10 ∷ shape_text b (shape_more b (shape_of b e) row.0 f.value);
      ends = λ other i d. value_there other at (HasWrongAttributes bytes at) b es e row at f (at_least at) (λ ps fault k ne. wrong_before bytes b es e row at at h (at_least at) f.value f.fits ps fault k ne) i d;
    }
closed bytes es (before_term b e a ps subtracted) at h = record {
  text = 120 ∷ 10 ∷ shape_text b (shape_more b (shape_of b e) a unknown_sum);
  ends = λ other i d.
      term_there other at (HasWrongAttributes bytes at) b es e a ps subtracted at (at_least at)
      (λ qs fault k ne. wrong_before bytes b es e (a, a_sum) h.start at h.inside (sum_after bytes h.start at ps subtracted h.sum) unknown_sum refl qs fault k ne) i d;
}
closed bytes es (after_term b e a ps) at h = record {
  text = 43 ∷ 10 ∷ 120 ∷ 10 ∷ shape_text b (shape_more b (shape_of b e) a unknown_sum);
  ends = λ other i d.
      let n = next_token other at (43 ∷ []) (10 ∷ 120 ∷ 10 ∷ shape_text b (shape_more b (shape_of b e) a unknown_sum)) plus d refl refl in
      term_there other at (HasWrongAttributes bytes at) b es e a ps false n.next n.further
      (λ qs fault k ne. wrong_before bytes b es e (a, a_sum) h.start at h.inside (terms_after bytes false ps h.start at h.terms) unknown_sum refl qs fault k ne)
      (record { start = i.start; inside = i.inside; sum = next_term ps false at n.next i.terms n.stands }) n.rest;
}
closed bytes es (after_value b e) at h = record {
  text = shape_text b (shape_of b e);
  ends = λ other i d.
      closes other at (HasWrongAttributes bytes at) b es e at (at_least at)
      (λ fault k ne. wrong_entry b es e fault at (value_ends bytes b es e at at h (inr refl)) (at_least at) k ne)
      (value_ends other b es e at at i (inr refl)) d;
}
