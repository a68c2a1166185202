-- A text is a script or has a first error, which is never *out of memory*.
use Rattle.std.proofs.Common.{◌≡◌, ℕ, ◌+◌, Bool, true, false, List, [], Option, Some, None, Result, Ok, Err, refl, subst, sym, if◌then◌else◌}
use Rattle.std.specs.Prelude.{IfErr, IfSome, codes, nat_le, nat_lt, not, unwrap_or, ◌&&◌, ◌^◌, ⊤}
use Rattle.std.specs.Option.{option_and_then, option_map_or}
use Rattle.base65.specs.Outcome.{◌>>=◌}
use Rattle.base65.proofs.SystemErrors.{Own, choice, each_own, good, next}
use Rattle.script65.specs.declared.fault.FaultAt.{FaultAt}
use Rattle.script65.specs.declared.fault.Fault.{Fault}
use Rattle.script65.specs.declared.fault.Fault.TheVariants.{AttributeMissing, AttributeTwice, Excluded, NameTwice, OutOfRange, SyntaxError, TooLong}
use Rattle.script65.specs.declared.script.Operand.{Operand}
use Rattle.script65.specs.declared.script.Script.{Script}
use Rattle.script65.specs.Attributes.{Block, KeywordValue, SymbolType, ValueKind, Value, keywords, a_byte, a_file, a_sum, an_area, blocks, imported, memory, number_from, one_of, find_keyword, value_of_keyword, segments, symbols, attributes}
use Rattle.script65.specs.SyntaxErrors.{SyntaxErrorAt, Move, ParseState, add_term, attribute_or_end, attribute_value, before_term, before_value, after_block_keyword, after_name, after_term, after_value, after_keyword, between_attributes, between_blocks, between_entries, block_brace, block_keyword, comma_or_next, finished, entry_colon, entry_end, entry_name, equals_or_value, attribute_move, here, known_attribute, later, token_move, accepted, sign_or_end, rejected, sum_end}
use Rattle.script65.specs.Entries.{Entries, ConfigEntry, ParsedTerm, parsed_number, as_value, keyword_or_syntax_error, entry_fault, has_name, in_range, has_attribute, no_entries, number_for, parsed_term, terms_for, role_for, sum_of_terms, symbol_entry_fault, value_for, value_of, with_attribute}
use Rattle.script65.specs.Faults.{is_memory_fault, is_system_error, is_script_system_error, fault_at}
use Rattle.script65.specs.Laws.{ReadingExists}
use Rattle.script65.specs.Scripts.{HasEntries, IsParseResult, UnlessTooLong, area_for, area_from, area_index_or_fault, as_area, has_exclusive_attributes, is_start_first, is_too_long, one_of_three, operand_for, area_index, row_at, row_from, script_from, sum_for, sums_of, term_from, term_or_fault, with_line}
use Rattle.script65.specs.Tokens.{Lexeme, brace, colon, comma, end_brace, equals, minus, numeral, output, plus, semicolon, string, the_end, token, identifier}
use Rattle.script65.proofs.ReadingUniqueness.{entries_some}
use Rattle.script65.proofs.GrammarEquivalence.{has_of}

-- ---- Moves.

abbrev IsOwnFault : Fault → Type 0
IsOwnFault f = is_memory_fault f ≡ false

-- the token is accepted, or its error isn't *out of memory*
abbrev Goes : Move → Type 0
Goes (accepted es p) = ⊤
Goes (finished es) = ⊤
Goes (rejected f at) = IsOwnFault f

stops_or : (c : Bool) (f : Fault) (at : ℕ) (m : Move) → IsOwnFault f → Goes m → Goes (if c then rejected f at else m)
stops_or true f at m h k = h
stops_or false f at m h k = k

symbol_own : (o : Option SymbolType) (valued : Bool) → IfSome (symbol_entry_fault o valued) IsOwnFault
symbol_own None valued = refl
symbol_own (Some imported) true = refl
symbol_own (Some imported) false = tt
symbol_own (Some _) true = tt
symbol_own (Some _) false = refl

row_own : (given : Bool) → IfSome (if given then None else Some AttributeMissing) IsOwnFault
row_own true = tt
row_own false = refl

closing_own : (b : Block) (e : ConfigEntry) → IfSome (entry_fault b e) IsOwnFault
closing_own memory e = area_own (not (has_attribute (codes "start") e && has_attribute (codes "size") e)) (nat_lt (2 ^ 32) (unwrap_or (number_for (codes "start") e) 0 + unwrap_or (number_for (codes "size") e) 0))
  where
    area_own : (lacks wide : Bool) → IfSome (if◌then◌else◌ {A = Option Fault} lacks (Some AttributeMissing) (if wide then Some OutOfRange else None)) IsOwnFault
    area_own true wide = refl
    area_own false true = refl
    area_own false false = tt
closing_own segments e = row_own (has_attribute (codes "load") e)
closing_own symbols e = symbol_own (role_for e) (has_attribute (codes "value") e)

range_own : (low high : ℕ) (o : Option ℕ) → IfErr (in_range low high o) IsOwnFault
range_own low high None = refl
range_own low high (Some n) = by (nat_le low n && nat_le n high)
  where
    by : (c : Bool) → IfErr (if◌then◌else◌ {A = Result ℕ Fault} c (Ok n) (Err OutOfRange)) IsOwnFault
    by true = tt
    by false = refl

as_value_own : (made : ℕ → Value) (r : Result ℕ Fault) → IfErr r IsOwnFault → IfErr (as_value made r) IsOwnFault
as_value_own made (Ok n) h = tt
as_value_own made (Err f) h = h

as_word_own : (o : Option KeywordValue) → IfErr (keyword_or_syntax_error o) IsOwnFault
as_word_own (Some v) = tt
as_word_own None = refl

value_own : (value_kind : ValueKind) (l : Lexeme) → IfErr (value_of value_kind l) IsOwnFault
value_own (number_from low high) (numeral n) = as_value_own _ (in_range low high n) (range_own low high n)
value_own a_byte (numeral n) = as_value_own _ (in_range 0 0xff n) (range_own 0 0xff n)
value_own (one_of keyword_set) (identifier w) = as_word_own (value_of_keyword w (keywords keyword_set))
value_own an_area (identifier w) = tt
value_own a_file (string s) = tt
value_own a_file output = tt
value_own _ _ = refl

a_part_own : (subtracted : Bool) (at : ℕ) (r : Result ℕ Fault) → IfErr r IsOwnFault → IfErr (parsed_number subtracted at r) IsOwnFault
a_part_own subtracted at (Ok n) h = tt
a_part_own subtracted at (Err f) h = h

part_own : (subtracted : Bool) (at : ℕ) (l : Lexeme) → IfErr (parsed_term subtracted at l) IsOwnFault
part_own subtracted at (numeral n) = a_part_own subtracted at (in_range 0 0xffffffff n) (range_own 0 0xffffffff n)
part_own subtracted at (identifier w) = tt
part_own subtracted at _ = refl

module _ (es : Entries) (at : ℕ) where
  block_goes : (o : Option Block) → Goes (option_map_or (λ b. accepted es (after_block_keyword b)) o (rejected SyntaxError at))
  block_goes (Some b) = tt
  block_goes None = refl

  word_goes : (l : Lexeme) → Goes (block_keyword es l at)
  word_goes (identifier w) = block_goes (value_of_keyword w blocks)
  word_goes the_end = tt
  word_goes _ = refl

  module _ (b : Block) where
    brace_goes : (l : Lexeme) → Goes (block_brace es b l at)
    brace_goes brace = tt
    brace_goes _ = refl

    name_goes : (l : Lexeme) → Goes (entry_name es b l at)
    name_goes (identifier w) = stops_or (has_name w b es) NameTwice at _ refl tt
    name_goes end_brace = tt
    name_goes _ = refl

    colon_goes : (e : ConfigEntry) (l : Lexeme) → Goes (entry_colon es b e l at)
    colon_goes e colon = tt
    colon_goes e _ = refl

    known_goes : (e : ConfigEntry) (o : Option (List ℕ × ValueKind)) → Goes (known_attribute es b e o at)
    known_goes e (Some row) = stops_or (has_attribute row.0 e) AttributeTwice at _ refl tt
    known_goes e None = refl

    end_goes : (e : ConfigEntry) (o : Option Fault) → IfSome o IsOwnFault → Goes (entry_end es b e o at)
    end_goes e (Some f) h = h
    end_goes e None h = tt

    attribute_goes : (e : ConfigEntry) (l : Lexeme) → Goes (attribute_or_end es b e l at)
    attribute_goes e (identifier w) = known_goes e (find_keyword w (attributes b))
    attribute_goes e semicolon = end_goes e (entry_fault b e) (closing_own b e)
    attribute_goes e _ = refl

    comma_goes : (e : ConfigEntry) (l : Lexeme) → Goes (comma_or_next es b e l at)
    comma_goes e comma = tt
    comma_goes e (identifier w) = attribute_goes e (identifier w)
    comma_goes e semicolon = attribute_goes e semicolon
    comma_goes e _ = refl

    give_goes : (e : ConfigEntry) (a : List ℕ) (r : Result Value Fault) → IfErr r IsOwnFault → Goes (attribute_move es b e a at r)
    give_goes e a (Ok v) h = tt
    give_goes e a (Err f) h = h

    add_goes : (e : ConfigEntry) (a : List ℕ) (ps : List ParsedTerm) (r : Result ParsedTerm Fault) → IfErr r IsOwnFault → Goes (add_term es b e a ps at r)
    add_goes e a ps (Ok p) h = tt
    add_goes e a ps (Err f) h = h

    value_goes : (e : ConfigEntry) (a : List ℕ) (value_kind : ValueKind) (l : Lexeme) → Goes (attribute_value es b e a value_kind l at)
    value_goes e a a_sum l = add_goes e a [] (parsed_term false at l) (part_own false at l)
    value_goes e a (number_from low high) l = give_goes e a (value_of (number_from low high) l) (value_own (number_from low high) l)
    value_goes e a a_byte l = give_goes e a (value_of a_byte l) (value_own a_byte l)
    value_goes e a (one_of keyword_set) l = give_goes e a (value_of (one_of keyword_set) l) (value_own (one_of keyword_set) l)
    value_goes e a an_area l = give_goes e a (value_of an_area l) (value_own an_area l)
    value_goes e a a_file l = give_goes e a (value_of a_file l) (value_own a_file l)

    equals_goes : (e : ConfigEntry) (row : List ℕ × ValueKind) (l : Lexeme) → Goes (equals_or_value es b e row l at)
    equals_goes e row equals = tt
    equals_goes e row l = value_goes e row.0 row.1 l

    sum_goes : (e : ConfigEntry) (a : List ℕ) (ps : List ParsedTerm) (o : Option Value) (l : Lexeme) → Goes (sum_end es b e a ps o l at)
    sum_goes e a ps (Some v) l = comma_goes (with_attribute (record { identifier = a; value = v; parsed_terms = ps }) e) l
    sum_goes e a ps None l = refl

    sign_goes : (e : ConfigEntry) (a : List ℕ) (ps : List ParsedTerm) (l : Lexeme) → Goes (sign_or_end es b e a ps l at)
    sign_goes e a ps plus = tt
    sign_goes e a ps minus = tt
    sign_goes e a ps l = sum_goes e a ps (sum_of_terms ps) l

  goes : (p : ParseState) (l : Lexeme) → Goes (token_move es p l at)
  goes between_blocks l = word_goes l
  goes (after_block_keyword b) l = brace_goes b l
  goes (between_entries b) l = name_goes b l
  goes (after_name b e) l = colon_goes b e l
  goes (between_attributes b e) l = attribute_goes b e l
  goes (after_keyword b e row) l = equals_goes b e row l
  goes (before_value b e row) l = value_goes b e row.0 row.1 l
  goes (before_term b e a ps subtracted) l = add_goes b e a ps (parsed_term subtracted at l) (part_own subtracted at l)
  goes (after_term b e a ps) l = sign_goes b e a ps l
  goes (after_value b e) l = comma_goes b e l

-- ---- The first error of a text.

break_own : (bytes : List ℕ) (es : Entries) (p : ParseState) (at : ℕ) (f : FaultAt) → SyntaxErrorAt bytes es p at f → is_system_error f ≡ false
break_own bytes _ _ _ _ (later es fs p q at f e more) = break_own bytes fs q (token bytes at).following f more
break_own bytes _ _ _ _ (here es p at fault offset e) = subst Goes e (goes es (token bytes at).at p (token bytes at).lexeme)

read_own : (bytes : List ℕ) (r : Result Entries FaultAt) → IsParseResult bytes r → Own is_system_error r
read_own bytes (Ok es) h = good es
read_own bytes (Err f) h = record { own = break_own bytes no_entries between_blocks 0 f h }

entries_own : (bytes : List ℕ) (r : Result Entries FaultAt) → HasEntries bytes r → Own is_system_error r
entries_own bytes r = by (is_too_long bytes)
  where
    by : (x : Bool) → UnlessTooLong x r (IsParseResult bytes r) → Own is_system_error r
    by true h = let long : Result Entries FaultAt = Err (fault_at TooLong 0) in subst (Own is_system_error) {x = long} (sym h) (record { own = refl })
    by false h = read_own bytes r h

-- ---- Errors after the last byte.

one_own : (a b c : Option Operand) → IfErr (one_of_three a b c) IsOwnFault
one_own None None None = refl
one_own (Some o) None None = tt
one_own None (Some o) None = tt
one_own None None (Some o) = tt
one_own (Some o) (Some p) c = refl
one_own (Some o) None (Some p) = refl
one_own None (Some o) (Some p) = refl

operand_own : (es : Entries) (number : Option ℕ) (name : List ℕ) → IfErr (operand_for es number name) IsOwnFault
operand_own es (Some n) name = tt
operand_own es None name = one_own _ _ _

term_own : (p : ParsedTerm) (r : Result Operand Fault) → IfErr r IsOwnFault → Own is_system_error (term_or_fault p r)
term_own p (Ok o) h = record { own = tt }
term_own p (Err f) h = record { own = h }

sum_own : (es : Entries) (a : List ℕ) (e : ConfigEntry) → Own is_system_error (sum_for es a e)
sum_own es a e = each_own (term_from es) (λ p. term_own p (operand_for es p.number p.name) (operand_own es p.number p.name)) (terms_for a e)

sums_own : (es : Entries) (e : ConfigEntry) → Own is_system_error (sums_of es e)
sums_own es e =
    choice (is_start_first e) _ _
    (next (sum_for es (codes "start") e) _ (sum_own es (codes "start") e) (λ start. next (sum_for es (codes "size") e) _ (sum_own es (codes "size") e) (λ size. good (start, size))))
    (next (sum_for es (codes "size") e) _ (sum_own es (codes "size") e) (λ size. next (sum_for es (codes "start") e) _ (sum_own es (codes "start") e) (λ start. good (start, size))))

area_own : (es : Entries) (e : ConfigEntry) → Own is_system_error (area_from es e)
area_own es e = next (sums_of es e) _ (sums_own es e) (λ sums. record { own = tt })

place_own : (e : ConfigEntry) (o : Option ℕ) → Own is_system_error (area_index_or_fault e o)
place_own e (Some k) = record { own = tt }
place_own e None = record { own = refl }

row_from_own : (es : Entries) (e : ConfigEntry) → Own is_system_error (row_from es e)
row_from_own es e =
    next (area_for es (codes "load") None e) _ (for_own (codes "load") None)
    (λ load. next (area_for es (codes "run") (Some load) e) _ (for_own (codes "run") (Some load))
    (λ run. choice (has_exclusive_attributes e load run) (Err (fault_at Excluded e.at)) (Ok (row_at es e load run)) (record { own = refl }) (record { own = tt })))
  where
    for_own : (a : List ℕ) (other : Option ℕ) → Own is_system_error (area_for es a other e)
    for_own a other = place_own e (option_map_or (λ name. area_index name es.areas) (option_and_then as_area (value_for a e)) other)

script_own : (es : Entries) → Own is_system_error (script_from es)
script_own es = next _ _ (each_own (area_from es) (area_own es) es.areas) (λ areas. next _ _ (each_own (row_from es) (row_from_own es) es.rows) (λ rows. record { own = tt }))

line_own : (bytes : List ℕ) (r : Result Script FaultAt) → Own is_system_error r → IfErr (with_line bytes r) (λ f. is_script_system_error f ≡ false)
line_own bytes (Ok s) h = tt
line_own bytes (Err f) h = h.own

pub some_reading : ReadingExists
some_reading bytes =
    let r = entries_some bytes in
    let has = has_of bytes r.0 r.1 in
    (with_line bytes (r.0 >>= script_from), (r.0, has, refl), line_own bytes (r.0 >>= script_from) (next r.0 script_from (entries_own bytes r.0 has) script_own))
