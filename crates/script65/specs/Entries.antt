-- The entries of a script as they are read: values, sums, and errors of entries.
use Rattle.std.specs.Prelude.{ℕ, ◌+◌, ◌^◌, Bool, ◌&&◌, not, nat_le, nat_lt, is_some, unwrap_or, if◌then◌else◌, List, [], ◌∷◌, ◌++◌, codes, find, Option, Some, None, Result, Ok, Err}
use Rattle.std.specs.List.{list_any}
use Rattle.std.specs.Option.{option_map, option_map_or, option_and_then}
use Rattle.std.specs.Str.{bytes_eq}
use Rattle.script65.specs.declared.fault.Fault.{Fault}
use Rattle.script65.specs.declared.fault.Fault.TheVariants.{SyntaxError, AttributeMissing, OutOfRange, Excluded}
use Rattle.script65.specs.AreaSums.{sum_of}
use Rattle.script65.specs.Attributes.{Block, memory, segments, symbols, SymbolType, imported, KeywordValue, keywords, Value, number, byte, unknown_sum, keyword, role, area, file, output_file, ValueKind, number_from, a_byte, one_of, an_area, a_file, value_of_keyword}
use Rattle.script65.specs.Tokens.{Lexeme, identifier, numeral, string, output}
-- ---- Entries.

-- a term of a sum: a number or a name, and its offset; and whether it has a `-`
pub use Rattle.script65.specs.declared.reading.entries.ParsedTerm.{ParsedTerm}
-- an attribute, its value, and the terms if that is a sum
pub use Rattle.script65.specs.declared.reading.entries.AttributeValue.{AttributeValue}
-- an entry: its name, the offset of its name, and its attributes
pub use Rattle.script65.specs.declared.reading.entries.ConfigEntry.{ConfigEntry}
-- the entries of all blocks, by the kind of block
pub use Rattle.script65.specs.declared.reading.entries.Entries.{Entries}

abbrev pub no_entries : Entries
no_entries = record { areas = []; rows = []; symbols = [] }

abbrev pub of_kind : Block → Entries → List ConfigEntry
of_kind memory es = es.areas
of_kind segments es = es.rows
of_kind symbols es = es.symbols

abbrev pub with_entry : Block → ConfigEntry → Entries → Entries
with_entry memory e es = record es { areas = es.areas ++ e ∷ [] }
with_entry segments e es = record es { rows = es.rows ++ e ∷ [] }
with_entry symbols e es = record es { symbols = es.symbols ++ e ∷ [] }

abbrev pub with_attribute : AttributeValue → ConfigEntry → ConfigEntry
with_attribute g e = record e { assignments = e.assignments ++ g ∷ [] }

-- an entry with this name, at this offset, without attributes yet
abbrev pub new_entry : List ℕ → ℕ → ConfigEntry
new_entry name at = record { name = name; at = at; assignments = [] }

-- an entry in blocks of this kind has the name
abbrev pub has_name : List ℕ → Block → Entries → Bool
has_name name b es = list_any (λ (e : ConfigEntry). bytes_eq name e.name) (of_kind b es)

-- the value that an entry has for an attribute
abbrev pub attribute_for : List ℕ → ConfigEntry → Option AttributeValue
attribute_for a e = find (λ (g : AttributeValue). bytes_eq a g.identifier) e.assignments

abbrev pub has_attribute : List ℕ → ConfigEntry → Bool
has_attribute a e = is_some (attribute_for a e)

-- the terms of an attribute's sum, and none if it isn't a sum
abbrev pub terms_for : List ℕ → ConfigEntry → List ParsedTerm
terms_for a e = option_map_or (λ (g : AttributeValue). g.parsed_terms) (attribute_for a e) []

abbrev pub value_for : List ℕ → ConfigEntry → Option Value
value_for a e = option_map (λ (g : AttributeValue). g.value) (attribute_for a e)

abbrev pub as_number : Value → Option ℕ
as_number (number n) = Some n
as_number _ = None

abbrev pub number_for : List ℕ → ConfigEntry → Option ℕ
number_for a e = option_and_then as_number (value_for a e)

abbrev pub as_role : Value → Option SymbolType
as_role (keyword (role r)) = Some r
as_role _ = None

abbrev pub role_for : ConfigEntry → Option SymbolType
role_for e = option_and_then as_role (value_for (codes "type") e)

-- ---- Values.

-- a number from one to another
abbrev pub in_range : ℕ → ℕ → Option ℕ → Result ℕ Fault
in_range low high (Some n) = if nat_le low n && nat_le n high then Ok n else Err OutOfRange
in_range low high None = Err OutOfRange

abbrev pub as_value : (ℕ → Value) → Result ℕ Fault → Result Value Fault
as_value made (Ok n) = Ok (made n)
as_value made (Err f) = Err f

abbrev pub keyword_or_syntax_error : Option KeywordValue → Result Value Fault
keyword_or_syntax_error (Some m) = Ok (keyword m)
keyword_or_syntax_error None = Err SyntaxError

-- the value of a token for an attribute of this kind, which isn't a sum
abbrev pub value_of : ValueKind → Lexeme → Result Value Fault
value_of (number_from low high) (numeral n) = as_value number (in_range low high n)
value_of a_byte (numeral n) = as_value byte (in_range 0 0xff n)
value_of (one_of keyword_set) (identifier w) = keyword_or_syntax_error (value_of_keyword w (keywords keyword_set))
value_of an_area (identifier w) = Ok (area w)
value_of a_file (string s) = Ok (file s)
value_of a_file output = Ok output_file
value_of _ _ = Err SyntaxError

abbrev pub parsed_number : Bool → ℕ → Result ℕ Fault → Result ParsedTerm Fault
parsed_number subtracted at (Ok n) = Ok (record { minus = subtracted; number = Some n; name = []; at = at })
parsed_number subtracted at (Err f) = Err f

-- a token as a term of a sum
abbrev pub parsed_term : Bool → ℕ → Lexeme → Result ParsedTerm Fault
parsed_term subtracted at (numeral n) = parsed_number subtracted at (in_range 0 0xffffffff n)
parsed_term subtracted at (identifier w) = Ok (record { minus = subtracted; number = None; name = w; at = at })
parsed_term subtracted at _ = Err SyntaxError

-- The value of a sum: the sum of its terms, if that isn't negative and is below 2 ^ 32. It is unknown if a
-- term is a name.
abbrev pub sum_of_terms : List ParsedTerm → Option Value
sum_of_terms ps =
    if list_any (λ (p : ParsedTerm). not (is_some p.number)) ps then Some unknown_sum
    else option_map number (sum_of (λ (p : ParsedTerm). p.minus) (λ (p : ParsedTerm). unwrap_or p.number 0) ps)

-- the offset of the last term of a sum
abbrev pub last_term_offset : List ParsedTerm → ℕ
last_term_offset [] = 0
last_term_offset (p ∷ []) = p.at
last_term_offset (p ∷ q ∷ ps) = last_term_offset (q ∷ ps)

-- ---- Entries at their `;`.

-- an area has a start and a size, together at most 2 ^ 32 (a sum with a name counts as 0 here)
abbrev pub area_entry_fault : ConfigEntry → Option Fault
area_entry_fault e =
    if not (has_attribute (codes "start") e && has_attribute (codes "size") e) then Some AttributeMissing
    else if nat_lt (2 ^ 32)
    (unwrap_or (number_for (codes "start") e) 0 + unwrap_or (number_for (codes "size") e) 0)
    then Some OutOfRange
    else None

abbrev pub row_entry_fault : ConfigEntry → Option Fault
row_entry_fault e = if has_attribute (codes "load") e then None else Some AttributeMissing

-- an export and a weak symbol have a value, an import has none
abbrev pub symbol_entry_fault : Option SymbolType → Bool → Option Fault
symbol_entry_fault None valued = Some AttributeMissing
symbol_entry_fault (Some imported) valued = if valued then Some Excluded else None
symbol_entry_fault (Some _) valued = if valued then None else Some AttributeMissing

abbrev pub entry_fault : Block → ConfigEntry → Option Fault
entry_fault memory e = area_entry_fault e
entry_fault segments e = row_entry_fault e
entry_fault symbols e = symbol_entry_fault (role_for e) (has_attribute (codes "value") e)
