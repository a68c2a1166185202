-- The script of a text's entries, the errors after the last byte, and the script of a text or its first
-- error.
use Rattle.std.specs.Prelude.{◌≡◌, ℕ, Bool, true, false, ◌+◌, ◌==◌, ◌&&◌, ◌||◌, not, nat_lt, is_some, unwrap_or, if◌then◌else◌, List, [], codes, map, length, take, find, slice_get, position, Option, Some, None, Result, Ok, Err}
use Rattle.std.specs.List.{count_by}
use Rattle.std.specs.Option.{option_map, option_map_or, option_and_then, option_or}
use Rattle.std.specs.Str.{bytes_eq}
use Rattle.base65.specs.Outcome.{◌>>=◌, try_map}
use Rattle.script65.specs.declared.fault.Fault.{Fault}
use Rattle.script65.specs.declared.fault.Fault.TheVariants.{NoSuchArea, Excluded, TooLong, NoSuchName, AmbiguousName}
use Rattle.script65.specs.declared.fault.ScriptFault.{ScriptFault}
use Rattle.script65.specs.declared.script.SegmentType.{SegmentType}
use Rattle.script65.specs.declared.script.SegmentType.TheVariants.{ReadWrite}
use Rattle.script65.specs.declared.script.MemoryArea.{MemoryArea}
use Rattle.script65.specs.declared.script.AreaOutput.{AreaOutput}
use Rattle.script65.specs.declared.script.AreaOutput.TheVariants.{Output, Named}
use Rattle.script65.specs.declared.script.AreaAttribute.{AreaAttribute}
use Rattle.script65.specs.declared.script.AreaAttribute.TheVariants as area_part
use Rattle.script65.specs.declared.script.RowStart.{RowStart}
use Rattle.script65.specs.declared.script.RowStart.TheVariants as begin
use Rattle.script65.specs.declared.script.Operand.{Operand}
use Rattle.script65.specs.declared.script.Operand.TheVariants as operand
use Rattle.script65.specs.declared.script.SegmentRow.{SegmentRow}
use Rattle.script65.specs.declared.script.RowAttribute.{RowAttribute}
use Rattle.script65.specs.declared.script.RowAttribute.TheVariants as row_part
use Rattle.script65.specs.declared.script.Script.{Script}
use Rattle.script65.specs.declared.script.Symbol.{Symbol}
use Rattle.script65.specs.declared.script.SymbolKind.{SymbolKind}
use Rattle.script65.specs.declared.script.SymbolKind.TheVariants as kind
use Rattle.script65.specs.declared.script.Term.{Term}
use Rattle.script65.specs.AreaSums.{area_keyword, row_keyword, attribute_name}
use Rattle.script65.specs.Attributes.{SymbolType, exported, weak, Value, flag, byte, keyword, access, area, file, output_file}
use Rattle.script65.specs.declared.fault.FaultAt.{FaultAt}
use Rattle.script65.specs.Faults.{is_name_fault, fault_at}
use Rattle.script65.specs.SyntaxErrors.{SyntaxErrorAt, between_blocks}
use Rattle.script65.specs.Entries.{ParsedTerm, AttributeValue, ConfigEntry, Entries, no_entries, number_for, terms_for, role_for, value_for}
use Rattle.script65.specs.Grammar.{MatchesGrammar}
use Rattle.script65.specs.Placing.{is_read_only, is_written}
use Rattle.script65.specs.Tokens.{token, token_bytes}

-- ---- Given values, or their defaults.

abbrev pub as_flag : Value → Option Bool
as_flag (keyword (flag b)) = Some b
as_flag _ = None

abbrev pub as_byte : Value → Option ℕ
as_byte (byte n) = Some n
as_byte _ = None

abbrev pub as_access : Value → Option SegmentType
as_access (keyword (access a)) = Some a
as_access _ = None

abbrev pub as_file : Value → Option AreaOutput
as_file (file name) = Some (Named name)
as_file output_file = Some Output
as_file _ = None

abbrev pub as_area : Value → Option (List ℕ)
as_area (area name) = Some name
as_area _ = None

-- the value of an attribute, or else the default
abbrev pub value_or_default : {A : Type 0} → A → (Value → Option A) → List ℕ → ConfigEntry → A
value_or_default default read identifier e = unwrap_or (option_and_then read (value_for identifier e)) default

abbrev pub number_or : ℕ → List ℕ → ConfigEntry → ℕ
number_or default identifier e = unwrap_or (number_for identifier e) default

-- the byte for gaps
abbrev pub fill_or : ℕ → ConfigEntry → ℕ
fill_or default e = value_or_default default as_byte (codes "fillval") e

-- the type of a segment or an area: `rw` if it isn't given
abbrev pub access_of : ConfigEntry → SegmentType
access_of e = value_or_default ReadWrite as_access (codes "type") e

-- the linker's output, if it isn't given
abbrev pub file_of : ConfigEntry → AreaOutput
file_of e = value_or_default Output as_file (codes "file") e

-- `no`, if it isn't given
abbrev pub flag_for : List ℕ → ConfigEntry → Bool
flag_for identifier e = value_or_default false as_flag identifier e

-- ---- Names in sums.

-- the value of an export; weak symbols and imports don't count
abbrev pub export_value : Option SymbolType → ℕ → Option Operand
export_value (Some exported) n = Some (operand.Number n)
export_value _ n = None

abbrev pub entry_of : List ℕ → List ConfigEntry → Option ConfigEntry
entry_of name es =
    option_and_then (slice_get es) (position (λ (e : ConfigEntry). bytes_eq name e.name) es)

abbrev pub export_operand : List ConfigEntry → List ℕ → Option Operand
export_operand symbols name =
    option_and_then
    (λ (e : ConfigEntry). export_value (role_for e) (number_or 0 (codes "value") e))
    (entry_of name symbols)

-- the index of the entry N for which this is `__N_PART__`
abbrev pub owner_index : List ConfigEntry → List ℕ → List ℕ → Option ℕ
owner_index es part name = position (λ (e : ConfigEntry). bytes_eq name (attribute_name e.name part)) es

abbrev pub area_operand : List ConfigEntry → List ℕ → AreaAttribute → Option Operand
area_operand areas name part =
    option_map (λ k. operand.Area k part) (owner_index areas (area_keyword part) name)

abbrev pub row_operand : List ConfigEntry → List ℕ → RowAttribute → Option Operand
row_operand rows name part =
    option_map (λ k. operand.Row k part) (owner_index rows (row_keyword part) name)

abbrev pub first_of_three : Option Operand → Option Operand → Option Operand → Option Operand
first_of_three a b c = option_or a (option_or b c)

-- the operand of a name: an export, a part of an area or a part of a row, and only one of these
abbrev pub one_of_three : Option Operand → Option Operand → Option Operand → Result Operand Fault
one_of_three None None None = Err NoSuchName
one_of_three (Some o) None None = Ok o
one_of_three None (Some o) None = Ok o
one_of_three None None (Some o) = Ok o
one_of_three _ _ _ = Err AmbiguousName

abbrev pub operand_for : Entries → Option ℕ → List ℕ → Result Operand Fault
operand_for es (Some n) name = Ok (operand.Number n)
operand_for es None name =
    one_of_three
    (export_operand es.symbols name)
    (first_of_three
    (area_operand es.areas name area_part.Start)
    (area_operand es.areas name area_part.Size)
    (area_operand es.areas name area_part.Last))
    (first_of_three
    (row_operand es.rows name row_part.Load)
    (row_operand es.rows name row_part.Run)
    (row_operand es.rows name row_part.Size))

-- a term, or the error of its name, at the offset of the name
abbrev pub term_or_fault : ParsedTerm → Result Operand Fault → Result Term FaultAt
term_or_fault p (Ok o) = Ok (record { minus = p.minus; operand = o })
term_or_fault p (Err fault) = Err (fault_at fault p.at)

abbrev pub term_from : Entries → ParsedTerm → Result Term FaultAt
term_from es p = term_or_fault p (operand_for es p.number p.name)

abbrev pub sum_for : Entries → List ℕ → ConfigEntry → Result (List Term) FaultAt
sum_for es identifier e = try_map (term_from es) (terms_for identifier e)

-- ---- Areas.

-- whether `start` comes before `size` in the text
abbrev pub is_start_first : ConfigEntry → Bool
is_start_first e =
    option_map_or (λ (g : AttributeValue). bytes_eq (codes "start") g.identifier)
    (find (λ (g : AttributeValue). bytes_eq (codes "start") g.identifier || bytes_eq (codes "size") g.identifier) e.assignments)
    true

-- the sums of an area, or the first error of a name in them, in the order of the text
abbrev pub sums_of : Entries → ConfigEntry → Result (List Term × List Term) FaultAt
sums_of es e =
    if is_start_first e
    then (sum_for es (codes "start") e
    >>= λ start. sum_for es (codes "size") e
    >>= λ size. Ok (start, size))
    else (sum_for es (codes "size") e
    >>= λ size. sum_for es (codes "start") e
    >>= λ start. Ok (start, size))

abbrev pub area_from : Entries → ConfigEntry → Result MemoryArea FaultAt
area_from es e = sums_of es e >>= λ sums. Ok (record {
  name = e.name;
  start = sums.0;
  size = sums.1;
  read_only = is_read_only (access_of e);
  file = file_of e;
  fill = flag_for (codes "fill") e;
  fill_value = fill_or 0 e;
  define = flag_for (codes "define") e;
})

-- ---- Rows.

-- the index of an area, or an error at the row's name
abbrev pub area_index_or_fault : ConfigEntry → Option ℕ → Result ℕ FaultAt
area_index_or_fault e (Some k) = Ok k
area_index_or_fault e None = Err (fault_at NoSuchArea e.at)

abbrev pub area_index : List ℕ → List ConfigEntry → Option ℕ
area_index name areas = position (λ (e : ConfigEntry). bytes_eq name e.name) areas

-- the index of an attribute's area, or another if it isn't given
abbrev pub area_for : Entries → List ℕ → Option ℕ → ConfigEntry → Result ℕ FaultAt
area_for es identifier other e =
    area_index_or_fault e
    (option_map_or (λ name. area_index name es.areas) (option_and_then as_area (value_for identifier e)) other)

-- `start` and `offset` exclude each other, and so do different areas and a segment that isn't written
abbrev pub has_exclusive_attributes : ConfigEntry → ℕ → ℕ → Bool
has_exclusive_attributes e load run =
    (is_some (number_for (codes "start") e) && is_some (number_for (codes "offset") e))
    || (not (is_written (access_of e)) && not (load == run))

abbrev pub row_start : Option ℕ → Option ℕ → RowStart
row_start (Some start) offset = begin.Start start
row_start None (Some offset) = begin.Offset offset
row_start None None = begin.Aligned

abbrev pub row_at : Entries → ConfigEntry → ℕ → ℕ → SegmentRow
row_at es e load run = record {
  name = e.name;
  load = load;
  run = run;
  access = access_of e;
  align = number_or 1 (codes "align") e;
  align_load = number_or 1 (codes "align_load") e;
  begin = row_start (number_for (codes "start") e) (number_for (codes "offset") e);
  fill_value = fill_or (option_map_or (fill_or 0) (slice_get es.areas load) 0) e;
  define = flag_for (codes "define") e;
  optional = flag_for (codes "optional") e;
}

abbrev pub row_from : Entries → ConfigEntry → Result SegmentRow FaultAt
row_from es e = do
  load ← area_for es (codes "load") None e
  run ← area_for es (codes "run") (Some load) e
  if has_exclusive_attributes e load run then Err (fault_at Excluded e.at) else Ok (row_at es e load run)

-- ---- Symbols.

abbrev pub symbol_kind : Option SymbolType → ℕ → SymbolKind
symbol_kind (Some exported) n = kind.Export n
symbol_kind (Some weak) n = kind.Weak n
symbol_kind _ n = kind.Import

abbrev pub symbol_from : ConfigEntry → Symbol
symbol_from e = record {
  name = e.name;
  kind = symbol_kind (role_for e) (number_or 0 (codes "value") e);
}

-- ---- Scripts.

-- the script of the entries, or the first error after the last byte: of a name in a sum, or else of a row
abbrev pub script_from : Entries → Result Script FaultAt
script_from es = do
  areas ← try_map (area_from es) es.areas
  rows ← try_map (row_from es) es.rows
  Ok (record { areas = areas; rows = rows; symbols = map symbol_from es.symbols })

-- a script is longer than the limit
abbrev pub is_too_long : List ℕ → Bool
is_too_long bytes = nat_lt 1048576 (length bytes)

-- the text has these entries by the grammar, or this first error
abbrev pub IsParseResult : List ℕ → Result Entries FaultAt → Type 0
IsParseResult bytes (Ok es) = MatchesGrammar bytes es
IsParseResult bytes (Err f) = SyntaxErrorAt bytes no_entries between_blocks 0 f

-- a script that is too long has its error at the first byte
abbrev pub UnlessTooLong : Bool → Result Entries FaultAt → Type 0 → Type 0
UnlessTooLong true r P = r ≡ Err (fault_at TooLong 0)
UnlessTooLong false r P = P

-- the entries of a text, or the first error of its tokens
abbrev pub HasEntries : List ℕ → Result Entries FaultAt → Type 0
HasEntries bytes r = UnlessTooLong (is_too_long bytes) r (IsParseResult bytes r)

-- the line of an offset; the first line is 1
abbrev pub line_at : List ℕ → ℕ → ℕ
line_at bytes at = 1 + count_by (λ b. b == 10) (take at bytes)

-- an error with the line of its offset and, if it is one of a name, with the token there
abbrev pub fault_in : List ℕ → FaultAt → ScriptFault
fault_in bytes f = record {
  fault = f.fault;
  line = line_at bytes f.at;
  name = if is_name_fault f.fault then token_bytes bytes (token bytes f.at) else [];
}

abbrev pub with_line : List ℕ → Result Script FaultAt → Result Script ScriptFault
with_line bytes (Ok s) = Ok s
with_line bytes (Err f) = Err (fault_in bytes f)

-- the script of a text, or its first error with the line
abbrev pub IsScript : List ℕ → Result Script ScriptFault → Type 0
IsScript bytes r =
    (q : Result Entries FaultAt) × HasEntries bytes q × (r ≡ with_line bytes (q >>= script_from))
