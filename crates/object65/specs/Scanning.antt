-- How records are scanned, and the outline that a scan stores.
use Rattle.std.specs.Prelude.{◌≡◌, ℕ, ◌+◌, ◌-◌, ◌%◌, ◌≤◌, List, [], ◌∷◌, ◌++◌, length, map, slice_get, slice_set, Option, Some, None, Bool, true, false, Result, Ok, Err, nat_le, ◌==◌, ◌&&◌, not, if◌then◌else◌, ⊤}
use Rattle.std.specs.List.{list_all, prefix_len}
use Rattle.std.specs.Str.{is_utf8}
use Rattle.object65.specs.declared.fault.ObjectError.{ObjectError}
use Rattle.object65.specs.declared.fault.ObjectError.TheVariants.{FailedBefore, CutShort, OutOfOrder, IndexOutOfRange, BadSize, NotCanonical}
use Rattle.object65.specs.declared.builder.Draft.{Draft}
use Rattle.object65.specs.declared.record.Item.{Item}
use Rattle.object65.specs.declared.record.Item.TheVariants.{File, Import, Section, Part, Export, Assert, End}
use Rattle.object65.specs.declared.object.Fragment.{Fragment}
use Rattle.object65.specs.declared.object.Origin.{Origin}
use Rattle.object65.specs.declared.object.Fragment.TheVariants.{Literal, Fill, Value}
use Rattle.object65.specs.declared.scan.LastFragment.{LastFragment}
use Rattle.object65.specs.declared.scan.LastFragment.TheVariants as last
use Rattle.object65.specs.declared.scan.SectionFill.{SectionFill}
use Rattle.object65.specs.Bodies.{SectionHeader, section_of, literal_of, fill_of, value_of, export_of, assert_of, end_of}
use Rattle.object65.specs.Record.{◌>>=◌, RawRecord, is_record_kind, is_version}
use Rattle.object65.specs.Folding.{has_valid_indices, is_normal, is_literal, node_limit}
use Rattle.object65.specs.Form.{Form, nodes}
use Rattle.object65.specs.Items.{State, is_none, closed_fragments, with_item}
use Rattle.object65.specs.Objects.{is_name, is_among, is_file_name, fragment_len, has_file, section_limit, width_len}
use Rattle.object65.specs.Spelling.{body_limit}
use Rattle.object65.specs.Small.{is_small_text}
use Rattle.object65.specs.declared.object.Object.{Object}
pub use Rattle.object65.specs.Items.{State, start, section_from, object_from}

-- ---- Conditions.

abbrev pub ok_if : Bool → ObjectError → Result (Unit {0}) ObjectError
ok_if b fault = if b then Ok tt else Err fault

-- a valid name that no other of its kind has
abbrev pub check_new_name : List (List ℕ) → List ℕ → Result (Unit {0}) ObjectError
check_new_name names name = ok_if (is_name name && not (is_among names name)) NotCanonical

-- a UTF-8 name that no other file has
abbrev pub check_new_file : List (List ℕ) → List ℕ → Result (Unit {0}) ObjectError
check_new_file names name = ok_if (is_utf8 name && not (is_among names name)) NotCanonical

-- the file index of an origin, if it has one, is below this count
abbrev pub check_file_index : ℕ → Origin → Result (Unit {0}) ObjectError
check_file_index files origin = ok_if (has_file files origin.file) IndexOutOfRange

-- all section and import indices of a form are below these counts
abbrev pub check_form_indices : ℕ → ℕ → Form → Result (Unit {0}) ObjectError
check_form_indices sections imports f = ok_if (has_valid_indices sections imports f) IndexOutOfRange

-- all indices of files, sections and imports are below these counts
unfoldable pub check_indices : ℕ → ℕ → ℕ → Origin → Form → Result (Unit {0}) ObjectError
check_indices files sections imports origin f = do
  u ← check_file_index files origin
  check_form_indices sections imports f

-- a form that can't be folded and isn't too large
abbrev pub check_canonical : Form → Result (Unit {0}) ObjectError
check_canonical f = ok_if (is_normal f && nat_le (nodes f) node_limit) NotCanonical

-- such a form that is no number
abbrev pub check_canonical_open : Form → Result (Unit {0}) ObjectError
check_canonical_open f = ok_if (is_normal f && nat_le (nodes f) node_limit && not (is_literal f)) NotCanonical

-- ---- Outlines.

abbrev pub is_some_fill : Option Fragment → Bool
is_some_fill (Some (Fill n)) = true
is_some_fill _ = false

abbrev pub ends_in_fill : List Fragment → Bool
ends_in_fill fs = is_some_fill (slice_get fs (length fs - 1))

-- the last part of a section: a literal that isn't full, a fill, or anything else
abbrev pub last_of : Draft → LastFragment
last_of d = if not (length d.literal % body_limit == 0) then last.Short else if ends_in_fill (closed_fragments d) then last.Fill else last.Other

-- how far an unfinished section is filled
abbrev pub section_fill : Draft → SectionFill
section_fill d = record { size = d.size; filled = d.filled; last = last_of d }

-- an unfinished object without its fragments and forms
pub record Outline : Type 0 where
  pub version : ℕ
  -- the names of the files
  pub files : List (List ℕ)
  pub imports : List (List ℕ)
  -- the names of the sections
  pub sections : List (List ℕ)
  pub fills : List SectionFill
  -- whether there was a fragment
  pub has_fragment : Bool
  -- the names of the exports
  pub exports : List (List ℕ)
  -- whether there was an assertion
  pub has_assert : Bool
  pub ended : Bool
  pub failed : Bool

abbrev pub outline_of : State → Outline
outline_of s = record { version = s.version; files = s.files; imports = s.imports; sections = map (λ d. d.name) s.drafts; fills = map section_fill s.drafts; has_fragment = s.has_fragment; exports = map (λ e. e.name) s.exports; has_assert = not (is_none s.asserts); ended = s.ended; failed = s.failed }

-- the contents of a SECTION
abbrev pub section_header : ℕ → ℕ → List ℕ → SectionHeader
section_header size align name = record { size = size; align = align; name = name }

-- ---- Fragments.

abbrev pub is_filled : SectionFill → Bool
is_filled r = r.filled == r.size

abbrev pub fill_or_out_of_order : ℕ → Option SectionFill → Result (ℕ × SectionFill) ObjectError
fill_or_out_of_order k None = Err OutOfOrder
fill_or_out_of_order k (Some r) = Ok (k, r)

-- the index of the first section that isn't full, and that section
abbrev pub next_fill : List SectionFill → Result (ℕ × SectionFill) ObjectError
next_fill rs = fill_or_out_of_order (prefix_len is_filled rs) (slice_get rs (prefix_len is_filled rs))

-- this many more bytes fit in the section
abbrev pub check_capacity : SectionFill → ℕ → Result (Unit {0}) ObjectError
check_capacity r len = ok_if (nat_le len (r.size - r.filled)) BadSize

abbrev pub is_short : LastFragment → Bool
is_short last.Short = true
is_short last.Fill = false
is_short last.Other = false

abbrev pub is_fill : LastFragment → Bool
is_fill last.Fill = true
is_fill last.Short = false
is_fill last.Other = false

-- the last part of a section after a literal of this many bytes
abbrev pub last_after : ℕ → LastFragment
last_after len = if len % body_limit == 0 then last.Other else last.Short

-- the section after a fragment
abbrev pub fill_after : SectionFill → ℕ → LastFragment → SectionFill
fill_after r len l = record { size = r.size; filled = r.filled + len; last = l }

unfoldable pub with_literal : List ℕ → SectionFill → Result (SectionFill × Fragment) ObjectError
with_literal body r = do
  bytes ← literal_of body
  u ← check_capacity r (length bytes)
  v ← ok_if (not (is_short r.last)) NotCanonical
  Ok (fill_after r (length bytes) (last_after (length bytes)), Literal bytes)

unfoldable pub with_fill : List ℕ → SectionFill → Result (SectionFill × Fragment) ObjectError
with_fill body r = do
  count ← fill_of body
  u ← check_capacity r count
  v ← ok_if (not (is_fill r.last)) NotCanonical
  Ok (fill_after r count last.Fill, Fill count)

-- a value in an object of this version with this many files, sections and imports
unfoldable pub with_value : ℕ → ℕ → ℕ → ℕ → List ℕ → SectionFill → Result (SectionFill × Fragment) ObjectError
with_value version files sections imports body r = do
  value ← value_of version body
  u ← check_capacity r (width_len value.0)
  v ← check_indices files sections imports value.1 value.2
  w ← check_canonical_open value.2
  Ok (fill_after r (width_len value.0) last.Other, Value value.0 value.1 value.2)

-- the section after a record of this kind, a LITERAL, FILL or VALUE, and its fragment
abbrev pub with_record_fragment : Outline → ℕ → List ℕ → SectionFill → Result (SectionFill × Fragment) ObjectError
with_record_fragment o kind body =
    if kind == 3 then with_literal body
    else if kind == 4 then with_fill body
    else with_value o.version (length o.files) (length o.fills) (length o.imports) body

-- ---- One record.

-- files come before all else; a name may be empty
unfoldable pub scan_file : Outline → List ℕ → Result (Outline × Item) ObjectError
scan_file o body = do
  u ← ok_if (is_none o.imports && is_none o.fills && is_none o.exports && not o.has_assert) OutOfOrder
  t ← ok_if (is_file_name body) BadSize
  v ← check_new_file o.files body
  Ok (record o { files = o.files ++ body ∷ [] }, File body)

-- imports come before all else but files
unfoldable pub scan_import : Outline → List ℕ → Result (Outline × Item) ObjectError
scan_import o body = do
  u ← ok_if (is_none o.fills && is_none o.exports && not o.has_assert) OutOfOrder
  v ← check_new_name o.imports body
  Ok (record o { imports = o.imports ++ body ∷ [] }, Import body)

-- a section that has no fragment yet
abbrev pub empty_fill : ℕ → SectionFill
empty_fill size = record { size = size; filled = 0; last = last.Other }

-- sections come before all fragments
unfoldable pub scan_section : Outline → List ℕ → Result (Outline × Item) ObjectError
scan_section o body = do
  u ← ok_if (not o.has_fragment && is_none o.exports && not o.has_assert) OutOfOrder
  h ← section_of body
  v ← check_new_name o.sections h.name
  w ← ok_if (nat_le h.align 15) NotCanonical
  Ok (record o { sections = o.sections ++ h.name ∷ []; fills = o.fills ++ empty_fill h.size ∷ [] }, Section h.name h.size h.align)

-- the record of a fragment, which is added to the first section that isn't full
unfoldable pub scan_part : Outline → (SectionFill → Result (SectionFill × Fragment) ObjectError) → Result (Outline × Item) ObjectError
scan_part o grow = do
  section ← next_fill o.fills
  grown ← grow section.1
  Ok (record o { fills = slice_set o.fills section.0 grown.0; has_fragment = true }, Part section.0 section.1.filled grown.1)

-- exports come after the last fragment and before all assertions
unfoldable pub scan_export : Outline → List ℕ → Result (Outline × Item) ObjectError
scan_export o body = do
  u ← ok_if (list_all is_filled o.fills && not o.has_assert) OutOfOrder
  e ← export_of o.version body
  v ← check_indices (length o.files) (length o.fills) (length o.imports) e.origin e.form
  w ← check_new_name o.exports e.name
  x ← check_canonical e.form
  Ok (record o { exports = o.exports ++ e.name ∷ [] }, Export e.name e.origin e.form)

-- assertions and the END come after the last fragment
unfoldable pub scan_assert : Outline → List ℕ → Result (Outline × Item) ObjectError
scan_assert o body = do
  u ← ok_if (list_all is_filled o.fills) OutOfOrder
  a ← assert_of o.version body
  v ← check_indices (length o.files) (length o.fills) (length o.imports) a.origin a.form
  w ← check_canonical_open a.form
  Ok (record o { has_assert = true }, Assert a.action a.origin a.text a.form)

unfoldable pub scan_last : Outline → List ℕ → Result (Outline × Item) ObjectError
scan_last o body = do
  u ← ok_if (list_all is_filled o.fills) OutOfOrder
  v ← end_of body
  Ok (record o { ended = true }, End)

unfoldable pub scan_record : Outline → RawRecord → Result (Outline × Item) ObjectError
scan_record o e =
    if not (is_record_kind o.version e.kind) then Err OutOfOrder
    else if e.kind == 1 then scan_import o e.body
    else if e.kind == 2 then scan_section o e.body
    else if e.kind == 3 then scan_part o (with_literal e.body)
    else if e.kind == 4 then scan_part o (with_fill e.body)
    else if e.kind == 5 then scan_part o (with_value o.version (length o.files) (length o.fills) (length o.imports) e.body)
    else if e.kind == 6 then scan_export o e.body
    else if e.kind == 7 then scan_assert o e.body
    else if e.kind == 9 then scan_file o e.body
    else scan_last o e.body

-- the outline after a record and the record's item, or the first error
unfoldable pub scan_step : Outline → RawRecord → Result (Outline × Item) ObjectError
scan_step o e = if o.failed then Err FailedBefore else if o.ended then Err OutOfOrder else scan_record o e

-- the items of records in order, or the first error
abbrev pub items_of : Outline → List RawRecord → Result (List Item) ObjectError
items_of o [] = Ok []
items_of o (e ∷ es) = scan_step o e >>= (λ x. items_of x.0 es >>= (λ is. Ok (x.1 ∷ is)))

-- whether the object may end here
abbrev pub scan_end : Outline → Result (Unit {0}) ObjectError
scan_end o = if o.failed then Err FailedBefore else if o.ended then Ok tt else Err CutShort

-- ---- Limits of items.

-- a fragment fits in this section, after its bytes so far
pub record FitsIn (fill : SectionFill) (offset : ℕ) (f : Fragment) : Type 0 where
  pub following : offset ≡ fill.filled
  pub within : offset + fragment_len f ≤ fill.size
  pub size : fill.size ≤ section_limit

-- the numbers of an item are within their limits
abbrev pub IsWithinLimits : Outline → Item → Type 0
IsWithinLimits o (File name) = ⊤
IsWithinLimits o (Import name) = ⊤
IsWithinLimits o (Section name size align) = (size ≤ section_limit) × (align ≤ 15)
IsWithinLimits o (Part k offset f) = (fill : SectionFill) × (slice_get o.fills k ≡ Some fill) × FitsIn fill offset f
IsWithinLimits o (Export name origin form) = ⊤
IsWithinLimits o (Assert action origin text form) = is_small_text text ≡ true
IsWithinLimits o End = ⊤

-- ---- The states of a builder, record by record, built from the items of a scan.

-- the state after a record, or the first error
unfoldable pub state_after_record : State → RawRecord → Result State ObjectError
state_after_record s e = scan_step (outline_of s) e >>= (λ x. Ok (with_item s x.1))

-- ---- Many records.

abbrev pub state_after_records : State → List RawRecord → Result State ObjectError
state_after_records s [] = Ok s
state_after_records s (e ∷ es) = state_after_record s e >>= (λ t. state_after_records t es)

-- these records lead to the state from an empty object of its version
abbrev pub ReachedByRecords : State → List RawRecord → Type 0
ReachedByRecords s es = state_after_records (start s.version) es ≡ Ok s

-- some records lead to the state, and its version is valid
pub record IsReached (s : State) : Type 0 where
  pub version : is_version s.version ≡ true
  pub records : List RawRecord
  pub reachable : ReachedByRecords s records

-- the object, if its END was scanned
abbrev pub object_of_state : State → Result Object ObjectError
object_of_state s = if s.failed then Err FailedBefore else if s.ended then Ok (object_from s) else Err CutShort
