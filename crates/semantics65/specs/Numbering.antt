-- The object of contents: its sections, imports and files by number. Then the conditions for an object: on statements
-- (`IsWellFormedStatement`), on a layout (`IsWellFormedLayout`) and on contents (`AreWellFormedContents`).
use Rattle.std.specs.Prelude.{ℕ, zero, ◌+◌, nat_eq, Bool, true, false, not, List, [], ◌∷◌, ◌++◌, map, filter_map, Option, Some, None, unwrap_or, slice_get, if◌then◌else◌, ◌≡◌, ◌≤◌, ◌<◌, nat_lt, length, sum_by, take, ⊤}
use Rattle.std.specs.List.{position, list_any, flat_map, filter, list_all, AllByRecursion}
use Rattle.std.specs.Str.{bytes_eq}
use Rattle.object65.specs.Form.{Form, lit, sec, imp, prefix, binary}
use Rattle.object65.specs.declared.object.Assert.{Assert}
use Rattle.object65.specs.declared.object.Export.{Export}
use Rattle.object65.specs.declared.object.Fragment.{Fragment}
use Rattle.object65.specs.declared.object.Fragment.TheVariants.{Literal, Fill, Value}
use Rattle.semantics65.specs.Types.{Object, SourceLocation, Segment, Statement}
use Rattle.object65.specs.declared.object.Origin.{Origin}
use Rattle.object65.specs.declared.object.Section.{Section}
use Rattle.semantics65.specs.Contents.{Content, Part, Known, ReservedBytes, LinkTimeValue, Declaration, ExportedSymbol, ForcedImport, LinkAssertion, exported_names}
use Rattle.semantics65.specs.Layout.{powers, Layout}
use Rattle.syntax65.specs.Tokens.{Lexeme}
use Rattle.syntax65.specs.declared.lexing.tokens.TokenKind.{TokenKind}
use Rattle.syntax65.specs.declared.lexing.tokens.TokenKind.TheVariants as token
use Rattle.object65.specs.Folding.{is_literal}
use Rattle.object65.specs.Laws.{IsFolded}
use Rattle.object65.specs.Objects.{are_names, is_file_name, is_name, section_limit, width_len}
use Rattle.ast65.specs.declared.language.Statement.TheVariants as statement
use Rattle.semantics65.specs.Symbols.{LaidOutStatement, Symbols, symbols_of}
use Rattle.semantics65.specs.Norms.{length_of, encoding_of}

-- ---- Numbers.

-- A key is the index of a segment or of an import in the module. The object has numbers of its own for those that it uses. (The
-- type `Key` of Symbols is something else: that by which a definition is found.)

-- appends keys that aren't there yet, in order of first occurrence
abbrev pub distinct_keys : List ℕ → List ℕ → List ℕ
distinct_keys found [] = found
distinct_keys found (k ∷ ks) = distinct_keys (if list_any (nat_eq k) found then found else found ++ k ∷ []) ks

-- the number of a key: its index among the keys that the object uses
abbrev pub number_of : List ℕ → ℕ → ℕ
number_of keys k = unwrap_or (position (nat_eq k) keys) 0

-- the form with the numbers of sections and imports in the object
abbrev pub renumbered_form : (sections imports : List ℕ) → Form → Form
renumbered_form sections imports (lit v) = lit v
renumbered_form sections imports (sec g a) = sec (number_of sections g) a
renumbered_form sections imports (imp k) = imp (number_of imports k)
renumbered_form sections imports (prefix op f) = prefix op (renumbered_form sections imports f)
renumbered_form sections imports (binary op f g) = binary op (renumbered_form sections imports f) (renumbered_form sections imports g)

-- ---- Sections, in the order of the first request.

abbrev pub segment_requests : List Content → List ℕ
segment_requests cs = map (λ c. c.segment) (filter (λ c. c.requests_section) cs)

abbrev pub section_keys : List Content → List ℕ
section_keys cs = distinct_keys [] (segment_requests cs)

-- ---- Imports, in the order in which stored forms first use them.

abbrev pub imports_in : Form → List ℕ
imports_in (lit v) = []
imports_in (sec g a) = []
imports_in (imp k) = k ∷ []
imports_in (prefix op f) = imports_in f
imports_in (binary op f g) = imports_in f ++ imports_in g

abbrev pub part_imports : Part → List ℕ
part_imports (Known bytes) = []
part_imports (ReservedBytes n) = []
part_imports (LinkTimeValue width location f) = imports_in f

abbrev pub optional_key : Option ℕ → List ℕ
optional_key None = []
optional_key (Some k) = k ∷ []

-- the key of an import: the index of its name in the module's list of imports
abbrev pub key_of : List (List ℕ) → List ℕ → Option ℕ
key_of names n = position (λ m. bytes_eq m n) names

-- the keys of imports, in their order
abbrev pub declaration_imports : List (List ℕ) → Declaration → List ℕ
declaration_imports names (ExportedSymbol n location f) = imports_in f
declaration_imports names (ForcedImport n) = optional_key (key_of names n)
declaration_imports names (LinkAssertion act location words f) = imports_in f

abbrev pub content_imports : List (List ℕ) → Content → List ℕ
content_imports names c = flat_map part_imports c.parts ++ flat_map (declaration_imports names) c.said

abbrev pub import_keys : List (List ℕ) → List Content → List ℕ
import_keys names cs = distinct_keys [] (flat_map (content_imports names) cs)

abbrev pub name_of : List (List ℕ) → ℕ → List ℕ
name_of names k = unwrap_or (slice_get names k) []

-- ---- Fragments.

-- the fragment of a part, given the origin of each location
abbrev pub fragment_of : (at : SourceLocation → Origin) (sections imports : List ℕ) → Part → Fragment
fragment_of at sections imports (Known bytes) = Literal bytes
fragment_of at sections imports (ReservedBytes n) = Fill n
fragment_of at sections imports (LinkTimeValue width location f) = Value width (at location) (renumbered_form sections imports f)

-- a fragment without bytes
abbrev pub is_empty : Fragment → Bool
is_empty (Literal []) = true
is_empty (Fill zero) = true
is_empty _ = false

-- a fragment and those after it, with neighbours of one kind merged
abbrev pub merged_fragments : Fragment → List Fragment → List Fragment
merged_fragments f [] = f ∷ []
merged_fragments (Literal a) (Literal b ∷ fs) = merged_fragments (Literal (a ++ b)) fs
merged_fragments (Fill m) (Fill n ∷ fs) = merged_fragments (Fill (m + n)) fs
merged_fragments f (g ∷ fs) = f ∷ merged_fragments g fs

abbrev pub merged_neighbours : List Fragment → List Fragment
merged_neighbours [] = []
merged_neighbours (f ∷ fs) = merged_fragments f fs

-- the fragments of parts, without the empty ones
abbrev pub fragments_of : (at : SourceLocation → Origin) (sections imports : List ℕ) → List Part → List Fragment
fragments_of at sections imports ps = filter (λ f. not (is_empty f)) (map (fragment_of at sections imports) ps)

-- the parts of statements in a segment
abbrev pub parts_in : List Content → ℕ → List Part
parts_in cs g = flat_map (λ c. c.parts) (filter (λ c. nat_eq c.segment g) cs)

-- ---- Sections.

abbrev pub segment_name : Option Segment → List ℕ
segment_name None = []
segment_name (Some s) = s.name

-- the exponent of the power of two to which a segment is aligned
abbrev pub segment_power : Option Segment → ℕ
segment_power None = 0
segment_power (Some s) = number_of powers s.align

abbrev pub section_of : (at : SourceLocation → Origin) → List Segment → (sections imports : List ℕ) → List Content → ℕ → Section
section_of at segments sections imports cs g = record {
  name = segment_name (slice_get segments g);
  align = segment_power (slice_get segments g);
  fragments = merged_neighbours (fragments_of at sections imports (parts_in cs g));
}

-- ---- Exports and assertions.

abbrev pub export_of : (at : SourceLocation → Origin) (sections imports : List ℕ) → Declaration → Option Export
export_of at sections imports (ExportedSymbol n location f) = Some (record { name = n; origin = at location; form = renumbered_form sections imports f })
export_of at sections imports _ = None

abbrev pub assert_of : (at : SourceLocation → Origin) (sections imports : List ℕ) → Declaration → Option Assert
assert_of at sections imports (LinkAssertion act location words f) = Some (record { action = act; origin = at location; text = words; form = renumbered_form sections imports f })
assert_of at sections imports _ = None

abbrev pub all_declarations : List Content → List Declaration
all_declarations cs = flat_map (λ c. c.said) cs

-- ---- Files, in the order in which the object first names them.

-- appends names that aren't there yet, in order of first occurrence
abbrev pub distinct_names : List (List ℕ) → List (List ℕ) → List (List ℕ)
distinct_names found [] = found
distinct_names found (n ∷ ns) = distinct_names (if list_any (bytes_eq n) found then found else found ++ n ∷ []) ns

abbrev pub part_files : Part → List (List ℕ)
part_files (Known bytes) = []
part_files (ReservedBytes n) = []
part_files (LinkTimeValue width location f) = location.file ∷ []

abbrev pub export_files : Declaration → List (List ℕ)
export_files (ExportedSymbol n location f) = location.file ∷ []
export_files _ = []

abbrev pub assert_files : Declaration → List (List ℕ)
assert_files (LinkAssertion act location words f) = location.file ∷ []
assert_files _ = []

-- the files of the values of each section in turn, then of exports, then of assertions
abbrev pub referenced_files : List Content → List (List ℕ)
referenced_files cs = flat_map (λ g. flat_map part_files (parts_in cs g)) (section_keys cs)
    ++ flat_map export_files (all_declarations cs) ++ flat_map assert_files (all_declarations cs)

abbrev pub files_of : List Content → List (List ℕ)
files_of cs = distinct_names [] (referenced_files cs)

-- the origin of a location: the index of its file among these, and the line
abbrev pub origin_in_files : List (List ℕ) → SourceLocation → Origin
origin_in_files files location = record { file = position (bytes_eq location.file) files; line = location.line }

-- ---- The object.

-- the object of this version with these files, given the origin of each location
abbrev pub object_by : ℕ → List (List ℕ) → (at : SourceLocation → Origin) → List Segment → List (List ℕ) → List Content → Object
object_by version files at segments names cs =
    let sections : List ℕ = section_keys cs in
    let imports : List ℕ = import_keys names cs in
    record {
      version = version;
      files = files;
      imports = map (name_of names) imports;
      sections = map (section_of at segments sections imports cs) sections;
      exports = filter_map (export_of at sections imports) (all_declarations cs);
      asserts = filter_map (assert_of at sections imports) (all_declarations cs);
    }

abbrev pub object_with : List Segment → List (List ℕ) → List Content → Object
object_with segments names cs = object_by 2 (files_of cs) (origin_in_files (files_of cs)) segments names cs

-- ---- Tokens and statements.

-- the text of a token: if it is an identifier, an object can hold it
abbrev pub IsSymbolName : TokenKind → List ℕ → Type 0
IsSymbolName token.Identifier t = is_name t ≡ true
IsSymbolName _ t = ⊤

-- the same for tokens, of which `t.0` is the kind and `t.1` the text
abbrev pub AreSymbolNames : List Lexeme → Type 0
AreSymbolNames ts = AllByRecursion (λ t. IsSymbolName t.0 t.1) ts

-- the names that a statement imports, exports or gives a segment fit an object, and an assertion's text has at most 255 bytes
abbrev pub IsWellFormedStatement : Statement → Type 0
IsWellFormedStatement (statement.Segment n own) = is_name n ≡ true
IsWellFormedStatement (statement.Import own names) = list_all is_name names ≡ true
IsWellFormedStatement (statement.Export names) = list_all is_name names ≡ true
IsWellFormedStatement (statement.Global own names) = list_all is_name names ≡ true
IsWellFormedStatement (statement.ForceImport names) = list_all is_name names ≡ true
IsWellFormedStatement (statement.Assert e action words) = length words < 256
IsWellFormedStatement _ = ⊤

-- ---- Layouts.

abbrev pub statements_in : List LaidOutStatement → ℕ → List LaidOutStatement
statements_in ls g = filter (λ l. nat_eq l.context.segment g) ls

-- The length and the encoding decisions of a statement are those of the layout rules, which depend on the address size of the
-- segment. That is `l.size`, except for a constant: there `l.size` is the size of its expression. For a constant the address
-- size has no effect: its length is 0, and its encoding `Undecided`.
pub record IsMeasured (y : Symbols) (l : LaidOutStatement) : Type 0 where
  pub length : l.length ≡ length_of y l.context l.size l.stated
  pub encoding : l.encoding ≡ encoding_of y l.context l.size l.stated

-- A layout whose names and sizes fit into an object, and whose lengths and encoding decisions are those of the layout rules.
pub record IsWellFormedLayout (y : Layout) : Type 0 where
  pub named : are_names (map (λ g. g.name) y.cursor.segments) ≡ true
  pub sound : AllByRecursion (λ l. IsWellFormedStatement l.stated) y.laid
  -- each statement is in one of the segments
  pub segments_exist : AllByRecursion (λ l. l.context.segment < length y.cursor.segments) y.laid
  pub measured : (i : ℕ) (l : LaidOutStatement) → slice_get y.laid i ≡ Some l → IsMeasured (symbols_of (take i y.laid)) l
  -- the statements in a segment are not longer than a section can be
  pub sections_fit : (g : ℕ) → sum_by (λ l. l.length) (statements_in y.laid g) ≤ section_limit

-- ---- Contents.

-- the segments whose sections occur in a form
abbrev pub sections_in : Form → List ℕ
sections_in (lit v) = []
sections_in (sec g a) = g ∷ []
sections_in (imp k) = []
sections_in (prefix op f) = sections_in f
sections_in (binary op f g) = sections_in f ++ sections_in g

-- a form that can be stored, given the segments with a section and the number of imports
pub record IsWellFormedForm (requested : List ℕ) (count : ℕ) (f : Form) : Type 0 where
  pub folded : IsFolded f
  pub sections : list_all (λ g. list_any (nat_eq g) requested) (sections_in f) ≡ true
  pub imports : list_all (λ k. nat_lt k count) (imports_in f) ≡ true

-- a located form that can be stored: an object can hold the name of its file and the form
pub record IsWellFormedLocatedForm (requested : List ℕ) (count : ℕ) (location : SourceLocation) (f : Form) : Type 0 where
  pub file : is_file_name location.file ≡ true
  pub form : IsWellFormedForm requested count f

abbrev pub IsWellFormedPart : List ℕ → ℕ → Part → Type 0
IsWellFormedPart requested count (Known bytes) = ⊤
IsWellFormedPart requested count (ReservedBytes n) = ⊤
IsWellFormedPart requested count (LinkTimeValue width location f) = IsWellFormedLocatedForm requested count location f × (is_literal f ≡ false)

abbrev pub IsWellFormedDeclaration : List ℕ → ℕ → Declaration → Type 0
IsWellFormedDeclaration requested count (ExportedSymbol n location f) = (is_name n ≡ true) × IsWellFormedLocatedForm requested count location f
IsWellFormedDeclaration requested count (ForcedImport n) = ⊤
IsWellFormedDeclaration requested count (LinkAssertion act location words f) = (length words < 256) × IsWellFormedLocatedForm requested count location f × (is_literal f ≡ false)

pub record IsWellFormedContent (requested : List ℕ) (count : ℕ) (c : Content) : Type 0 where
  pub parts : AllByRecursion (IsWellFormedPart requested count) c.parts
  pub said : AllByRecursion (IsWellFormedDeclaration requested count) c.said

abbrev pub part_len : Part → ℕ
part_len (Known bytes) = length bytes
part_len (ReservedBytes n) = n
part_len (LinkTimeValue width location f) = width_len width

-- the conditions for the object of contents with these segments and imports
pub record AreWellFormedContents (segments : List Segment) (names : List (List ℕ)) (cs : List Content) : Type 0 where
  pub named : are_names (map (λ g. g.name) segments) ≡ true
  pub imported : are_names names ≡ true
  pub exported : are_names (exported_names (all_declarations cs)) ≡ true
  -- each content is in one of the segments
  pub segments_exist : AllByRecursion (λ c. c.segment < length segments) cs
  -- the parts in a segment are not longer than a section can be
  pub sections_fit : (g : ℕ) → sum_by part_len (parts_in cs g) ≤ section_limit
  pub contents : AllByRecursion (IsWellFormedContent (section_keys cs) (length names)) cs
