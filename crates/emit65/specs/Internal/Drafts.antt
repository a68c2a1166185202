-- From entries to the object: entries by section, the order of files, and fragments.
use Rattle.std.specs.Prelude.{◌≡◌, ℕ, ◌+◌, nat_eq, Bool, false, List, [], ◌∷◌, ◌++◌, map, filter_map, Option, Some, None, not, position, slice_get, if◌then◌else◌, true, IfSome}
use Rattle.std.specs.List.{AllByRecursion, cons_option, filter, flat_map, list_any}
use Rattle.syntax65.specs.declared.source_location.SourceLocation.{SourceLocation}
use Rattle.object65.specs.declared.object.Assert.{Assert}
use Rattle.object65.specs.declared.object.Export.{Export}
use Rattle.object65.specs.declared.object.Fragment.{Fragment}
use Rattle.object65.specs.declared.object.Fragment.TheVariants as fragment
use Rattle.object65.specs.declared.object.Fragment.TheVariants.{Literal, Fill}
use Rattle.object65.specs.declared.object.Object.{Object}
use Rattle.object65.specs.declared.object.Origin.{Origin}
use Rattle.object65.specs.declared.object.Section.{Section}
use Rattle.object65.specs.Objects.{FitsBits, FragmentFits, OriginFits}
use Rattle.semantics65.specs.declared.contents.Declaration.{Declaration}
use Rattle.semantics65.specs.declared.contents.Declaration.TheVariants.{ExportedSymbol, LinkAssertion}
use Rattle.semantics65.specs.declared.contents.Segment.{Segment}
use Rattle.semantics65.specs.Numbering as numbering
use Rattle.semantics65.specs.Numbering.{merged_neighbours, import_keys, is_empty, name_of, renumbered_form, distinct_keys, segment_name, segment_power}
use Rattle.semantics65.specs.Views.{location_in, declaration_at}
use Rattle.emit65.specs.declared.entries.SectionEntry.{SectionEntry}
use Rattle.emit65.specs.declared.entries.SectionEntry.TheVariants.{Bytes, Reserve, Value, DeclarationEntry}
use Rattle.emit65.specs.declared.entries.SourcePos.{SourcePos}
use Rattle.emit65.specs.SectionContents as fed
use Rattle.emit65.specs.declared.numbering.Numbered.{Numbered}
use Rattle.emit65.specs.declared.numbering.drafts.SectionDraft.{SectionDraft}
use Rattle.emit65.specs.declared.entries.LocatedDeclaration.{LocatedDeclaration}
use Rattle.emit65.specs.declared.numbering.exports.DeclarationTables.{DeclarationTables}
use Rattle.emit65.specs.declared.numbering.fragments.FragmentMerger.{FragmentMerger}
use Rattle.emit65.specs.declared.numbering.keys.Numbers.{Numbers}
use Rattle.emit65.specs.declared.numbering.ordering.FileOrder.{FileOrder}

-- a location for the imports of a declaration, which don't depend on its location
abbrev pub any_location : SourceLocation
any_location = location_in [] 0

-- ---- Entries by section.

-- the segment of an entry
abbrev pub segment_of : SectionEntry → Option ℕ
segment_of (Bytes g bytes) = Some g
segment_of (Reserve g n) = Some g
segment_of (Value width g o f) = Some g
segment_of _ = None

abbrev pub is_segment : ℕ → Option ℕ → Bool
is_segment g None = false
is_segment g (Some h) = nat_eq h g

-- the entries of a segment
abbrev pub entries_in : ℕ → List SectionEntry → List SectionEntry
entries_in g es = filter (λ e. is_segment g (segment_of e)) es

abbrev pub draft_of : List SectionEntry → ℕ → SectionDraft
draft_of es g = record { segment = g; entries = entries_in g es }

-- a draft after an entry, which is added if it is one of its segment
abbrev pub with_entry : SectionEntry → SectionDraft → SectionDraft
with_entry e d = if is_segment d.segment (segment_of e) then record d { entries = d.entries ++ e ∷ [] } else d

-- the declarations of an entry
abbrev pub declarations_of : SectionEntry → List LocatedDeclaration
declarations_of (DeclarationEntry t) = t.value ∷ []
declarations_of _ = []

-- ---- Files, by their indices in the table of all files.

abbrev pub value_keys : SectionEntry → List ℕ
value_keys (Value width g o f) = o.file ∷ []
value_keys _ = []

abbrev pub draft_keys : SectionDraft → List ℕ
draft_keys d = flat_map value_keys d.entries

abbrev pub export_file : SourcePos → Declaration → List ℕ
export_file o (ExportedSymbol n f) = o.file ∷ []
export_file o _ = []

abbrev pub export_keys : LocatedDeclaration → List ℕ
export_keys t = export_file t.pos t.said

abbrev pub assert_file : SourcePos → Declaration → List ℕ
assert_file o (LinkAssertion act message f) = o.file ∷ []
assert_file o _ = []

abbrev pub assert_keys : LocatedDeclaration → List ℕ
assert_keys t = assert_file t.pos t.said

-- the files that an object uses, each once, in the order of the object
abbrev pub files_in_order : List SectionDraft → List LocatedDeclaration → List ℕ
files_in_order ds ts = distinct_keys [] (flat_map draft_keys ds ++ flat_map export_keys ts ++ flat_map assert_keys ts)

-- the file that was added last is one of the files
abbrev pub HasLast : FileOrder → Type 0
HasLast o = IfSome o.last (λ k. list_any (nat_eq k) o.files.keys ≡ true)

abbrev pub origin_of : Numbers → SourcePos → Origin
origin_of n o = record { file = position (nat_eq o.file) n.files.keys; line = o.line }

-- ---- Fragments.

abbrev pub fragment_of : Numbers → SectionEntry → Fragment
fragment_of n (Bytes g bytes) = Literal bytes
fragment_of n (Reserve g count) = Fill count
fragment_of n (Value width g o f) = fragment.Value width (origin_of n o) (renumbered_form n.sections.keys n.imports.keys f)
fragment_of n _ = Literal []

-- the fragments of entries: none is empty, and adjacent ones are merged if possible
abbrev pub fragments_of : Numbers → List SectionEntry → List Fragment
fragments_of n es = merged_neighbours (filter (λ f. not (is_empty f)) (map (fragment_of n) es))

abbrev pub all_of : FragmentMerger → List Fragment
all_of t = t.done ++ cons_option t.last []

-- with a fragment added after the last one
abbrev pub with_new_fragment : FragmentMerger → Fragment → FragmentMerger
with_new_fragment t f = record { done = all_of t; last = Some f }

-- with a fragment merged into the last one, or added after it
abbrev pub with_merged_fragment : FragmentMerger → Option Fragment → Fragment → FragmentMerger
with_merged_fragment t (Some (Literal a)) (Literal b) = record t { last = Some (Literal (a ++ b)) }
with_merged_fragment t (Some (Fill m)) (Fill n) = record t { last = Some (Fill (m + n)) }
with_merged_fragment t last f = with_new_fragment t f

abbrev pub with_fragment : FragmentMerger → Fragment → FragmentMerger
with_fragment t f = if is_empty f then t else with_merged_fragment t t.last f

abbrev pub section_of : List Segment → Numbers → SectionDraft → Section
section_of segments n d = record {
  name = segment_name (slice_get segments d.segment);
  align = segment_power (slice_get segments d.segment);
  fragments = fragments_of n d.entries;
}

-- ---- Exports and assertions.

abbrev pub export_by : Numbers → LocatedDeclaration → Option Export
export_by n t = numbering.export_of (λ location. origin_of n t.pos) n.sections.keys n.imports.keys (declaration_at any_location t.said)

abbrev pub assert_by : Numbers → LocatedDeclaration → Option Assert
assert_by n t = numbering.assert_of (λ location. origin_of n t.pos) n.sections.keys n.imports.keys (declaration_at any_location t.said)

-- ---- The object.

-- the entries by the sections of these segments, and the numbers of their sections, imports and files,
-- with imports of these names
pub record IsNumbered (names : List (List ℕ)) (requested : List ℕ) (es : List SectionEntry) (t : Numbered) : Type 0 where
  pub sections : t.numbers.sections.keys ≡ requested
  pub imports : t.numbers.imports.keys ≡ import_keys names (map (fed.content_of []) es)
  pub files : t.numbers.files.keys ≡ files_in_order (map (draft_of es) requested) (flat_map declarations_of es)
  pub drafts : t.by_section.drafts.items ≡ map (draft_of es) requested
  pub declarations : t.by_section.declarations ≡ flat_map declarations_of es

-- the object of numbered entries, with the names of all imports and all files
abbrev pub object_of : List Segment → (imports files : List (List ℕ)) → Numbered → Object
object_of segments imports files t = record {
  version = 2;
  files = map (name_of files) t.numbers.files.keys;
  imports = map (name_of imports) t.numbers.imports.keys;
  sections = map (section_of segments t.numbers) t.by_section.drafts.items;
  exports = filter_map (export_by t.numbers) t.by_section.declarations;
  asserts = filter_map (assert_by t.numbers) t.by_section.declarations;
}

-- ---- The numbers fit their types.

pub record MergerFits (t : FragmentMerger) : Type 0 where
  pub done : AllByRecursion FragmentFits t.done
  pub last : AllByRecursion FragmentFits (cons_option t.last [])

abbrev pub SectionFits : Section → Type 0
SectionFits s = AllByRecursion FragmentFits s.fragments

abbrev pub ExportFits : Export → Type 0
ExportFits e = OriginFits e.origin × FitsBits e.form

abbrev pub AssertFits : Assert → Type 0
AssertFits a = OriginFits a.origin × FitsBits a.form

pub record DeclarationsFit (t : DeclarationTables) : Type 0 where
  pub exports : AllByRecursion ExportFits t.exports
  pub asserts : AllByRecursion AssertFits t.asserts
