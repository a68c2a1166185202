-- Slots and entries: what statements emit, and how sections represent it.
use Rattle.std.specs.Prelude.{◌≡◌, ℕ, nat_lt, Bool, true, List, [], ◌∷◌, ◌++◌, map, nat_eq, length, string_bytes, IfSome, Result, Ok, Err}
use Rattle.std.specs.List.{flat_map, list_all, list_any}
use Rattle.std.specs.Global.{Vec}
use Rattle.indexmap.specs.IndexSet.{IndexSet}
use Rattle.syntax65.specs.declared.source_location.SourceLocation.{SourceLocation}
use Rattle.object65.specs.declared.object.Fragment.{Fragment}
use Rattle.object65.specs.declared.object.Origin.{Origin}
use Rattle.semantics65.specs.Contents.{Content, ReservedBytes, Known, LinkTimeValue, section_part, declaration_content}
use Rattle.semantics65.specs.Module.{Resolution, Slot, resolved, resolution_of, deferred, LocatedFault}
use Rattle.semantics65.specs.Module as piece
use Rattle.semantics65.specs.Numbering.{merged_neighbours, all_declarations, content_imports, fragments_of, name_of, part_files, parts_in, section_keys}
use Rattle.semantics65.specs.Symbols.{Symbols}
use Rattle.semantics65.specs.Views.{location_in, declaration_at}
use Rattle.semantics65.specs.declared.contexts.Context.{Context}
use Rattle.emit65.specs.declared.entries.SectionEntry.{SectionEntry}
use Rattle.emit65.specs.declared.entries.SectionEntry.TheVariants.{Bytes, Reserve, Value, DeclarationEntry, FixupEntry}
use Rattle.emit65.specs.declared.entries.SourcePos.{SourcePos}
use Rattle.emit65.specs.declared.entries.Entries.{Entries}
use Rattle.emit65.specs.declared.files.Files.{Files}
use Rattle.emit65.specs.declared.fixups.Fixup.{Fixup}
use Rattle.emit65.specs.declared.fixups.FixupKind.{FixupKind}
use Rattle.emit65.specs.declared.fixups.FixupKind.TheVariants.{Datum, Operand, Constant, Assertion, Import, ForcedImport, Export}
use Rattle.emit65.specs.declared.sections.ClosedSections.{ClosedSections}
use Rattle.emit65.specs.declared.sections.Sections.{Sections}

-- ---- Sets of names.

-- the names in a set, in the order of their insertion: the key of an import is the index of its name
abbrev pub names_of : {S : Type 0} → IndexSet (Vec ℕ) S → List (List ℕ)
names_of s = map (λ k. k.items) s.keys

-- ---- Alike contents: with the same sections in the same order they make the same object.

-- Two lists of contents are alike: they use the same imports in the same order, emit the same bytes,
-- reserved bytes and values in each segment, whatever comes before and after them, use the same files in
-- the same order, and make the same declarations. The sections that they request may differ.
pub record AreEquivalentContents (cs ds : List Content) : Type 0 where
  pub imports : (names : List (List ℕ)) →
      flat_map (content_imports names) cs ≡ flat_map (content_imports names) ds
  pub parts : (at : SourceLocation → Origin) (sections imports : List ℕ) (g : ℕ) (before following : List Fragment) →
      merged_neighbours (before ++ (fragments_of at sections imports (parts_in cs g) ++ following))
      ≡ merged_neighbours (before ++ (fragments_of at sections imports (parts_in ds g) ++ following))
  pub files : (g : ℕ) → flat_map part_files (parts_in cs g) ≡ flat_map part_files (parts_in ds g)
  pub said : all_declarations cs ≡ all_declarations ds

-- ---- Alike slots: they have alike contents, or the same error.

-- the content of a slot; a pending one has none so far
abbrev pub content_so_far : Slot → Content
content_so_far (resolved c) = c
content_so_far (deferred w) = declaration_content []

abbrev pub contents_so_far : List Slot → List Content
contents_so_far xs = map content_so_far xs

-- alike contents, or the same error
abbrev pub AreEquivalentResults : (a b : Result (List Content) LocatedFault) → Type 0
AreEquivalentResults (Ok cs) (Ok ds) = AreEquivalentContents cs ds
AreEquivalentResults (Err e) (Err f) = e ≡ f
AreEquivalentResults a b = ⊥

-- alike results, with the same warnings
pub record AreEquivalentResolutions (a b : Resolution) : Type 0 where
  pub found : AreEquivalentResults a.found b.found
  pub printed_warnings : a.printed_warnings ≡ b.printed_warnings

-- Two lists of slots are alike: their contents are, and so are their results, by any symbol table and after
-- exports of any names.
pub record AreEquivalentSlots (xs ys : List Slot) : Type 0 where
  pub held : AreEquivalentContents (contents_so_far xs) (contents_so_far ys)
  pub resolutions : (y : Symbols) (names : List (List ℕ)) → AreEquivalentResolutions (resolution_of y names xs) (resolution_of y names ys)

-- ---- Entries, of which some are deferred.

-- a location, with the file of this index
abbrev pub location_of_pos : List (List ℕ) → SourcePos → SourceLocation
location_of_pos files o = location_in (name_of files o.file) o.line

-- the piece that a kind of fixup represents
abbrev pub piece_of : FixupKind → piece.Piece
piece_of (Datum width e) = piece.expression_value (piece.datum width) e
piece_of (Operand width e) = piece.expression_value (piece.operand width) e
piece_of (Constant e) = piece.expression_value piece.constant_definition e
piece_of (Assertion act message e) = piece.expression_value (piece.asserted act message) e
piece_of (Import n) = piece.imported n
piece_of (ForcedImport n) = piece.forced_import n
piece_of (Export must n) = piece.exported must n

-- a slot for a pending piece of a statement at this location
abbrev pub deferred_slot : SourceLocation → Context → FixupKind → Slot
deferred_slot location s p = deferred (record { place = location; context = s; piece = piece_of p })

-- the fixup that an entry represents, with these files
abbrev pub fixup_of : List (List ℕ) → Fixup → piece.Fixup
fixup_of files w = record {
  place = location_of_pos files w.pos;
  context = w.context;
  piece = piece_of w.piece;
}

-- the content that an entry represents, with these files; a pending fixup has none so far
abbrev pub content_of : List (List ℕ) → SectionEntry → Content
content_of files (Bytes g bytes) = section_part g (Known bytes)
content_of files (Reserve g n) = section_part g (ReservedBytes n)
content_of files (Value width g o f) = section_part g (LinkTimeValue width (location_of_pos files o) f)
content_of files (DeclarationEntry t) = declaration_content (declaration_at (location_of_pos files t.value.pos) t.value.said ∷ [])
content_of files (FixupEntry w) = declaration_content []

-- the slot that an entry represents, with these files
abbrev pub slot_of : List (List ℕ) → SectionEntry → Slot
slot_of files (FixupEntry w) = deferred (fixup_of files w.value)
slot_of files e = resolved (content_of files e)

-- the file index of an entry is below this, if the object may need it
abbrev pub has_file_below : ℕ → SectionEntry → Bool
has_file_below count (Value width g o f) = nat_lt o.file count
has_file_below count (DeclarationEntry t) = nat_lt t.value.pos.file count
has_file_below count (FixupEntry w) = nat_lt w.value.pos.file count
has_file_below count _ = true

-- ---- Files.

-- the names of files, by index
abbrev pub names_in : Files → List (List ℕ)
names_in t = map string_bytes t.table.keys

-- one list of names is a prefix of another
abbrev pub IsPrefix : (names more : List (List ℕ)) → Type 0
IsPrefix names more = (later : List (List ℕ)) × (more ≡ names ++ later)

-- ---- Entries that may still grow, and sections.

-- the open part, which may still grow: bytes, and reserved bytes after them
abbrev pub open_contents : Entries → List Content
open_contents t = section_part t.segment (Known t.bytes) ∷ section_part t.segment (ReservedBytes t.reserve) ∷ []

-- the slots that entries represent, with these files
abbrev pub slots_in : List (List ℕ) → Entries → List Slot
slots_in files t = map (slot_of files) t.done.items ++ map resolved (open_contents t)

-- the file indices of all entries are below this
abbrev pub HaveFilesBelow : ℕ → List SectionEntry → Type 0
HaveFilesBelow count es = list_all (has_file_below count) es ≡ true

-- an entry is added before the open part
pub record IsAdded (old new : Entries) (e : SectionEntry) : Type 0 where
  pub done : new.done.items ≡ old.done.items ++ e ∷ []
  pub open_contents : open_contents new ≡ open_contents old
  pub bytes : new.bytes ≡ old.bytes
  pub reserve : new.reserve ≡ old.reserve

-- With these files, the new entries represent these slots after the old ones.
pub record AppendsSlotsWithFiles (files : List (List ℕ)) (old new : Entries) (xs : List Slot) : Type 0 where
  pub equivalent : AreEquivalentSlots (slots_in files old ++ xs) (slots_in files new)
  pub standing : HaveFilesBelow (length files) old.done.items → HaveFilesBelow (length files) new.done.items

-- they do with any files
abbrev pub AppendsSlots : Entries → Entries → List Slot → Type 0
AppendsSlots old new xs = (files : List (List ℕ)) → AppendsSlotsWithFiles files old new xs

-- Representation relation: sections represent these slots.
pub record RepresentsSlots (xs : List Slot) (s : Sections) : Type 0 where
  pub requested : section_keys (contents_so_far xs) ≡ s.requested.keys
  pub latest : IfSome s.latest (λ g. list_any (nat_eq g) s.requested.keys ≡ true)
  pub equivalent : AreEquivalentSlots xs (slots_in (names_in s.files) s.entries)
  pub standing : HaveFilesBelow (length (names_in s.files)) s.entries.done.items

-- Representation relation: closed sections represent these slots.
pub record HasSlots (xs : List Slot) (t : ClosedSections) : Type 0 where
  pub requested : section_keys (contents_so_far xs) ≡ t.requested.keys
  pub equivalent : AreEquivalentSlots xs (map (slot_of (names_in t.files)) t.entries.items)
  pub standing : HaveFilesBelow (length (names_in t.files)) t.entries.items

-- ---- The effect of calls.

-- The new sections represent the slots of the old ones and one more.
abbrev pub AppendsSlot : Sections → Sections → Slot → Type 0
AppendsSlot old new x = (xs : List Slot) → RepresentsSlots xs old → RepresentsSlots (xs ++ x ∷ []) new
