-- The object that is built from numbered entries is the object of the appended contents.
use Rattle.std.proofs.lemmas.Grind.{common_steps}
use Rattle.std.proofs.Common.{◌≡◌, ◌∙◌, ℕ, ◌<◌, true, nat_lt, List, [], ◌∷◌, ◌++◌, length, map, not, refl, sym, ap, arith, subst}
use Rattle.std.specs.Prelude.{filter_map, slice_get}
use Rattle.std.specs.List.{AllByRecursion, IsDistinct, filter, flat_map, list_all}
use Rattle.std.specs.Str.{bytes_eq}
use Rattle.std.proofs.lemmas.Bool.Decides.{nat_tests}
use Rattle.syntax65.specs.declared.source_location.SourceLocation.{SourceLocation}
use Rattle.object65.specs.declared.object.Fragment.{Fragment}
use Rattle.object65.specs.declared.object.Assert.{Assert}
use Rattle.object65.specs.declared.object.Export.{Export}
use Rattle.object65.specs.declared.object.Object.{Object}
use Rattle.object65.specs.declared.object.Origin.{Origin}
use Rattle.object65.specs.declared.object.Section.{Section}
use Rattle.semantics65.specs.Contents.{Content, Declaration, ReservedBytes, Known, Part, LinkTimeValue}
use Rattle.semantics65.specs.declared.contents.Declaration as telled
use Rattle.semantics65.specs.declared.contents.Segment.{Segment}
use Rattle.semantics65.specs.Module.{resolved}
use Rattle.semantics65.specs.Numbering.{merged_neighbours, all_declarations, assert_files, assert_of, export_files, export_of, fragments_of, import_keys, origin_in_files, is_empty, name_of, distinct_names, object_with, distinct_keys, part_files, parts_in, section_keys, segment_name, segment_power}
use Rattle.semantics65.specs.Numbering as numbering
use Rattle.semantics65.specs.Views.{declaration_at}
use Rattle.emit65.specs.declared.entries.SectionEntry.{SectionEntry}
use Rattle.emit65.specs.declared.entries.SectionEntry.TheVariants.{Bytes, Reserve, Value}
use Rattle.emit65.specs.declared.entries.SourcePos.{SourcePos}
use Rattle.emit65.specs.declared.numbering.Numbered.{Numbered}
use Rattle.emit65.specs.declared.entries.LocatedDeclaration.{LocatedDeclaration}
use Rattle.emit65.specs.declared.numbering.keys.Numbers.{Numbers}
use Rattle.emit65.specs.declared.sections.ClosedSections.{ClosedSections}
use Rattle.emit65.specs.SectionContents.{AreEquivalentContents, HasSlots, HaveFilesBelow, content_of, contents_so_far, names_in, location_of_pos, has_file_below}
use Rattle.emit65.specs.Internal.Drafts.{assert_by, assert_keys, assert_file, draft_keys, draft_of, export_by, export_keys, export_file, fragment_of, object_of, origin_of, entries_in, declarations_of, section_of, value_keys, IsNumbered}
use Rattle.emit65.proofs.EquivalentContents.{files_by, files_named_by, object_over, same_object}
use Rattle.emit65.proofs.GrownSlots.{contents_of_slots}
use Rattle.emit65.proofs.Keys.{imports_anyhow}
use Rattle.emit65.proofs.Naming.{AreBelow, IsNaming, found_by, naming_more, naming_none, naming_one, once_named}
use Rattle.object65.proofs.SmallParts.{left, right}
use Rattle.emit65.proofs.Renumbering.{once_all}
use Rattle.emit65.proofs.Slots.{held_contents}

module _ (files : List (List ℕ)) (apart : IsDistinct bytes_eq files) where
  abbrev contents : List SectionEntry → List Content
  contents es = map (content_of files) es

  -- ---- The parts and declarations of entries.

  abbrev part_of : SectionEntry → Part
  part_of (Bytes g bytes) = Known bytes
  part_of (Reserve g n) = ReservedBytes n
  part_of (Value width g o f) = LinkTimeValue width (location_of_pos files o) f
  part_of _ = Known []

  parts_are : (g : ℕ) (es : List SectionEntry) → parts_in (contents es) g ≡ map part_of (entries_in g es)
  parts_are g [] = refl
  parts_are g (x ∷ es) = grind (arith, common_steps, (parts_are g es))

  abbrev saying_of : LocatedDeclaration → Declaration
  saying_of t = declaration_at (location_of_pos files t.pos) t.said

  said_are : (es : List SectionEntry) → all_declarations (contents es) ≡ map saying_of (flat_map declarations_of es)
  said_are [] = refl
  said_are (x ∷ es) = grind (arith, common_steps, (said_are es))

  -- ---- Entries and declarations with valid file indices.

  abbrev Stand : List SectionEntry → Type 0
  Stand es = HaveFilesBelow (length files) es

  abbrev AreTold : List LocatedDeclaration → Type 0
  AreTold ts = AllByRecursion (λ t. t.pos.file < length files) ts

  first : (e : SectionEntry) (es : List SectionEntry) → Stand (e ∷ es) → has_file_below (length files) e ≡ true
  first e es h = left (has_file_below (length files) e) (list_all (has_file_below (length files)) es) h

  others : (e : SectionEntry) (es : List SectionEntry) → Stand (e ∷ es) → Stand es
  others e es h = right (has_file_below (length files) e) (list_all (has_file_below (length files)) es) h

  below_files : (k : ℕ) → nat_lt k (length files) ≡ true → k < length files
  below_files k h = grind (arith, nat_tests)

  put_stand : (g : ℕ) (es : List SectionEntry) → Stand es → Stand (entries_in g es)
  put_stand g [] h = refl
  put_stand g (e ∷ es) h = grind (arith, common_steps, (put_stand g es (others e es h)), first)

  told_stand : (es : List SectionEntry) → Stand es → AreTold (flat_map declarations_of es)
  told_stand [] h = tt
  told_stand (x ∷ es) h = grind (arith, common_steps, (told_stand es (others x es h)), first, below_files)

  -- ---- The files that entries use.

  abbrev Names : List ℕ → List (List ℕ) → Type 0
  Names ks ns = IsNaming files apart ks ns

  value_named : (e : SectionEntry) → has_file_below (length files) e ≡ true → Names (value_keys e) (part_files (part_of e))
  value_named x h = grind (arith, common_steps, naming_none, naming_one, below_files)

  values_named : (es : List SectionEntry) → Stand es → Names (flat_map value_keys es) (flat_map part_files (map part_of es))
  values_named [] h = naming_none files apart
  values_named (e ∷ es) h =
      naming_more files apart (value_keys e) (flat_map value_keys es) (part_files (part_of e)) (flat_map part_files (map part_of es))
      (value_named e (first e es h)) (values_named es (others e es h))

  drafts_named : (es : List SectionEntry) (keys : List ℕ) → Stand es → Names (flat_map draft_keys (map (draft_of es) keys)) (flat_map (λ g. flat_map part_files (parts_in (contents es) g)) keys)
  drafts_named es [] h = naming_none files apart
  drafts_named es (g ∷ keys) h =
      naming_more files apart (flat_map value_keys (entries_in g es)) (flat_map draft_keys (map (draft_of es) keys)) (flat_map part_files (parts_in (contents es) g)) (flat_map (λ g. flat_map part_files (parts_in (contents es) g)) keys)
      (subst (λ (ps : List Part). Names (flat_map value_keys (entries_in g es)) (flat_map part_files ps)) (sym (parts_are g es)) (values_named (entries_in g es) (put_stand g es h)))
      (drafts_named es keys h)

  -- the keys of all declarations refer to their files, if those of each declaration do
  each_named :
      (keys : LocatedDeclaration → List ℕ) (names : Declaration → List (List ℕ)) →
      ((t : LocatedDeclaration) → t.pos.file < length files → Names (keys t) (names (saying_of t))) →
      (ts : List LocatedDeclaration) → AreTold ts → Names (flat_map keys ts) (flat_map names (map saying_of ts))
  each_named keys names one [] h = naming_none files apart
  each_named keys names one (t ∷ ts) h =
      naming_more files apart (keys t) (flat_map keys ts) (names (saying_of t)) (flat_map names (map saying_of ts))
      (one t h.0) (each_named keys names one ts h.1)

  export_named : (o : SourcePos) (s : telled.Declaration) → o.file < length files → Names (export_file o s) (export_files (declaration_at (location_of_pos files o) s))
  export_named o x lt = grind (arith, common_steps, naming_none, naming_one)

  exports_named : (ts : List LocatedDeclaration) → AreTold ts → Names (flat_map export_keys ts) (flat_map export_files (map saying_of ts))
  exports_named ts h = each_named export_keys export_files (λ t lt. export_named t.pos t.said lt) ts h

  assert_named : (o : SourcePos) (s : telled.Declaration) → o.file < length files → Names (assert_file o s) (assert_files (declaration_at (location_of_pos files o) s))
  assert_named o x lt = grind (arith, common_steps, naming_none, naming_one)

  asserts_named : (ts : List LocatedDeclaration) → AreTold ts → Names (flat_map assert_keys ts) (flat_map assert_files (map saying_of ts))
  asserts_named ts h = each_named assert_keys assert_files (λ t lt. assert_named t.pos t.said lt) ts h

  abbrev keys_named : List ℕ → List SectionEntry → List ℕ
  keys_named keys es = flat_map draft_keys (map (draft_of es) keys) ++ flat_map export_keys (flat_map declarations_of es) ++ flat_map assert_keys (flat_map declarations_of es)

  all_named : (keys : List ℕ) (es : List SectionEntry) → Stand es → Names (keys_named keys es) (files_named_by keys (contents es))
  all_named keys es h =
      let ts = flat_map declarations_of es in
      let values = flat_map (λ g. flat_map part_files (parts_in (contents es) g)) keys in
      subst (λ (ss : List Declaration). Names (keys_named keys es) (values ++ flat_map export_files ss ++ flat_map assert_files ss)) (sym (said_are es))
      (naming_more files apart (flat_map draft_keys (map (draft_of es) keys) ++ flat_map export_keys ts) (flat_map assert_keys ts) (values ++ flat_map export_files (map saying_of ts)) (flat_map assert_files (map saying_of ts))
      (naming_more files apart (flat_map draft_keys (map (draft_of es) keys)) (flat_map export_keys ts) values (flat_map export_files (map saying_of ts)) (drafts_named es keys h) (exports_named ts (told_stand es h)))
      (asserts_named ts (told_stand es h)))

  -- ---- Sections, exports and assertions by these numbers.

  module _ (n : Numbers) (below : AreBelow files apart n.files.keys) where
    abbrev to : SourceLocation → Origin
    to = origin_in_files (map (name_of files) n.files.keys)

    abbrev s : List ℕ
    s = n.sections.keys

    abbrev i : List ℕ
    i = n.imports.keys

    origin_is : (o : SourcePos) → o.file < length files → origin_of n o ≡ to (location_of_pos files o)
    origin_is o lt = λ j. record { file = sym (found_by files apart o.file n.files.keys lt below) j; line = o.line }

    fragment_is : (e : SectionEntry) → has_file_below (length files) e ≡ true → fragment_of n e ≡ numbering.fragment_of to s i (part_of e)
    fragment_is x h = grind (arith, common_steps, origin_is, below_files)

    fragments_are : (es : List SectionEntry) → Stand es → map (fragment_of n) es ≡ map (numbering.fragment_of to s i) (map part_of es)
    fragments_are [] h = refl
    fragments_are (e ∷ es) h = λ j. fragment_is e (first e es h) j ∷ fragments_are es (others e es h) j

    abbrev kept : List Fragment → List Fragment
    kept fs = filter (λ f. not (is_empty f)) fs

    sections_are : (segments : List Segment) (es : List SectionEntry) (keys : List ℕ) → Stand es → map (section_of segments n) (map (draft_of es) keys) ≡ map (numbering.section_of to segments s i (contents es)) keys
    sections_are segments es [] h = refl
    sections_are segments es (g ∷ keys) h =
        let made : kept (map (fragment_of n) (entries_in g es)) ≡ fragments_of to s i (parts_in (contents es) g) =
        ap kept (fragments_are (entries_in g es) (put_stand g es h)) ∙ ap (fragments_of to s i) (sym (parts_are g es)) in
        λ j. record { name = segment_name (slice_get segments g); align = segment_power (slice_get segments g); fragments = merged_neighbours (made j) } ∷ sections_are segments es keys h j

    export_is : (o : SourcePos) (x : telled.Declaration) → o.file < length files → export_by n (record { pos = o; said = x }) ≡ export_of to s i (declaration_at (location_of_pos files o) x)
    export_is o x lt = grind (arith, common_steps, origin_is)

    exports_are : (ts : List LocatedDeclaration) → AreTold ts → filter_map (export_by n) ts ≡ filter_map (export_of to s i) (map saying_of ts)
    exports_are [] h = refl
    exports_are (t ∷ ts) h = grind (arith, common_steps, (export_is t.pos t.said h.0), (exports_are ts h.1))

    assert_is : (o : SourcePos) (x : telled.Declaration) → o.file < length files → assert_by n (record { pos = o; said = x }) ≡ assert_of to s i (declaration_at (location_of_pos files o) x)
    assert_is o x lt = grind (arith, common_steps, origin_is)

    asserts_are : (ts : List LocatedDeclaration) → AreTold ts → filter_map (assert_by n) ts ≡ filter_map (assert_of to s i) (map saying_of ts)
    asserts_are [] h = refl
    asserts_are (t ∷ ts) h = grind (arith, common_steps, (assert_is t.pos t.said h.0), (asserts_are ts h.1))

  -- the object of entries is that of their contents
  entries_made : (segments : List Segment) (names : List (List ℕ)) (s : List ℕ) (es : List SectionEntry) (t : Numbered) → Stand es → IsNumbered names s es t → object_of segments names files t ≡ object_over segments names t.numbers.sections.keys (contents es)
  entries_made segments names s es t h is =
      (λ j. made (map (name_of files) n.files.keys) (sections j) (exports j) (asserts j)) ∙ (λ j. over (numbers j) (listed j))
    where
      n : Numbers
      n = t.numbers

      keys : List ℕ
      keys = n.sections.keys

      order : n.files.keys ≡ distinct_keys [] (keys_named keys es)
      order = is.files ∙ ap (λ ks. distinct_keys [] (keys_named ks es)) (sym is.sections)

      naming : IsNaming files apart (keys_named keys es) (files_named_by keys (contents es))
      naming = all_named keys es h

      listed : map (name_of files) n.files.keys ≡ files_by keys (contents es)
      listed = ap (map (name_of files)) order ∙ sym (once_named files apart [] (keys_named keys es) tt naming.below) ∙ ap (distinct_names []) naming.names

      below : AreBelow files apart n.files.keys
      below = subst (AreBelow files apart) (sym order) (once_all (λ k. k < length files) [] (keys_named keys es) tt naming.below)

      numbers : n.imports.keys ≡ import_keys names (contents es)
      numbers = is.imports ∙ ap (distinct_keys []) (imports_anyhow names [] files es)

      sections : map (section_of segments n) t.by_section.drafts.items ≡ map (numbering.section_of (to n below) segments keys n.imports.keys (contents es)) keys
      sections = ap (map (section_of segments n)) (is.drafts ∙ ap (map (draft_of es)) (sym is.sections)) ∙ sections_are n below segments es keys h

      exports : filter_map (export_by n) t.by_section.declarations ≡ filter_map (export_of (to n below) keys n.imports.keys) (all_declarations (contents es))
      exports = ap (filter_map (export_by n)) is.declarations ∙ exports_are n below (flat_map declarations_of es) (told_stand es h) ∙ ap (filter_map (export_of (to n below) keys n.imports.keys)) (sym (said_are es))

      asserts : filter_map (assert_by n) t.by_section.declarations ≡ filter_map (assert_of (to n below) keys n.imports.keys) (all_declarations (contents es))
      asserts = ap (filter_map (assert_by n)) is.declarations ∙ asserts_are n below (flat_map declarations_of es) (told_stand es h) ∙ ap (filter_map (assert_of (to n below) keys n.imports.keys)) (sym (said_are es))

      made : List (List ℕ) → List Section → List Export → List Assert → Object
      made fs ss xs ts = record { version = 2; files = fs; imports = map (name_of names) n.imports.keys; sections = ss; exports = xs; asserts = ts }

      over : List ℕ → List (List ℕ) → Object
      over j fs = record {
        version = 2;
        files = fs;
        imports = map (name_of names) j;
        sections = map (numbering.section_of (origin_in_files fs) segments keys j (contents es)) keys;
        exports = filter_map (export_of (origin_in_files fs) keys j) (all_declarations (contents es));
        asserts = filter_map (assert_of (origin_in_files fs) keys j) (all_declarations (contents es));
      }

-- ---- The object of the appended contents.

-- the appended contents are equivalent to those of the entries
contents_fed : (cs : List Content) (t : ClosedSections) → HasSlots (map resolved cs) t → AreEquivalentContents cs (map (content_of (names_in t.files)) t.entries.items)
contents_fed cs t h =
    let files = names_in t.files in
    let es = t.entries.items in
    subst (λ (ds : List Content). AreEquivalentContents ds (map (content_of files) es)) (held_contents cs)
    (subst (λ (ds : List Content). AreEquivalentContents (contents_so_far (map resolved cs)) ds) (contents_of_slots files es) h.equivalent.held)

-- the object of all entries is that of the appended contents
pub finished : (segments : List Segment) (names : List (List ℕ)) (c : ClosedSections) (t : Numbered) (cs : List Content) → IsDistinct bytes_eq (names_in c.files) → IsNumbered names c.requested.keys c.entries.items t → HasSlots (map resolved cs) c → object_of segments names (names_in c.files) t ≡ object_with segments names cs
finished segments names c t cs apart is h =
    let files = names_in c.files in
    let es = c.entries.items in
    let keys : t.numbers.sections.keys ≡ section_keys cs = is.sections ∙ sym h.requested ∙ ap section_keys (held_contents cs) in
    entries_made files apart segments names c.requested.keys es t h.standing is
    ∙ sym (same_object segments names t.numbers.sections.keys cs (map (content_of files) es) (contents_fed cs c h))
    ∙ ap (λ ks. object_over segments names ks cs) keys
