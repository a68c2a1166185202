-- Equivalent contents make the same object.
use Rattle.std.proofs.Common.{◌≡◌, ◌∙◌, ℕ, suc, ◌+◌, Bool, List, [], ◌∷◌, ◌++◌, map, refl, sym, ap, append_assoc, append-nil, arith}
use Rattle.std.specs.Prelude.{filter_map, slice_get}
use Rattle.std.specs.List.{flat_map}
use Rattle.std.proofs.lemmas.Grind.{common_steps, flat_map-append}
use Rattle.object65.specs.declared.object.Fragment.{Fragment}
use Rattle.object65.specs.declared.object.Fragment.TheVariants.{Literal, Fill}
use Rattle.syntax65.specs.declared.source_location.SourceLocation.{SourceLocation}
use Rattle.object65.specs.declared.object.Object.{Object}
use Rattle.object65.specs.declared.object.Origin.{Origin}
use Rattle.semantics65.specs.Contents.{Content, Part, Known, ReservedBytes, Declaration, section_part}
use Rattle.semantics65.specs.declared.contents.Segment.{Segment}
use Rattle.semantics65.specs.Numbering.{merged_neighbours, all_declarations, assert_files, assert_of, content_imports, export_files, export_of, fragments_of, import_keys, origin_in_files, merged_fragments, name_of, distinct_names, distinct_keys, part_files, part_imports, parts_in, section_of, segment_name, segment_power}
use Rattle.emit65.specs.SectionContents.{AreEquivalentContents}

-- ---- Equivalence of contents is an equivalence relation.

pub alike_same : (cs : List Content) → AreEquivalentContents cs cs
alike_same cs = record { imports = λ names. refl; parts = λ at s i g before following. refl; files = λ g. refl; said = refl }

pub alike_trans : (cs ds es : List Content) → AreEquivalentContents cs ds → AreEquivalentContents ds es → AreEquivalentContents cs es
alike_trans cs ds es h k = record {
  imports = λ names. h.imports names ∙ k.imports names;
  parts = λ at s i g before following. h.parts at s i g before following ∙ k.parts at s i g before following;
  files = λ g. h.files g ∙ k.files g;
  said = h.said ∙ k.said;
}

pub alike_sym : (cs ds : List Content) → AreEquivalentContents cs ds → AreEquivalentContents ds cs
alike_sym cs ds h = record {
  imports = λ names. sym (h.imports names);
  parts = λ at s i g before following. sym (h.parts at s i g before following);
  files = λ g. sym (h.files g);
  said = sym h.said;
}

-- ---- Concatenation.

-- the parts in a segment, of two lists of contents
parts_more : (cs ds : List Content) (g : ℕ) → parts_in (cs ++ ds) g ≡ parts_in cs g ++ parts_in ds g
parts_more cs ds g = grind (arith, common_steps)

-- the files of the values in a segment
abbrev files_in : List Content → ℕ → List (List ℕ)
files_in cs g = flat_map part_files (parts_in cs g)

files_more : (cs ds : List Content) (g : ℕ) → files_in (cs ++ ds) g ≡ files_in cs g ++ files_in ds g
files_more cs ds g = ap (flat_map part_files) (parts_more cs ds g) ∙ flat_map-append part_files (parts_in cs g) (parts_in ds g)

module _ (at : SourceLocation → Origin) (s i : List ℕ) where
  -- the fragments of contents in a segment
  abbrev pub placed : List Content → ℕ → List Fragment
  placed cs g = fragments_of at s i (parts_in cs g)

  fragments_more : (ps qs : List Part) → fragments_of at s i (ps ++ qs) ≡ fragments_of at s i ps ++ fragments_of at s i qs
  fragments_more ps qs = grind (arith, common_steps)

  pub placed_more : (cs ds : List Content) (g : ℕ) → placed (cs ++ ds) g ≡ placed cs g ++ placed ds g
  placed_more cs ds g = ap (fragments_of at s i) (parts_more cs ds g) ∙ fragments_more (parts_in cs g) (parts_in ds g)

pub alike_front : (cs ds es : List Content) → AreEquivalentContents cs ds → AreEquivalentContents (cs ++ es) (ds ++ es)
alike_front cs ds es h = record {
  imports = λ names.
      flat_map-append (content_imports names) cs es
      ∙ ap (λ ks. ks ++ flat_map (content_imports names) es) (h.imports names)
      ∙ sym (flat_map-append (content_imports names) ds es);
  parts = λ at s i g before following.
      split at s i g before following cs ∙ h.parts at s i g before (placed at s i es g ++ following) ∙ sym (split at s i g before following ds);
  files = λ g. files_more cs es g ∙ ap (λ fs. fs ++ files_in es g) (h.files g) ∙ sym (files_more ds es g);
  said =
      flat_map-append (λ (c : Content). c.said) cs es ∙ ap (λ ss. ss ++ all_declarations es) h.said
      ∙ sym (flat_map-append (λ (c : Content). c.said) ds es);
}
  where
    split : (at : SourceLocation → Origin) (s i : List ℕ) (g : ℕ) (before following : List Fragment) (xs : List Content) → merged_neighbours (before ++ (placed at s i (xs ++ es) g ++ following)) ≡ merged_neighbours (before ++ (placed at s i xs g ++ (placed at s i es g ++ following)))
    split at s i g before following xs =
        ap (λ fs. merged_neighbours (before ++ (fs ++ following))) (placed_more at s i xs es g)
        ∙ ap (λ fs. merged_neighbours (before ++ fs)) (append_assoc (placed at s i xs g) (placed at s i es g) following)

pub alike_back : (es cs ds : List Content) → AreEquivalentContents cs ds → AreEquivalentContents (es ++ cs) (es ++ ds)
alike_back es cs ds h = record {
  imports = λ names.
      flat_map-append (content_imports names) es cs
      ∙ ap (λ ks. flat_map (content_imports names) es ++ ks) (h.imports names)
      ∙ sym (flat_map-append (content_imports names) es ds);
  parts = λ at s i g before following.
      split at s i g before following cs ∙ h.parts at s i g (before ++ placed at s i es g) following ∙ sym (split at s i g before following ds);
  files = λ g. files_more es cs g ∙ ap (λ fs. files_in es g ++ fs) (h.files g) ∙ sym (files_more es ds g);
  said =
      flat_map-append (λ (c : Content). c.said) es cs ∙ ap (λ ss. all_declarations es ++ ss) h.said
      ∙ sym (flat_map-append (λ (c : Content). c.said) es ds);
}
  where
    split : (at : SourceLocation → Origin) (s i : List ℕ) (g : ℕ) (before following : List Fragment) (xs : List Content) → merged_neighbours (before ++ (placed at s i (es ++ xs) g ++ following)) ≡ merged_neighbours ((before ++ placed at s i es g) ++ (placed at s i xs g ++ following))
    split at s i g before following xs =
        ap (λ fs. merged_neighbours (before ++ (fs ++ following))) (placed_more at s i es xs g)
        ∙ ap (λ fs. merged_neighbours (before ++ fs)) (append_assoc (placed at s i es g) (placed at s i xs g) following)
        ∙ ap merged_neighbours (sym (append_assoc before (placed at s i es g) (placed at s i xs g ++ following)))

-- appending contents that are equivalent to none changes nothing
pub alike_nothing : (cs es : List Content) → AreEquivalentContents es [] → AreEquivalentContents (cs ++ es) cs
alike_nothing cs es h = alike_trans (cs ++ es) (cs ++ []) cs (alike_back cs es [] h) (rw (append-nil cs) (alike_same cs))

-- ---- Merged neighbours.

literals_join : (f : Fragment) (before following : List Fragment) (a b : List ℕ) → merged_fragments f (before ++ (Literal a ∷ Literal b ∷ following)) ≡ merged_fragments f (before ++ (Literal (a ++ b) ∷ following))
literals_join x [] following a b = grind (arith, common_steps, append_assoc)
literals_join x (y ∷ before) following a b =
    let again : (f : Fragment) → merged_fragments f (before ++ (Literal a ∷ Literal b ∷ following)) ≡ merged_fragments f (before ++ (Literal (a ++ b) ∷ following)) = λ f. literals_join f before following a b in
    grind (arith, common_steps, again)

all_literals_join : (before following : List Fragment) (a b : List ℕ) → merged_neighbours (before ++ (Literal a ∷ Literal b ∷ following)) ≡ merged_neighbours (before ++ (Literal (a ++ b) ∷ following))
all_literals_join [] following a b = refl
all_literals_join (f ∷ before) following a b = literals_join f before following a b

fills_join : (f : Fragment) (before following : List Fragment) (a b : ℕ) → merged_fragments f (before ++ (Fill a ∷ Fill b ∷ following)) ≡ merged_fragments f (before ++ (Fill (a + b) ∷ following))
fills_join x [] following a b = grind (arith, common_steps)
fills_join x (y ∷ before) following a b =
    let again : (f : Fragment) → merged_fragments f (before ++ (Fill a ∷ Fill b ∷ following)) ≡ merged_fragments f (before ++ (Fill (a + b) ∷ following)) = λ f. fills_join f before following a b in
    grind (arith, common_steps, again)

all_fills_join : (before following : List Fragment) (a b : ℕ) → merged_neighbours (before ++ (Fill a ∷ Fill b ∷ following)) ≡ merged_neighbours (before ++ (Fill (a + b) ∷ following))
all_fills_join [] following a b = refl
all_fills_join (f ∷ before) following a b = fills_join f before following a b

-- two parts without imports and files are equivalent to one, if their merged fragments are the same
unnamed_alike : (g : ℕ) (p q r : Part) → part_imports p ≡ [] → part_imports q ≡ [] → part_imports r ≡ [] → part_files p ≡ [] → part_files q ≡ [] → part_files r ≡ [] → ((at : SourceLocation → Origin) (s i : List ℕ) (before following : List Fragment) → merged_neighbours (before ++ (fragments_of at s i (p ∷ q ∷ []) ++ following)) ≡ merged_neighbours (before ++ (fragments_of at s i (r ∷ []) ++ following))) → AreEquivalentContents (section_part g p ∷ section_part g q ∷ []) (section_part g r ∷ [])
unnamed_alike g p q r no_p no_q no_r none_p none_q none_r same = grind (arith, common_steps)

pub bytes_alike : (g : ℕ) (a b : List ℕ) → AreEquivalentContents (section_part g (Known a) ∷ section_part g (Known b) ∷ []) (section_part g (Known (a ++ b)) ∷ [])
bytes_alike g a b = grind (arith, common_steps, unnamed_alike, append-nil, all_literals_join)

room_is : (at : SourceLocation → Origin) (s i : List ℕ) (before following : List Fragment) (k j : ℕ) → k ≡ suc j → merged_neighbours (before ++ (Fill k ∷ following)) ≡ merged_neighbours (before ++ (fragments_of at s i (ReservedBytes k ∷ []) ++ following))
room_is at s i before following k j e = rw e refl

pub room_alike : (g m n : ℕ) → AreEquivalentContents (section_part g (ReservedBytes m) ∷ section_part g (ReservedBytes n) ∷ []) (section_part g (ReservedBytes (m + n)) ∷ [])
room_alike g m n = grind (arith, common_steps, unnamed_alike, all_fills_join, room_is)

-- ---- Contents that are equivalent to none.

-- a content without parts and declarations
pub empty_alike : (g : ℕ) (asks : Bool) → AreEquivalentContents (record { segment = g; requests_section = asks; parts = []; said = [] } ∷ []) []
empty_alike g asks = grind (arith, common_steps)

-- a part without bytes
empty_part : (g : ℕ) (p : Part) → part_imports p ≡ [] → part_files p ≡ [] → ((at : SourceLocation → Origin) (s i : List ℕ) → fragments_of at s i (p ∷ []) ≡ []) → AreEquivalentContents (section_part g p ∷ []) []
empty_part g p no_imports no_files nothing = grind (arith, common_steps)

pub no_bytes_alike : (g : ℕ) → AreEquivalentContents (section_part g (Known []) ∷ []) []
no_bytes_alike g = empty_part g (Known []) refl refl (λ at s i. refl)

pub no_room_alike : (g : ℕ) → AreEquivalentContents (section_part g (ReservedBytes 0) ∷ []) []
no_room_alike g = empty_part g (ReservedBytes 0) refl refl (λ at s i. refl)

-- ---- The same object.

-- the files that contents use, with sections of these segments
abbrev pub files_named_by : List ℕ → List Content → List (List ℕ)
files_named_by sections cs = flat_map (λ g. flat_map part_files (parts_in cs g)) sections
    ++ flat_map export_files (all_declarations cs) ++ flat_map assert_files (all_declarations cs)

abbrev pub files_by : List ℕ → List Content → List (List ℕ)
files_by sections cs = distinct_names [] (files_named_by sections cs)

-- the object of contents with sections of these segments
abbrev pub object_over : List Segment → List (List ℕ) → List ℕ → List Content → Object
object_over segments names sections cs =
    let files : List (List ℕ) = files_by sections cs in
    let imports : List ℕ = import_keys names cs in
    record {
      version = 2;
      files = files;
      imports = map (name_of names) imports;
      sections = map (section_of (origin_in_files files) segments sections imports cs) sections;
      exports = filter_map (export_of (origin_in_files files) sections imports) (all_declarations cs);
      asserts = filter_map (assert_of (origin_in_files files) sections imports) (all_declarations cs);
    }

pub same_object : (segments : List Segment) (names : List (List ℕ)) (s : List ℕ) (cs ds : List Content) → AreEquivalentContents cs ds → object_over segments names s cs ≡ object_over segments names s ds
same_object segments names s cs ds h = λ n. made (numbers n) (files n) (λ g. fragments (origin_in_files (files n)) (numbers n) g n) (h.said n)
  where
    numbers : import_keys names cs ≡ import_keys names ds
    numbers = ap (distinct_keys []) (h.imports names)

    sections_files : (keys : List ℕ) → flat_map (files_in cs) keys ≡ flat_map (files_in ds) keys
    sections_files [] = refl
    sections_files (g ∷ keys) = λ n. h.files g n ++ sections_files keys n

    files : files_by s cs ≡ files_by s ds
    files = λ n. distinct_names [] (sections_files s n ++ flat_map export_files (h.said n) ++ flat_map assert_files (h.said n))

    fragments : (at : SourceLocation → Origin) (i : List ℕ) (g : ℕ) → merged_neighbours (placed at s i cs g) ≡ merged_neighbours (placed at s i ds g)
    fragments at i g =
        ap merged_neighbours (sym (append-nil (placed at s i cs g))) ∙ h.parts at s i g [] [] ∙ ap merged_neighbours (append-nil (placed at s i ds g))

    made : List ℕ → List (List ℕ) → (ℕ → List Fragment) → List Declaration → Object
    made i files fragments ss = record {
      version = 2;
      files = files;
      imports = map (name_of names) i;
      sections = map (λ g. record { name = segment_name (slice_get segments g); align = segment_power (slice_get segments g); fragments = fragments g }) s;
      exports = filter_map (export_of (origin_in_files files) s i) ss;
      asserts = filter_map (assert_of (origin_in_files files) s i) ss;
    }
