-- The contents of a source's object, and the effect of its sections on a segment.
use Rattle.std.proofs.lemmas.Grind.{common_steps}
use Rattle.std.proofs.Common.{◌≡◌, ℕ, suc, ◌+◌, ◌<◌, Bool, true, false, nat_eq, cond, List, [], ◌∷◌, ◌++◌, length, map, filter, take, slice_get, Some, Result, Ok, refl, sym, ◌∙◌, ap, arith, inl, inr, Option, None}
use Rattle.std.specs.Prelude.{not, sum_by}
use Rattle.std.specs.List.{list_any}
use Rattle.std.proofs.lemmas.List.Sums.{sum_by-cons}
use Rattle.object65.specs.Objects.{fragment_len, section_len}
use Rattle.object65.specs.declared.object.Fragment.{Fragment}
use Rattle.object65.specs.declared.object.Fragment.TheVariants.{Literal, Fill, Value}
use Rattle.object65.specs.declared.object.Origin.{Origin}
use Rattle.syntax65.specs.declared.source_location.SourceLocation.{SourceLocation}
use Rattle.semantics65.specs.Contents.{Content, Part, exported_names}
use Rattle.semantics65.specs.Symbols.{LaidOutStatement, Symbols, symbols_of}
use Rattle.semantics65.specs.Layout.{Layout}
use Rattle.semantics65.specs.Numbering.{merged_neighbours, all_declarations, fragment_of, fragments_of, is_empty, merged_fragments, parts_in, files_of, import_keys, origin_in_files, object_by, object_with, section_keys, section_of, IsMeasured, IsWellFormedLayout, part_len}
use Rattle.sources65.proofs.SoundParts.{slots_long}
use Rattle.semantics65.specs.Module.{module_resolution, LocatedFault}
use Rattle.whole65.proofs.SameValues.{bind_ok}
use Rattle.whole65.proofs.Offsets.{EndsAt, all_end, placed}
use Rattle.whole65.proofs.Statements.{AreStated, a_line, are_stated, no_line}
use Rattle.whole65.specs.Modules.{table_of}
use Rattle.whole65.specs.Offsets.{statements_with_segment, HasNoLineErrors, IsMultiple}
use Rattle.whole65.specs.Segments.{ModuleStatement, end_of, statement_item, module_statements_after, has_section, segment_items_from, largest_multiple, statements_in_segment, module_items, rounding, segment_name_at, segment_items}
use Rattle.std.specs.Int.{next_multiple_of}
use Rattle.std.specs.Option.{option_map_or}
use Rattle.object65.specs.Versions.{IsEitherVersion, version_one_object, line_origin}
use Rattle.object65.specs.declared.object.Object.{Object}
use Rattle.script65.specs.Placing.{rounded_up}
use Rattle.link65.specs.Programs.{Module, segment_with_section, segment_of}
use Rattle.whole65.proofs.Positions.{alignment_law, named, by_number, powers_at}
use Rattle.whole65.proofs.Sections.{segment_law, AreKeys, keys_of, its_section, none_there, one_there}
use Rattle.whole65.proofs.Multiples.{power_positive, rounded, rounding_law, end_of-append, largest_power, shift_law}
use Rattle.whole65.proofs.Versions.{by_lines}
use Rattle.whole65.proofs.LinkedObjects.{after_modules, after_sections, or_empty}
use Rattle.whole65.specs.Sources.{AreObjectsOfLayouts, IsObjectOfLayout}
use Rattle.link65.specs.Programs as linked

-- ---- Fragments.

zero_more : (n : ℕ) → n + 0 ≡ n
zero_more n = omega arith

joined_long : (f : Fragment) (fs : List Fragment) → sum_by fragment_len (merged_fragments f fs) ≡ fragment_len f + sum_by fragment_len fs
joined_long f [] = sum_by-cons fragment_len f []
joined_long (Literal a) (Literal b ∷ fs) = grind (arith, common_steps, (joined_long (Literal (a ++ b)) fs))
joined_long (Fill m) (Fill n ∷ fs) = grind (arith, common_steps, (joined_long (Fill (m + n)) fs))
joined_long (Literal a) (Fill n ∷ fs) = grind (arith, common_steps, (joined_long (Fill n) fs), sum_by-cons)
joined_long (Literal a) (Value w n g ∷ fs) = sum_by-cons fragment_len (Literal a) (merged_fragments (Value w n g) fs) ∙ ap (λ n. length a + n) (joined_long (Value w n g) fs ∙ sym (sum_by-cons fragment_len (Value w n g) fs))
joined_long (Fill m) (Literal b ∷ fs) = sum_by-cons fragment_len (Fill m) (merged_fragments (Literal b) fs) ∙ ap (λ n. m + n) (joined_long (Literal b) fs ∙ sym (sum_by-cons fragment_len (Literal b) fs))
joined_long (Fill m) (Value w n g ∷ fs) = sum_by-cons fragment_len (Fill m) (merged_fragments (Value w n g) fs) ∙ ap (λ n. m + n) (joined_long (Value w n g) fs ∙ sym (sum_by-cons fragment_len (Value w n g) fs))
joined_long (Value w n f) (g ∷ fs) = sum_by-cons fragment_len (Value w n f) (merged_fragments g fs) ∙ ap (λ k. fragment_len (Value w n f) + k) (joined_long g fs ∙ sym (sum_by-cons fragment_len g fs))

all_long : (fs : List Fragment) → sum_by fragment_len (merged_neighbours fs) ≡ sum_by fragment_len fs
all_long x = grind (arith, common_steps, joined_long, sum_by-cons)

empty_long : (f : Fragment) → is_empty f ≡ true → fragment_len f ≡ 0
empty_long x e = grind (arith, common_steps)

kept_long : (fs : List Fragment) → sum_by fragment_len (filter (λ f. not (is_empty f)) fs) ≡ sum_by fragment_len fs
kept_long [] = refl
kept_long (f ∷ fs) = grind (arith, common_steps, (kept_long fs), sum_by-cons, empty_long)

part_long : (origins : SourceLocation → Origin) (ss is : List ℕ) (p : Part) → fragment_len (fragment_of origins ss is p) ≡ part_len p
part_long origins ss is x = grind (arith, common_steps)

parts_long : (origins : SourceLocation → Origin) (ss is : List ℕ) (ps : List Part) → sum_by fragment_len (map (fragment_of origins ss is) ps) ≡ sum_by part_len ps
parts_long origins ss is [] = refl
parts_long origins ss is (p ∷ ps) = grind (arith, common_steps, (parts_long origins ss is ps), sum_by-cons, part_long)

pub joined_parts_long : (origins : SourceLocation → Origin) (ss is : List ℕ) (ps : List Part) → sum_by fragment_len (merged_neighbours (fragments_of origins ss is ps)) ≡ sum_by part_len ps
joined_parts_long origins ss is ps = all_long (fragments_of origins ss is ps) ∙ kept_long (map (fragment_of origins ss is) ps) ∙ parts_long origins ss is ps

-- ---- Statements.

-- each statement has the length that was measured for it
abbrev AreMeasured : List LaidOutStatement → Type 0
AreMeasured ls = (i : ℕ) (l : LaidOutStatement) → slice_get ls i ≡ Some l → (before : Symbols) × IsMeasured before l

module _ (z : Symbols) (owner g : ℕ) where
  abbrev here : List LaidOutStatement → List LaidOutStatement → List ModuleStatement
  here before ls = statements_with_segment g (module_statements_after owner before ls)

  lines_long : (before ls : List LaidOutStatement) (names : List (List ℕ)) (cs : List Content) (position : ℕ) → EndsAt position (here before ls) → AreMeasured ls → AreStated z names ls cs → end_of position (map statement_item (here before ls)) ≡ position + sum_by part_len (parts_in cs g)
  lines_long before [] names _ position ends measured no_line = sym (zero_more position)
  lines_long before (l ∷ ls) names _ position ends measured (a_line ds cs found more) =
      let one = measured 0 l refl in
      let own : sum_by part_len (parts_in ds g) ≡ cond (nat_eq l.context.segment g) l.length 0 = slots_long z names one.0 l g ds one.1 found in
      grind (arith, common_steps, (λ (n : ℕ) (ends : EndsAt n (here (before ++ l ∷ []) ls)). lines_long (before ++ l ∷ []) ls (names ++ exported_names (all_declarations ds)) cs n ends (λ i x e. measured (suc i) x e) more))

-- the section is as long as the module's statements in the segment
pub length_law : (y : Layout) (owner g : ℕ) (cs : List Content) (origins : SourceLocation → Origin) (sections imports : List ℕ) → HasNoLineErrors y → IsWellFormedLayout y → (module_resolution y.laid).found ≡ Ok cs → section_len (section_of origins y.cursor.segments sections imports cs g) ≡ end_of 0 (map statement_item (statements_with_segment g (module_statements_after owner [] y.laid)))
length_law y owner g cs origins sections imports d s e =
    let parts = joined_parts_long origins sections imports (parts_in cs g) in
    let lines = lines_long (table_of y) owner g [] y.laid [] cs 0 (all_end owner g d) (λ i l at. (symbols_of (take i y.laid), s.measured i l at)) (are_stated y cs e) in
    omega (arith, parts, lines)

-- ---- Contents.

-- the contents from which a module's object, or version 1 of it, is built
pub record HasContents (y : Layout) (m : Module) : Type 0 where
  pub contents : List Content
  pub found : (module_resolution y.laid).found ≡ Ok contents
  pub version : ℕ
  pub files : List (List ℕ)
  -- the origins of source locations in the object
  pub origins : SourceLocation → Origin
  pub object : m.object ≡ object_by version files origins y.cursor.segments (table_of y).imports contents

pub contents_of : (y : Layout) (m : Module) → IsObjectOfLayout y m → HasContents y m
contents_of y m h =
    let names : List (List ℕ) = (table_of y).imports in
    let (cs, first, last) = bind_ok (module_resolution y.laid).found (λ cs. Ok (object_with y.cursor.segments names cs)) h.written h.object in
    let same : object_with y.cursor.segments names cs ≡ h.written = cc last in
    go cs first same h.version
  where
    go : (cs : List Content) → (module_resolution y.laid).found ≡ Ok cs → object_with y.cursor.segments (table_of y).imports cs ≡ h.written → IsEitherVersion h.written m.object → HasContents y m
    go cs first same (inl as_written) = record {
      contents = cs;
      found = first;
      version = 2;
      files = files_of cs;
      origins = origin_in_files (files_of cs);
      object = as_written ∙ sym same;
    }
    go cs first same (inr in_one) = record {
      contents = cs;
      found = first;
      version = 1;
      files = [];
      origins = λ place. line_origin (origin_in_files (files_of cs) place);
      object = in_one ∙ ap version_one_object (sym same) ∙ by_lines 2 (files_of cs) (origin_in_files (files_of cs)) y.cursor.segments (table_of y).imports cs;
    }

pub same_object : (y : Layout) (m : Module) (cs : List Content) → (h : IsObjectOfLayout y m) → (module_resolution y.laid).found ≡ Ok cs → m.object ≡ object_by (contents_of y m h).version (contents_of y m h).files (contents_of y m h).origins y.cursor.segments (table_of y).imports cs
same_object y m cs h e =
    let c = contents_of y m h in
    let both : ◌≡◌ {A = Result (List Content) LocatedFault} (Ok c.contents) (Ok cs) = sym c.found ∙ e in
    let same : c.contents ≡ cs = cc both in
    c.object ∙ ap (object_by c.version c.files c.origins y.cursor.segments (table_of y).imports) same

-- ---- One section.

abbrev pub size_or : Option linked.Segment → ℕ
size_or g = option_map_or (λ (g : linked.Segment). g.size) g 0

pub size_or_empty : (name : List ℕ) (g : Option linked.Segment) → (or_empty name g).size ≡ size_or g
size_or_empty name x = grind (arith, common_steps)

-- the effect of a module's sections on a segment: none, or one section is appended
pub data Following (y : Layout) (m : Module) (origins : SourceLocation → Origin) (cs : List Content) (owner : ℕ) (name : List ℕ) (g : Option linked.Segment) : Type 0 where
  unchanged : has_section y name ≡ false → after_sections owner name g m.object.sections ≡ g → Following y m origins cs owner name g
  grows :
      (key : ℕ) → has_section y name ≡ true → list_any (nat_eq key) (section_keys cs) ≡ true → key < length y.cursor.segments →
      segment_name_at y key ≡ name →
      after_sections owner name g m.object.sections ≡ Some (segment_with_section owner (or_empty name g) (section_of origins y.cursor.segments (section_keys cs) (import_keys (table_of y).imports cs) cs key)) →
      Following y m origins cs owner name g

pub after_source : (y : Layout) (m : Module) → (h : IsObjectOfLayout y m) → (owner : ℕ) (name : List ℕ) (g : Option linked.Segment) → Following y m (contents_of y m h).origins (contents_of y m h).contents owner name g
after_source y m h owner name g = go (has_section y name) refl
  where
    go : (b : Bool) → has_section y name ≡ b → Following y m (contents_of y m h).origins (contents_of y m h).contents owner name g
    go b e =
        let c = contents_of y m h in
        let cs : List Content = c.contents in
        let keys = keys_of y cs h.no_line_errors c.found in
        let is : List ℕ = import_keys (table_of y).imports cs in
        let same : after_sections owner name g m.object.sections ≡ after_sections owner name g (map (its_section y owner c.origins (section_keys cs) is cs name) (section_keys cs)) = ap (λ (z : Object). after_sections owner name g z.sections) c.object in
        by b c.origins cs keys same e
      where
        by : (b : Bool) (origins : SourceLocation → Origin) (cs : List Content) → AreKeys y (section_keys cs) → after_sections owner name g m.object.sections ≡ after_sections owner name g (map (its_section y owner origins (section_keys cs) (import_keys (table_of y).imports cs) cs name) (section_keys cs)) → has_section y name ≡ b → Following y m origins cs owner name g
        by false origins cs keys same e =
            unchanged e (same ∙ none_there y owner origins (section_keys cs) (import_keys (table_of y).imports cs) cs name (section_keys cs) keys.standing (sym (keys.has name) ∙ e) g)
        by true origins cs keys same e =
            let r = one_there y owner origins (section_keys cs) (import_keys (table_of y).imports cs) cs name (section_keys cs) (named h.no_line_errors).distinct keys.standing keys.single (sym (keys.has name) ∙ e) g in
            grows r.key e r.among r.below r.called (same ∙ r.is)

-- ---- The start and end of a module's part.

-- the statements in a segment by its name are those by its index
pub in_segment : (owner : ℕ) (y : Layout) (g : ℕ) → HasNoLineErrors y → g < length y.cursor.segments → statements_in_segment owner y (segment_name_at y g) ≡ statements_with_segment g (module_statements_after owner [] y.laid)
in_segment owner y g d lt = by_number owner y g (named d).distinct lt [] y.laid (named d).standing

pub section_begin : (y : Layout) (owner key position : ℕ) (origins : SourceLocation → Origin) (sections imports : List ℕ) (cs : List Content) → HasNoLineErrors y → rounded_up position (linked.align_of (section_of origins y.cursor.segments sections imports cs key)) ≡ next_multiple_of position (largest_multiple (statements_with_segment key (module_statements_after owner [] y.laid)))
section_begin y owner key position origins sections imports cs d = grind (arith, common_steps, power_positive, largest_power, powers_at, placed, alignment_law, rounding_law)

pub begin_is_multiple : (y : Layout) (owner key position : ℕ) → HasNoLineErrors y → IsMultiple (next_multiple_of position (largest_multiple (statements_with_segment key (module_statements_after owner [] y.laid)))) (largest_multiple (statements_with_segment key (module_statements_after owner [] y.laid)))
begin_is_multiple y owner key position d =
    let lines : List ModuleStatement = statements_with_segment key (module_statements_after owner [] y.laid) in
    rounded position (largest_multiple lines) (power_positive (largest_multiple lines) (largest_power lines (powers_at key (module_statements_after owner [] y.laid) (placed owner d).powers)))

-- the items of a module that has a section
pub whole_part : (y : Layout) (owner key : ℕ) (name : List ℕ) → HasNoLineErrors y → key < length y.cursor.segments → segment_name_at y key ≡ name → has_section y name ≡ true → module_items owner y name ≡ rounding (largest_multiple (statements_with_segment key (module_statements_after owner [] y.laid))) ∷ map statement_item (statements_with_segment key (module_statements_after owner [] y.laid))
whole_part y owner key name d lt called has = grind (arith, common_steps, in_segment)

pub no_part : (y : Layout) (owner : ℕ) (name : List ℕ) → has_section y name ≡ false → module_items owner y name ≡ []
no_part y owner name has = ap (λ b. cond b (rounding (largest_multiple (statements_in_segment owner y name)) ∷ map statement_item (statements_in_segment owner y name)) []) has

pub part_end : (y : Layout) (m : Module) (owner : ℕ) (name : List ℕ) (g : Option linked.Segment) → IsObjectOfLayout y m → size_or (after_sections owner name g m.object.sections) ≡ end_of (size_or g) (module_items owner y name)
part_end y m owner name g h = go (after_source y m h owner name g)
  where
    go : Following y m (contents_of y m h).origins (contents_of y m h).contents owner name g → size_or (after_sections owner name g m.object.sections) ≡ end_of (size_or g) (module_items owner y name)
    go (unchanged has e) = ap size_or e ∙ ap (end_of (size_or g)) (sym (no_part y owner name has))
    go (grows key has among lt called e) =
        let c = contents_of y m h in
        let cs : List Content = c.contents in
        let sections : List ℕ = section_keys cs in
        let imports : List ℕ = import_keys (table_of y).imports cs in
        let lines : List ModuleStatement = statements_with_segment key (module_statements_after owner [] y.laid) in
        let begin : ℕ = next_multiple_of (size_or g) (largest_multiple lines) in
        ap size_or e
        ∙ ap (λ n. rounded_up n (linked.align_of (section_of c.origins y.cursor.segments sections imports cs key)) + section_len (section_of c.origins y.cursor.segments sections imports cs key)) (size_or_empty name g)
        ∙ ap (λ n. n + section_len (section_of c.origins y.cursor.segments sections imports cs key)) (section_begin y owner key (size_or g) c.origins sections imports cs h.no_line_errors)
        ∙ ap (λ n. begin + n) (length_law y owner key cs c.origins sections imports h.no_line_errors h.well_formed_layout c.found)
        ∙ sym (shift_law lines begin (powers_at key (module_statements_after owner [] y.laid) (placed owner h.no_line_errors).powers) (begin_is_multiple y owner key (size_or g) h.no_line_errors))
        ∙ ap (end_of (size_or g)) (sym (whole_part y owner key name h.no_line_errors lt called has))

-- ---- Induction on the modules.

pub modules_end : (ys : List Layout) (ms : List Module) (owner : ℕ) (name : List ℕ) (g : Option linked.Segment) → AreObjectsOfLayouts ys ms → size_or (after_modules owner name g ms) ≡ end_of (size_or g) (segment_items_from owner ys name)
modules_end [] [] owner name g h = refl
modules_end [] (m ∷ ms) owner name g h = absurd h
modules_end (y ∷ ys) [] owner name g h = absurd h
modules_end (y ∷ ys) (m ∷ ms) owner name g h = grind (arith, common_steps, part_end, end_of-append, (modules_end ys ms (suc owner) name (after_sections owner name g m.object.sections) h.1))

-- a segment of the linked modules is as long as the list of all statements in the segment of its name
pub size_law : (ys : List Layout) (ms : List Module) (name : List ℕ) → AreObjectsOfLayouts ys ms → linked.end_of (linked.program_of ms).segments name ≡ end_of 0 (segment_items ys name)
size_law ys ms name h = ap size_or (segment_law ms name) ∙ modules_end ys ms 0 name None h
