-- Segments of a link and of the whole program have the same sizes and the same bytes.
use Rattle.std.proofs.lemmas.Grind.{common_steps}
use Rattle.std.proofs.Common.{◌≡◌, ℕ, ◌<◌, Bool, true, cond, List, [], ◌∷◌, ◌++◌, length, map, Option, Some, None, refl, sym, ◌∙◌, ap, suc, ◌+◌, ◌-◌, slice_get, Ok, subst, arith}
use Rattle.std.specs.Prelude.{◌||◌, ◌↔◌, replicate}
use Rattle.std.specs.List.{AllByRecursion, flat_map, list_any}
use Rattle.std.specs.Str.{bytes_eq}
use Rattle.std.proofs.lemmas.List.{map-append, append-nil, append_assoc}
use Rattle.std.proofs.lemmas.List.Folds.{list_any-append}
use Rattle.object65.specs.declared.object.Origin.{Origin}
use Rattle.object65.specs.declared.object.Section.{Section}
use Rattle.script65.proofs.DisjointRows.{same_needs}
use Rattle.script65.specs.Placing.{size_of}
use Rattle.script65.specs.declared.placement.SegmentNeed.{SegmentNeed}
use Rattle.ast65.proofs.Lists.{bytes_swap, same_bytes}
use Rattle.syntax65.specs.declared.source_location.SourceLocation.{SourceLocation}
use Rattle.semantics65.specs.Contents.{Content, Part, Known, ReservedBytes, LinkTimeValue}
use Rattle.semantics65.specs.Symbols.{LaidOutStatement, with_new_names}
use Rattle.semantics65.specs.Layout.{Layout}
use Rattle.semantics65.specs.Numbering.{import_keys, distinct_keys, section_keys, section_of, segment_requests, parts_in}
use Rattle.link65.specs.Programs.{Module, Program as LinkedProgram, no_program, program_of, with_module, with_modules, Segment, segment_with_section, segment_of, with_section, with_sections, Cell, begin_after, filled, fragment_cells}
use Rattle.link65.specs.Values as places
use Rattle.link65.specs.Programs as linked
use Rattle.sources65.proofs.Resolving.{new_append}
use Rattle.whole65.proofs.Sections.{asked_are, held, keys_of, or_false, or_true, with_key, name_at, segment_law}
use Rattle.whole65.proofs.Positions.{itself}
use Rattle.whole65.proofs.Sources.{contents_of, size_law, Following, begin_is_multiple, after_source, grows, no_part, part_end, section_begin, size_or, size_or_empty, unchanged, whole_part}
use Rattle.whole65.specs.Laws.{LinkPreservesPlacement}
use Rattle.whole65.specs.Modules.{table_of, global_context, context_or}
use Rattle.whole65.specs.Segments.{requested_segments, end_of, segment_items, need_of, segment_name_at, segments_of, SegmentItem, end_after, segment_items_from, largest_multiple, statement_item, module_statements_after, module_items, rounding}
use Rattle.whole65.specs.Sources.{AreObjectsOfLayouts, IsObjectOfLayout}
use Rattle.std.specs.Int.{next_multiple_of}
use Rattle.script65.specs.declared.placement.Placement.{Placement}
use Rattle.script65.specs.declared.script.Script.{Script}
use Rattle.link65.specs.Values.{linkage_of, Linkage}
use Rattle.link65.specs.declared.parts.ValueFault.{ValueFault}
use Rattle.semantics65.specs.Module.{module_resolution}
use Rattle.sources65.proofs.SoundForms.{all_append}
use Rattle.whole65.proofs.SectionBases.{source_at, form_law, keyed_law}
use Rattle.whole65.proofs.ModuleBytes.{cells_joined, cells_split, of_filled, module_law}
use Rattle.whole65.proofs.LinkedObjects.{AreCells, IsValuedIn, cells_or, after_modules, after_sections, or_empty, IsKeyedContent, IsKeyedPart, linked_objects, context_in, symbols_at}
use Rattle.whole65.specs.Contents.{EncodesSegmentItems}
use Rattle.whole65.specs.Objects.{IsLinkerView, LinkerView}
use Rattle.whole65.specs.Offsets.{IsMultiple, statements_with_segment}
use Rattle.whole65.specs.Programs as whole
use Rattle.whole65.specs.Values.{Program}

-- ---- Names without repetitions.

abbrev with_name : List (List ℕ) → List ℕ → List (List ℕ)
with_name known n = cond (list_any (λ k. bytes_eq n k) known) known (known ++ n ∷ [])

there_too : (n m : List ℕ) (known : List (List ℕ)) → list_any (λ k. bytes_eq m k) known ≡ true → bytes_eq n m ≡ true → list_any (λ k. bytes_eq n k) known ≡ true
there_too n m known h e = let same : n ≡ m = same_bytes n m e in ap (λ z. list_any (λ k. bytes_eq z k) known) same ∙ h

any_name : (n m : List ℕ) (known : List (List ℕ)) → list_any (λ k. bytes_eq n k) (with_name known m) ≡ (list_any (λ k. bytes_eq n k) known || bytes_eq n m)
any_name n m known = grind (arith, common_steps, there_too, or_true, or_false, list_any-append)

pub any_new : (n : List ℕ) (xs known : List (List ℕ)) → list_any (λ k. bytes_eq n k) (with_new_names known xs) ≡ (list_any (λ k. bytes_eq n k) known || list_any (λ k. bytes_eq n k) xs)
any_new n [] known = sym (or_false (list_any (λ k. bytes_eq n k) known))
any_new n (x ∷ xs) known = grind (arith, common_steps, any_name, (any_new n xs (with_name known x)))

pub any_map : (N : ℕ → List ℕ) (n : List ℕ) (ks : List ℕ) → list_any (λ z. bytes_eq n z) (map N ks) ≡ list_any (λ k. bytes_eq n (N k)) ks
any_map N n [] = refl
any_map N n (k ∷ ks) = ap (λ b. bytes_eq n (N k) || b) (any_map N n ks)

-- adding a new key adds its name, if the name is new
one_key : (N : ℕ → List ℕ) (known : List (List ℕ)) (found : List ℕ) (k : ℕ) → with_new_names known (map N (with_key found k)) ≡ with_name (with_new_names known (map N found)) (N k)
one_key x known found k = grind (arith, common_steps, map-append, new_append, held, itself, any_new, any_map, or_true)

names_once : (N : ℕ → List ℕ) (known : List (List ℕ)) (found ks : List ℕ) → with_new_names known (map N (distinct_keys found ks)) ≡ with_new_names (with_new_names known (map N found)) (map N ks)
names_once N known found [] = refl
names_once N known found (k ∷ ks) = grind (arith, common_steps, one_key, (names_once N known (with_key found k) ks))

-- ---- Names of segments.

abbrev pub names_of : List Segment → List (List ℕ)
names_of gs = map (λ (g : Segment). g.name) gs

one_section : (owner : ℕ) (gs : List Segment) (s : Section) → names_of (with_section owner gs s) ≡ with_name (names_of gs) s.name
one_section owner [] s = refl
one_section owner (g ∷ gs) s = grind (arith, common_steps, (one_section owner gs s), bytes_swap)

all_sections : (owner : ℕ) (ss : List Section) (gs : List Segment) → names_of (with_sections owner gs ss) ≡ with_new_names (names_of gs) (map (λ s. s.name) ss)
all_sections owner [] gs = refl
all_sections owner (s ∷ ss) gs = all_sections owner ss (with_section owner gs s) ∙ ap (λ z. with_new_names z (map (λ s. s.name) ss)) (one_section owner gs s)

section_names : (y : Layout) (origins : SourceLocation → Origin) (sections imports : List ℕ) (cs : List Content) (ks : List ℕ) → AllByRecursion (λ g. g < length y.cursor.segments) ks → map (λ (s : Section). s.name) (map (section_of origins y.cursor.segments sections imports cs) ks) ≡ map (segment_name_at y) ks
section_names y origins sections imports cs [] h = refl
section_names y origins sections imports cs (k ∷ ks) h = grind (arith, common_steps, (section_names y origins sections imports cs ks h.1), name_at)

pub names_asked : (y : Layout) (ls : List LaidOutStatement) → map (segment_name_at y) (map (λ (l : LaidOutStatement). l.context.segment) ls) ≡ map (λ (l : LaidOutStatement). segment_name_at y l.context.segment) ls
names_asked y [] = refl
names_asked y (l ∷ ls) = ap (λ z. segment_name_at y l.context.segment ∷ z) (names_asked y ls)

one_source : (y : Layout) (m : Module) (known : List (List ℕ)) → IsObjectOfLayout y m → with_new_names known (map (λ (s : Section). s.name) m.object.sections) ≡ with_new_names known (requested_segments y)
one_source y m known h =
    let c = contents_of y m h in
    let cs : List Content = c.contents in
    let keys = keys_of y cs h.no_line_errors c.found in
    let imports : List ℕ = import_keys (table_of y).imports cs in
    grind (arith, common_steps, (section_names y c.origins (section_keys cs) imports cs (section_keys cs) keys.standing), (names_once (segment_name_at y) known [] (segment_requests cs)), (asked_are y cs c.found), names_asked)

all_modules : (p : LinkedProgram) (ys : List Layout) (ms : List Module) → AreObjectsOfLayouts ys ms → names_of (with_modules p ms).segments ≡ with_new_names (names_of p.segments) (flat_map requested_segments ys)
all_modules p [] [] h = refl
all_modules p [] (m ∷ ms) h = absurd h
all_modules p (y ∷ ys) [] h = absurd h
all_modules p (y ∷ ys) (m ∷ ms) h = grind (arith, common_steps, all_sections, one_source, new_append, (all_modules (with_module p m) ys ms h.1))

-- ---- Needs.

linked_names : (gs : List Segment) → map (λ (n : SegmentNeed). n.name) (map places.need_of gs) ≡ names_of gs
linked_names [] = refl
linked_names (g ∷ gs) = ap (λ z. g.name ∷ z) (linked_names gs)

whole_names : (ys : List Layout) (ns : List (List ℕ)) → map (λ (n : SegmentNeed). n.name) (map (need_of ys) ns) ≡ ns
whole_names ys [] = refl
whole_names ys (n ∷ ns) = ap (λ z. n ∷ z) (whole_names ys ns)

abbrev size_if : Bool → ℕ → Option ℕ
size_if b n = cond b (Some n) None

linked_size : (gs : List Segment) (name : List ℕ) → size_of (map places.need_of gs) name ≡ size_if (list_any (λ n. bytes_eq n name) (names_of gs)) (linked.end_of gs name)
unfolding size_of
linked_size [] name = refl
linked_size (g ∷ gs) name = grind (arith, common_steps, (linked_size gs name))

whole_size : (ys : List Layout) (ns : List (List ℕ)) (name : List ℕ) → size_of (map (need_of ys) ns) name ≡ size_if (list_any (λ n. bytes_eq n name) ns) (end_of 0 (segment_items ys name))
unfolding size_of
whole_size ys [] name = refl
whole_size ys (n ∷ ns) name = grind (arith, common_steps, (whole_size ys ns name), same_bytes)

pub placement_law : LinkPreservesPlacement
placement_law s ys ms h =
    let gs : List Segment = (program_of ms).segments in
    let names : names_of gs ≡ segments_of ys = all_modules no_program ys ms h in
    let sizes : (name : List ℕ) → size_of (map places.need_of gs) name ≡ size_of (map (need_of ys) (segments_of ys)) name =
    λ name. grind (arith, common_steps, (linked_size gs name), (size_law ys ms name h), (whole_size ys (segments_of ys) name)) in
    same_needs s (map places.need_of gs) (map (need_of ys) (segments_of ys)) (linked_names gs ∙ names ∙ sym (whole_names ys (segments_of ys))) sizes

-- ---- Bytes of concatenated lists.

module _ (p : Program) (fill : ℕ) where
  abbrev BothBytes : ℕ → List SegmentItem → List SegmentItem → List ℕ → Type 0
  BothBytes position xs zs bytes = (own : List ℕ) × (rest : List ℕ) × EncodesSegmentItems p fill position xs own × EncodesSegmentItems p fill (end_of position xs) zs rest × (bytes ≡ own ++ rest)

  bytes_joined : (position : ℕ) (xs zs : List SegmentItem) (bytes : List ℕ) → BothBytes position xs zs bytes → EncodesSegmentItems p fill position (xs ++ zs) bytes
  bytes_joined position [] zs bytes (own, rest, none, h, e) = subst (EncodesSegmentItems p fill position zs) (sym (e ∙ ap (λ z. z ++ rest) none)) h
  bytes_joined position (x ∷ xs) zs bytes (own, rest, (a, b, k, more, e'), h, e) = grind (arith, common_steps, (bytes_joined (end_after position x) xs zs (b ++ rest) (b, rest, more, h, refl)))

  pub bytes_split : (position : ℕ) (xs zs : List SegmentItem) (bytes : List ℕ) → EncodesSegmentItems p fill position (xs ++ zs) bytes → BothBytes position xs zs bytes
  bytes_split position [] zs bytes h = ([], bytes, refl, h, refl)
  bytes_split position (x ∷ xs) zs bytes (a, b, k, more, e) =
      let (own, rest, h, g, e') = bytes_split (end_after position x) xs zs b more in
      (a ++ own, rest, (a, own, k, h, refl), g, e ∙ ap (λ z. a ++ z) e' ∙ sym (append_assoc a own rest))

-- ---- A module's part of a segment.

keyed_in : (sections imports : List ℕ) (count g : ℕ) (cs : List Content) → AllByRecursion (IsKeyedContent sections imports count) cs → AllByRecursion (IsKeyedPart sections imports count) (parts_in cs g)
keyed_in sections imports count g [] h = tt
keyed_in sections imports count g (c ∷ cs) h = grind (arith, common_steps, (keyed_in sections imports count g cs h.1), all_append)

or_empty_cells : (name : List ℕ) (g : Option Segment) → (or_empty name g).cells ≡ cells_or g
or_empty_cells name x = grind (arith, common_steps)

module _ (s : Script) (placement : Placement) (ys : List Layout) (ms : List Module) (fill : ℕ) (name : List ℕ) (sources : AreObjectsOfLayouts ys ms) (objects : IsLinkerView (whole.placed_program s placement ys) (linked_objects s placement ys ms)) where
  abbrev p : Program
  p = whole.placed_program s placement ys

  abbrev o : LinkerView ValueFault
  o = linked_objects s placement ys ms

  abbrev l : Linkage
  l = linkage_of s (linked.program_of ms) placement

  -- the bytes of cells, followed by the bytes of items
  abbrev Split : List Cell → ℕ → List SegmentItem → List ℕ → Type 0
  Split cells position items bytes = (own : List ℕ) × (rest : List ℕ) × AreCells l fill cells own × EncodesSegmentItems p fill position items rest × (bytes ≡ own ++ rest)

  module _ (owner : ℕ) (y : Layout) (m : Module) (at_y : slice_get ys owner ≡ Some y) (at_m : slice_get ms owner ≡ Some m) where
    source : IsObjectOfLayout y m
    source = source_at ys ms owner y m sources at_y at_m

    valued : (cs : List Content) → (module_resolution y.laid).found ≡ Ok cs → (qs : List Part) → AllByRecursion (IsKeyedPart (section_keys cs) (import_keys (table_of y).imports cs) (length (table_of y).imports)) qs → AllByRecursion (IsValuedIn o l owner (section_keys cs) (import_keys (table_of y).imports cs)) qs
    valued cs e [] h = tt
    valued cs e (Known own ∷ qs) h = (tt, valued cs e qs h.1)
    valued cs e (ReservedBytes n ∷ qs) h = (tt, valued cs e qs h.1)
    valued cs e (LinkTimeValue width place f ∷ qs) h = (
      λ v. (
        λ k. (k.0, sym (form_law s placement ys ms owner k.0 y m cs f sources at_y at_m e h.0) ∙ k.1),
        λ k. (k.0, form_law s placement ys ms owner k.0 y m cs f sources at_y at_m e h.0 ∙ k.1),
      ),
      valued cs e qs h.1,
    )

    context_is : (index : ℕ) (x : LaidOutStatement) → slice_get y.laid index ≡ Some x → o.contexts owner index ≡ x.context
    context_is index x e = ap (λ r. context_in r index) at_y ∙ ap (context_or (global_context y)) e

    lines_have : (begin key : ℕ) (origins : SourceLocation → Origin) (cs : List Content) (bytes : List ℕ) → (module_resolution y.laid).found ≡ Ok cs → IsMultiple begin (largest_multiple (statements_with_segment key (module_statements_after owner [] y.laid))) → EncodesSegmentItems p fill begin (map statement_item (statements_with_segment key (module_statements_after owner [] y.laid))) bytes ↔ AreCells l fill (flat_map (fragment_cells owner) (section_of origins y.cursor.segments (section_keys cs) (import_keys (table_of y).imports cs) cs key).fragments) bytes
    lines_have begin key origins cs bytes e alignment =
        let sections : List ℕ = section_keys cs in
        let imports : List ℕ = import_keys (table_of y).imports cs in
        module_law ValueFault p o l fill begin owner key y cs origins sections imports bytes objects (ap symbols_at at_y) context_is source.no_line_errors alignment e
        (valued cs e (parts_in cs key) (keyed_in sections imports (length (table_of y).imports) key cs (keyed_law y cs source.well_formed_layout e)))

    one_part : (g : Option Segment) (bytes : List ℕ) → AreCells l fill (cells_or (after_sections owner name g m.object.sections)) bytes ↔ Split (cells_or g) (size_or g) (module_items owner y name) bytes
    one_part g bytes = go (after_source y m source owner name g)
      where
        go : Following y m (contents_of y m source).origins (contents_of y m source).contents owner name g → AreCells l fill (cells_or (after_sections owner name g m.object.sections)) bytes ↔ Split (cells_or g) (size_or g) (module_items owner y name) bytes
        go (unchanged has e) =
            let none : module_items owner y name ≡ [] = no_part y owner name has in (
              λ h. (bytes, [], subst (λ z. AreCells l fill (cells_or z) bytes) e h, subst (λ z. EncodesSegmentItems p fill (size_or g) z []) (sym none) refl, sym (append-nil bytes)),
              λ h. (let empty : h.1 ≡ [] = subst (λ z. EncodesSegmentItems p fill (size_or g) z h.1) none h.3 in let same : h.0 ≡ bytes = sym (h.4 ∙ ap (λ z. h.0 ++ z) empty ∙ append-nil h.0) in subst (λ z. AreCells l fill (cells_or z) bytes) (sym e) (subst (AreCells l fill (cells_or g)) same h.2)),
            )
        go (grows key has among lt called e) = (there, back)
          where
            cs : List Content
            cs = (contents_of y m source).contents

            origins : SourceLocation → Origin
            origins = (contents_of y m source).origins

            sec : Section
            sec = section_of origins y.cursor.segments (section_keys cs) (import_keys (table_of y).imports cs) cs key

            alignment : ℕ
            alignment = largest_multiple (statements_with_segment key (module_statements_after owner [] y.laid))

            begin : ℕ
            begin = next_multiple_of (size_or g) alignment

            gap_is : begin_after (or_empty name g).size sec - (or_empty name g).size ≡ begin - size_or g
            gap_is =
                ap (λ n. begin_after n sec - n) (size_or_empty name g)
                ∙ ap (λ n. n - size_or g) (section_begin y owner key (size_or g) origins (section_keys cs) (import_keys (table_of y).imports cs) cs source.no_line_errors)

            cells_are : cells_or (after_sections owner name g m.object.sections) ≡ cells_or g ++ (replicate (begin - size_or g) filled ++ flat_map (fragment_cells owner) sec.fragments)
            cells_are =
                ap cells_or e
                ∙ append_assoc (or_empty name g).cells (replicate (begin_after (or_empty name g).size sec - (or_empty name g).size) filled) (flat_map (fragment_cells owner) sec.fragments)
                ∙ ap (λ n. (or_empty name g).cells ++ (replicate n filled ++ flat_map (fragment_cells owner) sec.fragments)) gap_is
                ∙ ap (λ z. z ++ (replicate (begin - size_or g) filled ++ flat_map (fragment_cells owner) sec.fragments)) (or_empty_cells name g)

            part_is : module_items owner y name ≡ rounding alignment ∷ map statement_item (statements_with_segment key (module_statements_after owner [] y.laid))
            part_is = whole_part y owner key name source.no_line_errors lt called has

            lines : (more : List ℕ) → EncodesSegmentItems p fill begin (map statement_item (statements_with_segment key (module_statements_after owner [] y.laid))) more ↔ AreCells l fill (flat_map (fragment_cells owner) sec.fragments) more
            lines more = lines_have begin key origins cs more (contents_of y m source).found (begin_is_multiple y owner key (size_or g) source.no_line_errors)

            there : AreCells l fill (cells_or (after_sections owner name g m.object.sections)) bytes → Split (cells_or g) (size_or g) (module_items owner y name) bytes
            there h =
                let a = cells_split l fill (cells_or g) (replicate (begin - size_or g) filled ++ flat_map (fragment_cells owner) sec.fragments) bytes (subst (λ z. AreCells l fill z bytes) cells_are h) in
                let b = cells_split l fill (replicate (begin - size_or g) filled) (flat_map (fragment_cells owner) sec.fragments) a.1 a.3 in
                let part : EncodesSegmentItems p fill (size_or g) (rounding alignment ∷ map statement_item (statements_with_segment key (module_statements_after owner [] y.laid))) a.1 = (b.0, b.1, (of_filled l fill (begin - size_or g) b.0).1 b.2, (lines b.1).1 b.3, b.4) in
                (a.0, a.1, a.2, subst (λ z. EncodesSegmentItems p fill (size_or g) z a.1) (sym part_is) part, a.4)

            back : Split (cells_or g) (size_or g) (module_items owner y name) bytes → AreCells l fill (cells_or (after_sections owner name g m.object.sections)) bytes
            back h =
                let b : EncodesSegmentItems p fill (size_or g) (rounding alignment ∷ map statement_item (statements_with_segment key (module_statements_after owner [] y.laid))) h.1 = subst (λ z. EncodesSegmentItems p fill (size_or g) z h.1) part_is h.3 in
                let rest = cells_joined l fill (replicate (begin - size_or g) filled) (flat_map (fragment_cells owner) sec.fragments) h.1 (b.0, b.1, (of_filled l fill (begin - size_or g) b.0).0 b.2, (lines b.1).0 b.3, b.4) in
                subst (λ z. AreCells l fill z bytes) (sym cells_are) (cells_joined l fill (cells_or g) (replicate (begin - size_or g) filled ++ flat_map (fragment_cells owner) sec.fragments) bytes (h.0, h.1, h.2, rest, h.4))

  modules : (rest : List Layout) (ns : List Module) (owner : ℕ) (g : Option Segment) (bytes : List ℕ) → AreObjectsOfLayouts rest ns → ((i : ℕ) → slice_get rest i ≡ slice_get ys (owner + i)) → ((i : ℕ) → slice_get ns i ≡ slice_get ms (owner + i)) → AreCells l fill (cells_or (after_modules owner name g ns)) bytes ↔ Split (cells_or g) (size_or g) (segment_items_from owner rest name) bytes
  modules [] [] owner g bytes h up_y up_m = grind (arith, common_steps)
  modules [] (m ∷ ns) owner g bytes h up_y up_m = absurd h
  modules (y ∷ rest) [] owner g bytes h up_y up_m = absurd h
  modules (y ∷ rest) (m ∷ ns) owner g bytes h up_y up_m =
      let here : owner + 0 ≡ owner = omega arith in
      let at_y : slice_get ys owner ≡ Some y = ap (slice_get ys) (sym here) ∙ sym (up_y 0) in
      let at_m : slice_get ms owner ≡ Some m = ap (slice_get ms) (sym here) ∙ sym (up_m 0) in
      let next : (i : ℕ) → owner + suc i ≡ suc owner + i = λ i. omega arith in
      let after : Option Segment = after_sections owner name g m.object.sections in
      let deeper = modules rest ns (suc owner) after bytes h.1 (λ i. up_y (suc i) ∙ ap (slice_get ys) (next i)) (λ i. up_m (suc i) ∙ ap (slice_get ms) (next i)) in
      let size : size_or after ≡ end_of (size_or g) (module_items owner y name) = part_end y m owner name g h.0 in
      let one = one_part owner y m at_y at_m g in (
        λ k. (let d = deeper.0 k in let a = (one d.0).0 d.2 in (a.0, a.1 ++ d.1, a.2, bytes_joined p fill (size_or g) (module_items owner y name) (segment_items_from (suc owner) rest name) (a.1 ++ d.1) (a.1, d.1, a.3, subst (λ n. EncodesSegmentItems p fill n (segment_items_from (suc owner) rest name) d.1) size d.3, refl), d.4 ∙ ap (λ z. z ++ d.1) a.4 ∙ append_assoc a.0 a.1 d.1)),
        λ k. (let b = bytes_split p fill (size_or g) (module_items owner y name) (segment_items_from (suc owner) rest name) k.1 k.3 in deeper.1 (k.0 ++ b.0, b.1, (one (k.0 ++ b.0)).1 (k.0, b.0, k.2, b.2, refl), subst (λ n. EncodesSegmentItems p fill n (segment_items_from (suc owner) rest name) b.1) (sym size) b.3, k.4 ∙ ap (λ z. k.0 ++ z) b.4 ∙ sym (append_assoc k.0 b.0 b.1))),
      )

-- the cells of a segment of the link have the bytes of the segment's list in the whole program
pub linked_bytes_law : (s : Script) (placement : Placement) (ys : List Layout) (ms : List Module) (fill : ℕ) (name bytes : List ℕ) → AreObjectsOfLayouts ys ms → IsLinkerView (whole.placed_program s placement ys) (linked_objects s placement ys ms) → AreCells (linkage_of s (linked.program_of ms) placement) fill (cells_or (segment_of (linked.program_of ms).segments name)) bytes ↔ EncodesSegmentItems (whole.placed_program s placement ys) fill 0 (segment_items ys name) bytes
linked_bytes_law s placement ys ms fill name bytes sources objects = grind (arith, common_steps, modules, cells_or, after_modules, segment_law)
