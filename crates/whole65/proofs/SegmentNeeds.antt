-- A segment has the same need, a size and an alignment, in a link and in the whole program.
use Rattle.std.proofs.Common.{◌≡◌, ◌∙◌, ℕ, suc, ◌<◌, max, Bool, true, false, cond, List, [], ◌∷◌, ◌++◌, inl, inr, map, Option, Some, None, refl, sym, ap, subst, arith}
use Rattle.std.specs.Prelude.{IfSome}
use Rattle.std.specs.Option.{option_map_or}
use Rattle.std.specs.Str.{bytes_eq}
use Rattle.ast65.proofs.Lists.{same_bytes}
use Rattle.script65.specs.declared.placement.SegmentNeed.{SegmentNeed}
use Rattle.semantics65.specs.Layout.{Layout}
use Rattle.semantics65.specs.Numbering.{import_keys, section_keys, section_of}
use Rattle.link65.specs.Programs.{Module, Segment, segment_of}
use Rattle.link65.specs.Programs as linked
use Rattle.link65.specs.Values as places
use Rattle.whole65.proofs.LinkedObjects.{after_modules, after_sections, or_empty}
use Rattle.whole65.proofs.Positions.{alignment_law}
use Rattle.whole65.proofs.Sections.{segment_law}
use Rattle.whole65.proofs.Sources.{Following, after_source, contents_of, grows, no_part, size_law, unchanged, whole_part}
use Rattle.whole65.specs.Modules.{table_of}
use Rattle.whole65.specs.Laws.{LinkPreservesNeeds, LayoutIsSourceOfObject}
use Rattle.whole65.specs.Offsets.{statements_with_segment}
use Rattle.whole65.specs.Segments.{SegmentItem, ModuleStatement, alignment_of, segment_items_from, segment_items, largest_multiple, statement_item, module_statements_after, need_of, module_items}
use Rattle.whole65.specs.Sources.{AreObjectsOfLayouts, IsObjectOfLayout}

-- ---- The alignment of a list.

some_alignment : (xs : List SegmentItem) → 0 < alignment_of xs
some_alignment [] = omega arith
some_alignment (x ∷ xs) = omega (arith, some_alignment xs)

alignment_of-append : (xs zs : List SegmentItem) → alignment_of (xs ++ zs) ≡ max (alignment_of xs) (alignment_of zs)
alignment_of-append [] zs = omega (arith, some_alignment zs)
alignment_of-append (x ∷ xs) zs = omega (arith, alignment_of-append xs zs)

lines_alignment : (ls : List ModuleStatement) → alignment_of (map statement_item ls) ≡ largest_multiple ls
lines_alignment [] = refl
lines_alignment (x ∷ ls) = ap (max x.alignment) (lines_alignment ls)

-- ---- The alignment of a segment of the link.

abbrev align_or : Option Segment → ℕ
align_or g = option_map_or (λ (g : Segment). g.align) g 1

align_or_empty : (name : List ℕ) (g : Option Segment) → (or_empty name g).align ≡ align_or g
align_or_empty name None = refl
align_or_empty name (Some g) = refl

part_alignment : (y : Layout) (m : Module) (owner : ℕ) (name : List ℕ) (g : Option Segment) → IsObjectOfLayout y m → 0 < align_or g → align_or (after_sections owner name g m.object.sections) ≡ max (align_or g) (alignment_of (module_items owner y name))
part_alignment y m owner name g h some = go (after_source y m h owner name g)
  where
    go : Following y m (contents_of y m h).origins (contents_of y m h).contents owner name g → align_or (after_sections owner name g m.object.sections) ≡ max (align_or g) (alignment_of (module_items owner y name))
    go (unchanged has e) =
        let none : alignment_of (module_items owner y name) ≡ 1 = ap alignment_of (no_part y owner name has) in
        ap align_or e ∙ omega (arith, none, some)
    go (grows key has among lt called e) =
        let lines : List ModuleStatement = statements_with_segment key (module_statements_after owner [] y.laid) in
        let part : alignment_of (module_items owner y name) ≡ max (largest_multiple lines) (alignment_of (map statement_item lines)) = ap alignment_of (whole_part y owner key name h.no_line_errors lt called has) in
        let own = alignment_law y owner key h.no_line_errors in
        ap align_or e ∙ ap (λ n. max n (linked.align_of (section_of (contents_of y m h).origins y.cursor.segments (section_keys (contents_of y m h).contents) (import_keys (table_of y).imports (contents_of y m h).contents) (contents_of y m h).contents key))) (align_or_empty name g)
        ∙ omega (arith, own, part, lines_alignment lines)

modules_alignment : (ys : List Layout) (ms : List Module) (owner : ℕ) (name : List ℕ) (g : Option Segment) → AreObjectsOfLayouts ys ms → 0 < align_or g → align_or (after_modules owner name g ms) ≡ max (align_or g) (alignment_of (segment_items_from owner ys name))
modules_alignment [] [] owner name g h some = omega (arith, some)
modules_alignment [] (m ∷ ms) owner name g h some = absurd h
modules_alignment (y ∷ ys) [] owner name g h some = absurd h
modules_alignment (y ∷ ys) (m ∷ ms) owner name g h some =
    let first = part_alignment y m owner name g h.0 some in
    let rest = modules_alignment ys ms (suc owner) name (after_sections owner name g m.object.sections) h.1 (omega (arith, first, some)) in
    omega (arith, first, rest, alignment_of-append (module_items owner y name) (segment_items_from (suc owner) ys name))

same_alignment : (ys : List Layout) (ms : List Module) (name : List ℕ) → AreObjectsOfLayouts ys ms → align_or (segment_of (linked.program_of ms).segments name) ≡ alignment_of (segment_items ys name)
same_alignment ys ms name h = ap align_or (segment_law ms name) ∙ modules_alignment ys ms 0 name None h (omega arith) ∙ omega (arith, some_alignment (segment_items ys name))

-- ---- Needs.

found_named : (gs : List Segment) (name : List ℕ) (g : Segment) → segment_of gs name ≡ Some g → g.name ≡ name
found_named [] name g e = absurd cc
found_named (x ∷ gs) name g e = go (bytes_eq x.name name) refl e (found_named gs name g)
  where
    go : (b : Bool) → bytes_eq x.name name ≡ b → cond b (Some x) (segment_of gs name) ≡ Some g → (segment_of gs name ≡ Some g → g.name ≡ name) → g.name ≡ name
    go true is e later = let same : x ≡ g = cc e in subst (λ (y : Segment). y.name ≡ name) same (same_bytes x.name name is)
    go false is e later = later e

need_is : (a b : ℕ) (n : List ℕ) (m : SegmentNeed) → n ≡ m.name → a ≡ m.size → b ≡ m.align → ◌≡◌ {A = SegmentNeed} (record { name = n; size = a; align = b }) m
need_is a b n m e f g = rw (e, f, g) refl

pub same_needs : LinkPreservesNeeds
same_needs ys ms name h = go (segment_of (linked.program_of ms).segments name) refl
  where
    go : (o : Option Segment) → segment_of (linked.program_of ms).segments name ≡ o → IfSome o (λ g. places.need_of g ≡ need_of ys name)
    go None is = tt
    go (Some g) is =
        let called : g.name ≡ name = found_named (linked.program_of ms).segments name g is in
        let size : g.size ≡ (need_of ys name).size = sym (ap (λ (o : Option Segment). option_map_or (λ (g : Segment). g.size) o 0) is) ∙ size_law ys ms name h in
        let align : g.align ≡ (need_of ys name).align = sym (ap align_or is) ∙ same_alignment ys ms name h in
        need_is g.size g.align g.name (need_of ys name) called size align

pub laid_is_a_source : LayoutIsSourceOfObject
laid_is_a_source y name o out sound made = (
  record { no_line_errors = out; well_formed_layout = sound; written = o; object = made; version = inl refl },
  record { no_line_errors = out; well_formed_layout = sound; written = o; object = made; version = inr refl },
)
