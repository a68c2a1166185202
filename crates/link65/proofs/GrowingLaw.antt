-- Adding an item to a program has the same result as adding it to its module.
use Rattle.std.proofs.Common.{◌≡◌, ◌∙◌, ◌+◌, ℕ, zero, suc, List, [], ◌∷◌, ◌++◌, length, map, cond, Option, Some, Bool, true, false, ◌&&◌, ◌||◌, not, if◌then◌else◌, refl, sym, ap, subst, arith, append_assoc}
use Rattle.std.specs.Prelude.{slice_get, slice_set, find}
use Rattle.std.proofs.lemmas.Grind.{common_steps}
use Rattle.std.proofs.lemmas.Cmp.{nat_list_eq_equiv}
use Rattle.std.proofs.lemmas.List.{map-append, map-set}
use Rattle.std.proofs.lemmas.Option.{slice_get-map}
use Rattle.std.specs.List.{flat_map, list_any}
use Rattle.std.specs.Option.{option_map, option_map_or}
use Rattle.std.specs.Str.{bytes_eq}
use Rattle.object65.specs.declared.builder.Draft.{Draft}
use Rattle.object65.specs.declared.record.Item.{Item}
use Rattle.object65.specs.declared.record.Item.TheVariants as item
use Rattle.object65.specs.declared.object.Fragment.{Fragment}
use Rattle.object65.specs.declared.object.Section.{Section}
use Rattle.object65.specs.Items
use Rattle.object65.specs.Objects.{are_names, fragment_len, is_among, is_name, section_len}
use Rattle.object65.specs.Scanning
use Rattle.object65.proofs.Drafts.{turned}
use Rattle.object65.proofs.SmallParts.{left, right}
use Rattle.object65.proofs.Scannings.{IsPlaced}
use Rattle.object65.specs.Scanning.{outline_of}
use Rattle.object65.proofs.ItemLimits.{reached_parts, led}
use Rattle.link65.specs.declared.parts.SectionPosition.{SectionPosition}
use Rattle.link65.specs.Growing
use Rattle.link65.specs.Programs.{Program, linked_assertion, linked_export, with_module}
use Rattle.link65.specs.Programs

-- ---- A section after other sections.

pub snoc_sections : (owner : ℕ) (gs : List Programs.Segment) (ss : List Section) (s : Section) → Programs.with_sections owner gs (ss ++ s ∷ []) ≡ Programs.with_section owner (Programs.with_sections owner gs ss) s
snoc_sections owner gs [] s = refl
snoc_sections owner gs (x ∷ ss) s = snoc_sections owner (Programs.with_section owner gs x) ss s

pub snoc_places : (owner : ℕ) (gs : List Programs.Segment) (ss : List Section) (s : Section) → Programs.section_positions owner gs (ss ++ s ∷ []) ≡ Programs.section_positions owner gs ss ++ Programs.section_position (Programs.with_sections owner gs ss) s ∷ []
snoc_places owner gs [] s = refl
snoc_places owner gs (x ∷ ss) s = ap (λ ps. Programs.section_position gs x ∷ ps) (snoc_places owner (Programs.with_section owner gs x) ss s)

-- ---- One further fragment of a section.

-- `t` is section `s` with one further fragment
pub record IsLonger (owner : ℕ) (f : Fragment) (s t : Section) : Type 0 where
  pub name : t.name ≡ s.name
  pub align : t.align ≡ s.align
  pub len : section_len t ≡ section_len s + fragment_len f
  pub cells : flat_map (Programs.fragment_cells owner) t.fragments ≡ flat_map (Programs.fragment_cells owner) s.fragments ++ Programs.fragment_cells owner f

pub grown_longer : (owner : ℕ) (d : Draft) (f : Fragment) → IsLonger owner f (Scanning.section_from d) (Scanning.section_from (Items.draft_with_fragment d f))
grown_longer owner d x = grind (arith, common_steps)

-- the segment of the section has the fragment's cells at its end
segment_longer : (owner : ℕ) (f : Fragment) (s t : Section) (g : Programs.Segment) → IsLonger owner f s t → Programs.segment_with_section owner g t ≡ Growing.with_cells (fragment_len f) (Programs.fragment_cells owner f) (Programs.segment_with_section owner g s)
segment_longer owner f s t g l = grind (arith, common_steps)

same_names : (n : List ℕ) → bytes_eq n n ≡ true
same_names n = (nat_list_eq_equiv).refl n

-- one step of the search for the segment of the section
head_step : (owner : ℕ) (f : Fragment) (s t : Section) (g : Programs.Segment) (gs : List Programs.Segment) (b : Bool) → IsLonger owner f s t → bytes_eq g.name s.name ≡ b → Programs.with_section owner gs t ≡ Growing.with_segment_cells s.name (fragment_len f) (Programs.fragment_cells owner f) (Programs.with_section owner gs s) → (if b then Programs.segment_with_section owner g t ∷ gs else g ∷ Programs.with_section owner gs t) ≡ Growing.with_segment_cells s.name (fragment_len f) (Programs.fragment_cells owner f) (if b then Programs.segment_with_section owner g s ∷ gs else g ∷ Programs.with_section owner gs s)
head_step owner f s t g gs true l is rest = rw is (ap (λ x. x ∷ gs) (segment_longer owner f s t g l))
head_step owner f s t g gs false l is rest = rw is (ap (λ xs. g ∷ xs) rest)

head_longer : (owner : ℕ) (f : Fragment) (s t : Section) (gs : List Programs.Segment) → IsLonger owner f s t → Programs.with_section owner gs t ≡ Growing.with_segment_cells s.name (fragment_len f) (Programs.fragment_cells owner f) (Programs.with_section owner gs s)
head_longer owner f s t [] l = grind (arith, common_steps, same_names, segment_longer)
head_longer owner f s t (g ∷ gs) l = ap (λ (n : List ℕ). if bytes_eq g.name n then Programs.segment_with_section owner g t ∷ gs else g ∷ Programs.with_section owner gs t) l.name ∙ (head_step owner f s t g gs (bytes_eq g.name s.name) l refl (head_longer owner f s t gs l))

-- a name doesn't equal two different names
not_both : (x y z : List ℕ) → bytes_eq x y ≡ true → bytes_eq x z ≡ true → bytes_eq y z ≡ false → ⊥
not_both x y z e f other = grind (arith, common_steps, nat_list_eq_equiv)

apart_step : (owner : ℕ) (name : List ℕ) (len : ℕ) (cells : List Programs.Cell) (r : Section) (g : Programs.Segment) (gs : List Programs.Segment) (b c : Bool) → bytes_eq name r.name ≡ false → bytes_eq g.name name ≡ b → bytes_eq g.name r.name ≡ c → Programs.with_section owner (Growing.with_segment_cells name len cells gs) r ≡ Growing.with_segment_cells name len cells (Programs.with_section owner gs r) → Programs.with_section owner (if b then Growing.with_cells len cells g ∷ gs else g ∷ Growing.with_segment_cells name len cells gs) r ≡ Growing.with_segment_cells name len cells (if c then Programs.segment_with_section owner g r ∷ gs else g ∷ Programs.with_section owner gs r)
apart_step owner name len cells r g gs true true other e f rest = absurd (not_both g.name name r.name e f other)
apart_step owner name len cells r g gs true false other e f rest = rw (f, e) refl
apart_step owner name len cells r g gs false true other e f rest = rw (f, e) refl
apart_step owner name len cells r g gs false false other e f rest = rw (f, e) (ap (λ xs. g ∷ xs) rest)

apart : (owner : ℕ) (name : List ℕ) (len : ℕ) (cells : List Programs.Cell) (r : Section) (gs : List Programs.Segment) → bytes_eq name r.name ≡ false → Programs.with_section owner (Growing.with_segment_cells name len cells gs) r ≡ Growing.with_segment_cells name len cells (Programs.with_section owner gs r)
apart owner name len cells r [] other = grind (arith, common_steps, nat_list_eq_equiv)
apart owner name len cells r (g ∷ gs) other = apart_step owner name len cells r g gs (bytes_eq g.name name) (bytes_eq g.name r.name) other refl refl (apart owner name len cells r gs other)

ends_step : (name : List ℕ) (len : ℕ) (cells : List Programs.Cell) (r : List ℕ) (g : Programs.Segment) (gs : List Programs.Segment) (b c : Bool) → bytes_eq name r ≡ false → bytes_eq g.name name ≡ b → bytes_eq g.name r ≡ c → Programs.end_of (Growing.with_segment_cells name len cells gs) r ≡ Programs.end_of gs r → Programs.end_of (if b then Growing.with_cells len cells g ∷ gs else g ∷ Growing.with_segment_cells name len cells gs) r ≡ option_map_or (λ (x : Programs.Segment). x.size) (cond c (Some g) (find (λ (x : Programs.Segment). bytes_eq x.name r) gs)) 0
ends_step name len cells r g gs true true other e f rest = absurd (not_both g.name name r e f other)
ends_step name len cells r g gs true false other e f rest = rw f refl
ends_step name len cells r g gs false true other e f rest = rw f refl
ends_step name len cells r g gs false false other e f rest = rw f rest

ends : (name : List ℕ) (len : ℕ) (cells : List Programs.Cell) (r : List ℕ) (gs : List Programs.Segment) → bytes_eq name r ≡ false → Programs.end_of (Growing.with_segment_cells name len cells gs) r ≡ Programs.end_of gs r
ends name len cells r [] other = refl
ends name len cells r (g ∷ gs) other = ends_step name len cells r g gs (bytes_eq g.name name) (bytes_eq g.name r) other refl refl (ends name len cells r gs other)

place_apart : (name : List ℕ) (len : ℕ) (cells : List Programs.Cell) (r : Section) (gs : List Programs.Segment) → bytes_eq name r.name ≡ false → Programs.section_position (Growing.with_segment_cells name len cells gs) r ≡ Programs.section_position gs r
place_apart name len cells r gs other = ap (λ (n : ℕ). record { segment = r.name; offset = Programs.begin_after n r; size = section_len r }) (ends name len cells r.name gs other)

-- no section has this name
abbrev pub IsOther : List ℕ → List Section → Type 0
IsOther name ss = list_any (λ (r : Section). bytes_eq name r.name) ss ≡ false

neither : (a b : Bool) → (a || b) ≡ false → (a ≡ false) × (b ≡ false)
neither true b e = cc
neither false b e = (refl, e)

tail_sections : (owner : ℕ) (name : List ℕ) (len : ℕ) (cells : List Programs.Cell) (ss : List Section) (gs : List Programs.Segment) → IsOther name ss → Programs.with_sections owner (Growing.with_segment_cells name len cells gs) ss ≡ Growing.with_segment_cells name len cells (Programs.with_sections owner gs ss)
tail_sections owner name len cells [] gs other = refl
tail_sections owner name len cells (r ∷ ss) gs other =
    let o = neither (bytes_eq name r.name) _ other in
    ap (λ (hs : List Programs.Segment). Programs.with_sections owner hs ss) (apart owner name len cells r gs o.0) ∙ tail_sections owner name len cells ss (Programs.with_section owner gs r) o.1

tail_places : (owner : ℕ) (name : List ℕ) (len : ℕ) (cells : List Programs.Cell) (ss : List Section) (gs : List Programs.Segment) → IsOther name ss → Programs.section_positions owner (Growing.with_segment_cells name len cells gs) ss ≡ Programs.section_positions owner gs ss
tail_places owner name len cells [] gs other = refl
tail_places owner name len cells (r ∷ ss) gs other =
    let o = neither (bytes_eq name r.name) _ other in
    ap (λ (p : SectionPosition). p ∷ Programs.section_positions owner (Programs.with_section owner (Growing.with_segment_cells name len cells gs) r) ss) (place_apart name len cells r gs o.0)
    ∙ ap (λ (hs : List Programs.Segment). Programs.section_position gs r ∷ Programs.section_positions owner hs ss) (apart owner name len cells r gs o.0)
    ∙ ap (λ ps. Programs.section_position gs r ∷ ps) (tail_places owner name len cells ss (Programs.with_section owner gs r) o.1)

-- ---- The section at an index.

-- the sections have distinct names
abbrev pub AreApart : List Section → Type 0
AreApart [] = Unit {0}
AreApart (s ∷ ss) = IsOther s.name ss × AreApart ss

place_longer : (owner : ℕ) (f : Fragment) (s t : Section) (gs : List Programs.Segment) → IsLonger owner f s t → Programs.section_position gs t ≡ Growing.with_added_size (Programs.section_position gs s) (fragment_len f)
place_longer owner f s t gs l = grind (arith, common_steps)

-- the segments and positions after one section gets one further fragment
pub record Grows (owner : ℕ) (f : Fragment) (s : Section) (gs : List Programs.Segment) (ss ts : List Section) (k : ℕ) : Type 0 where
  pub segments : Programs.with_sections owner gs ts ≡ Growing.with_segment_cells s.name (fragment_len f) (Programs.fragment_cells owner f) (Programs.with_sections owner gs ss)
  pub placement : SectionPosition
  pub there : slice_get (Programs.section_positions owner gs ss) k ≡ Some placement
  pub named : placement.segment ≡ s.name
  pub placements : Programs.section_positions owner gs ts ≡ slice_set (Programs.section_positions owner gs ss) k (Growing.with_added_size placement (fragment_len f))

pub grows : (owner : ℕ) (f : Fragment) (s t : Section) (gs : List Programs.Segment) (ss : List Section) (k : ℕ) → slice_get ss k ≡ Some s → IsLonger owner f s t → AreApart ss → Grows owner f s gs ss (slice_set ss k t) k
grows owner f s t gs [] k there l apart = cc
grows owner f s t gs (x ∷ ss) zero there l apart =
    let same : x ≡ s = cc in
    let other : IsOther s.name ss = subst (λ (y : Section). IsOther y.name ss) same apart.0 in
    let len = fragment_len f in
    let cells = Programs.fragment_cells owner f in
    let head = head_longer owner f s t gs l in
    let hs = Programs.with_section owner gs s in
    subst (λ (y : Section). Grows owner f s gs (y ∷ ss) (t ∷ ss) zero) (sym same) (record {
      segments = ap (λ (is : List Programs.Segment). Programs.with_sections owner is ss) head ∙ tail_sections owner s.name len cells ss hs other;
      placement = Programs.section_position gs s;
      there = refl;
      named = refl;
      placements = ap (λ (p : SectionPosition). p ∷ Programs.section_positions owner (Programs.with_section owner gs t) ss) (place_longer owner f s t gs l)
          ∙ ap (λ (is : List Programs.Segment). Growing.with_added_size (Programs.section_position gs s) len ∷ Programs.section_positions owner is ss) head
          ∙ ap (λ ps. Growing.with_added_size (Programs.section_position gs s) len ∷ ps) (tail_places owner s.name len cells ss hs other);
    })
grows owner f s t gs (x ∷ ss) (suc k) there l apart =
    let rest = grows owner f s t (Programs.with_section owner gs x) ss k there l apart.1 in
    record {
      segments = rest.segments;
      placement = rest.placement;
      there = rest.there;
      named = rest.named;
      placements = ap (λ ps. Programs.section_position gs x ∷ ps) rest.placements;
    }

-- ---- An item.

others : (name : List ℕ) (ds : List Draft) → is_among (map (λ d. d.name) ds) name ≡ false → IsOther name (map Scanning.section_from ds)
others name [] other = refl
others name (d ∷ ds) other =
    let o = neither (bytes_eq name d.name) _ other in
    or_not (bytes_eq name d.name) _ o.0 (others name ds o.1)
  where
    or_not : (a b : Bool) → a ≡ false → b ≡ false → (a || b) ≡ false
    or_not true b e f = cc
    or_not false b e f = f

names_apart : (ds : List Draft) → are_names (map (λ d. d.name) ds) ≡ true → AreApart (map Scanning.section_from ds)
names_apart [] names = tt
names_apart (d ∷ ds) names =
    let rest = map (λ (x : Draft). x.name) ds in
    let a = left (is_name d.name && not (is_among rest d.name)) (are_names rest) names in
    let other = turned (is_among rest d.name) (right (is_name d.name) (not (is_among rest d.name)) a) in
    (others d.name ds other, names_apart ds (right (is_name d.name && not (is_among rest d.name)) (are_names rest) names))

-- the program with the part of a module that was read, in terms of its segments and section positions
abbrev made : Program → Scanning.State → List Programs.Segment → List SectionPosition → Growing.PartialProgram
made p s gs placements = record {
  program = record { members = p.members; segments = gs; exports = p.exports ++ map (linked_export (length p.members)) s.exports; asserts = p.asserts ++ map (linked_assertion (length p.members)) s.asserts };
  sections = placements;
  imports = s.imports;
  files = s.files;
}

by_sections : (p : Program) (s : Scanning.State) (xs ys : List Section) → xs ≡ ys → made p s (Programs.with_sections (length p.members) p.segments xs) (Programs.section_positions (length p.members) p.segments xs) ≡ made p s (Programs.with_sections (length p.members) p.segments ys) (Programs.section_positions (length p.members) p.segments ys)
by_sections p s xs ys same = ap (λ (zs : List Section). made p s (Programs.with_sections (length p.members) p.segments zs) (Programs.section_positions (length p.members) p.segments zs)) same

-- the case of a fragment of a section that exists
part_step : (p : Program) (s : Scanning.State) (k offset : ℕ) (f : Fragment) (d : Draft) → are_names (map (λ x. x.name) s.drafts) ≡ true → slice_get s.drafts k ≡ Some d → Growing.partial_program_of p (Items.with_item s (item.Part k offset f)) ≡ Growing.program_with_item (Growing.partial_program_of p s) (item.Part k offset f)
part_step p s k offset f d names there =
    let owner = length p.members in
    let len = fragment_len f in
    let cells = Programs.fragment_cells owner f in
    let ss = map Scanning.section_from s.drafts in
    let gs = Programs.with_sections owner p.segments ss in
    let placements = Programs.section_positions owner p.segments ss in
    let t = Scanning.section_from (Items.draft_with_fragment d f) in
    let found : slice_get ss k ≡ Some (Scanning.section_from d) = slice_get-map Scanning.section_from s.drafts k ∙ ap (option_map Scanning.section_from) there in
    let g = grows owner f (Scanning.section_from d) t p.segments ss k found (grown_longer owner d f) (names_apart s.drafts names) in
    let now : map Scanning.section_from (Items.drafts_with_fragment s.drafts k f) ≡ slice_set ss k t = ap (λ (o : Option Draft). map Scanning.section_from (Items.drafts_with_fragment_at s.drafts k f o)) there ∙ map-set Scanning.section_from s.drafts k (Items.draft_with_fragment d f) in
    by_sections p s (map Scanning.section_from (Items.drafts_with_fragment s.drafts k f)) (slice_set ss k t) now
    ∙ ap (λ (hs : List Programs.Segment). made p s hs (Programs.section_positions owner p.segments (slice_set ss k t))) g.segments
    ∙ ap (made p s (Growing.with_segment_cells d.name len cells gs)) g.placements
    ∙ ap (λ (n : List ℕ). made p s (Growing.with_segment_cells n len cells gs) (slice_set placements k (Growing.with_added_size g.placement len))) (sym g.named)
    ∙ sym (ap (Growing.with_section_fragment (Growing.partial_program_of p s) k f) g.there)

section_step : (p : Program) (s : Scanning.State) (name : List ℕ) (size align : ℕ) → Growing.partial_program_of p (Items.with_item s (item.Section name size align)) ≡ Growing.program_with_item (Growing.partial_program_of p s) (item.Section name size align)
section_step p s name size align = grind (arith, common_steps, map-append, by_sections, snoc_sections, snoc_places)

pushed : {A B : Type 0} (f : A → B) (old : List B) (xs : List A) (x : A) → old ++ map f (xs ++ x ∷ []) ≡ (old ++ map f xs) ++ f x ∷ []
pushed f old xs x = ap (λ ys. old ++ ys) (map-append f xs (x ∷ [])) ∙ sym (append_assoc old (map f xs) (f x ∷ []))

-- adding an item to the part of a module that was read adds it to the partial program
pub item_step : (p : Program) (s : Scanning.State) (i : Item) → are_names (map (λ d. d.name) s.drafts) ≡ true → IsPlaced s.drafts i → Growing.partial_program_of p (Items.with_item s i) ≡ Growing.program_with_item (Growing.partial_program_of p s) i
item_step p s (item.File name) names placed = refl
item_step p s (item.Import name) names placed = refl
item_step p s (item.Section name size align) names placed = section_step p s name size align
item_step p s (item.Part k offset f) names placed = part_step p s k offset f placed.0 names placed.1
item_step p s (item.Export name origin form) names placed = grind (arith, common_steps, pushed)
item_step p s (item.Assert action origin text form) names placed = grind (arith, common_steps, pushed)
item_step p s item.End names placed = refl

-- closing the open module adds it to the program
pub whole_module : (p : Program) (name : List ℕ) (s : Scanning.State) → Growing.closed_program (Growing.partial_program_of p s) name ≡ with_module p (Growing.module_from name s)
whole_module p name s = refl

-- before the first record the partial program has no open module
pub nothing_yet : (p : Program) (version : ℕ) → Growing.partial_program_of p (Scanning.start version) ≡ Growing.without_open_module p
nothing_yet p version = grind (arith, common_steps)

pub growth_law : Growing.ItemsBuildProgram
growth_law = (λ p s e x r h. item_step p s x.1 (reached_parts s r).names (led s (outline_of s) e x refl h).2, nothing_yet, whole_module)
