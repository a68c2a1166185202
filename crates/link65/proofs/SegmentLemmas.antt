-- Segments by index and by name, and the start of a section in its segment.
use Rattle.std.proofs.lemmas.Grind.{common_steps}
use Rattle.std.proofs.Common.{◌≡◌, ◌∙◌, ℕ, suc, List, [], ◌∷◌, ◌++◌, length, map, cond, Option, Some, None, Bool, true, false, if◌then◌else◌, refl, sym, ap, subst, arith, ◌||◌, slice_get, ◌<◌, zero, ◌-◌, ◌^◌, get_or, Ok, Result}
use Rattle.std.specs.Prelude.{slice_set, position, max}
use Rattle.std.proofs.lemmas.Cmp.{nat_list_eq_equiv}
use Rattle.std.specs.List.{list_any}
use Rattle.std.proofs.lemmas.List.{length-map, map-set}
use Rattle.std.specs.Option.{option_map}
use Rattle.std.specs.Str.{bytes_eq}
use Rattle.object65.specs.declared.object.Section.{Section}
use Rattle.link65.specs.declared.parts.SegmentContent.{SegmentContent}
use Rattle.link65.specs.CodeInvariants.{segments_from, segment_from, segment_index, with_name, partial_program_in, with_partial_segments, names_in, with_gap}
use Rattle.link65.specs.Growing.{with_cells, with_segment_cells, with_added_size, PartialProgram, empty_section, with_empty_section, with_section_fragment, with_segments}
use Rattle.link65.specs.Programs
use Rattle.link65.specs.Programs.{Segment, segment_of}
use Rattle.std.proofs.lemmas.Option.{slice_get-map, slice_get_read}
use Rattle.link65.specs.declared.parts.SectionPosition.{SectionPosition}
use Rattle.object65.specs.declared.object.Fragment.{Fragment}
use Rattle.object65.specs.Objects.{fragment_len}
use Rattle.script65.specs.Placing.{rounded_up}
use Rattle.link65.specs.declared.fault.LinkFault.{LinkFault}
use Rattle.link65.specs.declared.building.ProgramBuilder.{ProgramBuilder}

-- ---- Segments by index.

pub at_front : {X : Type 0} (p : X → Bool) (x : X) (xs : List X) → p x ≡ true → position p (x ∷ xs) ≡ Some 0
at_front p x xs passes = grind (arith, common_steps)

pub after_front : {X : Type 0} (p : X → Bool) (x : X) (xs : List X) → p x ≡ false → position p (x ∷ xs) ≡ option_map suc (position p xs)
after_front p x xs stops = grind (arith, common_steps)

mapped_step : {A X : Type 0} (p : X → Bool) (f : A → X) (x : A) (xs : List A) (b : Bool) → p (f x) ≡ b → position p (map f xs) ≡ position (λ y. p (f y)) xs → position p (f x ∷ map f xs) ≡ position (λ y. p (f y)) (x ∷ xs)
mapped_step p f x xs true is rest = at_front p (f x) (map f xs) is ∙ sym (at_front (λ y. p (f y)) x xs is)
mapped_step p f x xs false is rest = after_front p (f x) (map f xs) is ∙ ap (option_map suc) rest ∙ sym (after_front (λ y. p (f y)) x xs is)

-- the position in a mapped list
pub position_map : {A X : Type 0} (p : X → Bool) (f : A → X) (xs : List A) → position p (map f xs) ≡ position (λ y. p (f y)) xs
position_map p f [] = refl
position_map p f (x ∷ xs) = mapped_step p f x xs (p (f x)) refl (position_map p f xs)

none_next : (r : Option ℕ) → option_map suc r ≡ None → r ≡ None
none_next x e = grind (arith, common_steps)

none_step : {X : Type 0} (p : X → Bool) (x : X) (xs : List X) (b : Bool) → p x ≡ b → position p (x ∷ xs) ≡ None → (b ≡ false) × (position p xs ≡ None)
none_step p x xs true is none = let e : ◌≡◌ {A = Option ℕ} (Some 0) None = sym (at_front p x xs is) ∙ none in cc
none_step p x xs false is none = (refl, none_next (position p xs) (sym (after_front p x xs is) ∙ none))

-- if no position is found, no element satisfies the predicate
pub none_among : {X : Type 0} (p : X → Bool) (xs : List X) → position p xs ≡ None → list_any p xs ≡ false
none_among p [] none = refl
none_among p (x ∷ xs) none =
    let s = none_step p x xs (p x) refl none in
    ap (λ b. b || list_any p xs) s.0 ∙ none_among p xs s.1

-- if only the last element satisfies the predicate, its position is the last index
pub place_last : {X : Type 0} (p : X → Bool) (xs : List X) (y : X) → position p xs ≡ None → p y ≡ true → position p (xs ++ y ∷ []) ≡ Some (length xs)
place_last p [] y none passes = at_front p y [] passes
place_last p (x ∷ xs) y none passes =
    let s = none_step p x xs (p x) refl none in
    after_front p x (xs ++ y ∷ []) s.0 ∙ ap (option_map suc) (place_last p xs y s.1 passes)

pub same_length : {A B X : Type 0} (f : A → X) (g : B → X) (xs : List A) (ys : List B) → map f xs ≡ map g ys → length xs ≡ length ys
same_length f g xs ys e = sym (length-map xs f) ∙ ap length e ∙ length-map ys g

abbrev names_of : List Programs.Segment → List (List ℕ)
names_of gs = map (λ g. g.name) gs

there_step : (name : List ℕ) (i : ℕ) (g : Programs.Segment) (gs : List Programs.Segment) (b : Bool) → bytes_eq name g.name ≡ b → ((j : ℕ) → segment_index name (names_of gs) ≡ Some j → with_name name gs ≡ gs) → segment_index name (g.name ∷ names_of gs) ≡ Some i → with_name name (g ∷ gs) ≡ g ∷ gs
there_step name i g gs true is rest there = grind (arith, common_steps, nat_list_eq_equiv)
there_step name i g gs false is rest there = grind (arith, common_steps)

-- if a segment of this name exists, none is added
pub with_name_there : (name : List ℕ) (gs : List Programs.Segment) (i : ℕ) → segment_index name (names_of gs) ≡ Some i → with_name name gs ≡ gs
with_name_there name [] i there = cc
with_name_there name (g ∷ gs) i there = there_step name i g gs (bytes_eq name g.name) refl (with_name_there name gs) there

-- otherwise one is added after the others
pub with_name_new : (name : List ℕ) (gs : List Programs.Segment) → segment_index name (names_of gs) ≡ None → with_name name gs ≡ gs ++ Programs.empty_segment name ∷ []
with_name_new name [] none = refl
with_name_new name (g ∷ gs) none =
    let s = none_step (bytes_eq name) g.name (names_of gs) (bytes_eq name g.name) refl none in
    let back : bytes_eq g.name name ≡ false = (nat_list_eq_equiv).symm g.name name ∙ s.0 in
    rw back (ap (λ hs. g ∷ hs) (with_name_new name gs s.1))

pub segment_names : (cs : List SegmentContent) → names_of (segments_from cs) ≡ map (λ c. c.name) cs
segment_names [] = refl
segment_names (c ∷ cs) = ap (λ ns. c.name ∷ ns) (segment_names cs)

-- ---- Changes to the segment at an index.

pub record AtPlace (name : List ℕ) (gs : List Programs.Segment) (i : ℕ) : Type 0 where
  pub segment : Programs.Segment
  pub there : slice_get gs i ≡ Some segment
  pub end : Programs.end_of gs name ≡ segment.size
  pub section : (owner : ℕ) (s : Section) → s.name ≡ name → Programs.with_section owner gs s ≡ slice_set gs i (Programs.segment_with_section owner segment s)
  pub more : (len : ℕ) (cells : List Programs.Cell) → with_segment_cells name len cells gs ≡ slice_set gs i (with_cells len cells segment)

here : (name : List ℕ) (g : Programs.Segment) (gs : List Programs.Segment) → bytes_eq g.name name ≡ true → AtPlace name (g ∷ gs) 0
here name g gs is = record {
  segment = g;
  there = refl;
  end = rw is refl;
  section = λ owner s same. ap (λ (n : List ℕ). if bytes_eq g.name n then Programs.segment_with_section owner g s ∷ gs else g ∷ Programs.with_section owner gs s) same ∙ ap (λ b. if b then Programs.segment_with_section owner g s ∷ gs else g ∷ Programs.with_section owner gs s) is;
  more = λ len cells. rw is refl;
}

further : (name : List ℕ) (g : Programs.Segment) (gs : List Programs.Segment) (i : ℕ) → bytes_eq g.name name ≡ false → AtPlace name gs i → AtPlace name (g ∷ gs) (suc i)
further name g gs i is a = grind (arith, common_steps)

place_step : (name : List ℕ) (i : ℕ) (g : Programs.Segment) (gs : List Programs.Segment) (b : Bool) → bytes_eq name g.name ≡ b → ((j : ℕ) → segment_index name (names_of gs) ≡ Some j → AtPlace name gs j) → segment_index name (g.name ∷ names_of gs) ≡ Some i → AtPlace name (g ∷ gs) i
place_step name i g gs true is rest there = grind (arith, common_steps, at_front, here, nat_list_eq_equiv)
place_step name i g gs false is rest there =
    let p = some_next (segment_index name (names_of gs)) i (sym (after_front (bytes_eq name) g.name (names_of gs) is) ∙ there) in
    subst (AtPlace name (g ∷ gs)) p.2 (further name g gs p.0 ((nat_list_eq_equiv).symm g.name name ∙ is) (rest p.0 p.1))
  where
    some_next : (r : Option ℕ) (i : ℕ) → option_map suc r ≡ Some i → (j : ℕ) × (r ≡ Some j) × (suc j ≡ i)
    some_next x i e = grind (arith, common_steps)

pub at_place : (name : List ℕ) (gs : List Programs.Segment) (i : ℕ) → segment_index name (names_of gs) ≡ Some i → AtPlace name gs i
at_place name [] i there = cc
at_place name (g ∷ gs) i there = place_step name i g gs (bytes_eq name g.name) refl (at_place name gs) there

-- ---- Adding an empty segment first doesn't change the result.

same_name : (n : List ℕ) → bytes_eq n n ≡ true
same_name n = (nat_list_eq_equiv).refl n

begun_step : (owner : ℕ) (s : Section) (g : Programs.Segment) (gs : List Programs.Segment) (b : Bool) → bytes_eq g.name s.name ≡ b → Programs.with_section owner (with_name s.name gs) s ≡ Programs.with_section owner gs s → Programs.with_section owner (if b then g ∷ gs else g ∷ with_name s.name gs) s ≡ (if b then Programs.segment_with_section owner g s ∷ gs else g ∷ Programs.with_section owner gs s)
begun_step owner s g gs true is rest = rw is refl
begun_step owner s g gs false is rest = rw is (ap (λ hs. g ∷ hs) rest)

pub begun_section : (owner : ℕ) (s : Section) (gs : List Programs.Segment) → Programs.with_section owner (with_name s.name gs) s ≡ Programs.with_section owner gs s
begun_section owner s [] = rw (same_name s.name) refl
begun_section owner s (g ∷ gs) = begun_step owner s g gs (bytes_eq g.name s.name) refl (begun_section owner s gs)

end_step : (name : List ℕ) (g : Programs.Segment) (gs : List Programs.Segment) (b : Bool) → bytes_eq g.name name ≡ b → Programs.end_of (with_name name gs) name ≡ Programs.end_of gs name → Programs.end_of (if b then g ∷ gs else g ∷ with_name name gs) name ≡ Programs.end_of (g ∷ gs) name
end_step name g gs true is rest = refl
end_step name g gs false is rest = rw is rest

pub begun_end : (name : List ℕ) (gs : List Programs.Segment) → Programs.end_of (with_name name gs) name ≡ Programs.end_of gs name
begun_end name [] = rw (same_name name) refl
begun_end name (g ∷ gs) = end_step name g gs (bytes_eq g.name name) refl (begun_end name gs)

-- ---- Segments by name.

-- the segment at an index, if there is one
abbrev pub at_most : List SegmentContent → Option ℕ → Option Segment
at_most cs None = None
at_most cs (Some i) = option_map segment_from (slice_get cs i)

abbrev content_names : List SegmentContent → List (List ℕ)
content_names cs = map (λ c. c.name) cs

place_further : (c : SegmentContent) (cs : List SegmentContent) (o : Option ℕ) → at_most (c ∷ cs) (option_map suc o) ≡ at_most cs o
place_further c cs x = grind (arith, common_steps)

found_step : (name : List ℕ) (c : SegmentContent) (cs : List SegmentContent) (b : Bool) → bytes_eq c.name name ≡ b → segment_of (segments_from cs) name ≡ at_most cs (segment_index name (content_names cs)) → cond b (Some (segment_from c)) (segment_of (segments_from cs) name) ≡ at_most (c ∷ cs) (segment_index name (c.name ∷ content_names cs))
found_step name c cs true is rest = grind (arith, common_steps, at_front, nat_list_eq_equiv)
found_step name c cs false is rest = grind (arith, common_steps, place_further, after_front, nat_list_eq_equiv)

-- the segment of a name is the segment at the index of the name
pub found_at : (name : List ℕ) (cs : List SegmentContent) → segment_of (segments_from cs) name ≡ at_most cs (segment_index name (content_names cs))
found_at name [] = refl
found_at name (c ∷ cs) = ap (λ b. cond b (Some (segment_from c)) (segment_of (segments_from cs) name)) refl ∙ found_step name c cs (bytes_eq c.name name) refl (found_at name cs)

-- ---- The indices of the segments of the open module's sections.

abbrev pub places_of : List (List ℕ) → List SectionPosition → List (Option ℕ)
places_of names ss = map (λ s. segment_index s.segment names) ss

some_next : (r : Option ℕ) (i : ℕ) → option_map suc r ≡ Some i → (j : ℕ) × (r ≡ Some j) × (suc j ≡ i)
some_next None i e = cc
some_next (Some j) i e = let same : suc j ≡ i = cc in (j, refl, same)

stay_step : {X : Type 0} (p : X → Bool) (x : X) (xs more : List X) (i : ℕ) (b : Bool) → p x ≡ b → position p (x ∷ xs) ≡ Some i → ((j : ℕ) → position p xs ≡ Some j → position p (xs ++ more) ≡ Some j) → position p (x ∷ (xs ++ more)) ≡ Some i
stay_step p x xs more i true is e rest = at_front p x (xs ++ more) is ∙ sym (at_front p x xs is) ∙ e
stay_step p x xs more i false is e rest = grind (arith, common_steps, some_next, after_front)

-- a position doesn't change if elements are added at the end
place_stays : {X : Type 0} (p : X → Bool) (xs more : List X) (i : ℕ) → position p xs ≡ Some i → position p (xs ++ more) ≡ Some i
place_stays p [] more i e = cc
place_stays p (x ∷ xs) more i e = stay_step p x xs more i (p x) refl e (place_stays p xs more)

pub places_stay : (names more : List (List ℕ)) (ss : List SectionPosition) (indices : List ℕ) → places_of names ss ≡ map Some indices → places_of (names ++ more) ss ≡ map Some indices
places_stay names more [] [] e = refl
places_stay names more [] (i ∷ indices) e = cc
places_stay names more (s ∷ ss) [] e = cc
places_stay names more (s ∷ ss) (i ∷ indices) e =
    let here : segment_index s.segment names ≡ Some i = cc in
    let first : segment_index s.segment (names ++ more) ≡ Some i = place_stays _ names more i here in
    let there : places_of names ss ≡ map Some indices = cc in
    let rest : places_of (names ++ more) ss ≡ map Some indices = places_stay names more ss indices there in
    cc

pub place_within : {X : Type 0} (p : X → Bool) (xs : List X) (i : ℕ) → position p xs ≡ Some i → i < length xs
place_within p xs i e = grind (arith, common_steps)

some_there : {A : Type 0} (xs : List A) (i : ℕ) → i < length xs → (x : A) × (slice_get xs i ≡ Some x)
some_there [] i lt = absurd (omega arith)
some_there (x ∷ xs) zero lt = (x, refl)
some_there (x ∷ xs) (suc i) lt = some_there xs i (omega arith)

some_same : {A : Type 0} (x y : A) → ◌≡◌ {A = Option A} (Some x) (Some y) → x ≡ y
some_same x y e = cc

-- a section at an index, and the index of its segment
pub section_there : (names : List (List ℕ)) (ss : List SectionPosition) (indices : List ℕ) (k at : ℕ) → places_of names ss ≡ map Some indices → k < length ss → slice_get indices k ≡ Some at → (s : SectionPosition) × (slice_get ss k ≡ Some s) × (segment_index s.segment names ≡ Some at)
section_there names ss indices k at e lt there =
    let s = some_there ss k lt in
    let f : SectionPosition → Option ℕ = λ x. segment_index x.segment names in (
      s.0,
      s.1,
      some_same (f s.0) (Some at)
          (sym (slice_get-map f ss k ∙ ap (option_map f) s.1) ∙ ap (λ (xs : List (Option ℕ)). slice_get xs k) e ∙ slice_get-map Some indices k ∙ ap (option_map Some) there),
    )

-- ---- Sections that are added or get longer.

pub section_more : (names : List (List ℕ)) (ss : List SectionPosition) (indices : List ℕ) (s : SectionPosition) (at : ℕ) → places_of names ss ≡ map Some indices → segment_index s.segment names ≡ Some at → places_of names (ss ++ s ∷ []) ≡ map Some (indices ++ at ∷ [])
section_more names ss indices s at e here = grind (arith, common_steps)

pub longer_stays : (names : List (List ℕ)) (ss : List SectionPosition) (k : ℕ) (s : SectionPosition) (n : ℕ) → slice_get ss k ≡ Some s → places_of names (slice_set ss k (with_added_size s n)) ≡ places_of names ss
longer_stays names [] k s n e = cc
longer_stays names (x ∷ ss) zero s n e = grind (arith, common_steps)
longer_stays names (x ∷ ss) (suc k) s n e = ap (λ l. segment_index x.segment names ∷ l) (longer_stays names ss k s n e)

-- ---- A section begins in its segment.

-- a segment with one further section, which is empty
opened_is : (owner m : ℕ) (g h : Programs.Segment) (name : List ℕ) (align : ℕ) → m ≡ 2 ^ align → h ≡ record (with_gap (rounded_up g.size m - g.size) g) { size = rounded_up g.size m; align = max g.align m } → h ≡ Programs.segment_with_section owner g (empty_section name align)
opened_is owner m g h name align is opened = grind (arith, common_steps)

abbrev pub put : PartialProgram → List Programs.Segment → List SectionPosition → PartialProgram
put g gs placements = record { program = with_segments g.program gs; sections = placements; imports = g.imports; files = g.files }

pub bare_begun : (g : PartialProgram) (mid : ProgramBuilder) (at m begin : ℕ) (c h : SegmentContent) (name : List ℕ) (align : ℕ) → partial_program_in mid ≡ with_partial_segments g (with_name name g.program.segments) → names_in mid ≡ map (λ x. x.name) mid.contents.items → segment_index name (names_in mid) ≡ Some at → at < length mid.contents.items → c ≡ get_or mid.contents.items at c → m ≡ 2 ^ align → segment_from h ≡ record (with_gap (rounded_up c.size m - c.size) (segment_from c)) { size = rounded_up c.size m; align = max c.align m } → ◌≡◌ {A = Result ℕ LinkFault} (Ok (rounded_up c.size m)) (Ok begin) → put (partial_program_in mid) (segments_from (slice_set mid.contents.items at h)) (mid.sections.items ++ (record { segment = name; offset = begin; size = 0 }) ∷ []) ≡ with_empty_section g (empty_section name align)
bare_begun g mid at m begin c h name align grew named there within is alignment opened answered =
    let begins : begin ≡ rounded_up c.size m = cc in
    let cs = mid.contents.items in
    let gs = g.program.segments in
    let owner = length g.program.members in
    let bare = empty_section name align in
    let all : segments_from cs ≡ with_name name gs = ap (λ (x : PartialProgram). x.program.segments) grew in
    let index : segment_index name (map (λ (x : Programs.Segment). x.name) (segments_from cs)) ≡ Some at = ap (segment_index name) (segment_names cs ∙ sym named) ∙ there in
    let a = at_place name (segments_from cs) at index in
    let found : slice_get (segments_from cs) at ≡ Some (segment_from c) = slice_get-map segment_from cs at ∙ ap (option_map segment_from) (slice_get_read cs (length cs) at c refl within is) in
    let same : a.segment ≡ segment_from c = some_same a.segment (segment_from c) (sym a.there ∙ found) in
    let now : segments_from (slice_set cs at h) ≡ Programs.with_section owner gs bare =
    map-set segment_from cs at h
    ∙ ap (slice_set (segments_from cs) at) (opened_is owner m (segment_from c) (segment_from h) name align alignment opened)
    ∙ ap (λ (x : Programs.Segment). slice_set (segments_from cs) at (Programs.segment_with_section owner x bare)) (sym same)
    ∙ sym (a.section owner bare refl)
    ∙ ap (λ (hs : List Programs.Segment). Programs.with_section owner hs bare) all
    ∙ begun_section owner bare gs in
    let end : Programs.end_of gs name ≡ c.size = sym (begun_end name gs) ∙ ap (λ (hs : List Programs.Segment). Programs.end_of hs name) (sym all) ∙ a.end ∙ ap (λ (x : Programs.Segment). x.size) same in
    let offset : begin ≡ Programs.begin_after (Programs.end_of gs name) bare = begins ∙ ap (rounded_up c.size) alignment ∙ ap (λ n. rounded_up n (2 ^ align)) (sym end) in
    let placed : List SectionPosition → ℕ → List SectionPosition = λ old b. old ++ (record { segment = name; offset = b; size = 0 }) ∷ [] in
    let placements : mid.sections.items ≡ g.sections = ap (λ (x : PartialProgram). x.sections) grew in
    ap (λ (x : PartialProgram). put x (segments_from (slice_set cs at h)) (placed mid.sections.items begin)) grew
    ∙ ap (λ (hs : List Programs.Segment). put g hs (placed mid.sections.items begin)) now
    ∙ ap (λ (old : List SectionPosition). put g (Programs.with_section owner gs bare) (placed old begin)) placements
    ∙ ap (λ b. put g (Programs.with_section owner gs bare) (placed g.sections b)) offset

-- ---- A fragment is added to its section's segment.

of_content : (r : Option SegmentContent) (s : Programs.Segment) → option_map segment_from r ≡ Some s → (x : SegmentContent) × (r ≡ Some x) × (segment_from x ≡ s)
of_content x s e = grind (arith, common_steps)

pub part_added : (g : ProgramBuilder) (k at : ℕ) (f : Fragment) (p : SectionPosition) (contents : List SegmentContent) (sections : List SectionPosition) → names_in g ≡ map (λ x. x.name) g.contents.items → slice_get g.sections.items k ≡ Some p → segment_index p.segment (names_in g) ≡ Some at → ((x : SegmentContent) → slice_get g.contents.items at ≡ Some x → segments_from contents ≡ slice_set (segments_from g.contents.items) at (with_cells (fragment_len f) (Programs.fragment_cells (length g.members) f) (segment_from x))) → sections ≡ slice_set g.sections.items k (with_added_size p (fragment_len f)) → put (partial_program_in g) (segments_from contents) sections ≡ with_section_fragment (partial_program_in g) k f (slice_get g.sections.items k)
part_added g k at f p contents sections named there index added lengthened =
    let cs = g.contents.items in
    let len = fragment_len f in
    let cells = Programs.fragment_cells (length g.members) f in
    let a = at_place p.segment (segments_from cs) at (ap (segment_index p.segment) (segment_names cs ∙ sym named) ∙ index) in
    let x = of_content (slice_get cs at) a.segment (sym (slice_get-map segment_from cs at) ∙ a.there) in
    ap (λ (hs : List Programs.Segment). put (partial_program_in g) hs sections) (added x.0 x.1 ∙ ap (λ (s : Programs.Segment). slice_set (segments_from cs) at (with_cells len cells s)) x.2 ∙ sym (a.more len cells))
    ∙ ap (put (partial_program_in g) (with_segment_cells p.segment len cells (segments_from cs))) lengthened
    ∙ sym (ap (with_section_fragment (partial_program_in g) k f) there)

pub same_item : {A : Type 0} (cs : List A) (at : ℕ) (x y : A) → at < length cs → x ≡ get_or cs at x → slice_get cs at ≡ Some y → x ≡ y
same_item cs at x y within is there = some_same x y (sym (slice_get_read cs (length cs) at x refl within is) ∙ there)
