-- The position of a statement in its segment's list is the start of the module's section plus the statement's offset.
use Rattle.std.proofs.lemmas.Grind.{common_steps}
use Rattle.std.proofs.Common.{◌≡◌, ℕ, zero, suc, ◌+◌, Bool, true, false, nat_eq, cond, List, [], ◌∷◌, ◌++◌, length, map, take, slice_get, filter, Some, refl, sym, ◌∙◌, ap, arith, ◌≢◌, ◌<◌, Option, None, subst, max, drop, ◌^◌}
use Rattle.std.specs.Prelude.{⊤}
use Rattle.std.specs.List.{AllByRecursion, position_from}
use Rattle.std.proofs.lemmas.Bool.Decides.{nat_tests}
use Rattle.std.proofs.lemmas.List.{append-nil, take-append-drop}
use Rattle.semantics65.specs.Symbols.{LaidOutStatement}
use Rattle.semantics65.specs.Layout.{Layout, with_grown_segment, layout_after, named_segments, new_segment, segment_index, segment_at, segments_after, powers}
use Rattle.whole65.specs.Segments.{SegmentItem, ModuleStatement, has_section, is_statement, preceding_items, largest_multiple, statement_item, module_statements_after, statements_in_segment, module_items, rounding, is_in_segment, end_of, segment_items_from, segment_name_at, position_of}
use Rattle.std.specs.Str.{bytes_eq}
use Rattle.std.proofs.lemmas.Iterator.Adapters.{position_from-zero}
use Rattle.syntax65.specs.declared.lexing.tokens.AddressSize.{AddressSize}
use Rattle.ast65.proofs.Lists.{bytes_swap}
use Rattle.semantics65.specs.declared.contents.Segment.{Segment}
use Rattle.ast65.specs.declared.language.Statement.{Statement}
use Rattle.syntax65.specs.declared.source_location.SourceLocation.{SourceLocation}
use Rattle.semantics65.proofs.Segments.{all_same, grown_length}
use Rattle.whole65.proofs.Offsets.{following_more, placed, largest_push}
use Rattle.whole65.proofs.Multiples.{equal, larger, multiple_of_multiple, power_positive, rounded, end_of-append, largest_power, shift_law}
use Rattle.whole65.specs.Offsets.{HasNoLineErrors, no_statement, following, ArePowers, IsMultiple, section_start_from, statements_with_segment, IsPower, section_start}
use Rattle.std.specs.Int.{next_multiple_of}
use Rattle.std.proofs.lemmas.List.Elements.{filter-append}
use Rattle.std.proofs.lemmas.Slice.Eq.{bytes_eq-Decides}
use Rattle.semantics65.specs.Numbering.{number_of, segment_power}

-- ---- The items of a list before a statement.

-- no item is the statement
abbrev pub IsAbsent : ℕ → ℕ → List SegmentItem → Type 0
IsAbsent owner index xs = AllByRecursion (λ x. is_statement owner index x ≡ false) xs

pub skipped : (owner index : ℕ) (xs rest : List SegmentItem) → IsAbsent owner index xs → preceding_items owner index (xs ++ rest) ≡ xs ++ preceding_items owner index rest
skipped owner index [] rest h = refl
skipped owner index (x ∷ xs) rest h = grind (arith, common_steps, (skipped owner index xs rest h.1))

apart : (n m : ℕ) → n ≢ m → nat_eq n m ≡ false
apart n m h = grind (arith, nat_tests)

pub alike : (n : ℕ) → nat_eq n n ≡ true
alike n = grind (arith, nat_tests)

-- ---- The other modules.

other_lines : (first owner index : ℕ) → first ≢ owner → (q : LaidOutStatement → Bool) (before ls : List LaidOutStatement) → IsAbsent owner index (map statement_item (filter (λ (x : ModuleStatement). q x.laid) (module_statements_after first before ls)))
other_lines first owner index h q before [] = tt
other_lines first owner index h q before (l ∷ ls) = grind (arith, common_steps, (other_lines first owner index h q (before ++ l ∷ []) ls), apart)

pub other_part : (first owner index : ℕ) → first ≢ owner → (y : Layout) (name : List ℕ) → IsAbsent owner index (module_items first y name)
other_part first owner index h y name = go (has_section y name)
  where
    go : (b : Bool) → IsAbsent owner index (cond b (rounding (largest_multiple (statements_in_segment first y name)) ∷ map statement_item (statements_in_segment first y name)) [])
    go true = (refl, other_lines first owner index h (is_in_segment y name) [] y.laid)
    go false = tt

-- ---- The module of the statement.

pub stopped : (owner index : ℕ) (q : LaidOutStatement → Bool) (before ls : List LaidOutStatement) (rest : List SegmentItem) (i : ℕ) (l : LaidOutStatement) → index ≡ length before + i → slice_get ls i ≡ Some l → q l ≡ true → preceding_items owner index (map statement_item (filter (λ (x : ModuleStatement). q x.laid) (module_statements_after owner before ls)) ++ rest) ≡ map statement_item (filter (λ (x : ModuleStatement). q x.laid) (module_statements_after owner before (take i ls)))
stopped owner index q before [] rest i l e s t = cc
stopped owner index q before (x ∷ ls) rest zero l e s t = grind (arith, common_steps, alike)
stopped owner index q before (x ∷ ls) rest (suc i) l e s t = grind (arith, common_steps, (stopped owner index q (before ++ x ∷ []) ls rest i l))

-- ---- The segment of each statement exists, and no two segments have one name.

-- no two segments have one name
abbrev pub Distinct : List Segment → Type 0
Distinct gs = (g h : ℕ) → g < length gs → h < length gs → bytes_eq (segment_at gs g).name (segment_at gs h).name ≡ true → g ≡ h

front_name : (gs : List Segment) (x : Segment) (g : ℕ) → g < length gs → (segment_at (gs ++ x ∷ []) g).name ≡ (segment_at gs g).name
front_name [] x g lt = absurd (omega arith)
front_name (y ∷ gs) x zero lt = refl
front_name (y ∷ gs) x (suc g) lt = front_name gs x g (omega arith)

last_name : (gs : List Segment) (x : Segment) → (segment_at (gs ++ x ∷ []) (length gs)).name ≡ x.name
last_name [] x = refl
last_name (y ∷ gs) x = last_name gs x

grown_name : (gs : List Segment) (i count alignment g : ℕ) → (segment_at (with_grown_segment gs i count alignment) g).name ≡ (segment_at gs g).name
grown_name [] i count alignment g = refl
grown_name (y ∷ gs) zero count alignment zero = refl
grown_name (y ∷ gs) zero count alignment (suc g) = refl
grown_name (y ∷ gs) (suc i) count alignment zero = refl
grown_name (y ∷ gs) (suc i) count alignment (suc g) = grown_name gs i count alignment g

absent : (gs : List Segment) (n : List ℕ) (i g : ℕ) → position_from (λ (k : Segment). bytes_eq k.name n) i gs ≡ None → g < length gs → bytes_eq (segment_at gs g).name n ≡ false
absent [] n i g e lt = absurd (omega arith)
absent (y ∷ gs) n i g e lt = grind (arith, common_steps, (absent gs n (i + 1)))

distinct_new : (gs : List Segment) (n : List ℕ) (own : AddressSize) → Distinct gs → segment_index gs n ≡ None → Distinct (gs ++ new_segment n own ∷ [])
distinct_new gs n own d e g h lt lt' same = grind (arith, common_steps, (front_name gs (new_segment n own)), (last_name gs (new_segment n own)), bytes_swap, (absent gs n 0 g), (absent gs n 0 h), (position_from-zero (λ (z : Segment). bytes_eq z.name n) gs))

distinct_named : (gs : List Segment) (n : List ℕ) (own : _) (place : Option ℕ) → Distinct gs → segment_index gs n ≡ place → Distinct (named_segments gs n own place)
distinct_named gs n own x1 d e = grind (arith, common_steps, distinct_new)

distinct_after : (gs : List Segment) (current count alignment : ℕ) (x : Statement) → Distinct gs → Distinct (segments_after gs current count alignment x)
distinct_after gs current count alignment x d = grind (arith, common_steps, distinct_named, grown_length, grown_name)

pub record Named (y : Layout) : Type 0 where
  pub distinct : Distinct y.cursor.segments
  pub standing : AllByRecursion (λ (l : LaidOutStatement). l.context.segment < length y.cursor.segments) y.laid

later : (y : Layout) (place : SourceLocation) (x : Statement) → y.cursor.current < length y.cursor.segments → Named y → Named (layout_after y place x)
later y place x here h = grind (arith, common_steps, following_more, distinct_after, all_same)

pub named : {y : Layout} → HasNoLineErrors y → Named y
named no_statement = record { distinct = λ g h lt lt' e. (let none : g ≡ 0 = omega (arith, lt) in let also : h ≡ 0 = omega (arith, lt') in none ∙ sym also); standing = tt }
named (following y place x d none) = later y place x (placed 0 d).here (named d)

-- ---- The statements of a segment by its name and by its index.

pub itself : (xs : List ℕ) → bytes_eq xs xs ≡ true
itself xs = grind (arith, bytes_eq-Decides xs xs)

name_or_number : (y : Layout) (g h : ℕ) → Distinct y.cursor.segments → g < length y.cursor.segments → h < length y.cursor.segments → bytes_eq (segment_name_at y h) (segment_name_at y g) ≡ nat_eq h g
name_or_number y g h d lg lh = grind (arith, common_steps, nat_tests, itself)

pub by_number : (owner : ℕ) (y : Layout) (g : ℕ) → Distinct y.cursor.segments → g < length y.cursor.segments → (before ls : List LaidOutStatement) → AllByRecursion (λ (l : LaidOutStatement). l.context.segment < length y.cursor.segments) ls → filter (λ (x : ModuleStatement). is_in_segment y (segment_name_at y g) x.laid) (module_statements_after owner before ls) ≡ statements_with_segment g (module_statements_after owner before ls)
by_number owner y g d lg before [] h = refl
by_number owner y g d lg before (l ∷ ls) h = grind (arith, common_steps, (by_number owner y g d lg (before ++ l ∷ []) ls h.1), name_or_number)

pub all_front : {A : Type 0} (P : A → Type 0) (xs : List A) (i : ℕ) → AllByRecursion P xs → AllByRecursion P (take i xs)
all_front P [] zero h = tt
all_front P [] (suc i) h = tt
all_front P (x ∷ xs) zero h = tt
all_front P (x ∷ xs) (suc i) h = (h.0, all_front P xs i h.1)

pub all_get : {A : Type 0} (P : A → Type 0) (xs : List A) (i : ℕ) (x : A) → AllByRecursion P xs → slice_get xs i ≡ Some x → P x
all_get P [] i x h e = cc
all_get P (y ∷ xs) zero x h e = let same : y ≡ x = cc in subst P same h.0
all_get P (y ∷ xs) (suc i) x h e = all_get P xs i x h.1 e

-- ---- A prefix of a module's statements.

lines_both : (owner : ℕ) (before xs ys : List LaidOutStatement) → module_statements_after owner before (xs ++ ys) ≡ module_statements_after owner before xs ++ module_statements_after owner (before ++ xs) ys
lines_both owner before [] ys = ap (λ b. module_statements_after owner b ys) (sym (append-nil before))
lines_both owner before (x ∷ xs) ys = grind (arith, common_steps, (lines_both owner (before ++ x ∷ []) xs ys))

pub powers_at : (g : ℕ) (xs : List ModuleStatement) → ArePowers xs → ArePowers (statements_with_segment g xs)
powers_at g [] h = tt
powers_at g (x ∷ xs) h = grind (arith, common_steps, (powers_at g xs h.1))

pub all_parts : {A : Type 0} (P : A → Type 0) (xs zs : List A) → AllByRecursion P (xs ++ zs) → AllByRecursion P xs × AllByRecursion P zs
all_parts P [] zs h = (tt, h)
all_parts P (x ∷ xs) zs h = let more = all_parts P xs zs h.1 in ((h.0, more.0), more.1)

front_multiple : (b : ℕ) (xs ys : List ModuleStatement) → ArePowers (xs ++ ys) → IsMultiple b (largest_multiple (xs ++ ys)) → IsMultiple b (largest_multiple xs)
front_multiple b xs ys p h =
    let powers = all_parts (λ (x : ModuleStatement). IsPower x.alignment) xs ys p in
    let both = larger (largest_multiple xs) (largest_multiple ys) (largest_power xs powers.0) (largest_power ys powers.1) in
    let whole : IsMultiple b (max (largest_multiple xs) (largest_multiple ys)) = subst (IsMultiple b) (largest_push xs ys) h in
    multiple_of_multiple b (largest_multiple xs) (max (largest_multiple xs) (largest_multiple ys)) whole both.first

module _ (owner index : ℕ) (y : Layout) (l : LaidOutStatement) (d : HasNoLineErrors y) (there : slice_get y.laid index ≡ Some l) where
  abbrev g : ℕ
  g = l.context.segment

  abbrev front : List ModuleStatement
  front = statements_with_segment g (module_statements_after owner [] (take index y.laid))

  abbrev after_front : List ModuleStatement
  after_front = statements_with_segment g (module_statements_after owner (take index y.laid) (drop index y.laid))

  in_order : statements_with_segment g (module_statements_after owner [] y.laid) ≡ front ++ after_front
  in_order =
      ap (λ ls. statements_with_segment g (module_statements_after owner [] ls)) (sym (take-append-drop index y.laid))
      ∙ ap (statements_with_segment g) (lines_both owner [] (take index y.laid) (drop index y.laid))
      ∙ filter-append (λ (x : ModuleStatement). nat_eq x.laid.context.segment g) (module_statements_after owner [] (take index y.laid)) (module_statements_after owner (take index y.laid) (drop index y.laid))

  below : g < length y.cursor.segments
  below = all_get (λ (k : LaidOutStatement). k.context.segment < length y.cursor.segments) y.laid index l (named d).standing there

  all_powers : ArePowers (front ++ after_front)
  all_powers = subst ArePowers in_order (powers_at g (module_statements_after owner [] y.laid) (placed owner d).powers)

  -- the statement's position in a list that begins with the module's items, counted from `position`
  pub in_part : (position : ℕ) (rest : List SegmentItem) → has_section y (segment_name_at y g) ≡ true → end_of position (preceding_items owner index (module_items owner y (segment_name_at y g) ++ rest)) ≡ next_multiple_of position (largest_multiple (statements_in_segment owner y (segment_name_at y g))) + l.context.offset
  in_part position rest asked =
      let n = named d in
      let all : statements_in_segment owner y (segment_name_at y g) ≡ statements_with_segment g (module_statements_after owner [] y.laid) = by_number owner y g n.distinct below [] y.laid n.standing in
      let alignment : ℕ = largest_multiple (statements_in_segment owner y (segment_name_at y g)) in
      let begin : ℕ = next_multiple_of position alignment in
      let power = largest_power (front ++ after_front) all_powers in
      let same : alignment ≡ largest_multiple (front ++ after_front) = ap largest_multiple (all ∙ in_order) in
      let positive = power_positive (largest_multiple (front ++ after_front)) power in
      let is_multiple : IsMultiple begin (largest_multiple (front ++ after_front)) = subst (λ m. IsMultiple (next_multiple_of position m) (largest_multiple (front ++ after_front))) (sym same) (rounded position (largest_multiple (front ++ after_front)) positive) in
      let yes : is_in_segment y (segment_name_at y g) l ≡ true = itself (segment_name_at y g) in
      let before : preceding_items owner index (map statement_item (statements_in_segment owner y (segment_name_at y g)) ++ rest) ≡ map statement_item front =
      stopped owner index (is_in_segment y (segment_name_at y g)) [] y.laid rest index l (omega arith) there yes
      ∙ ap (map statement_item) (by_number owner y g n.distinct below [] (take index y.laid) (all_front (λ (k : LaidOutStatement). k.context.segment < length y.cursor.segments) y.laid index n.standing)) in
      ap (λ b. end_of position (preceding_items owner index (cond b (rounding alignment ∷ map statement_item (statements_in_segment owner y (segment_name_at y g))) [] ++ rest))) asked
      ∙ ap (end_of begin) before
      ∙ shift_law front begin (all_parts (λ (x : ModuleStatement). IsPower x.alignment) front after_front all_powers).0 (front_multiple begin front after_front all_powers is_multiple)
      ∙ ap (λ n. begin + n) (sym ((placed owner d).offsets index l there))

-- ---- Induction on the modules.
from_module : (position first count owner index : ℕ) (ys : List Layout) (y : Layout) (l : LaidOutStatement) → owner ≡ first + count → slice_get ys count ≡ Some y → HasNoLineErrors y → slice_get y.laid index ≡ Some l → has_section y (segment_name_at y l.context.segment) ≡ true → end_of position (preceding_items owner index (segment_items_from first ys (segment_name_at y l.context.segment))) ≡ section_start_from position first ys (segment_name_at y l.context.segment) count + l.context.offset
from_module position first count owner index [] y l o e d there asked = cc
from_module position first zero owner index (z ∷ ys) y l o e d there asked = grind (arith, common_steps, (in_part owner index y l d there position (segment_items_from (suc owner) ys (segment_name_at y l.context.segment)) asked))
from_module position first (suc count) owner index (z ∷ ys) y l o e d there asked =
    let name : List ℕ = segment_name_at y l.context.segment in
    let other : first ≢ owner = omega (arith, o) in
    let next : owner ≡ suc first + count = omega (arith, o) in
    ap (end_of position) (skipped owner index (module_items first z name) (segment_items_from (suc first) ys name) (other_part first owner index other z name))
    ∙ end_of-append position (module_items first z name) (preceding_items owner index (segment_items_from (suc first) ys name))
    ∙ from_module (end_of position (module_items first z name)) (suc first) count owner index ys y l next e d there asked

-- If the module has a section for the segment, the position of a statement in the segment's list is the start of the section
-- plus the statement's offset.
pub position_law : (ys : List Layout) (owner index : ℕ) (y : Layout) (l : LaidOutStatement) → slice_get ys owner ≡ Some y → HasNoLineErrors y → slice_get y.laid index ≡ Some l → has_section y (segment_name_at y l.context.segment) ≡ true → position_of ys (segment_name_at y l.context.segment) owner index ≡ section_start ys (segment_name_at y l.context.segment) owner + l.context.offset
position_law ys owner index y l e d there asked = from_module 0 0 owner owner index ys y l (omega arith) e d there asked

-- ---- The alignment of a section in an object.

-- the index of `2 ^ k` in the list of powers is `k`, for each `k` below the number
abbrev AreFound : ℕ → Type 0
AreFound zero = ⊤
AreFound (suc n) = (number_of powers (2 ^ n) ≡ n) × AreFound n

all_found : AreFound 16
all_found = (refl, (refl, (refl, (refl, (refl, (refl, (refl, (refl, (refl, (refl, (refl, (refl, (refl, (refl, (refl, (refl, tt))))))))))))))))

found_below : (n k : ℕ) → AreFound n → k < n → number_of powers (2 ^ k) ≡ k
found_below zero k h lt = absurd (omega (arith, lt))
found_below (suc n) k h lt = go (found_below n k h.1) (nat_eq k n) refl
  where
    go : (k < n → number_of powers (2 ^ k) ≡ k) → (b : Bool) → nat_eq k n ≡ b → number_of powers (2 ^ k) ≡ k
    go more true e = let same : k ≡ n = equal k n e in subst (λ z. number_of powers (2 ^ z) ≡ z) (sym same) h.0
    go more false e =
        let other : k ≢ n = grind (arith, nat_tests) in
        more (omega (arith, lt, other))

its_power : (n : ℕ) → IsPower n → 2 ^ number_of powers n ≡ n
its_power n p =
    ap (λ z. 2 ^ number_of powers z) p.power ∙ ap (λ z. 2 ^ z) (found_below 16 p.exponent all_found p.below) ∙ sym p.power

power_at : (gs : List Segment) (g : ℕ) → segment_power (slice_get gs g) ≡ number_of powers (segment_at gs g).align
power_at [] g = refl
power_at (x ∷ gs) zero = refl
power_at (x ∷ gs) (suc g) = power_at gs g

-- the section of an object is aligned to the largest alignment of the module's statements in its segment
pub alignment_law : (y : Layout) (owner g : ℕ) → HasNoLineErrors y → 2 ^ segment_power (slice_get y.cursor.segments g) ≡ largest_multiple (statements_with_segment g (module_statements_after owner [] y.laid))
alignment_law y owner g d = grind (arith, common_steps, placed, power_at, its_power, largest_power, powers_at)
