-- The offset of a statement in its section is the position after the statements before it in its segment.
use Rattle.std.proofs.lemmas.Grind.{common_steps}
use Rattle.std.proofs.Common.{◌≡◌, ℕ, zero, suc, ◌+◌, ◌<◌, ◌≤◌, max, Bool, true, false, nat_eq, cond, List, [], ◌∷◌, ◌++◌, length, Option, Some, None, refl, sym, ap, subst, arith, map, take, slice_get, ◌∙◌}
use Rattle.std.specs.List.{AllByRecursion}
use Rattle.std.proofs.lemmas.Bool.Decides.{nat_tests}
use Rattle.syntax65.specs.declared.lexing.tokens.AddressSize.{AddressSize}
use Rattle.semantics65.specs.declared.contents.Segment.{Segment}
use Rattle.ast65.specs.declared.language.Statement.{Statement}
use Rattle.semantics65.specs.Layout.{Cursor, current_after, with_grown_segment, pushed_segments_after, statement_alignment, named_segments, new_segment, own_size, segment_at, segments_after, context_of, Layout, laid_out_statement, layout_after, line_fault}
use Rattle.semantics65.specs.Norms.{length_of}
use Rattle.semantics65.specs.Symbols.{Symbols, symbols_of, LaidOutStatement}
use Rattle.semantics65.proofs.Segments.{all_same, end_after, grown_end, grown_length, grown_other, named_there, all_more}
use Rattle.std.proofs.lemmas.List.{append-nil, map-append}
use Rattle.std.proofs.lemmas.List.Elements.{filter-append}
use Rattle.syntax65.specs.declared.source_location.SourceLocation.{SourceLocation}
use Rattle.whole65.proofs.Multiples.{line_ends, multiple_power, equal, end_of-append, largest_power, line_shift, Larger, larger, multiple_of_multiple}
use Rattle.whole65.specs.Laws.{OffsetIsPosition}
use Rattle.whole65.specs.Offsets.{ArePowers, HasNoLineErrors, IsPower, no_statement, following, statements_with_segment, IsMultiple}
use Rattle.whole65.specs.Segments.{ModuleStatement, end_of, largest_multiple, statement_item, statement_end, module_statement, module_statements_after}
use Rattle.std.proofs.Math.Nat.{add_assoc}

-- ---- Segments after a statement: the current one, their ends and alignments.

abbrev pub are_below : ℕ → List ℕ → Type 0
are_below count ks = AllByRecursion (λ k. k < count) ks

-- ---- The number of segments.

named_more : (gs : List Segment) (n : List ℕ) (own : Option AddressSize) (place : Option ℕ) → length gs ≤ length (named_segments gs n own place)
named_more gs n own x = grind (arith, common_steps)

pub following_more : (gs : List Segment) (current count alignment : ℕ) (x : Statement) → length gs ≤ length (segments_after gs current count alignment x)
following_more gs current count alignment x = grind (arith, common_steps, named_more, grown_length)

below_more : (few more : ℕ) (ks : List ℕ) → few ≤ more → are_below few ks → are_below more ks
below_more few more ks le h = all_same (λ k. k < few) (λ k. k < more) (λ k lt. let up : k < more = omega (arith, lt, le) in up) ks h

pub current_below : (w : Cursor) (count alignment : ℕ) (x : Statement) → w.current < length w.segments → are_below (length w.segments) w.pushed_segments → current_after w x < length (segments_after w.segments w.current count alignment x)
current_below w count alignment x lt h = grind (arith, common_steps, named_there, grown_length)

pub kept_below : (w : Cursor) (count alignment : ℕ) (x : Statement) → w.current < length w.segments → are_below (length w.segments) w.pushed_segments → are_below (length (segments_after w.segments w.current count alignment x)) (pushed_segments_after w x)
kept_below w count alignment x lt h = grind (arith, common_steps, following_more, below_more)

-- ---- Ends and alignments.

grown_align : (gs : List Segment) (i count alignment : ℕ) → i < length gs → (segment_at (with_grown_segment gs i count alignment) i).align ≡ max (segment_at gs i).align alignment
grown_align [] i count alignment lt = absurd (omega arith)
grown_align (g ∷ gs) zero count alignment lt = refl
grown_align (g ∷ gs) (suc i) count alignment lt = grown_align gs i count alignment (omega arith)

new_align : (gs : List Segment) (n : List ℕ) (own : AddressSize) (g : ℕ) → (segment_at (gs ++ new_segment n own ∷ []) g).align ≡ (segment_at gs g).align
new_align [] n own zero = refl
new_align [] n own (suc g) = refl
new_align (x ∷ gs) n own zero = refl
new_align (x ∷ gs) n own (suc g) = new_align gs n own g

named_end : (gs : List Segment) (n : List ℕ) (own : Option AddressSize) (place : Option ℕ) (g : ℕ) → (segment_at (named_segments gs n own place) g).end ≡ (segment_at gs g).end
named_end gs n own x g = grind (arith, common_steps, end_after)

named_align : (gs : List Segment) (n : List ℕ) (own : Option AddressSize) (place : Option ℕ) (g : ℕ) → (segment_at (named_segments gs n own place) g).align ≡ (segment_at gs g).align
named_align gs n own x g = grind (arith, common_steps, new_align)

-- the length and alignment that a statement adds to a segment if it is in that segment
pub record Adds (g h : Segment) (is_here : Bool) (count alignment : ℕ) : Type 0 where
  pub end : h.end ≡ g.end + cond is_here count 0
  pub align : h.align ≡ cond is_here (max g.align alignment) g.align

pub adds : (y : Symbols) (w : Cursor) (x : Statement) (g : ℕ) → w.current < length w.segments → 1 ≤ (segment_at w.segments g).align → Adds (segment_at w.segments g) (segment_at (segments_after w.segments w.current (length_of y (context_of w) (own_size w) x) (statement_alignment y (context_of w) x) x) g) (nat_eq w.current g) (length_of y (context_of w) (own_size w) x) (statement_alignment y (context_of w) x)
adds y w x g lt one = grind (arith, common_steps, nat_tests, grown_end, grown_align, grown_other, equal, named_end, named_align)

-- ---- A further statement.

pub lines_push : (owner : ℕ) (before ls : List LaidOutStatement) (l : LaidOutStatement) → module_statements_after owner before (ls ++ l ∷ []) ≡ module_statements_after owner before ls ++ module_statement owner (before ++ ls) l ∷ []
lines_push owner before [] l = ap (λ b. module_statement owner b l ∷ []) (sym (append-nil before))
lines_push owner before (x ∷ ls) l = grind (arith, common_steps, (lines_push owner (before ++ x ∷ []) ls l))

pub largest_push : (xs ys : List ModuleStatement) → largest_multiple (xs ++ ys) ≡ max (largest_multiple xs) (largest_multiple ys)
largest_push [] ys = let one : 1 ≤ largest_multiple ys = largest_one ys in omega (arith, one)
  where
    largest_one : (ys : List ModuleStatement) → 1 ≤ largest_multiple ys
    largest_one [] = omega arith
    largest_one (y ∷ ys) = let h = largest_one ys in omega (arith, h)
largest_push (x ∷ xs) ys = let h = largest_push xs ys in omega (arith, h)

pub largest_one : (ys : List ModuleStatement) → 1 ≤ largest_multiple ys
largest_one [] = omega arith
largest_one (y ∷ ys) = let h = largest_one ys in omega (arith, h)

-- the position after the statements in a segment
abbrev end_at : ℕ → List ModuleStatement → ℕ
end_at g xs = end_of 0 (map statement_item (statements_with_segment g xs))

end_push : (g : ℕ) (xs : List ModuleStatement) (x : ModuleStatement) (b : Bool) → nat_eq x.laid.context.segment g ≡ b → end_at g (xs ++ x ∷ []) ≡ cond b (statement_end (end_at g xs) x.alignment x.laid) (end_at g xs)
end_push g xs x b e = grind (arith, common_steps, filter-append, map-append, end_of-append)

largest_at_push : (g : ℕ) (xs : List ModuleStatement) (x : ModuleStatement) (b : Bool) → nat_eq x.laid.context.segment g ≡ b → largest_multiple (statements_with_segment g (xs ++ x ∷ [])) ≡ cond b (max (largest_multiple (statements_with_segment g xs)) x.alignment) (largest_multiple (statements_with_segment g xs))
largest_at_push g xs x b e = grind (arith, common_steps, filter-append, largest_push, largest_one)

-- ---- The invariant after each statement.

abbrev HasOffset : ℕ → List LaidOutStatement → LaidOutStatement → Type 0
HasOffset owner before l = l.context.offset ≡ end_at l.context.segment (module_statements_after owner [] before)

abbrev EachAfter : (List LaidOutStatement → LaidOutStatement → Type 0) → List LaidOutStatement → Type 0
EachAfter M ls = (i : ℕ) (l : LaidOutStatement) → slice_get ls i ≡ Some l → M (take i ls) l

after_push : (M : List LaidOutStatement → LaidOutStatement → Type 0) (ls : List LaidOutStatement) (l : LaidOutStatement) → EachAfter M ls → M ls l → EachAfter M (ls ++ l ∷ [])
after_push M [] l h m zero x e = let same : l ≡ x = cc in subst (M []) same m
after_push M [] l h m (suc i) x e = absurd cc
after_push M (y ∷ ys) l h m zero x e = h zero x e
after_push M (y ∷ ys) l h m (suc i) x e = after_push (λ zs z. M (y ∷ zs) z) ys l (λ j z f. h (suc j) z f) m i x e

pub record Placed (owner : ℕ) (y : Layout) : Type 0 where
  pub here : y.cursor.current < length y.cursor.segments
  pub keeps : are_below (length y.cursor.segments) y.cursor.pushed_segments
  pub offsets : EachAfter (HasOffset owner) y.laid
  pub ends : (g : ℕ) → (segment_at y.cursor.segments g).end ≡ end_at g (module_statements_after owner [] y.laid)
  pub aligns : (g : ℕ) → (segment_at y.cursor.segments g).align ≡ largest_multiple (statements_with_segment g (module_statements_after owner [] y.laid))
  pub powers : ArePowers (module_statements_after owner [] y.laid)

module _ (owner : ℕ) (y : Layout) (place : SourceLocation) (x : Statement) (h : Placed owner y) (none : line_fault (symbols_of y.laid) y.cursor x ≡ None) where
  abbrev table : Symbols
  table = symbols_of y.laid

  abbrev last : LaidOutStatement
  last = laid_out_statement table y.cursor place x

  abbrev lines : List ModuleStatement
  lines = module_statements_after owner [] y.laid

  abbrev next : ModuleStatement
  next = module_statement owner y.laid last

  added : (g : ℕ) → Adds (segment_at y.cursor.segments g) (segment_at (layout_after y place x).cursor.segments g) (nat_eq y.cursor.current g) last.length next.alignment
  added g = adds table y.cursor x g h.here (subst (λ n. 1 ≤ n) (sym (h.aligns g)) (largest_one (statements_with_segment g lines)))

  end_next : (g : ℕ) (b : Bool) → nat_eq y.cursor.current g ≡ b → (segment_at (layout_after y place x).cursor.segments g).end ≡ end_at g (lines ++ next ∷ [])
  end_next g true e =
      let same : y.cursor.current ≡ g = equal y.cursor.current g e in
      let before : (context_of y.cursor).offset ≡ end_at g lines = ap (λ n. (segment_at y.cursor.segments n).end) same ∙ h.ends g in
      (added g).end
      ∙ ap (λ b. (segment_at y.cursor.segments g).end + cond b last.length 0) e
      ∙ ap (λ n. (segment_at y.cursor.segments n).end + last.length) (sym same)
      ∙ sym (line_ends table y.cursor place x none)
      ∙ ap (λ n. statement_end n next.alignment last) before
      ∙ sym (end_push g lines next true e)
  end_next g false e = grind (arith, common_steps, added, end_push)

  align_next : (g : ℕ) (b : Bool) → nat_eq y.cursor.current g ≡ b → (segment_at (layout_after y place x).cursor.segments g).align ≡ largest_multiple (statements_with_segment g (lines ++ next ∷ []))
  align_next g b e =
      (added g).align
      ∙ ap (λ c. cond c (max (segment_at y.cursor.segments g).align next.alignment) (segment_at y.cursor.segments g).align) e
      ∙ ap (λ n. cond b (max n next.alignment) n) (h.aligns g)
      ∙ sym (largest_at_push g lines next b e)

  pushed : module_statements_after owner [] (y.laid ++ last ∷ []) ≡ lines ++ next ∷ []
  pushed = lines_push owner [] y.laid last

  step : Placed owner (layout_after y place x)
  step = record {
    here = current_below y.cursor last.length next.alignment x h.here h.keeps;
    keeps = kept_below y.cursor last.length next.alignment x h.here h.keeps;
    offsets = after_push (HasOffset owner) y.laid last h.offsets (h.ends y.cursor.current);
    ends = λ g. end_next g (nat_eq y.cursor.current g) refl ∙ ap (end_at g) (sym pushed);
    aligns = λ g. align_next g (nat_eq y.cursor.current g) refl ∙ ap (λ zs. largest_multiple (statements_with_segment g zs)) (sym pushed);
    powers = subst ArePowers (sym pushed) (all_more (λ (z : ModuleStatement). IsPower z.alignment) lines next h.powers (multiple_power table y.cursor x none));
  }

pub placed : (owner : ℕ) {y : Layout} → HasNoLineErrors y → Placed owner y
placed owner no_statement = grind (arith, common_steps)
placed owner (following y place x d none) = step owner y place x (placed owner d) none

pub offset_law : OffsetIsPosition
offset_law y owner d = grind (arith, common_steps, placed)

-- ---- Each statement of a section ends its length after its position.

-- from this position on, each statement ends its length after its position
abbrev pub EndsAt : ℕ → List ModuleStatement → Type 0
EndsAt position [] = Unit {0}
EndsAt position (x ∷ xs) = (statement_end position x.alignment x.laid ≡ position + x.laid.length) × EndsAt (statement_end position x.alignment x.laid) xs

ends_push : (position : ℕ) (xs : List ModuleStatement) (x : ModuleStatement) → EndsAt position xs → statement_end (end_of position (map statement_item xs)) x.alignment x.laid ≡ end_of position (map statement_item xs) + x.laid.length → EndsAt position (xs ++ x ∷ [])
ends_push position [] x h e = (e, tt)
ends_push position (y ∷ ys) x h e = (h.0, ends_push (statement_end position y.alignment y.laid) ys x h.1 e)

pub ends_moved : (begin position : ℕ) (xs : List ModuleStatement) → ArePowers xs → IsMultiple begin (largest_multiple xs) → EndsAt position xs → EndsAt (begin + position) xs
ends_moved begin position [] p m h = tt
ends_moved begin position (x ∷ xs) p m h =
    let both : Larger x.alignment (largest_multiple xs) = larger x.alignment (largest_multiple xs) p.0 (largest_power xs p.1) in
    let first = multiple_of_multiple begin x.alignment (max x.alignment (largest_multiple xs)) m both.first in
    let others = multiple_of_multiple begin (largest_multiple xs) (max x.alignment (largest_multiple xs)) m both.second in
    let shifted = line_shift begin position x.alignment x.laid first in (
      shifted ∙ ap (λ n. begin + n) h.0 ∙ sym (add_assoc begin position x.laid.length),
      subst (λ n. EndsAt n xs) (sym shifted) (ends_moved begin (statement_end position x.alignment x.laid) xs p.1 others h.1),
    )

module _ (owner g : ℕ) where
  abbrev here : List LaidOutStatement → List ModuleStatement
  here ls = statements_with_segment g (module_statements_after owner [] ls)

  one_more : (y : Layout) (place : SourceLocation) (x : Statement) → Placed owner y → line_fault (symbols_of y.laid) y.cursor x ≡ None → EndsAt 0 (here y.laid) → (b : Bool) → nat_eq y.cursor.current g ≡ b → EndsAt 0 (here (y.laid ++ laid_out_statement (symbols_of y.laid) y.cursor place x ∷ []))
  one_more y place x h none ends b e = grind (arith, common_steps, pushed, lines_push, filter-append, append-nil, equal, ends_push, line_ends)

  pub all_end : {y : Layout} → HasNoLineErrors y → EndsAt 0 (here y.laid)
  all_end no_statement = tt
  all_end (following y place x d none) = one_more y place x (placed owner d) none (all_end d) (nat_eq y.cursor.current g) refl
