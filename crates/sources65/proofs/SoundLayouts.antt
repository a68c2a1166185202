-- Layouts are well-formed: segment names, statements, lengths and section sizes.
use Rattle.std.proofs.lemmas.Grind.{common_steps}
use Rattle.std.proofs.Common.{◌≡◌, ◌∙◌, ℕ, zero, suc, ◌+◌, ◌<◌, ◌≤◌, Bool, true, false, nat_eq, cond, List, [], ◌∷◌, ◌++◌, length, map, take, slice_get, Option, Some, None, Ok, refl, sym, ap, subst, arith}
use Rattle.std.specs.Prelude.{sum_by}
use Rattle.std.specs.List.{AllByRecursion}
use Rattle.std.proofs.lemmas.Bool.Decides.{nat_tests}
use Rattle.std.proofs.lemmas.List.{map-append}
use Rattle.syntax65.specs.declared.lexing.tokens.AddressSize.{AddressSize}
use Rattle.object65.specs.Objects.{are_names, is_name, section_limit}
use Rattle.object65.proofs.ReachedStates.{names_push}
use Rattle.semantics65.specs.declared.contents.Segment.{Segment}
use Rattle.ast65.specs.declared.fault.AsmFault.{AsmFault}
use Rattle.syntax65.specs.declared.source_location.SourceLocation.{SourceLocation}
use Rattle.semantics65.specs.Symbols.{LaidOutStatement, Symbols, symbols_of}
use Rattle.semantics65.specs.declared.contexts.Context.{Context}
use Rattle.ast65.specs.declared.language.Statement.{Statement}
use Rattle.ast65.specs.declared.language.Statement.TheVariants as statement
use Rattle.semantics65.specs.Layout.{Layout, Cursor, current_after, with_grown_segment, pushed_segments_after, laid_out_statement, layout_after, statement_alignment, named_segments, empty_layout, own_size, segment_index, segment_at, segments_after, size_stated, context_of, line_fault, unless_fault}
use Rattle.sources65.specs.Reading.{IsLaidOut}
use Rattle.semantics65.specs.Norms.{length_of, encoding_of}
use Rattle.semantics65.specs.Numbering.{IsMeasured, IsWellFormedStatement, IsWellFormedLayout, statements_in}
use Rattle.semantics65.proofs.Segments.{Grows, all_more, all_same, end_after, grows, grows_none, not_among, one_longer}

-- ---- Statements without line errors.

has_room : (y : Symbols) (w : Cursor) (x : Statement) → line_fault y w x ≡ None → (segment_at w.segments w.current).end + length_of y (context_of w) (own_size w) x ≤ section_limit
has_room y w x h = grind (arith, common_steps)

-- ---- Lengths.

abbrev is_segment : Statement → Bool
is_segment (statement.Segment n own) = true
is_segment _ = false

-- only a constant has a size of its own, and its length is 0
same_length : (y : Symbols) (s : Context) (own : AddressSize) (x : Statement) → length_of y s own x ≡ length_of y s (size_stated y s own x) x
same_length y s own x1 = grind (arith, common_steps)

same_settled : (y : Symbols) (s : Context) (own : AddressSize) (x : Statement) → encoding_of y s own x ≡ encoding_of y s (size_stated y s own x) x
same_settled y s own x1 = grind (arith, common_steps)

-- ---- The invariant after each statement.

abbrev total_in : List LaidOutStatement → ℕ → ℕ
total_in ls g = sum_by (λ (l : LaidOutStatement). l.length) (statements_in ls g)

abbrev stands_in : ℕ → LaidOutStatement → Type 0
stands_in count l = l.context.segment < count

abbrev are_below : ℕ → List ℕ → Type 0
are_below count ks = AllByRecursion (λ k. k < count) ks

-- each statement satisfies `M` with the statements before it
abbrev EachAfter : (List LaidOutStatement → LaidOutStatement → Type 0) → List LaidOutStatement → Type 0
EachAfter M ls = (i : ℕ) (l : LaidOutStatement) → slice_get ls i ≡ Some l → M (take i ls) l

pub record Good (ls : List LaidOutStatement) (gs : List Segment) (current : ℕ) (kept : List ℕ) : Type 0 where
  named : are_names (map (λ (g : Segment). g.name) gs) ≡ true
  sound : AllByRecursion (λ (l : LaidOutStatement). IsWellFormedStatement l.stated) ls
  standing : AllByRecursion (stands_in (length gs)) ls
  measured : EachAfter (λ before l. IsMeasured (symbols_of before) l) ls
  here : current < length gs
  keeps : are_below (length gs) kept
  ends : (g : ℕ) → total_in ls g ≡ (segment_at gs g).end
  limit : (g : ℕ) → (segment_at gs g).end ≤ section_limit

-- the length of a statement is measured with the symbols of the statements before it
abbrev MeasuredAfter : List LaidOutStatement → LaidOutStatement → Type 0
MeasuredAfter before l = IsMeasured (symbols_of before) l

abbrev pub IsGood : Layout → Type 0
IsGood y = Good y.laid y.cursor.segments y.cursor.current y.cursor.pushed_segments

after_push : (M : List LaidOutStatement → LaidOutStatement → Type 0) (ls : List LaidOutStatement) (l : LaidOutStatement) → EachAfter M ls → M ls l → EachAfter M (ls ++ l ∷ [])
after_push M [] l h m zero x e = let same : l ≡ x = cc in subst (M []) same m
after_push M [] l h m (suc i) x e = absurd cc
after_push M (y ∷ ys) l h m zero x e = h zero x e
after_push M (y ∷ ys) l h m (suc i) x e = after_push (λ zs z. M (y ∷ zs) z) ys l (λ j z f. h (suc j) z f) m i x e

total_push : (ls : List LaidOutStatement) (l : LaidOutStatement) (g : ℕ) → total_in (ls ++ l ∷ []) g ≡ total_in ls g + cond (nat_eq l.context.segment g) l.length 0
total_push ls l g = grind (arith, common_steps)

-- appending a statement in the current segment preserves the invariant
good_push : (ls : List LaidOutStatement) (gs hs : List Segment) (current : ℕ) (kept : List ℕ) (l : LaidOutStatement) → Good ls gs current kept → Grows gs hs current l.length → l.context.segment ≡ current → IsWellFormedStatement l.stated → MeasuredAfter ls l → (segment_at gs current).end + l.length ≤ section_limit → Good (ls ++ l ∷ []) hs current kept
good_push ls gs hs current kept l good more at sound measured room = record {
  named = ap are_names more.names ∙ good.named;
  sound = all_more (λ (m : LaidOutStatement). IsWellFormedStatement m.stated) ls l good.sound sound;
  standing = subst (λ n. AllByRecursion (stands_in n) (ls ++ l ∷ [])) (sym more.size) (all_more (stands_in (length gs)) ls l good.standing (subst (λ n. n < length gs) (sym at) good.here));
  measured = after_push MeasuredAfter ls l good.measured measured;
  here = subst (λ n. current < n) (sym more.size) good.here;
  keeps = subst (λ n. are_below n kept) (sym more.size) good.keeps;
  ends = λ g. total_push ls l g ∙ ap (λ n. total_in ls g + cond (nat_eq n g) l.length 0) at ∙ ends_at g (nat_eq current g) refl;
  limit = λ g. limit_at g (nat_eq current g) refl;
}
  where
    same_here : (g : ℕ) → nat_eq current g ≡ true → (segment_at hs g).end ≡ (segment_at gs g).end + l.length
    same_here g e =
        let same : current ≡ g = grind (arith, nat_tests) in
        subst (λ h. (segment_at hs h).end ≡ (segment_at gs h).end + l.length) same more.here

    ends_at : (g : ℕ) (b : Bool) → nat_eq current g ≡ b → total_in ls g + cond (nat_eq current g) l.length 0 ≡ (segment_at hs g).end
    ends_at g true e = ap (λ c. total_in ls g + cond c l.length 0) e ∙ ap (λ n. n + l.length) (good.ends g) ∙ sym (same_here g e)
    ends_at g false e = ap (λ c. total_in ls g + cond c l.length 0) e ∙ (let whole : total_in ls g ≡ (segment_at gs g).end = good.ends g in omega (arith, whole)) ∙ sym (more.others g e)

    limit_at : (g : ℕ) (b : Bool) → nat_eq current g ≡ b → (segment_at hs g).end ≤ section_limit
    limit_at g true e =
        let same : current ≡ g = grind (arith, nat_tests) in
        subst (λ n. n ≤ section_limit) (sym (same_here g e)) (subst (λ h. (segment_at gs h).end + l.length ≤ section_limit) same room)
    limit_at g false e = subst (λ n. n ≤ section_limit) (sym (more.others g e)) (good.limit g)

-- ---- A further segment.

good_named : (ls : List LaidOutStatement) (gs : List Segment) (current : ℕ) (kept : List ℕ) (n : List ℕ) (own : Option AddressSize) (location : Option ℕ) → Good ls gs current kept → is_name n ≡ true → segment_index gs n ≡ location → Good ls (named_segments gs n own location) current kept
good_named ls gs current kept n own x1 good fine e = grind (arith, common_steps, one_longer, map-append, names_push, not_among, all_same, end_after)

-- ---- One statement.

good_current : (ls : List LaidOutStatement) (w : Cursor) (count alignment : ℕ) (x : Statement) → Good ls (segments_after w.segments w.current count alignment x) w.current w.pushed_segments → Good ls (segments_after w.segments w.current count alignment x) (current_after w x) (pushed_segments_after w x)
good_current ls w count alignment x1 good = grind (arith, common_steps)

good_laying : (ls : List LaidOutStatement) (w : Cursor) (count alignment : ℕ) (x : Statement) → Good ls w.segments w.current w.pushed_segments → IsWellFormedStatement x → (more : List LaidOutStatement) → ((hs : List Segment) → Grows w.segments hs w.current count → Good more hs w.current w.pushed_segments) → (is_segment x ≡ true → count ≡ 0) → Good more (segments_after w.segments w.current count alignment x) w.current w.pushed_segments
good_laying ls w count alignment (statement.Segment n own) good sound more next none =
    good_named more w.segments w.current w.pushed_segments n own (segment_index w.segments n) (next w.segments (subst (Grows w.segments w.segments w.current) (sym (none refl)) (grows_none w.segments w.current))) sound refl
good_laying ls w count alignment x good sound more next none = next (with_grown_segment w.segments w.current count alignment) (grows w.segments w.current count alignment good.here)

segment_empty : (before : Symbols) (s : Context) (own : AddressSize) (x : Statement) → is_segment x ≡ true → length_of before s own x ≡ 0
segment_empty before s own x1 h = grind (arith, common_steps)

good_step : (y : Layout) (location : SourceLocation) (x : Statement) → IsGood y → IsWellFormedStatement x → line_fault (symbols_of y.laid) y.cursor x ≡ None → IsGood (layout_after y location x)
good_step y location x good sound none =
    let w : Cursor = y.cursor in
    let z : Symbols = symbols_of y.laid in
    let l : LaidOutStatement = laid_out_statement z w location x in
    let room = has_room z w x none in
    let measured : MeasuredAfter y.laid l = record { length = same_length z (context_of w) (own_size w) x; encoding = same_settled z (context_of w) (own_size w) x } in
    good_current (y.laid ++ l ∷ []) w l.length (statement_alignment z (context_of w) x) x
    (good_laying y.laid w l.length (statement_alignment z (context_of w) x) x good sound (y.laid ++ l ∷ []) (λ hs more. good_push y.laid w.segments hs w.current w.pushed_segments l good more refl sound measured room) (segment_empty z (context_of w) (own_size w) x))

pub good_statement : (y z : Layout) (location : SourceLocation) (x : Statement) → IsGood y → IsWellFormedStatement x → IsLaidOut y location x (Ok z) → IsGood z
good_statement y z location x good sound h = by (line_fault (symbols_of y.laid) y.cursor x) refl h
  where
    by : (o : Option AsmFault) → line_fault (symbols_of y.laid) y.cursor x ≡ o → Ok z ≡ unless_fault o (layout_after y location x) → IsGood z
    by (Some e) is h = absurd cc
    by None is h =
        let same : layout_after y location x ≡ z = cc in
        subst IsGood same (good_step y location x good sound is)

-- ---- The first and the last state.

pub nothing_good : IsGood empty_layout
nothing_good = grind (arith, common_steps)

pub sound_from : (y : Layout) → IsGood y → IsWellFormedLayout y
sound_from y good = grind (arith, common_steps)
