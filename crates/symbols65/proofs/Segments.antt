-- Segments whose sections grow.
use Rattle.std.proofs.lemmas.Grind.{common_steps}
use Rattle.std.proofs.Common.{◌≡◌, ◌∙◌, ℕ, zero, suc, ◌+◌, ◌<◌, ◌≤◌, List, [], ◌∷◌, ◌++◌, length, map, position, get_or, set, refl, sym, ap, arith}
use Rattle.std.proofs.Math.Path.{fun_ext}
use Rattle.std.specs.Prelude.{Bool, true, false, cond, ◌||◌, Some, None}
use Rattle.std.specs.List.{list_any, position_from, AllByRecursion}
use Rattle.std.proofs.lemmas.Iterator.Adapters.{position_from-zero}
use Rattle.std.proofs.lemmas.List.{length-append, map-append}
use Rattle.semantics65.specs.declared.contents.Segment.{Segment}
use Rattle.std.specs.Str.{bytes_eq}
use Rattle.object65.specs.Objects.{section_limit}
use Rattle.symbols65.specs.declared.cursor.Cursor.TheInside.{Inside}
use Rattle.semantics65.specs.Layout.{segment_after, with_grown_segment, segment_index, segment_at}
use Rattle.symbols65.specs.Internal.Cursors.{HaveBoundedSizes, IsWellFormedCursor}
use Rattle.ast65.proofs.Lists.{bytes_swap, position_mapped}
use Rattle.semantics65.proofs.Segments.{all_more, all_same, grown_length, grown_names}

pub segment_is : (gs : List Segment) (i : ℕ) (g : Segment) → i < length gs → g ≡ get_or gs i g → g ≡ segment_at gs i
segment_is [] i g lt e = absurd (omega arith)
segment_is (h ∷ gs) zero g lt e = e
segment_is (h ∷ gs) (suc i) g lt e = segment_is gs i g (omega arith) e

pub segment_or : (gs : List Segment) (i : ℕ) (g : Segment) → i < length gs → get_or gs i g ≡ segment_at gs i
segment_or [] i g lt = absurd (omega arith)
segment_or (h ∷ gs) zero g lt = refl
segment_or (h ∷ gs) (suc i) g lt = segment_or gs i g (omega arith)

pub grown_is : (gs : List Segment) (i count alignment : ℕ) → set gs i (segment_after count alignment (segment_at gs i)) ≡ with_grown_segment gs i count alignment
grown_is [] i count alignment = refl
grown_is (g ∷ gs) zero count alignment = refl
grown_is (g ∷ gs) (suc i) count alignment = ap (λ hs. g ∷ hs) (grown_is gs i count alignment)

-- ---- Names.

same_test : {A : Type 0} (p q : A → Bool) → ((x : A) → p x ≡ q x) → (xs : List A) → position p xs ≡ position q xs
same_test p q h xs = ap (λ (t : _ → Bool). position t xs) (fun_ext h)

-- the index of a name in the set of names is the index of its segment
pub place_is : (n : List ℕ) (w : Inside) → map (λ k. k.items) w.names.keys ≡ map (λ (g : Segment). g.name) w.segments.items → position (λ k. bytes_eq n k.items) w.names.keys ≡ segment_index w.segments.items n
place_is n w e =
    sym (position_mapped (bytes_eq n) (λ k. k.items) w.names.keys)
    ∙ ap (position (bytes_eq n)) e
    ∙ position_mapped (bytes_eq n) (λ (g : Segment). g.name) w.segments.items
    ∙ same_test (λ (g : Segment). bytes_eq n g.name) (λ (g : Segment). bytes_eq g.name n) (λ g. bytes_swap n g.name) w.segments.items

-- ---- Ends of segments.

pub grown_within : (gs : List Segment) (i count alignment : ℕ) → (segment_at gs i).end + count ≤ section_limit → HaveBoundedSizes gs → HaveBoundedSizes (with_grown_segment gs i count alignment)
grown_within [] i count alignment le h = tt
grown_within (g ∷ gs) zero count alignment le h = (le, h.1)
grown_within (g ∷ gs) (suc i) count alignment le h = (h.0, grown_within gs i count alignment le h.1)

pub within_at : (gs : List Segment) (i : ℕ) → HaveBoundedSizes gs → i < length gs → (segment_at gs i).end ≤ section_limit
within_at [] i h lt = absurd (omega arith)
within_at (g ∷ gs) zero h lt = h.0
within_at (g ∷ gs) (suc i) h lt = within_at gs i h.1 (omega arith)

-- ---- Well-formed cursors.

pub sound_of : (v : Inside) (gs : List Segment) (i : ℕ) → v.segments.items ≡ gs → v.current ≡ i → i < length gs → HaveBoundedSizes gs → map (λ k. k.items) v.names.keys ≡ map (λ (g : Segment). g.name) gs → AllByRecursion (λ k. k < length gs) v.pushed_segments.items → IsWellFormedCursor v
sound_of v gs i e at lt within names kept = record { current = rw (e, at) lt; ends = rw e within; names = rw e names; pushed_segments = rw e kept }

pub sound_grown : (w v : Inside) (count alignment : ℕ) → IsWellFormedCursor w → (segment_at w.segments.items w.current).end + count ≤ section_limit → v.segments.items ≡ with_grown_segment w.segments.items w.current count alignment → v.current ≡ w.current → v.names ≡ w.names → v.pushed_segments ≡ w.pushed_segments → IsWellFormedCursor v
sound_grown w v count alignment sound fits e at names kept =
    let gs = with_grown_segment w.segments.items w.current count alignment in
    let long = grown_length w.segments.items w.current count alignment in
    sound_of v gs w.current e at (rw long sound.current) (grown_within w.segments.items w.current count alignment fits sound.ends)
    (rw names (sound.names ∙ sym (grown_names w.segments.items w.current count alignment))) (rw (kept, long) sound.pushed_segments)

pub sound_begun : (w v : Inside) (n : List ℕ) (g : Segment) → IsWellFormedCursor w → g.name ≡ n → g.end ≡ 0 → v.segments.items ≡ w.segments.items ++ g ∷ [] → v.current ≡ length w.segments.items → v.pushed_segments ≡ w.pushed_segments → map (λ k. k.items) v.names.keys ≡ map (λ k. k.items) w.names.keys ++ n ∷ [] → IsWellFormedCursor v
sound_begun w v n g sound name end e at kept names = grind (arith, common_steps, length-append, sound_of, all_more, map-append, all_same)

-- a name that no segment has isn't in the set of names
pub new_name : (n : List ℕ) (w : Inside) → IsWellFormedCursor w → segment_index w.segments.items n ≡ None → list_any (λ k. bytes_eq n k) (map (λ k. k.items) w.names.keys) ≡ false
new_name n w sound none = absent (map (λ k. k.items) w.names.keys) (position_mapped (bytes_eq n) (λ k. k.items) w.names.keys ∙ place_is n w sound.names ∙ none)
  where
    go : (i : ℕ) (ns : List (List ℕ)) → position_from (bytes_eq n) i ns ≡ None → list_any (λ k. bytes_eq n k) ns ≡ false
    go i [] e = refl
    go i (m ∷ ns) e = by (bytes_eq n m) e (go (i + 1) ns)
      where
        by : (b : Bool) → cond b (Some i) (position_from (bytes_eq n) (i + 1) ns) ≡ None → (position_from (bytes_eq n) (i + 1) ns ≡ None → list_any (λ k. bytes_eq n k) ns ≡ false) → (b || list_any (λ k. bytes_eq n k) ns) ≡ false
        by true h f = absurd cc
        by false h f = f h

    absent : (ns : List (List ℕ)) → position (bytes_eq n) ns ≡ None → list_any (λ k. bytes_eq n k) ns ≡ false
    absent ns e = go 0 ns (sym (position_from-zero (bytes_eq n) ns) ∙ e)
