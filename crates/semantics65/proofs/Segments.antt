-- Segments of which one grows or one is added.
use Rattle.std.proofs.Common.{◌≡◌, ◌∙◌, ℕ, zero, suc, ◌+◌, ◌<◌, Bool, true, false, nat_eq, cond, List, [], ◌∷◌, ◌++◌, length, map, Option, Some, None, refl, sym, ap, arith}
use Rattle.std.specs.Prelude.{◌||◌}
use Rattle.std.specs.List.{AllByRecursion, position_from}
use Rattle.std.specs.Str.{bytes_eq}
use Rattle.std.proofs.lemmas.Bool.Decides.{nat_tests}
use Rattle.std.proofs.lemmas.Iterator.Adapters.{position_from-zero}
use Rattle.std.proofs.lemmas.List.{length-append}
use Rattle.syntax65.specs.declared.lexing.tokens.AddressSize.{AddressSize}
use Rattle.object65.specs.Objects.{is_among}
use Rattle.semantics65.specs.declared.contents.Segment.{Segment}
use Rattle.semantics65.specs.Layout.{first_size, with_grown_segment, named_segments, new_segment, existing_or_new_index, segment_index, segment_at}
use Rattle.ast65.proofs.Lists.{bytes_swap}

pub grown_length : (gs : List Segment) (i count alignment : ℕ) → length (with_grown_segment gs i count alignment) ≡ length gs
grown_length [] i count alignment = refl
grown_length (g ∷ gs) zero count alignment = refl
grown_length (g ∷ gs) (suc i) count alignment = ap suc (grown_length gs i count alignment)

pub grown_end : (gs : List Segment) (i count alignment : ℕ) → i < length gs → (segment_at (with_grown_segment gs i count alignment) i).end ≡ (segment_at gs i).end + count
grown_end [] i count alignment lt = absurd (omega arith)
grown_end (g ∷ gs) zero count alignment lt = refl
grown_end (g ∷ gs) (suc i) count alignment lt = grown_end gs i count alignment (omega arith)

pub grown_names : (gs : List Segment) (i count alignment : ℕ) → map (λ (g : Segment). g.name) (with_grown_segment gs i count alignment) ≡ map (λ (g : Segment). g.name) gs
grown_names [] i count alignment = refl
grown_names (g ∷ gs) zero count alignment = refl
grown_names (g ∷ gs) (suc i) count alignment = ap (λ ns. g.name ∷ ns) (grown_names gs i count alignment)

pub all_more : {A : Type 0} (P : A → Type 0) (xs : List A) (x : A) → AllByRecursion P xs → P x → AllByRecursion P (xs ++ x ∷ [])
all_more P [] x h p = (p, tt)
all_more P (y ∷ xs) x h p = (h.0, all_more P xs x h.1 p)

pub all_same : {A : Type 0} (P Q : A → Type 0) → ((x : A) → P x → Q x) → (xs : List A) → AllByRecursion P xs → AllByRecursion Q xs
all_same P Q f [] h = tt
all_same P Q f (x ∷ xs) h = (f x h.0, all_same P Q f xs h.1)

place_below : (p : Segment → Bool) (gs : List Segment) (i j : ℕ) → position_from p i gs ≡ Some j → j < i + length gs
place_below p [] i j e = absurd cc
place_below p (g ∷ gs) i j e = by (p g) e (place_below p gs (i + 1) j)
  where
    by : (b : Bool) → cond b (Some i) (position_from p (i + 1) gs) ≡ Some j → (position_from p (i + 1) gs ≡ Some j → j < i + 1 + length gs) → j < i + suc (length gs)
    by true h f = let k : i ≡ j = cc in omega (arith, k)
    by false h f = let lt = f h in omega (arith, lt)

pub found_below : (gs : List Segment) (n : List ℕ) (j : ℕ) → segment_index gs n ≡ Some j → j < length gs
found_below gs n j e = let lt = place_below (λ (g : Segment). bytes_eq g.name n) gs 0 j (sym (position_from-zero (λ (g : Segment). bytes_eq g.name n) gs) ∙ e) in omega (arith, lt)

-- ---- Growth of one segment.

pub grown_other : (gs : List Segment) (i h count alignment : ℕ) → nat_eq i h ≡ false → segment_at (with_grown_segment gs i count alignment) h ≡ segment_at gs h
grown_other [] i h count alignment apart = refl
grown_other (g ∷ gs) zero zero count alignment apart = absurd cc
grown_other (g ∷ gs) zero (suc h) count alignment apart = refl
grown_other (g ∷ gs) (suc i) zero count alignment apart = refl
grown_other (g ∷ gs) (suc i) (suc h) count alignment apart = grown_other gs i h count alignment (grind (arith, nat_tests))

-- the current segment is longer by `count` bytes; all names, and the ends of the other segments, are unchanged
pub record Grows (gs hs : List Segment) (current count : ℕ) : Type 0 where
  pub names : map (λ (g : Segment). g.name) hs ≡ map (λ (g : Segment). g.name) gs
  pub size : length hs ≡ length gs
  pub here : (segment_at hs current).end ≡ (segment_at gs current).end + count
  pub others : (g : ℕ) → nat_eq current g ≡ false → (segment_at hs g).end ≡ (segment_at gs g).end

pub grows : (gs : List Segment) (current count alignment : ℕ) → current < length gs → Grows gs (with_grown_segment gs current count alignment) current count
grows gs current count alignment lt = record {
  names = grown_names gs current count alignment;
  size = grown_length gs current count alignment;
  here = grown_end gs current count alignment lt;
  others = λ g e. ap (λ (h : Segment). h.end) (grown_other gs current g count alignment e);
}

pub grows_none : (gs : List Segment) (current : ℕ) → Grows gs gs current 0
grows_none gs current = record { names = refl; size = refl; here = omega arith; others = λ g e. refl }

-- ---- A further segment.

-- a name without an index is not the name of a segment
pub not_among : (n : List ℕ) (gs : List Segment) → segment_index gs n ≡ None → is_among (map (λ (g : Segment). g.name) gs) n ≡ false
not_among n gs e = from 0 gs (sym (position_from-zero (λ (g : Segment). bytes_eq g.name n) gs) ∙ e)
  where
    from : (i : ℕ) (hs : List Segment) → position_from (λ (g : Segment). bytes_eq g.name n) i hs ≡ None → is_among (map (λ (g : Segment). g.name) hs) n ≡ false
    from i [] h = refl
    from i (g ∷ hs) h = by (bytes_eq g.name n) refl h (from (i + 1) hs)
      where
        by : (b : Bool) → bytes_eq g.name n ≡ b → cond b (Some i) (position_from (λ (k : Segment). bytes_eq k.name n) (i + 1) hs) ≡ None → (position_from (λ (k : Segment). bytes_eq k.name n) (i + 1) hs ≡ None → is_among (map (λ (k : Segment). k.name) hs) n ≡ false) → is_among (map (λ (k : Segment). k.name) (g ∷ hs)) n ≡ false
        by true same k more = absurd cc
        by false apart k more = ap (λ b. b || is_among (map (λ (m : Segment). m.name) hs) n) (bytes_swap n g.name ∙ apart) ∙ more k

pub end_after : (gs : List Segment) (n : List ℕ) (own : AddressSize) (g : ℕ) → (segment_at (gs ++ new_segment n own ∷ []) g).end ≡ (segment_at gs g).end
end_after [] n own zero = refl
end_after [] n own (suc g) = refl
end_after (x ∷ gs) n own zero = refl
end_after (x ∷ gs) n own (suc g) = end_after gs n own g

pub one_longer : (gs : List Segment) (g : Segment) → length (gs ++ g ∷ []) ≡ length gs + 1
one_longer gs g = length-append gs (g ∷ [])

pub named_there : (gs : List Segment) (n : List ℕ) (own : Option AddressSize) (location : Option ℕ) → segment_index gs n ≡ location → existing_or_new_index gs location < length (named_segments gs n own location)
named_there gs n own None e = let longer : length (gs ++ new_segment n (first_size n own) ∷ []) ≡ length gs + 1 = one_longer gs (new_segment n (first_size n own)) in omega (arith, longer)
named_there gs n own (Some i) e = found_below gs n i e
