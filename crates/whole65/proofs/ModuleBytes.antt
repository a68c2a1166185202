-- A module's statements in a segment have the bytes of the cells that its section appends to the segment.
use Rattle.std.proofs.lemmas.Grind.{common_steps}
use Rattle.std.proofs.Common.{◌≡◌, ℕ, zero, suc, List, [], ◌∷◌, ◌++◌, map, refl, sym, ◌∙◌, ap, subst, ◌+◌, true, filter, Result, Ok, arith}
use Rattle.std.specs.Prelude.{◌↔◌, replicate, ℤ, not, Some, slice_get}
use Rattle.std.specs.List.{flat_map, AllByRecursion}
use Rattle.std.proofs.lemmas.List.{append-nil, append_assoc}
use Rattle.object65.specs.declared.object.Fragment.{Fragment}
use Rattle.object65.specs.declared.object.Fragment.TheVariants.{Literal, Fill, Value}
use Rattle.link65.specs.Programs.{Cell, known, filled, fragment_cells}
use Rattle.link65.specs.Values.{Linkage}
use Rattle.whole65.proofs.LinkedObjects.{AreCells, linked_value, IsValuedIn, AreFragments, IsFragment, AreParts, ArePart, Valuing}
use Rattle.base65.specs.Outcome.{◌>>=◌}
use Rattle.base65.specs.Values.{value1}
use Rattle.object65.specs.Form.{Form, lit, sec, imp, prefix, binary}
use Rattle.object65.specs.FormValue.{value_in}
use Rattle.object65.specs.declared.object.Origin.{Origin}
use Rattle.syntax65.specs.declared.source_location.SourceLocation.{SourceLocation}
use Rattle.semantics65.specs.Contents.{Part, Known, ReservedBytes, LinkTimeValue, Content}
use Rattle.semantics65.specs.Numbering.{merged_neighbours, fragment_of, fragments_of, is_empty, merged_fragments, number_of, renumbered_form, parts_in, section_of}
use Rattle.whole65.proofs.SectionBytes.{section_law}
use Rattle.whole65.specs.Objects.{HasValue, LinkerView, IsLinkerView}
use Rattle.semantics65.specs.Module.{module_resolution}
use Rattle.semantics65.specs.Layout.{Layout}
use Rattle.whole65.specs.Modules.{table_of}
use Rattle.whole65.specs.Offsets.{statements_with_segment, IsMultiple, HasNoLineErrors}
use Rattle.semantics65.specs.Symbols.{LaidOutStatement}
use Rattle.whole65.specs.Segments.{largest_multiple, module_statements_after, statement_item}
use Rattle.whole65.specs.Contents.{EncodesSegmentItems}
use Rattle.whole65.specs.Values.{Program}

-- ---- Cells and the fragments that they come from.

module _ (l : Linkage) (fill : ℕ) where
  abbrev pub BothCells : List Cell → List Cell → List ℕ → Type 0
  BothCells cs ds bytes = (own : List ℕ) × (rest : List ℕ) × AreCells l fill cs own × AreCells l fill ds rest × (bytes ≡ own ++ rest)

  pub cells_joined : (cs ds : List Cell) (bytes : List ℕ) → BothCells cs ds bytes → AreCells l fill (cs ++ ds) bytes
  cells_joined [] ds bytes (own, rest, none, h, e) = subst (AreCells l fill ds) (sym (e ∙ ap (λ z. z ++ rest) none)) h
  cells_joined (c ∷ cs) ds bytes (own, rest, (a, b, k, more, e'), h, e) = grind (arith, common_steps, (cells_joined cs ds (b ++ rest) (b, rest, more, h, refl)))

  pub cells_split : (cs ds : List Cell) (bytes : List ℕ) → AreCells l fill (cs ++ ds) bytes → BothCells cs ds bytes
  cells_split [] ds bytes h = ([], bytes, refl, h, refl)
  cells_split (c ∷ cs) ds bytes (a, b, k, more, e) =
      let (own, rest, h, g, e') = cells_split cs ds b more in
      (a ++ own, rest, (a, own, k, h, refl), g, e ∙ ap (λ z. a ++ z) e' ∙ sym (append_assoc a own rest))

  of_known : (own bytes : List ℕ) → (bytes ≡ own) ↔ AreCells l fill (map known own) bytes
  of_known [] bytes = (λ h. h, λ h. h)
  of_known (b ∷ own) bytes = grind (arith, common_steps, (of_known own))

  pub of_filled : (n : ℕ) (bytes : List ℕ) → (bytes ≡ replicate n fill) ↔ AreCells l fill (replicate n filled) bytes
  of_filled zero bytes = (λ h. h, λ h. h)
  of_filled (suc n) bytes = grind (arith, common_steps, (of_filled n))

  of_fragment : (owner : ℕ) (f : Fragment) (bytes : List ℕ) → IsFragment (linked_value l owner) fill f bytes ↔ AreCells l fill (fragment_cells owner f) bytes
  of_fragment owner (Literal own) bytes = of_known own bytes
  of_fragment owner (Fill n) bytes = of_filled n bytes
  of_fragment owner (Value width origin f) bytes = (λ h. (bytes, [], h, refl, sym (append-nil bytes)), back)
    where
      back : AreCells l fill (fragment_cells owner (Value width origin f)) bytes → IsFragment (linked_value l owner) fill (Value width origin f) bytes
      back (own, rest, h, none, e) = grind (arith, common_steps)

  pub of_fragments : (owner : ℕ) (fs : List Fragment) (bytes : List ℕ) → AreFragments (linked_value l owner) fill fs bytes ↔ AreCells l fill (flat_map (fragment_cells owner) fs) bytes
  of_fragments owner [] bytes = (λ h. h, λ h. h)
  of_fragments owner (f ∷ fs) bytes = grind (arith, common_steps, cells_joined, of_fragment, cells_split, (of_fragments owner fs))

-- the fragments of a section have the bytes of their cells
pub cells_law : (l : Linkage) (fill owner : ℕ) (fs : List Fragment) (bytes : List ℕ) → AreFragments (linked_value l owner) fill fs bytes ↔ AreCells l fill (flat_map (fragment_cells owner) fs) bytes
cells_law l fill owner fs bytes = of_fragments l fill owner fs bytes

-- ---- Fragments and the parts that they join.

-- the value of a renumbered form is the value of the form, with bases and values looked up by the new numbers
pub number_law : (E : Type 0) → (none : E) (bases : ℕ → ℤ) (values : ℕ → Result ℤ E) (sections imports : List ℕ) (f : Form) → value_in none bases values (renumbered_form sections imports f) ≡ value_in none (λ g. bases (number_of sections g)) (λ k. values (number_of imports k)) f
number_law E none bases values ss is (lit v) = refl
number_law E none bases values ss is (sec g a) = refl
number_law E none bases values ss is (imp k) = refl
number_law E none bases values ss is (prefix op f) = ap (λ r. r >>= (λ a. Ok (value1 op a))) (number_law E none bases values ss is f)
number_law E none bases values ss is (binary op f g) = grind (arith, common_steps, (number_law E none bases values ss is f), (number_law E none bases values ss is g))

module _ (Has : Valuing) (fill : ℕ) where
  -- ---- Parts and their fragments.
  pub same_parts : (origins : SourceLocation → Origin) (ss is : List ℕ) (ps : List Part) (bytes : List ℕ) → AreParts (λ f v. Has (renumbered_form ss is f) v) fill ps bytes ↔ AreFragments Has fill (map (fragment_of origins ss is) ps) bytes
  same_parts origins ss is [] bytes = (λ h. h, λ h. h)
  same_parts origins ss is (p ∷ ps) bytes = grind (arith, common_steps, (same_parts origins ss is ps))

  -- ---- Without empty fragments.
  no_bytes : (f : Fragment) → is_empty f ≡ true → (IsFragment Has fill f []) × ((bytes : List ℕ) → IsFragment Has fill f bytes → bytes ≡ [])
  no_bytes x e = grind (arith, common_steps)

  abbrev kept : List Fragment → List Fragment
  kept fs = filter (λ f. not (is_empty f)) fs

  pub all_kept : (fs : List Fragment) (bytes : List ℕ) → AreFragments Has fill fs bytes ↔ AreFragments Has fill (kept fs) bytes
  all_kept [] bytes = (λ h. h, λ h. h)
  all_kept (f ∷ fs) bytes = grind (arith, common_steps, (all_kept fs), no_bytes)

  -- ---- Joined fragments.
  more_fill : (m n : ℕ) → replicate (m + n) fill ≡ replicate m fill ++ replicate n fill
  more_fill zero n = (let same : zero + n ≡ n = omega arith in ap (λ k. replicate k fill) same)
  more_fill (suc m) n = (let same : suc m + n ≡ suc (m + n) = omega arith in ap (λ k. replicate k fill) same ∙ ap (λ z. fill ∷ z) (more_fill m n))

  both : (f g h : Fragment) (fs : List Fragment) (a b : List ℕ) →
      ((own : List ℕ) → IsFragment Has fill f own ↔ (own ≡ a)) → ((own : List ℕ) → IsFragment Has fill g own ↔ (own ≡ b)) → ((own : List ℕ) → IsFragment Has fill h own ↔ (own ≡ a ++ b)) →
      (bytes : List ℕ) → AreFragments Has fill (f ∷ g ∷ fs) bytes ↔ AreFragments Has fill (h ∷ fs) bytes
  both f g h fs a b is_f is_g is_h bytes = (there, back)
    where
      there : AreFragments Has fill (f ∷ g ∷ fs) bytes → AreFragments Has fill (h ∷ fs) bytes
      there (x, rest, p, (y, more, q, r, e), e') = (a ++ b, more, (is_h (a ++ b)).1 refl, r, grind (arith, common_steps))

      back : AreFragments Has fill (h ∷ fs) bytes → AreFragments Has fill (f ∷ g ∷ fs) bytes
      back (x, more, p, r, e) = (a, b ++ more, (is_f a).1 refl, (b, more, (is_g b).1 refl, r, refl), grind (arith, common_steps))

  one_more : (f : Fragment) (gs hs : List Fragment) (bytes : List ℕ) → ((rest : List ℕ) → AreFragments Has fill gs rest ↔ AreFragments Has fill hs rest) → AreFragments Has fill (f ∷ gs) bytes ↔ AreFragments Has fill (f ∷ hs) bytes
  one_more f gs hs bytes same = grind (arith, common_steps)

  then : {A B C : Type 0} → A ↔ B → B ↔ C → A ↔ C
  then p q = (λ a. q.0 (p.0 a), λ c. p.1 (q.1 c))

  all_in_one : (f : Fragment) (fs : List Fragment) (bytes : List ℕ) → AreFragments Has fill (f ∷ fs) bytes ↔ AreFragments Has fill (merged_fragments f fs) bytes
  all_in_one f [] bytes = (λ h. h, λ h. h)
  all_in_one (Literal a) (Literal b ∷ fs) bytes = grind (arith, common_steps, (all_in_one (Literal (a ++ b)) fs bytes))
  all_in_one (Fill m) (Fill n ∷ fs) bytes = grind (arith, common_steps, more_fill, (all_in_one (Fill (m + n)) fs bytes))
  all_in_one f (g ∷ fs) bytes = one_more f (g ∷ fs) (merged_fragments g fs) bytes (all_in_one g fs)

  pub all_joined_are : (fs : List Fragment) (bytes : List ℕ) → AreFragments Has fill fs bytes ↔ AreFragments Has fill (merged_neighbours fs) bytes
  all_joined_are x bytes = grind (arith, common_steps, all_in_one)

-- ---- A module's statements and its section.

module _ {E : Type 0} (o : LinkerView E) (l : Linkage) (owner fill : ℕ) (sections imports : List ℕ) where
  of_part : (q : Part) (bytes : List ℕ) → IsValuedIn o l owner sections imports q → ArePart (HasValue o owner) fill q bytes ↔ ArePart (λ f v. linked_value l owner (renumbered_form sections imports f) v) fill q bytes
  of_part (Known own) bytes h = (λ k. k, λ k. k)
  of_part (ReservedBytes n) bytes h = (λ k. k, λ k. k)
  of_part (LinkTimeValue width place f) bytes h = (λ k. (k.0, (h k.0).0 k.1, k.2), λ k. (k.0, (h k.0).1 k.1, k.2))

  of_parts : (qs : List Part) (bytes : List ℕ) → AllByRecursion (IsValuedIn o l owner sections imports) qs → AreParts (HasValue o owner) fill qs bytes ↔ AreParts (λ f v. linked_value l owner (renumbered_form sections imports f) v) fill qs bytes
  of_parts [] bytes h = (λ k. k, λ k. k)
  of_parts (q ∷ qs) bytes h = grind (arith, common_steps, of_part, (of_parts qs))

-- If the deferred forms of a module's section have the same values in the link, then the module's statements in the segment
-- have the bytes of the section's cells.
pub module_law : (E : Type 0) → (p : Program) (o : LinkerView E) (l : Linkage) (fill begin owner g : ℕ) (y : Layout) (cs : List Content) (origins : SourceLocation → Origin) (sections imports bytes : List ℕ) → IsLinkerView p o → o.symbols owner ≡ table_of y → ((index : ℕ) (x : LaidOutStatement) → slice_get y.laid index ≡ Some x → o.contexts owner index ≡ x.context) → HasNoLineErrors y → IsMultiple begin (largest_multiple (statements_with_segment g (module_statements_after owner [] y.laid))) → (module_resolution y.laid).found ≡ Ok cs → AllByRecursion (IsValuedIn o l owner sections imports) (parts_in cs g) → EncodesSegmentItems p fill begin (map statement_item (statements_with_segment g (module_statements_after owner [] y.laid))) bytes ↔ AreCells l fill (flat_map (fragment_cells owner) (section_of origins y.cursor.segments sections imports cs g).fragments) bytes
module_law E p o l fill begin owner g y cs origins sections imports bytes h table contexts d m e valued =
    let Has : Valuing = linked_value l owner in
    let lines = section_law E p o fill begin owner g y cs bytes h table contexts d m e in
    let parts = of_parts o l owner fill sections imports (parts_in cs g) bytes valued in
    let fragments = same_parts Has fill origins sections imports (parts_in cs g) bytes in
    let kept = all_kept Has fill (map (fragment_of origins sections imports) (parts_in cs g)) bytes in
    let merged_neighbours = all_joined_are Has fill (fragments_of origins sections imports (parts_in cs g)) bytes in
    let cells = cells_law l fill owner _ bytes in
    (λ k. cells.0 (merged_neighbours.0 (kept.0 (fragments.0 (parts.0 (lines.0 k))))), λ k. lines.1 (parts.1 (fragments.1 (kept.1 (merged_neighbours.1 (cells.1 k))))))
