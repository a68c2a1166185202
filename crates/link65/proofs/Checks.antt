-- Checks in order, the propagation of their errors, and the bytes of the rows that are checked.
use Rattle.std.proofs.lemmas.Grind.{common_steps}
use Rattle.std.proofs.Common.{arith, ◌≡◌, ◌<◌, ℕ, zero, suc, ◌+◌, map, Bool, true, false, List, [], ◌∷◌, ◌++◌, length, drop, get_or, refl, sym, ap, ◌∙◌, Result, Ok, Err, Option, Some, append_assoc, if◌then◌else◌}
use Rattle.std.specs.List.{flat_map}
use Rattle.script65.proofs.ListLemmas.{drop_item}
use Rattle.base65.specs.Outcome.{◌>>=◌, RefinesErr}
use Rattle.link65.specs.declared.fault.LinkFault.{LinkFault}
use Rattle.std.specs.Prelude.{replicate}
use Rattle.link65.specs.declared.parts.SegmentPiece.{SegmentPiece}
use Rattle.link65.specs.declared.parts.SegmentPiece.TheVariants.{Known, Filled}
use Rattle.link65.specs.declared.parts.ValueFixup.{ValueFixup}
use Rattle.link65.specs.Links.{check_each, fixups_in, fixups_of}
use Rattle.link65.specs.declared.parts.SegmentContent.{SegmentContent}
use Rattle.link65.specs.CodeInvariants.{cells_of, piece_cells, piece_fixups, segment_from}
use Rattle.link65.specs.Programs.{Cell, known, filled, Segment}
use Rattle.link65.specs.Faults.{is_memory}
use Rattle.link65.specs.Values.{cell_bytes, Exports, Linkage}

-- ---- Checks in order, and the propagation of errors.

-- if the error of `r` is the error of `q`, an error that refines `r` refines `q`
pub refuses_by : {A B : Type 0} (e : LinkFault) (r : Result A LinkFault) (q : Result B LinkFault) → (r ≡ Err e → q ≡ Err e) → RefinesErr is_memory e r → RefinesErr is_memory e q
refuses_by e r q h k = grind (arith, common_steps)

abbrev pub Check : Type 0 → Type 0
Check A = A → Result (Unit {0}) LinkFault

pub passes_next : {A : Type 0} (check : Check A) (xs : List A) (i : ℕ) (x : A) (u : Unit {0}) (whole : Result (Unit {0}) LinkFault) → i < length xs → x ≡ get_or xs i x → check x ≡ Ok u → check_each check (drop i xs) ≡ whole → check_each check (drop (i + 1) xs) ≡ whole
passes_next check xs i x u whole lt at e inv = grind (arith, common_steps)

pub passes_stops : {A : Type 0} (check : Check A) (xs : List A) (i : ℕ) (x : A) (whole : Result (Unit {0}) LinkFault) (f : LinkFault) → i < length xs → x ≡ get_or xs i x → check_each check (drop i xs) ≡ whole → RefinesErr is_memory f (check x) → RefinesErr is_memory f whole
passes_stops check xs i x whole f lt at inv k = grind (arith, common_steps)

pub passes_append : {A : Type 0} (check : Check A) (xs ys : List A) → check_each check (xs ++ ys) ≡ (check_each check xs >>= (λ u. check_each check ys))
passes_append check [] ys = refl
passes_append check (x ∷ xs) ys = grind (arith, common_steps, (passes_append check xs ys))

-- ---- Checks of the elements of each item.

module _ {A B : Type 0} (check : Check B) (f : A → List B) where
  flat_front : (xs : List A) (i : ℕ) (x : A) → i < length xs → x ≡ get_or xs i x → check_each check (flat_map f (drop i xs)) ≡ (check_each check (f x) >>= (λ u. check_each check (flat_map f (drop (i + 1) xs))))
  flat_front xs i x lt at = ap (λ l. check_each check (flat_map f l)) (drop_item xs i x lt at) ∙ passes_append check (f x) (flat_map f (drop (i + 1) xs))

  pub flat_next : (xs : List A) (i : ℕ) (x : A) (u : Unit {0}) (whole : Result (Unit {0}) LinkFault) → i < length xs → x ≡ get_or xs i x → check_each check (f x) ≡ Ok u → check_each check (flat_map f (drop i xs)) ≡ whole → check_each check (flat_map f (drop (i + 1) xs)) ≡ whole
  flat_next xs i x u whole lt at e inv =
      sym (ap (λ r. r >>= (λ z. check_each check (flat_map f (drop (i + 1) xs)))) e) ∙ sym (flat_front xs i x lt at) ∙ inv

  pub flat_stops : (xs : List A) (i : ℕ) (x : A) (whole : Result (Unit {0}) LinkFault) (e : LinkFault) → i < length xs → x ≡ get_or xs i x → check_each check (flat_map f (drop i xs)) ≡ whole → RefinesErr is_memory e (check_each check (f x)) → RefinesErr is_memory e whole
  flat_stops xs i x whole e lt at inv k =
      refuses_by e (check_each check (f x)) whole
      (λ q. sym inv ∙ flat_front xs i x lt at ∙ ap (λ r. r >>= (λ z. check_each check (flat_map f (drop (i + 1) xs)))) q) k

-- ---- Fixups in pieces.

known_waits : (bytes : List ℕ) → flat_map fixups_in (map known bytes) ≡ []
known_waits [] = refl
known_waits (b ∷ bytes) = known_waits bytes

filled_waits : (n : ℕ) → flat_map fixups_in (replicate n filled) ≡ []
filled_waits zero = refl
filled_waits (suc n) = filled_waits n

fixups-append : (xs ys : List Cell) → flat_map fixups_in (xs ++ ys) ≡ flat_map fixups_in xs ++ flat_map fixups_in ys
fixups-append [] ys = refl
fixups-append (x ∷ xs) ys = ap (λ l. fixups_in x ++ l) (fixups-append xs ys) ∙ sym (append_assoc (fixups_in x) (flat_map fixups_in xs) (flat_map fixups_in ys))

pub cells_wait : (pieces : List SegmentPiece) → flat_map fixups_in (cells_of pieces) ≡ flat_map piece_fixups pieces
cells_wait [] = refl
cells_wait (p ∷ ps) = fixups-append (piece_cells p) (cells_of ps) ∙ ap (λ l. piece_fixups p ++ l) (cells_wait ps)

pub known_passes : (check : Check ValueFixup) (p : SegmentPiece) (bytes : List ℕ) → p ≡ Known bytes → check_each check (piece_fixups p) ≡ Ok tt
known_passes check p bytes is = rw is (ap (check_each check) (known_waits bytes))

pub filled_passes : (check : Check ValueFixup) (p : SegmentPiece) (n : ℕ) → p ≡ Filled n → check_each check (piece_fixups p) ≡ Ok tt
filled_passes check p n is = rw is (ap (check_each check) (filled_waits n))

-- the fixups of a segment are the fixups of its pieces
pub content_waits : (check : Check ValueFixup) (o : Option Segment) (c : SegmentContent) (pieces : List SegmentPiece) → Some (segment_from c) ≡ o → pieces ≡ c.pieces → check_each check (fixups_of o) ≡ check_each check (flat_map piece_fixups pieces)
content_waits check o c pieces there same = ap (λ r. check_each check (fixups_of r)) (sym there) ∙ ap (check_each check) (cells_wait c.pieces ∙ ap (flat_map piece_fixups) (sym same))

-- ---- The bytes of pieces and of rows.

module _ (l : Linkage) (exports : Exports) (fill : ℕ) where
  abbrev cell : Cell → List ℕ
  cell = cell_bytes l exports fill

  known_bytes : (bytes : List ℕ) → flat_map cell (map known bytes) ≡ bytes
  known_bytes [] = refl
  known_bytes (b ∷ bytes) = ap (λ t. b ∷ t) (known_bytes bytes)

  filled_bytes : (n : ℕ) → flat_map cell (replicate n filled) ≡ replicate n fill
  filled_bytes zero = refl
  filled_bytes (suc n) = ap (λ t. fill ∷ t) (filled_bytes n)

  pub known_piece : (p : SegmentPiece) (bytes : List ℕ) → p ≡ Known bytes → bytes ≡ flat_map cell (piece_cells p)
  known_piece p bytes is = rw is (sym (known_bytes bytes))

  pub filled_piece : (p : SegmentPiece) (n : ℕ) → p ≡ Filled n → replicate n fill ≡ flat_map cell (piece_cells p)
  filled_piece p n is = rw is (sym (filled_bytes n))

  pub next_piece : (ps : List SegmentPiece) (i : ℕ) (p : SegmentPiece) (old new whole : List ℕ) → i < length ps → p ≡ get_or ps i p → new ≡ old ++ flat_map cell (piece_cells p) → old ++ flat_map cell (cells_of (drop i ps)) ≡ whole → new ++ flat_map cell (cells_of (drop (i + 1) ps)) ≡ whole
  next_piece ps i p old new whole lt at e inv = grind (arith, common_steps)

pub next_mapped : {A B : Type 0} (f : A → B) (xs : List A) (i : ℕ) (x : A) (y : B) (old new whole : List B) → i < length xs → x ≡ get_or xs i x → new ≡ old ++ y ∷ [] → y ≡ f x → old ++ map f (drop i xs) ≡ whole → new ++ map f (drop (i + 1) xs) ≡ whole
next_mapped f xs i x y old new whole lt at e is inv = grind (arith, common_steps)

-- a row without a segment has no bytes, whether or not it is written
pub nothing_written : (w : Bool) → ◌≡◌ {A = List ℕ} [] (if w then [] else [])
nothing_written true = refl
nothing_written false = refl
