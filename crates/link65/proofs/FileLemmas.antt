-- The files of areas: the rows of each area, and their pieces, which are copied into an image.
use Rattle.std.proofs.lemmas.Grind.{common_steps}
use Rattle.std.proofs.Common.{◌≡◌, ◌∙◌, ℕ, ◌+◌, ◌<◌, ◌≤◌, Bool, true, false, List, [], ◌∷◌, length, get_or, drop, map, refl, sym, ap, subst, arith, zero, suc, ◌++◌, slice_get, Option, Some, None, append_assoc, add-one, inl, inr}
use Rattle.std.specs.Prelude.{◌&&◌, ◌==◌, filter, if◌then◌else◌, nat_le, nat_lt, not, IsUtf8, ◌||◌, slice_set}
use Rattle.std.proofs.lemmas.Bool.Decides.{nat_tests}
use Rattle.std.proofs.lemmas.List.{drop_all, map-append}
use Rattle.script65.proofs.ListLemmas.{drop_item, drop_at}
use Rattle.script65.specs.declared.placement.AreaPlacement.{AreaPlacement}
use Rattle.script65.specs.declared.script.MemoryArea.{MemoryArea}
use Rattle.link65.specs.declared.files.RowImage.{RowImage}
use Rattle.link65.specs.Files.{IsFileBy, IsImage, RowPiece, PlacedRow, RowBytes, area_pieces, image_byte, file_len, overlaid_byte, offset_of, is_loaded, loaded_in, written_row_bytes, AddsArea, AddsAreas, IsAreaFile, area_at, file_name, with_bytes}
use Rattle.link65.specs.Internal.Loads.{IsSinglePiece, OverlaysPieces, OverlaysBytes, PlacedBytes, IsFileOf, has_bytes, placed_bytes_of, piece_at, placed_row_of, view, HasRowImages}
use Rattle.std.specs.Option.{option_map}
use Rattle.std.proofs.lemmas.Option.{slice_get_cases}
use Rattle.script65.specs.declared.placement.RowPlacement.{RowPlacement}
use Rattle.script65.specs.declared.script.SegmentRow.{SegmentRow}
use Rattle.std.specs.Borrow.{Bor}
use Rattle.std.specs.List.{list_any, position_or_len}
use Rattle.std.specs.Str.{bytes_eq}
use Rattle.std.proofs.lemmas.Str.{is_utf8-from_IsUtf8}
use Rattle.base65.proofs.Texts.{not_utf8}
use Rattle.script65.proofs.AreaLemmas.{there}
use Rattle.script65.specs.declared.placement.Placement.{Placement}
use Rattle.script65.specs.declared.script.AreaOutput.{AreaOutput}
use Rattle.script65.specs.declared.script.AreaOutput.TheVariants.{Named}
use Rattle.base65.specs.declared.output.OutputFile.{OutputFile}

-- ---- Pieces copied into an image.

pub laid_none : (image : List ℕ) → OverlaysPieces [] image image
laid_none image = record { len = refl; each = λ i inside. refl }

-- the pieces of rows in the file of an area that begins at `start`
abbrev pub pieces_in : ℕ → List RowImage → List RowPiece
pieces_in start ls = map (piece_at start) (map view ls)

pub next_row : (start offset : ℕ) (ls : List RowImage) (i : ℕ) (l : RowImage) (bytes mid image new : List ℕ) → i < length ls → l ≡ get_or ls i l → offset ≡ offset_of start (placed_row_of l) → bytes ≡ l.bytes → OverlaysBytes mid offset bytes image → OverlaysPieces (pieces_in start (drop (i + 1) ls)) image new → OverlaysPieces (pieces_in start (drop i ls)) mid new
next_row start offset ls i l bytes mid image new lt is at same laid rest = grind (arith, common_steps)

pub no_row : (start : ℕ) (ls : List RowImage) (i : ℕ) (image : List ℕ) → length ls ≤ i → OverlaysPieces (pieces_in start (drop i ls)) image image
no_row start ls i image le = subst (λ (xs : List RowImage). OverlaysPieces (pieces_in start xs) image image) (sym (drop_all i ls le)) (laid_none image)

-- ---- A file that consists of one row.

inside : (i at len : ℕ) → at ≡ 0 → i < len → (nat_le at i && nat_lt i (at + len)) ≡ true
inside i at len e lt = grind (arith, nat_tests)

pub whole_image : (len fill : ℕ) (pieces : List RowPiece) (image : List ℕ) (w : IsSinglePiece len pieces) → image ≡ (w.0).bytes → IsImage len fill pieces image
whole_image len fill pieces image x same = grind (arith, common_steps)

pub first_bytes : (len start : ℕ) (ls : List RowImage) (l : RowImage) (w : IsSinglePiece len (pieces_in start ls)) → l ≡ get_or ls 0 l → l.bytes ≡ (w.0).bytes
first_bytes len start x l y e = grind (arith, common_steps)

pub one_row : (len start : ℕ) (ls : List RowImage) (l : RowImage) → 1 ≤ length ls → length ls < 2 → l ≡ get_or ls 0 l → l.placement.load ≤ start → length l.bytes ≡ len → IsSinglePiece len (pieces_in start ls)
one_row len start [] l some few is le long = absurd (omega arith)
one_row len start (x ∷ y ∷ ls) l some few is le long = absurd (omega arith)
one_row len start (x ∷ []) l some few is le long = (piece_at start (view l), ap (λ (z : RowImage). piece_at start (view z) ∷ []) (sym is), omega arith, long)

placed_all : (ls : List RowImage) → map (λ h. h.0) (map view ls) ≡ map placed_row_of ls
placed_all [] = refl
placed_all (l ∷ ls) = ap (λ ps. placed_row_of l ∷ ps) (placed_all ls)

-- ---- Rows without bytes.

none_laid : (i at : ℕ) (bytes : List ℕ) (before : ℕ) → not (length bytes == 0) ≡ false → overlaid_byte i at bytes before ≡ before
none_laid i at x before e = grind (arith, common_steps)

full_over : (start : ℕ) (ls : List RowImage) (i before : ℕ) → image_byte (pieces_in start (filter has_bytes ls)) i before ≡ image_byte (pieces_in start ls) i before
full_over start [] i before = refl
full_over start (l ∷ ls) i before = grind (arith, common_steps, (full_over start ls i), none_laid)

-- the file of an area's rows, from its length and the rows that have bytes
pub file_of : (a : MemoryArea) (placement : AreaPlacement) (ls items : List RowImage) (len : ℕ) (image : List ℕ) → items ≡ filter has_bytes ls → len ≡ file_len a placement (map placed_row_of ls) → IsImage len a.fill_value (pieces_in placement.start items) image → IsFileOf a placement (map view ls) image
file_of a placement ls items len image are long file = grind (arith, common_steps, there, full_over, placed_all)

-- ---- The file in terms of the bytes of rows.

firsts : (bytes : RowBytes) (ps : List PlacedRow) → map (λ h. h.0) (map (placed_bytes_of bytes) ps) ≡ ps
firsts bytes [] = refl
firsts bytes (p ∷ ps) = ap (λ qs. p ∷ qs) (firsts bytes ps)

all_pieces : (start : ℕ) (bytes : RowBytes) (ps : List PlacedRow) → map (piece_at start) (map (placed_bytes_of bytes) ps) ≡ area_pieces start bytes ps
all_pieces start bytes [] = refl
all_pieces start bytes (p ∷ ps) = ap (λ qs. record { offset = offset_of start p; bytes = bytes p.row } ∷ qs) (all_pieces start bytes ps)

-- the file of rows with their bytes is the file of the rows
pub file_by : (bytes : RowBytes) (a : MemoryArea) (placement : AreaPlacement) (hs : List PlacedBytes) (ps : List PlacedRow) (image : List ℕ) → hs ≡ map (placed_bytes_of bytes) ps → IsFileOf a placement hs image → IsFileBy bytes a placement ps image
file_by bytes a placement hs ps image are file = grind (arith, common_steps, firsts, all_pieces)

-- ---- The rows of each area's file.

-- a list with one further item, if a condition is true
abbrev pub with_if : {A : Type 0} → Bool → A → List A → List A
with_if b x m = if b then m ++ x ∷ [] else m

loaded_none : (k : ℕ) (rows : List SegmentRow) → loaded_in k rows [] ≡ []
loaded_none k [] = refl
loaded_none k (r ∷ rows) = refl

none_past : {A : Type 0} (xs : List A) (i : ℕ) → slice_get xs i ≡ None → length xs ≤ i
none_past xs i e = elim (slice_get_cases xs i).1 [ inl h ↦ absurd (let n : Some h.0 ≡ None = sym h.2 ∙ e in cc) | inr h ↦ h.0 ]

-- a row that is in a file is written, so its written bytes are its bytes
own_bytes : (bytes : RowBytes) (k : ℕ) (r : SegmentRow) → is_loaded k r ≡ true → written_row_bytes bytes r ≡ bytes r
own_bytes bytes k r e = grind (arith, common_steps)

-- the rows in an area's file, with their bytes
abbrev held_in : RowBytes → ℕ → List SegmentRow → List RowPlacement → List PlacedBytes
held_in bytes k rows placements = map (placed_bytes_of bytes) (loaded_in k rows placements)

-- the rows that were collected, and those from index `i` on, are the rows of the area's file
abbrev pub Collects : RowBytes → ℕ → List SegmentRow → List RowPlacement → ℕ → Option (List RowImage) → Type 0
Collects bytes k rows placements i o = (m : List RowImage) × (o ≡ Some m) × (map view m ++ held_in bytes k (drop i rows) (drop i placements) ≡ held_in bytes k rows placements)

module _ (bytes : RowBytes) (k : ℕ) (rows : List SegmentRow) (placements : List RowPlacement) where
  pub collects_none : (o : Option (List RowImage)) → o ≡ Some [] → Collects bytes k rows placements 0 o
  collects_none o e = grind (arith, common_steps)

  pub collects_more : (i : ℕ) (l : RowImage) (old new : Option (List RowImage)) → i < length rows → l.row.now ≡ get_or rows i l.row.now → slice_get placements i ≡ Some l.placement → l.bytes ≡ written_row_bytes bytes l.row.now → new ≡ option_map (with_if (is_loaded k l.row.now) l) old → Collects bytes k rows placements i old → Collects bytes k rows placements (i + 1) new
  collects_more i l old new lt at there own e h =
      (with_if (is_loaded k l.row.now) l h.0, e ∙ ap (option_map (with_if (is_loaded k l.row.now) l)) h.1, by (is_loaded k l.row.now) mine (front ∙ h.2))
    where
      rest : List PlacedRow
      rest = loaded_in k (drop (i + 1) rows) (drop (i + 1) placements)

      mine : is_loaded k l.row.now ≡ true → view l ≡ placed_bytes_of bytes (placed_row_of l)
      mine is = ap (λ (b : List ℕ). (placed_row_of l, b)) (own ∙ own_bytes bytes k l.row.now is)

      front : map view h.0 ++ map (placed_bytes_of bytes) (loaded_in k (l.row.now ∷ drop (i + 1) rows) (l.placement ∷ drop (i + 1) placements)) ≡ map view h.0 ++ held_in bytes k (drop i rows) (drop i placements)
      front = ap (λ rs. map view h.0 ++ map (placed_bytes_of bytes) (loaded_in k rs (l.placement ∷ drop (i + 1) placements))) (sym (drop_item rows i l.row.now lt at)) ∙ ap (λ ps. map view h.0 ++ map (placed_bytes_of bytes) (loaded_in k (drop i rows) ps)) (sym (rw add-one (drop_at placements i l.placement there)))

      by : (b : Bool) → (b ≡ true → view l ≡ placed_bytes_of bytes (placed_row_of l)) → map view h.0 ++ map (placed_bytes_of bytes) (if b then placed_row_of l ∷ rest else rest) ≡ held_in bytes k rows placements → map view (with_if b l h.0) ++ map (placed_bytes_of bytes) rest ≡ held_in bytes k rows placements
      by true same t = ap (λ m. m ++ map (placed_bytes_of bytes) rest) (map-append view h.0 (l ∷ [])) ∙ append_assoc (map view h.0) (view l ∷ []) (map (placed_bytes_of bytes) rest) ∙ ap (λ x. map view h.0 ++ x ∷ map (placed_bytes_of bytes) rest) (same refl) ∙ t
      by false same t = t

  -- the case of a row without a placement
  pub collects_past : (i : ℕ) (o : Option (List RowImage)) → slice_get placements i ≡ None → Collects bytes k rows placements i o → Collects bytes k rows placements (i + 1) o
  collects_past i o past h = grind (arith, common_steps, none_past, drop_all, loaded_none)

  pub collects_all : (i : ℕ) (o : Option (List RowImage)) → length rows ≤ i → Collects bytes k rows placements i o → HasRowImages bytes k rows placements o
  collects_all i o le h = grind (arith, common_steps)

-- the bytes of a row, from the list of the bytes of all rows
pub taken_bytes : (bytes : RowBytes) (rows : List SegmentRow) (all : List (List ℕ)) (i : ℕ) (r : SegmentRow) (b : List ℕ) → all ≡ map (written_row_bytes bytes) rows → i < length rows → r ≡ get_or rows i r → ((x : List ℕ) → slice_get all i ≡ Some x → b ≡ x) → b ≡ written_row_bytes bytes r
taken_bytes bytes rows all i r b are lt at h = h (written_row_bytes bytes r) (ap (λ (xs : List (List ℕ)). slice_get xs i) are ∙ there rows i lt at)
  where
    there : (rs : List SegmentRow) (n : ℕ) → n < length rs → r ≡ get_or rs n r → slice_get (map (written_row_bytes bytes) rs) n ≡ Some (written_row_bytes bytes r)
    there [] n lt at = absurd (omega arith)
    there (x ∷ rs) zero lt at = ap (λ y. Some (written_row_bytes bytes y)) (sym at)
    there (x ∷ rs) (suc n) lt at = there rs n (omega arith) at

-- ---- The files of areas.

pub named_ok : (output name bytes got : List ℕ) (f : AreaOutput) → f ≡ Named name → bytes ≡ name → got ≡ bytes → IsUtf8 bytes → got ≡ file_name output f
named_ok output name bytes got f is same e utf8 = rw (is, sym same, is_utf8-from_IsUtf8 bytes utf8) e

pub named_err : (output name bytes : List ℕ) (f : AreaOutput) → f ≡ Named name → bytes ≡ name → ¬ (IsUtf8 bytes) → ◌≡◌ {A = List ℕ} [] (file_name output f)
named_err output name bytes f is same never = rw (is, sym same, not_utf8 bytes never) refl

none_within : {A : Type 0} (xs : List A) (i : ℕ) → i < length xs → slice_get xs i ≡ None → ⊥
none_within [] i lt e = absurd (omega arith)
none_within (x ∷ xs) zero lt e = cc
none_within (x ∷ xs) (suc i) lt e = none_within xs i (omega arith) e

one_more : (n : ℕ) → 1 + n ≡ suc n
one_more n = omega arith

abbrev names : List OutputFile → List (List ℕ)
names os = map (λ o. o.name) os

-- a file of a new name is appended
pub added_new : (name bytes : List ℕ) (os : List OutputFile) → list_any (bytes_eq name) (names os) ≡ false → os ++ record { name = name; bytes = bytes } ∷ [] ≡ with_bytes name bytes os
added_new name bytes [] e = refl
added_new name bytes (o ∷ os) e = grind (arith, common_steps, (added_new name bytes os))

get_next : (p : OutputFile) (os : List OutputFile) (n : ℕ) → slice_get (p ∷ os) (1 + n) ≡ slice_get os n
get_next p os n = rw one_more refl

set_next : (p : OutputFile) (os : List OutputFile) (n : ℕ) (o : OutputFile) → slice_set (p ∷ os) (1 + n) o ≡ p ∷ slice_set os n o
set_next p os n o = rw one_more refl

-- bytes are appended to the file of this name, at its index
pub added_more : (name bytes : List ℕ) (os : List OutputFile) (o : OutputFile) → slice_get os (position_or_len (bytes_eq name) (names os)) ≡ Some o → slice_set os (position_or_len (bytes_eq name) (names os)) (record { name = o.name; bytes = o.bytes ++ bytes }) ≡ with_bytes name bytes os
added_more name bytes [] o e = absurd cc
added_more name bytes (p ∷ os) o e = grind (arith, common_steps, (added_more name bytes os o), set_next, get_next)

-- the index of a name in a set that contains the names of the files
module _ (name : List ℕ) where
  abbrev is : Bor (List ℕ) → Bool
  is k = bytes_eq name k.now

  any_name : (keys : List (Bor (List ℕ))) → list_any is keys ≡ list_any (bytes_eq name) (map (λ k. k.now) keys)
  any_name [] = refl
  any_name (k ∷ keys) = ap (λ b. bytes_eq name k.now || b) (any_name keys)

  at_name : (keys : List (Bor (List ℕ))) → position_or_len is keys ≡ position_or_len (bytes_eq name) (map (λ k. k.now) keys)
  at_name [] = refl
  at_name (k ∷ keys) = ap (λ n. if not (bytes_eq name k.now) then 1 + n else 0) (at_name keys)

  pub no_file : (keys : List (Bor (List ℕ))) (os : List OutputFile) (new : Bool) → map (λ k. k.now) keys ≡ names os → new ≡ true → new ≡ not (list_any is keys) → list_any (bytes_eq name) (names os) ≡ false
  no_file keys os new same is_new e = grind (arith, common_steps, any_name)

  pub file_at : (keys : List (Bor (List ℕ))) (os : List OutputFile) (index : ℕ) → map (λ k. k.now) keys ≡ names os → index ≡ position_or_len is keys → index ≡ position_or_len (bytes_eq name) (names os)
  file_at keys os index same e = e ∙ at_name keys ∙ ap (position_or_len (bytes_eq name)) same

  pub keys_stay : (keys added : List (Bor (List ℕ))) (k : Bor (List ℕ)) (new : Bool) → new ≡ false → new ≡ not (list_any is keys) → added ≡ (if list_any is keys then keys else keys ++ k ∷ []) → added ≡ keys
  keys_stay keys added k new old e grown = grind (arith, common_steps)

-- the same, if the index is within the list of files
pub more_there : (name bytes : List ℕ) (os new : List OutputFile) (index : ℕ) → index < length os → index ≡ position_or_len (bytes_eq name) (names os) → ((o : OutputFile) → slice_get os index ≡ Some o → new ≡ slice_set os index (record { name = o.name; bytes = o.bytes ++ bytes })) → new ≡ with_bytes name bytes os
more_there name bytes os new index lt at h = by (slice_get os index) refl
  where
    by : (o : Option OutputFile) → slice_get os index ≡ o → new ≡ with_bytes name bytes os
    by None e = absurd (none_within os index lt e)
    by (Some o) e =
        let there = subst (λ (n : ℕ). slice_get os n ≡ Some o) at e in
        h o e ∙ ap (λ n. slice_set os n (record { name = o.name; bytes = o.bytes ++ bytes })) at ∙ added_more name bytes os o there

same_name : (os : List OutputFile) (index : ℕ) (o : OutputFile) (bytes : List ℕ) → slice_get os index ≡ Some o → names (slice_set os index (record { name = o.name; bytes = bytes })) ≡ names os
same_name [] index o bytes e = absurd cc
same_name (p ∷ os) zero o bytes e = let is : p ≡ o = cc in ap (λ (q : OutputFile). q.name ∷ names os) (sym is)
same_name (p ∷ os) (suc n) o bytes e = ap (λ l. p.name ∷ l) (same_name os n o bytes e)

pub names_stay : (bytes : List ℕ) (os new : List OutputFile) (index : ℕ) → index < length os → ((o : OutputFile) → slice_get os index ≡ Some o → new ≡ slice_set os index (record { name = o.name; bytes = o.bytes ++ bytes })) → names new ≡ names os
names_stay bytes os new index lt h = by (slice_get os index) refl
  where
    by : (o : Option OutputFile) → slice_get os index ≡ o → names new ≡ names os
    by None e = absurd (none_within os index lt e)
    by (Some o) e = ap names (h o e) ∙ same_name os index o (o.bytes ++ bytes) e

-- one further area
module _ (output : List ℕ) (bytes : RowBytes) (rows : List SegmentRow) (p : Placement) where
  abbrev Adds : ℕ → List MemoryArea → List OutputFile → List OutputFile → Type 0
  Adds = AddsAreas output (IsAreaFile rows p bytes)

  by_rows : (b : Bool) (name : List ℕ) (a : MemoryArea) (placement : AreaPlacement) (hs : List PlacedBytes) (ps : List PlacedRow) (before after : List OutputFile) → hs ≡ map (placed_bytes_of bytes) ps → AddsArea b name (IsFileOf a placement hs) before after → AddsArea b name (IsFileBy bytes a placement ps) before after
  by_rows true name a placement hs ps before after are e = e
  by_rows false name a placement hs ps before after are e = (e.0, file_by bytes a placement hs ps e.0 are e.1, e.2)

  pub next_area : (areas : List MemoryArea) (k : ℕ) (a : MemoryArea) (name : List ℕ) (placement : AreaPlacement) (loads : List PlacedBytes) (before mid after : List OutputFile) → k < length areas → a ≡ get_or areas k a → name ≡ file_name output a.file → placement ≡ area_at p k → loads ≡ map (placed_bytes_of bytes) (loaded_in k rows p.rows) → AddsArea (length name == 0) name (IsFileOf a placement loads) before mid → Adds (k + 1) (drop (k + 1) areas) mid after → Adds k (drop k areas) before after
  next_area areas k a name placement loads before mid after lt is named stands are adds rest =
      let so = subst (λ (n : List ℕ). AddsArea (length n == 0) n (IsFileOf a placement loads) before mid) named adds in
      let there = subst (λ (q : AreaPlacement). AddsArea (length (file_name output a.file) == 0) (file_name output a.file) (IsFileOf a q loads) before mid) stands so in
      let here = by_rows (length (file_name output a.file) == 0) (file_name output a.file) a (area_at p k) loads (loaded_in k rows p.rows) before mid are there in
      subst (λ (l : List MemoryArea). Adds k l before after) (sym (drop_item areas k a lt is)) (mid, here, rest)

  pub no_area : (areas : List MemoryArea) (k : ℕ) (files : List OutputFile) → length areas ≤ k → Adds k (drop k areas) files files
  no_area areas k files le = subst (λ (l : List MemoryArea). Adds k l files files) (sym (drop_all k areas le)) refl
