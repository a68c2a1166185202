-- A link writes the files of the program's image if all fixups pass their checks, and exports have the same values in both.
use Rattle.std.proofs.lemmas.Grind.{common_steps}
use Rattle.std.proofs.Common.{◌≡◌, ℕ, zero, suc, ◌+◌, ◌<◌, List, [], ◌∷◌, length, slice_get, Option, Some, Result, Ok, Err, refl, ◌∙◌, ap, subst, arith, Bool, true, false, cond, sym, map}
use Rattle.std.specs.Prelude.{ℤ, ◌↔◌, ◌==◌}
use Rattle.base65.specs.Outcome.{◌>>=◌}
use Rattle.base65.specs.Values.{value2}
use Rattle.object65.specs.Form.{Form, lit, sec, imp, prefix, binary}
use Rattle.object65.specs.FormValue.{or_none}
use Rattle.link65.proofs.Attempts.{exports_grow, form_grows, Known, further, settles_once}
use Rattle.link65.specs.declared.parts.ModuleExport.{ModuleExport}
use Rattle.link65.specs.declared.parts.Provider.{Provider}
use Rattle.link65.specs.declared.parts.ValueFault.{ValueFault}
use Rattle.link65.specs.declared.parts.ValueFault.TheVariants.{NoValue}
use Rattle.link65.specs.Values.{AreExports, Exports, Linkage, base_of, exports_to_depth, provider_at, import_value, table_exports, value_of_form, cell_bytes, or_zero, checked_value_bytes, row_bytes, segment_bytes, linkage_of}
use Rattle.whole65.proofs.SameValues.{bind_ok, value_covered, same_values_law}
use Rattle.whole65.proofs.LinkedObjects.{linked_value, AreCells, cells_or, linked_objects}
use Rattle.std.specs.List.{flat_map, AllByRecursion}
use Rattle.object65.specs.Objects.{fits_width, value_bytes}
use Rattle.link65.specs.Links.{check_fixup, check_each, check_fits, module_location, located_value, fixups_in, fixups_by_row, fixups_of, check_export, AreFiles}
use Rattle.link65.specs.Programs.{Cell, known, filled, deferred, Module, Segment, segment_of}
use Rattle.link65.specs.declared.fault.LinkFault.{LinkFault}
use Rattle.link65.specs.declared.fault.LinkFault.TheVariants as fault
use Rattle.link65.specs.declared.fault.ModuleLocation.{ModuleLocation}
use Rattle.link65.specs.declared.parts.LinkedModule.{LinkedModule}
use Rattle.link65.specs.declared.parts.ValueFixup.{ValueFixup}
use Rattle.syntax65.specs.Trees as tree
use Rattle.script65.specs.declared.placement.Placement.{Placement}
use Rattle.script65.specs.declared.script.SegmentRow.{SegmentRow}
use Rattle.script65.specs.declared.script.Script.{Script}
use Rattle.semantics65.specs.Layout.{Layout}
use Rattle.link65.proofs.Checks.{passes_append}
use Rattle.link65.specs.Files.{RowBytes, AddsArea, AddsAreas, IsAreaFile, area_pieces, file_name, loaded_in}
use Rattle.link65.specs.Programs as linked
use Rattle.whole65.proofs.Providers.{IsExportOf, exports_known, export_normal, sources_law, exports_are, linked_exports}
use Rattle.whole65.proofs.SectionBases.{form_law}
use Rattle.whole65.proofs.Positions.{all_get, all_parts}
use Rattle.whole65.proofs.Rows.{linked_bytes_law}
use Rattle.whole65.specs.Laws.{LinkPreservesExportValues, LinkPreservesRows}
use Rattle.whole65.specs.Modules.{table_of, exports_of}
use Rattle.whole65.specs.Objects.{form_value}
use Rattle.whole65.specs.Programs as whole
use Rattle.whole65.specs.Sources.{AreObjectsOfLayouts}
use Rattle.whole65.specs.Values.{Program}
use Rattle.whole65.specs.Whole.{EncodesRow, HaveExportValues, HasExportValue, HasRowsAndFiles}
use Rattle.object65.specs.declared.object.Export.{Export}
use Rattle.script65.specs.declared.placement.RowPlacement.{RowPlacement}
use Rattle.script65.specs.declared.script.MemoryArea.{MemoryArea}
use Rattle.base65.specs.declared.output.OutputFile.{OutputFile}
use Rattle.sources65.proofs.SoundForms.{all_append}
use Rattle.whole65.proofs.Exports.{source_exports}
use Rattle.whole65.specs.Programs.{placed_program}

-- ---- The table of exports.

known_ok : (r s : Result ℤ ValueFault) (v : ℤ) → Known r s → r ≡ Ok v → s ≡ Ok v
known_ok x s v h e = grind (arith, common_steps)

import_covered : (few more : Exports) → ((x : ℕ) (u : ℤ) → few x ≡ Ok u → more x ≡ Ok u) → (g : Provider) (u : ℤ) → import_value few g ≡ Ok u → import_value more g ≡ Ok u
import_covered few more h x u e = grind (arith, common_steps)

-- an index at which a list has an element is less than the length
got_inside : {A : Type 0} (xs : List A) (x : ℕ) (a : A) → slice_get xs x ≡ Some a → x < length xs
got_inside [] x a e = cc
got_inside (y ∷ xs) zero a e = omega arith
got_inside (y ∷ xs) (suc x) a e = let deeper = got_inside xs x a e in omega (arith, deeper)

module _ (l : Linkage) (table : List (Result ℤ ValueFault)) (h : AreExports l table) where
  export_inside : (n x : ℕ) (u : ℤ) → exports_to_depth l n x ≡ Ok u → x < length l.exports
  export_inside x1 x u e = grind (arith, common_steps, got_inside)

  in_the_table : (n x : ℕ) (u : ℤ) → exports_to_depth l n x ≡ Ok u → table_exports table x ≡ Ok u
  in_the_table n x u e =
      settles_once (λ k. exports_to_depth l k x) (table_exports table x) (Ok u) (λ k. exports_grow l k x) (h.each x (export_inside n x u e)) (n, e)

  from_turns : (owner : ℕ) (f : Form) (v : ℤ) → linked_value l owner f v → value_of_form l (table_exports table) owner f ≡ Ok v
  from_turns owner f v (n, e) =
      value_covered NoValue (base_of (slice_get l.modules owner)) (λ j. import_value (exports_to_depth l n) (provider_at (slice_get l.modules owner) j)) (λ j. import_value (table_exports table) (provider_at (slice_get l.modules owner) j))
      (λ j u q. import_covered (exports_to_depth l n) (table_exports table) (in_the_table n) (provider_at (slice_get l.modules owner) j) u q) f v e

  import_turns : (g : Provider) (u : ℤ) → import_value (table_exports table) g ≡ Ok u → (n : ℕ) × (import_value (exports_to_depth l n) g ≡ Ok u)
  import_turns x u e = grind (arith, common_steps)

  later : (owner : ℕ) (f : Form) (v : ℤ) (more n : ℕ) → value_of_form l (exports_to_depth l n) owner f ≡ Ok v → value_of_form l (exports_to_depth l (more + n)) owner f ≡ Ok v
  later owner f v more n e = known_ok (value_of_form l (exports_to_depth l n) owner f) (value_of_form l (exports_to_depth l (more + n)) owner f) v (further (λ k. value_of_form l (exports_to_depth l k) owner f) (form_grows l owner f) more n) e

  to_turns : (owner : ℕ) (f : Form) (v : ℤ) → value_of_form l (table_exports table) owner f ≡ Ok v → linked_value l owner f v
  to_turns owner (lit n) v e = (0, e)
  to_turns owner (sec k a) v e = (0, e)
  to_turns owner (imp j) v e = import_turns (provider_at (slice_get l.modules owner) j) v e
  to_turns owner (prefix op f) v e = grind (arith, common_steps, (to_turns owner f))
  to_turns owner (binary op f g) v e =
      let (a, first, others) = bind_ok (value_of_form l (table_exports table) owner f) (λ a. value_of_form l (table_exports table) owner g >>= (λ b. or_none NoValue (value2 op a b))) v e in
      let (b, second, last) = bind_ok (value_of_form l (table_exports table) owner g) (λ b. or_none NoValue (value2 op a b)) v others in
      let (n, got_f) = to_turns owner f a first in
      let (m, got_g) = to_turns owner g b second in
      let turned : m + n ≡ n + m = omega arith in
      let u : value_of_form l (exports_to_depth l (n + m)) owner f ≡ Ok a = rw turned at (later owner f a m n got_f) in
      let w : value_of_form l (exports_to_depth l (n + m)) owner g ≡ Ok b = later owner g b n m got_g in
      let whole : (value_of_form l (exports_to_depth l (n + m)) owner f >>= (λ x. value_of_form l (exports_to_depth l (n + m)) owner g >>= (λ y. or_none NoValue (value2 op x y)))) ≡ Ok v =
      ap (λ r. r >>= (λ x. value_of_form l (exports_to_depth l (n + m)) owner g >>= (λ y. or_none NoValue (value2 op x y)))) u
      ∙ ap (λ r. r >>= (λ y. or_none NoValue (value2 op a y))) w ∙ last in
      (n + m, whole)

-- a form has a value by the table of exports if and only if it has it through chains of some number of exports
pub table_law : (l : Linkage) (table : List (Result ℤ ValueFault)) (owner : ℕ) (f : Form) (v : ℤ) → AreExports l table → (value_of_form l (table_exports table) owner f ≡ Ok v) ↔ linked_value l owner f v
table_law l table owner f v h = (λ e. to_turns l table h owner f v e, λ k. from_turns l table h owner f v k)

-- ---- Values of a segment that pass their checks.

-- the result is a value that fits its width
abbrev Fits : ValueFixup → Result ℤ ValueFault → Type 0
Fits w r = (v : ℤ) × (r ≡ Ok v) × (fits_width w.width v ≡ true)

passing : (s : ModuleLocation) (w : ValueFixup) (r : Result ℤ ValueFault) → (located_value s r >>= check_fits s w) ≡ Ok tt → Fits w r
passing s w x h = grind (arith, common_steps)

passes : (s : ModuleLocation) (w : ValueFixup) (r : Result ℤ ValueFault) → Fits w r → (located_value s r >>= check_fits s w) ≡ Ok tt
passes s w r (v, e, fits) = ap (λ z. located_value s z >>= check_fits s w) e ∙ ap (λ b. cond b (Ok tt) (Err (fault.OutOfRange s))) fits

written : (w : ValueFixup) (r : Result ℤ ValueFault) (v : ℤ) → r ≡ Ok v → fits_width w.width v ≡ true → checked_value_bytes w.width (or_zero r) ≡ value_bytes w.width v
written w r v e fits = ap (λ z. checked_value_bytes w.width (or_zero z)) e ∙ ap (λ b. cond b (value_bytes w.width v) []) fits

module _ (l : Linkage) (members : List LinkedModule) (table : List (Result ℤ ValueFault)) (fill : ℕ) (h : AreExports l table) where
  abbrev exports : Exports
  exports = table_exports table

  abbrev check : ValueFixup → Result (Unit {0}) LinkFault
  check w = check_fixup l members exports w

  abbrev Checked : List Cell → List ℕ → Type 0
  Checked cells bytes = (check_each check (flat_map fixups_in cells) ≡ Ok tt) × (bytes ≡ flat_map (cell_bytes l exports fill) cells)

  there : (cells : List Cell) (bytes : List ℕ) → AreCells l fill cells bytes → Checked cells bytes
  there [] bytes k = (refl, k)
  there (known b ∷ cells) bytes (own, rest, first, more, e) = grind (arith, common_steps, (there cells rest more))
  there (filled ∷ cells) bytes (own, rest, first, more, e) = grind (arith, common_steps, (there cells rest more))
  there (deferred w ∷ cells) bytes (own, rest, (v, value, (fits, first)), more, e) =
      let (passed, same) = there cells rest more in
      let found : value_of_form l exports w.owner w.form ≡ Ok v = (table_law l table w.owner w.form v h).1 value in
      grind (arith, common_steps)

  back : (cells : List Cell) (bytes : List ℕ) → Checked cells bytes → AreCells l fill cells bytes
  back [] bytes k = k.1
  back (known b ∷ cells) bytes (passed, e) = grind (arith, common_steps, (back cells))
  back (filled ∷ cells) bytes (passed, e) = grind (arith, common_steps, (back cells))
  back (deferred w ∷ cells) bytes (passed, e) =
      let rest : List ℕ = flat_map (cell_bytes l exports fill) cells in
      let own : List ℕ = checked_value_bytes w.width (or_zero (value_of_form l exports w.owner w.form)) in
      let (u, fine, others) = bind_ok (check w) (λ u. check_each check (flat_map fixups_in cells)) tt passed in
      let (v, found, fits) = passing (module_location members w.owner w.origin) w (value_of_form l exports w.owner w.form) fine in
      let value : linked_value l w.owner w.form v = (table_law l table w.owner w.form v h).0 found in
      (own, rest, (v, value, (fits, written w (value_of_form l exports w.owner w.form) v found fits)), back cells rest (others, refl), e)

-- The cells of a segment have these bytes if and only if each deferred value passes its check and these are the bytes that
-- the link writes.
pub checked_law : (l : Linkage) (members : List LinkedModule) (table : List (Result ℤ ValueFault)) (fill : ℕ) (cells : List Cell) (bytes : List ℕ) → AreExports l table → AreCells l fill cells bytes ↔ ((check_each (check_fixup l members (table_exports table)) (flat_map fixups_in cells) ≡ Ok tt) × (bytes ≡ flat_map (cell_bytes l (table_exports table) fill) cells))
checked_law l members table fill cells bytes h = (there l members table fill h cells bytes, back l members table fill h cells bytes)

-- ---- Rows.

fixup_cells : (g : Option Segment) → fixups_of g ≡ flat_map fixups_in (cells_or g)
fixup_cells x = grind (arith, common_steps)

bytes_cells : (l : Linkage) (table : List (Result ℤ ValueFault)) (fill : ℕ) (g : Option Segment) → segment_bytes l (table_exports table) fill g ≡ flat_map (cell_bytes l (table_exports table) fill) (cells_or g)
bytes_cells l table fill x = grind (arith, common_steps)

module _ (s : Script) (placement : Placement) (ys : List Layout) (ms : List Module) (table : List (Result ℤ ValueFault)) (bytes : RowBytes) (h : AreObjectsOfLayouts ys ms) (exports : AreExports (linkage_of s (linked.program_of ms) placement) table) where
  abbrev l : Linkage
  l = linkage_of s (linked.program_of ms) placement

  abbrev segments : List Segment
  segments = (linked.program_of ms).segments

  abbrev check_all : ValueFixup → Result (Unit {0}) LinkFault
  check_all = check_fixup l (linked.program_of ms).members (table_exports table)

  abbrev IsWritten : SegmentRow → Type 0
  IsWritten r = bytes r ≡ row_bytes l (table_exports table) segments r

  one_row : (r : SegmentRow) → EncodesRow (whole.placed_program s placement ys) ys bytes r ↔ ((check_each check_all (fixups_of (segment_of segments r.name)) ≡ Ok tt) × IsWritten r)
  one_row r =
      let g : Option Segment = segment_of segments r.name in
      let list = linked_bytes_law s placement ys ms r.fill_value r.name (bytes r) h (sources_law s placement ys ms h) in
      let cells = checked_law l (linked.program_of ms).members table r.fill_value (cells_or g) (bytes r) exports in (
        λ k. (let q = cells.0 (list.1 k) in (ap (check_each check_all) (fixup_cells g) ∙ q.0, q.1 ∙ sym (bytes_cells l table r.fill_value g))),
        λ k. list.0 (cells.1 (ap (check_each check_all) (sym (fixup_cells g)) ∙ k.0, k.1 ∙ bytes_cells l table r.fill_value g)),
      )

  all_rows : (rs : List SegmentRow) → AllByRecursion (EncodesRow (whole.placed_program s placement ys) ys bytes) rs ↔ ((check_each check_all (fixups_by_row rs segments) ≡ Ok tt) × AllByRecursion IsWritten rs)
  all_rows [] = (λ k. (refl, tt), λ k. tt)
  all_rows (r ∷ rs) = grind (arith, common_steps, one_row, passes_append, (all_rows rs))

pub rows_law : LinkPreservesRows
rows_law s placement ys ms table bytes h exports = all_rows s placement ys ms table bytes h exports s.rows

-- ---- The values of exports.

pub export_value_law : LinkPreservesExportValues
export_value_law s placement ys ms table i e v h exports at =
    let l : Linkage = linkage_of s (linked.program_of ms) placement in
    let p : Program = whole.placed_program s placement ys in
    let m : IsExportOf ys ms e = all_get (IsExportOf ys ms) (linked.program_of ms).exports i e (exports_known ys ms h) at in
    let found = table_law l table e.owner e.form v exports in
    let same : (export_depth : ℕ) → form_value (linked_objects s placement ys ms) export_depth e.owner m.form ≡ value_of_form l (exports_to_depth l export_depth) e.owner e.form =
    λ export_depth. form_law s placement ys ms e.owner export_depth m.layout m.object m.contents m.form h m.at_y m.at_m m.found m.keyed ∙ ap (value_of_form l (exports_to_depth l export_depth) e.owner) (sym m.written) in
    let value = same_values_law ValueFault p (linked_objects s placement ys ms) (sources_law s placement ys ms h) (suc (suc (length (table_of m.layout).definitions))) e.owner (p.global_index e.owner) (tree.name false (e.name ∷ [])) m.form v (export_normal s placement ys ms e m) in (
      λ k. (let q = found.0 k in value.1 (q.0, same q.0 ∙ q.1)),
      λ k. (let q = value.0 k in found.1 (q.0, sym (same q.0) ∙ q.1)),
    )

-- ---- The files depend only on the bytes of the script's rows.

same_pieces : (start k : ℕ) (bytes others : RowBytes) (rs : List SegmentRow) (ps : List RowPlacement) → AllByRecursion (λ r. bytes r ≡ others r) rs → area_pieces start bytes (loaded_in k rs ps) ≡ area_pieces start others (loaded_in k rs ps)
same_pieces start k bytes others [] ps h = refl
same_pieces start k bytes others (r ∷ rs) [] h = refl
same_pieces start k bytes others (r ∷ rs) (p ∷ ps) h = grind (arith, common_steps, (same_pieces start k bytes others rs ps h.1))

same_file : (rs : List SegmentRow) (p : Placement) (bytes others : RowBytes) → AllByRecursion (λ r. bytes r ≡ others r) rs → (k : ℕ) (a : MemoryArea) (image : List ℕ) → IsAreaFile rs p bytes k a image → IsAreaFile rs p others k a image
same_file rs p bytes others h k a image f = grind (arith, common_steps, same_pieces)

module _ (output_name : List ℕ) (F G : ℕ → MemoryArea → List ℕ → Type 0) (up : (k : ℕ) (a : MemoryArea) (image : List ℕ) → F k a image → G k a image) where
  adds_one : (k : ℕ) (a : MemoryArea) (b : Bool) (name : List ℕ) (before after : List OutputFile) → AddsArea b name (F k a) before after → AddsArea b name (G k a) before after
  adds_one k a x1 name before after h = grind (arith, common_steps)

  adds_all : (k : ℕ) (areas : List MemoryArea) (before after : List OutputFile) → AddsAreas output_name F k areas before after → AddsAreas output_name G k areas before after
  adds_all k [] before after h = h
  adds_all k (a ∷ rest) before after h = (h.0, adds_one k a (length (file_name output_name a.file) == 0) (file_name output_name a.file) before h.0 h.1, adds_all (k + 1) rest h.0 after h.2)

all_itself : (bytes : RowBytes) (rs : List SegmentRow) → AllByRecursion (λ r. bytes r ≡ bytes r) rs
all_itself bytes [] = tt
all_itself bytes (r ∷ rs) = (refl, all_itself bytes rs)

-- The rows of a placed program have bytes and its areas give these files if and only if each fixup of a row passes its check
-- in the link and the link writes these files.
pub files_law : (output_name : List ℕ) (s : Script) (placement : Placement) (ys : List Layout) (ms : List Module) (table : List (Result ℤ ValueFault)) (files : List OutputFile) → let l : Linkage = linkage_of s (linked.program_of ms) placement in AreObjectsOfLayouts ys ms → AreExports l table → HasRowsAndFiles output_name s ys placement (placed_program s placement ys) files ↔ ((check_each (check_fixup l (linked.program_of ms).members (table_exports table)) (fixups_by_row s.rows (linked.program_of ms).segments) ≡ Ok tt) × AreFiles output_name s (linked.program_of ms) placement l (table_exports table) files)
files_law output_name s placement ys ms table files h exports =
    let l : Linkage = linkage_of s (linked.program_of ms) placement in
    let written : RowBytes = row_bytes l (table_exports table) (linked.program_of ms).segments in (
      λ k. (let both = (rows_law s placement ys ms table k.bytes h exports).0 k.rows in (both.0, adds_all output_name (IsAreaFile s.rows placement k.bytes) (IsAreaFile s.rows placement written) (same_file s.rows placement k.bytes written both.1) 0 s.areas [] files k.image)),
      λ k. record { bytes = written; rows = (rows_law s placement ys ms table written h exports).1 (k.0, all_itself written s.rows); image = k.1 },
    )

-- ---- Checks of exports.

passes_each : {A : Type 0} (check : A → Result (Unit {0}) LinkFault) (xs : List A) → (check_each check xs ≡ Ok tt) ↔ AllByRecursion (λ x. check x ≡ Ok tt) xs
passes_each check [] = (λ k. tt, λ k. refl)
passes_each check (x ∷ xs) = grind (arith, common_steps, (passes_each check xs))

all_either : {A : Type 0} (P Q : A → Type 0) (xs : List A) → ((i : ℕ) (x : A) → slice_get xs i ≡ Some x → P x ↔ Q x) → AllByRecursion P xs ↔ AllByRecursion Q xs
all_either P Q [] f = (λ k. tt, λ k. tt)
all_either P Q (x ∷ xs) f =
    let one = f 0 x refl in
    let more = all_either P Q xs (λ i z e. f (suc i) z e) in
    (λ k. (one.0 k.0, more.0 k.1), λ k. (one.1 k.0, more.1 k.1))

-- the check passes if and only if the result is a value
abbrev found_at : ModuleLocation → Result ℤ ValueFault → Result (Unit {0}) LinkFault
found_at s r = located_value s r >>= (λ v. Ok tt)

value_there : (s : ModuleLocation) (r : Result ℤ ValueFault) → (found_at s r ≡ Ok tt) ↔ ((v : ℤ) × (r ≡ Ok v))
value_there s x = grind (arith, common_steps)

module _ (p : Program) where
  abbrev pub OfExport : ModuleExport → Type 0
  OfExport e = HasExportValue p e.owner e.name

  one_module : (owner : ℕ) (es : List Export) → AllByRecursion OfExport (map (linked.linked_export owner) es) ↔ AllByRecursion (HasExportValue p owner) (map (λ (e : Export). e.name) es)
  one_module owner [] = (λ k. tt, λ k. tt)
  one_module owner (e ∷ es) = let more = one_module owner es in (λ k. (k.0, more.0 k.1), λ k. (k.0, more.1 k.1))

  pub all_modules : (owner : ℕ) (ys : List Layout) (ms : List Module) → AreObjectsOfLayouts ys ms → AllByRecursion OfExport (linked_exports owner ms) ↔ HaveExportValues p owner ys
  all_modules owner [] [] h = (λ k. tt, λ k. tt)
  all_modules owner [] (m ∷ ms) h = absurd h
  all_modules owner (y ∷ ys) [] h = absurd h
  all_modules owner (y ∷ ys) (m ∷ ms) h =
      let names : map (λ (e : Export). e.name) m.object.exports ≡ exports_of y = source_exports y m h.0 in
      let one = one_module owner m.object.exports in
      let more = all_modules (suc owner) ys ms h.1 in
      let first : List ModuleExport = map (linked.linked_export owner) m.object.exports in
      let rest : List ModuleExport = linked_exports (suc owner) ms in (
        λ k. (let q = all_parts OfExport first rest k in (subst (AllByRecursion (HasExportValue p owner)) names (one.0 q.0), more.0 q.1)),
        λ k. all_append OfExport first rest (one.1 (subst (AllByRecursion (HasExportValue p owner)) (sym names) k.0)) (more.1 k.1),
      )

-- all exports pass their checks in a link if and only if all exported names of the modules have values in the whole program
pub exports_law : (s : Script) (placement : Placement) (ys : List Layout) (ms : List Module) (table : List (Result ℤ ValueFault)) → let l : Linkage = linkage_of s (linked.program_of ms) placement in AreObjectsOfLayouts ys ms → AreExports l table → (check_each (check_export l (linked.program_of ms).members (table_exports table)) (linked.program_of ms).exports ≡ Ok tt) ↔ HaveExportValues (placed_program s placement ys) 0 ys
exports_law s placement ys ms table h exports = grind (arith, common_steps, passes, passes_each, all_either, there, value_there, export_value_law, all_modules, exports_are)
