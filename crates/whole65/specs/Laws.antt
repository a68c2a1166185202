-- Laws of whole programs, from a single value to the equality.
use Rattle.std.specs.Prelude.{◌≡◌, ℕ, ℤ, ◌↔◌, List, [], ◌∷◌, map, slice_get, take, false, Some, IfSome, Result, Ok}
use Rattle.syntax65.specs.Trees.{Tree, name}
use Rattle.object65.specs.Form.{Form}
use Rattle.object65.specs.Versions.{version_one_object}
use Rattle.object65.specs.declared.object.Object.{Object}
use Rattle.semantics65.specs.Module.{object_of}
use Rattle.semantics65.specs.Numbering.{IsWellFormedLayout}
use Rattle.semantics65.specs.Symbols.{LaidOutStatement}
use Rattle.semantics65.specs.Layout.{Layout, segment_at}
use Rattle.semantics65.specs.Norms.{norm}
use Rattle.whole65.specs.Offsets.{ArePowers, HasNoLineErrors, statements_with_segment}
use Rattle.whole65.specs.Sources.{AreObjectsOfLayouts, IsObjectOfLayout}
use Rattle.whole65.specs.Segments.{end_of, largest_multiple, statement_item, module_statements_after, need_of, needs_of}
use Rattle.link65.specs.Programs.{Module, Cell, fragment_cells, segment_of}
use Rattle.link65.specs.Programs as linked
use Rattle.link65.specs.Values as places
use Rattle.link65.specs.Values.{address_of, linkage_of, run_of, row_bytes, AreExports, Linkage, table_exports, value_of_form}
use Rattle.link65.specs.Links.{check_fixup, check_each, fixups_by_row}
use Rattle.link65.specs.Files.{RowBytes}
use Rattle.link65.specs.declared.parts.ModuleExport.{ModuleExport}
use Rattle.link65.specs.declared.parts.ValueFault.{ValueFault}
use Rattle.whole65.specs.Objects.{IsLinkerView, HasValue, LinkerView}
use Rattle.whole65.specs.Programs.{placed_program}
use Rattle.script65.specs.declared.placement.Placement.{Placement}
use Rattle.script65.specs.declared.script.Script.{Script}
use Rattle.std.specs.List.{AllByRecursion}
use Rattle.script65.specs.Placing.{place_of}
use Rattle.whole65.specs.Values.{NeedsValueOf, Program, LocatedExpr, Value}
use Rattle.whole65.specs.Whole.{EncodesRow}

-- an expression has one value at most
abbrev pub ValueIsUnique : Type 0
ValueIsUnique =
    (p : Program) (owner index : ℕ) (e : Tree) (v w : ℤ) →
    Value p owner index e v → Value p owner index e w → v ≡ w

-- an expression that is needed for its own value has none
abbrev pub CircularHasNoValue : Type 0
CircularHasNoValue = (p : Program) (x : LocatedExpr) (v : ℤ) → NeedsValueOf p x x → Value p x.owner x.index x.tree v → ⊥

-- Wherever sections lie, an expression that has a normal form has the value of that form, and none where the form has none:
-- names are replaced by their definitions, operations are folded, and imports have the values of exports.
abbrev pub NormalFormPreservesValue : Type 0 → Type 0
NormalFormPreservesValue E =
    (p : Program) (o : LinkerView E) → IsLinkerView p o → (depth owner index : ℕ) (e : Tree) (f : Form) (v : ℤ) →
    norm depth (o.symbols owner) (o.contexts owner index) e ≡ Ok f → Value p owner index e v ↔ HasValue o owner f v

-- The offset of a statement in its section is its position after the statements before it in its segment; the
-- section's size is the position after all of them, and its alignment the largest of their multiples.
pub record AgreesWithPositions (y : Layout) (owner : ℕ) : Type 0 where
  pub offset :
      (index : ℕ) (l : LaidOutStatement) → slice_get y.laid index ≡ Some l →
      l.context.offset ≡ end_of 0 (map statement_item (statements_with_segment l.context.segment (module_statements_after owner [] (take index y.laid))))
  pub size :
      (g : ℕ) →
      (segment_at y.cursor.segments g).end ≡ end_of 0 (map statement_item (statements_with_segment g (module_statements_after owner [] y.laid)))
  pub same_alignment :
      (g : ℕ) →
      (segment_at y.cursor.segments g).align ≡ largest_multiple (statements_with_segment g (module_statements_after owner [] y.laid))
  pub powers : ArePowers (module_statements_after owner [] y.laid)

abbrev pub OffsetIsPosition : Type 0
OffsetIsPosition = (y : Layout) (owner : ℕ) → HasNoLineErrors y → AgreesWithPositions y owner

-- A segment of the link needs what the list of all its statements needs: as many bytes, and its largest alignment.
abbrev pub LinkPreservesNeeds : Type 0
LinkPreservesNeeds =
    (ys : List Layout) (ms : List Module) (name : List ℕ) → AreObjectsOfLayouts ys ms →
    IfSome (segment_of (linked.program_of ms).segments name) (λ g. places.need_of g ≡ need_of ys name)

-- a layout without errors that fits an object is the source of its object, and of that object's version 1
abbrev pub LayoutIsSourceOfObject : Type 0
LayoutIsSourceOfObject =
    (y : Layout) (name : List ℕ) (o : Object) → HasNoLineErrors y → IsWellFormedLayout y → object_of y ≡ Ok o →
    IsObjectOfLayout y (record { name = name; object = o }) × IsObjectOfLayout y (record { name = name; object = version_one_object o })

-- A script places linked modules where it places their whole program.
abbrev pub LinkPreservesPlacement : Type 0
LinkPreservesPlacement =
    (s : Script) (ys : List Layout) (ms : List Module) → AreObjectsOfLayouts ys ms →
    place_of s (places.needs_of (linked.program_of ms)) ≡ place_of s (needs_of ys)

-- The rows have bytes in the whole program exactly if each value that needs addresses passes its check in the
-- link; and these are the bytes that the link writes.
abbrev pub LinkPreservesRows : Type 0
LinkPreservesRows =
    (s : Script) (placement : Placement) (ys : List Layout) (ms : List Module) (table : List (Result ℤ ValueFault)) (bytes : RowBytes) →
    let l : Linkage = linkage_of s (linked.program_of ms) placement in
    let segments : List linked.Segment = (linked.program_of ms).segments in
    AreObjectsOfLayouts ys ms → AreExports l table →
    AllByRecursion (EncodesRow (placed_program s placement ys) ys bytes) s.rows
    ↔ ((check_each (check_fixup l (linked.program_of ms).members (table_exports table)) (fixups_by_row s.rows segments) ≡ Ok tt)
    × AllByRecursion (λ r. bytes r ≡ row_bytes l (table_exports table) segments r) s.rows)

-- The value of an object's export in a link is the value of its name in the whole program.
abbrev pub LinkPreservesExportValues : Type 0
LinkPreservesExportValues =
    (s : Script) (placement : Placement) (ys : List Layout) (ms : List Module) (table : List (Result ℤ ValueFault)) (i : ℕ)
    (e : ModuleExport) (v : ℤ) →
    let l : Linkage = linkage_of s (linked.program_of ms) placement in
    let p : Program = placed_program s placement ys in
    AreObjectsOfLayouts ys ms → AreExports l table → slice_get (linked.program_of ms).exports i ≡ Some e →
    (value_of_form l (table_exports table) e.owner e.form ≡ Ok v) ↔ Value p e.owner (p.global_index e.owner) (name false (e.name ∷ [])) v
