-- Linking the objects of sources gives files if and only if their whole program has an image, and these files are the image.
use Rattle.std.proofs.lemmas.Grind.{common_steps}
use Rattle.std.proofs.Common.{◌≡◌, ℕ, zero, suc, ◌<◌, false, List, [], ◌∷◌, length, get_or, slice_get, Some, Result, Ok, Err, refl, sym, ◌∙◌, ap, subst, arith}
use Rattle.std.specs.Prelude.{ℤ, ◌↔◌}
use Rattle.std.specs.List.{AllByRecursion}
use Rattle.syntax65.specs.Trees as tree
use Rattle.script65.specs.declared.placement.Placement.{Placement}
use Rattle.script65.specs.declared.script.Script.{Script}
use Rattle.semantics65.specs.Layout.{Layout}
use Rattle.link65.specs.Programs.{Module}
use Rattle.link65.specs.Values.{linkage_of, ExportEvaluatesTo, Linkage, export_value, exports_to_depth, value_of_form, AreExports}
use Rattle.link65.specs.Programs as linked
use Rattle.link65.specs.declared.parts.ModuleExport.{ModuleExport}
use Rattle.link65.specs.declared.parts.ValueFault.{ValueFault}
use Rattle.link65.specs.declared.parts.ValueFault.TheVariants.{Unresolved}
use Rattle.whole65.proofs.Files.{all_modules, exports_law, files_law}
use Rattle.whole65.proofs.Providers.{IsExportOf, export_normal, exports_are, exports_known, sources_law}
use Rattle.whole65.proofs.SectionBases.{form_law}
use Rattle.whole65.proofs.Positions.{all_get}
use Rattle.whole65.proofs.SameValues.{same_values_law}
use Rattle.whole65.proofs.LinkedObjects.{linked_objects}
use Rattle.whole65.specs.Modules.{table_of}
use Rattle.whole65.specs.Programs as whole
use Rattle.whole65.specs.Sources.{AreObjectsOfLayouts}
use Rattle.whole65.specs.Values.{Program}
use Rattle.whole65.specs.Whole.{HasExportValue, PassAssertions, HaveExportValues, HaveForcedImports, SatisfiesAllDeclarations, HasRowsAndFiles, IsWholeProgramImage}
use Rattle.base65.specs.declared.output.OutputFile.{OutputFile}
use Rattle.whole65.proofs.Assertions.{assertions_law}
use Rattle.whole65.proofs.Links.{names_law, HasLink, link_by, link_has, linked_by}
use Rattle.whole65.proofs.Rows.{placement_law}
use Rattle.whole65.proofs.Unresolved.{given_law, resolved_law}
use Rattle.whole65.specs.Equality.{LinkEqualsWholeProgram, IsLinkedTo}
use Rattle.whole65.specs.Programs.{placed_program}

-- ---- The table of exports, if each export has a value.

-- a table with a result for each export, related by `R` to the export's index
record HasTable (R : ℕ → Result ℤ ValueFault → Type 0) (es : List ModuleExport) : Type 0 where
  table : List (Result ℤ ValueFault)
  long : length table ≡ length es
  each : (x : ℕ) → x < length es → R x (get_or table x (Err Unresolved))

build : (R : ℕ → Result ℤ ValueFault → Type 0) (es : List ModuleExport) → ((i : ℕ) (e : ModuleExport) → slice_get es i ≡ Some e → (v : ℤ) × R i (Ok v)) → HasTable R es
build R [] f = record { table = []; long = refl; each = λ x lt. absurd (omega (arith, lt)) }
build R (e ∷ es) f = go (f 0 e refl) (build (λ x. R (suc x)) es (λ i z at. f (suc i) z at))
  where
    go : (v : ℤ) × R 0 (Ok v) → HasTable (λ x. R (suc x)) es → HasTable R (e ∷ es)
    go first rest = record { table = Ok first.0 ∷ rest.table; long = ap suc rest.long; each = λ x lt. at x lt }
      where
        at : (x : ℕ) → x < length (e ∷ es) → R x (get_or (Ok first.0 ∷ rest.table) x (Err Unresolved))
        at zero lt = first.1
        at (suc x) lt = rest.each x (omega (arith, lt))

module _ (s : Script) (placement : Placement) (ys : List Layout) (ms : List Module) (h : AreObjectsOfLayouts ys ms) where
  abbrev p : Program
  p = whole.placed_program s placement ys

  abbrev l : Linkage
  l = linkage_of s (linked.program_of ms) placement

  comes : (i : ℕ) (e : ModuleExport) → slice_get (linked.program_of ms).exports i ≡ Some e → HasExportValue p e.owner e.name → (v : ℤ) × ExportEvaluatesTo l i (Ok v)
  comes i e at has =
      let m : IsExportOf ys ms e = all_get (IsExportOf ys ms) (linked.program_of ms).exports i e (exports_known ys ms h) at in
      let value = same_values_law ValueFault p (linked_objects s placement ys ms) (sources_law s placement ys ms h) (suc (suc (length (table_of m.layout).definitions))) e.owner (p.global_index e.owner) (tree.name false (e.name ∷ [])) m.form has.0 (export_normal s placement ys ms e m) in
      let q = value.0 has.1 in
      let export_depth : ℕ = q.0 in (
        has.0,
        (
          suc export_depth,
          ap (export_value l (exports_to_depth l export_depth)) at
              ∙ ap (value_of_form l (exports_to_depth l export_depth) e.owner) m.written
              ∙ sym (form_law s placement ys ms e.owner export_depth m.layout m.object m.contents m.form h m.at_y m.at_m m.found m.keyed)
              ∙ q.1,
        ),
      )

-- if all exported names of the modules have values in the whole program, the linkage has a table of exports
pub export_table_law : (s : Script) (placement : Placement) (ys : List Layout) (ms : List Module) → AreObjectsOfLayouts ys ms → HaveExportValues (placed_program s placement ys) 0 ys → (table : List (Result ℤ ValueFault)) × AreExports (linkage_of s (linked.program_of ms) placement) table
export_table_law s placement ys ms h exported =
    let p : Program = whole.placed_program s placement ys in
    let es : List ModuleExport = (linked.program_of ms).exports in
    let l : Linkage = linkage_of s (linked.program_of ms) placement in
    let have : AllByRecursion (λ (e : ModuleExport). HasExportValue p e.owner e.name) es = subst (AllByRecursion (λ (e : ModuleExport). HasExportValue p e.owner e.name)) (sym (exports_are ms)) ((all_modules p 0 ys ms h).1 exported) in
    let t = build (ExportEvaluatesTo l) es (λ i e at. comes s placement ys ms h i e at (all_get (λ (e : ModuleExport). HasExportValue p e.owner e.name) es i e have at)) in
    (t.table, record { long = t.long; each = t.each })

-- ---- The two directions.

-- the declarations of all modules, split into forced imports, exports and assertions
said_parts : (p : Program) (owner : ℕ) (ys : List Layout) → SatisfiesAllDeclarations p owner ys ↔ (HaveForcedImports p ys × HaveExportValues p owner ys × PassAssertions p owner ys)
said_parts p owner [] = (λ k. (tt, tt, tt), λ k. tt)
said_parts p owner (y ∷ ys) = grind (arith, common_steps, (said_parts p (suc owner) ys))

module _ (output_name : List ℕ) (s : Script) (ys : List Layout) (ms : List Module) (files : List OutputFile) (h : AreObjectsOfLayouts ys ms) where
  has_link : IsWholeProgramImage output_name s ys files → HasLink output_name s (linked.program_of ms) files
  has_link w =
      let p : Program = placed_program s w.placement ys in
      let said = (said_parts p 0 ys).0 w.image.declarations in
      let found = export_table_law s w.placement ys ms h said.1 in
      let made = (files_law output_name s w.placement ys ms found.0 files h found.1).0 (record { bytes = w.image.bytes; rows = w.image.rows; image = w.image.image }) in
      let warned = (assertions_law s w.placement ys ms found.0 h found.1).1 said.2 in
      record {
        no_repetition = (names_law s ys ms h).1 w.no_repetition;
        none = resolved_law s w.placement ys ms w.image.bytes h w.placed w.image.imports said.0 said.1 said.2 w.image.rows;
        placement = w.placement;
        placed = placement_law s ys ms h ∙ w.placed;
        table = found.0;
        exports = found.1;
        values = made.0;
        exported = (exports_law s w.placement ys ms found.0 h found.1).1 said.1;
        warnings = warned.0;
        asserted = warned.1;
        made = made.1;
      }

  is_whole : HasLink output_name s (linked.program_of ms) files → IsWholeProgramImage output_name s ys files
  is_whole k =
      let p : Program = placed_program s k.placement ys in
      let placed = sym (placement_law s ys ms h) ∙ k.placed in
      let names = given_law s k.placement ys ms h placed k.none in
      let exported = (exports_law s k.placement ys ms k.table h k.exports).0 k.exported in
      let asserted = (assertions_law s k.placement ys ms k.table h k.exports).0 (k.warnings, k.asserted) in
      let image : HasRowsAndFiles output_name s ys k.placement p files = (files_law output_name s k.placement ys ms k.table files h k.exports).1 (k.values, k.made) in
      grind (arith, common_steps, names_law, said_parts)

  either : IsWholeProgramImage output_name s ys files ↔ IsLinkedTo output_name s ms files
  either = (
    λ w. (let k = has_link w in record { linked = linked_by output_name s (linked.program_of ms) files k; link = link_by output_name s (linked.program_of ms) files k; same = refl }),
    λ k. is_whole (link_has output_name s (linked.program_of ms) files k.linked k.link k.same),
  )

pub equality_law : LinkEqualsWholeProgram
equality_law output_name s ys ms files h = either output_name s ys ms files h
