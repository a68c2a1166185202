-- A name has the same provider in a link and in the whole program.
use Rattle.std.proofs.lemmas.Grind.{common_steps}
use Rattle.std.proofs.Common.{◌≡◌, ℕ, zero, suc, ◌+◌, Bool, true, false, cond, List, [], ◌∷◌, ◌++◌, length, map, slice_get, Option, Some, None, Result, Ok, Err, refl, sym, ◌∙◌, ap, subst, arith}
use Rattle.std.specs.Prelude.{ℤ, filter_map, find}
use Rattle.std.specs.List.{AllByRecursion, position_from}
use Rattle.std.specs.Str.{bytes_eq}
use Rattle.std.proofs.lemmas.List.{append-nil, append_assoc, length-append}
use Rattle.syntax65.specs.Trees as tree
use Rattle.object65.specs.Form.{Form}
use Rattle.object65.specs.declared.object.Export.{Export}
use Rattle.object65.specs.declared.object.Object.{Object}
use Rattle.object65.specs.declared.object.Origin.{Origin}
use Rattle.script65.specs.declared.placement.Placement.{Placement}
use Rattle.script65.specs.declared.script.Script.{Script}
use Rattle.ast65.proofs.Lists.{same_bytes}
use Rattle.syntax65.specs.declared.source_location.SourceLocation.{SourceLocation}
use Rattle.semantics65.specs.Contents.{Content, Declaration, ExportedSymbol, ForcedImport, LinkAssertion}
use Rattle.semantics65.specs.Symbols.{LaidOutStatement, Symbols, definition_index, named}
use Rattle.semantics65.specs.Layout.{Layout}
use Rattle.semantics65.specs.Norms.{defined_form, norm}
use Rattle.semantics65.specs.Numbering.{all_declarations, export_of, import_keys, renumbered_form, section_keys}
use Rattle.link65.specs.Names.{script_provider_or, module_provider_or, index_of_definition, index_of_export, is_among, script_definitions, weak_symbols}
use Rattle.link65.specs.Names as linked
use Rattle.link65.specs.Programs.{position_in, Module, Program, linked_export, no_program, program_of, with_module, with_modules}
use Rattle.link65.specs.Values.{linkage_of, Linkage, export_value, exports_to_depth, import_value, value_of_form}
use Rattle.link65.specs.declared.parts.ScriptSymbol.{ScriptSymbol}
use Rattle.link65.specs.declared.parts.ModuleExport as parts
use Rattle.link65.specs.declared.parts.Provider.{Provider}
use Rattle.link65.specs.declared.parts.Provider.TheVariants.{ByModule, ByScript, Nobody}
use Rattle.link65.specs.declared.parts.ValueFault.{ValueFault}
use Rattle.link65.specs.declared.parts.ValueFault.TheVariants.{Circular, Unresolved}
use Rattle.sources65.proofs.SoundForms.{all_append}
use Rattle.semantics65.specs.Module.{module_resolution}
use Rattle.whole65.proofs.Exports.{IsDefined, said_all, source_exports}
use Rattle.whole65.proofs.SectionBases.{form_law, keyed_law}
use Rattle.whole65.proofs.LinkedProgram.{linked_law}
use Rattle.whole65.proofs.Positions.{all_get}
use Rattle.whole65.proofs.Sources.{contents_of}
use Rattle.whole65.proofs.LinkedObjects.{IsKeyed, IsKeyedContent, IsKeyedSaid, provider_named, imports_linked, linked_objects, context_in, symbols_at}
use Rattle.whole65.specs.Modules.{global_context, table_of}
use Rattle.whole65.specs.Objects.{ImportHasExportValue, ImportHasValue, HasProviderValue, LinkerView, IsLinkerView}
use Rattle.whole65.specs.Offsets.{HasNoLineErrors}
use Rattle.whole65.specs.Programs as whole
use Rattle.whole65.specs.Programs.{definition_of, exporter_from, provider_or, statement_count}
use Rattle.whole65.specs.Sources.{AreObjectsOfLayouts}
use Rattle.whole65.specs.Values as values
use Rattle.whole65.specs.Values.{by_module, by_nobody, by_script}

-- ---- Exports in objects.

-- an export has the form of its name's definition, with the numbers of the object
abbrev IsWritten : Symbols → (sections numbers : List ℕ) → ℕ → Export → Type 0
IsWritten z sections numbers count e =
    (f : Form) × (j : ℕ) × IsKeyed sections numbers count f × (e.form ≡ renumbered_form sections numbers f) × (definition_index z (named 0 e.name) ≡ Some j) × (defined_form z j ≡ Ok f)

written_said : (z : Symbols) (origins : SourceLocation → Origin) (sections numbers : List ℕ) (count : ℕ) (ss : List Declaration) → AllByRecursion (IsDefined z) ss → AllByRecursion (IsKeyedSaid sections numbers count) ss → AllByRecursion (IsWritten z sections numbers count) (filter_map (export_of origins sections numbers) ss)
written_said z origins sections numbers count [] d k = tt
written_said z origins sections numbers count (ExportedSymbol n place f ∷ ss) d k = ((f, d.0.0, k.0, refl, d.0.1, d.0.2), written_said z origins sections numbers count ss d.1 k.1)
written_said z origins sections numbers count (ForcedImport n ∷ ss) d k = written_said z origins sections numbers count ss d.1 k.1
written_said z origins sections numbers count (LinkAssertion act place words f ∷ ss) d k = written_said z origins sections numbers count ss d.1 k.1

pub keyed_said : (sections numbers : List ℕ) (count : ℕ) (cs : List Content) → AllByRecursion (IsKeyedContent sections numbers count) cs → AllByRecursion (IsKeyedSaid sections numbers count) (all_declarations cs)
keyed_said sections numbers count [] h = tt
keyed_said sections numbers count (c ∷ cs) h = all_append (IsKeyedSaid sections numbers count) c.said (all_declarations cs) h.0.said (keyed_said sections numbers count cs h.1)

-- ---- Exports of all modules.

abbrev pub linked_exports : ℕ → List Module → List parts.ModuleExport
linked_exports owner [] = []
linked_exports owner (m ∷ ms) = map (linked_export owner) m.object.exports ++ linked_exports (suc owner) ms

exports_after : (p : Program) (ms : List Module) → (with_modules p ms).exports ≡ p.exports ++ linked_exports (length p.members) ms
exports_after p [] = sym (append-nil p.exports)
exports_after p (m ∷ ms) = grind (arith, common_steps, (exports_after (with_module p m) ms))

pub exports_are : (ms : List Module) → (program_of ms).exports ≡ linked_exports 0 ms
exports_are ms = exports_after no_program ms

-- an export of a module and its form in the source
pub record IsExportOf (ys : List Layout) (ms : List Module) (e : parts.ModuleExport) : Type 0 where
  pub layout : Layout
  pub object : Module
  pub contents : List Content
  pub at_y : slice_get ys e.owner ≡ Some layout
  pub at_m : slice_get ms e.owner ≡ Some object
  pub found : (module_resolution layout.laid).found ≡ Ok contents
  pub form : Form
  pub keyed : IsKeyed (section_keys contents) (import_keys (table_of layout).imports contents) (length (table_of layout).imports) form
  pub written : e.form ≡ renumbered_form (section_keys contents) (import_keys (table_of layout).imports contents) form
  pub definition : ℕ
  pub defining : definition_index (table_of layout) (named 0 e.name) ≡ Some definition
  pub its_form : defined_form (table_of layout) definition ≡ Ok form

module _ (ys : List Layout) (ms : List Module) where
  of_source : (owner : ℕ) (y : Layout) (m : Module) (cs : List Content) → slice_get ys owner ≡ Some y → slice_get ms owner ≡ Some m → (module_resolution y.laid).found ≡ Ok cs → (es : List Export) → AllByRecursion (IsWritten (table_of y) (section_keys cs) (import_keys (table_of y).imports cs) (length (table_of y).imports)) es → AllByRecursion (IsExportOf ys ms) (map (linked_export owner) es)
  of_source owner y m cs at_y at_m e [] h = tt
  of_source owner y m cs at_y at_m e (x ∷ es) h = grind (arith, common_steps, (of_source owner y m cs at_y at_m e es h.1))

  of_sources : (rest : List Layout) (ns : List Module) (owner : ℕ) → AreObjectsOfLayouts rest ns → ((i : ℕ) → slice_get rest i ≡ slice_get ys (owner + i)) → ((i : ℕ) → slice_get ns i ≡ slice_get ms (owner + i)) → AllByRecursion (IsExportOf ys ms) (linked_exports owner ns)
  of_sources [] [] owner h up_y up_m = tt
  of_sources [] (m ∷ ns) owner h up_y up_m = absurd h
  of_sources (y ∷ rest) [] owner h up_y up_m = absurd h
  of_sources (y ∷ rest) (m ∷ ns) owner h up_y up_m =
      let here : owner + 0 ≡ owner = omega arith in
      let at_y : slice_get ys owner ≡ Some y = ap (slice_get ys) (sym here) ∙ sym (up_y 0) in
      let at_m : slice_get ms owner ≡ Some m = ap (slice_get ms) (sym here) ∙ sym (up_m 0) in
      let next : (i : ℕ) → owner + suc i ≡ suc owner + i = λ i. omega arith in
      let c = contents_of y m h.0 in
      let cs : List Content = c.contents in
      let z : Symbols = table_of y in
      let sections : List ℕ = section_keys cs in
      let numbers : List ℕ = import_keys z.imports cs in
      let written = written_said z c.origins sections numbers (length z.imports) (all_declarations cs) (said_all y cs c.found).are_defined (keyed_said sections numbers (length z.imports) cs (keyed_law y cs h.0.well_formed_layout c.found)) in
      all_append (IsExportOf ys ms) (map (linked_export owner) m.object.exports) (linked_exports (suc owner) ns)
      (of_source owner y m cs at_y at_m c.found m.object.exports (subst (λ (o : Object). AllByRecursion (IsWritten z sections numbers (length z.imports)) o.exports) (sym c.object) written))
      (of_sources rest ns (suc owner) h.1 (λ i. up_y (suc i) ∙ ap (slice_get ys) (next i)) (λ i. up_m (suc i) ∙ ap (slice_get ms) (next i)))

-- ---- The first element with a name.

pub data Located {A : Type 0} (name_of : A → List ℕ) (name : List ℕ) (xs : List A) : Type 0 where
  absent : find (λ x. bytes_eq (name_of x) name) xs ≡ None → position_in (map name_of xs) name ≡ None → Located name_of name xs
  there :
      (i : ℕ) (x : A) → find (λ x. bytes_eq (name_of x) name) xs ≡ Some x → position_in (map name_of xs) name ≡ Some i →
      slice_get xs i ≡ Some x → name_of x ≡ name → Located name_of name xs

data LocatedFrom {A : Type 0} (name_of : A → List ℕ) (name : List ℕ) (from : ℕ) (xs : List A) : Type 0 where
  absent_from : find (λ x. bytes_eq (name_of x) name) xs ≡ None → position_from (λ n. bytes_eq n name) from (map name_of xs) ≡ None → LocatedFrom name_of name from xs
  there_from :
      (i : ℕ) (x : A) → find (λ x. bytes_eq (name_of x) name) xs ≡ Some x → position_from (λ n. bytes_eq n name) from (map name_of xs) ≡ Some (from + i) →
      slice_get xs i ≡ Some x → name_of x ≡ name → LocatedFrom name_of name from xs

locate_from : {A : Type 0} (name_of : A → List ℕ) (name : List ℕ) (from : ℕ) (xs : List A) → LocatedFrom name_of name from xs
locate_from name_of name from [] = absent_from refl refl
locate_from name_of name from (x ∷ xs) = go (bytes_eq (name_of x) name) refl (locate_from name_of name (from + 1) xs)
  where
    go : (b : Bool) → bytes_eq (name_of x) name ≡ b → LocatedFrom name_of name (from + 1) xs → LocatedFrom name_of name from (x ∷ xs)
    go true e more = there_from 0 x (grind (arith, common_steps)) (grind (arith, common_steps)) refl (same_bytes (name_of x) name e)
    go false e (absent_from f q) = absent_from (grind (arith, common_steps)) (grind (arith, common_steps))
    go false e (there_from i z f q at called) = there_from (suc i) z (grind (arith, common_steps)) (grind (arith, common_steps)) at called

pub locate : {A : Type 0} (name_of : A → List ℕ) (name : List ℕ) (xs : List A) → Located name_of name xs
locate name_of name xs = go (locate_from name_of name 0 xs)
  where
    go : LocatedFrom name_of name 0 xs → Located name_of name xs
    go (absent_from f q) = absent f q
    go (there_from i x f q at called) = there i x f (grind (arith, common_steps)) at called

-- ---- The two providers.

-- the provider of a name in the whole program and in a link with these exports
pub data Agree (exports : List parts.ModuleExport) (name : List ℕ) : values.Provider → Provider → Type 0 where
  of_script : (v : ℤ) → Agree exports name (by_script v) (ByScript v)
  of_nobody : Agree exports name by_nobody Nobody
  of_module : (i : ℕ) (e : parts.ModuleExport) → slice_get exports i ≡ Some e → e.name ≡ name → Agree exports name (by_module e.owner) (ByModule i)

abbrev by_found : Option parts.ModuleExport → values.Provider → values.Provider
by_found None other = other
by_found (Some e) other = by_module e.owner

by_definitions : (exports : List parts.ModuleExport) (name : List ℕ) (ds : List ScriptSymbol) (w : values.Provider) (g : Provider) → Agree exports name w g → Agree exports name (provider_or w (definition_of ds name)) (script_provider_or ds (index_of_definition ds name) g)
by_definitions exports name ds w g h = go (locate (λ (d : ScriptSymbol). d.name) name ds)
  where
    go : Located (λ (d : ScriptSymbol). d.name) name ds → Agree exports name (provider_or w (definition_of ds name)) (script_provider_or ds (index_of_definition ds name) g)
    go x1 = grind (arith, common_steps, of_script)

by_exports : (exports : List parts.ModuleExport) (name : List ℕ) (w : values.Provider) (g : Provider) → Agree exports name w g → Agree exports name (by_found (find (λ e. bytes_eq e.name name) exports) w) (module_provider_or (index_of_export exports name) g)
by_exports exports name w g h = go (locate (λ (e : parts.ModuleExport). e.name) name exports)
  where
    go : Located (λ (e : parts.ModuleExport). e.name) name exports → Agree exports name (by_found (find (λ e. bytes_eq e.name name) exports) w) (module_provider_or (index_of_export exports name) g)
    go x1 = grind (arith, common_steps, of_module)

one_exporter : (owner : ℕ) (name : List ℕ) (other : values.Provider) (rest : List parts.ModuleExport) (es : List Export) → by_found (find (λ e. bytes_eq e.name name) (map (linked_export owner) es ++ rest)) other ≡ cond (is_among (map (λ (e : Export). e.name) es) name) (by_module owner) (by_found (find (λ e. bytes_eq e.name name) rest) other)
one_exporter owner name other rest [] = refl
one_exporter owner name other rest (e ∷ es) = grind (arith, common_steps, (one_exporter owner name other rest es))

exporters : (owner : ℕ) (ys : List Layout) (ms : List Module) (name : List ℕ) (other : values.Provider) → AreObjectsOfLayouts ys ms → exporter_from owner ys name other ≡ by_found (find (λ e. bytes_eq e.name name) (linked_exports owner ms)) other
exporters owner [] [] name other h = refl
exporters owner [] (m ∷ ms) name other h = absurd h
exporters owner (y ∷ ys) [] name other h = absurd h
exporters owner (y ∷ ys) (m ∷ ms) name other h = grind (arith, common_steps, (exporters (suc owner) ys ms name other h.1), source_exports, one_exporter)

pub providers_agree : (s : Script) (placement : Placement) (ys : List Layout) (ms : List Module) (name : List ℕ) → AreObjectsOfLayouts ys ms → Agree (program_of ms).exports name (whole.provider_of s placement ys name) (linked.provider_of (script_definitions s placement) (program_of ms).exports (weak_symbols s.symbols) name)
providers_agree s placement ys ms name h =
    let exports : List parts.ModuleExport = (program_of ms).exports in
    let weak : values.Provider = provider_or by_nobody (definition_of (weak_symbols s.symbols) name) in
    let weakly : Provider = script_provider_or (weak_symbols s.symbols) (index_of_definition (weak_symbols s.symbols) name) Nobody in
    let found : values.Provider = by_found (find (λ e. bytes_eq e.name name) exports) weak in
    let inner : Agree exports name found (module_provider_or (index_of_export exports name) weakly) = by_exports exports name weak weakly (by_definitions exports name (weak_symbols s.symbols) by_nobody Nobody of_nobody) in
    let same : exporter_from 0 ys name weak ≡ found = exporters 0 ys ms name weak h ∙ ap (λ es. by_found (find (λ e. bytes_eq e.name name) es) weak) (sym (exports_are ms)) in
    grind (arith, common_steps, by_definitions)

-- ---- The values of imports.

pub past_all : (ls : List LaidOutStatement) → slice_get ls (length ls) ≡ None
past_all [] = refl
past_all (l ∷ ls) = past_all ls

pub global_form : (y : Layout) (x : List ℕ) (j : ℕ) (f : Form) → definition_index (table_of y) (named 0 x) ≡ Some j → defined_form (table_of y) j ≡ Ok f → norm (suc (suc (length (table_of y).definitions))) (table_of y) (global_context y) (tree.name false (x ∷ [])) ≡ Ok f
global_form y x j f e h = grind (arith, common_steps)

all_laid_out : (ys : List Layout) (ms : List Module) → AreObjectsOfLayouts ys ms → AllByRecursion HasNoLineErrors ys
all_laid_out [] [] h = tt
all_laid_out [] (m ∷ ms) h = absurd h
all_laid_out (y ∷ ys) [] h = absurd h
all_laid_out (y ∷ ys) (m ∷ ms) h = (h.0.no_line_errors, all_laid_out ys ms h.1)

pub exports_known : (ys : List Layout) (ms : List Module) → AreObjectsOfLayouts ys ms → AllByRecursion (IsExportOf ys ms) (program_of ms).exports
exports_known ys ms h = grind (arith, common_steps, exports_are, of_sources)

module _ (s : Script) (placement : Placement) (ys : List Layout) (ms : List Module) where
  abbrev p : values.Program
  p = whole.placed_program s placement ys

  abbrev o : LinkerView ValueFault
  o = linked_objects s placement ys ms

  abbrev l : Linkage
  l = linkage_of s (program_of ms) placement

  -- the normal form of an exported name after the last statement of its module
  pub export_normal : (e : parts.ModuleExport) (m : IsExportOf ys ms e) → norm (suc (suc (length (table_of m.layout).definitions))) (o.symbols e.owner) (o.contexts e.owner (p.global_index e.owner)) (tree.name false (e.name ∷ [])) ≡ Ok m.form
  export_normal e m = grind (arith, common_steps, symbols_at, context_in, past_all, global_form)

  of_export : (h : AreObjectsOfLayouts ys ms) (owner k : ℕ) (x : List ℕ) (i : ℕ) (e : parts.ModuleExport) → slice_get (program_of ms).exports i ≡ Some e → e.name ≡ x → ((export_depth : ℕ) → o.imports export_depth owner k ≡ exports_to_depth l export_depth i) → ImportHasExportValue p o owner k x e.owner
  of_export h owner k x i e at called says =
      let m = all_get (IsExportOf ys ms) (program_of ms).exports i e (exports_known ys ms h) at in
      let y : Layout = m.layout in
      record {
        depth = suc (suc (length (table_of y).definitions));
        form = m.form;
        normal = subst (λ n. norm (suc (suc (length (table_of y).definitions))) (o.symbols e.owner) (o.contexts e.owner (p.global_index e.owner)) (tree.name false (n ∷ [])) ≡ Ok m.form) called (export_normal e m);
        at_zero = λ v q. (let never : ◌≡◌ {A = Result ℤ ValueFault} (Err Circular) (Ok v) = sym (says zero) ∙ q in absurd cc);
        at_successor = λ export_depth.
            says (suc export_depth)
            ∙ ap (export_value l (exports_to_depth l export_depth)) at
            ∙ ap (value_of_form l (exports_to_depth l export_depth) e.owner) m.written
            ∙ sym (form_law s placement ys ms e.owner export_depth y m.object m.contents m.form h m.at_y m.at_m m.found m.keyed);
      }

  given_by : (h : AreObjectsOfLayouts ys ms) (owner k : ℕ) (x : List ℕ) (w : values.Provider) (g : Provider) → Agree (program_of ms).exports x w g → ((export_depth : ℕ) → o.imports export_depth owner k ≡ import_value (exports_to_depth l export_depth) g) → HasProviderValue p o owner k x w
  given_by h owner k x _ _ (of_script v) says = says
  given_by h owner k x _ _ of_nobody says = λ export_depth v q. (let never : ◌≡◌ {A = Result ℤ ValueFault} (Err Unresolved) (Ok v) = sym (says export_depth) ∙ q in absurd cc)
  given_by h owner k x _ _ (of_module i e at called) says = of_export h owner k x i e at called says

  given : (h : AreObjectsOfLayouts ys ms) (owner k : ℕ) (r : Option (List ℕ)) → slice_get (o.symbols owner).imports k ≡ r → ImportHasValue p o owner k r
  given h owner k None e = λ export_depth v q. (let never : ◌≡◌ {A = Result ℤ ValueFault} (Err Unresolved) (Ok v) = sym (ap (λ r. import_value (exports_to_depth l export_depth) (provider_named s placement (program_of ms) r)) e) ∙ q in absurd cc)
  given h owner k (Some x) e =
      given_by h owner k x (whole.provider_of s placement ys x) (linked.provider_of (script_definitions s placement) (program_of ms).exports (weak_symbols s.symbols) x) (providers_agree s placement ys ms x h)
      (λ export_depth. ap (λ r. import_value (exports_to_depth l export_depth) (provider_named s placement (program_of ms) r)) e)

-- the linker's view of the modules of sources agrees with the whole program: each import has the value of its provider
pub sources_law : (s : Script) (placement : Placement) (ys : List Layout) (ms : List Module) → AreObjectsOfLayouts ys ms → IsLinkerView (whole.placed_program s placement ys) (linked_objects s placement ys ms)
sources_law s placement ys ms h = grind (arith, common_steps, linked_law, imports_linked, all_laid_out, given)
