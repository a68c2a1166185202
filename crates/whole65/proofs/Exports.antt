-- Objects export the names that their sources export, and declare their forced imports and deferred assertions.
use Rattle.std.proofs.Common.{arith, ◌≡◌, ℕ, Bool, List, [], ◌∷◌, ◌++◌, map, filter, Some, Ok, refl, sym, ◌∙◌, ap, subst}
use Rattle.std.specs.Prelude.{⊤, is_some}
use Rattle.std.specs.List.{AllByRecursion, flat_map}
use Rattle.std.proofs.lemmas.List.{append-nil, append_assoc, map-append}
use Rattle.std.proofs.lemmas.List.Elements.{filter-append}
use Rattle.std.proofs.lemmas.Grind.{common_steps, flat_map-append}
use Rattle.object65.specs.Form.{Form}
use Rattle.base65.specs.declared.action.Action.{Action}
use Rattle.object65.specs.declared.object.Export.{Export}
use Rattle.object65.specs.declared.object.Object.{Object}
use Rattle.syntax65.specs.declared.source_location.SourceLocation.{SourceLocation}
use Rattle.semantics65.specs.Contents.{Content, Declaration, ExportedSymbol, ForcedImport, LinkAssertion, decided_assertion, exported_names}
use Rattle.semantics65.specs.Symbols.{LaidOutStatement, Symbols, definition_index, named, with_new_names}
use Rattle.ast65.specs.declared.language.Statement.{Statement}
use Rattle.ast65.specs.declared.language.Statement.TheVariants as statement
use Rattle.semantics65.specs.Layout.{Layout}
use Rattle.semantics65.specs.Norms.{defined_form, norm_of}
use Rattle.semantics65.specs.Numbering.{all_declarations, import_keys, section_keys}
use Rattle.link65.specs.Names.{export_names}
use Rattle.link65.specs.Programs.{Module, Program, no_program, program_of, with_module, with_modules}
use Rattle.link65.specs.Programs as linked
use Rattle.link65.specs.declared.parts.ModuleExport as parts
use Rattle.sources65.proofs.SoundForms.{all_append}
use Rattle.semantics65.proofs.SlotResolution.{names_append, exports_named}
use Rattle.sources65.proofs.Resolving.{new_append}
use Rattle.semantics65.specs.Module.{module_resolution}
use Rattle.whole65.proofs.Statements.{AreStated, IsSaidBy, SaidOnce, a_line, are_stated, left_out, no_line, no_name, said_append, said_first, stated}
use Rattle.whole65.proofs.Sources.{contents_of}
use Rattle.whole65.specs.Modules.{exported_by, exports_of, table_of, forced_imports_by}
use Rattle.whole65.specs.Sources.{AreObjectsOfLayouts, IsObjectOfLayout}
use Rattle.syntax65.specs.Trees.{Tree}
use Rattle.ast65.specs.declared.language.Statement.TheVariants.{Export as ExportNames, Global, ForceImport, Assert}

-- ---- Declared exports.

-- an export has the form of its name's definition
abbrev pub IsDefined : Symbols → Declaration → Type 0
IsDefined z (ExportedSymbol n place f) = (j : ℕ) × (definition_index z (named 0 n) ≡ Some j) × (defined_form z j ≡ Ok f)
IsDefined z (ForcedImport n) = ⊤
IsDefined z (LinkAssertion act place words f) = ⊤

abbrev pub has_definition : Symbols → List ℕ → Bool
has_definition z n = is_some (definition_index z (named 0 n))

-- `ss` are declarations of exports of `names` after exports of `before`: each name that is defined and not in `before` is
-- exported once, at its first occurrence, with the form of its definition.
pub record Says (z : Symbols) (before names : List (List ℕ)) (ss : List Declaration) : Type 0 where
  pub exported : with_new_names before (filter (has_definition z) names) ≡ before ++ exported_names ss
  pub are_defined : AllByRecursion (IsDefined z) ss

says_nothing : (z : Symbols) (before : List (List ℕ)) (ss : List Declaration) → exported_names ss ≡ [] → AllByRecursion (IsDefined z) ss → Says z before [] ss
says_nothing z before ss none all = grind (arith, common_steps)

says_both : (z : Symbols) (before ns ms : List (List ℕ)) (ss rs : List Declaration) → Says z before ns ss → Says z (before ++ exported_names ss) ms rs → Says z before (ns ++ ms) (ss ++ rs)
says_both z before ns ms ss rs h k = grind (arith, common_steps, new_append, names_append)

exports_say : {z : Symbols} {place : SourceLocation} {before ns : List (List ℕ)} {ss : List Declaration} → SaidOnce z place before ns ss → Says z before ns ss
exports_say {before = before} no_name = record { exported = sym (append-nil before); are_defined = tt }
exports_say {z = z} {before = before} (left_out {n = n} {ns = ns} {ss = ss} why more) = grind (arith, common_steps, (exports_say more))
exports_say {z = z} {before = before} (said_first {n = n} {ns = ns} {ss = ss} j f new e form more) = grind (arith, common_steps, (exports_say more))

forced_says : (z : Symbols) (before ns : List (List ℕ)) → Says z before [] (map ForcedImport ns)
forced_says z before [] = grind (arith, common_steps)
forced_says z before (n ∷ ns) = grind (arith, common_steps, (forced_says z before ns))

-- an assertion is decided in the source and has no declaration, or is deferred to the link
data IsDecided (act : Action) (place : SourceLocation) (words : List ℕ) (f : Form) (ss : List Declaration) : Type 0 where
  settled : [] ≡ ss → IsDecided act place words f ss
  waiting : LinkAssertion act place words f ∷ [] ≡ ss → IsDecided act place words f ss

is_decided : (act : Action) (place : SourceLocation) (words : List ℕ) (f : Form) (ss : List Declaration) → decided_assertion act place words f ≡ Ok ss → IsDecided act place words f ss
is_decided x place words y ss h = grind (arith, common_steps)

one_says : (z : Symbols) (before : List (List ℕ)) (l : LaidOutStatement) (ss : List Declaration) → IsSaidBy z before l l.stated ss → Says z before (exported_by l.stated) ss
one_says z before l ss h = go l.stated h
  where
    go : (x : Statement) → IsSaidBy z before l x ss → Says z before (exported_by x) ss
    go (statement.Export names) h = exports_say h
    go (statement.Global size names) h = exports_say h
    go (statement.ForceImport names) h = subst (Says z before []) (sym h) (forced_says z before names)
    go (statement.Assert e act words) (f, normal, said) = by (is_decided act l.place words f ss said)
      where
        by : IsDecided act l.place words f ss → Says z before [] ss
        by x1 = grind (arith, common_steps)
    go x h = subst (Says z before []) (sym h) (says_nothing z before [] refl tt)

lines_say : (z : Symbols) (before : List (List ℕ)) (ls : List LaidOutStatement) (cs : List Content) → AreStated z before ls cs → Says z before (flat_map (λ l. exported_by l.stated) ls) (all_declarations cs)
lines_say z before [] _ no_line = says_nothing z before [] refl tt
lines_say z before (l ∷ ls) _ (a_line ds cs found more) =
    subst (Says z before (flat_map (λ l. exported_by l.stated) (l ∷ ls))) (sym (said_append ds cs))
    (says_both z before (exported_by l.stated) (flat_map (λ l. exported_by l.stated) ls) (all_declarations ds) (all_declarations cs)
    (one_says z before l (all_declarations ds) (stated z before l ds found).said) (lines_say z (before ++ exported_names (all_declarations ds)) ls cs more))

pub said_all : (y : Layout) (cs : List Content) → (module_resolution y.laid).found ≡ Ok cs → Says (table_of y) [] (flat_map (λ l. exported_by l.stated) y.laid) (all_declarations cs)
said_all y cs e = lines_say (table_of y) [] y.laid cs (are_stated y cs e)

-- ---- Exports of objects.

pub source_exports : (y : Layout) (m : Module) → IsObjectOfLayout y m → map (λ (e : Export). e.name) m.object.exports ≡ exports_of y
source_exports y m h =
    let c = contents_of y m h in
    let cs : List Content = c.contents in
    ap (λ (o : Object). map (λ (e : Export). e.name) o.exports) c.object
    ∙ exports_named c.origins (section_keys cs) (import_keys (table_of y).imports cs) (all_declarations cs)
    ∙ sym (said_all y cs c.found).exported

-- ---- Induction on the modules.

names_exported : (owner : ℕ) (es : List Export) → map (λ (e : parts.ModuleExport). e.name) (map (linked.linked_export owner) es) ≡ map (λ (e : Export). e.name) es
names_exported owner [] = refl
names_exported owner (e ∷ es) = ap (λ z. e.name ∷ z) (names_exported owner es)

all_exports : (p : Program) (ys : List Layout) (ms : List Module) → AreObjectsOfLayouts ys ms → export_names (with_modules p ms) ≡ export_names p ++ flat_map exports_of ys
all_exports p [] [] h = sym (append-nil (export_names p))
all_exports p [] (m ∷ ms) h = absurd h
all_exports p (y ∷ ys) [] h = absurd h
all_exports p (y ∷ ys) (m ∷ ms) h = grind (arith, common_steps, names_exported, source_exports, (all_exports (with_module p m) ys ms h.1))

-- the objects of sources export the names of the sources in the same order
pub export_names_law : (ys : List Layout) (ms : List Module) → AreObjectsOfLayouts ys ms → export_names (linked.program_of ms) ≡ flat_map exports_of ys
export_names_law ys ms h = all_exports no_program ys ms h

-- ---- Forced imports and assertions in declarations.

abbrev pub demanded_name : Declaration → List (List ℕ)
demanded_name (ExportedSymbol n place f) = []
demanded_name (ForcedImport n) = n ∷ []
demanded_name (LinkAssertion act place words f) = []

abbrev pub demanded_names : List Declaration → List (List ℕ)
demanded_names ss = flat_map demanded_name ss

-- a deferred assertion has the form of the statement's expression
abbrev pub IsAsserted : Symbols → LaidOutStatement → Declaration → Type 0
IsAsserted z l (ExportedSymbol n place f) = ⊤
IsAsserted z l (ForcedImport n) = ⊤
IsAsserted z l (LinkAssertion act place words f) = (e : Tree) × (l.stated ≡ Assert e act words) × (norm_of z l.context e ≡ Ok f)

pub record Tells (z : Symbols) (l : LaidOutStatement) (ss : List Declaration) : Type 0 where
  pub demanded : demanded_names ss ≡ forced_imports_by l.stated
  pub asserted : AllByRecursion (IsAsserted z l) ss

-- ---- Statements that only export.

abbrev IsExport : Declaration → Type 0
IsExport (ExportedSymbol n place f) = ⊤
IsExport (ForcedImport n) = ⊥
IsExport (LinkAssertion act place words f) = ⊥

none_demanded : (ss : List Declaration) → AllByRecursion IsExport ss → demanded_names ss ≡ []
none_demanded [] h = refl
none_demanded (ExportedSymbol n place f ∷ ss) h = none_demanded ss h.1
none_demanded (ForcedImport n ∷ ss) h = absurd h.0
none_demanded (LinkAssertion act place words f ∷ ss) h = absurd h.0

none_asserted : (z : Symbols) (l : LaidOutStatement) (ss : List Declaration) → AllByRecursion IsExport ss → AllByRecursion (IsAsserted z l) ss
none_asserted z l [] h = tt
none_asserted z l (ExportedSymbol n place f ∷ ss) h = (tt, none_asserted z l ss h.1)
none_asserted z l (ForcedImport n ∷ ss) h = absurd h.0
none_asserted z l (LinkAssertion act place words f ∷ ss) h = absurd h.0

exports_alone : {z : Symbols} {place : SourceLocation} {names ns : List (List ℕ)} {ss : List Declaration} → SaidOnce z place names ns ss → AllByRecursion IsExport ss
exports_alone no_name = tt
exports_alone (left_out why more) = exports_alone more
exports_alone (said_first j f new e form more) = (tt, exports_alone more)

-- ---- One statement.

of_forced : (z : Symbols) (l : LaidOutStatement) (ns : List (List ℕ)) → (demanded_names (map ForcedImport ns) ≡ ns) × AllByRecursion (IsAsserted z l) (map ForcedImport ns)
of_forced z l [] = (refl, tt)
of_forced z l (n ∷ ns) = let more = of_forced z l ns in (ap (λ k. n ∷ k) more.0, (tt, more.1))

pub one_tells : (z : Symbols) (names : List (List ℕ)) (l : LaidOutStatement) (ss : List Declaration) → IsSaidBy z names l l.stated ss → Tells z l ss
one_tells z names l ss h = go l.stated h
  where
    exporting : (x : Statement) → forced_imports_by x ≡ [] → AllByRecursion IsExport ss → Tells z (record l { stated = x }) ss
    exporting x none all = record { demanded = none_demanded ss all ∙ sym none; asserted = none_asserted z (record l { stated = x }) ss all }

    go : (x : Statement) → IsSaidBy z names l x ss → Tells z (record l { stated = x }) ss
    go (ExportNames ns) h = exporting (ExportNames ns) refl (exports_alone h)
    go (Global size ns) h = exporting (Global size ns) refl (exports_alone h)
    go (ForceImport ns) h =
        let both = of_forced z (record l { stated = ForceImport ns }) ns in
        subst (Tells z (record l { stated = ForceImport ns })) (sym h) (record { demanded = both.0; asserted = both.1 })
    go (Assert e act words) (f, normal, said) = by (is_decided act l.place words f ss said)
      where
        by : IsDecided act l.place words f ss → Tells z (record l { stated = Assert e act words }) ss
        by x1 = grind (arith, common_steps)
    go x h = exporting x refl (subst (AllByRecursion IsExport) (sym h) tt)

-- ---- All statements of a module.

lines_demand : (z : Symbols) (names : List (List ℕ)) (ls : List LaidOutStatement) (cs : List Content) → AreStated z names ls cs → demanded_names (all_declarations cs) ≡ flat_map (λ l. forced_imports_by l.stated) ls
lines_demand z names [] _ no_line = refl
lines_demand z names (l ∷ ls) _ (a_line ds cs found more) =
    ap demanded_names (said_append ds cs)
    ∙ flat_map-append demanded_name (all_declarations ds) (all_declarations cs)
    ∙ ap (λ ns. ns ++ demanded_names (all_declarations cs)) (one_tells z names l (all_declarations ds) (stated z names l ds found).said).demanded
    ∙ ap (λ ns. forced_imports_by l.stated ++ ns) (lines_demand z (names ++ exported_names (all_declarations ds)) ls cs more)

pub all_demanded : (y : Layout) (cs : List Content) → (module_resolution y.laid).found ≡ Ok cs → demanded_names (all_declarations cs) ≡ flat_map (λ l. forced_imports_by l.stated) y.laid
all_demanded y cs e = lines_demand (table_of y) [] y.laid cs (are_stated y cs e)
