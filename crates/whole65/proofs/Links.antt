-- The conditions under which a link gives files, and the layouts and names that sources and links share.
use Rattle.std.proofs.lemmas.Grind.{common_steps}
use Rattle.std.proofs.Common.{arith, ◌≡◌, ℕ, List, [], ◌∷◌, ◌++◌, Result, Ok, Err, refl, sym, subst, Option, None}
use Rattle.std.specs.Prelude.{ℤ, ◌↔◌}
use Rattle.base65.specs.Outcome.{AndThen}
use Rattle.script65.specs.Placing.{place_of}
use Rattle.script65.specs.declared.placement.Placement.{Placement}
use Rattle.script65.specs.declared.script.Script.{Script}
use Rattle.link65.specs.Links.{check_asserts, check_export, check_fixup, check_each, fixups_by_row, AreFiles, IsProgramLink, check_unique_names, none_duplicate}
use Rattle.link65.specs.Names.{unresolved_names, first_duplicate}
use Rattle.link65.specs.Texts.{map_text, warnings_of_rows}
use Rattle.link65.specs.Values.{linkage_of, needs_of, AreExports, table_exports}
use Rattle.link65.specs.Programs.{Program, program_of, Module}
use Rattle.link65.specs.declared.linking.Linked.{Linked}
use Rattle.base65.specs.declared.output.OutputFile.{OutputFile}
use Rattle.link65.specs.declared.parts.ValueFault.{ValueFault}
use Rattle.whole65.proofs.SameValues.{bind_ok}
use Rattle.base65.specs.Store.{Files}
use Rattle.syntax65.specs.Tokens.{Lexeme}
use Rattle.syntax65.specs.Trees.{number}
use Rattle.expand65.specs.Expansion.{first_state_in}
use Rattle.expand65.specs.State as expand
use Rattle.syntax65.specs.declared.fault.ExpandFault.{ExpandFault}
use Rattle.syntax65.specs.declared.source_location.SourceLocation.{SourceLocation}
use Rattle.ast65.specs.declared.fault.AsmFault.{AsmFault}
use Rattle.ast65.specs.declared.language.Statement.{Statement}
use Rattle.ast65.specs.declared.language.Statement.TheVariants.{Constant}
use Rattle.semantics65.specs.Layout.{Layout, layout_after, empty_layout, line_fault, unless_fault}
use Rattle.semantics65.specs.Symbols.{symbols_of}
use Rattle.ast65.specs.Parsing.{label_of}
use Rattle.sources65.specs.Reading.{IsLaidOut, layout_semantics, AreLaidOut, DefinesConstants, AssemblesRest, Define, AssemblesAfterDefines, AssemblesOpeningResult, AssemblesExpanded, AssemblesLabel, AssemblesTokens, Job, ReachedState, no_line, statement_assembled, statement_rejected, expansion_rejected, source_ended, with_bytes}
use Rattle.whole65.specs.Offsets.{HasNoLineErrors, no_statement, following}
use Rattle.object65.specs.Form.{lit, sec, imp, prefix, binary, Form}
use Rattle.object65.specs.FormValue.{value_in}
use Rattle.semantics65.specs.Numbering.{imports_in}
use Rattle.sources65.proofs.SoundForms.{all_append}
use Rattle.whole65.proofs.Exports.{export_names_law}
use Rattle.std.specs.List.{AllByRecursion}
use Rattle.whole65.specs.Whole.{provided_names}
use Rattle.whole65.specs.Sources.{AreObjectsOfLayouts}

-- ---- A link that gives files.

-- No name is provided twice, none is unresolved, the rows are placed, the exports have a table, all checks pass, and these
-- are the files.
pub record HasLink (output_name : List ℕ) (s : Script) (q : Program) (files : List OutputFile) : Type 0 where
  pub no_repetition : check_unique_names s q ≡ Ok tt
  pub none : unresolved_names s q ≡ []
  pub placement : Placement
  pub placed : place_of s (needs_of q) ≡ Ok placement
  pub table : List (Result ℤ ValueFault)
  pub exports : AreExports (linkage_of s q placement) table
  pub values : check_each (check_fixup (linkage_of s q placement) q.members (table_exports table)) (fixups_by_row s.rows q.segments) ≡ Ok tt
  pub exported : check_each (check_export (linkage_of s q placement) q.members (table_exports table)) q.exports ≡ Ok tt
  pub warnings : List ℕ
  pub asserted : check_asserts (linkage_of s q placement) q.members (table_exports table) q.asserts ≡ Ok warnings
  pub made : AreFiles output_name s q placement (linkage_of s q placement) (table_exports table) files

module _ (output_name : List ℕ) (s : Script) (q : Program) (files : List OutputFile) where
  abbrev pub linked_by : HasLink output_name s q files → Linked
  linked_by h = record {
    files = files;
    warnings = warnings_of_rows s.rows q.segments ++ h.warnings;
    map = map_text s q h.placement (linkage_of s q h.placement) (table_exports h.table);
  }

  pub link_by : (h : HasLink output_name s q files) → AndThen (check_unique_names s q) (λ u. IsProgramLink output_name s q) (Ok (linked_by h))
  link_by h = grind (arith, common_steps)

  -- conversely, a link that gives these files satisfies all of these conditions
  pub link_has : (linked : Linked) → AndThen (check_unique_names s q) (λ u. IsProgramLink output_name s q) (Ok linked) → linked.files ≡ files → HasLink output_name s q files
  link_has linked link same = grind (arith, common_steps)

-- ---- A source is laid out without errors at its lines.

one : (y z : Layout) (place : SourceLocation) (x : Statement) → HasNoLineErrors y → IsLaidOut y place x (Ok z) → HasNoLineErrors z
one y z place x d h = by (line_fault (symbols_of y.laid) y.cursor x) refl h
  where
    by : (o : Option AsmFault) → line_fault (symbols_of y.laid) y.cursor x ≡ o → Ok z ≡ unless_fault o (layout_after y place x) → HasNoLineErrors z
    by x1 is h = grind (arith, common_steps, (following y place x d))

unchanged : (y z : Layout) → HasNoLineErrors y → ◌≡◌ {A = Result Layout AsmFault} (Ok z) (Ok y) → HasNoLineErrors z
unchanged y z d h = let same : y ≡ z = cc in subst HasNoLineErrors same d

labelled : (y z : Layout) (place : SourceLocation) (x : Option Statement) → HasNoLineErrors y → AssemblesLabel IsLaidOut y place x (Ok z) → HasNoLineErrors z
labelled y z place x d h = grind (arith, common_steps, unchanged, one)

stated : (m : Files) (y z : Layout) (place : SourceLocation) (x : Result Statement AsmFault) → HasNoLineErrors y → AndThen x (λ s. IsLaidOut y place (with_bytes m place s)) (Ok z) → HasNoLineErrors z
stated m y z place x d h = grind (arith, common_steps, one)

rest : (m : Files) (y z : Layout) (place : SourceLocation) (ts : List Lexeme) → HasNoLineErrors y → AssemblesTokens m IsLaidOut y place ts (Ok z) → HasNoLineErrors z
rest m y z place [] d h = unchanged y z d h
rest m y z place (t ∷ ts) d (x, is, h) = stated m y z place x d h

after_label : (m : Files) (y z : Layout) (place : SourceLocation) (ts : List Lexeme) (q : Result Layout AsmFault) → HasNoLineErrors y → AssemblesLabel IsLaidOut y place (label_of ts).0 q → AndThen q (λ w. AssemblesTokens m IsLaidOut w place (label_of ts).1) (Ok z) → HasNoLineErrors z
after_label m y z place ts x1 d l h = grind (arith, common_steps, rest, labelled)

given : (m : Files) (y z : Layout) (place : SourceLocation) (x : expand.ExpandedStatement) → HasNoLineErrors y → AssemblesExpanded m IsLaidOut y place x (Ok z) → HasNoLineErrors z
given m y z place (expand.label ts) d (q, l, h) = after_label m y z place ts q d l h
given m y z place (expand.plain ts) d h = rest m y z place ts d h

all_taken : (m : Files) {s : expand.State} {y : Layout} {r : ReachedState Layout} → AssemblesRest m layout_semantics s y r → HasNoLineErrors y → HasNoLineErrors r.state
all_taken m (statement_assembled s t x y z r reach h more) d = all_taken m more (given m y z t.left.place x d h)
all_taken m (statement_rejected s t x y e reach h) d = d
all_taken m (expansion_rejected s y e place reach) d = d
all_taken m (source_ended s t y reach) d = d

all_defined : (y : Layout) (place : SourceLocation) (ds : List Define) (z : Layout) → HasNoLineErrors y → DefinesConstants IsLaidOut y place ds (Ok z) → HasNoLineErrors z
all_defined y place [] z d h = unchanged y z d h
all_defined y place (c ∷ cs) z d (q, is, h) = grind (arith, common_steps, (λ (w : Layout). one y w place (Constant c.0 (number c.1)) d), (λ (w : Layout). all_defined w place cs z))

followed : (m : Files) (s : expand.State) (place : SourceLocation) (ds : List Define) (q : Result Layout AsmFault) (r : ReachedState Layout) → DefinesConstants IsLaidOut empty_layout place ds q → AssemblesAfterDefines m layout_semantics s place empty_layout q r → HasNoLineErrors r.state
followed m s place ds (Ok z) r defined h = all_taken m h (all_defined empty_layout place ds z no_statement defined)
followed m s place ds (Err e) r defined h = subst (λ (k : ReachedState Layout). HasNoLineErrors k.state) (sym h) no_statement

opened : (m : Files) (job : Job) (o : Result expand.State ExpandFault) (r : ReachedState Layout) → AssemblesOpeningResult m layout_semantics job empty_layout o r → HasNoLineErrors r.state
opened m job (Err e) r h = subst (λ (k : ReachedState Layout). HasNoLineErrors k.state) (sym h) no_statement
opened m job (Ok s) r (q, defined, h) = followed m s (no_line job.source) job.defines q r defined h

-- the layout that a source reaches has no line errors
pub laid_out_law : (m : Files) (job : Job) (r : ReachedState Layout) → AreLaidOut m job r → HasNoLineErrors r.state
laid_out_law m job r h = opened m job (first_state_in m job.source job.include) r h

-- ---- Names that are provided twice, and imports that have values.

-- if a form has a value, so does each of its imports
pub valued_imports_law : (E : Type 0) → (none : E) (bases : ℕ → ℤ) (values : ℕ → Result ℤ E) (f : Form) (v : ℤ) → value_in none bases values f ≡ Ok v → AllByRecursion (λ k. (w : ℤ) × (values k ≡ Ok w)) (imports_in f)
valued_imports_law E none bases values (lit n) v e = tt
valued_imports_law E none bases values (sec g a) v e = tt
valued_imports_law E none bases values (imp k) v e = ((v, e), tt)
valued_imports_law E none bases values (prefix op f) v e = grind (arith, common_steps, (valued_imports_law E none bases values f))
valued_imports_law E none bases values (binary op f g) v e = grind (arith, common_steps, (valued_imports_law E none bases values f), (valued_imports_law E none bases values g))

pub none_again : (r : Option (List ℕ)) → (none_duplicate r ≡ Ok tt) ↔ (r ≡ None)
none_again x = grind (arith, common_steps)

-- a link finds no name that is provided twice if and only if there is none in the whole program
pub names_law : (s : Script) (ys : List Layout) (ms : List Module) → AreObjectsOfLayouts ys ms → (check_unique_names s (program_of ms) ≡ Ok tt) ↔ (first_duplicate [] (provided_names s ys) ≡ None)
names_law s ys ms h = grind (arith, common_steps, export_names_law, none_again)
