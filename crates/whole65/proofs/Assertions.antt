-- The assertions of a link pass if and only if those of the whole program do.
use Rattle.whole65.proofs.Positions.{all_parts}
use Rattle.std.proofs.lemmas.Grind.{common_steps}
use Rattle.std.proofs.Common.{◌≡◌, ℕ, zero, suc, List, [], ◌∷◌, ◌++◌, length, map, slice_get, Some, Result, Ok, Err, refl, sym, ◌∙◌, subst, ◌+◌, Bool, true, false, cond, ap, arith}
use Rattle.std.specs.Prelude.{ℤ, pos, negsuc, ◌↔◌, ⊤, filter_map}
use Rattle.std.specs.List.{AllByRecursion}
use Rattle.std.proofs.lemmas.List.{append_assoc, append-nil, length-append}
use Rattle.base65.specs.Outcome.{◌>>=◌}
use Rattle.syntax65.specs.Trees.{Tree}
use Rattle.object65.specs.Form.{Form, lit}
use Rattle.base65.specs.declared.action.Action.{Action}
use Rattle.base65.specs.declared.action.Action.TheVariants as action
use Rattle.syntax65.specs.declared.source_location.SourceLocation.{SourceLocation}
use Rattle.semantics65.specs.Contents.{Content, Declaration, ExportedSymbol, ForcedImport, LinkAssertion, decided_assertion, with_file_name_check, exported_names}
use Rattle.ast65.specs.declared.fault.AsmFault.{AsmFault}
use Rattle.semantics65.specs.Symbols.{LaidOutStatement, Symbols}
use Rattle.ast65.specs.declared.language.Statement.{Statement}
use Rattle.ast65.specs.declared.language.Statement.TheVariants.{Export, Global, ForceImport, Assert}
use Rattle.semantics65.specs.Norms.{norm_of}
use Rattle.semantics65.specs.Numbering.{all_declarations, assert_of, import_keys, renumbered_form, section_keys}
use Rattle.sources65.proofs.SoundForms.{all_append}
use Rattle.semantics65.specs.Module.{module_resolution}
use Rattle.whole65.proofs.Files.{table_law}
use Rattle.whole65.proofs.SameValues.{bind_ok, written_ok, same_values_law}
use Rattle.whole65.proofs.SectionBytes.{in_middle}
use Rattle.whole65.proofs.Statements.{AreStated, IsSaidBy, SaidOnce, a_line, are_stated, left_out, no_line, no_name, said_append, said_first, stated}
use Rattle.whole65.specs.Objects.{IsLinkerView, HasValue, LinkerView, form_value}
use Rattle.whole65.specs.Segments.{module_statement, module_statements_after}
use Rattle.whole65.specs.Values.{Program, Value}
use Rattle.whole65.specs.Whole.{SatisfiesAssertion, AssertionHolds, PassAssertions}
use Rattle.std.specs.Ordering.{int_eq}
use Rattle.std.proofs.lemmas.Bool.Decides.{not_from_Decides}
use Rattle.object65.specs.declared.object.Object.{Object}
use Rattle.object65.specs.declared.object.Origin.{Origin}
use Rattle.script65.specs.declared.placement.Placement.{Placement}
use Rattle.script65.specs.declared.script.Script.{Script}
use Rattle.semantics65.specs.Layout.{Layout}
use Rattle.link65.specs.Links.{assertion_result, check_assert, check_asserts, module_location, located_value}
use Rattle.link65.specs.Programs.{Module}
use Rattle.link65.specs.Values.{linkage_of, AreExports, Exports, Linkage, exports_to_depth, table_exports, value_of_form}
use Rattle.link65.specs.Programs as linked
use Rattle.link65.specs.Texts.{assertion_warning}
use Rattle.link65.specs.declared.fault.LinkFault.{LinkFault}
use Rattle.link65.specs.declared.fault.ModuleLocation.{ModuleLocation}
use Rattle.link65.specs.declared.parts.ModuleAssertion.{ModuleAssertion as LinkedAssertion}
use Rattle.link65.specs.declared.parts.LinkedModule.{LinkedModule}
use Rattle.link65.specs.declared.parts.ValueFault.{ValueFault}
use Rattle.whole65.proofs.Providers.{keyed_said, sources_law}
use Rattle.whole65.proofs.SectionBases.{form_law, keyed_law}
use Rattle.whole65.proofs.Sources.{HasContents, contents_of}
use Rattle.whole65.proofs.LinkedObjects.{IsKeyed, IsKeyedSaid, linked_objects, context_in, symbols_at}
use Rattle.whole65.specs.Modules.{global_context, context_or, table_of}
use Rattle.whole65.specs.Programs as whole
use Rattle.whole65.specs.Sources.{AreObjectsOfLayouts, IsObjectOfLayout}
use Rattle.whole65.specs.Programs.{placed_program}

-- ---- Assertions in the declarations of a module.

-- a deferred assertion has a value that passes; any other declaration satisfies this
abbrev pub IsPassed : {E : Type 0} → LinkerView E → ℕ → Declaration → Type 0
IsPassed o owner (ExportedSymbol n place f) = ⊤
IsPassed o owner (ForcedImport n) = ⊤
IsPassed o owner (LinkAssertion act place words f) = (v : ℤ) × HasValue o owner f v × AssertionHolds act v

-- ---- Declarations without assertions.

module _ {E : Type 0} (o : LinkerView E) (owner : ℕ) where
  abbrev pub AllPass : List Declaration → Type 0
  AllPass ss = AllByRecursion (IsPassed o owner) ss

  nothing_said : (ss : List Declaration) → ◌≡◌ {A = Result (List Declaration) AsmFault} (Ok []) (Ok ss) → AllPass ss
  nothing_said ss e = let same : [] ≡ ss = cc in subst AllPass same tt

  exports_pass : {z : Symbols} {place : SourceLocation} {names ns : List (List ℕ)} {ss : List Declaration} → SaidOnce z place names ns ss → AllPass ss
  exports_pass no_name = tt
  exports_pass (left_out why more) = exports_pass more
  exports_pass (said_first j f new e form more) = (tt, exports_pass more)

  demanded_pass : (ns : List (List ℕ)) → AllPass (map ForcedImport ns)
  demanded_pass [] = tt
  demanded_pass (n ∷ ns) = (tt, demanded_pass ns)

-- ---- Statements.

module _ {E : Type 0} (p : Program) (o : LinkerView E) (h : IsLinkerView p o) (owner : ℕ) where
  -- a form has a value that passes
  abbrev FormPasses : Action → Form → Type 0
  FormPasses act f = (v : ℤ) × HasValue o owner f v × AssertionHolds act v

  -- The form of an assertion has a value that passes if and only if the assertion's declarations pass: none if the source
  -- decides it, otherwise the deferred assertion.
  decided_passes : (act : Action) (place : SourceLocation) (words : List ℕ) (f : Form) (ss : List Declaration) → decided_assertion act place words f ≡ Ok ss → FormPasses act f ↔ AllPass o owner ss
  decided_passes act place words f ss d = by act f d
    where
      settled : (act : Action) (v : ℤ) → AssertionHolds act v → ◌≡◌ {A = Result (List Declaration) AsmFault} (Ok []) (Ok ss) → FormPasses act (lit v) ↔ AllPass o owner ss
      settled act v fine e = (λ k. nothing_said o owner ss e, λ k. (v, (0, refl), fine))

      waits : (act : Action) (f : Form) → with_file_name_check place (LinkAssertion act place words f ∷ []) ≡ Ok ss → FormPasses act f ↔ AllPass o owner ss
      waits act f e =
          let same : LinkAssertion act place words f ∷ [] ≡ ss = written_ok place (LinkAssertion act place words f ∷ []) ss e in
          (λ k. subst (AllPass o owner) same (k, tt), λ k. (subst (AllPass o owner) (sym same) k).0)

      by : (act : Action) (f : Form) → decided_assertion act place words f ≡ Ok ss → FormPasses act f ↔ AllPass o owner ss
      by action.Error (lit (pos zero)) d = absurd cc
      by action.Error (lit (pos (suc n))) d = settled action.Error (pos (suc n)) (λ e. cc) d
      by action.Error (lit (negsuc n)) d = settled action.Error (negsuc n) (λ e. cc) d
      by action.Warning (lit v) d = settled action.Warning v tt d
      by act f d = waits act f d

  assertion_passes : (number : ℕ) (place : SourceLocation) (e : Tree) (act : Action) (words : List ℕ) (f : Form) (ss : List Declaration) → norm_of (o.symbols owner) (o.contexts owner number) e ≡ Ok f → decided_assertion act place words f ≡ Ok ss → ((v : ℤ) × Value p owner number e v × AssertionHolds act v) ↔ AllPass o owner ss
  assertion_passes number place e act words f ss q d =
      let value : (v : ℤ) → Value p owner number e v ↔ HasValue o owner f v = λ v. same_values_law E p o h (suc (length (o.symbols owner).definitions)) owner number e f v q in
      grind (arith, common_steps, decided_passes)

  line_passes : (names : List (List ℕ)) (before : List LaidOutStatement) (l : LaidOutStatement) (ss : List Declaration) → o.contexts owner (length before) ≡ l.context → IsSaidBy (o.symbols owner) names l l.stated ss → SatisfiesAssertion p (module_statement owner before l) ↔ AllPass o owner ss
  line_passes names before l ss at d = go l.stated d
    where
      silent : AllPass o owner ss → ⊤ ↔ AllPass o owner ss
      silent all = (λ k. all, λ k. tt)

      go : (x : Statement) → IsSaidBy (o.symbols owner) names l x ss → SatisfiesAssertion p (module_statement owner before (record l { stated = x })) ↔ AllPass o owner ss
      go (Export ns) d = silent (exports_pass o owner d)
      go (Global size ns) d = silent (exports_pass o owner d)
      go (ForceImport ns) d = silent (subst (AllPass o owner) (sym d) (demanded_pass o owner ns))
      go (Assert e act words) (f, normal, said) = assertion_passes (length before) l.place e act words f ss (subst (λ s. norm_of (o.symbols owner) s e ≡ Ok f) (sym at) normal) said
      go x d = silent (subst (AllPass o owner) (sym d) tt)

  -- ---- The statements of a module.

  pub lines_pass : (all : List LaidOutStatement) → ((index : ℕ) (l : LaidOutStatement) → slice_get all index ≡ Some l → o.contexts owner index ≡ l.context) → (before ls : List LaidOutStatement) (names : List (List ℕ)) (cs : List Content) → before ++ ls ≡ all → AreStated (o.symbols owner) names ls cs → AllByRecursion (SatisfiesAssertion p) (module_statements_after owner before ls) ↔ AllPass o owner (all_declarations cs)
  lines_pass all contexts before [] names _ w no_line = (λ k. tt, λ k. tt)
  lines_pass all contexts before (l ∷ ls) names _ w (a_line ds cs found more) =
      let next : (before ++ l ∷ []) ++ ls ≡ all = append_assoc before (l ∷ []) ls ∙ w in
      let there : slice_get all (length before) ≡ Some l = subst (λ z. slice_get z (length before) ≡ Some l) w (in_middle before l ls) in
      let one = line_passes names before l (all_declarations ds) (contexts (length before) l there) (stated (o.symbols owner) names l ds found).said in
      let deeper = lines_pass all contexts (before ++ l ∷ []) ls (names ++ exported_names (all_declarations ds)) cs next more in (
        λ k. subst (AllPass o owner) (sym (said_append ds cs)) (all_append (IsPassed o owner) (all_declarations ds) (all_declarations cs) (one.0 k.0) (deeper.0 k.1)),
        λ k. (let q = all_parts (IsPassed o owner) (all_declarations ds) (all_declarations cs) (subst (AllPass o owner) (said_append ds cs) k) in (one.1 q.0, deeper.1 q.1)),
      )

-- ---- The assertions of the linked modules.

abbrev linked_asserts : ℕ → List Module → List LinkedAssertion
linked_asserts owner [] = []
linked_asserts owner (m ∷ ms) = map (linked.linked_assertion owner) m.object.asserts ++ linked_asserts (suc owner) ms

asserts_after : (p : linked.Program) (ms : List Module) → (linked.with_modules p ms).asserts ≡ p.asserts ++ linked_asserts (length p.members) ms
asserts_after p [] = sym (append-nil p.asserts)
asserts_after p (m ∷ ms) = grind (arith, common_steps, (asserts_after (linked.with_module p m) ms))

asserts_are : (ms : List Module) → (linked.program_of ms).asserts ≡ linked_asserts 0 ms
asserts_are ms = asserts_after linked.no_program ms

-- ---- `check_asserts`.

-- the result is a value that passes
abbrev ComesToPass : Action → Result ℤ ValueFault → Type 0
ComesToPass act r = (v : ℤ) × (r ≡ Ok v) × AssertionHolds act v

abbrev IsTold : Result (List ℕ) LinkFault → Type 0
IsTold r = (text : List ℕ) × (r ≡ Ok text)

value_told : (s : ModuleLocation) (act : Action) (text : List ℕ) (v : ℤ) → IsTold (assertion_result s act text v) ↔ AssertionHolds act v
value_told s action.Warning text v = (λ k. tt, λ k. go (int_eq v (pos 0)))
  where
    go : (b : Bool) → IsTold (cond b (Ok (assertion_warning s text)) (Ok []))
    go true = (assertion_warning s text, refl)
    go false = ([], refl)
value_told s action.Error text v = grind (arith, common_steps, not_from_Decides)

result_told : (s : ModuleLocation) (act : Action) (text : List ℕ) (r : Result ℤ ValueFault) → IsTold (located_value s r >>= assertion_result s act text) ↔ ComesToPass act r
result_told s act text (Ok v) =
    let one = value_told s act text v in (
      λ k. (v, refl, one.0 k),
      λ k. (let same : k.0 ≡ v = cc k.1 in one.1 (subst (AssertionHolds act) same k.2)),
    )
result_told s act text (Err e) = grind (arith, common_steps)

module _ (l : Linkage) (members : List LinkedModule) (exports : Exports) where
  -- the assertion of a linked module has a value that passes
  abbrev pub Succeeds : LinkedAssertion → Type 0
  Succeeds a = ComesToPass a.action (value_of_form l exports a.owner a.form)

  asserts_told : (xs : List LinkedAssertion) → IsTold (check_asserts l members exports xs) ↔ AllByRecursion Succeeds xs
  asserts_told [] = (λ k. tt, λ k. ([], refl))
  asserts_told (a ∷ rest) =
      let one = result_told (module_location members a.owner a.origin) a.action a.text (value_of_form l exports a.owner a.form) in
      let more = asserts_told rest in (
        λ k. (let (text, first, others) = bind_ok (check_assert l members exports a) (λ text. check_asserts l members exports rest >>= (λ more. Ok (text ++ more))) k.0 k.1 in
            let (told, deeper, last) = bind_ok (check_asserts l members exports rest) (λ more. Ok (text ++ more)) k.0 others in
            (one.0 (text, first), more.0 (told, deeper))),
        λ k. (let first = one.1 k.0 in
            let others = more.1 k.1 in (
              first.0 ++ others.0,
              ap (λ r. r >>= (λ text. check_asserts l members exports rest >>= (λ more. Ok (text ++ more)))) first.1
                  ∙ ap (λ r. r >>= (λ more. Ok (first.0 ++ more))) others.1,
            )),
      )

-- ---- The assertions of one module.

module _ (s : Script) (placement : Placement) (ys : List Layout) (ms : List Module) (table : List (Result ℤ ValueFault)) (h : AreObjectsOfLayouts ys ms) (exports : AreExports (linkage_of s (linked.program_of ms) placement) table) where
  abbrev p : Program
  p = whole.placed_program s placement ys

  abbrev o : LinkerView ValueFault
  o = linked_objects s placement ys ms

  abbrev l : Linkage
  l = linkage_of s (linked.program_of ms) placement

  abbrev Passing : LinkedAssertion → Type 0
  Passing = Succeeds l (linked.program_of ms).members (table_exports table)

  module _ (owner : ℕ) (y : Layout) (m : Module) (cs : List Content) (at_y : slice_get ys owner ≡ Some y) (at_m : slice_get ms owner ≡ Some m) (found : (module_resolution y.laid).found ≡ Ok cs) where
    abbrev sections : List ℕ
    sections = section_keys cs

    abbrev numbers : List ℕ
    numbers = import_keys (table_of y).imports cs

    abbrev IsKeyedHere : Declaration → Type 0
    IsKeyedHere = IsKeyedSaid sections numbers (length (table_of y).imports)

    one_form : (f : Form) (v : ℤ) → IsKeyed sections numbers (length (table_of y).imports) f → (value_of_form l (table_exports table) owner (renumbered_form sections numbers f) ≡ Ok v) ↔ HasValue o owner f v
    one_form f v keyed =
        let same : (export_depth : ℕ) → form_value o export_depth owner f ≡ value_of_form l (exports_to_depth l export_depth) owner (renumbered_form sections numbers f) =
        λ export_depth. form_law s placement ys ms owner export_depth y m cs f h at_y at_m found keyed in
        let value = table_law l table owner (renumbered_form sections numbers f) v exports in (
          λ k. (let q = value.0 k in (q.0, same q.0 ∙ q.1)),
          λ k. value.1 (k.0, sym (same k.0) ∙ k.1),
        )

    said_pass : (origins : SourceLocation → Origin) (ss : List Declaration) → AllByRecursion IsKeyedHere ss → AllByRecursion Passing (map (linked.linked_assertion owner) (filter_map (assert_of origins sections numbers) ss)) ↔ AllByRecursion (IsPassed o owner) ss
    said_pass origins [] k = (λ q. tt, λ q. tt)
    said_pass origins (ExportedSymbol n place f ∷ ss) k = let more = said_pass origins ss k.1 in (λ q. (tt, more.0 q), λ q. more.1 q.1)
    said_pass origins (ForcedImport n ∷ ss) k = let more = said_pass origins ss k.1 in (λ q. (tt, more.0 q), λ q. more.1 q.1)
    said_pass origins (LinkAssertion act place words f ∷ ss) k =
        let more = said_pass origins ss k.1 in (
          λ q. ((q.0.0, (one_form f q.0.0 k.0).0 q.0.1, q.0.2), more.0 q.1),
          λ q. ((q.0.0, (one_form f q.0.0 k.0).1 q.0.1, q.0.2), more.1 q.1),
        )

    table_there : o.symbols owner ≡ table_of y
    table_there = ap symbols_at at_y

    context_there : (index : ℕ) (x : LaidOutStatement) → slice_get y.laid index ≡ Some x → o.contexts owner index ≡ x.context
    context_there index x e = ap (λ r. context_in r index) at_y ∙ ap (context_or (global_context y)) e

    lines_agree : AllByRecursion (SatisfiesAssertion p) (module_statements_after owner [] y.laid) ↔ AllByRecursion (IsPassed o owner) (all_declarations cs)
    lines_agree =
        lines_pass p o (sources_law s placement ys ms h) owner y.laid context_there [] y.laid [] cs refl
        (subst (λ z. AreStated z [] y.laid cs) (sym table_there) (are_stated y cs found))

  one_source : (owner : ℕ) (y : Layout) (m : Module) → slice_get ys owner ≡ Some y → slice_get ms owner ≡ Some m → IsObjectOfLayout y m → AllByRecursion Passing (map (linked.linked_assertion owner) m.object.asserts) ↔ AllByRecursion (SatisfiesAssertion p) (module_statements_after owner [] y.laid)
  one_source owner y m at_y at_m source =
      let c : HasContents y m = contents_of y m source in
      let cs : List Content = c.contents in
      let z : Symbols = table_of y in
      let keyed = keyed_said (section_keys cs) (import_keys z.imports cs) (length z.imports) cs (keyed_law y cs source.well_formed_layout c.found) in
      let said = said_pass owner y m cs at_y at_m c.found c.origins (all_declarations cs) keyed in
      let lines = lines_agree owner y m cs at_y at_m c.found in (
        λ k. lines.1 (said.0 (subst (λ (x : Object). AllByRecursion Passing (map (linked.linked_assertion owner) x.asserts)) c.object k)),
        λ k. subst (λ (x : Object). AllByRecursion Passing (map (linked.linked_assertion owner) x.asserts)) (sym c.object) (said.1 (lines.0 k)),
      )

  -- ---- Induction on the modules.

  all_sources : (rest : List Layout) (ns : List Module) (owner : ℕ) → AreObjectsOfLayouts rest ns → ((i : ℕ) → slice_get rest i ≡ slice_get ys (owner + i)) → ((i : ℕ) → slice_get ns i ≡ slice_get ms (owner + i)) → AllByRecursion Passing (linked_asserts owner ns) ↔ PassAssertions p owner rest
  all_sources [] [] owner k up_y up_m = (λ q. tt, λ q. tt)
  all_sources [] (m ∷ ns) owner k up_y up_m = absurd k
  all_sources (y ∷ rest) [] owner k up_y up_m = absurd k
  all_sources (y ∷ rest) (m ∷ ns) owner k up_y up_m =
      let here : owner + 0 ≡ owner = omega arith in
      let at_y : slice_get ys owner ≡ Some y = ap (slice_get ys) (sym here) ∙ sym (up_y 0) in
      let at_m : slice_get ms owner ≡ Some m = ap (slice_get ms) (sym here) ∙ sym (up_m 0) in
      let next : (i : ℕ) → owner + suc i ≡ suc owner + i = λ i. omega arith in
      let first : List LinkedAssertion = map (linked.linked_assertion owner) m.object.asserts in
      let others : List LinkedAssertion = linked_asserts (suc owner) ns in
      let one = one_source owner y m at_y at_m k.0 in
      let more = all_sources rest ns (suc owner) k.1 (λ i. up_y (suc i) ∙ ap (slice_get ys) (next i)) (λ i. up_m (suc i) ∙ ap (slice_get ms) (next i)) in (
        λ q. (let both = all_parts Passing first others q in (one.0 both.0, more.0 both.1)),
        λ q. all_append Passing first others (one.1 q.0) (more.1 q.1),
      )

-- `check_asserts` returns a text of warnings if and only if all assertions of the modules pass in the whole program
pub assertions_law : (s : Script) (placement : Placement) (ys : List Layout) (ms : List Module) (table : List (Result ℤ ValueFault)) → let q : linked.Program = linked.program_of ms in let l : Linkage = linkage_of s q placement in AreObjectsOfLayouts ys ms → AreExports l table → ((warnings : List ℕ) × (check_asserts l q.members (table_exports table) q.asserts ≡ Ok warnings)) ↔ PassAssertions (placed_program s placement ys) 0 ys
assertions_law s placement ys ms table h exports =
    let q : linked.Program = linked.program_of ms in
    let l : Linkage = linkage_of s q placement in
    let zero_first : (n : ℕ) → n ≡ 0 + n = λ n. omega arith in
    let told = asserts_told l q.members (table_exports table) q.asserts in
    let sources = all_sources s placement ys ms table h exports ys ms 0 h (λ i. ap (slice_get ys) (zero_first i)) (λ i. ap (slice_get ms) (zero_first i)) in (
      λ k. sources.0 (subst (AllByRecursion (Succeeds l q.members (table_exports table))) (asserts_are ms) (told.0 k)),
      λ k. told.1 (subst (AllByRecursion (Succeeds l q.members (table_exports table))) (sym (asserts_are ms)) (sources.1 k)),
    )
