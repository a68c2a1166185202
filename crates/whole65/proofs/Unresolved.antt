-- If a link leaves no name unresolved, the whole program provides the script's imports and the forced imports; conversely,
-- none is unresolved if these are provided and all rows, exports and assertions have values.
use Rattle.std.proofs.lemmas.Grind.{common_steps}
use Rattle.std.proofs.Common.{◌≡◌, ℕ, suc, Bool, true, false, nat_eq, cond, List, [], ◌∷◌, ◌++◌, length, map, filter, slice_get, Option, Some, None, Ok, refl, sym, ◌∙◌, ap, subst, zero, ◌+◌, ◌<◌, arith}
use Rattle.std.specs.Prelude.{⊤, ℤ, unwrap_or}
use Rattle.std.specs.List.{AllByRecursion, flat_map, list_any}
use Rattle.std.proofs.lemmas.List.{append_assoc}
use Rattle.syntax65.specs.Trees as tree
use Rattle.object65.specs.Form.{Form}
use Rattle.script65.specs.declared.placement.Placement.{Placement}
use Rattle.script65.specs.declared.script.Script.{Script}
use Rattle.semantics65.specs.Contents.{Content, Part, Known, ReservedBytes, LinkTimeValue, Declaration, ExportedSymbol, ForcedImport, LinkAssertion, exported_names}
use Rattle.semantics65.specs.Symbols.{LaidOutStatement, needs_section, Symbols, definition_index, named}
use Rattle.semantics65.specs.Layout.{Layout}
use Rattle.semantics65.specs.Norms.{defined_form, norm}
use Rattle.semantics65.specs.Numbering.{all_declarations, imports_in, name_of, optional_key, key_of, parts_in, segment_requests, section_keys}
use Rattle.link65.specs.Programs.{Module}
use Rattle.link65.specs.declared.parts.ValueFault.{ValueFault}
use Rattle.link65.specs.declared.parts.ValueFault.TheVariants.{NoValue}
use Rattle.sources65.proofs.SoundForms.{all_append}
use Rattle.semantics65.specs.Module.{module_resolution}
use Rattle.whole65.proofs.Exports.{IsAsserted, all_demanded, demanded_names, one_tells, IsDefined, said_all}
use Rattle.whole65.proofs.Links.{valued_imports_law}
use Rattle.whole65.proofs.Providers.{global_form, past_all, sources_law}
use Rattle.whole65.proofs.Imports.{OfKey, OfPart, OfSaid, at_key, imports_hold, key_for, no_key, forced_hold, none_open}
use Rattle.whole65.proofs.SectionBases.{or_right, one_of}
use Rattle.whole65.proofs.Sections.{any_once, asked_are, held, keys_of}
use Rattle.whole65.proofs.SameValues.{same_values_law}
use Rattle.whole65.proofs.Rows.{any_new, any_map, names_asked, bytes_split}
use Rattle.whole65.proofs.SectionBytes.{in_middle, section_law}
use Rattle.whole65.proofs.Statements.{AreStated, Stated, a_line, all_put, are_stated, no_line, parts_append, put_append, quiet_parts, said_append, stated}
use Rattle.whole65.proofs.Sources.{contents_of, begin_is_multiple, whole_part}
use Rattle.whole65.proofs.LinkedObjects.{linked_objects, context_in, symbols_at, AreParts}
use Rattle.whole65.specs.Modules.{exports_of, forced_imports_of, global_context, context_or, table_of}
use Rattle.whole65.specs.Objects.{IsLinkerView, HasNoValue, HasValue, HasProviderValue, LinkerView}
use Rattle.whole65.specs.Objects as objects
use Rattle.whole65.specs.Programs as whole
use Rattle.whole65.specs.Programs.{statement_count, placed_program}
use Rattle.whole65.specs.Segments.{module_statement, module_statements_after, ModuleStatement, requested_segments, end_of, has_section, segment_items_from, segment_items, largest_multiple, statement_item, need_of, needs_of, module_items, rounding, segment_name_at, segments_of}
use Rattle.whole65.specs.Sources.{AreObjectsOfLayouts, IsObjectOfLayout}
use Rattle.whole65.specs.Values.{Program, by_nobody}
use Rattle.whole65.specs.Whole.{SatisfiesAssertion, HasExportValue, IsProvided, PassAssertions, HaveExportValues, HaveForcedImports, EncodesRow}
use Rattle.std.specs.Int.{next_multiple_of}
use Rattle.std.specs.Str.{bytes_eq}
use Rattle.std.proofs.lemmas.List.Folds.{list_any-append}
use Rattle.script65.proofs.DisjointRows.{rows_there}
use Rattle.script65.specs.Placing.{has_row, place_of}
use Rattle.script65.specs.declared.placement.SegmentNeed.{SegmentNeed}
use Rattle.script65.specs.declared.script.SegmentRow.{SegmentRow}
use Rattle.ast65.proofs.Lists.{same_bytes}
use Rattle.link65.specs.Files.{RowBytes}
use Rattle.whole65.proofs.Positions.{itself, all_parts, alike}
use Rattle.whole65.specs.Contents.{EncodesSegmentItems}
use Rattle.whole65.specs.Offsets.{statements_with_segment}
use Rattle.link65.specs.Programs as linked
use Rattle.link65.specs.Names.{unresolved_names, symbol_imports}

-- ---- Statements that need no section have no parts.

-- the parts in each requested section satisfy the predicate
module _ (P : Part → Type 0) where
  abbrev pub Asked : List Content → Type 0
  Asked cs = (g : ℕ) → list_any (nat_eq g) (segment_requests cs) ≡ true → AllByRecursion P (parts_in cs g)

  -- the parts in each segment in which these statements request a section satisfy the predicate
  abbrev AskedBy : List LaidOutStatement → List Content → Type 0
  AskedBy ls cs = (g : ℕ) → list_any (nat_eq g) (map (λ l. l.context.segment) (filter (λ l. needs_section l.stated) ls)) ≡ true → AllByRecursion P (parts_in cs g)

  lines_put : (z : Symbols) (names : List (List ℕ)) (ls : List LaidOutStatement) (cs : List Content) → AreStated z names ls cs → AskedBy ls cs → AllByRecursion P (all_put cs)
  lines_put z names [] _ no_line up = tt
  lines_put z names (l ∷ ls) _ (a_line ds cs found more) up =
      let one = stated z names l ds found in
      let both = λ (g : ℕ) (e : list_any (nat_eq g) (map (λ (x : LaidOutStatement). x.context.segment) (cond (needs_section l.stated) (l ∷ asking) asking)) ≡ true). all_parts P (parts_in ds g) (parts_in cs g) (subst (AllByRecursion P) (parts_append g ds cs) (up g e)) in
      let own : AllByRecursion P (all_put one.own) = here one (needs_section l.stated) refl (λ g e. (both g e).0) in
      subst (AllByRecursion P) (sym (put_append ds cs)) (all_append P (all_put ds) (all_put cs) (subst (AllByRecursion P) (sym one.put) own) (lines_put z (names ++ exported_names (all_declarations ds)) ls cs more (λ g e. (both g (wider g (needs_section l.stated) e)).1)))
    where
      asking : List LaidOutStatement
      asking = filter (λ (x : LaidOutStatement). needs_section x.stated) ls

      wider : (g : ℕ) (b : Bool) → list_any (nat_eq g) (map (λ (x : LaidOutStatement). x.context.segment) asking) ≡ true → list_any (nat_eq g) (map (λ (x : LaidOutStatement). x.context.segment) (cond b (l ∷ asking) asking)) ≡ true
      wider g x1 e = grind (arith, common_steps, or_right)

      here : (one : Stated z names l ds) (b : Bool) → needs_section l.stated ≡ b → ((g : ℕ) → list_any (nat_eq g) (map (λ (x : LaidOutStatement). x.context.segment) (cond b (l ∷ asking) asking)) ≡ true → AllByRecursion P (parts_in ds g)) → AllByRecursion P (all_put one.own)
      here one x1 e first = grind (arith, common_steps, (quiet_parts l.length l.encoding l.stated one.pieces), (first l.context.segment))

  each_put : (cs : List Content) → AllByRecursion P (all_put cs) → AllByRecursion (λ (c : Content). AllByRecursion P c.parts) cs
  each_put [] h = tt
  each_put (c ∷ cs) h = (let both = all_parts P c.parts (all_put cs) h in (both.0, each_put cs both.1))

  parts_asked : (y : Layout) (cs : List Content) → (module_resolution y.laid).found ≡ Ok cs → Asked cs → AllByRecursion (λ (c : Content). AllByRecursion P c.parts) cs
  parts_asked y cs e up = each_put cs (lines_put (table_of y) [] y.laid cs (are_stated y cs e) (λ g h. up g (ap (list_any (nat_eq g)) (asked_are y cs e) ∙ h)))

-- ---- One module.

module _ (s : Script) (placement : Placement) (ys : List Layout) (ms : List Module) (h : AreObjectsOfLayouts ys ms) (owner : ℕ) (y : Layout) (at_y : slice_get ys owner ≡ Some y) where
  abbrev p : Program
  p = whole.placed_program s placement ys

  abbrev o : LinkerView ValueFault
  o = linked_objects s placement ys ms

  abbrev z : Symbols
  z = table_of y

  abbrev HasSome : Form → Type 0
  HasSome f = (v : ℤ) × HasValue o owner f v

  abbrev pub IsValuedPart : Part → Type 0
  IsValuedPart (Known own) = ⊤
  IsValuedPart (ReservedBytes n) = ⊤
  IsValuedPart (LinkTimeValue width place f) = HasSome f

  abbrev IsValuedExport : Declaration → Type 0
  IsValuedExport (ExportedSymbol n place f) = HasSome f
  IsValuedExport (ForcedImport n) = ⊤
  IsValuedExport (LinkAssertion act place words f) = ⊤

  abbrev IsValuedCheck : Declaration → Type 0
  IsValuedCheck (ExportedSymbol n place f) = ⊤
  IsValuedCheck (ForcedImport n) = ⊤
  IsValuedCheck (LinkAssertion act place words f) = HasSome f

  -- an import that has a value has a name that is provided
  one_given : (export_depth k : ℕ) (w : ℤ) → o.imports export_depth owner k ≡ Ok w → OfKey (IsProvided p) z.imports k
  one_given export_depth k w e = by (slice_get z.imports k) refl (subst (λ r. objects.ImportHasValue p o owner k (slice_get (symbols_at r).imports k)) at_y ((sources_law s placement ys ms h).imports_agree owner k))
    where
      by : (r : Option (List ℕ)) → slice_get z.imports k ≡ r → objects.ImportHasValue p o owner k r → IsProvided p (name_of z.imports k)
      by None q given = absurd (given export_depth w e)
      by (Some x) q given = λ none.
          let called : p.provider x ≡ by_nobody = ap (λ r. p.provider (unwrap_or r [])) (sym q) ∙ none in
          let never : HasNoValue o owner k = subst (HasProviderValue p o owner k x) called given in
          never export_depth w e

  each_given : (export_depth : ℕ) (ks : List ℕ) → AllByRecursion (λ k. (w : ℤ) × (o.imports export_depth owner k ≡ Ok w)) ks → AllByRecursion (OfKey (IsProvided p) z.imports) ks
  each_given export_depth [] k = tt
  each_given export_depth (x ∷ ks) k = (one_given export_depth x k.0.0 k.0.1, each_given export_depth ks k.1)

  form_given : (f : Form) → HasSome f → AllByRecursion (OfKey (IsProvided p) z.imports) (imports_in f)
  form_given f (v, (export_depth, e)) = each_given export_depth (imports_in f) (valued_imports_law ValueFault NoValue (o.bases owner) (o.imports export_depth owner) f v e)

  part_given : (x : Part) → IsValuedPart x → OfPart (IsProvided p) z.imports x
  part_given x k = grind (arith, common_steps, form_given)

  parts_given : (xs : List Part) → AllByRecursion IsValuedPart xs → AllByRecursion (OfPart (IsProvided p) z.imports) xs
  parts_given [] k = tt
  parts_given (x ∷ xs) k = (part_given x k.0, parts_given xs k.1)

  all_parts_given : (cs : List Content) → AllByRecursion (λ (c : Content). AllByRecursion IsValuedPart c.parts) cs → AllByRecursion (λ (c : Content). AllByRecursion (OfPart (IsProvided p) z.imports) c.parts) cs
  all_parts_given [] k = tt
  all_parts_given (c ∷ cs) k = (parts_given c.parts k.0, all_parts_given cs k.1)

  demand_given : (n : List ℕ) → IsProvided p n → AllByRecursion (OfKey (IsProvided p) z.imports) (optional_key (key_of z.imports n))
  demand_given n k = grind (arith, common_steps, key_for, at_key, no_key)

  said_given : (ss : List Declaration) → AllByRecursion (IsProvided p) (demanded_names ss) → AllByRecursion IsValuedExport ss → AllByRecursion IsValuedCheck ss → AllByRecursion (OfSaid (IsProvided p) z.imports) ss
  said_given [] d e a = tt
  said_given (x1 ∷ ss) d e a = grind (arith, common_steps, form_given, demand_given, (said_given ss))

  -- ---- Exports.

  export_valued : (n : List ℕ) (j : ℕ) (f : Form) → definition_index z (named 0 n) ≡ Some j → defined_form z j ≡ Ok f → HasExportValue p owner n → HasSome f
  export_valued n j f e normal has =
      let depth : ℕ = suc (suc (length z.definitions)) in
      let same : norm depth (o.symbols owner) (o.contexts owner (p.global_index owner)) (tree.name false (n ∷ [])) ≡ Ok f =
      ap (λ r. norm depth (symbols_at r) (context_in r (statement_count r)) (tree.name false (n ∷ []))) at_y
      ∙ ap (λ r. norm depth z (context_or (global_context y) r) (tree.name false (n ∷ []))) (past_all y.laid)
      ∙ global_form y n j f e normal in
      (has.0, (same_values_law ValueFault p o (sources_law s placement ys ms h) depth owner (p.global_index owner) (tree.name false (n ∷ [])) f has.0 same).0 has.1)

  exports_valued : (ss : List Declaration) → AllByRecursion (IsDefined z) ss → AllByRecursion (HasExportValue p owner) (exported_names ss) → AllByRecursion IsValuedExport ss
  exports_valued [] d e = tt
  exports_valued (x1 ∷ ss) d e = grind (arith, common_steps, export_valued, (exports_valued ss))

  -- ---- Assertions.

  check_valued : (before : List LaidOutStatement) (l : LaidOutStatement) (x : Declaration) → o.contexts owner (length before) ≡ l.context → SatisfiesAssertion p (module_statement owner before l) → IsAsserted z l x → IsValuedCheck x
  check_valued before l (LinkAssertion act place words f) context has (e, stated, normal) =
      let same = same_values_law ValueFault p o (sources_law s placement ys ms h) (suc (length z.definitions)) owner (length before) e f in
      grind (arith, common_steps)
  check_valued before l _ context has k = tt

  line_valued : (before : List LaidOutStatement) (l : LaidOutStatement) (ss : List Declaration) → o.contexts owner (length before) ≡ l.context → SatisfiesAssertion p (module_statement owner before l) → AllByRecursion (IsAsserted z l) ss → AllByRecursion IsValuedCheck ss
  line_valued before l [] context has k = tt
  line_valued before l (x ∷ ss) context has k = (check_valued before l x context has k.0, line_valued before l ss context has k.1)

  checks_valued : (before ls : List LaidOutStatement) (names : List (List ℕ)) (cs : List Content) → before ++ ls ≡ y.laid → AreStated z names ls cs → AllByRecursion (SatisfiesAssertion p) (module_statements_after owner before ls) → AllByRecursion IsValuedCheck (all_declarations cs)
  checks_valued before [] names _ w no_line has = tt
  checks_valued before (l ∷ ls) names _ w (a_line ds cs found more) has =
      let next : (before ++ l ∷ []) ++ ls ≡ y.laid = append_assoc before (l ∷ []) ls ∙ w in
      let there : slice_get y.laid (length before) ≡ Some l = subst (λ k. slice_get k (length before) ≡ Some l) w (in_middle before l ls) in
      let context : o.contexts owner (length before) ≡ l.context = ap (λ r. context_in r (length before)) at_y ∙ ap (context_or (global_context y)) there in
      let tells = one_tells z names l (all_declarations ds) (stated z names l ds found).said in
      subst (AllByRecursion IsValuedCheck) (sym (said_append ds cs))
      (all_append IsValuedCheck (all_declarations ds) (all_declarations cs) (line_valued before l (all_declarations ds) context has.0 tells.asserted) (checks_valued (before ++ l ∷ []) ls (names ++ exported_names (all_declarations ds)) cs next more has.1))

  -- ---- All imports of the object.

  pub module_given : (m : Module) (source : IsObjectOfLayout y m) → AllByRecursion (IsProvided p) (forced_imports_of y) → AllByRecursion (HasExportValue p owner) (exports_of y) → AllByRecursion (SatisfiesAssertion p) (module_statements_after owner [] y.laid) → Asked IsValuedPart (contents_of y m source).contents → AllByRecursion (IsProvided p) m.object.imports
  module_given m source given exported asserted asked =
      let c = contents_of y m source in
      let cs : List Content = c.contents in
      let says = said_all y cs c.found in
      let names : AllByRecursion (HasExportValue p owner) (exported_names (all_declarations cs)) = subst (AllByRecursion (HasExportValue p owner)) says.exported exported in
      let demands : AllByRecursion (IsProvided p) (demanded_names (all_declarations cs)) = subst (AllByRecursion (IsProvided p)) (sym (all_demanded y cs c.found)) given in
      imports_hold (IsProvided p) y m source
      (all_parts_given cs (parts_asked IsValuedPart y cs c.found asked))
      (said_given (all_declarations cs) demands (exports_valued (all_declarations cs) says.are_defined names) (checks_valued [] y.laid [] cs refl (are_stated y cs c.found) asserted))

-- ---- From the link to the whole program.

forced_all : (p : Program) (ys : List Layout) (ms : List Module) → AreObjectsOfLayouts ys ms → AllByRecursion (IsProvided p) (flat_map (λ (m : Module). m.object.imports) ms) → HaveForcedImports p ys
forced_all p [] [] h k = tt
forced_all p (y ∷ ys) (m ∷ ms) h k =
    let both = all_parts (IsProvided p) m.object.imports (flat_map (λ (m : Module). m.object.imports) ms) k in
    (forced_hold (IsProvided p) y m h.0 both.0, forced_all p ys ms h.1 both.1)
forced_all p _ _ h k = absurd h

-- if a link leaves no name unresolved, the whole program provides the script's imports and the modules' forced imports
pub given_law : (s : Script) (placement : Placement) (ys : List Layout) (ms : List Module) → let p : Program = placed_program s placement ys in AreObjectsOfLayouts ys ms → place_of s (needs_of ys) ≡ Ok placement → unresolved_names s (linked.program_of ms) ≡ [] → AllByRecursion (IsProvided p) (symbol_imports s.symbols) × HaveForcedImports p ys
given_law s placement ys ms h placed none = grind (arith, common_steps, none_open, forced_all)

-- ---- A segment with a section has a row.

row_exists : (rows : List SegmentRow) (ys : List Layout) (names : List (List ℕ)) (name : List ℕ) → AllByRecursion (λ (n : SegmentNeed). has_row rows n.name ≡ true) (map (need_of ys) names) → list_any (λ k. bytes_eq name k) names ≡ true → has_row rows name ≡ true
row_exists rows ys [] name h e = absurd cc
row_exists rows ys (n ∷ names) name h e = grind (arith, common_steps, (row_exists rows ys names name h.1), same_bytes)

any_at : (name : List ℕ) (ys : List Layout) (i : ℕ) (y : Layout) → slice_get ys i ≡ Some y → list_any (λ k. bytes_eq name k) (requested_segments y) ≡ true → list_any (λ k. bytes_eq name k) (flat_map requested_segments ys) ≡ true
any_at name [] i y at e = absurd cc
any_at name (x ∷ ys) zero y at e = grind (arith, common_steps, list_any-append)
any_at name (x ∷ ys) (suc i) y at e = grind (arith, common_steps, (any_at name ys i y at e), list_any-append)

-- if the rows contain one with this name and all satisfy the predicate, that row does
row_of : (P : SegmentRow → Type 0) (rows : List SegmentRow) (name : List ℕ) → AllByRecursion P rows → has_row rows name ≡ true → (r : SegmentRow) × P r × (r.name ≡ name)
unfolding has_row
row_of P [] name h e = absurd cc
row_of P (r ∷ rows) name h e = grind (arith, common_steps, (row_of P rows name h.1), same_bytes)

-- ---- A module's part of a segment's bytes.

part_bytes : (p : Program) (fill : ℕ) (name : List ℕ) (rest : List Layout) (owner position i : ℕ) (bytes : List ℕ) (y : Layout) → slice_get rest i ≡ Some y → EncodesSegmentItems p fill position (segment_items_from owner rest name) bytes → (begin : ℕ) × (own : List ℕ) × EncodesSegmentItems p fill begin (module_items (owner + i) y name) own
part_bytes p fill name [] owner position i bytes y e h = absurd cc
part_bytes p fill name (x ∷ rest) owner position zero bytes y e h =
    let (own, others, first, more, all) = bytes_split p fill position (module_items owner x name) (segment_items_from (suc owner) rest name) bytes h in
    (position, own, grind (arith, common_steps))
part_bytes p fill name (x ∷ rest) owner position (suc i) bytes y e h =
    let (own, others, first, more, all) = bytes_split p fill position (module_items owner x name) (segment_items_from (suc owner) rest name) bytes h in
    let (begin, mine, there) = part_bytes p fill name rest (suc owner) (end_of position (module_items owner x name)) i others y e more in
    (begin, mine, grind (arith, common_steps))

-- ---- From the whole program to the link.

module _ (s : Script) (placement : Placement) (ys : List Layout) (ms : List Module) (bytes : RowBytes) (h : AreObjectsOfLayouts ys ms) (placed : place_of s (needs_of ys) ≡ Ok placement) (rows : AllByRecursion (EncodesRow (whole.placed_program s placement ys) ys bytes) s.rows) where
  abbrev whole_program : Program
  whole_program = whole.placed_program s placement ys

  abbrev linked_ones : LinkerView ValueFault
  linked_ones = linked_objects s placement ys ms

  parts_valued : (owner : ℕ) (y : Layout) (at_y : slice_get ys owner ≡ Some y) (fill : ℕ) (xs : List Part) (own : List ℕ) → AreParts (HasValue linked_ones owner) fill xs own → AllByRecursion (IsValuedPart s placement ys ms h owner y at_y) xs
  parts_valued owner y at_y fill [] own k = tt
  parts_valued owner y at_y fill (Known b ∷ xs) own k = (tt, parts_valued owner y at_y fill xs k.1 k.3)
  parts_valued owner y at_y fill (ReservedBytes n ∷ xs) own k = (tt, parts_valued owner y at_y fill xs k.1 k.3)
  parts_valued owner y at_y fill (LinkTimeValue width place f ∷ xs) own k = ((k.2.0, k.2.1), parts_valued owner y at_y fill xs k.1 k.3)

  asked_valued : (owner : ℕ) (y : Layout) (at_y : slice_get ys owner ≡ Some y) (m : Module) (source : IsObjectOfLayout y m) → Asked (IsValuedPart s placement ys ms h owner y at_y) (contents_of y m source).contents
  asked_valued owner y at_y m source g asked =
      let c = contents_of y m source in
      let cs : List Content = c.contents in
      let d = source.no_line_errors in
      let keys = keys_of y cs d c.found in
      let name : List ℕ = segment_name_at y g in
      let key : list_any (nat_eq g) (section_keys cs) ≡ true = any_once (nat_eq g) [] (segment_requests cs) ∙ asked in
      let below : g < length y.cursor.segments = one_of (λ k. k < length y.cursor.segments) (section_keys cs) g keys.standing key in
      let has : has_section y name ≡ true = keys.has name ∙ held (λ k. bytes_eq (segment_name_at y k) name) g (section_keys cs) key (itself name) in
      let asking : List LaidOutStatement = filter (λ (l : LaidOutStatement). needs_section l.stated) y.laid in
      let shown : list_any (nat_eq g) (map (λ (l : LaidOutStatement). l.context.segment) asking) ≡ true = ap (list_any (nat_eq g)) (sym (asked_are y cs c.found)) ∙ asked in
      let by_name : list_any (λ k. bytes_eq name k) (requested_segments y) ≡ true = grind (arith, common_steps, (names_asked y asking), any_map, (held (λ k. bytes_eq name (segment_name_at y k)) g (map (λ (l : LaidOutStatement). l.context.segment) asking) shown (itself name))) in
      let needed : list_any (λ k. bytes_eq name k) (segments_of ys) ≡ true = any_new name (flat_map requested_segments ys) [] ∙ any_at name ys owner y at_y by_name in
      let (r, row, called) = row_of (EncodesRow whole_program ys bytes) s.rows name rows (row_exists s.rows ys (segments_of ys) name (rows_there s (needs_of ys) placement placed) needed) in
      let all : EncodesSegmentItems whole_program r.fill_value 0 (segment_items ys name) (bytes r) = subst (λ n. EncodesSegmentItems whole_program r.fill_value 0 (segment_items ys n) (bytes r)) called row in
      let (position, own, part) = part_bytes whole_program r.fill_value name ys 0 0 owner (bytes r) y at_y all in
      let first : 0 + owner ≡ owner = omega arith in
      let lines : List ModuleStatement = statements_with_segment g (module_statements_after owner [] y.laid) in
      let begin : ℕ = next_multiple_of position (largest_multiple lines) in
      let mine : EncodesSegmentItems whole_program r.fill_value position (rounding (largest_multiple lines) ∷ map statement_item lines) own =
      subst (λ xs. EncodesSegmentItems whole_program r.fill_value position xs own) (whole_part y owner g name d below refl has) (subst (λ n. EncodesSegmentItems whole_program r.fill_value position (module_items n y name) own) first part) in
      let contexts : (index : ℕ) (x : LaidOutStatement) → slice_get y.laid index ≡ Some x → linked_ones.contexts owner index ≡ x.context = λ index x e. ap (λ r. context_in r index) at_y ∙ ap (context_or (global_context y)) e in
      let parts : AreParts (HasValue linked_ones owner) r.fill_value (parts_in cs g) mine.1 = (section_law ValueFault whole_program linked_ones r.fill_value begin owner g y cs mine.1 (sources_law s placement ys ms h) (ap symbols_at at_y) contexts d (begin_is_multiple y owner g position d) c.found).0 mine.3 in
      parts_valued owner y at_y r.fill_value (parts_in cs g) mine.1 parts

  modules_given : (rest : List Layout) (ns : List Module) (owner : ℕ) → AreObjectsOfLayouts rest ns → ((i : ℕ) → slice_get rest i ≡ slice_get ys (owner + i)) → HaveForcedImports whole_program rest → HaveExportValues whole_program owner rest → PassAssertions whole_program owner rest → AllByRecursion (IsProvided whole_program) (flat_map (λ (m : Module). m.object.imports) ns)
  modules_given [] [] owner k up forced exported asserted = tt
  modules_given [] (m ∷ ns) owner k up forced exported asserted = absurd k
  modules_given (y ∷ rest) [] owner k up forced exported asserted = absurd k
  modules_given (y ∷ rest) (m ∷ ns) owner k up forced exported asserted =
      let here : owner + 0 ≡ owner = omega arith in
      let at_y : slice_get ys owner ≡ Some y = ap (slice_get ys) (sym here) ∙ sym (up 0) in
      let next : (i : ℕ) → owner + suc i ≡ suc owner + i = λ i. omega arith in
      all_append (IsProvided whole_program) m.object.imports (flat_map (λ (m : Module). m.object.imports) ns)
      (module_given s placement ys ms h owner y at_y m k.0 forced.0 exported.0 asserted.0 (asked_valued owner y at_y m k.0))
      (modules_given rest ns (suc owner) k.1 (λ i. up (suc i) ∙ ap (slice_get ys) (next i)) forced.1 exported.1 asserted.1)

-- A link leaves no name unresolved if the whole program provides the script's imports and the forced imports, and all rows,
-- exports and assertions have values.
pub resolved_law : (s : Script) (placement : Placement) (ys : List Layout) (ms : List Module) (bytes : RowBytes) → let p : Program = placed_program s placement ys in AreObjectsOfLayouts ys ms → place_of s (needs_of ys) ≡ Ok placement → AllByRecursion (IsProvided p) (symbol_imports s.symbols) → HaveForcedImports p ys → HaveExportValues p 0 ys → PassAssertions p 0 ys → AllByRecursion (EncodesRow p ys bytes) s.rows → unresolved_names s (linked.program_of ms) ≡ []
resolved_law s placement ys ms bytes h placed own forced exported asserted rows = grind (arith, common_steps, none_open, modules_given)
