-- The errors of statements are never failures of the store.
use Rattle.std.proofs.Common.{◌≡◌, ℕ, zero, suc, ℤ, pos, Bool, true, false, refl, List, [], ◌∷◌, ◌+◌, length, take, Option, Some, None, slice_get}
use Rattle.std.specs.Prelude.{Result, Ok, Err, IfErr, ◌-◌, nat_le, nat_lt, ◌&&◌, if◌then◌else◌}
use Rattle.base65.specs.Outcome.{◌>>=◌, Refines, Unless}
use Rattle.syntax65.specs.Trees.{Tree, number, here, name, cheap, forward, backward, unary, binary}
use Rattle.syntax65.specs.declared.lexing.tokens.AddressSize.{AddressSize}
use Rattle.syntax65.specs.declared.source_location.SourceLocation.{SourceLocation}
use Rattle.syntax65.specs.declared.fault.ExpandFault.TheVariants as expand
use Rattle.object65.specs.Form.{Form, lit, sec, imp, prefix as prefix_form, binary as binary_form}
use Rattle.object65.specs.Folding.{fold1, fold2}
use Rattle.object65.specs.Objects.{fits_width, is_file_name, section_limit, value_bytes}
use Rattle.object65.specs.declared.folding.FormFault.{FormFault}
use Rattle.object65.specs.declared.folding.FormFault.TheVariants as form
use Rattle.base65.specs.declared.action.Action.{Action}
use Rattle.base65.specs.declared.action.Action.TheVariants as action
use Rattle.base65.specs.declared.width.Width.{Width}
use Rattle.base65.specs.declared.width.Width.TheVariants as width
use Rattle.semantics65.specs.Contents.{Part, Known, LinkTimeValue, Declaration, ExportedSymbol, LinkAssertion, decided_assertion, export_declarations, import_fault, operand_form, value_part, with_file_name_check}
use Rattle.semantics65.specs.declared.contents.Segment.{Segment}
use Rattle.ast65.specs.declared.fault.AsmFault.{AsmFault}
use Rattle.ast65.specs.declared.fault.AsmFault.TheVariants.{Expansion, FileError, FileNameTooLong, NotUnderstood, OutOfRange, SectionTooLarge, Undefined, NoSuchScope, NoSuchLabel}
use Rattle.ast65.specs.Faults.{is_failure, is_out_of_memory}
use Rattle.semantics65.specs.declared.contexts.Context.{Context}
use Rattle.ast65.specs.declared.language.Statement.{Statement}
use Rattle.ast65.specs.declared.language.Statement.TheVariants as statement
use Rattle.semantics65.specs.Layout.{Cursor, own_size, segment_index, context_of, unless_fault}
use Rattle.semantics65.specs.Layout as faults
use Rattle.semantics65.specs.Symbols.{Binding, defined_at, imported_as, first_found, last_of, binding_of, member_binding, binding_or_fault, scope_from, scopes_from, scope_path, display_name, unnamed_binding, Definition, Key, Scope, Symbols, cheap_in, definition_index, import_index, key_defined, named, unnamed_at}
use Rattle.semantics65.specs.Norms.{constant_in, defined_form, fold_result, form_by, form_of_definition, form_of_binding, form_of_value, norm, norm_of, length_of}
use Rattle.semantics65.specs.Module as piece
use Rattle.semantics65.specs.Module.{PieceResult, Piece, Purpose, undefined_export_result, part_result, declarations_result, piece_result, is_repeated, unrepeated_result, value_result}
use Rattle.symbols65.specs.declared.measuring.StatementLayout.{StatementLayout}
use Rattle.symbols65.specs.Measuring.{layout_of_statement, layout_result, unread_fault}

abbrev pub IsInside : {A : Type 0} → Result A AsmFault → Type 0
IsInside r = IfErr r (λ e. is_failure e ≡ false)

inside_then : {A B : Type 0} (r : Result A AsmFault) (f : A → Result B AsmFault) → IsInside r → ((x : A) → IsInside (f x)) → IsInside (r >>= f)
inside_then (Ok x) f h k = k x
inside_then (Err e) f h k = h

-- ---- Forms.

inside_folded : (r : Result Form FormFault) → IsInside (fold_result r)
inside_folded (Ok f) = tt
inside_folded (Err form.OutOfMemory) = refl
inside_folded _ = refl

inside_form : (operand : Tree → Result Form AsmFault) (s : Context) → ((t : Tree) → IsInside (operand t)) → (e : Tree) → IsInside (form_by operand s e)
inside_form operand s h (number v) = tt
inside_form operand s h here = tt
inside_form operand s h (name global parts) = h (name global parts)
inside_form operand s h (cheap n) = h (cheap n)
inside_form operand s h (forward n) = h (forward n)
inside_form operand s h (backward n) = h (backward n)
inside_form operand s h (unary op e) = inside_then (form_by operand s e) (λ f. fold_result (fold1 op f)) (inside_form operand s h e) (λ f. inside_folded (fold1 op f))
inside_form operand s h (binary op e g) =
    inside_then (form_by operand s e) (λ f. form_by operand s g >>= (λ k. fold_result (fold2 op f k))) (inside_form operand s h e)
    (λ f. inside_then (form_by operand s g) (λ k. fold_result (fold2 op f k)) (inside_form operand s h g) (λ k. inside_folded (fold2 op f k)))

inside_value : (a : Context → Tree → Result Form AsmFault) → ((s : Context) (e : Tree) → IsInside (a s e)) → (s : Context) (v : Option Tree) → IsInside (form_of_value a s v)
inside_value a h s None = tt
inside_value a h s (Some e) = h s e

inside_definition : (a : Context → Tree → Result Form AsmFault) → ((s : Context) (e : Tree) → IsInside (a s e)) → (o : Option Definition) → IsInside (form_of_definition a o)
inside_definition a h None = refl
inside_definition a h (Some d) = inside_value a h d.context d.value

inside_meaning : (a : Context → Tree → Result Form AsmFault) (y : Symbols) → ((s : Context) (e : Tree) → IsInside (a s e)) → (m : Binding) → IsInside (form_of_binding a y m)
inside_meaning a y h (imported_as k) = tt
inside_meaning a y h (defined_at j) = inside_definition a h (slice_get y.definitions j)

-- ---- Names.

inside_found : (z : AsmFault) → is_failure z ≡ false → (o p : Option ℕ) → IsInside (binding_or_fault z o p)
inside_found z h (Some i) p = tt
inside_found z h None (Some k) = tt
inside_found z h None None = h

inside_member : (y : Symbols) (n : List ℕ) (absent lost : AsmFault) → is_failure absent ≡ false → is_failure lost ≡ false → (scope : Option ℕ) → IsInside (member_binding y n absent lost scope)
inside_member y n absent lost a b None = b
inside_member y n absent lost a b (Some zero) = inside_found absent a (definition_index y (named zero n)) (import_index y n)
inside_member y n absent lost a b (Some (suc i)) = inside_found absent a (definition_index y (named (suc i) n)) None

inside_back : (y : Symbols) (k n : ℕ) (b : Bool) → IsInside (if b then unnamed_binding y (k - n) else Err NoSuchLabel)
inside_back y k n true = inside_found NoSuchLabel refl (definition_index y (unnamed_at (k - n))) None
inside_back y k n false = refl

inside_operand : (y : Symbols) (s : Context) (e : Tree) → IsInside (binding_of y s e)
inside_operand y s (name false (n ∷ [])) = inside_found (Undefined n) refl (first_found (λ q. definition_index y (named q n)) (scopes_from y.scopes s.scope)) (import_index y n)
inside_operand y s (name false []) = inside_member y (last_of []) (Undefined (display_name false [])) (NoSuchScope (display_name false [])) refl refl (scope_from (take s.opened y.scopes) s.scope false (scope_path []))
inside_operand y s (name false (n ∷ m ∷ parts)) = inside_member y (last_of (n ∷ m ∷ parts)) (Undefined (display_name false (n ∷ m ∷ parts))) (NoSuchScope (display_name false (n ∷ m ∷ parts))) refl refl (scope_from (take s.opened y.scopes) s.scope false (scope_path (n ∷ m ∷ parts)))
inside_operand y s (name true parts) = inside_member y (last_of parts) (Undefined (display_name true parts)) (NoSuchScope (display_name true parts)) refl refl (scope_from (take s.opened y.scopes) s.scope true (scope_path parts))
inside_operand y s (cheap n) = inside_found (Undefined n) refl (definition_index y (cheap_in s.region n)) None
inside_operand y s (forward n) = inside_found NoSuchLabel refl (definition_index y (unnamed_at (s.unnamed + n - 1))) None
inside_operand y s (backward n) = inside_back y s.unnamed n (nat_le n s.unnamed)
inside_operand y s _ = refl

inside_norm : (n : ℕ) (y : Symbols) (s : Context) (e : Tree) → IsInside (norm n y s e)
inside_norm zero y s e = refl
inside_norm (suc n) y s e =
    inside_form (λ t. binding_of y s t >>= form_of_binding (norm n y) y) s
    (λ t. inside_then (binding_of y s t) (form_of_binding (norm n y) y) (inside_operand y s t) (inside_meaning (norm n y) y (inside_norm n y))) e

inside_norm_of : (y : Symbols) (s : Context) (e : Tree) → IsInside (norm_of y s e)
inside_norm_of y s e = inside_norm (suc (length y.definitions)) y s e

inside_defined : (y : Symbols) (j : ℕ) → IsInside (defined_form y j)
inside_defined y j = inside_meaning (norm_of y) y (inside_norm_of y) (defined_at j)

-- ---- Deferred pieces.

-- the only possible error is that the name of the file is too long
inside_written : {A : Type 0} (location : SourceLocation) (x : A) → IsInside (with_file_name_check location x)
inside_written {A} location x = by (is_file_name location.file)
  where
    by : (b : Bool) → IsInside (if b then Ok x else Err FileNameTooLong)
    by true = tt
    by false = refl

inside_stored : (w : Width) (location : SourceLocation) (f : Form) → IsInside (value_part w location f)
inside_stored w location (lit v) = by (fits_width w v)
  where
    by : (b : Bool) → IsInside (if b then Ok (Known (value_bytes w v)) else Err OutOfRange)
    by true = tt
    by false = refl
inside_stored w location (sec k v) = inside_written location (LinkTimeValue w location (sec k v))
inside_stored w location (imp k) = inside_written location (LinkTimeValue w location (imp k))
inside_stored w location (prefix_form op f) = inside_written location (LinkTimeValue w location (prefix_form op f))
inside_stored w location (binary_form op f g) = inside_written location (LinkTimeValue w location (binary_form op f g))

inside_branch : (w : Width) (s : Context) (f : Form) → IsInside (operand_form w s f)
inside_branch width.Branch s f = inside_folded _
inside_branch _ s f = tt

inside_part : (g : ℕ) (r : Result Part AsmFault) → IsInside r → IsInside (r >>= part_result g)
inside_part g (Ok p) h = tt
inside_part g (Err e) h = h

inside_said : (r : Result (List Declaration) AsmFault) → IsInside r → IsInside (r >>= declarations_result)
inside_said (Ok ss) h = tt
inside_said (Err e) h = h

inside_decided : (act : Action) (location : SourceLocation) (text : List ℕ) (f : Form) → IsInside (decided_assertion act location text f)
inside_decided action.Error location text (lit (pos zero)) = refl
inside_decided action.Error location text (lit (pos (suc n))) = tt
inside_decided action.Error location text (lit _) = tt
inside_decided action.Warning location text (lit v) = tt
inside_decided action.Error location text (sec k v) = inside_written location (LinkAssertion action.Error location text (sec k v) ∷ [])
inside_decided action.Error location text (imp k) = inside_written location (LinkAssertion action.Error location text (imp k) ∷ [])
inside_decided action.Error location text (prefix_form op f) = inside_written location (LinkAssertion action.Error location text (prefix_form op f) ∷ [])
inside_decided action.Error location text (binary_form op f g) = inside_written location (LinkAssertion action.Error location text (binary_form op f g) ∷ [])
inside_decided action.Warning location text (sec k v) = inside_written location (LinkAssertion action.Warning location text (sec k v) ∷ [])
inside_decided action.Warning location text (imp k) = inside_written location (LinkAssertion action.Warning location text (imp k) ∷ [])
inside_decided action.Warning location text (prefix_form op f) = inside_written location (LinkAssertion action.Warning location text (prefix_form op f) ∷ [])
inside_decided action.Warning location text (binary_form op f g) = inside_written location (LinkAssertion action.Warning location text (binary_form op f g) ∷ [])

inside_used : (location : SourceLocation) (s : Context) (why : Purpose) (f : Form) → IsInside (value_result location s why f)
inside_used location s (piece.datum w) f = inside_part s.segment (value_part w location f) (inside_stored w location f)
inside_used location s (piece.operand w) f =
    inside_part s.segment (operand_form w s f >>= value_part w location)
    (inside_then (operand_form w s f) (value_part w location) (inside_branch w s f) (inside_stored w location))
inside_used location s piece.constant_definition f = tt
inside_used location s (piece.asserted act text) f = inside_then (decided_assertion act location text f) _ (inside_decided act location text f) (λ ss. tt)

inside_import : (y : Symbols) (n : List ℕ) → IsInside (import_fault y n)
inside_import y n = by (definition_index y (named 0 n)) refl
  where
    by : (o : Option ℕ) → definition_index y (named 0 n) ≡ o → IsInside (import_fault y n)
    by None e = rw e tt
    by (Some j) e = rw e refl

inside_absent : (must : Bool) (n : List ℕ) → IsInside (undefined_export_result must n)
inside_absent true n = refl
inside_absent false n = tt

inside_export : (y : Symbols) (location : SourceLocation) (n : List ℕ) (must : Bool) (o : Option ℕ) → IsInside (export_declarations y location n (undefined_export_result must n) o)
inside_export y location n must None = inside_absent must n
inside_export y location n must (Some j) = inside_then (defined_form y j) _ (inside_defined y j) (λ f. inside_written location (ExportedSymbol n location f ∷ []))

inside_valued : (y : Symbols) (location : SourceLocation) (s : Context) (why : Purpose) (e : Tree) → IsInside (unrepeated_result y location s (piece.expression_value why e))
inside_valued y location s why e = inside_then (norm_of y s e) (value_result location s why) (inside_norm_of y s e) (inside_used location s why)

inside_made : (y : Symbols) (location : SourceLocation) (s : Context) (p : Piece) → IsInside (unrepeated_result y location s p)
inside_made y location s (piece.known_part p) = tt
inside_made y location s (piece.expression_value why e) = inside_valued y location s why e
inside_made y location s (piece.imported n) = inside_said (import_fault y n) (inside_import y n)
inside_made y location s (piece.forced_import n) = tt
inside_made y location s (piece.exported must n) = inside_said (export_declarations y location n (undefined_export_result must n) (definition_index y (named 0 n))) (inside_export y location n must (definition_index y (named 0 n)))

-- ---- Results of calls.

memory_inside : (e : AsmFault) → is_out_of_memory e ≡ true → is_failure e ≡ false
memory_inside (Expansion expand.FileError) h = absurd cc
memory_inside FileError h = absurd cc
memory_inside _ h = refl

-- the error of a call is that of the definition, unless memory ran out; so it is no failure of the store
pub inside_from : {X Y : Type 0} (r : Result X AsmFault) (view : X → Y) (read : Result Y AsmFault) → IsInside read → Refines is_out_of_memory view r read → IsInside r
inside_from {X} {Y} (Ok x) view read h k = tt
inside_from {X} {Y} (Err e) view read h k = go (is_out_of_memory e) refl k
  where
    go : (b : Bool) → is_out_of_memory e ≡ b → Unless b (read ≡ Err e) → is_failure e ≡ false
    go true m u = memory_inside e m
    go false m u = by read u h
      where
        by : (r : Result Y AsmFault) → r ≡ Err e → IsInside r → is_failure e ≡ false
        by (Ok x) same i = absurd cc
        by (Err f) same i = (let e' : f ≡ e = cc in rw e' at i)

inside_after : (y : Symbols) (names : List (List ℕ)) (location : SourceLocation) (s : Context) (p : Piece) → IsInside (piece_result y names location s p)
inside_after y names location s p = by (is_repeated names p)
  where
    by : (b : Bool) → IsInside (if b then declarations_result [] else unrepeated_result y location s p)
    by true = tt
    by false = inside_made y location s p

-- the result of a deferred piece is no failure of the store
pub resolved_inside : {X : Type 0} (r : Result X AsmFault) (view : X → PieceResult) (y : Symbols) (names : List (List ℕ)) (location : SourceLocation) (s : Context) (p : Piece) → Refines is_out_of_memory view r (piece_result y names location s p) → IsInside r
resolved_inside r view y names location s p h = inside_from r view (piece_result y names location s p) (inside_after y names location s p) h

-- ---- Errors at a line.

abbrev AreInsideFaults : Option AsmFault → Type 0
AreInsideFaults o = (e : AsmFault) → o ≡ Some e → is_failure e ≡ false

inside_first : (o : Option AsmFault) (os : List (Option AsmFault)) → AreInsideFaults o → AreInsideFaults (faults.first_fault os) → AreInsideFaults (faults.first_fault (o ∷ os))
inside_first None os h k = k
inside_first (Some e) os h k = h

no_fault : AreInsideFaults None
no_fault e h = absurd cc

one_fault : (e : AsmFault) → is_failure e ≡ false → AreInsideFaults (Some e)
one_fault e h d same = let e' : e ≡ d = cc in rw e' at h

inside_when : (b : Bool) (e : AsmFault) → is_failure e ≡ false → AreInsideFaults (faults.fault_if b e)
inside_when true e h = one_fault e h
inside_when false e h = no_fault

inside_unless : {A : Type 0} (o : Option A) (e : AsmFault) → is_failure e ≡ false → AreInsideFaults (faults.fault_if_none o e)
inside_unless None e h = one_fault e h
inside_unless (Some x) e h = no_fault

inside_where : {A : Type 0} (o : Option A) (e : AsmFault) → is_failure e ≡ false → AreInsideFaults (faults.fault_if_some o e)
inside_where None e h = no_fault
inside_where (Some x) e h = one_fault e h

inside_either : (o p : Option AsmFault) → AreInsideFaults o → AreInsideFaults p → AreInsideFaults (faults.or_then o p)
inside_either None p h k = k
inside_either (Some e) p h k = h

inside_lost : (cs : List Scope) (scope : ℕ) (e : Tree) → AreInsideFaults (faults.missing_scope_fault cs scope e)
inside_lost cs scope (name false (n ∷ [])) = no_fault
inside_lost cs scope (name false []) = inside_unless (scope_from cs scope false (scope_path [])) _ refl
inside_lost cs scope (name false (n ∷ m ∷ parts)) = inside_unless (scope_from cs scope false (scope_path (n ∷ m ∷ parts))) _ refl
inside_lost cs scope (name true parts) = inside_unless (scope_from cs scope true (scope_path parts)) _ refl
inside_lost cs scope (unary op e) = inside_lost cs scope e
inside_lost cs scope (binary op e f) = inside_either (faults.missing_scope_fault cs scope e) (faults.missing_scope_fault cs scope f) (inside_lost cs scope e) (inside_lost cs scope f)
inside_lost cs scope _ = no_fault

inside_lost_all : (cs : List Scope) (scope : ℕ) (es : List Tree) → AreInsideFaults (faults.missing_scopes_fault cs scope es)
inside_lost_all cs scope [] = no_fault
inside_lost_all cs scope (e ∷ es) = inside_either (faults.missing_scope_fault cs scope e) (faults.missing_scopes_fault cs scope es) (inside_lost cs scope e) (inside_lost_all cs scope es)

inside_opened : (cs : List Scope) (scope : ℕ) (o : Option (List ℕ)) → AreInsideFaults (faults.opened_twice cs scope o)
inside_opened cs scope None = no_fault
inside_opened cs scope (Some n) = inside_where _ _ refl

inside_twice : (y : Symbols) (k : Option Key) → AreInsideFaults (faults.defined_twice y k)
inside_twice y None = no_fault
inside_twice y (Some (named scope n)) = inside_where _ _ refl
inside_twice y (Some (cheap_in region n)) = inside_where _ _ refl
inside_twice y (Some (unnamed_at k)) = no_fault

inside_multiple : (v : Option ℤ) → AreInsideFaults (faults.alignment_value_fault v)
inside_multiple None = one_fault _ refl
inside_multiple (Some (pos n)) = inside_when _ _ refl
inside_multiple _ = one_fault _ refl

inside_changed : (gs : List Segment) (own : Option AddressSize) (location : Option ℕ) → AreInsideFaults (faults.changed_size gs own location)
inside_changed gs (Some own) (Some i) = inside_when _ _ refl
inside_changed gs None location = no_fault
inside_changed gs (Some own) None = no_fault

inside_form_fault : (y : Symbols) (s : Context) (own : AddressSize) (x : Statement) → AreInsideFaults (faults.form_fault y s own x)
inside_form_fault y s own (statement.Instruction m o) = inside_unless _ _ refl
inside_form_fault y s own _ = no_fault

inside_operand_fault : (y : Symbols) (s : Context) (x : Statement) → AreInsideFaults (faults.operand_fault y s x)
inside_operand_fault y s (statement.Reserve n v) = inside_when _ _ refl
inside_operand_fault y s (statement.Align n v) = inside_when _ _ refl
inside_operand_fault y s (statement.Incbin bytes start len) = inside_when _ _ refl
inside_operand_fault y s _ = no_fault

inside_alignment : (y : Symbols) (s : Context) (x : Statement) → AreInsideFaults (faults.alignment_fault y s x)
inside_alignment y s (statement.Align n v) = inside_multiple (constant_in y s n)
inside_alignment y s _ = no_fault

inside_missing : (x : Statement) → AreInsideFaults (faults.missing_file x)
inside_missing (statement.Incbin bytes start len) = inside_unless bytes _ refl
inside_missing _ = no_fault

inside_part_fault : (y : Symbols) (s : Context) (x : Statement) → AreInsideFaults (faults.part_fault y s x)
inside_part_fault y s (statement.Incbin (Some bytes) start len) = inside_when _ _ refl
inside_part_fault y s (statement.Incbin None start len) = no_fault
inside_part_fault y s _ = no_fault

inside_size : (gs : List Segment) (x : Statement) → AreInsideFaults (faults.size_fault gs x)
inside_size gs (statement.Segment n own) = inside_changed gs own (segment_index gs n)
inside_size gs _ = no_fault

inside_block : (cs : List Scope) (scope : ℕ) (x : Statement) → AreInsideFaults (faults.block_fault cs scope x)
inside_block cs scope statement.CloseScope = inside_when _ _ refl
inside_block cs scope statement.CloseProc = inside_when _ _ refl
inside_block cs scope _ = no_fault

inside_pop : (kept : List ℕ) (x : Statement) → AreInsideFaults (faults.pop_fault kept x)
inside_pop kept statement.PopSegment = inside_when _ _ refl
inside_pop kept _ = no_fault

data AllInside : List (Option AsmFault) → Type 0 where
  none : AllInside []
  also : (o : Option AsmFault) (os : List (Option AsmFault)) → AreInsideFaults o → AllInside os → AllInside (o ∷ os)

first_inside : (os : List (Option AsmFault)) → AllInside os → AreInsideFaults (faults.first_fault os)
first_inside _ none = no_fault
first_inside _ (also o os h all) = inside_first o os h (first_inside os all)

-- the error of a statement at its line is no failure of the store
pub line_inside : (y : Symbols) (w : Cursor) (x : Statement) → AreInsideFaults (faults.line_fault y w x)
line_inside y w x =
    let s : Context = context_of w in
    let outside : Bool = faults.is_global_only x && faults.is_not_global s.scope in
    let full : Bool = nat_lt section_limit (s.offset + length_of y s (own_size w) x) in
    first_inside (
    faults.fault_if outside NotUnderstood
    ∷ faults.missing_scopes_fault y.scopes s.scope (faults.trees_of x)
    ∷ faults.opened_twice y.scopes s.scope (faults.scope_name x)
    ∷ faults.defined_twice y (key_defined s x)
    ∷ faults.form_fault y s (own_size w) x
    ∷ faults.operand_fault y s x
    ∷ faults.alignment_fault y s x
    ∷ faults.missing_file x
    ∷ faults.part_fault y s x
    ∷ faults.size_fault w.segments x
    ∷ faults.block_fault y.scopes s.scope x
    ∷ faults.pop_fault w.pushed_segments x
    ∷ faults.fault_if full SectionTooLarge
    ∷ [])
    (also _ _ (inside_when outside NotUnderstood refl)
    (also _ _ (inside_lost_all y.scopes s.scope (faults.trees_of x))
    (also _ _ (inside_opened y.scopes s.scope (faults.scope_name x))
    (also _ _ (inside_twice y (key_defined s x))
    (also _ _ (inside_form_fault y s (own_size w) x)
    (also _ _ (inside_operand_fault y s x)
    (also _ _ (inside_alignment y s x)
    (also _ _ (inside_missing x)
    (also _ _ (inside_part_fault y s x)
    (also _ _ (inside_size w.segments x)
    (also _ _ (inside_block y.scopes s.scope x)
    (also _ _ (inside_pop w.pushed_segments x)
    (also _ _ (inside_when full SectionTooLarge refl) none)))))))))))))

inside_unless_fault : {A : Type 0} (o : Option AsmFault) (x : A) → AreInsideFaults o → IsInside (unless_fault o x)
inside_unless_fault None x h = tt
inside_unless_fault (Some e) x h = h e refl

-- the result of laying out a statement is no failure of the store
pub measured_inside : {X : Type 0} (r : Result X AsmFault) (view : X → StatementLayout) (y : Symbols) (w : Cursor) (x : Statement) → Refines is_out_of_memory view r (layout_result y w x) → IsInside r
measured_inside r view y w x h = inside_from r view (layout_result y w x) (inside_unless_fault (faults.line_fault y w x) (layout_of_statement y w x) (line_inside y w x)) h

-- the same for errors that don't depend on the file
pub unread_inside : (r : Result (Unit {0}) AsmFault) (y : Symbols) (w : Cursor) (start len : Option Tree) → Refines is_out_of_memory (λ u. u) r (unless_fault (unread_fault y w start len) tt) → IsInside r
unread_inside r y w start len h =
    let part = statement.Incbin None start len in
    let fault = inside_either (faults.missing_scopes_fault y.scopes w.scope (faults.trees_of part)) (faults.operand_fault y (context_of w) part) (inside_lost_all y.scopes w.scope (faults.trees_of part)) (inside_operand_fault y (context_of w) part) in
    inside_from r (λ u. u) (unless_fault (unread_fault y w start len) tt) (inside_unless_fault (unread_fault y w start len) tt fault) h
