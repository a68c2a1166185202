-- A module's statements in a segment have the bytes of the parts of its section.
use Rattle.std.proofs.lemmas.Grind.{common_steps}
use Rattle.std.proofs.Common.{◌≡◌, ℕ, ◌+◌, Bool, true, false, cond, List, Result, Ok, Err, refl, sym, ◌∙◌, ap, subst, arith, suc, ◌-◌, [], ◌∷◌, ◌++◌, length, Option, Some, None, nat_eq, map, slice_get}
use Rattle.std.specs.Prelude.{ℤ, pos, ◌+ℤ◌, ◌-ℤ◌, ◌↔◌, replicate}
use Rattle.std.proofs.lemmas.Int.{ints, int_wrap-add_left}
use Rattle.base65.specs.Outcome.{◌>>=◌}
use Rattle.base65.specs.Values.{wrap_signed}
use Rattle.base65.specs.declared.values.Op2.TheVariants.{Subtract}
use Rattle.object65.proofs.Foldings.{binary_fold_law}
use Rattle.object65.specs.Folding.{fold2}
use Rattle.object65.specs.Form.{Form, lit, sec, imp, prefix, binary}
use Rattle.object65.specs.Objects.{fits_width, value_bytes}
use Rattle.base65.specs.declared.width.Width.{Width}
use Rattle.base65.specs.declared.width.Width.TheVariants.{Byte, Word, BigEndianWord, Dword, Branch}
use Rattle.syntax65.specs.declared.source_location.SourceLocation.{SourceLocation}
use Rattle.semantics65.specs.Contents.{Part, Known, LinkTimeValue, Content, operand_form, value_part, with_file_name_check, opcode_part, reserve_part, exported_names}
use Rattle.ast65.specs.declared.fault.AsmFault.{AsmFault}
use Rattle.ast65.specs.declared.fault.AsmFault.TheVariants.{OutOfRange}
use Rattle.semantics65.specs.declared.contexts.Context.{Context}
use Rattle.whole65.proofs.SameValues.{bind_ok, folded_ok, same_values_law}
use Rattle.whole65.specs.Contents.{EncodesValue, operand_value, EncodesInstruction, EncodesDataItem, EncodesDataItems, EncodesStatement, EncodesOperand, code_bytes, reserve_byte, EncodesSegmentItems}
use Rattle.whole65.specs.Objects.{HasValue, LinkerView, form_value, IsLinkerView}
use Rattle.whole65.proofs.LinkedObjects.{ArePart, AreParts, Valuing}
use Rattle.whole65.proofs.Statements.{AllCome, AreStated, a_datum, a_line, a_part, a_piece, all_put, an_operand, are_stated, no_line, no_piece, none_put, parts_append, pieces_alike, stated}
use Rattle.std.proofs.lemmas.List.{append_assoc}
use Rattle.syntax65.specs.Trees.{Tree}
use Rattle.syntax65.specs.declared.instructions.names.Mnemonic.{Mnemonic}
use Rattle.semantics65.specs.declared.contexts.EncodingChoice.{EncodingChoice}
use Rattle.semantics65.specs.declared.contexts.EncodingChoice.TheVariants.{Undecided, InMode, FillByte, FileOffset}
use Rattle.ast65.specs.declared.language.Item.{Item}
use Rattle.ast65.specs.declared.language.Operand.{Operand}
use Rattle.ast65.specs.declared.language.Statement.{Statement}
use Rattle.ast65.specs.declared.language.Statement.TheVariants as statement
use Rattle.ast65.specs.declared.language.Item.TheVariants as item
use Rattle.semantics65.specs.Norms.{norm_of}
use Rattle.whole65.specs.Segments.{ModuleStatement, statement_end, statement_item, module_statement, module_statements_after, largest_multiple}
use Rattle.whole65.specs.Values.{Program, Value}
use Rattle.semantics65.specs.Symbols.{LaidOutStatement}
use Rattle.semantics65.specs.Numbering.{all_declarations, parts_in}
use Rattle.semantics65.specs.Module.{Piece, module_resolution, known_part, instruction_pieces, item_piece, operand_pieces, pieces_of}
use Rattle.whole65.proofs.Offsets.{EndsAt, all_end, ends_moved, placed}
use Rattle.whole65.proofs.Positions.{powers_at}
use Rattle.whole65.specs.Offsets.{statements_with_segment, IsMultiple, HasNoLineErrors}
use Rattle.semantics65.specs.Layout.{Layout}
use Rattle.whole65.specs.Modules.{table_of}

-- ---- Stored values.

-- the bytes of a form's value
abbrev pub HasBytes : {E : Type 0} → LinkerView E → ℕ → Width → Form → List ℕ → Type 0
HasBytes o owner width f bytes = (v : ℤ) × HasValue o owner f v × EncodesValue width v bytes

module _ {E : Type 0} (o : LinkerView E) (owner fill : ℕ) where
  of_literal : (width : Width) (v : ℤ) (part : Part) (bytes : List ℕ) (b : Bool) → fits_width width v ≡ b → ◌≡◌ {A = Result Part AsmFault} (cond b (Ok (Known (value_bytes width v))) (Err OutOfRange)) (Ok part) → ArePart (HasValue o owner) fill part bytes ↔ HasBytes o owner width (lit v) bytes
  of_literal width v part bytes x1 fits e = grind (arith, common_steps)

  of_waiting : (width : Width) (place : SourceLocation) (f : Form) (part : Part) (bytes : List ℕ) → with_file_name_check place (LinkTimeValue width place f) ≡ Ok part → ArePart (HasValue o owner) fill part bytes ↔ HasBytes o owner width f bytes
  of_waiting width place f part bytes e = grind (arith, common_steps)

  -- the part that stores a form has the bytes of the form's value
  pub of_stored : (width : Width) (place : SourceLocation) (f : Form) (part : Part) (bytes : List ℕ) → value_part width place f ≡ Ok part → ArePart (HasValue o owner) fill part bytes ↔ HasBytes o owner width f bytes
  of_stored width place (lit v) part bytes e = of_literal width v part bytes (fits_width width v) refl e
  of_stored width place (sec k a) part bytes e = of_waiting width place (sec k a) part bytes e
  of_stored width place (imp k) part bytes e = of_waiting width place (imp k) part bytes e
  of_stored width place (prefix op f) part bytes e = of_waiting width place (prefix op f) part bytes e
  of_stored width place (binary op f g) part bytes e = of_waiting width place (binary op f g) part bytes e

  -- ---- Branches.

  two_more : (base : ℤ) (offset : ℕ) → wrap_signed (wrap_signed (base +ℤ pos offset) +ℤ pos 2) ≡ wrap_signed (base +ℤ pos (offset + 2))
  two_more base offset = grind (arith, common_steps, ints, int_wrap-add_left)

  abbrev Counted : Width → ℤ → Form → List ℕ → Type 0
  Counted width address f bytes = (v : ℤ) × HasValue o owner f v × EncodesValue width (operand_value width address v) bytes

  of_branch : (address : ℤ) (s : Context) (f h : Form) (bytes : List ℕ) → address ≡ wrap_signed (o.bases owner s.segment +ℤ pos s.offset) → fold2 Subtract f (sec s.segment (pos (s.offset + 2))) ≡ Ok h → Counted Branch address f bytes ↔ HasBytes o owner Branch h bytes
  of_branch address s f h bytes at e = (there, back)
    where
      following : ℤ
      following = wrap_signed (o.bases owner s.segment +ℤ pos (s.offset + 2))

      difference : (export_depth : ℕ) → form_value o export_depth owner h ≡ (form_value o export_depth owner f >>= (λ a. Ok (wrap_signed (a -ℤ wrap_signed (o.bases owner s.segment +ℤ pos (s.offset + 2))))))
      difference export_depth = binary_fold_law E o.no_value_error (o.bases owner) (o.imports export_depth owner) Subtract f (sec s.segment (pos (s.offset + 2))) h e

      same : wrap_signed (address +ℤ pos 2) ≡ wrap_signed (o.bases owner s.segment +ℤ pos (s.offset + 2))
      same = ap (λ z. wrap_signed (z +ℤ pos 2)) at ∙ two_more (o.bases owner s.segment) s.offset

      counted : (v : ℤ) → operand_value Branch address v ≡ wrap_signed (v -ℤ wrap_signed (o.bases owner s.segment +ℤ pos (s.offset + 2)))
      counted v = ap (λ z. wrap_signed (v -ℤ z)) same

      there : Counted Branch address f bytes → HasBytes o owner Branch h bytes
      there (v, (export_depth, got), st) =
          (operand_value Branch address v, (export_depth, difference export_depth ∙ ap (λ r. r >>= (λ a. Ok (wrap_signed (a -ℤ wrap_signed (o.bases owner s.segment +ℤ pos (s.offset + 2)))))) got ∙ ap Ok (sym (counted v))), st)

      back : HasBytes o owner Branch h bytes → Counted Branch address f bytes
      back (w, (export_depth, got), st) =
          let (v, first, last) = bind_ok (form_value o export_depth owner f) (λ a. Ok (wrap_signed (a -ℤ wrap_signed (o.bases owner s.segment +ℤ pos (s.offset + 2))))) w (sym (difference export_depth) ∙ got) in
          let one : wrap_signed (v -ℤ wrap_signed (o.bases owner s.segment +ℤ pos (s.offset + 2))) ≡ w = cc last in
          (v, (export_depth, first), subst (λ z. EncodesValue Branch z bytes) (sym (counted v ∙ one)) st)

  unchanged : (width : Width) (f h : Form) (bytes : List ℕ) → ◌≡◌ {A = Result Form AsmFault} (Ok f) (Ok h) → HasBytes o owner width f bytes ↔ HasBytes o owner width h bytes
  unchanged width f h bytes e = grind (arith, common_steps)

  -- the bytes of an operand are those of the form that `operand_form` returns
  pub of_operand : (width : Width) (address : ℤ) (s : Context) (f h : Form) (bytes : List ℕ) → address ≡ wrap_signed (o.bases owner s.segment +ℤ pos s.offset) → operand_form width s f ≡ Ok h → Counted width address f bytes ↔ HasBytes o owner width h bytes
  of_operand Branch address s f h bytes at e = of_branch address s f h bytes at (folded_ok (fold2 Subtract f (sec s.segment (pos (s.offset + 2)))) h e)
  of_operand Byte address s f h bytes at e = unchanged Byte f h bytes e
  of_operand Word address s f h bytes at e = unchanged Word f h bytes e
  of_operand BigEndianWord address s f h bytes at e = unchanged BigEndianWord f h bytes e
  of_operand Dword address s f h bytes at e = unchanged Dword f h bytes e

-- ---- The bytes of statements and of parts.

module _ {E : Type 0} (p : Program) (o : LinkerView E) (h : IsLinkerView p o) (fill : ℕ) (x : ModuleStatement) (at_context : o.contexts x.owner x.index ≡ x.laid.context) where
  -- these pieces of the statement result in these contents
  abbrev Come : List (List ℕ) → List Piece → List Content → Type 0
  Come names ps cs = AllCome (o.symbols x.owner) x.laid names ps cs

  abbrev HaveBytes : List Content → List ℕ → Type 0
  HaveBytes cs bytes = AreParts (HasValue o x.owner) fill (all_put cs) bytes

  -- a list of one part has the bytes of the part
  single : (q : Part) (bytes : List ℕ) → ArePart (HasValue o x.owner) fill q bytes ↔ AreParts (HasValue o x.owner) fill (q ∷ []) bytes
  single q bytes = grind (arith, common_steps)

  -- an expression has the value of its form
  values : (e : Tree) (f : Form) (v : ℤ) → norm_of (o.symbols x.owner) x.laid.context e ≡ Ok f → Value p x.owner x.index e v ↔ HasValue o x.owner f v
  values e f v q =
      let there = subst (λ s. norm_of (o.symbols x.owner) s e ≡ Ok f) (sym at_context) q in
      same_values_law E p o h (suc (length (o.symbols x.owner).definitions)) x.owner x.index e f v there

  address : p.address x.owner x.index ≡ wrap_signed (o.bases x.owner x.laid.context.segment +ℤ pos x.laid.context.offset)
  address = subst (λ (s : Context). p.address x.owner x.index ≡ wrap_signed (o.bases x.owner s.segment +ℤ pos s.offset)) at_context (h.addresses x.owner x.index)

  -- ---- Data.

  of_datum : (width : Width) (e : Tree) (f : Form) (q : Part) (bytes : List ℕ) → norm_of (o.symbols x.owner) x.laid.context e ≡ Ok f → value_part width x.laid.place f ≡ Ok q → EncodesDataItem p x width (item.Value e) bytes ↔ ArePart (HasValue o x.owner) fill q bytes
  of_datum width e f q bytes normal kept = grind (arith, common_steps, of_stored, values)

  of_items : (width : Width) (names : List (List ℕ)) (is : List Item) (cs : List Content) (bytes : List ℕ) → Come names (map (item_piece width) is) cs → EncodesDataItems p x width is bytes ↔ HaveBytes cs bytes
  of_items width names [] _ bytes no_piece = (λ k. k, λ k. k)
  of_items width names (item.Value e ∷ is) _ bytes (a_piece {cs = cs} (a_datum _ _ f q normal kept) more) =
      let one = λ (own : List ℕ). of_datum width e f q own normal kept in
      let others = λ (rest : List ℕ). of_items width _ is cs rest more in (
        λ k. (k.0, k.1, (one k.0).0 k.2, (others k.1).0 k.3, k.4),
        λ k. (k.0, k.1, (one k.0).1 k.2, (others k.1).1 k.3, k.4),
      )
  of_items width names (item.StringLiteral own ∷ is) _ bytes (a_piece {cs = cs} (a_part _) more) =
      let others = λ (rest : List ℕ). of_items width _ is cs rest more in (
        λ k. (k.0, k.1, k.2, (others k.1).0 k.3, k.4),
        λ k. (k.0, k.1, k.2, (others k.1).1 k.3, k.4),
      )

  -- ---- Instructions.

  of_counted : (width : Width) (e : Tree) (f g : Form) (q : Part) (bytes : List ℕ) → norm_of (o.symbols x.owner) x.laid.context e ≡ Ok f → operand_form width x.laid.context f ≡ Ok g → value_part width x.laid.place g ≡ Ok q → EncodesOperand p x (Some width) (Some e) bytes ↔ ArePart (HasValue o x.owner) fill q bytes
  of_counted width e f g q bytes normal counted kept =
      let part = of_stored o x.owner fill width x.laid.place g q bytes kept in
      let form = of_operand o x.owner fill width (p.address x.owner x.index) x.laid.context f g bytes address counted in
      (λ k. part.1 (form.0 (k.0, (values e f k.0 normal).0 k.1, k.2)), λ k. (let b = form.1 (part.0 k) in (b.0, (values e f b.0 normal).1 b.1, b.2)))

  of_operands : (width : Option Width) (e : Option Tree) (names : List (List ℕ)) (cs : List Content) (bytes : List ℕ) → Come names (operand_pieces width e) cs → EncodesOperand p x width e bytes ↔ HaveBytes cs bytes
  of_operands (Some width) (Some e) names _ bytes (a_piece (an_operand _ _ f g q normal counted kept) no_piece) =
      let one = of_counted width e f g q bytes normal counted kept in
      (λ k. (single q bytes).0 (one.0 k), λ k. one.1 ((single q bytes).1 k))
  of_operands (Some width) None names _ bytes no_piece = (λ k. k, λ k. k)
  of_operands None e names _ bytes no_piece = (λ k. k, λ k. k)

  code_part : (c : Option ℕ) → opcode_part c ≡ Known (code_bytes c)
  code_part x = grind (arith, common_steps)

  of_instruction : (m : Mnemonic) (d : Operand) (s : EncodingChoice) (names : List (List ℕ)) (cs : List Content) (bytes : List ℕ) → Come names (instruction_pieces m d s) cs → EncodesInstruction p x m d s bytes ↔ HaveBytes cs bytes
  of_instruction m d (InMode mode) names _ bytes (a_piece {cs = cs} (a_part _) more) = grind (arith, common_steps, code_part, of_operands)
  of_instruction m d Undecided names _ bytes no_piece = (λ k. k, λ k. k)
  of_instruction m d (FillByte b) names _ bytes no_piece = (λ k. k, λ k. k)
  of_instruction m d (FileOffset b) names _ bytes no_piece = (λ k. k, λ k. k)

  -- ---- Reserved space, included files, and statements without bytes.

  of_alone : (q : Part) (names : List (List ℕ)) (cs : List Content) (bytes : List ℕ) → Come names (known_part q ∷ []) cs → ArePart (HasValue o x.owner) fill q bytes ↔ HaveBytes cs bytes
  of_alone q names _ bytes (a_piece (a_part _) no_piece) = single q bytes

  of_room : (count : ℕ) (s : EncodingChoice) (bytes : List ℕ) → ArePart (HasValue o x.owner) fill (reserve_part count s) bytes ≡ (bytes ≡ replicate count (reserve_byte fill s))
  of_room count x bytes = grind (arith, common_steps)

  room : (count len : ℕ) (s : EncodingChoice) (names : List (List ℕ)) (cs : List Content) (bytes : List ℕ) → count ≡ len → Come names (known_part (reserve_part len s) ∷ []) cs → (bytes ≡ replicate count (reserve_byte fill s)) ↔ HaveBytes cs bytes
  room count len s names cs bytes e all =
      let alone = of_alone (reserve_part len s) names cs bytes all in
      let same : ArePart (HasValue o x.owner) fill (reserve_part len s) bytes ≡ (bytes ≡ replicate count (reserve_byte fill s)) = of_room len s bytes ∙ ap (λ n. bytes ≡ replicate n (reserve_byte fill s)) (sym e) in
      (λ k. alone.0 (subst (λ z. z) (sym same) k), λ k. subst (λ z. z) same (alone.1 k))

  none : (cs : List Content) (bytes : List ℕ) → all_put cs ≡ [] → (bytes ≡ []) ↔ HaveBytes cs bytes
  none cs bytes e = (λ k. subst (λ qs. AreParts (HasValue o x.owner) fill qs bytes) (sym e) k, λ k. subst (λ qs. AreParts (HasValue o x.owner) fill qs bytes) e k)

of_line : {E : Type 0} (p : Program) (o : LinkerView E) → IsLinkerView p o → (fill position : ℕ) (x : ModuleStatement) (t : Statement) (names : List (List ℕ)) (cs : List Content) (bytes : List ℕ) → o.contexts x.owner x.index ≡ x.laid.context → statement_end position x.alignment (record x.laid { stated = t }) ≡ position + x.laid.length → AllCome (o.symbols x.owner) x.laid names (pieces_of x.laid.length x.laid.encoding t) cs → EncodesStatement p fill position (record x { laid = record x.laid { stated = t } }) bytes ↔ AreParts (HasValue o x.owner) fill (all_put cs) bytes
of_line p o h fill position x (statement.Instruction m d) names cs bytes s e all = of_instruction p o h fill x s m d x.laid.encoding names cs bytes all
of_line p o h fill position x (statement.Values width is) names cs bytes s e all = of_items p o h fill x s width names is cs bytes all
of_line p o h fill position x (statement.Reserve n v) names cs bytes s e all = room p o h fill x s x.laid.length x.laid.length x.laid.encoding names cs bytes refl all
of_line p o h fill position x (statement.Align n v) names cs bytes s e all =
    let count : statement_end position x.alignment (record x.laid { stated = statement.Align n v }) - position ≡ x.laid.length = omega (arith, e) in
    room p o h fill x s (statement_end position x.alignment (record x.laid { stated = statement.Align n v }) - position) x.laid.length x.laid.encoding names cs bytes count all
of_line p o h fill position x (statement.Incbin file n v) names cs bytes s e all = of_alone p o h fill x s _ names cs bytes all
of_line p o h fill position x t names cs bytes s e all = none p o h fill x s cs bytes (none_put all (pieces_alike x.laid.length x.laid.encoding t))

-- if a statement ends its length after its position, it has the bytes of the parts that its pieces append to the section
pub parts_law : (E : Type 0) → (p : Program) (o : LinkerView E) (fill position : ℕ) (x : ModuleStatement) (names : List (List ℕ)) (cs : List Content) (bytes : List ℕ) → IsLinkerView p o → o.contexts x.owner x.index ≡ x.laid.context → statement_end position x.alignment x.laid ≡ position + x.laid.length → AllCome (o.symbols x.owner) x.laid names (pieces_of x.laid.length x.laid.encoding x.laid.stated) cs → EncodesStatement p fill position x bytes ↔ AreParts (HasValue o x.owner) fill (all_put cs) bytes
parts_law E p o fill position x names cs bytes h s e all = of_line p o h fill position x x.laid.stated names cs bytes s e all

-- ---- The bytes of concatenated parts.

abbrev Both : Valuing → ℕ → List Part → List Part → List ℕ → Type 0
Both Has fill ps qs bytes = (own : List ℕ) × (rest : List ℕ) × AreParts Has fill ps own × AreParts Has fill qs rest × (bytes ≡ own ++ rest)

parts_joined : (Has : Valuing) (fill : ℕ) (ps qs : List Part) (bytes : List ℕ) → Both Has fill ps qs bytes → AreParts Has fill (ps ++ qs) bytes
parts_joined Has fill [] qs bytes (own, rest, none, h, e) = subst (AreParts Has fill qs) (sym (e ∙ ap (λ z. z ++ rest) none)) h
parts_joined Has fill (p ∷ ps) qs bytes (own, rest, (a, b, k, more, e'), h, e) = grind (arith, common_steps, (parts_joined Has fill ps qs (b ++ rest) (b, rest, more, h, refl)))

parts_split : (Has : Valuing) (fill : ℕ) (ps qs : List Part) (bytes : List ℕ) → AreParts Has fill (ps ++ qs) bytes → Both Has fill ps qs bytes
parts_split Has fill [] qs bytes h = ([], bytes, refl, h, refl)
parts_split Has fill (p ∷ ps) qs bytes (a, b, k, more, e) =
    let (own, rest, h, g, e') = parts_split Has fill ps qs b more in
    (a ++ own, rest, (a, own, k, h, refl), g, e ∙ ap (λ z. a ++ z) e' ∙ sym (append_assoc a own rest))

-- ---- The statements of a module.

pub in_middle : {A : Type 0} (before : List A) (l : A) (ls : List A) → slice_get (before ++ l ∷ ls) (length before) ≡ Some l
in_middle [] l ls = refl
in_middle (x ∷ before) l ls = in_middle before l ls

module _ {E : Type 0} (p : Program) (o : LinkerView E) (h : IsLinkerView p o) (fill owner g : ℕ) (all : List LaidOutStatement) (contexts : (index : ℕ) (l : LaidOutStatement) → slice_get all index ≡ Some l → o.contexts owner index ≡ l.context) where
  abbrev here : List LaidOutStatement → List LaidOutStatement → List ModuleStatement
  here before ls = statements_with_segment g (module_statements_after owner before ls)

  of_lines : (before ls : List LaidOutStatement) (names : List (List ℕ)) (cs : List Content) (position : ℕ) (bytes : List ℕ) → before ++ ls ≡ all → EndsAt position (here before ls) → AreStated (o.symbols owner) names ls cs → EncodesSegmentItems p fill position (map statement_item (here before ls)) bytes ↔ AreParts (HasValue o owner) fill (parts_in cs g) bytes
  of_lines before [] names _ position bytes w ends no_line = (λ k. k, λ k. k)
  of_lines before (l ∷ ls) names _ position bytes w ends (a_line ds cs found more) =
      let one = stated (o.symbols owner) names l ds found in
      let next : (before ++ l ∷ []) ++ ls ≡ all = append_assoc before (l ∷ []) ls ∙ w in
      let there : slice_get all (length before) ≡ Some l = subst (λ z. slice_get z (length before) ≡ Some l) w (in_middle before l ls) in
      let parts : parts_in (ds ++ cs) g ≡ cond (nat_eq l.context.segment g) (all_put one.own) [] ++ parts_in cs g = parts_append g ds cs ∙ ap (λ qs. qs ++ parts_in cs g) (one.parts g) in
      let step = by one.own one.pieces (contexts (length before) l there) (λ z rest ends. of_lines (before ++ l ∷ []) ls (names ++ exported_names (all_declarations ds)) cs z rest next ends more) (nat_eq l.context.segment g) ends in
      (λ k. subst (λ qs. AreParts (HasValue o owner) fill qs bytes) (sym parts) (step.0 k), λ k. step.1 (subst (λ qs. AreParts (HasValue o owner) fill qs bytes) parts k))
    where
      others : List ModuleStatement
      others = here (before ++ l ∷ []) ls

      by :
          (own : List Content) → AllCome (o.symbols owner) l names (pieces_of l.length l.encoding l.stated) own → o.contexts owner (length before) ≡ l.context →
          ((z : ℕ) (rest : List ℕ) → EndsAt z others → EncodesSegmentItems p fill z (map statement_item others) rest ↔ AreParts (HasValue o owner) fill (parts_in cs g) rest) →
          (b : Bool) → EndsAt position (cond b (module_statement owner before l ∷ others) others) →
          EncodesSegmentItems p fill position (map statement_item (cond b (module_statement owner before l ∷ others) others)) bytes ↔ AreParts (HasValue o owner) fill (cond b (all_put own) [] ++ parts_in cs g) bytes
      by own pieces context deeper false ends = deeper position bytes ends
      by own pieces context deeper true ends =
          let x : ModuleStatement = module_statement owner before l in
          let following : ℕ = statement_end position x.alignment l in
          let one : (first : List ℕ) → EncodesStatement p fill position x first ↔ AreParts (HasValue o owner) fill (all_put own) first = λ first. parts_law E p o fill position x names own first h context ends.0 pieces in (
            λ k. parts_joined (HasValue o owner) fill (all_put own) (parts_in cs g) bytes (k.0, k.1, (one k.0).0 k.2, (deeper following k.1 ends.1).0 k.3, k.4),
            λ k. (let s = parts_split (HasValue o owner) fill (all_put own) (parts_in cs g) bytes k in (s.0, s.1, (one s.0).1 s.2, (deeper following s.1 ends.1).1 s.3, s.4)),
          )

-- If a module's statements in a segment begin at a multiple of their largest alignment, they have the bytes of the parts
-- that they append to the section.
pub section_law : (E : Type 0) → (p : Program) (o : LinkerView E) (fill begin owner g : ℕ) (y : Layout) (cs : List Content) (bytes : List ℕ) → IsLinkerView p o → o.symbols owner ≡ table_of y → ((index : ℕ) (l : LaidOutStatement) → slice_get y.laid index ≡ Some l → o.contexts owner index ≡ l.context) → HasNoLineErrors y → IsMultiple begin (largest_multiple (statements_with_segment g (module_statements_after owner [] y.laid))) → (module_resolution y.laid).found ≡ Ok cs → EncodesSegmentItems p fill begin (map statement_item (statements_with_segment g (module_statements_after owner [] y.laid))) bytes ↔ AreParts (HasValue o owner) fill (parts_in cs g) bytes
section_law E p o fill begin owner g y cs bytes h table contexts d m e =
    let lines : List ModuleStatement = statements_with_segment g (module_statements_after owner [] y.laid) in
    let begins : begin + 0 ≡ begin = omega arith in
    let ends : EndsAt begin lines = subst (λ n. EndsAt n lines) begins (ends_moved begin 0 lines (powers_at g (module_statements_after owner [] y.laid) (placed owner d).powers) m (all_end owner g d)) in
    of_lines p o h fill owner g y.laid contexts [] y.laid [] cs begin bytes refl ends (subst (λ z. AreStated z [] y.laid cs) (sym table) (are_stated y cs e))
