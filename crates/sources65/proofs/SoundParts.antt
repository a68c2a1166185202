-- The forms of well-formed statements are well-formed, and the parts of a statement have the statement's length.
use Rattle.std.proofs.lemmas.Grind.{common_steps}
use Rattle.std.proofs.Common.{◌≡◌, ◌∙◌, ℕ, ◌+◌, Bool, true, false, nat_eq, nat_lt, refl, sym, ap, subst, arith, List, [], ◌∷◌, ◌++◌, length, map, take, drop, Option, Some, None, Result, Ok, Err}
use Rattle.std.specs.Prelude.{⊤, ℤ, IfOk, ◌&&◌, sum_by, if◌then◌else◌}
use Rattle.std.specs.List.{list_all, list_any, filter, flat_map}
use Rattle.std.specs.Str.{bytes_eq}
use Rattle.std.proofs.lemmas.List.{append-nil}
use Rattle.std.proofs.lemmas.List.Sums.{sum_by-append, sum_by-cons}
use Rattle.std.proofs.lemmas.List.Folds.{list_all-append}
use Rattle.base65.specs.Outcome.{◌>>=◌}
use Rattle.syntax65.specs.Opcodes.{opcode_of}
use Rattle.syntax65.specs.Trees.{Tree}
use Rattle.syntax65.specs.declared.instructions.codes.Mode.{Mode}
use Rattle.syntax65.specs.declared.instructions.codes.Mode.TheVariants.{Implied, Accumulator, Immediate, Indirect, IndirectX, IndirectY}
use Rattle.syntax65.specs.declared.instructions.names.Mnemonic.{Mnemonic}
use Rattle.syntax65.specs.declared.lexing.tokens.AddressSize.{AddressSize}
use Rattle.object65.specs.Form.{Form, lit, sec, imp, prefix, binary}
use Rattle.object65.specs.Objects.{is_file_name, value_bytes, width_len}
use Rattle.base65.specs.declared.width.Width.{Width}
use Rattle.semantics65.specs.Contents.{Content, Declaration, ForcedImport, Part, LinkTimeValue, section_request, decided_assertion, export_declarations, file_bytes, import_fault, opcode_part, operand_form, operand_tree, section_part, reserve_part, value_part, declaration_content, with_file_name_check, exported_names}
use Rattle.syntax65.specs.declared.source_location.SourceLocation.{SourceLocation}
use Rattle.semantics65.specs.Symbols.{LaidOutStatement, needs_section, definition_index, has_here, named, Symbols}
use Rattle.semantics65.specs.declared.contexts.EncodingChoice.TheVariants.{FileOffset}
use Rattle.semantics65.specs.declared.contexts.Context.{Context}
use Rattle.ast65.specs.declared.fault.AsmFault.{AsmFault}
use Rattle.ast65.specs.declared.language.Item.{Item}
use Rattle.ast65.specs.declared.language.Operand.{Operand}
use Rattle.ast65.specs.declared.language.Statement.{Statement}
use Rattle.ast65.specs.declared.language.Statement.TheVariants.{Constant, Instruction, Values, Reserve, Align, Incbin, Import, Export, Global, ForceImport, Assert}
use Rattle.ast65.specs.declared.language.Operand.TheVariants as operand
use Rattle.ast65.specs.declared.language.Item.TheVariants.{Value, StringLiteral}
use Rattle.ast65.specs.declared.language.Index.{Index}
use Rattle.semantics65.specs.Module.{PieceResult, Piece, undefined_export_result, part_result, declarations_result, asserted, slot_result, datum, forced_import, constant_definition, exported, failed_assertion_text, known_part, resolved, imported, instruction_pieces, item_piece, unrepeated_result, operand_pieces, pieces_of, without_warning, slots_of, value_result, expression_value, deferred_piece, deferred, LocatedFault, with_location}
use Rattle.semantics65.specs.Module as purpose
use Rattle.semantics65.specs.Norms.{norm_of, address_mode, branch_mode, bytes_between, fill_encoding, first_of, is_branch, item_len, length_of, mode_len, mode_of, mode_encoding, operand_len, incbin_len as file_len, part_start, encoding_of, size_of, width_of}
use Rattle.semantics65.specs.Numbering.{imports_in, IsMeasured, IsWellFormedLocatedForm, IsWellFormedForm, part_len, parts_in, sections_in}
use Rattle.semantics65.proofs.SlotResolution.{AreFound}
use Rattle.sources65.proofs.SoundForms.{Holds, IsWell, Pass, norm_well, well_then}

-- ---- Forms.

abbrev pub asked_in : List ℕ → ℕ → Bool
asked_in requested g = list_any (nat_eq g) requested

abbrev pub below : ℕ → ℕ → Bool
below count k = nat_lt k count

both : (a b : Bool) → a ≡ true → b ≡ true → (a && b) ≡ true
both a b h k = rw h k

sections_pass : (q r : ℕ → Bool) (f : Form) → Holds q r f → list_all q (sections_in f) ≡ true
sections_pass q r (lit v) h = refl
sections_pass q r (sec k a) h = both (q k) true h refl
sections_pass q r (imp k) h = refl
sections_pass q r (prefix op f) h = sections_pass q r f h
sections_pass q r (binary op f g) (h, i) = list_all-append q (sections_in f) (sections_in g) ∙ both (list_all q (sections_in f)) (list_all q (sections_in g)) (sections_pass q r f h) (sections_pass q r g i)

imports_pass : (q r : ℕ → Bool) (f : Form) → Holds q r f → list_all r (imports_in f) ≡ true
imports_pass q r (lit v) h = refl
imports_pass q r (sec k a) h = refl
imports_pass q r (imp k) h = both (r k) true h refl
imports_pass q r (prefix op f) h = imports_pass q r f h
imports_pass q r (binary op f g) (h, i) = list_all-append r (imports_in f) (imports_in g) ∙ both (list_all r (imports_in f)) (list_all r (imports_in g)) (imports_pass q r f h) (imports_pass q r g i)

pub sound_form : (requested : List ℕ) (count : ℕ) (f : Form) → IsWell (asked_in requested) (below count) f → IsWellFormedForm requested count f
sound_form requested count f w = record { folded = w.folded; sections = sections_pass (asked_in requested) (below count) f w.holds; imports = imports_pass (asked_in requested) (below count) f w.holds }

-- the invariant of the symbol table of all statements
abbrev pub IsKnown : List ℕ → ℕ → Symbols → Type 0
IsKnown requested count y = Pass (asked_in requested) (below count) y

pub form_sound : (requested : List ℕ) (count : ℕ) (y : Symbols) → IsKnown requested count y → (s : Context) (e : Tree) → (has_here e ≡ true → asked_in requested s.segment ≡ true) → IfOk (norm_of y s e) (IsWell (asked_in requested) (below count))
form_sound requested count y k s e h = norm_well (asked_in requested) (below count) y k s e h

-- ---- Values with a checked file name.

pub written_with : {A : Type 0} (P : A → Type 0) (location : SourceLocation) (x : A) → (is_file_name location.file ≡ true → P x) → IfOk (with_file_name_check location x) P
written_with {A} P location x h = grind (arith, common_steps)

pub form_at : (requested : List ℕ) (count : ℕ) (location : SourceLocation) (f : Form) → IsWell (asked_in requested) (below count) f → is_file_name location.file ≡ true → IsWellFormedLocatedForm requested count location f
form_at requested count location f w e = record { file = e; form = sound_form requested count f w }

value_len : (width : Width) (v : ℤ) → length (value_bytes width v) ≡ width_len width
value_len x1 v = grind (arith, common_steps)

-- ---- Pieces.

-- the length of a piece's part
abbrev pub piece_len : Piece → ℕ
piece_len (known_part p) = part_len p
piece_len (expression_value (datum width) e) = width_len width
piece_len (expression_value (purpose.operand width) e) = width_len width
piece_len _ = 0

-- a length if the segment is this one, otherwise 0
abbrev pub there : Bool → ℕ → ℕ
there b n = if b then n else 0

-- the content adds `len` bytes to its segment and none to others
abbrev IsLong : ℕ → ℕ → Content → Type 0
IsLong segment len c = (g : ℕ) → sum_by part_len (parts_in (c ∷ []) g) ≡ there (nat_eq segment g) len

put_long : (segment : ℕ) (p : Part) → IsLong segment (part_len p) (section_part segment p)
put_long segment p g = by (nat_eq segment g)
  where
    by : (b : Bool) → sum_by part_len (flat_map (λ (c : Content). c.parts) (if b then section_part segment p ∷ [] else [])) ≡ there b (part_len p)
    by true = sum_by-cons part_len p [] ∙ omega arith
    by false = refl

told_long : (segment : ℕ) (ss : List Declaration) → IsLong segment 0 (declaration_content ss)
told_long segment ss g = nothing (nat_eq 0 g) (nat_eq segment g)
  where
    nothing : (a b : Bool) → sum_by part_len (flat_map (λ (c : Content). c.parts) (if a then declaration_content ss ∷ [] else [])) ≡ there b 0
    nothing true true = refl
    nothing true false = refl
    nothing false true = refl
    nothing false false = refl

asking_long : (segment g : ℕ) → sum_by part_len (parts_in (section_request segment ∷ []) g) ≡ 0
asking_long segment g = by (nat_eq segment g)
  where
    by : (b : Bool) → sum_by part_len (flat_map (λ (c : Content). c.parts) (if b then section_request segment ∷ [] else [])) ≡ 0
    by true = refl
    by false = refl

stored_len : (width : Width) (location : SourceLocation) (f : Form) → IfOk (value_part width location f) (λ p. part_len p ≡ width_len width)
stored_len width location (lit v) = grind (arith, common_steps, value_len)
stored_len width location f = written_with (λ p. part_len p ≡ width_len width) location (LinkTimeValue width location f) (λ e. refl)

pub any_ok : {A E : Type 0} (r : Result A E) → IfOk r (λ (x : A). ⊤)
any_ok (Ok x) = tt
any_ok (Err e) = tt

part_long : (segment len : ℕ) (r : Result Part AsmFault) → IfOk r (λ p. part_len p ≡ len) → IfOk (r >>= part_result segment) (λ m. IsLong segment len m.content)
part_long segment len (Ok p) h = λ g. put_long segment p g ∙ ap (there (nat_eq segment g)) h
part_long segment len (Err e) h = tt

said_long : (segment : ℕ) (r : Result (List Declaration) AsmFault) → IfOk (r >>= declarations_result) (λ m. IsLong segment 0 m.content)
said_long segment (Ok ss) = told_long segment ss
said_long segment (Err e) = tt

made_long : (y : Symbols) (location : SourceLocation) (s : Context) (p : Piece) → IfOk (unrepeated_result y location s p) (λ m. IsLong s.segment (piece_len p) m.content)
made_long y location s (known_part p) = put_long s.segment p
made_long y location s (expression_value (datum width) e) =
    well_then (λ f. ⊤) (λ m. IsLong s.segment (width_len width) m.content) (norm_of y s e) (value_result location s (datum width)) (any_ok (norm_of y s e))
    (λ f u. part_long s.segment (width_len width) (value_part width location f) (stored_len width location f))
made_long y location s (expression_value (purpose.operand width) e) =
    well_then (λ f. ⊤) (λ m. IsLong s.segment (width_len width) m.content) (norm_of y s e) (value_result location s (purpose.operand width)) (any_ok (norm_of y s e))
    (λ f u. part_long s.segment (width_len width) (operand_form width s f >>= value_part width location)
    (well_then (λ g. ⊤) (λ p. part_len p ≡ width_len width) (operand_form width s f) (value_part width location) (any_ok (operand_form width s f)) (λ g v. stored_len width location g)))
made_long y location s (expression_value constant_definition e) =
    well_then (λ f. ⊤) (λ m. IsLong s.segment 0 m.content) (norm_of y s e) (value_result location s constant_definition) (any_ok (norm_of y s e)) (λ f u. told_long s.segment [])
made_long y location s (expression_value (asserted act words) e) =
    well_then (λ f. ⊤) (λ m. IsLong s.segment 0 m.content) (norm_of y s e) (value_result location s (asserted act words)) (any_ok (norm_of y s e))
    (λ f u. well_then (λ ss. ⊤) (λ m. IsLong s.segment 0 m.content) (decided_assertion act location words f) (λ ss. Ok (record { content = declaration_content ss; warning = failed_assertion_text location act words (Ok f) })) (any_ok (decided_assertion act location words f)) (λ ss v. told_long s.segment ss))
made_long y location s (imported n) = said_long s.segment (import_fault y n)
made_long y location s (forced_import n) = told_long s.segment (ForcedImport n ∷ [])
made_long y location s (exported must n) = said_long s.segment (export_declarations y location n (undefined_export_result must n) (definition_index y (named 0 n)))

pub placed_ok : {A : Type 0} (P : A → Type 0) (location : SourceLocation) (r : Result A AsmFault) → IfOk r P → IfOk (with_location location r) P
placed_ok P location (Ok x) h = h
placed_ok P location (Err e) h = tt

-- a property of a piece's result and of an empty result, which a repeated export has
pub coming_so : (P : PieceResult → Type 0) (y : Symbols) (names : List (List ℕ)) (location : SourceLocation) (s : Context) (p : Piece) →
    ((must : Bool) (n : List ℕ) → p ≡ exported must n → P (without_warning (declaration_content []))) → IfOk (unrepeated_result y location s p) P →
    IfOk (slot_result y names (deferred (record { place = location; context = s; piece = p }))) P
coming_so P y names location s (exported must n) repeated h = by (list_any (bytes_eq n) names)
  where
    by : (b : Bool) → IfOk (with_location location (if b then declarations_result [] else unrepeated_result y location s (exported must n))) P
    by true = repeated must n refl
    by false = placed_ok P location (unrepeated_result y location s (exported must n)) h
coming_so P y names location s (known_part p) repeated h = h
coming_so P y names location s (expression_value why e) repeated h = placed_ok P location (unrepeated_result y location s (expression_value why e)) h
coming_so P y names location s (imported n) repeated h = placed_ok P location (unrepeated_result y location s (imported n)) h
coming_so P y names location s (forced_import n) repeated h = h

coming_long : (y : Symbols) (names : List (List ℕ)) (location : SourceLocation) (s : Context) (p : Piece) → IfOk (slot_result y names (deferred (record { place = location; context = s; piece = p }))) (λ m. IsLong s.segment (piece_len p) m.content)
coming_long y names location s p =
    coming_so (λ m. IsLong s.segment (piece_len p) m.content) y names location s p (λ must n e. subst (λ q. IsLong s.segment (piece_len q) (declaration_content [])) (sym e) (told_long s.segment [])) (made_long y location s p)

-- ---- The slots of a statement.

parts_cons : (c : Content) (cs : List Content) (g : ℕ) → sum_by part_len (parts_in (c ∷ cs) g) ≡ sum_by part_len (parts_in (c ∷ []) g) + sum_by part_len (parts_in cs g)
parts_cons c cs g = by (nat_eq c.segment g)
  where
    by : (b : Bool) → sum_by part_len (flat_map (λ (d : Content). d.parts) (if b then c ∷ filter (λ (d : Content). nat_eq d.segment g) cs else filter (λ (d : Content). nat_eq d.segment g) cs))
        ≡ sum_by part_len (flat_map (λ (d : Content). d.parts) (if b then c ∷ [] else [])) + sum_by part_len (parts_in cs g)
    by true = sum_by-append part_len c.parts (parts_in cs g) ∙ ap (λ ps. sum_by part_len ps + sum_by part_len (parts_in cs g)) (sym (append-nil c.parts))
    by false = omega arith

there_plus : (b : Bool) (m n : ℕ) → there b m + there b n ≡ there b (m + n)
there_plus true m n = refl
there_plus false m n = refl

nothing_there : (b : Bool) → 0 ≡ there b 0
nothing_there true = refl
nothing_there false = refl

pub if_found : {A E : Type 0} (P : A → Type 0) (r : Result A E) (x : A) → r ≡ Ok x → IfOk r P → P x
if_found P r x e h = subst (λ q. IfOk q P) e h

pieces_long : (y : Symbols) (names : List (List ℕ)) (l : LaidOutStatement) (g : ℕ) (ps : List Piece) (cs : List Content) → AreFound y names (map (deferred_piece l) ps) cs → sum_by part_len (parts_in cs g) ≡ there (nat_eq l.context.segment g) (sum_by piece_len ps)
pieces_long y names l g [] [] h = nothing_there (nat_eq l.context.segment g)
pieces_long y names l g [] (c ∷ cs) h = absurd h
pieces_long y names l g (p ∷ ps) [] h = absurd h
pieces_long y names l g (p ∷ ps) (c ∷ cs) (w, made, h) =
    let b = nat_eq l.context.segment g in
    parts_cons c cs g
    ∙ ap (λ n. n + sum_by part_len (parts_in cs g)) (if_found (λ (m : PieceResult). IsLong l.context.segment (piece_len p) m.content) (slot_result y names (deferred_piece l p)) (record { content = c; warning = w }) made (coming_long y names l.place l.context p) g)
    ∙ ap (λ n. there b (piece_len p) + n) (pieces_long y (names ++ exported_names c.said) l g ps cs h)
    ∙ there_plus b (piece_len p) (sum_by piece_len ps)
    ∙ ap (there b) (sym (sum_by-cons piece_len p ps))

none_first : (n : ℕ) → 0 + n ≡ n
none_first n = omega arith

pub content_is : (m n : PieceResult) → ◌≡◌ {A = Result PieceResult LocatedFault} (Ok m) (Ok n) → m.content ≡ n.content
content_is m n e = (let same : m ≡ n = cc in ap (λ (x : PieceResult). x.content) same)

asked_long : (y : Symbols) (names : List (List ℕ)) (l : LaidOutStatement) (g : ℕ) (b : Bool) (cs : List Content) → AreFound y names ((if b then resolved (section_request l.context.segment) ∷ [] else []) ++ map (deferred_piece l) (pieces_of l.length l.encoding l.stated)) cs →
    sum_by part_len (parts_in cs g) ≡ there (nat_eq l.context.segment g) (sum_by piece_len (pieces_of l.length l.encoding l.stated))
asked_long y names l g false cs h = pieces_long y names l g (pieces_of l.length l.encoding l.stated) cs h
asked_long y names l g true [] h = absurd h
asked_long y names l g true (c ∷ cs) (w, made, h) =
    let is : section_request l.context.segment ≡ c = content_is (without_warning (section_request l.context.segment)) (record { content = c; warning = w }) made in
    parts_cons c cs g ∙ ap (λ n. n + sum_by part_len (parts_in cs g)) (ap (λ (d : Content). sum_by part_len (parts_in (d ∷ []) g)) (sym is) ∙ asking_long l.context.segment g)
    ∙ none_first (sum_by part_len (parts_in cs g))
    ∙ pieces_long y (names ++ exported_names c.said) l g (pieces_of l.length l.encoding l.stated) cs h

-- ---- Encodings of instructions.

-- the instruction has an opcode in this mode; without an operand, no bytes follow the opcode
record IsForm (m : Mnemonic) (t : Option Tree) (mode : Mode) : Type 0 where
  code : part_len (opcode_part (opcode_of m mode)) ≡ 1
  alone : t ≡ None → width_of mode ≡ None

abbrev MayForm : Mnemonic → Option Tree → Option Mode → Type 0
MayForm m t None = ⊤
MayForm m t (Some mode) = IsForm m t mode

abbrev Alone : Option Tree → Mode → Type 0
Alone t mode = t ≡ None → width_of mode ≡ None

with_code : (m : Mnemonic) (t : Option Tree) (mode : Mode) (c : ℕ) → Alone t mode → opcode_of m mode ≡ Some c → IsForm m t mode
with_code m t mode c a h = record { code = ap (λ o. part_len (opcode_part o)) h; alone = a }

first_some : (m : Mnemonic) (a b : Mode) (c : ℕ) → opcode_of m a ≡ Some c → first_of m a b ≡ Some a
first_some m a b c h = rw h refl

first_second : (m : Mnemonic) (a b : Mode) (c : ℕ) → opcode_of m a ≡ None → opcode_of m b ≡ Some c → first_of m a b ≡ Some b
first_second m a b c h k = rw (h, k) refl

first_none : (m : Mnemonic) (a b : Mode) → opcode_of m a ≡ None → opcode_of m b ≡ None → first_of m a b ≡ None
first_none m a b h k = rw (h, k) refl

first_form : (m : Mnemonic) (t : Option Tree) (a b : Mode) → Alone t a → Alone t b → MayForm m t (first_of m a b)
first_form m t a b v w = go (opcode_of m a) (opcode_of m b) refl refl
  where
    go : (x y : Option ℕ) → opcode_of m a ≡ x → opcode_of m b ≡ y → MayForm m t (first_of m a b)
    go (Some c) y h k = subst (MayForm m t) (sym (first_some m a b c h)) (with_code m t a c v h)
    go None (Some d) h k = subst (MayForm m t) (sym (first_second m a b d h k)) (with_code m t b d w k)
    go None None h k = subst (MayForm m t) (sym (first_none m a b h k)) tt

stored_after : (e : Tree) (mode : Mode) → Alone (Some e) mode
stored_after e mode h = absurd cc

address_form : (m : Mnemonic) (e : Tree) (forced : Option AddressSize) (own : AddressSize) (r : Option Index) → MayForm m (Some e) (address_mode m forced own r)
address_form m e x1 own r = grind (arith, common_steps)

branch_form : (m : Mnemonic) (e : Tree) (forced : Option AddressSize) (r : Option Index) → is_branch m ≡ true → MayForm m (Some e) (branch_mode forced r)
branch_form m e x1 x2 b = grind (arith, common_steps)

operand_mode : (before : Symbols) (s : Context) (own : AddressSize) (m : Mnemonic) (o : Operand) → MayForm m (operand_tree o) (mode_of before s own m o)
operand_mode before s own m operand.Absent = first_form m None Implied Accumulator (λ h. refl) (λ h. refl)
operand_mode before s own m operand.Accumulator = first_form m None Accumulator Accumulator (λ h. refl) (λ h. refl)
operand_mode before s own m (operand.Immediate e) = first_form m (Some e) Immediate Immediate (stored_after e Immediate) (stored_after e Immediate)
operand_mode before s own m (operand.Address forced e r) = by (is_branch m) refl
  where
    by : (b : Bool) → is_branch m ≡ b → MayForm m (Some e) (if b then branch_mode forced r else address_mode m forced (size_of before s own e) r)
    by true h = branch_form m e forced r h
    by false h = address_form m e forced (size_of before s own e) r
operand_mode before s own m (operand.Indirect e) = first_form m (Some e) Indirect Indirect (stored_after e Indirect) (stored_after e Indirect)
operand_mode before s own m (operand.IndirectX e) = first_form m (Some e) IndirectX IndirectX (stored_after e IndirectX) (stored_after e IndirectX)
operand_mode before s own m (operand.IndirectY e) = first_form m (Some e) IndirectY IndirectY (stored_after e IndirectY) (stored_after e IndirectY)

-- ---- Parts of files.

between_taken : (bytes : List ℕ) (start : ℕ) (len : Option ℤ) → length (take (length (bytes_between bytes start len)) (drop start bytes)) ≡ length (bytes_between bytes start len)
between_taken bytes start x1 = grind (arith, common_steps)

file_taken : (before : Symbols) (s : Context) (bytes : Option (List ℕ)) (start len : Option Tree) → length (file_bytes (file_len before s bytes start len) bytes (FileOffset (part_start before s start))) ≡ file_len before s bytes start len
file_taken before s x1 start len = grind (arith, common_steps, between_taken)

-- ---- The pieces of a statement have the statement's length.

items_long : (width : Width) (its : List Item) → sum_by piece_len (map (item_piece width) its) ≡ sum_by (item_len width) its
items_long width [] = refl
items_long width (it ∷ its) = sum_by-cons piece_len (item_piece width it) (map (item_piece width) its) ∙ ap (λ n. piece_len (item_piece width it) + n) (items_long width its) ∙ ap (λ n. n + sum_by (item_len width) its) (one it) ∙ sym (sum_by-cons (item_len width) it its)
  where
    one : (it : Item) → piece_len (item_piece width it) ≡ item_len width it
    one (Value e) = refl
    one (StringLiteral bytes) = refl

operands_long : (w : Option Width) (t : Option Tree) → (t ≡ None → w ≡ None) → sum_by piece_len (operand_pieces w t) ≡ operand_len w
operands_long None t a = refl
operands_long (Some width) None a = (let none : Some width ≡ None = a refl in absurd cc)
operands_long (Some width) (Some e) a = sum_by-cons piece_len (expression_value (purpose.operand width) e) [] ∙ omega arith

instruction_long : (m : Mnemonic) (o : Operand) (mode : Option Mode) → MayForm m (operand_tree o) mode → sum_by piece_len (instruction_pieces m o (mode_encoding mode)) ≡ mode_len mode
instruction_long m o None f = refl
instruction_long m o (Some mode) f =
    sum_by-cons piece_len (known_part (opcode_part (opcode_of m mode))) (operand_pieces (width_of mode) (operand_tree o))
    ∙ ap (λ n. n + sum_by piece_len (operand_pieces (width_of mode) (operand_tree o))) f.code ∙ ap (λ n. 1 + n) (operands_long (width_of mode) (operand_tree o) f.alone)

room_long : (before : Symbols) (s : Context) (len : ℕ) (v : Option Tree) → part_len (reserve_part len (fill_encoding before s v)) ≡ len
room_long before s len x1 = grind (arith, common_steps)

one_long : (p : Part) (len : ℕ) → part_len p ≡ len → sum_by piece_len (known_part p ∷ []) ≡ len
one_long p len h = sum_by-cons piece_len (known_part p) [] ∙ (let same = h in omega (arith, same))

silent : (make : List ℕ → Piece) → ((n : List ℕ) → piece_len (make n) ≡ 0) → (names : List (List ℕ)) → sum_by piece_len (map make names) ≡ 0
silent make is [] = refl
silent make is (n ∷ names) = (let first = is n in let more = silent make is names in sum_by-cons piece_len (make n) (map make names) ∙ omega (arith, first, more))

measured_long : (before : Symbols) (s : Context) (own : AddressSize) (x : Statement) → sum_by piece_len (pieces_of (length_of before s own x) (encoding_of before s own x) x) ≡ length_of before s own x
measured_long before s own (Instruction m o) = instruction_long m o (mode_of before s own m o) (operand_mode before s own m o)
measured_long before s own (Values width its) = items_long width its
measured_long before s own (Reserve n v) = one_long (reserve_part (length_of before s own (Reserve n v)) (fill_encoding before s v)) (length_of before s own (Reserve n v)) (room_long before s (length_of before s own (Reserve n v)) v)
measured_long before s own (Align n v) = one_long (reserve_part (length_of before s own (Align n v)) (fill_encoding before s v)) (length_of before s own (Align n v)) (room_long before s (length_of before s own (Align n v)) v)
measured_long before s own (Incbin bytes start more) = grind (arith, common_steps, one_long, file_taken)
measured_long before s own (Constant n e) = refl
measured_long before s own (Import size names) = silent imported (λ n. refl) names
measured_long before s own (Export names) = silent (exported true) (λ n. refl) names
measured_long before s own (Global size names) = silent (exported false) (λ n. refl) names
measured_long before s own (ForceImport names) = sum_by-append piece_len (map imported names) (map forced_import names) ∙ ap (λ n. n + sum_by piece_len (map forced_import names)) (silent imported (λ n. refl) names) ∙ none_first (sum_by piece_len (map forced_import names)) ∙ silent forced_import (λ n. refl) names
measured_long before s own (Assert e act words) = refl
measured_long before s own _ = refl

-- the contents of a statement add as many bytes to its segment as the statement is long
pub slots_long : (y : Symbols) (names : List (List ℕ)) (before : Symbols) (l : LaidOutStatement) (g : ℕ) (cs : List Content) → IsMeasured before l → AreFound y names (slots_of l) cs → sum_by part_len (parts_in cs g) ≡ (if nat_eq l.context.segment g then l.length else 0)
slots_long y names before l g cs e h =
    asked_long y names l g (needs_section l.stated) cs h
    ∙ ap (λ n. there (nat_eq l.context.segment g) n)
    (ap (λ n. sum_by piece_len (pieces_of n l.encoding l.stated)) e.length ∙ ap (λ z. sum_by piece_len (pieces_of (length_of before l.context l.size l.stated) z l.stated)) e.encoding
    ∙ measured_long before l.context l.size l.stated ∙ sym e.length)
