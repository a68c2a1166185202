-- The pieces of well-formed statements have well-formed contents.
use Rattle.std.proofs.lemmas.Grind.{common_steps}
use Rattle.std.proofs.Common.{arith, ◌≡◌, List, [], ◌∷◌, refl, Result, Ok, Err, ℕ, zero, suc, ◌<◌, ◌≤◌, Bool, true, false, length, map, pos, negsuc, Option, Some, None}
use Rattle.std.specs.Prelude.{⊤, IfOk, ◌&&◌}
use Rattle.std.specs.List.{AllByRecursion, list_all}
use Rattle.base65.specs.Outcome.{◌>>=◌}
use Rattle.syntax65.specs.Opcodes.{opcode_of}
use Rattle.syntax65.specs.Trees.{Tree}
use Rattle.syntax65.specs.declared.source_location.SourceLocation.{SourceLocation}
use Rattle.object65.specs.Form.{Form, lit}
use Rattle.object65.specs.Objects.{is_name}
use Rattle.base65.specs.declared.action.Action.{Action}
use Rattle.base65.specs.declared.action.Action.TheVariants as action
use Rattle.base65.specs.declared.width.Width.{Width}
use Rattle.syntax65.specs.declared.instructions.names.Mnemonic.{Mnemonic}
use Rattle.ast65.specs.declared.fault.AsmFault.{AsmFault}
use Rattle.ast65.specs.declared.language.Item.{Item}
use Rattle.ast65.specs.declared.language.Item.TheVariants.{Value, StringLiteral}
use Rattle.ast65.specs.declared.language.Operand.{Operand}
use Rattle.ast65.specs.declared.language.Statement.{Statement}
use Rattle.ast65.specs.declared.language.Statement.TheVariants.{Constant, Instruction, Values, Reserve, Align, Incbin, Import, Export, Global, ForceImport, Assert}
use Rattle.semantics65.specs.Contents.{Declaration, ExportedSymbol, LinkAssertion, Part, LinkTimeValue, decided_assertion, export_declarations, import_fault, opcode_part, operand_form, operand_tree, reserve_part, value_part, declaration_content, with_file_name_check}
use Rattle.semantics65.specs.Symbols.{needs_section, has_here, Symbols, definition_index, named}
use Rattle.semantics65.specs.declared.contexts.EncodingChoice.{EncodingChoice}
use Rattle.semantics65.specs.declared.contexts.EncodingChoice.TheVariants.{InMode}
use Rattle.semantics65.specs.declared.contexts.Context.{Context}
use Rattle.semantics65.specs.Module.{PieceResult, Piece, undefined_export_result, part_result, declarations_result, asserted, slot_result, datum, forced_import, constant_definition, exported, failed_assertion_text, known_part, imported, instruction_pieces, item_piece, unrepeated_result, operand_pieces, pieces_of, without_warning, value_result, expression_value, deferred}
use Rattle.semantics65.specs.Module as purpose
use Rattle.semantics65.specs.Norms.{defined_form, norm_of, width_of}
use Rattle.semantics65.specs.Numbering.{IsWellFormedStatement, IsWellFormedContent, IsWellFormedDeclaration, IsWellFormedPart}
use Rattle.sources65.proofs.SoundForms.{IsWell, all_append, export_well, well_then}
use Rattle.sources65.proofs.SoundParts.{IsKnown, any_ok, asked_in, below, coming_so, form_at, form_sound, written_with}

-- ---- Names.

pub names_all : (names : List (List ℕ)) → list_all is_name names ≡ true → AllByRecursion (λ n. is_name n ≡ true) names
names_all [] h = tt
names_all (n ∷ ns) h = (first (is_name n) (list_all is_name ns) h, names_all ns (rest (is_name n) (list_all is_name ns) h))
  where
    first : (a b : Bool) → (a && b) ≡ true → a ≡ true
    first true b k = refl
    first false b k = k

    rest : (a b : Bool) → (a && b) ≡ true → b ≡ true
    rest true b k = k
    rest false b k = absurd cc

-- ---- Well-formed pieces.

abbrev pub IsSoundPiece : List ℕ → ℕ → Context → Piece → Type 0
IsSoundPiece requested count s (known_part p) = IsWellFormedPart requested count p
IsSoundPiece requested count s (expression_value (datum width) e) = asked_in requested s.segment ≡ true
IsSoundPiece requested count s (expression_value (purpose.operand width) e) = asked_in requested s.segment ≡ true
IsSoundPiece requested count s (expression_value constant_definition e) = ⊤
IsSoundPiece requested count s (expression_value (asserted act words) e) = (length words < 256) × (has_here e ≡ true → asked_in requested s.segment ≡ true)
IsSoundPiece requested count s (exported must n) = is_name n ≡ true
IsSoundPiece requested count s p = ⊤

-- the result of a piece is well-formed, and its segment is at most that of the statement
abbrev pub IsWellMade : List ℕ → ℕ → Context → PieceResult → Type 0
IsWellMade requested count s m = IsWellFormedContent requested count m.content × (m.content.segment ≤ s.segment)

part_made : (requested : List ℕ) (count : ℕ) (s : Context) (r : Result Part AsmFault) → IfOk r (IsWellFormedPart requested count) → IfOk (r >>= part_result s.segment) (IsWellMade requested count s)
part_made requested count s (Ok p) h = (record { parts = (h, tt); said = tt }, omega arith)
part_made requested count s (Err e) h = tt

said_made : (requested : List ℕ) (count : ℕ) (s : Context) (r : Result (List Declaration) AsmFault) → IfOk r (AllByRecursion (IsWellFormedDeclaration requested count)) → IfOk (r >>= declarations_result) (IsWellMade requested count s)
said_made requested count s (Ok ss) h = (record { parts = tt; said = h }, omega arith)
said_made requested count s (Err e) h = tt

stored_sound : (requested : List ℕ) (count : ℕ) (width : Width) (location : SourceLocation) (f : Form) → IsWell (asked_in requested) (below count) f → IfOk (value_part width location f) (IsWellFormedPart requested count)
stored_sound requested count width location (lit v) w = grind (arith, common_steps)
stored_sound requested count width location f w = written_with (IsWellFormedPart requested count) location (LinkTimeValue width location f) (λ e. (form_at requested count location f w e, refl))

operand_sound : (requested : List ℕ) (count : ℕ) (s : Context) → asked_in requested s.segment ≡ true → (width : Width) (f : Form) → IsWell (asked_in requested) (below count) f → IfOk (operand_form width s f) (IsWell (asked_in requested) (below count))
operand_sound requested count s h x1 f w = grind (arith, common_steps)

absent_sound : (requested : List ℕ) (count : ℕ) (b : Bool) (n : List ℕ) → IfOk (undefined_export_result b n) (AllByRecursion (IsWellFormedDeclaration requested count))
absent_sound requested count true n = tt
absent_sound requested count false n = tt

export_sound : (requested : List ℕ) (count : ℕ) (y : Symbols) → IsKnown requested count y → (location : SourceLocation) (must : Bool) (n : List ℕ) → is_name n ≡ true → (o : Option ℕ) →
    IfOk (export_declarations y location n (undefined_export_result must n) o) (AllByRecursion (IsWellFormedDeclaration requested count))
export_sound requested count y k location must n h None = absent_sound requested count must n
export_sound requested count y k location must n h (Some j) =
    well_then (IsWell (asked_in requested) (below count)) (AllByRecursion (IsWellFormedDeclaration requested count)) (defined_form y j) (λ f. with_file_name_check location (ExportedSymbol n location f ∷ [])) (export_well (asked_in requested) (below count) y k j)
    (λ f w. written_with (AllByRecursion (IsWellFormedDeclaration requested count)) location (ExportedSymbol n location f ∷ []) (λ e. ((h, form_at requested count location f w e), tt)))

import_sound : (requested : List ℕ) (count : ℕ) (y : Symbols) (n : List ℕ) → IfOk (import_fault y n) (AllByRecursion (IsWellFormedDeclaration requested count))
import_sound requested count y n = grind (arith, common_steps)

decided_sound : (requested : List ℕ) (count : ℕ) (act : Action) (location : SourceLocation) (words : List ℕ) (f : Form) → length words < 256 → IsWell (asked_in requested) (below count) f → IfOk (decided_assertion act location words f) (AllByRecursion (IsWellFormedDeclaration requested count))
decided_sound requested count action.Error location words (lit (pos zero)) lt w = tt
decided_sound requested count action.Error location words (lit (pos (suc n))) lt w = tt
decided_sound requested count action.Error location words (lit (negsuc n)) lt w = tt
decided_sound requested count action.Warning location words (lit v) lt w = tt
decided_sound requested count act location words f lt w = written_with (AllByRecursion (IsWellFormedDeclaration requested count)) location (LinkAssertion act location words f ∷ []) (λ e. ((lt, form_at requested count location f w e, refl), tt))

made_sound : (requested : List ℕ) (count : ℕ) (y : Symbols) → IsKnown requested count y → (location : SourceLocation) (s : Context) (p : Piece) → IsSoundPiece requested count s p → IfOk (unrepeated_result y location s p) (IsWellMade requested count s)
made_sound requested count y k location s (known_part p) h = (record { parts = (h, tt); said = tt }, omega arith)
made_sound requested count y k location s (expression_value (datum width) e) h =
    well_then (IsWell (asked_in requested) (below count)) (IsWellMade requested count s) (norm_of y s e) (value_result location s (datum width)) (form_sound requested count y k s e (λ a. h))
    (λ f w. part_made requested count s (value_part width location f) (stored_sound requested count width location f w))
made_sound requested count y k location s (expression_value (purpose.operand width) e) h =
    well_then (IsWell (asked_in requested) (below count)) (IsWellMade requested count s) (norm_of y s e) (value_result location s (purpose.operand width)) (form_sound requested count y k s e (λ a. h))
    (λ f w. part_made requested count s (operand_form width s f >>= value_part width location)
    (well_then (IsWell (asked_in requested) (below count)) (IsWellFormedPart requested count) (operand_form width s f) (value_part width location) (operand_sound requested count s h width f w) (λ g v. stored_sound requested count width location g v)))
made_sound requested count y k location s (expression_value constant_definition e) h = well_then (λ f. ⊤) (IsWellMade requested count s) (norm_of y s e) (value_result location s constant_definition) (any_ok (norm_of y s e)) (λ f u. (record { parts = tt; said = tt }, omega arith))
made_sound requested count y k location s (expression_value (asserted act words) e) h =
    well_then (IsWell (asked_in requested) (below count)) (IsWellMade requested count s) (norm_of y s e) (value_result location s (asserted act words)) (form_sound requested count y k s e h.1)
    (λ f w. well_then (AllByRecursion (IsWellFormedDeclaration requested count)) (IsWellMade requested count s) (decided_assertion act location words f) (λ ss. Ok (record { content = declaration_content ss; warning = failed_assertion_text location act words (Ok f) })) (decided_sound requested count act location words f h.0 w)
    (λ ss v. (record { parts = tt; said = v }, omega arith)))
made_sound requested count y k location s (imported n) h = said_made requested count s (import_fault y n) (import_sound requested count y n)
made_sound requested count y k location s (forced_import n) h = (record { parts = tt; said = (tt, tt) }, omega arith)
made_sound requested count y k location s (exported must n) h = said_made requested count s (export_declarations y location n (undefined_export_result must n) (definition_index y (named 0 n))) (export_sound requested count y k location must n h (definition_index y (named 0 n)))

pub piece_sound : (requested : List ℕ) (count : ℕ) (y : Symbols) → IsKnown requested count y → (names : List (List ℕ)) (location : SourceLocation) (s : Context) (p : Piece) → IsSoundPiece requested count s p →
    IfOk (slot_result y names (deferred (record { place = location; context = s; piece = p }))) (IsWellMade requested count s)
piece_sound requested count y k names location s p h = coming_so (IsWellMade requested count s) y names location s p (λ must n e. (record { parts = tt; said = tt }, omega arith)) (made_sound requested count y k location s p h)

-- ---- The pieces of a well-formed statement are well-formed.

mapped : {A : Type 0} (P : A → Type 0) (Q : Piece → Type 0) (make : A → Piece) → ((x : A) → P x → Q (make x)) → (xs : List A) → AllByRecursion P xs → AllByRecursion Q (map make xs)
mapped P Q make so [] h = tt
mapped P Q make so (x ∷ xs) h = (so x h.0, mapped P Q make so xs h.1)

all_any : {A : Type 0} (xs : List A) → AllByRecursion (λ (x : A). ⊤) xs
all_any [] = tt
all_any (x ∷ xs) = (tt, all_any xs)

item_piece_sound : (requested : List ℕ) (count : ℕ) (s : Context) → asked_in requested s.segment ≡ true → (width : Width) (it : Item) → IsSoundPiece requested count s (item_piece width it)
item_piece_sound requested count s h width (Value e) = h
item_piece_sound requested count s h width (StringLiteral bytes) = tt

code_sound : (requested : List ℕ) (count : ℕ) (o : Option ℕ) → IsWellFormedPart requested count (opcode_part o)
code_sound requested count None = tt
code_sound requested count (Some code) = tt

operands_sound : (requested : List ℕ) (count : ℕ) (s : Context) → asked_in requested s.segment ≡ true → (w : Option Width) (t : Option Tree) → AllByRecursion (IsSoundPiece requested count s) (operand_pieces w t)
operands_sound requested count s h (Some width) (Some e) = (h, tt)
operands_sound requested count s h (Some width) None = tt
operands_sound requested count s h None t = tt

instruction_sound : (requested : List ℕ) (count : ℕ) (s : Context) → asked_in requested s.segment ≡ true → (m : Mnemonic) (o : Operand) (fixed : EncodingChoice) → AllByRecursion (IsSoundPiece requested count s) (instruction_pieces m o fixed)
instruction_sound requested count s h m o (InMode mode) = (code_sound requested count (opcode_of m mode), operands_sound requested count s h (width_of mode) (operand_tree o))
instruction_sound requested count s h m o _ = tt

room_sound : (requested : List ℕ) (count len : ℕ) (fixed : EncodingChoice) → IsWellFormedPart requested count (reserve_part len fixed)
room_sound requested count len fixed = grind (arith)

pub pieces_sound : (requested : List ℕ) (count : ℕ) (s : Context) (len : ℕ) (fixed : EncodingChoice) (x : Statement) → IsWellFormedStatement x → (needs_section x ≡ true → asked_in requested s.segment ≡ true) → AllByRecursion (IsSoundPiece requested count s) (pieces_of len fixed x)
pieces_sound requested count s len fixed (Instruction m o) h a = instruction_sound requested count s (a refl) m o fixed
pieces_sound requested count s len fixed (Values width its) h a = mapped (λ it. ⊤) (IsSoundPiece requested count s) (item_piece width) (λ it u. item_piece_sound requested count s (a refl) width it) its (all_any its)
pieces_sound requested count s len fixed (Reserve n v) h a = (room_sound requested count len fixed, tt)
pieces_sound requested count s len fixed (Align n v) h a = (room_sound requested count len fixed, tt)
pieces_sound requested count s len fixed (Incbin bytes start more) h a = (tt, tt)
pieces_sound requested count s len fixed (Constant n e) h a = (tt, tt)
pieces_sound requested count s len fixed (Import own names) h a = mapped (λ n. ⊤) (IsSoundPiece requested count s) imported (λ n u. tt) names (all_any names)
pieces_sound requested count s len fixed (Export names) h a = mapped (λ n. is_name n ≡ true) (IsSoundPiece requested count s) (exported true) (λ n u. u) names (names_all names h)
pieces_sound requested count s len fixed (Global own names) h a = mapped (λ n. is_name n ≡ true) (IsSoundPiece requested count s) (exported false) (λ n u. u) names (names_all names h)
pieces_sound requested count s len fixed (ForceImport names) h a =
    all_append (IsSoundPiece requested count s) (map imported names) (map forced_import names) (mapped (λ n. ⊤) (IsSoundPiece requested count s) imported (λ n u. tt) names (all_any names)) (mapped (λ n. ⊤) (IsSoundPiece requested count s) forced_import (λ n u. tt) names (all_any names))
pieces_sound requested count s len fixed (Assert e act words) h a = ((h, a), tt)
pieces_sound requested count s len fixed _ h a = tt
