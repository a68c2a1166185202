-- The object of a module, piece by piece.
use Rattle.std.specs.Prelude.{ℕ, zero, pos, Option, Some, None, Bool, true, false, List, [], ◌∷◌, ◌++◌, codes, decimal, Result, Ok, Err, if◌then◌else◌, map}
use Rattle.std.specs.List.{flat_map, list_any}
use Rattle.std.specs.Str.{bytes_eq}
use Rattle.base65.specs.Outcome.{◌>>=◌}
use Rattle.object65.specs.Form.{Form, lit}
use Rattle.semantics65.specs.Types.{Action, Object, AsmFault, SourceLocation, Statement, Mnemonic, Width, NotDefined, Item, Operand, Constant, Instruction, Values, Reserve, Align, Incbin, Import, Export, Global, ForceImport, Assert, Value, StringLiteral, EncodingChoice, InMode, Context}
use Rattle.base65.specs.declared.action.Action.TheVariants as action
use Rattle.semantics65.specs.Contents.{Content, Part, Known, Declaration, ForcedImport, section_request, section_part, declaration_content, decided_assertion, export_declarations, exported_names, file_bytes, import_fault, opcode_part, operand_form, operand_tree, reserve_part, value_part}
use Rattle.semantics65.specs.Symbols.{LaidOutStatement, Symbols, needs_section, symbols_of, definition_index, named}
use Rattle.ast65.specs.declared.language.Statement.TheVariants as statement
use Rattle.semantics65.specs.Layout.{Layout}
use Rattle.semantics65.specs.Norms.{norm_of, width_of}
use Rattle.semantics65.specs.Numbering.{object_with}
use Rattle.syntax65.specs.Opcodes.{opcode_of}
use Rattle.syntax65.specs.Trees.{Tree}

-- ---- Errors with their locations.

-- an error with its location, whose line is 0 before the first line
pub record LocatedFault : Type 0 where
  pub place : SourceLocation
  pub fault : AsmFault

-- adds the location to an error
abbrev pub with_location : {A : Type 0} → SourceLocation → Result A AsmFault → Result A LocatedFault
with_location location (Ok x) = Ok x
with_location location (Err e) = Err (record { place = location; fault = e })

-- ---- Output.

-- `file:line: Warning: text`
abbrev pub warning_at : SourceLocation → List ℕ → List ℕ
warning_at location words =
    location.file ++ codes ":" ++ decimal location.line ++ codes ": Warning: " ++ words ++ codes "\n"

abbrev pub statement_stdout : Statement → List ℕ
statement_stdout (statement.Out words) = words ++ codes "\n"
statement_stdout _ = []

abbrev pub statement_warning : SourceLocation → Statement → List ℕ
statement_warning location (statement.Warning words) = warning_at location words
statement_warning location _ = []

-- the warning of a warning assertion that the assembler decides and that fails
abbrev pub failed_assertion_text : SourceLocation → Action → List ℕ → Result Form AsmFault → List ℕ
failed_assertion_text location action.Warning words (Ok (lit (pos zero))) = warning_at location words
failed_assertion_text location act words r = []

-- the text that statements print while they are assembled
abbrev pub stdout_text : List LaidOutStatement → List ℕ
stdout_text ls = flat_map (λ l. statement_stdout l.stated) ls

abbrev pub warning_text : List LaidOutStatement → List ℕ
warning_text ls = flat_map (λ l. statement_warning l.place l.stated) ls

-- ---- Pieces.

-- the purpose of an expression's value
pub data Purpose : Type 0 where
  -- an element of a list, or an operand of an instruction
  datum : Width → Purpose
  operand : Width → Purpose
  -- a constant, which has no content, only the error of its expression
  constant_definition : Purpose
  asserted : Action → List ℕ → Purpose

-- a piece of a statement, which has its own result
pub data Piece : Type 0 where
  -- a part that needs no value
  known_part : Part → Piece
  -- an expression, and the purpose of its value
  expression_value : Purpose → Tree → Piece
  -- an imported name, which the module must not define
  imported : List ℕ → Piece
  -- a forced import: a name that is imported even if it is unused
  forced_import : List ℕ → Piece
  -- a name that is exported if it is defined, or that must be defined
  exported : (must : Bool) → List ℕ → Piece

abbrev pub item_piece : Width → Item → Piece
item_piece width (Value e) = expression_value (datum width) e
item_piece width (StringLiteral bytes) = known_part (Known bytes)

abbrev pub operand_pieces : Option Width → Option Tree → List Piece
operand_pieces (Some width) (Some e) = expression_value (operand width) e ∷ []
operand_pieces width e = []

abbrev pub instruction_pieces : Mnemonic → Operand → EncodingChoice → List Piece
instruction_pieces m o (InMode mode) =
    known_part (opcode_part (opcode_of m mode)) ∷ operand_pieces (width_of mode) (operand_tree o)
instruction_pieces m o _ = []

-- the pieces of a statement of this length and with these encoding decisions
abbrev pub pieces_of : ℕ → EncodingChoice → Statement → List Piece
pieces_of count s (Instruction m o) = instruction_pieces m o s
pieces_of count s (Values width items) = map (item_piece width) items
pieces_of count s (Reserve n v) = known_part (reserve_part count s) ∷ []
pieces_of count s (Align n v) = known_part (reserve_part count s) ∷ []
pieces_of count s (Incbin bytes start len) = known_part (Known (file_bytes count bytes s)) ∷ []
pieces_of count s (Constant n e) = expression_value constant_definition e ∷ []
pieces_of count s (Import own names) = map imported names
pieces_of count s (Export names) = map (exported true) names
pieces_of count s (Global own names) = map (exported false) names
pieces_of count s (ForceImport names) = map imported names ++ map forced_import names
pieces_of count s (Assert e act words) = expression_value (asserted act words) e ∷ []
pieces_of count s _ = []

-- ---- The result of a piece.

-- a content, and the warning of a failed assertion
pub record PieceResult : Type 0 where
  pub content : Content
  pub warning : List ℕ

abbrev pub without_warning : Content → PieceResult
without_warning c = record { content = c; warning = [] }

abbrev pub part_result : ℕ → Part → Result PieceResult AsmFault
part_result g p = Ok (without_warning (section_part g p))

abbrev pub declarations_result : List Declaration → Result PieceResult AsmFault
declarations_result ss = Ok (without_warning (declaration_content ss))

-- the result of an export whose name isn't defined
abbrev pub undefined_export_result : (must : Bool) → List ℕ → Result (List Declaration) AsmFault
undefined_export_result true n = Err (NotDefined n)
undefined_export_result false n = Ok []

-- the result of a form, for an expression at this location
abbrev pub value_result : SourceLocation → Context → Purpose → Form → Result PieceResult AsmFault
value_result location s (datum width) f = value_part width location f >>= part_result s.segment
value_result location s (operand width) f =
    operand_form width s f >>= value_part width location >>= part_result s.segment
value_result location s constant_definition f = declarations_result []
value_result location s (asserted act words) f =
    decided_assertion act location words f
    >>= (λ ss. Ok (record { content = declaration_content ss; warning = failed_assertion_text location act words (Ok f) }))

-- the result of a piece of a statement at this location, by a symbol table; or its error
abbrev pub unrepeated_result : Symbols → SourceLocation → Context → Piece → Result PieceResult AsmFault
unrepeated_result y location s (known_part p) = part_result s.segment p
unrepeated_result y location s (expression_value why e) = norm_of y s e >>= value_result location s why
unrepeated_result y location s (imported n) = import_fault y n >>= declarations_result
unrepeated_result y location s (forced_import n) = declarations_result (ForcedImport n ∷ [])
unrepeated_result y location s (exported must n) =
    export_declarations y location n (undefined_export_result must n) (definition_index y (named 0 n)) >>= declarations_result

-- ---- Slots, in the order of the source.

-- a deferred piece, and its location
pub record Fixup : Type 0 where
  pub place : SourceLocation
  pub context : Context
  pub piece : Piece

-- a content, or a piece whose content is decided after the last line
pub data Slot : Type 0 where
  resolved : Content → Slot
  deferred : Fixup → Slot

-- a piece of a laid-out statement, deferred until all statements are laid out
abbrev pub deferred_piece : LaidOutStatement → Piece → Slot
deferred_piece l p = deferred (record { place = l.place; context = l.context; piece = p })

-- a laid-out statement requests its section, if it needs one, and then has its pieces in order
abbrev pub slots_of : LaidOutStatement → List Slot
slots_of l =
    (if needs_section l.stated then resolved (section_request l.context.segment) ∷ [] else [])
    ++ map (deferred_piece l) (pieces_of l.length l.encoding l.stated)

-- an export of a name that was exported before, which has no effect
abbrev pub is_repeated : List (List ℕ) → Piece → Bool
is_repeated names (exported must n) = list_any (bytes_eq n) names
is_repeated names p = false

-- the result of a piece by the symbol table of all statements, after exports of these names
abbrev pub piece_result : Symbols → List (List ℕ) → SourceLocation → Context → Piece → Result PieceResult AsmFault
piece_result y names location s p = if is_repeated names p then declarations_result [] else unrepeated_result y location s p

-- the result of a slot, or its error
abbrev pub slot_result : Symbols → List (List ℕ) → Slot → Result PieceResult LocatedFault
slot_result y names (resolved c) = Ok (without_warning c)
slot_result y names (deferred w) = with_location w.place (piece_result y names w.place w.context w.piece)

-- the contents, or the first error; and the warnings of assertions up to there
pub record Resolution : Type 0 where
  pub found : Result (List Content) LocatedFault
  pub printed_warnings : List ℕ

-- a result, followed by the rest; an error ends the resolution
abbrev pub result_then : Result PieceResult LocatedFault → (PieceResult → Resolution) → Resolution
result_then (Ok m) rest =
    record { found = (rest m).found >>= (λ cs. Ok (m.content ∷ cs)); printed_warnings = m.warning ++ (rest m).printed_warnings }
result_then (Err e) rest = record { found = Err e; printed_warnings = [] }

-- resolves slots once, in source order, after exports of these names
abbrev pub resolution_of : Symbols → List (List ℕ) → List Slot → Resolution
resolution_of y names [] = record { found = Ok []; printed_warnings = [] }
resolution_of y names (x ∷ slots) =
    result_then (slot_result y names x) (λ m. resolution_of y (names ++ exported_names m.content.said) slots)

-- ---- The object of a module.

-- the resolution of laid-out statements, by the symbol table of all
abbrev pub module_resolution : List LaidOutStatement → Resolution
module_resolution ls = resolution_of (symbols_of ls) [] (flat_map slots_of ls)

-- the object of laid-out statements
abbrev pub object_of : Layout → Result Object LocatedFault
object_of y =
    let names : List (List ℕ) = (symbols_of y.laid).imports in
    (module_resolution y.laid).found >>= (λ cs. Ok (object_with y.cursor.segments names cs))

-- the warnings of a module without an error at a line: those of assertions come last
abbrev pub all_warnings : List LaidOutStatement → List ℕ
all_warnings ls = warning_text ls ++ (module_resolution ls).printed_warnings

-- the object or the first error, and the output up to there
pub record Outcome : Type 0 where
  pub result : Result Object LocatedFault
  pub out : List ℕ
  pub err : List ℕ

-- The error of a line comes before all others. After such an error the warnings of assertions aren't printed.
abbrev pub outcome_of : Layout → Option LocatedFault → Outcome
outcome_of y None = record { result = object_of y; out = stdout_text y.laid; err = all_warnings y.laid }
outcome_of y (Some e) = record { result = Err e; out = stdout_text y.laid; err = warning_text y.laid }
