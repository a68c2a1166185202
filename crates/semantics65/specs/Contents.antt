-- The content of statements in an object.
use Rattle.std.specs.Prelude.{ℕ, Bool, List, zero, ◌+◌, pos, true, false, [], ◌∷◌, filter_map, replicate, take, drop, Option, Some, None, Result, Ok, Err, if◌then◌else◌}
use Rattle.semantics65.specs.Types.{SourceLocation, Action, Width, Branch, AsmFault, OutOfRange, ImportedAndDefined, Assertion, FileNameTooLong, Operand, Immediate, Address, Indirect, IndirectX, IndirectY, EncodingChoice, FillByte, FileOffset, Context}
use Rattle.object65.specs.Form.{Form, lit, sec}
use Rattle.base65.specs.Outcome.{◌>>=◌}
use Rattle.syntax65.specs.Trees.{Tree}
use Rattle.object65.specs.Folding.{fold2}
use Rattle.object65.specs.Objects.{fits_width, is_file_name, value_bytes}
use Rattle.base65.specs.declared.action.Action.TheVariants as action
use Rattle.base65.specs.declared.values.Op2.TheVariants.{Subtract}
use Rattle.semantics65.specs.Symbols.{Symbols, named, definition_index}
use Rattle.semantics65.specs.Norms.{defined_form, fold_result}

-- ---- The content of a module's object: parts of sections, and declarations for other modules and the linker.

-- a part of a section
pub data Part : Type 0 where
  -- known bytes
  Known : List ℕ → Part
  -- bytes of the linker's fill value
  ReservedBytes : ℕ → Part
  -- a deferred value, which the linker computes from its form, and the location of its statement
  LinkTimeValue : Width → SourceLocation → Form → Part

-- a declaration of a statement
pub data Declaration : Type 0 where
  -- a name that the module exports, and the location of the export
  ExportedSymbol : List ℕ → SourceLocation → Form → Declaration
  -- an import that is requested even if no form uses it
  ForcedImport : List ℕ → Declaration
  -- a condition that the linker checks, and the text that it prints otherwise
  LinkAssertion : Action → SourceLocation → List ℕ → Form → Declaration

abbrev pub exported_name : Declaration → Option (List ℕ)
exported_name (ExportedSymbol n location f) = Some n
exported_name s = None

-- the exported names of declarations
abbrev pub exported_names : List Declaration → List (List ℕ)
exported_names ss = filter_map exported_name ss

-- the content of a piece of a statement in the object
pub record Content : Type 0 where
  -- the segment, as an index into the segments
  pub segment : ℕ
  -- whether it requests a section of the segment; a requested section can be without bytes
  pub requests_section : Bool
  -- its parts of the section
  pub parts : List Part
  -- its declarations
  pub said : List Declaration

-- ---- Files whose name an object can hold.

-- a value that contains this location, namely a part or a list of declarations; an error if an object can't hold the name of
-- its file
abbrev pub with_file_name_check : {A : Type 0} → SourceLocation → A → Result A AsmFault
with_file_name_check location a = if is_file_name location.file then Ok a else Err FileNameTooLong

-- ---- Parts of sections.

-- a value whose form is a literal is checked and stored as bytes; any other is stored as a form
abbrev pub value_part : Width → SourceLocation → Form → Result Part AsmFault
value_part width location (lit v) = if fits_width width v then Ok (Known (value_bytes width v)) else Err OutOfRange
value_part width location f = with_file_name_check location (LinkTimeValue width location f)

-- a branch stores the distance of its target from the next instruction
abbrev pub operand_form : Width → Context → Form → Result Form AsmFault
operand_form Branch s f = fold_result (fold2 Subtract f (sec s.segment (pos (s.offset + 2))))
operand_form width s f = Ok f

abbrev pub operand_tree : Operand → Option Tree
operand_tree (Immediate e) = Some e
operand_tree (Address size e r) = Some e
operand_tree (Indirect e) = Some e
operand_tree (IndirectX e) = Some e
operand_tree (IndirectY e) = Some e
operand_tree _ = None

abbrev pub opcode_part : Option ℕ → Part
opcode_part None = Known []
opcode_part (Some code) = Known (code ∷ [])

-- reserved bytes: of the given value, or else of the linker's fill value
abbrev pub reserve_part : ℕ → EncodingChoice → Part
reserve_part count (FillByte byte) = Known (replicate count byte)
reserve_part count _ = ReservedBytes count

-- bytes of a file, from an offset on
abbrev pub file_bytes : ℕ → Option (List ℕ) → EncodingChoice → List ℕ
file_bytes count (Some bytes) (FileOffset start) = take count (drop start bytes)
file_bytes count bytes _ = []

-- ---- Declarations of a statement.

-- the error of an import that the module also defines
abbrev pub import_fault : Symbols → List ℕ → Result (List Declaration) AsmFault
import_fault y n = go (definition_index y (named 0 n))
  where
    go : Option ℕ → Result (List Declaration) AsmFault
    go None = Ok []
    go (Some j) = Err (ImportedAndDefined n)

-- the export of a name, if the module defines it; otherwise the result `absent`
abbrev pub export_declarations : Symbols → SourceLocation → List ℕ → Result (List Declaration) AsmFault → Option ℕ → Result (List Declaration) AsmFault
export_declarations y location n absent None = absent
export_declarations y location n absent (Some j) = defined_form y j >>= (λ f. with_file_name_check location (ExportedSymbol n location f ∷ []))

-- an assertion whose form is a literal is decided; any other is passed to the linker
abbrev pub decided_assertion : Action → SourceLocation → List ℕ → Form → Result (List Declaration) AsmFault
decided_assertion action.Error location words (lit (pos zero)) = Err (Assertion words)
decided_assertion act location words (lit v) = Ok []
decided_assertion act location words f = with_file_name_check location (LinkAssertion act location words f ∷ [])

-- ---- Contents of one kind.

-- a request for the section of a segment
abbrev pub section_request : ℕ → Content
section_request g = record { segment = g; requests_section = true; parts = []; said = [] }

-- a part of a section
abbrev pub section_part : ℕ → Part → Content
section_part g p = record { segment = g; requests_section = false; parts = p ∷ []; said = [] }

-- declarations
abbrev pub declaration_content : List Declaration → Content
declaration_content ss = record { segment = 0; requests_section = false; parts = []; said = ss }
