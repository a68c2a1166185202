-- The bytes of segments: those of statements, and the fill between sections.
use Rattle.std.specs.Prelude.{◌≡◌, ℕ, ◌-◌, ℤ, pos, ◌+ℤ◌, ◌-ℤ◌, true, List, [], ◌∷◌, ◌++◌, replicate, Option, Some, None}
use Rattle.syntax65.specs.Opcodes.{opcode_of}
use Rattle.syntax65.specs.Trees.{Tree}
use Rattle.base65.specs.Values.{wrap_signed}
use Rattle.syntax65.specs.declared.instructions.names.Mnemonic.{Mnemonic}
use Rattle.object65.specs.Objects.{fits_width, value_bytes}
use Rattle.base65.specs.declared.width.Width.{Width}
use Rattle.base65.specs.declared.width.Width.TheVariants.{Branch}
use Rattle.semantics65.specs.Contents.{file_bytes, operand_tree}
use Rattle.semantics65.specs.declared.contexts.EncodingChoice.{EncodingChoice}
use Rattle.semantics65.specs.declared.contexts.EncodingChoice.TheVariants.{InMode, FillByte}
use Rattle.ast65.specs.declared.language.Item.{Item}
use Rattle.ast65.specs.declared.language.Operand.{Operand}
use Rattle.ast65.specs.declared.language.Statement.{Statement}
use Rattle.ast65.specs.declared.language.Statement.TheVariants.{Instruction, Values, Reserve, Align, Incbin}
use Rattle.ast65.specs.declared.language.Item.TheVariants as item
use Rattle.semantics65.specs.Norms.{width_of}
use Rattle.whole65.specs.Segments.{ModuleStatement, end_after, statement_end, statement_item, rounding}
use Rattle.whole65.specs.Segments as segments
use Rattle.whole65.specs.Values.{Program, Value}

-- ---- Values.

-- the stored value of a statement's operand: a branch counts from the address after the branch
abbrev pub operand_value : Width → ℤ → ℤ → ℤ
operand_value Branch address v = wrap_signed (v -ℤ wrap_signed (address +ℤ pos 2))
operand_value width address v = v

-- a value that fits is stored as bytes
abbrev pub EncodesValue : Width → ℤ → List ℕ → Type 0
EncodesValue width v bytes = (fits_width width v ≡ true) × (bytes ≡ value_bytes width v)

-- the bytes of an element of a list of data: a stored value, or the string's own bytes
abbrev pub EncodesDataItem : Program → ModuleStatement → Width → Item → List ℕ → Type 0
EncodesDataItem p x width (item.Value e) bytes = (v : ℤ) × Value p x.owner x.index e v × EncodesValue width v bytes
EncodesDataItem p x width (item.StringLiteral own) bytes = bytes ≡ own

-- the bytes of a list of data: the first element's own bytes, and then the rest
abbrev pub EncodesDataItems : Program → ModuleStatement → Width → List Item → List ℕ → Type 0
EncodesDataItems p x width [] bytes = bytes ≡ []
EncodesDataItems p x width (i ∷ is) bytes =
    (own : List ℕ) × (rest : List ℕ) × EncodesDataItem p x width i own × EncodesDataItems p x width is rest × (bytes ≡ own ++ rest)

-- ---- Instructions.

-- the stored value of an instruction's operand; no byte if the mode has no operand
abbrev pub EncodesOperand : Program → ModuleStatement → Option Width → Option Tree → List ℕ → Type 0
EncodesOperand p x (Some width) (Some e) bytes =
    (v : ℤ) × Value p x.owner x.index e v × EncodesValue width (operand_value width (p.address x.owner x.index) v) bytes
EncodesOperand p x width e bytes = bytes ≡ []

abbrev pub code_bytes : Option ℕ → List ℕ
code_bytes None = []
code_bytes (Some code) = code ∷ []

-- the opcode and the operand
abbrev pub EncodesInstruction : Program → ModuleStatement → Mnemonic → Operand → EncodingChoice → List ℕ → Type 0
EncodesInstruction p x m o (InMode mode) bytes =
    (own : List ℕ) × EncodesOperand p x (width_of mode) (operand_tree o) own × (bytes ≡ code_bytes (opcode_of m mode) ++ own)
EncodesInstruction p x m o _ bytes = bytes ≡ []

-- ---- Statements.

-- the byte of reserved space: the statement's, or else the fill value of the segment's row in the script
abbrev pub reserve_byte : ℕ → EncodingChoice → ℕ
reserve_byte fill (FillByte byte) = byte
reserve_byte fill _ = fill

-- the bytes of a statement at a position, given the fill value of the segment's row
abbrev pub EncodesStatement : Program → ℕ → ℕ → ModuleStatement → List ℕ → Type 0
EncodesStatement p fill position x bytes = go x.laid.stated
  where
    go : Statement → Type 0
    go (Instruction m o) = EncodesInstruction p x m o x.laid.encoding bytes
    go (Values width items) = EncodesDataItems p x width items bytes
    go (Reserve n v) = bytes ≡ replicate x.laid.length (reserve_byte fill x.laid.encoding)
    go (Align n v) = bytes ≡ replicate (statement_end position x.alignment x.laid - position) (reserve_byte fill x.laid.encoding)
    go (Incbin file start len) = bytes ≡ file_bytes x.laid.length file x.laid.encoding
    go _ = bytes ≡ []

-- ---- Segments.

-- the bytes of an item of a segment's list, at a position: the fill up to a multiple, or the bytes of a statement
abbrev pub EncodesSegmentItem : Program → ℕ → ℕ → segments.SegmentItem → List ℕ → Type 0
EncodesSegmentItem p fill position (rounding alignment) bytes = bytes ≡ replicate (end_after position (rounding alignment) - position) fill
EncodesSegmentItem p fill position (statement_item x) bytes = EncodesStatement p fill position x bytes

-- the bytes of the items of a segment's list, the first of which is at a position
abbrev pub EncodesSegmentItems : Program → ℕ → ℕ → List segments.SegmentItem → List ℕ → Type 0
EncodesSegmentItems p fill position [] bytes = bytes ≡ []
EncodesSegmentItems p fill position (x ∷ xs) bytes =
    (own : List ℕ) × (rest : List ℕ) × EncodesSegmentItem p fill position x own × EncodesSegmentItems p fill (end_after position x) xs rest × (bytes ≡ own ++ rest)
