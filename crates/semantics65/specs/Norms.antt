-- Values and normal forms of expressions, final forms, address sizes, addressing modes and lengths.
use Rattle.std.specs.Prelude.{ℕ, zero, suc, ℤ, pos, length, Option, Some, None, slice_get, Result, Ok, Err, ◌≡◌, ◌++◌, List, ◌+◌, ◌-◌, negsuc, Bool, true, false, nat_lt, [], take, drop, sum_by, if◌then◌else◌}
use Rattle.base65.specs.Outcome.{◌>>=◌}
use Rattle.syntax65.specs.Trees.{Tree, number, here, unary, binary}
use Rattle.object65.specs.Form.{Form, lit, sec, imp}
use Rattle.object65.specs.Folding.{fold1, fold2}
use Rattle.object65.specs.declared.folding.FormFault.{FormFault}
use Rattle.object65.specs.declared.folding.FormFault.TheVariants as form
use Rattle.semantics65.specs.Types.{AsmFault, OutOfMemory, Circular, NoValue, TooLarge, NoSuchLabel, Context, Mnemonic, AddressSize, Width, Byte, Word, Branch, Item, Operand, Statement, Instruction, Values, Reserve, Align, Incbin, Value, StringLiteral, EncodingChoice, Undecided, InMode, FillByte, FileOffset}
use Rattle.semantics65.specs.Symbols.{Symbols, Definition, Scope, Binding, defined_at, imported_as, binding_of}
use Rattle.std.specs.Int.{next_multiple_of}
use Rattle.std.specs.List.{list_any}
use Rattle.std.specs.Str.{bytes_eq}
use Rattle.syntax65.specs.Opcodes.{opcode_of}
use Rattle.syntax65.specs.declared.instructions.codes.Mode.{Mode}
use Rattle.syntax65.specs.declared.instructions.codes.Mode.TheVariants.{Implied, Accumulator, Immediate, ZeroPage, ZeroPageX, ZeroPageY, Absolute, AbsoluteX, AbsoluteY, Indirect, IndirectX, IndirectY, Relative}
use Rattle.syntax65.specs.declared.lexing.tokens.AddressSize.TheVariants as size
use Rattle.base65.specs.declared.values.Op1.{Op1}
use Rattle.base65.specs.declared.values.Op1.TheVariants.{LowByte, HighByte, BankByte}
use Rattle.object65.specs.Objects.{width_len}
use Rattle.ast65.specs.declared.language.Index.{Index}
use Rattle.ast65.specs.declared.language.Index.TheVariants as index
use Rattle.ast65.specs.declared.language.Operand.TheVariants as operands

-- ---- Normal forms of expressions by a symbol table, and constant values.

abbrev pub fold_result : Result Form FormFault → Result Form AsmFault
fold_result (Ok f) = Ok f
fold_result (Err form.OutOfMemory) = Err OutOfMemory
fold_result (Err form.NoValue) = Err NoValue
fold_result (Err form.TooLarge) = Err TooLarge

-- the address of a statement
abbrev pub address_of : Context → Form
address_of s = sec s.segment (pos s.offset)

-- the form of an expression, given a form for each name in it
abbrev pub form_by : (Tree → Result Form AsmFault) → Context → Tree → Result Form AsmFault
form_by operand s (number v) = Ok (lit (pos v))
form_by operand s here = Ok (address_of s)
form_by operand s (unary op e) = form_by operand s e >>= (λ f. fold_result (fold1 op f))
form_by operand s (binary op e g) = form_by operand s e >>= (λ f. form_by operand s g >>= (λ h. fold_result (fold2 op f h)))
form_by operand s e = operand e

-- a constant has the form of its expression at the constant's own location, and a label its address
abbrev pub form_of_value : (Context → Tree → Result Form AsmFault) → Context → Option Tree → Result Form AsmFault
form_of_value constant_form s None = Ok (address_of s)
form_of_value constant_form s (Some e) = constant_form s e

abbrev pub form_of_definition : (Context → Tree → Result Form AsmFault) → Option Definition → Result Form AsmFault
form_of_definition constant_form None = Err NoSuchLabel
form_of_definition constant_form (Some d) = form_of_value constant_form d.context d.value

abbrev pub form_of_binding : (Context → Tree → Result Form AsmFault) → Symbols → Binding → Result Form AsmFault
form_of_binding constant_form y (imported_as k) = Ok (imp k)
form_of_binding constant_form y (defined_at j) = form_of_definition constant_form (slice_get y.definitions j)

-- The normal form of an expression, if constants are expanded less than this deep.
abbrev pub norm : ℕ → Symbols → Context → Tree → Result Form AsmFault
norm zero y s e = Err Circular
norm (suc n) y s e = form_by (λ operand. binding_of y s operand >>= form_of_binding (norm n y) y) s e

-- The normal form of an expression. There are as many constants as definitions at most, so an expression
-- that must be expanded deeper is circular.
abbrev pub norm_of : Symbols → Context → Tree → Result Form AsmFault
norm_of y s e = norm (suc (length y.definitions)) y s e

-- the form of the definition at an index
abbrev pub defined_form : Symbols → ℕ → Result Form AsmFault
defined_form y j = form_of_binding (norm_of y) y (defined_at j)

abbrev pub literal_in : Result Form AsmFault → Option ℤ
literal_in (Ok (lit v)) = Some v
literal_in _ = None

-- the value of an expression that is constant by a symbol table
abbrev pub constant_in : Symbols → Context → Tree → Option ℤ
constant_in y s e = literal_in (norm_of y s e)

-- ---- Symbol tables that grow, and forms that stay whatever statements follow.

-- the definitions and scopes of y are a prefix of those of z; imports may differ
pub record Extends (y z : Symbols) : Type 0 where
  pub later_definitions : List Definition
  pub definitions : z.definitions ≡ y.definitions ++ later_definitions
  pub later_scopes : List Scope
  pub scopes : z.scopes ≡ y.scopes ++ later_scopes

-- the form that an expression keeps, whatever statements follow
abbrev pub IsFinal : Symbols → Context → Tree → Form → Type 0
IsFinal y s e f = (z : Symbols) → Extends y z → norm_of z s e ≡ Ok f

-- ---- Address sizes.

abbrev pub is_byte : ℤ → Bool
is_byte (pos n) = nat_lt n 256
is_byte (negsuc n) = false

abbrev pub size_of_value : ℤ → AddressSize
size_of_value v = if is_byte v then size.ZeroPage else size.Absolute

-- the larger of two
abbrev pub larger : AddressSize → AddressSize → AddressSize
larger size.ZeroPage b = b
larger size.Absolute b = size.Absolute

abbrev pub is_byte_selector : Op1 → Bool
is_byte_selector LowByte = true
is_byte_selector HighByte = true
is_byte_selector BankByte = true
is_byte_selector _ = false

abbrev pub size_defined : Option Definition → AddressSize
size_defined None = size.Absolute
size_defined (Some d) = d.size

abbrev pub is_zero_page_name : Symbols → List ℕ → Bool
is_zero_page_name y n = list_any (λ m. bytes_eq m n) y.zero_page

abbrev pub size_of_import : Symbols → Option (List ℕ) → AddressSize
size_of_import y None = size.Absolute
size_of_import y (Some n) = if is_zero_page_name y n then size.ZeroPage else size.Absolute

abbrev pub size_of_binding : Symbols → Result Binding AsmFault → AddressSize
size_of_binding y (Ok (defined_at j)) = size_defined (slice_get y.definitions j)
size_of_binding y (Ok (imported_as k)) = size_of_import y (slice_get y.imports k)
size_of_binding y (Err e) = size.Absolute

abbrev pub size_by : AddressSize → Option ℤ → AddressSize
size_by other None = other
size_by other (Some v) = size_of_value v

-- The address size of an expression, from what is known at its line and the address size `own` of the segment: that of
-- its value if it is constant; a byte after `<`, `>` and `^`; otherwise that of the name, and the largest
-- of its operands.
abbrev pub size_of : Symbols → Context → AddressSize → Tree → AddressSize
size_of y s own (unary op e) = size_by (if is_byte_selector op then size.ZeroPage else size_of y s own e) (constant_in y s (unary op e))
size_of y s own (binary op e f) = size_by (larger (size_of y s own e) (size_of y s own f)) (constant_in y s (binary op e f))
size_of y s own here = own
size_of y s own (number v) = size_of_value (pos v)
size_of y s own e = size_by (size_of_binding y (binding_of y s e)) (constant_in y s e)

-- ---- Instructions.

abbrev pub mode_for : AddressSize → Option Index → Mode
mode_for size.ZeroPage None = ZeroPage
mode_for size.ZeroPage (Some index.X) = ZeroPageX
mode_for size.ZeroPage (Some index.Y) = ZeroPageY
mode_for size.Absolute None = Absolute
mode_for size.Absolute (Some index.X) = AbsoluteX
mode_for size.Absolute (Some index.Y) = AbsoluteY

-- the first of two modes that the instruction has
abbrev pub first_of : Mnemonic → Mode → Mode → Option Mode
first_of m a b = go (opcode_of m a) (opcode_of m b)
  where
    go : Option ℕ → Option ℕ → Option Mode
    go (Some x) other = Some a
    go None (Some y) = Some b
    go None None = None

-- the addressing mode of an address, by a prefix or by the size of its expression
abbrev pub address_mode : Mnemonic → Option AddressSize → AddressSize → Option Index → Option Mode
address_mode m (Some forced) own r = first_of m (mode_for forced r) (mode_for forced r)
address_mode m None size.ZeroPage r = first_of m (mode_for size.ZeroPage r) (mode_for size.Absolute r)
address_mode m None size.Absolute r = first_of m (mode_for size.Absolute r) (mode_for size.ZeroPage r)

abbrev pub is_branch : Mnemonic → Bool
is_branch m = go (opcode_of m Relative)
  where
    go : Option ℕ → Bool
    go None = false
    go (Some x) = true

-- a branch takes only a target, without a prefix
abbrev pub branch_mode : Option AddressSize → Option Index → Option Mode
branch_mode None None = Some Relative
branch_mode forced r = None

-- the addressing mode of an operand, if the instruction has it, given the address size `own` of the segment
abbrev pub mode_of : Symbols → Context → AddressSize → Mnemonic → Operand → Option Mode
mode_of y s own m operands.Absent = first_of m Implied Accumulator
mode_of y s own m operands.Accumulator = first_of m Accumulator Accumulator
mode_of y s own m (operands.Immediate e) = first_of m Immediate Immediate
mode_of y s own m (operands.Address forced e r) = if is_branch m then branch_mode forced r else address_mode m forced (size_of y s own e) r
mode_of y s own m (operands.Indirect e) = first_of m Indirect Indirect
mode_of y s own m (operands.IndirectX e) = first_of m IndirectX IndirectX
mode_of y s own m (operands.IndirectY e) = first_of m IndirectY IndirectY

-- the width of the operand in a mode
abbrev pub width_of : Mode → Option Width
width_of Implied = None
width_of Accumulator = None
width_of Absolute = Some Word
width_of AbsoluteX = Some Word
width_of AbsoluteY = Some Word
width_of Indirect = Some Word
width_of Relative = Some Branch
width_of _ = Some Byte

-- ---- Lengths.

abbrev pub item_len : Width → Item → ℕ
item_len width (Value e) = width_len width
item_len width (StringLiteral bytes) = length bytes

abbrev pub operand_len : Option Width → ℕ
operand_len None = 0
operand_len (Some width) = width_len width

abbrev pub mode_len : Option Mode → ℕ
mode_len None = 0
mode_len (Some mode) = 1 + operand_len (width_of mode)

-- a constant as a number: a count, an alignment, a byte or an offset in a file; 0 if it is negative or there is none
abbrev pub nat_or_zero : Option ℤ → ℕ
nat_or_zero (Some (pos n)) = n
nat_or_zero _ = 0

abbrev pub optional_value : Symbols → Context → Option Tree → ℤ → Option ℤ
optional_value y s None default = Some default
optional_value y s (Some e) default = constant_in y s e

-- the number of bytes up to the next multiple
abbrev pub gap : ℕ → Option ℤ → ℕ
gap offset (Some (pos (suc n))) = next_multiple_of offset (suc n) - offset
gap offset _ = 0

-- the bytes of a file from a start on, as many as given; none without a number
abbrev pub bytes_between : List ℕ → ℕ → Option ℤ → List ℕ
bytes_between bytes start None = []
bytes_between bytes start (Some len) = take (nat_or_zero (Some len)) (drop start bytes)

-- the offset in the file at which a part begins, and its length
abbrev pub part_start : Symbols → Context → Option Tree → ℕ
part_start y s start = nat_or_zero (optional_value y s start (pos 0))

abbrev pub incbin_len : Symbols → Context → Option (List ℕ) → Option Tree → Option Tree → ℕ
incbin_len y s None start len = 0
incbin_len y s (Some bytes) start len =
    length (bytes_between bytes (part_start y s start) (optional_value y s len (pos (length bytes - part_start y s start))))

-- The length of a statement in bytes, from what is known at its line and the address size `own` of the segment.
abbrev pub length_of : Symbols → Context → AddressSize → Statement → ℕ
length_of y s own (Instruction m operand) = mode_len (mode_of y s own m operand)
length_of y s own (Values width items) = sum_by (item_len width) items
length_of y s own (Reserve n v) = nat_or_zero (constant_in y s n)
length_of y s own (Align n v) = gap s.offset (constant_in y s n)
length_of y s own (Incbin bytes start len) = incbin_len y s bytes start len
length_of y s own _ = 0

-- ---- Encoding decisions.

abbrev pub mode_encoding : Option Mode → EncodingChoice
mode_encoding None = Undecided
mode_encoding (Some mode) = InMode mode

abbrev pub fill_encoding : Symbols → Context → Option Tree → EncodingChoice
fill_encoding y s None = Undecided
fill_encoding y s (Some v) = FillByte (nat_or_zero (constant_in y s v))

-- the encoding decisions of a statement at its line, given the address size `own` of the segment
abbrev pub encoding_of : Symbols → Context → AddressSize → Statement → EncodingChoice
encoding_of y s own (Instruction m operand) = mode_encoding (mode_of y s own m operand)
encoding_of y s own (Reserve n v) = fill_encoding y s v
encoding_of y s own (Align n v) = fill_encoding y s v
encoding_of y s own (Incbin bytes start len) = FileOffset (part_start y s start)
encoding_of y s own _ = Undecided
