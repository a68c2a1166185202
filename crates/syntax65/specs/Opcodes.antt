-- The table of opcodes.
use Rattle.std.specs.Prelude.{ℕ, List, [], ◌∷◌, get_or, Option, Some, None}
use Rattle.syntax65.specs.declared.instructions.names.Mnemonic.{Mnemonic}
use Rattle.syntax65.specs.declared.instructions.names.Mnemonic.TheVariants.{Adc, And, Asl, Bcc, Bcs, Beq, Bit, Bmi, Bne, Bpl, Brk, Bvc, Bvs, Clc, Cld, Cli, Clv, Cmp, Cpx, Cpy, Dec, Dex, Dey, Eor, Inc, Inx, Iny, Jmp, Jsr, Lda, Ldx, Ldy, Lsr, Nop, Ora, Pha, Php, Pla, Plp, Rol, Ror, Rti, Rts, Sbc, Sec, Sed, Sei, Sta, Stx, Sty, Tax, Tay, Tsx, Txa, Txs, Tya}
use Rattle.syntax65.specs.declared.instructions.codes.Mode.{Mode}
use Rattle.syntax65.specs.declared.instructions.codes.Mode.TheVariants.{Implied, Accumulator, Immediate, ZeroPage, ZeroPageX, ZeroPageY, Absolute, AbsoluteX, AbsoluteY, Indirect, IndirectX, IndirectY, Relative}

-- counting: `e` and `e,x` in the zero page, and as words
abbrev pub count : List ℕ → Mode → Option ℕ
count codes ZeroPage = Some (get_or codes 0 0)
count codes ZeroPageX = Some (get_or codes 1 0)
count codes Absolute = Some (get_or codes 2 0)
count codes AbsoluteX = Some (get_or codes 3 0)
count codes _ = None

-- shifts: `a`, and the forms of counting
abbrev pub shift : ℕ → List ℕ → Mode → Option ℕ
shift code codes Accumulator = Some code
shift code codes mode = count codes mode

-- stores of `a`: the forms of counting, then `e,y`, `(e,x)` and `(e),y`
abbrev pub store : List ℕ → Mode → Option ℕ
store codes AbsoluteY = Some (get_or codes 4 0)
store codes IndirectX = Some (get_or codes 5 0)
store codes IndirectY = Some (get_or codes 6 0)
store codes mode = count codes mode

-- arithmetic and loads of `a`: a byte, and the forms of its stores
abbrev pub arithmetic : ℕ → List ℕ → Mode → Option ℕ
arithmetic code codes Immediate = Some code
arithmetic code codes mode = store codes mode

-- without an operand
abbrev pub implied : ℕ → Mode → Option ℕ
implied code Implied = Some code
implied code _ = None

-- branches
abbrev pub branch : ℕ → Mode → Option ℕ
branch code Relative = Some code
branch code _ = None

-- instructions with other forms
abbrev pub other_opcode : Mnemonic → Mode → Option ℕ
other_opcode Bit ZeroPage = Some 0x24
other_opcode Bit Absolute = Some 0x2C
other_opcode Cpx Immediate = Some 0xE0
other_opcode Cpx ZeroPage = Some 0xE4
other_opcode Cpx Absolute = Some 0xEC
other_opcode Cpy Immediate = Some 0xC0
other_opcode Cpy ZeroPage = Some 0xC4
other_opcode Cpy Absolute = Some 0xCC
other_opcode Jmp Absolute = Some 0x4C
other_opcode Jmp Indirect = Some 0x6C
other_opcode Jsr Absolute = Some 0x20
other_opcode Ldx Immediate = Some 0xA2
other_opcode Ldx ZeroPage = Some 0xA6
other_opcode Ldx ZeroPageY = Some 0xB6
other_opcode Ldx Absolute = Some 0xAE
other_opcode Ldx AbsoluteY = Some 0xBE
other_opcode Ldy Immediate = Some 0xA0
other_opcode Ldy ZeroPage = Some 0xA4
other_opcode Ldy ZeroPageX = Some 0xB4
other_opcode Ldy Absolute = Some 0xAC
other_opcode Ldy AbsoluteX = Some 0xBC
other_opcode Stx ZeroPage = Some 0x86
other_opcode Stx ZeroPageY = Some 0x96
other_opcode Stx Absolute = Some 0x8E
other_opcode Sty ZeroPage = Some 0x84
other_opcode Sty ZeroPageX = Some 0x94
other_opcode Sty Absolute = Some 0x8C
other_opcode _ _ = None

-- the opcode of a mnemonic with a form of operand
abbrev pub opcode_of : Mnemonic → Mode → Option ℕ
opcode_of Adc mode = arithmetic 0x69 (0x65 ∷ 0x75 ∷ 0x6D ∷ 0x7D ∷ 0x79 ∷ 0x61 ∷ 0x71 ∷ []) mode
opcode_of And mode = arithmetic 0x29 (0x25 ∷ 0x35 ∷ 0x2D ∷ 0x3D ∷ 0x39 ∷ 0x21 ∷ 0x31 ∷ []) mode
opcode_of Asl mode = shift 0x0A (0x06 ∷ 0x16 ∷ 0x0E ∷ 0x1E ∷ []) mode
opcode_of Bcc mode = branch 0x90 mode
opcode_of Bcs mode = branch 0xB0 mode
opcode_of Beq mode = branch 0xF0 mode
opcode_of Bmi mode = branch 0x30 mode
opcode_of Bne mode = branch 0xD0 mode
opcode_of Bpl mode = branch 0x10 mode
opcode_of Brk mode = implied 0x00 mode
opcode_of Bvc mode = branch 0x50 mode
opcode_of Bvs mode = branch 0x70 mode
opcode_of Clc mode = implied 0x18 mode
opcode_of Cld mode = implied 0xD8 mode
opcode_of Cli mode = implied 0x58 mode
opcode_of Clv mode = implied 0xB8 mode
opcode_of Cmp mode = arithmetic 0xC9 (0xC5 ∷ 0xD5 ∷ 0xCD ∷ 0xDD ∷ 0xD9 ∷ 0xC1 ∷ 0xD1 ∷ []) mode
opcode_of Dec mode = count (0xC6 ∷ 0xD6 ∷ 0xCE ∷ 0xDE ∷ []) mode
opcode_of Dex mode = implied 0xCA mode
opcode_of Dey mode = implied 0x88 mode
opcode_of Eor mode = arithmetic 0x49 (0x45 ∷ 0x55 ∷ 0x4D ∷ 0x5D ∷ 0x59 ∷ 0x41 ∷ 0x51 ∷ []) mode
opcode_of Inc mode = count (0xE6 ∷ 0xF6 ∷ 0xEE ∷ 0xFE ∷ []) mode
opcode_of Inx mode = implied 0xE8 mode
opcode_of Iny mode = implied 0xC8 mode
opcode_of Lda mode = arithmetic 0xA9 (0xA5 ∷ 0xB5 ∷ 0xAD ∷ 0xBD ∷ 0xB9 ∷ 0xA1 ∷ 0xB1 ∷ []) mode
opcode_of Lsr mode = shift 0x4A (0x46 ∷ 0x56 ∷ 0x4E ∷ 0x5E ∷ []) mode
opcode_of Nop mode = implied 0xEA mode
opcode_of Ora mode = arithmetic 0x09 (0x05 ∷ 0x15 ∷ 0x0D ∷ 0x1D ∷ 0x19 ∷ 0x01 ∷ 0x11 ∷ []) mode
opcode_of Pha mode = implied 0x48 mode
opcode_of Php mode = implied 0x08 mode
opcode_of Pla mode = implied 0x68 mode
opcode_of Plp mode = implied 0x28 mode
opcode_of Rol mode = shift 0x2A (0x26 ∷ 0x36 ∷ 0x2E ∷ 0x3E ∷ []) mode
opcode_of Ror mode = shift 0x6A (0x66 ∷ 0x76 ∷ 0x6E ∷ 0x7E ∷ []) mode
opcode_of Rti mode = implied 0x40 mode
opcode_of Rts mode = implied 0x60 mode
opcode_of Sbc mode = arithmetic 0xE9 (0xE5 ∷ 0xF5 ∷ 0xED ∷ 0xFD ∷ 0xF9 ∷ 0xE1 ∷ 0xF1 ∷ []) mode
opcode_of Sec mode = implied 0x38 mode
opcode_of Sed mode = implied 0xF8 mode
opcode_of Sei mode = implied 0x78 mode
opcode_of Sta mode = store (0x85 ∷ 0x95 ∷ 0x8D ∷ 0x9D ∷ 0x99 ∷ 0x81 ∷ 0x91 ∷ []) mode
opcode_of Tax mode = implied 0xAA mode
opcode_of Tay mode = implied 0xA8 mode
opcode_of Tsx mode = implied 0xBA mode
opcode_of Txa mode = implied 0x8A mode
opcode_of Txs mode = implied 0x9A mode
opcode_of Tya mode = implied 0x98 mode
opcode_of m mode = other_opcode m mode
