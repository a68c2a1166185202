-- The names of the mnemonics.
use Rattle.std.specs.Prelude.{◌≡◌, ℕ, List, codes, map, Option, find}
use Rattle.std.specs.Str.{str_eq_ignore_ascii_case}
use Rattle.std.specs.Char.{to_ascii_lowercase}
use Rattle.syntax65.specs.declared.instructions.names.Mnemonic.{Mnemonic}
use Rattle.syntax65.specs.declared.instructions.names.Mnemonic.TheVariants.{Adc, And, Asl, Bcc, Bcs, Beq, Bit, Bmi, Bne, Bpl, Brk, Bvc, Bvs, Clc, Cld, Cli, Clv, Cmp, Cpx, Cpy, Dec, Dex, Dey, Eor, Inc, Inx, Iny, Jmp, Jsr, Lda, Ldx, Ldy, Lsr, Nop, Ora, Pha, Php, Pla, Plp, Rol, Ror, Rti, Rts, Sbc, Sec, Sed, Sei, Sta, Stx, Sty, Tax, Tay, Tsx, Txa, Txs, Tya}
use Rattle.syntax65.specs.declared.instructions.names.TheConstants.Mnemonic.{ALL}

-- in lower case
abbrev pub name_of : Mnemonic → List ℕ
name_of Adc = codes "adc"
name_of And = codes "and"
name_of Asl = codes "asl"
name_of Bcc = codes "bcc"
name_of Bcs = codes "bcs"
name_of Beq = codes "beq"
name_of Bit = codes "bit"
name_of Bmi = codes "bmi"
name_of Bne = codes "bne"
name_of Bpl = codes "bpl"
name_of Brk = codes "brk"
name_of Bvc = codes "bvc"
name_of Bvs = codes "bvs"
name_of Clc = codes "clc"
name_of Cld = codes "cld"
name_of Cli = codes "cli"
name_of Clv = codes "clv"
name_of Cmp = codes "cmp"
name_of Cpx = codes "cpx"
name_of Cpy = codes "cpy"
name_of Dec = codes "dec"
name_of Dex = codes "dex"
name_of Dey = codes "dey"
name_of Eor = codes "eor"
name_of Inc = codes "inc"
name_of Inx = codes "inx"
name_of Iny = codes "iny"
name_of Jmp = codes "jmp"
name_of Jsr = codes "jsr"
name_of Lda = codes "lda"
name_of Ldx = codes "ldx"
name_of Ldy = codes "ldy"
name_of Lsr = codes "lsr"
name_of Nop = codes "nop"
name_of Ora = codes "ora"
name_of Pha = codes "pha"
name_of Php = codes "php"
name_of Pla = codes "pla"
name_of Plp = codes "plp"
name_of Rol = codes "rol"
name_of Ror = codes "ror"
name_of Rti = codes "rti"
name_of Rts = codes "rts"
name_of Sbc = codes "sbc"
name_of Sec = codes "sec"
name_of Sed = codes "sed"
name_of Sei = codes "sei"
name_of Sta = codes "sta"
name_of Stx = codes "stx"
name_of Sty = codes "sty"
name_of Tax = codes "tax"
name_of Tay = codes "tay"
name_of Tsx = codes "tsx"
name_of Txa = codes "txa"
name_of Txs = codes "txs"
name_of Tya = codes "tya"

-- the bytes are the name, in either case
abbrev pub SpellsMnemonic : List ℕ → Mnemonic → Type 0
SpellsMnemonic bytes m = map to_ascii_lowercase bytes ≡ name_of m

-- the mnemonic that the bytes spell
unfoldable pub mnemonic_of : List ℕ → Option Mnemonic
mnemonic_of bytes = find (λ m. str_eq_ignore_ascii_case bytes (name_of m)) ALL
