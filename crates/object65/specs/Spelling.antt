-- The encoding of an object, record by record.
use Rattle.std.specs.Prelude.{◌≡◌, ℕ, zero, suc, ◌+◌, ◌/◌, List, [], ◌∷◌, ◌++◌, length, take, drop, map, Option, Some, None, true}
use Rattle.std.specs.List.{flat_map}
use Rattle.std.specs.Int.{w64, cast_unsigned}
use Rattle.byteorder.specs.Endian.{little_bytes}
use Rattle.base65.specs.declared.values.Op1.{Op1}
use Rattle.base65.specs.declared.values.Op1.TheVariants.{Plus, Negate, BitNot, LowByte, HighByte, BankByte, Not}
use Rattle.object65.specs.declared.object.Object.{Object}
use Rattle.object65.specs.declared.object.Section.{Section}
use Rattle.object65.specs.declared.object.Export.{Export}
use Rattle.object65.specs.declared.object.Assert.{Assert}
use Rattle.base65.specs.declared.action.Action.{Action}
use Rattle.base65.specs.declared.action.Action.TheVariants as action
use Rattle.object65.specs.declared.object.Origin.{Origin}
use Rattle.object65.specs.declared.object.Fragment.{Fragment}
use Rattle.object65.specs.declared.object.Fragment.TheVariants.{Literal, Fill, Value}
use Rattle.base65.specs.declared.width.Width.{Width}
use Rattle.base65.specs.declared.width.Width.TheVariants.{Byte, Word, BigEndianWord, Dword, Branch}
use Rattle.object65.specs.Operators.{number2}
use Rattle.object65.specs.Form.{Form, lit, sec, imp, prefix, binary}
use Rattle.object65.specs.Objects.{section_len, is_well_formed_object, ObjectFits}
use Rattle.object65.specs.Record.{RawRecord}

-- a prefix + has no code
abbrev pub code1 : Op1 → List ℕ
code1 Plus = []
code1 Negate = 0x10 ∷ []
code1 BitNot = 0x11 ∷ []
code1 LowByte = 0x12 ∷ []
code1 HighByte = 0x13 ∷ []
code1 BankByte = 0x14 ∷ []
code1 Not = 0x15 ∷ []

abbrev pub form_bytes : Form → List ℕ
form_bytes (lit v) = 0x00 ∷ little_bytes 8 (cast_unsigned w64 v)
form_bytes (sec k a) = 0x01 ∷ (little_bytes 4 k ++ little_bytes 8 (cast_unsigned w64 a))
form_bytes (imp j) = 0x02 ∷ little_bytes 4 j
form_bytes (prefix op f) = code1 op ++ form_bytes f
form_bytes (binary op f g) = (0x20 + number2 op) ∷ (form_bytes f ++ form_bytes g)

abbrev pub width_code : Width → ℕ
width_code Byte = 0
width_code Word = 1
width_code BigEndianWord = 2
width_code Dword = 3
width_code Branch = 4

abbrev pub action_code : Action → ℕ
action_code action.Warning = 0
action_code action.Error = 1

-- the largest body of a record, in bytes
abbrev pub body_limit : ℕ
body_limit = 4096

-- bytes in pieces of the largest body, all full except the last
abbrev pub pieces : ℕ → List ℕ → List (List ℕ)
pieces zero bytes = []
pieces (suc n) bytes = take body_limit bytes ∷ pieces n (drop body_limit bytes)

abbrev pub literal_record : List ℕ → RawRecord
literal_record body = record { kind = 3; body = body }

abbrev pub literal_records : List ℕ → List RawRecord
literal_records bytes = map literal_record (pieces ((length bytes + 4095) / body_limit) bytes)

abbrev pub fill_record : ℕ → RawRecord
fill_record n = record { kind = 4; body = little_bytes 4 n }

-- the index of a file, if there is one
abbrev pub file_bytes : Option ℕ → List ℕ
file_bytes None = []
file_bytes (Some k) = little_bytes 4 k

-- a file if there is one, and a line
abbrev pub origin_bytes : Origin → List ℕ
origin_bytes origin = file_bytes origin.file ++ little_bytes 4 origin.line

abbrev pub value_record : Width → Origin → Form → RawRecord
value_record width origin form = record { kind = 5; body = width_code width ∷ (origin_bytes origin ++ form_bytes form) }

abbrev pub fragment_records : Fragment → List RawRecord
fragment_records (Literal bytes) = literal_records bytes
fragment_records (Fill n) = fill_record n ∷ []
fragment_records (Value width origin form) = value_record width origin form ∷ []

abbrev pub file_record : List ℕ → RawRecord
file_record name = record { kind = 9; body = name }

abbrev pub import_record : List ℕ → RawRecord
import_record name = record { kind = 1; body = name }

abbrev pub section_record : Section → RawRecord
section_record s = record { kind = 2; body = little_bytes 4 (section_len s) ++ s.align ∷ s.name }

abbrev pub export_record : Export → RawRecord
export_record e = record { kind = 6; body = length e.name ∷ (e.name ++ origin_bytes e.origin ++ form_bytes e.form) }

abbrev pub assert_record : Assert → RawRecord
assert_record a = record { kind = 7; body = action_code a.action ∷ (origin_bytes a.origin ++ length a.text ∷ (a.text ++ form_bytes a.form)) }

abbrev pub end_record : RawRecord
end_record = record { kind = 8; body = [] }

-- the records of an object after those of its files
abbrev pub records_after_files : Object → List RawRecord
records_after_files o =
    map import_record o.imports
    ++ map section_record o.sections
    ++ flat_map (λ s. flat_map fragment_records s.fragments) o.sections
    ++ map export_record o.exports
    ++ map assert_record o.asserts
    ++ end_record ∷ []

-- the records of an object
abbrev pub object_records : Object → List RawRecord
object_records o = map file_record o.files ++ records_after_files o

abbrev pub record_bytes : RawRecord → List ℕ
record_bytes e = e.kind ∷ (little_bytes 2 (length e.body) ++ e.body)

abbrev pub magic : List ℕ
magic = 0x52 ∷ 0x36 ∷ 0x35 ∷ 0x6f ∷ []

-- the first bytes of an object of a version
abbrev pub object_head : ℕ → List ℕ
object_head version = magic ++ version ∷ []

-- the only encoding of an object
abbrev pub object_bytes : Object → List ℕ
object_bytes o = object_head o.version ++ flat_map record_bytes (object_records o)

-- the bytes are the encoding of the object
pub record IsObject (bytes : List ℕ) (o : Object) : Type 0 where
  pub well_formed : is_well_formed_object o ≡ true
  pub numbers : ObjectFits o
  pub spelled : bytes ≡ object_bytes o
