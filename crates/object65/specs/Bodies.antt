-- The bodies of records: their contents, or the error of a malformed body.
use Rattle.std.specs.Prelude.{ℕ, ℤ, zero, suc, ◌-◌, List, [], ◌∷◌, length, take, drop, get_or, Option, Some, None, Result, Ok, Err, nat_lt, ◌==◌, ◌||◌, not, if◌then◌else◌}
use Rattle.std.specs.Int.{w64, cast_signed}
use Rattle.byteorder.specs.Endian.{little_number}
use Rattle.object65.specs.declared.fault.ObjectError.{ObjectError}
use Rattle.object65.specs.declared.fault.ObjectError.TheVariants.{BadSize}
use Rattle.base65.specs.declared.values.Op1.{Op1}
use Rattle.base65.specs.declared.values.Op2.{Op2}
use Rattle.base65.specs.declared.action.Action.{Action}
use Rattle.base65.specs.declared.action.Action.TheVariants as action
use Rattle.object65.specs.declared.object.Assert.{Assert}
use Rattle.object65.specs.declared.object.Export.{Export}
use Rattle.object65.specs.declared.object.Origin.{Origin}
use Rattle.base65.specs.declared.width.Width.{Width}
use Rattle.base65.specs.declared.width.Width.TheVariants.{Byte, Word, BigEndianWord, Dword, Branch}
use Rattle.object65.specs.Record.{◌>>=◌}
use Rattle.object65.specs.Operators.{op1_of, op2_of}
use Rattle.object65.specs.Form.{Form, lit, sec, imp, prefix, binary}
use Rattle.object65.specs.Objects.{section_limit}

-- a number of this many bytes at the front, and the rest
abbrev pub number_at : ℕ → List ℕ → Result (ℕ × List ℕ) ObjectError
number_at len bytes = if nat_lt (length bytes) len then Err BadSize else Ok (little_number len bytes, drop len bytes)

-- a number of eight bytes in two's complement
abbrev pub signed_at : List ℕ → Result (ℤ × List ℕ) ObjectError
signed_at bytes = number_at 8 bytes >>= (λ x. Ok (cast_signed w64 x.0, x.1))

-- this many bytes at the front, and the rest
abbrev pub text_at : ℕ → List ℕ → Result (List ℕ × List ℕ) ObjectError
text_at len bytes = if nat_lt (length bytes) len then Err BadSize else Ok (take len bytes, drop len bytes)

-- a byte with the length, and that many bytes
unfoldable pub counted_text_at : List ℕ → Result (List ℕ × List ℕ) ObjectError
counted_text_at bytes = do
  len ← number_at 1 bytes
  text_at len.0 len.1

abbrev pub op1_at : ℕ → Option Op1
op1_at code = if nat_lt code 0x10 || nat_lt 0x15 code then None else Some (op1_of (code - 0x0f))

abbrev pub op2_at : ℕ → Option Op2
op2_at code = if nat_lt code 0x20 || nat_lt 0x32 code then None else Some (op2_of (code - 0x20))

unfoldable pub lit_at : List ℕ → Result (Form × List ℕ) ObjectError
lit_at bytes = do
  value ← signed_at bytes
  Ok (lit value.0, value.1)

unfoldable pub sec_at : List ℕ → Result (Form × List ℕ) ObjectError
sec_at bytes = do
  section ← number_at 4 bytes
  offset ← signed_at section.1
  Ok (sec section.0 offset.0, offset.1)

unfoldable pub imp_at : List ℕ → Result (Form × List ℕ) ObjectError
imp_at bytes = do
  index ← number_at 4 bytes
  Ok (imp index.0, index.1)

unfoldable pub prefix_at : (List ℕ → Result (Form × List ℕ) ObjectError) → Op1 → List ℕ → Result (Form × List ℕ) ObjectError
prefix_at part op bytes = do
  f ← part bytes
  Ok (prefix op f.0, f.1)

unfoldable pub binary_at : (List ℕ → Result (Form × List ℕ) ObjectError) → Op2 → List ℕ → Result (Form × List ℕ) ObjectError
binary_at part op bytes = do
  f ← part bytes
  g ← part f.1
  Ok (binary op f.0 g.0, g.1)

-- the operation with a code, whose operands are read by `part`
abbrev pub operation_at : (List ℕ → Result (Form × List ℕ) ObjectError) → Option Op1 → Option Op2 → List ℕ → Result (Form × List ℕ) ObjectError
operation_at part (Some op) other bytes = prefix_at part op bytes
operation_at part None (Some op) bytes = binary_at part op bytes
operation_at part None None bytes = Err BadSize

-- the form that begins with this code, whose operands are read by `part`
abbrev pub form_of_code : (List ℕ → Result (Form × List ℕ) ObjectError) → ℕ → List ℕ → Result (Form × List ℕ) ObjectError
form_of_code part code rest =
    if code == 0x00 then lit_at rest
    else if code == 0x01 then sec_at rest
    else if code == 0x02 then imp_at rest
    else operation_at part (op1_at code) (op2_at code) rest

-- a form nested at most this deep, and the rest
abbrev pub form_at : ℕ → List ℕ → Result (Form × List ℕ) ObjectError
form_at zero bytes = Err BadSize
form_at (suc depth) [] = Err BadSize
form_at (suc depth) (code ∷ rest) = form_of_code (λ xs. form_at depth xs) code rest

abbrev pub value_if_complete : {A : Type 0} → A × List ℕ → Result A ObjectError
value_if_complete x = if length x.1 == 0 then Ok x.0 else Err BadSize

-- a form that consists of all the bytes; each byte begins at most one node
unfoldable pub form_of_all : List ℕ → Result Form ObjectError
form_of_all bytes = form_at (length bytes) bytes >>= value_if_complete

abbrev pub width_of : ℕ → Result Width ObjectError
width_of code =
    if code == 0 then Ok Byte else if code == 1 then Ok Word else if code == 2 then Ok BigEndianWord else if code == 3 then Ok Dword else if code == 4 then Ok Branch else Err BadSize

abbrev pub action_of : ℕ → Result Action ObjectError
action_of code = if code == 0 then Ok action.Warning else if code == 1 then Ok action.Error else Err BadSize

-- the body of a SECTION, without its fragments
pub record SectionHeader : Type 0 where
  pub size : ℕ
  pub align : ℕ
  pub name : List ℕ

abbrev pub section_of : List ℕ → Result SectionHeader ObjectError
section_of body =
    if nat_lt (length body) 5 then Err BadSize
    else if nat_lt section_limit (little_number 4 body) then Err BadSize
    else Ok (record { size = little_number 4 body; align = get_or body 4 0; name = drop 5 body })

abbrev pub literal_of : List ℕ → Result (List ℕ) ObjectError
literal_of body = if length body == 0 then Err BadSize else Ok body

abbrev pub fill_of : List ℕ → Result ℕ ObjectError
fill_of body = if not (length body == 4) || little_number 4 body == 0 then Err BadSize else Ok (little_number 4 body)

-- a line alone
unfoldable pub line_at : List ℕ → Result (Origin × List ℕ) ObjectError
line_at bytes = do
  line ← number_at 4 bytes
  Ok (record { file = None; line = line.0 }, line.1)

-- the index of a file, and a line
unfoldable pub file_line_at : List ℕ → Result (Origin × List ℕ) ObjectError
file_line_at bytes = do
  file ← number_at 4 bytes
  line ← number_at 4 file.1
  Ok (record { file = Some file.0; line = line.0 }, line.1)

-- an origin: in version 1 the line alone
abbrev pub origin_at : ℕ → List ℕ → Result (Origin × List ℕ) ObjectError
origin_at version bytes = if version == 1 then line_at bytes else file_line_at bytes

-- a value's width, its origin and its form
unfoldable pub value_of : ℕ → List ℕ → Result (Width × Origin × Form) ObjectError
value_of version body = do
  code ← number_at 1 body
  width ← width_of code.0
  origin ← origin_at version code.1
  form ← form_of_all origin.1
  Ok (width, origin.0, form)

unfoldable pub export_of : ℕ → List ℕ → Result Export ObjectError
export_of version body = do
  name ← counted_text_at body
  origin ← origin_at version name.1
  form ← form_of_all origin.1
  Ok (record { name = name.0; origin = origin.0; form = form })

unfoldable pub assert_of : ℕ → List ℕ → Result Assert ObjectError
assert_of version body = do
  code ← number_at 1 body
  action ← action_of code.0
  origin ← origin_at version code.1
  text ← counted_text_at origin.1
  form ← form_of_all text.1
  Ok (record { action = action; origin = origin.0; text = text.0; form = form })

abbrev pub end_of : List ℕ → Result (Unit {0}) ObjectError
end_of body = if length body == 0 then Ok tt else Err BadSize
