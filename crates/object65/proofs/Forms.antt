-- The lengths of encoded forms.
use Rattle.std.proofs.lemmas.Grind.{common_steps}
use Rattle.std.proofs.Common.{◌≡◌, ◌≤◌, ◌<◌, ℕ, zero, suc, [], ◌∷◌, ◌-◌, take, drop, get_or, ◌+◌, ◌*◌, ◌++◌, List, length, Bool, true, false, ◌&&◌, arith, ap, refl, length-append, Option}
use Rattle.std.proofs.lemmas.Bool.Decides.{nat_tests}
use Rattle.object65.specs.declared.object.Assert.{Assert}
use Rattle.object65.specs.declared.object.Export.{Export}
use Rattle.object65.specs.Small.{is_small_form, is_small_text, is_small_export, is_small_assert}
use Rattle.std.specs.Int.{w64, cast_unsigned}
use Rattle.byteorder.specs.Endian.{little_bytes}
use Rattle.byteorder.specs.Numbers.{length-bytes_low_first}
use Rattle.base65.specs.declared.values.Op1.{Op1}
use Rattle.object65.specs.Form.{Form, lit, sec, imp, prefix, binary, nodes}
use Rattle.object65.specs.Bodies.{form_at, form_of_code}
use Rattle.object65.specs.declared.object.Origin.{Origin}
use Rattle.object65.specs.Spelling.{file_bytes, form_bytes, code1, origin_bytes}

code1_len : (op : Op1) → length (code1 op) ≤ 1
code1_len x = grind (arith, common_steps)

pub form_len : (f : Form) → length (form_bytes f) ≤ 13 * nodes f
form_len (lit v) = omega (arith, length-bytes_low_first 0 8 (cast_unsigned w64 v))
form_len (sec k a) = omega (arith, length-append (little_bytes 4 k) (little_bytes 8 (cast_unsigned w64 a)), length-bytes_low_first 0 4 k, length-bytes_low_first 0 8 (cast_unsigned w64 a))
form_len (imp j) = omega (arith, length-bytes_low_first 0 4 j)
form_len (prefix op f) = omega (arith, length-append (code1 op) (form_bytes f), code1_len op, form_len f)
form_len (binary op f g) = omega (arith, length-append (form_bytes f) (form_bytes g), form_len f, form_len g)

file_len : (file : Option ℕ) → length (file_bytes file) ≤ 4
file_len x = grind (arith, common_steps)

pub origin_len : (o : Origin) → length (origin_bytes o) ≤ 8
origin_len o = omega (arith, length-append (file_bytes o.file) (little_bytes 4 o.line), length-bytes_low_first 0 4 o.line, file_len o.file)

pub small_form : (f : Form) → is_small_form f ≡ true → length (form_bytes f) ≤ 3315
small_form f small = let few : nodes f ≤ 255 = grind (arith, nat_tests) in omega (arith, form_len f, few)

pub small_text : (text : List ℕ) → is_small_text text ≡ true → length text < 256
small_text text small = grind (arith, nat_tests)

both : (a b : Bool) → (a && b) ≡ true → (a ≡ true) × (b ≡ true)
both true b e = (refl, e)
both false b e = cc

pub small_export : (e : Export) → is_small_export e ≡ true → (length e.name < 256) × (length (form_bytes e.form) ≤ 3315)
small_export e small = let p = both (is_small_text e.name) (is_small_form e.form) small in (small_text e.name p.0, small_form e.form p.1)

pub small_assert : (a : Assert) → is_small_assert a ≡ true → (length a.text < 256) × (length (form_bytes a.form) ≤ 3315)
small_assert a small = let p = both (is_small_text a.text) (is_small_form a.form) small in (small_text a.text p.0, small_form a.form p.1)

-- the length of a list after appending
pub added_len : (old piece new : List ℕ) → new ≡ old ++ piece → length new ≡ length old + length piece
added_len old piece new is = omega (arith, ap length is, length-append old piece)

-- decoding a form begins with its code
pub form_steps : (depth : ℕ) (bytes front rest : List ℕ) → (depth ≡ 0 → ⊥) → 0 < length bytes → front ≡ take 1 bytes → rest ≡ drop 1 bytes → form_at depth bytes ≡ form_of_code (λ xs. form_at (depth - 1) xs) (get_or front 0 0) rest
form_steps zero bytes front rest deep some f r = absurd (deep refl)
form_steps (suc depth) [] front rest deep some f r = absurd (omega arith)
form_steps (suc depth) (code ∷ bytes) front rest deep some f r = let less : suc depth - 1 ≡ depth = omega arith in rw (less, f, r) refl
