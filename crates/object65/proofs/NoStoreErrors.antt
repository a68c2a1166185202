-- Decoding and checking records never results in a store error.
use Rattle.std.proofs.lemmas.Grind.{common_steps}
use Rattle.std.proofs.Common.{arith, ◌≡◌, ℕ, zero, suc, ◌-◌, List, [], ◌∷◌, length, Bool, true, false, cond, not, ◌&&◌, ◌||◌, ◌==◌, nat_le, Option, Result, Ok, Err}
use Rattle.std.specs.Str.{is_utf8}
use Rattle.byteorder.specs.Endian.{little_number}
use Rattle.base65.specs.declared.action.Action.TheVariants as action
use Rattle.base65.specs.declared.width.Width.TheVariants.{Byte, Word, BigEndianWord, Dword, Branch}
use Rattle.object65.specs.Folding.{has_valid_indices, is_normal, is_literal, node_limit}
use Rattle.object65.specs.Objects.{has_file, is_name, is_among}
use Rattle.object65.specs.declared.object.Origin.{Origin}
use Rattle.object65.specs.declared.fault.ObjectFault.{ObjectFault}
use Rattle.object65.specs.declared.fault.ObjectFault.TheVariants.{FailedBefore, FileError, OutOfOrder, IndexOutOfRange, BadSize, NotCanonical}
use Rattle.object65.specs.declared.scan.SectionFill.{SectionFill}
use Rattle.base65.specs.declared.values.Op1.{Op1}
use Rattle.base65.specs.declared.values.Op2.{Op2}
use Rattle.object65.specs.Bodies
use Rattle.object65.specs.Record.{◌>>=◌}
use Rattle.object65.specs.Form.{Form, nodes}
use Rattle.object65.specs.Scanning

abbrev pub IsFree : {A : Type 0} → Result A ObjectFault → Type 0
IsFree r = r ≡ Err FileError → ⊥

pub bound : {A B : Type 0} (r : Result A ObjectFault) (f : A → Result B ObjectFault) → IsFree r → ((x : A) → IsFree (f x)) → IsFree (r >>= f)
bound x f h k e = grind (arith, common_steps)

pub chosen : {A : Type 0} (b : Bool) (x y : Result A ObjectFault) → IsFree x → IsFree y → IsFree (cond b x y)
chosen true x y h k = h
chosen false x y h k = k

pub ok : {A : Type 0} (x : A) → IsFree (Ok x)
ok x e = cc

pub bad : {A : Type 0} → IsFree {A = A} (Err BadSize)
bad e = cc

pub astray : {A : Type 0} → IsFree {A = A} (Err OutOfOrder)
astray e = cc

pub failed : {A : Type 0} → IsFree {A = A} (Err FailedBefore)
failed e = cc

pub wants_astray : (b : Bool) → IsFree (Scanning.ok_if b OutOfOrder)
wants_astray b = chosen b (Ok tt) (Err OutOfOrder) (ok tt) astray

pub wants_size : (b : Bool) → IsFree (Scanning.ok_if b BadSize)
wants_size b = chosen b (Ok tt) (Err BadSize) (ok tt) bad

away : {A : Type 0} → IsFree {A = A} (Err IndexOutOfRange)
away e = cc

loose : {A : Type 0} → IsFree {A = A} (Err NotCanonical)
loose e = cc

wants_index : (b : Bool) → IsFree (Scanning.ok_if b IndexOutOfRange)
wants_index b = chosen b (Ok tt) (Err IndexOutOfRange) (ok tt) away

pub wants_canonical : (b : Bool) → IsFree (Scanning.ok_if b NotCanonical)
wants_canonical b = chosen b (Ok tt) (Err NotCanonical) (ok tt) loose

number_free : (len : ℕ) (bytes : List ℕ) → IsFree (Bodies.number_at len bytes)
number_free len bytes = chosen _ _ _ bad (ok _)

text_free : (len : ℕ) (bytes : List ℕ) → IsFree (Bodies.text_at len bytes)
text_free len bytes = chosen _ _ _ bad (ok _)

counted_free : (bytes : List ℕ) → IsFree (Bodies.counted_text_at bytes)
unfolding Bodies.counted_text_at
counted_free bytes = bound _ _ (number_free 1 bytes) (λ x. text_free x.0 x.1)

signed_free : (bytes : List ℕ) → IsFree (Bodies.signed_at bytes)
signed_free bytes = bound _ _ (number_free 8 bytes) (λ x. ok _)

lit_free : (bytes : List ℕ) → IsFree (Bodies.lit_at bytes)
unfolding Bodies.lit_at
lit_free bytes = bound _ _ (signed_free bytes) (λ x. ok _)

sec_free : (bytes : List ℕ) → IsFree (Bodies.sec_at bytes)
unfolding Bodies.sec_at
sec_free bytes = bound _ _ (number_free 4 bytes) (λ x. bound _ _ (signed_free x.1) (λ y. ok _))

imp_free : (bytes : List ℕ) → IsFree (Bodies.imp_at bytes)
unfolding Bodies.imp_at
imp_free bytes = bound _ _ (number_free 4 bytes) (λ x. ok _)

prefix_free : (part : List ℕ → Result (Form × List ℕ) ObjectFault) (op : Op1) (bytes : List ℕ) → ((xs : List ℕ) → IsFree (part xs)) → IsFree (Bodies.prefix_at part op bytes)
unfolding Bodies.prefix_at
prefix_free part op bytes h = bound _ _ (h bytes) (λ x. ok _)

binary_free : (part : List ℕ → Result (Form × List ℕ) ObjectFault) (op : Op2) (bytes : List ℕ) → ((xs : List ℕ) → IsFree (part xs)) → IsFree (Bodies.binary_at part op bytes)
unfolding Bodies.binary_at
binary_free part op bytes h = bound _ _ (h bytes) (λ x. bound _ _ (h x.1) (λ y. ok _))

operation_free : (part : List ℕ → Result (Form × List ℕ) ObjectFault) (p : Option Op1) (q : Option Op2) (bytes : List ℕ) → ((xs : List ℕ) → IsFree (part xs)) → IsFree (Bodies.operation_at part p q bytes)
operation_free part x q bytes h = grind (arith, common_steps, prefix_free, binary_free, bad)

form_free : (depth : ℕ) (bytes : List ℕ) → IsFree (Bodies.form_at depth bytes)
form_free zero bytes = bad
form_free (suc depth) [] = bad
form_free (suc depth) (code ∷ rest) = chosen _ _ _ (lit_free rest) (chosen _ _ _ (sec_free rest) (chosen _ _ _ (imp_free rest) (operation_free (λ xs. Bodies.form_at depth xs) (Bodies.op1_at code) (Bodies.op2_at code) rest (form_free depth))))

all_free : (bytes : List ℕ) → IsFree (Bodies.form_of_all bytes)
unfolding Bodies.form_of_all
all_free bytes = bound _ _ (form_free (length bytes) bytes) (λ x. chosen _ _ _ (ok _) bad)

width_free : (code : ℕ) → IsFree (Bodies.width_of code)
width_free code = chosen (code == 0) _ _ (ok Byte) (chosen (code == 1) _ _ (ok Word) (chosen (code == 2) _ _ (ok BigEndianWord) (chosen (code == 3) _ _ (ok Dword) (chosen (code == 4) _ _ (ok Branch) bad))))

action_free : (code : ℕ) → IsFree (Bodies.action_of code)
action_free code = chosen (code == 0) _ _ (ok action.Warning) (chosen (code == 1) _ _ (ok action.Error) bad)

pub literal_free : (body : List ℕ) → IsFree (Bodies.literal_of body)
literal_free body = chosen (length body == 0) _ _ bad (ok body)

pub fill_free : (body : List ℕ) → IsFree (Bodies.fill_of body)
fill_free body = chosen (not (length body == 4) || little_number 4 body == 0) _ _ bad (ok (little_number 4 body))

pub room_free : (r : SectionFill) (len : ℕ) → IsFree (Scanning.check_capacity r len)
room_free r len = wants_size (nat_le len (r.size - r.filled))

known_file_free : (n : ℕ) (o : Origin) → IsFree (Scanning.check_file_index n o)
known_file_free n o = wants_index (has_file n o.file)

known_free : (n i : ℕ) (f : Form) → IsFree (Scanning.check_form_indices n i f)
known_free n i f = wants_index (has_valid_indices n i f)

pub parts_free : (m n i : ℕ) (o : Origin) (f : Form) → IsFree (Scanning.check_indices m n i o f)
unfolding Scanning.check_indices
parts_free m n i o f = bound _ _ (known_file_free m o) (λ u. known_free n i f)

pub name_free : (names : List (List ℕ)) (name : List ℕ) → IsFree (Scanning.check_new_name names name)
name_free names name = wants_canonical (is_name name && not (is_among names name))

pub canonical_free : (f : Form) → IsFree (Scanning.check_canonical f)
canonical_free f = wants_canonical (is_normal f && nat_le (nodes f) node_limit)

pub open_free : (f : Form) → IsFree (Scanning.check_canonical_open f)
open_free f = wants_canonical (is_normal f && nat_le (nodes f) node_limit && not (is_literal f))

line_free : (bytes : List ℕ) → IsFree (Bodies.line_at bytes)
unfolding Bodies.line_at
line_free bytes = bound _ _ (number_free 4 bytes) (λ l. ok _)

file_line_free : (bytes : List ℕ) → IsFree (Bodies.file_line_at bytes)
unfolding Bodies.file_line_at
file_line_free bytes = bound _ _ (number_free 4 bytes) (λ f. bound _ _ (number_free 4 f.1) (λ l. ok _))

origin_free : (v : ℕ) (bytes : List ℕ) → IsFree (Bodies.origin_at v bytes)
origin_free v bytes = chosen (v == 1) _ _ (line_free bytes) (file_line_free bytes)

pub value_free : (v : ℕ) (body : List ℕ) → IsFree (Bodies.value_of v body)
unfolding Bodies.value_of
value_free v body = bound _ _ (number_free 1 body) (λ c. bound _ _ (width_free c.0) (λ w. bound _ _ (origin_free v c.1) (λ l. bound _ _ (all_free l.1) (λ f. ok _))))

pub export_free : (v : ℕ) (body : List ℕ) → IsFree (Bodies.export_of v body)
unfolding Bodies.export_of
export_free v body = bound _ _ (counted_free body) (λ n. bound _ _ (origin_free v n.1) (λ l. bound _ _ (all_free l.1) (λ f. ok _)))

pub assert_free : (v : ℕ) (body : List ℕ) → IsFree (Bodies.assert_of v body)
unfolding Bodies.assert_of
assert_free v body = bound _ _ (number_free 1 body) (λ c. bound _ _ (action_free c.0) (λ a. bound _ _ (origin_free v c.1) (λ l. bound _ _ (counted_free l.1) (λ t. bound _ _ (all_free t.1) (λ f. ok _)))))
