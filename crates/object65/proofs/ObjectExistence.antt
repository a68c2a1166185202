-- Reading at any offset of any bytes results in an object, or in an error that isn't a system error.
use Rattle.std.proofs.lemmas.Grind.{common_steps}
use Rattle.std.proofs.Common.{arith, ◌≡◌, ◌+◌, ℕ, zero, suc, Bool, true, false, List, [], ◌∷◌, length, take, Option, Some, None, Result, Ok, Err, refl, if◌then◌else◌}
use Rattle.std.specs.Prelude.{nat_lt, ◌==◌}
use Rattle.base65.specs.SystemErrors.{IsNoSystemError}
use Rattle.base65.proofs.SystemErrors.{Own, bad, choice, good, next}
use Rattle.base65.specs.declared.values.Op1.{Op1}
use Rattle.base65.specs.declared.values.Op2.{Op2}
use Rattle.object65.specs.declared.fault.ObjectFault.{ObjectFault}
use Rattle.object65.specs.declared.object.Fragment.{Fragment}
use Rattle.object65.specs.declared.object.Origin.{Origin}
use Rattle.object65.specs.declared.scan.SectionFill.{SectionFill}
use Rattle.object65.specs.Bodies.{number_at, signed_at, text_at, counted_text_at, op1_at, op2_at, lit_at, sec_at, imp_at, prefix_at, binary_at, operation_at, form_of_code, form_at, form_of_all, width_of, action_of, section_of, literal_of, fill_of, line_at, file_line_at, origin_at, value_of, export_of, assert_of, end_of}
use Rattle.object65.specs.Folding.{fold1, is_form_memory_fault, within_node_limit}
use Rattle.object65.specs.Form.{Form}
use Rattle.object65.specs.declared.folding.FormFault.{FormFault}
use Rattle.object65.specs.Laws.{FoldExists, ObjectExists, PartExists}
use Rattle.object65.specs.Record.{◌>>=◌, RawRecord, is_system_error}
use Rattle.object65.specs.Reading.{head_at, record_header, body_or_cut_short, record_at, end_at, records_at, object_at, bytes_between}
use Rattle.object65.specs.Scanning.{State, Outline, ok_if, check_new_name, check_file_index, check_indices, check_canonical, check_canonical_open, fill_or_out_of_order, next_fill, check_capacity, with_literal, with_fill, with_value, scan_file, scan_import, scan_section, scan_part, scan_export, scan_assert, scan_last, scan_end, scan_record, scan_step, outline_of, start, state_after_record, object_of_state}

-- ---- The bodies of records.

number_own : (len : ℕ) (bytes : List ℕ) → Own is_system_error (number_at len bytes)
number_own len bytes = choice (nat_lt (length bytes) len) _ _ (bad _ refl) (good _)

signed_own : (bytes : List ℕ) → Own is_system_error (signed_at bytes)
signed_own bytes = next (number_at 8 bytes) _ (number_own 8 bytes) (λ x. good _)

text_own : (len : ℕ) (bytes : List ℕ) → Own is_system_error (text_at len bytes)
text_own len bytes = choice (nat_lt (length bytes) len) _ _ (bad _ refl) (good _)

counted_own : (bytes : List ℕ) → Own is_system_error (counted_text_at bytes)
unfolding counted_text_at
counted_own bytes = next (number_at 1 bytes) _ (number_own 1 bytes) (λ len. text_own len.0 len.1)

lit_own : (bytes : List ℕ) → Own is_system_error (lit_at bytes)
unfolding lit_at
lit_own bytes = next (signed_at bytes) _ (signed_own bytes) (λ x. good _)

sec_own : (bytes : List ℕ) → Own is_system_error (sec_at bytes)
unfolding sec_at
sec_own bytes = next (number_at 4 bytes) _ (number_own 4 bytes) (λ k. next (signed_at k.1) _ (signed_own k.1) (λ x. good _))

imp_own : (bytes : List ℕ) → Own is_system_error (imp_at bytes)
unfolding imp_at
imp_own bytes = next (number_at 4 bytes) _ (number_own 4 bytes) (λ x. good _)

module _ (part : List ℕ → Result (Form × List ℕ) ObjectFault) (part_own : (bytes : List ℕ) → Own is_system_error (part bytes)) where
  operation_own : (one : Option Op1) (two : Option Op2) (bytes : List ℕ) → Own is_system_error (operation_at part one two bytes)
  unfolding prefix_at binary_at
  operation_own (Some op) two bytes = next (part bytes) _ (part_own bytes) (λ x. good _)
  operation_own None (Some op) bytes = next (part bytes) _ (part_own bytes) (λ f. next (part f.1) _ (part_own f.1) (λ x. good _))
  operation_own None None bytes = bad _ refl

  code_own : (code : ℕ) (rest : List ℕ) → Own is_system_error (form_of_code part code rest)
  code_own code rest =
      choice (code == 0x00) _ _ (lit_own rest)
      (choice (code == 0x01) _ _ (sec_own rest)
      (choice (code == 0x02) _ _ (imp_own rest) (operation_own (op1_at code) (op2_at code) rest)))

form_own : (depth : ℕ) (bytes : List ℕ) → Own is_system_error (form_at depth bytes)
form_own zero bytes = bad _ refl
form_own (suc depth) [] = bad _ refl
form_own (suc depth) (code ∷ rest) = code_own (λ xs. form_at depth xs) (λ xs. form_own depth xs) code rest

all_own : (bytes : List ℕ) → Own is_system_error (form_of_all bytes)
unfolding form_of_all
all_own bytes = next (form_at (length bytes) bytes) _ (form_own (length bytes) bytes) (λ x. choice (length x.1 == 0) _ _ (good _) (bad _ refl))

width_own : (code : ℕ) → Own is_system_error (width_of code)
width_own code = choice (code == 0) _ _ (good _) (choice (code == 1) _ _ (good _) (choice (code == 2) _ _ (good _) (choice (code == 3) _ _ (good _) (choice (code == 4) _ _ (good _) (bad _ refl)))))

action_own : (code : ℕ) → Own is_system_error (action_of code)
action_own code = choice (code == 0) _ _ (good _) (choice (code == 1) _ _ (good _) (bad _ refl))

section_own : (body : List ℕ) → Own is_system_error (section_of body)
section_own body = search (choice, bad, good)

literal_own : (body : List ℕ) → Own is_system_error (literal_of body)
literal_own body = choice _ _ _ (bad _ refl) (good _)

fill_own : (body : List ℕ) → Own is_system_error (fill_of body)
fill_own body = choice _ _ _ (bad _ refl) (good _)

origin_own : (version : ℕ) (bytes : List ℕ) → Own is_system_error (origin_at version bytes)
unfolding line_at file_line_at
origin_own version bytes =
    choice (version == 1) _ _
    (next (number_at 4 bytes) _ (number_own 4 bytes) (λ x. good _))
    (next (number_at 4 bytes) _ (number_own 4 bytes) (λ file. next (number_at 4 file.1) _ (number_own 4 file.1) (λ x. good _)))

value_own : (version : ℕ) (body : List ℕ) → Own is_system_error (value_of version body)
unfolding value_of
value_own version body =
    next (number_at 1 body) _ (number_own 1 body) (λ code.
    next (width_of code.0) _ (width_own code.0) (λ width.
    next (origin_at version code.1) _ (origin_own version code.1) (λ origin.
    next (form_of_all origin.1) _ (all_own origin.1) (λ form. good _))))

export_own : (version : ℕ) (body : List ℕ) → Own is_system_error (export_of version body)
unfolding export_of
export_own version body =
    next (counted_text_at body) _ (counted_own body) (λ name.
    next (origin_at version name.1) _ (origin_own version name.1) (λ origin.
    next (form_of_all origin.1) _ (all_own origin.1) (λ form. good _)))

assert_own : (version : ℕ) (body : List ℕ) → Own is_system_error (assert_of version body)
unfolding assert_of
assert_own version body =
    next (number_at 1 body) _ (number_own 1 body) (λ code.
    next (action_of code.0) _ (action_own code.0) (λ action.
    next (origin_at version code.1) _ (origin_own version code.1) (λ origin.
    next (counted_text_at origin.1) _ (counted_own origin.1) (λ text.
    next (form_of_all text.1) _ (all_own text.1) (λ form. good _)))))

end_own : (body : List ℕ) → Own is_system_error (end_of body)
end_own body = choice _ _ _ (good _) (bad _ refl)

-- ---- The conditions of records.

wants_own : (b : Bool) (e : ObjectFault) → is_system_error e ≡ false → Own is_system_error (ok_if b e)
wants_own b e h = choice b _ _ (good _) (bad e h)

parts_own : (files sections imports : ℕ) (origin : Origin) (f : Form) → Own is_system_error (check_indices files sections imports origin f)
unfolding check_indices
parts_own files sections imports origin f = next (check_file_index files origin) _ (wants_own _ _ refl) (λ u. wants_own _ _ refl)

room_own : (k : ℕ) (r : Option SectionFill) → Own is_system_error (fill_or_out_of_order k r)
room_own k None = bad _ refl
room_own k (Some r) = good _

literal_room : (body : List ℕ) (r : SectionFill) → Own is_system_error (with_literal body r)
unfolding with_literal
literal_room body r =
    next (literal_of body) _ (literal_own body) (λ bytes.
    next (check_capacity r (length bytes)) _ (wants_own _ _ refl) (λ u.
    next (ok_if _ _) _ (wants_own _ _ refl) (λ v. good _)))

fill_room : (body : List ℕ) (r : SectionFill) → Own is_system_error (with_fill body r)
unfolding with_fill
fill_room body r =
    next (fill_of body) _ (fill_own body) (λ count.
    next (check_capacity r count) _ (wants_own _ _ refl) (λ u.
    next (ok_if _ _) _ (wants_own _ _ refl) (λ v. good _)))

value_room : (version files sections imports : ℕ) (body : List ℕ) (r : SectionFill) → Own is_system_error (with_value version files sections imports body r)
unfolding with_value
value_room version files sections imports body r =
    next (value_of version body) _ (value_own version body) (λ value.
    next (check_capacity r _) _ (wants_own _ _ refl) (λ u.
    next (check_indices files sections imports value.1 value.2) _ (parts_own files sections imports value.1 value.2) (λ v.
    next (check_canonical_open value.2) _ (wants_own _ _ refl) (λ w. good _))))

file_own : (o : Outline) (body : List ℕ) → Own is_system_error (scan_file o body)
unfolding scan_file
file_own o body = search (next, wants_own, good)

import_own : (o : Outline) (body : List ℕ) → Own is_system_error (scan_import o body)
unfolding scan_import
import_own o body =
    next (ok_if _ _) _ (wants_own _ _ refl) (λ u.
    next (check_new_name o.imports body) _ (wants_own _ _ refl) (λ v. good _))

scan_section_own : (o : Outline) (body : List ℕ) → Own is_system_error (scan_section o body)
unfolding scan_section
scan_section_own o body =
    next (ok_if _ _) _ (wants_own _ _ refl) (λ u.
    next (section_of body) _ (section_own body) (λ h.
    next (check_new_name o.sections h.name) _ (wants_own _ _ refl) (λ v.
    next (ok_if _ _) _ (wants_own _ _ refl) (λ w. good _))))

part_own : (o : Outline) (grow : SectionFill → Result (SectionFill × Fragment) ObjectFault) → ((r : SectionFill) → Own is_system_error (grow r)) → Own is_system_error (scan_part o grow)
unfolding scan_part
part_own o grow own =
    next (next_fill o.fills) _ (room_own _ _) (λ section.
    next (grow section.1) _ (own section.1) (λ grown. good _))

scan_export_own : (o : Outline) (body : List ℕ) → Own is_system_error (scan_export o body)
unfolding scan_export
scan_export_own o body =
    next (ok_if _ _) _ (wants_own _ _ refl) (λ u.
    next (export_of o.version body) _ (export_own o.version body) (λ e.
    next (check_indices _ _ _ e.origin e.form) _ (parts_own _ _ _ e.origin e.form) (λ v.
    next (check_new_name o.exports e.name) _ (wants_own _ _ refl) (λ w.
    next (check_canonical e.form) _ (wants_own _ _ refl) (λ x. good _)))))

scan_assert_own : (o : Outline) (body : List ℕ) → Own is_system_error (scan_assert o body)
unfolding scan_assert
scan_assert_own o body =
    next (ok_if _ _) _ (wants_own _ _ refl) (λ u.
    next (assert_of o.version body) _ (assert_own o.version body) (λ a.
    next (check_indices _ _ _ a.origin a.form) _ (parts_own _ _ _ a.origin a.form) (λ v.
    next (check_canonical_open a.form) _ (wants_own _ _ refl) (λ w. good _))))

last_own : (o : Outline) (body : List ℕ) → Own is_system_error (scan_last o body)
unfolding scan_last
last_own o body =
    next (ok_if _ _) _ (wants_own _ _ refl) (λ u.
    next (end_of body) _ (end_own body) (λ v. good _))

entry_own : (o : Outline) (e : RawRecord) → Own is_system_error (scan_record o e)
unfolding scan_record
entry_own o e =
    choice _ _ _ (bad _ refl)
    (choice (e.kind == 1) _ _ (import_own o e.body)
    (choice (e.kind == 2) _ _ (scan_section_own o e.body)
    (choice (e.kind == 3) _ _ (part_own o (with_literal e.body) (literal_room e.body))
    (choice (e.kind == 4) _ _ (part_own o (with_fill e.body) (fill_room e.body))
    (choice (e.kind == 5) _ _ (part_own o (with_value o.version _ _ _ e.body) (value_room o.version _ _ _ e.body))
    (choice (e.kind == 6) _ _ (scan_export_own o e.body)
    (choice (e.kind == 7) _ _ (scan_assert_own o e.body)
    (choice (e.kind == 9) _ _ (file_own o e.body) (last_own o e.body)))))))))

scanned_own : (o : Outline) (e : RawRecord) → Own is_system_error (scan_step o e)
unfolding scan_step
scanned_own o e = choice o.failed _ _ (bad _ refl) (choice o.ended _ _ (bad _ refl) (entry_own o e))

after_own : (s : State) (e : RawRecord) → Own is_system_error (state_after_record s e)
unfolding state_after_record
after_own s e = next (scan_step (outline_of s) e) _ (scanned_own (outline_of s) e) (λ x. good _)

-- ---- An object from an offset on.

head_own : (at limit : ℕ) (bytes : List ℕ) → Own is_system_error (head_at at limit bytes)
head_own at limit bytes = choice _ _ _ (bad _ refl) (choice _ _ _ (good _) (bad _ refl))

front_own : (version : ℕ) (front : List ℕ) → Own is_system_error (record_header version front)
front_own version front = search (choice, bad, good)

record_own : (version at limit : ℕ) (bytes : List ℕ) → Own is_system_error (record_at version at limit bytes)
unfolding record_at
record_own version at limit bytes =
    next (record_header version (take 3 (bytes_between bytes at limit))) _ (front_own version (take 3 (bytes_between bytes at limit))) (λ front.
    next (body_or_cut_short front.1 (take front.1 (bytes_between bytes (at + 3) limit))) _ (choice _ _ _ (bad _ refl) (good _)) (λ body.
    choice _ _ _ (bad _ refl) (good _)))

records_own : (n : ℕ) (s : State) (at limit : ℕ) (bytes : List ℕ) → Own is_system_error (records_at n s at limit bytes)
records_own zero s at limit bytes = bad _ refl
records_own (suc n) s at limit bytes =
    next (record_at s.version at limit bytes) _ (record_own s.version at limit bytes) (λ r.
    next (state_after_record s r.0) _ (after_own s r.0) (λ t.
    choice t.ended _ _ (good _) (records_own n t r.1 limit bytes)))

finished_own : (s : State) → Own is_system_error (object_of_state s)
finished_own s = choice s.failed _ _ (bad _ refl) (choice s.ended _ _ (good _) (bad _ refl))

end_at_own : (at limit : ℕ) (bytes : List ℕ) → Own is_system_error (end_at at limit bytes)
end_at_own at limit bytes = choice _ _ _ (bad _ refl) (good _)

scan_end_own : (o : Outline) → Own is_system_error (scan_end o)
scan_end_own o = choice o.failed _ _ (bad _ refl) (choice o.ended _ _ (good _) (bad _ refl))

object_own : (bytes : List ℕ) (at limit : ℕ) → Own is_system_error (object_at at limit bytes)
unfolding object_at
object_own bytes at limit =
    next (head_at at limit bytes) _ (head_own at limit bytes) (λ first.
    next (records_at (length bytes) (start first.0) first.1 limit bytes) _ (records_own (length bytes) (start first.0) first.1 limit bytes) (λ end.
    next (end_at end.1 limit bytes) _ (end_at_own end.1 limit bytes) (λ u. finished_own end.0)))

pub some_object : ObjectExists
some_object bytes at limit = (object_own bytes at limit).own

pub some_part : PartExists
some_part = record {
  head = λ bytes at limit. (head_own at limit bytes).own;
  part = λ bytes version at limit. (record_own version at limit bytes).own;
  end = λ bytes at limit. (end_at_own at limit bytes).own;
  scanned = λ o e. (scanned_own o e).own;
  scan_end = λ o. (scan_end_own o).own;
  taken = λ s e. (after_own s e).own;
  finished = λ s. (finished_own s).own;
}

-- ---- Forms.

limited_own : (f : Form) → IsNoSystemError is_form_memory_fault (within_node_limit f)
limited_own f = grind (arith, common_steps)

prefix_own : (op : Op1) (f : Form) → IsNoSystemError is_form_memory_fault (fold1 op f)
prefix_own op f = grind (arith, common_steps, limited_own)

pub some_fold : FoldExists
some_fold = (prefix_own, λ op f g. grind (arith, common_steps, limited_own))
