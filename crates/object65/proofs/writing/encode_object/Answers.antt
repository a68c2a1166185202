use Rattle.std.proofs.Common.{◌∙◌, ◌∷◌, [], ◌++◌, List, ℕ, map, ap, append_assoc}
use Rattle.std.proofs.lemmas.Result.{on_ok_weaker}
use Rattle.std.specs.List.{flat_map}
use Rattle.object65.specs.Spelling.{magic, object_head, file_record, import_record, section_record, fragment_records, export_record, assert_record, end_record}
use Rattle.object65.proofs.EncodedBytes.{written_object}
use Rattle.object65.proofs.writing.encode_object.Goals as goal

pub returns : goal.returns
returns c =
    let o = c.args.object.now in
    let head = c.in_ok-push.ensures.items ∙ ap (λ (xs : List ℕ). xs ++ o.version ∷ []) c.in_ok-extend_from_slice.ensures.items ∙ append_assoc c.args.out.now.items magic (o.version ∷ []) in
    on_ok_weaker c.encode_record.result (λ last. written_object c.args.out.now.items (object_head o.version) _ _ _ _ _ _ _ c.encode_record.new.out.items (map file_record o.files) (map import_record o.imports) (map section_record o.sections) (flat_map (λ s. flat_map fragment_records s.fragments) o.sections) (map export_record o.exports) (map assert_record o.asserts) end_record head (rw c.as_slice.ensures at c.in_ok-encode_files.ensures) (rw c.as_slice-2.ensures at c.in_ok-encode_imports.ensures) (rw c.as_slice-3.ensures at c.in_ok-encode_sections.ensures) (rw c.as_slice-4.ensures at c.in_ok-encode_contents.ensures) (rw c.as_slice-5.ensures at c.in_ok-encode_exports.ensures) (rw c.as_slice-6.ensures at c.in_ok-encode_asserts.ensures) last) c.encode_record.ensures
