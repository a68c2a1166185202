use Rattle.std.proofs.Common.{◌∙◌, [], ap, option_map, sym}
use Rattle.std.specs.Prelude.{string_bytes, unwrap_or}
use Rattle.std.specs.Str.{is_utf8}
use Rattle.std.proofs.lemmas.Option.{slice_get-map, slice_get_past}
use Rattle.std.proofs.lemmas.Result.{IfOk-weaker}
use Rattle.std.proofs.lemmas.Str.{IsUtf8-nil, is_utf8-from_IsUtf8}
use Rattle.emit65.proofs.numbering.ordering.file_name.Goals as goal

pub returns-in-Some-clause-text : goal.returns-in-Some-clause-text
returns-in-Some-clause-text c = IfOk-weaker c.copy_of.result _ _ (λ name is. ap is_utf8 (is ∙ c.as_bytes.ensures.value) ∙ is_utf8-from_IsUtf8 _ c.as_str.utf8) c.copy_of.ensures

pub returns-in-None-clause-name : goal.returns-in-None-clause-name
returns-in-None-clause-name c =
    let none = slice_get-map string_bytes c.args.table.now c.args.index ∙ ap (option_map string_bytes) (slice_get_past c.args.table.now c.args.index c.in-None.ensures.lookup.3) in
    c.new.ensures ∙ sym (ap (λ o. unwrap_or o []) none)

pub returns-in-None-clause-text : goal.returns-in-None-clause-text
returns-in-None-clause-text c = ap is_utf8 c.new.ensures ∙ is_utf8-from_IsUtf8 [] IsUtf8-nil
