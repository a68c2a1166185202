use Rattle.std.proofs.Common.{◌≡◌, ◌∙◌, ◌∷◌, [], ◌++◌, List, ℕ, ℤ, ap, refl, Ok}
use Rattle.std.specs.List.{flat_map}
use Rattle.script65.specs.declared.script.SegmentRow.{SegmentRow}
use Rattle.link65.specs.declared.parts.ScriptSymbol.{ScriptSymbol}
use Rattle.link65.specs.declared.parts.ModuleExport.{ModuleExport}
use Rattle.link65.specs.Links.{check_result}
use Rattle.link65.specs.Texts.{definition_line, export_line, map_text, symbol_lines, weak_line, concat_texts, warnings_of_rows}
use Rattle.link65.specs.Names.{script_definitions, weak_symbols}
use Rattle.link65.specs.Placed.{ChecksSucceed, exported_value, exports_in, linkage_in, symbol_lines_from, map_from_lines, program_in, segments_in, value_line}
use Rattle.link65.proofs.FinishLemmas.{first_ok}
use Rattle.link65.proofs.ListLemmas.{zip_mapped}
use Rattle.link65.proofs.finishing.check_and_emit.Goals as goal

pub returns : goal.returns
returns c =
    let s = c.args.script.now in
    let placement = c.args.placement.now in
    let names = c.args.names.now in
    let p = c.args.program.now in
    let l = linkage_in p in
    let exports = exports_in p in
    let all = p.exports.now in
    let script_symbols = script_definitions s placement in
    let weak = weak_symbols s.symbols in
    let provided = c.as_slice-3.result.now in
    let symbols : c.in_ok-symbols.symbols ≡ symbol_lines script_symbols weak l exports =
    c.in_ok-symbols.ensures
    ∙ ap (λ (ds : List ScriptSymbol). symbol_lines_from ds names.weak.now names.exports.now provided) c.requires.script_symbols
    ∙ ap (λ (ds : List ScriptSymbol). symbol_lines_from script_symbols ds names.exports.now provided) c.requires.weak
    ∙ ap (λ (es : List ModuleExport). symbol_lines_from script_symbols weak es provided) c.requires.exports
    ∙ ap (λ (vs : List ℤ). symbol_lines_from script_symbols weak all vs) (c.as_slice-3.ensures.value ∙ c.in_ok-checked.ensures.values)
    ∙ ap (λ (lines : List ℕ). concat_texts (flat_map definition_line script_symbols ∷ lines ∷ flat_map (weak_line script_symbols all) weak ∷ [])) (zip_mapped value_line (exported_value l exports) (export_line l exports) (λ x. refl) all) in
    let map : c.in_ok-map.map ≡ map_text s (program_in p) placement l exports = c.in_ok-map.ensures ∙ ap (map_from_lines p.members.now s.rows placement.rows) (c.as_slice-4.ensures ∙ symbols) in
    let warnings =
    c.in_ok-extend_from_slice.ensures.ok
    ∙ ap (λ t. c.in_ok-warnings.warnings ++ t) c.as_slice-2.ensures
    ∙ ap (λ t. t ++ c.in_ok-checked.checked.assertions) (c.in_ok-warnings.ensures ∙ ap (λ (rs : List SegmentRow). warnings_of_rows rs (segments_in p)) c.as_slice.ensures) in
    first_ok (check_result s (program_in p) l exports) c.in_ok-checked.checked.assertions (ChecksSucceed s (program_in p) placement l exports) (Ok (record { rows = c.in_ok-checked.checked.rows; warnings = c.extend_from_slice.new.self; map = c.in_ok-map.map })) c.in_ok-checked.ensures.checked
    (c.in_ok-checked.ensures.rows, warnings, map)
