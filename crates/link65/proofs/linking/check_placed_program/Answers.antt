use Rattle.std.proofs.Common.{◌∙◌, ap, sym, subst, List, ℕ, map}
use Rattle.std.proofs.lemmas.Result.{err_from_is_err_and}
use Rattle.base65.specs.Outcome.{RefinesProp}
use Rattle.script65.specs.declared.placement.RowPlacement.{RowPlacement}
use Rattle.script65.specs.declared.script.SegmentRow.{SegmentRow}
use Rattle.link65.specs.declared.parts.SegmentContent.{SegmentContent}
use Rattle.link65.specs.declared.evaluation.ExportState.{ExportState}
use Rattle.link65.specs.declared.parts.ModuleAssertion.{ModuleAssertion}
use Rattle.link65.specs.declared.parts.ModuleExport.{ModuleExport}
use Rattle.link65.specs.declared.parts.LinkedModule.{LinkedModule}
use Rattle.link65.specs.CodeInvariants.{segments_from, program_in}
use Rattle.link65.specs.Faults.{is_memory}
use Rattle.link65.specs.Names.{weak_symbols}
use Rattle.link65.specs.Placed.{AllFound, AreFinalStates, export_results, IsCheckedLink, bindings_in}
use Rattle.link65.specs.Values.{table_exports, linkage, run_of}
use Rattle.link65.proofs.FinishLemmas.{placed_by, resolved_all}
use Rattle.link65.proofs.linking.check_placed_program.Goals as goal

pub returns-in_err-all : goal.returns-in_err-all
returns-in_err-all c =
    let p = err_from_is_err_and c.from_residual-in_err-all.result c.from_residual-in_err-all.ensures.1 in
    rw (p.1, p.2) tt

pub returns-in_err-states : goal.returns-in_err-states
returns-in_err-states c =
    let p = err_from_is_err_and c.from_residual-in_err-states.result c.from_residual-in_err-states.ensures.1 in
    rw (p.1, p.2) tt

pub check_and_emit-requires : goal.check_and_emit-requires
check_and_emit-requires c = record {
  ready = record {
    found = subst (λ (ms : List ExportState). AllFound ms) (sym c.as_slice-10.ensures.value) c.in_ok-states.ensures.found;
    named = c.requires.names ∙ sym (ap (λ (cs : List SegmentContent). map (λ x. x.name) cs) c.as_slice-8.ensures.value);
  };
  names = c.in_ok-names.ensures.names;
  script_symbols = c.in_ok-names.ensures.own ∙ c.as_slice-2.ensures ∙ c.in_ok-script_symbols.ensures;
  weak = c.in_ok-names.ensures.weak ∙ c.as_slice-3.ensures ∙ c.in_ok-weak.ensures ∙ ap weak_symbols c.as_slice.ensures;
  exports = c.in_ok-names.ensures.exports;
}

pub returns : goal.returns
returns c =
    let s = c.args.script.now in
    let placement = c.args.placement.now in
    let g = c.args.program in
    let p = program_in g in
    let names = c.in_ok-names in
    let modules = c.as_slice-modules.result.now in
    let states = c.as_slice-10.result.now in
    let run = λ (name : List ℕ).
    c.in_ok-runs.ensures name
    ∙ ap (λ (rs : List SegmentRow). run_of rs c.as_slice-5.result.now name) c.as_slice-4.ensures
    ∙ ap (λ (ps : List RowPlacement). run_of s.rows ps name) c.as_slice-5.ensures in
    let resolved =
    resolved_all s p placement names.names c.in_ok-runs.runs names.ensures.names (names.ensures.own ∙ c.as_slice-2.ensures ∙ c.in_ok-script_symbols.ensures) (names.ensures.exports ∙ c.as_slice-exports.ensures) (names.ensures.weak ∙ c.as_slice-3.ensures ∙ c.in_ok-weak.ensures ∙ ap weak_symbols c.as_slice.ensures) run g.members in
    let same = c.as_slice-modules.ensures ∙ c.in_ok-all.ensures ∙ ap (λ (ms : List LinkedModule). map (bindings_in names.names c.in_ok-runs.runs) ms) c.as_slice-6.ensures ∙ resolved in
    let found : AreFinalStates (linkage modules p.exports) states =
    subst (λ (ms : List ExportState). AreFinalStates (linkage modules p.exports) ms) (sym c.as_slice-10.ensures.value)
    (subst (λ (es : List ModuleExport). AreFinalStates (linkage modules es) c.in_ok-states.states.items) c.as_slice-exports.ensures c.in_ok-states.ensures) in
    let Ends : List LinkedModule → List SegmentContent → List ModuleExport → List ModuleAssertion → Type 0 = λ ms cs es ts.
    RefinesProp is_memory (IsCheckedLink s (record { members = ms; segments = segments_from cs; exports = es; asserts = ts }) placement (linkage modules es) (table_exports (export_results states))) c.check_and_emit.result in
    let members : Ends g.members c.as_slice-8.result.now c.as_slice-exports.result.now c.as_slice-9.result.now =
    subst (λ (ms : List LinkedModule). Ends ms c.as_slice-8.result.now c.as_slice-exports.result.now c.as_slice-9.result.now) c.as_slice-7.ensures c.check_and_emit.ensures in
    let contents : Ends g.members g.contents.items c.as_slice-exports.result.now c.as_slice-9.result.now =
    subst (λ (cs : List SegmentContent). Ends g.members cs c.as_slice-exports.result.now c.as_slice-9.result.now) c.as_slice-8.ensures.value members in
    let exports : Ends g.members g.contents.items g.exports c.as_slice-9.result.now =
    subst (λ (es : List ModuleExport). Ends g.members g.contents.items es c.as_slice-9.result.now) c.as_slice-exports.ensures contents in
    let passed : Ends g.members g.contents.items g.exports g.asserts =
    subst (λ (ts : List ModuleAssertion). Ends g.members g.contents.items g.exports ts) c.as_slice-9.ensures exports in
    placed_by s p placement modules states c.check_and_emit.result same found passed
