use Rattle.std.proofs.Common.{arith, ◌≡◌, ◌∙◌, ap, map, sym, subst, List, Ok, Result}
use Rattle.std.proofs.lemmas.Grind.{common_steps}
use Rattle.script65.specs.Faults.{is_place_system_error}
use Rattle.script65.specs.declared.placement.PlaceFault.{PlaceFault}
use Rattle.script65.specs.declared.placement.Placement.{Placement}
use Rattle.script65.specs.declared.placement.SegmentNeed.{SegmentNeed}
use Rattle.script65.specs.declared.script.Script.{Script}
use Rattle.link65.specs.declared.parts.SegmentContent.{SegmentContent}
use Rattle.link65.specs.Programs.{Program}
use Rattle.std.proofs.lemmas.Result.{err_from_is_err_and}
use Rattle.base65.specs.Outcome.{◌>>=◌, RefinesErr}
use Rattle.base65.proofs.Outcome.{refused-then}
use Rattle.script65.specs.Placing.{place_of}
use Rattle.link65.specs.declared.fault.LinkFault.{LinkFault}
use Rattle.link65.specs.Faults.{is_memory, of_place}
use Rattle.link65.specs.CodeInvariants.{program_in, segments_from}
use Rattle.link65.specs.Links.{as_placement, check_imports_defined, placement_result}
use Rattle.link65.specs.Values.{need_of, needs_of}
use Rattle.link65.proofs.linking.placement_of.Goals as goal

pub returns-in_err-check_names-clause-placed : goal.returns-in_err-check_names-clause-placed
returns-in_err-check_names-clause-placed c = λ is.
    let p = err_from_is_err_and c.from_residual.result c.from_residual.ensures.1 in
    let s = c.args.script.now in
    let program = program_in c.args.program.now in
    rw (p.1, p.2) (refused-then is_memory c.in_err-check_names.field-0.0 (check_imports_defined s program) (λ u. as_placement (place_of s (needs_of program))) (c.in_err-check_names.ensures.provided program is (sym c.as_slice.ensures)))

-- if the imported names are defined, the placement of the needs is `placement_result`
placed_so : (s : Script) (p : Program) (needs : List SegmentNeed) → check_imports_defined s p ≡ Ok tt → needs ≡ needs_of p → as_placement (place_of s needs) ≡ placement_result s p
placed_so s p needs provided same = ap (λ ns. as_placement (place_of s ns)) same ∙ sym (ap (λ (r : Result (Unit {0}) LinkFault). r >>= (λ u. as_placement (place_of s (needs_of p)))) provided)

placed_refused : (f : PlaceFault) (r : Result Placement PlaceFault) → RefinesErr is_place_system_error f r → RefinesErr is_memory (of_place f) (as_placement r)
placed_refused f x h = grind (arith, common_steps)

pub returns-in_err-place-clause-placed : goal.returns-in_err-place-clause-placed
returns-in_err-place-clause-placed c = λ is.
    let p = err_from_is_err_and c.from_residual-in_err-place.result c.from_residual-in_err-place.ensures.1 in
    let s = c.args.script.now in
    let program = program_in c.args.program.now in
    let f = c.in_err-place.field-0.0 in
    let needs = c.as_slice-3.ensures ∙ c.in_ok-needs.ensures ∙ ap (λ (cs : List SegmentContent). map need_of (segments_from cs)) c.as_slice-2.ensures.value in
    let same = placed_so s program c.as_slice-3.result.now (c.in_ok-check_names.ensures.provided program is (sym c.as_slice.ensures)) needs in
    rw (p.1, p.2) (subst (λ (r : Result Placement LinkFault). RefinesErr is_memory (of_place f) r) same (placed_refused f (place_of s c.as_slice-3.result.now) c.in_err-place.ensures.value))

pub returns-clause-placed : goal.returns-clause-placed
returns-clause-placed c = λ is.
    let program = program_in c.args.program.now in
    let needs = c.as_slice-3.ensures ∙ c.in_ok-needs.ensures ∙ ap (λ (cs : List SegmentContent). map need_of (segments_from cs)) c.as_slice-2.ensures.value in
    sym (placed_so c.args.script.now program c.as_slice-3.result.now (c.in_ok-check_names.ensures.provided program is (sym c.as_slice.ensures)) needs) ∙ ap as_placement c.in_ok-place.ensures.value
