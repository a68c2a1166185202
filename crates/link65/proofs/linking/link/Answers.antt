use Rattle.std.proofs.Common.{◌≡◌, Bool, true, false, sym, subst, refl, Err, Ok, Result}
use Rattle.std.proofs.lemmas.Result.{err_from_is_err_and}
use Rattle.base65.specs.Outcome.{RefinesProp, AndThen, Unless}
use Rattle.script65.specs.declared.placement.Placement.{Placement}
use Rattle.link65.specs.declared.fault.LinkFault.{LinkFault}
use Rattle.link65.specs.Faults.{is_memory}
use Rattle.link65.specs.CodeInvariants.{program_in}
use Rattle.link65.specs.Links.{IsPlacedLink, placement_result}
use Rattle.link65.proofs.FinishLemmas.{finds_refused, passed_link, refuses_so}
use Rattle.link65.proofs.linking.link.Goals as goal

pub returns-in_err-placement-clause-linked : goal.returns-in_err-placement-clause-linked
returns-in_err-placement-clause-linked c = λ is.
    let p = err_from_is_err_and c.from_residual.result c.from_residual.ensures.1 in
    rw (p.1, p.2) (go (is_memory e) (c.in_err-placement.ensures.placed is))
  where
    e : LinkFault
    e = c.in_err-placement.field-0.0

    go : (b : Bool) → Unless b (placement_result c.args.script.now (program_in c.args.program) ≡ Err e) → Unless b (AndThen (placement_result c.args.script.now (program_in c.args.program)) (IsPlacedLink c.args.output.now c.args.script.now (program_in c.args.program)) (Err e))
    go true u = tt
    go false u = subst (λ (z : Result Placement LinkFault). AndThen z (IsPlacedLink c.args.output.now c.args.script.now (program_in c.args.program)) (Err e)) (sym u) refl

pub returns-in_err-rows-clause-linked : goal.returns-in_err-rows-clause-linked
returns-in_err-rows-clause-linked c = λ is.
    let p = err_from_is_err_and c.from_residual-in_err-rows.result c.from_residual-in_err-rows.ensures.1 in
    let output = c.args.output.now in
    let s = c.args.script.now in
    let program = program_in c.args.program in
    let e = c.in_err-rows.field-0.0 in
    rw (p.1, p.2) (subst (λ (z : Result Placement LinkFault). RefinesProp is_memory (AndThen z (IsPlacedLink output s program)) (Err e)) (sym (c.in_ok-placement.ensures.placed is)) (finds_refused output s program c.in_ok-placement.placement e c.in_err-rows.ensures))

pub returns-in_err-rows-clause-faults : goal.returns-in_err-rows-clause-faults
returns-in_err-rows-clause-faults c =
    let p = err_from_is_err_and c.from_residual-in_err-rows.result c.from_residual-in_err-rows.ensures.1 in
    let e = c.in_err-rows.field-0.0 in
    let program = program_in c.args.program in
    let placement = c.in_ok-placement.placement in
    rw (p.1, p.2) (refuses_so c.args.output.now c.args.script.now program placement (Err e) (finds_refused c.args.output.now c.args.script.now program placement e c.in_err-rows.ensures))

pub returns-clause-linked : goal.returns-clause-linked
returns-clause-linked c = λ is.
    let output = c.args.output.now in
    let s = c.args.script.now in
    let program = program_in c.args.program in
    let x = c.in_ok-rows.field-0 in
    let made = Ok (record { files = c.in_ok-files.files; warnings = x.warnings; map = x.map }) in
    subst (λ (z : Result Placement LinkFault). AndThen z (IsPlacedLink output s program) made) (sym (c.in_ok-placement.ensures.placed is)) (passed_link output s program c.in_ok-placement.placement x c.in_ok-files.files c.in_ok-rows.ensures c.in_ok-files.ensures)
