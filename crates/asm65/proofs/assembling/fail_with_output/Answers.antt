use Rattle.std.proofs.lemmas.Grind.{common_steps}
use Rattle.std.proofs.Common.{arith, ◌≡◌, ◌∙◌, true, false, ap, sym, subst}
use Rattle.syntax65.specs.declared.source_location.SourceLocation.{SourceLocation}
use Rattle.expand65.specs.Representation.{location_of}
use Rattle.semantics65.specs.Views.{location_in}
use Rattle.asm65.proofs.Outcomes.{RefusedBy, failure_inside, memory_silent}
use Rattle.asm65.proofs.assembling.fail_with_output.Goals as goal

pub returns-then-not-is_failure-clause-refused : goal.returns-then-not-is_failure-clause-refused
returns-then-not-is_failure-clause-refused c =
    let at = c.place-line.ensures.current_location in
    let there = location_of c.args.expander in
    let same : location_in c.place-line.result.0.now c.place-line.result.1 ≡ there = ap (λ f. location_in f c.place-line.result.1) at.0 ∙ ap (location_in there.file) at.1 in
    let P : SourceLocation → Type 0 = λ p. RefusedBy c.args.assembler p c.args.fault c.fail_at_location.result in
    subst P same c.fail_at_location.ensures.refused

pub returns-then-not-is_failure-clause-silent : goal.returns-then-not-is_failure-clause-silent
returns-then-not-is_failure-clause-silent c = memory_silent c.fail_at_location.result.result _ c.fail_at_location.ensures.silent

pub returns-clause-silent : goal.returns-clause-silent
returns-clause-silent c = λ h. absurd (let both : true ≡ false = sym h ∙ failure_inside c.args.fault (sym c.is_failure.ensures ∙ c.if-not-is_failure.false) in cc)

pub returns-clause-stopped : goal.returns-clause-stopped
returns-clause-stopped c = grind (arith, common_steps)
