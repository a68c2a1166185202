use Rattle.std.proofs.lemmas.Grind.{common_steps}
use Rattle.std.proofs.Common.{◌≡◌, ◌∙◌, ℕ, List, ap, false, arith}
use Rattle.std.specs.Prelude.{Some, Err}
use Rattle.sources65.specs.Machine.{State, outcome_of_state}
use Rattle.semantics65.specs.Module.{Outcome, LocatedFault}
use Rattle.asm65.specs.Assembly.{is_diagnostic_system_error}
use Rattle.asm65.specs.Internal.RunState.{HasSameOutput}
use Rattle.semantics65.specs.Views.{location_in}
use Rattle.asm65.proofs.finish.fail_at_line.Goals as goal

pub returns-clause-refused : goal.returns-clause-refused
returns-clause-refused c =
    let a = c.args.assembler in
    λ none (t : State).
    λ (h : HasSameOutput t a).
    let fault : LocatedFault = record { place = location_in c.args.at.file.now c.args.at.line; fault = c.args.fault } in
    let tables : LocatedFault → List ℕ → List ℕ → Outcome = λ p out err. record { result = Err p; out = out; err = err } in
    c.assembly_of.ensures.concluded (outcome_of_state t (Some fault))
    (λ (e : is_diagnostic_system_error c.of_fault.result ≡ false).
    ap (λ (p : LocatedFault). tables p a.texts.out a.texts.err) (c.of_fault.ensures.placed e)
    ∙ ap (λ (out : List ℕ). tables fault out a.texts.err) h.0
    ∙ ap (λ (err : List ℕ). tables fault t.out err) h.1)

pub returns-clause-none : goal.returns-clause-none
returns-clause-none c = grind (arith, common_steps)
