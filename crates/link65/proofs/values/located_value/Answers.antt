use Rattle.std.proofs.Common.{arith, ◌≡◌, ◌∙◌, ap, sym, refl, rules, ℕ, ℤ, Option, Result, slice_get}
use Rattle.std.proofs.lemmas.Grind.{common_steps}
use Rattle.std.proofs.lemmas.Option.{gets}
use Rattle.std.specs.Option.{option_copied}
use Rattle.object65.specs.Form.{Form}
use Rattle.link65.specs.declared.evaluation.EvalBlocked.{EvalBlocked}
use Rattle.link65.specs.declared.parts.ModuleBindings.{ModuleBindings}
use Rattle.link65.specs.declared.values.PlacedProgram.{PlacedProgram}
use Rattle.link65.specs.Placed.{AllFound, final_result, exports_in, linkage_in, form_attempt}
use Rattle.link65.specs.Values.{value_of_form}
use Rattle.link65.proofs.FinishLemmas.{value_found}
use Rattle.link65.proofs.values.located_value.Goals as goal

-- the result of a form is the final result of its attempt
came : (p : PlacedProgram) (m : Option ModuleBindings) (owner : ℕ) (form : Form) (r : Result ℤ EvalBlocked) → AllFound p.states.now → m ≡ slice_get p.modules.now owner → r ≡ form_attempt m p.states.now form → value_of_form (linkage_in p) (exports_in p) owner form ≡ final_result r
came p m owner form r found at e =
    sym (value_found (linkage_in p) p.states.now found owner form) ∙ ap (λ (o : Option ModuleBindings). final_result (form_attempt o p.states.now form)) (sym at) ∙ ap final_result (sym e)

pub returns-in-Ok : goal.returns-in-Ok
returns-in-Ok c = rw (came c.args.program.now (option_copied c.get.result) c.args.owner c.args.form.now c.try_form.result c.requires (grind (arith, common_steps, gets)) c.try_form.ensures, c.in-Ok.is) (search rules)

pub returns-in_ok-module_location-in-Err-Fault-NoValue : goal.returns-in_ok-module_location-in-Err-Fault-NoValue
returns-in_ok-module_location-in-Err-Fault-NoValue c =
    let a = c.in-Err-Fault-NoValue in
    rw (came c.args.program.now (option_copied c.get.result) c.args.owner c.args.form.now c.try_form.result c.requires (grind (arith, common_steps, gets)) c.try_form.ensures, a.is, a.field-0-is, a.field-0-0-is, c.in_ok-module_location-in-Err-Fault-NoValue.ensures) refl

pub returns-in-Err-Fault-Unresolved : goal.returns-in-Err-Fault-Unresolved
returns-in-Err-Fault-Unresolved c =
    let a = c.in-Err-Fault-Unresolved in
    rw (came c.args.program.now (option_copied c.get.result) c.args.owner c.args.form.now c.try_form.result c.requires (grind (arith, common_steps, gets)) c.try_form.ensures, a.is, a.field-0-is, a.field-0-0-is, c.new.ensures) refl

pub returns-in_ok-module_location-in-Err-Fault-Circular : goal.returns-in_ok-module_location-in-Err-Fault-Circular
returns-in_ok-module_location-in-Err-Fault-Circular c =
    let a = c.in-Err-Fault-Circular in
    rw (came c.args.program.now (option_copied c.get.result) c.args.owner c.args.form.now c.try_form.result c.requires (grind (arith, common_steps, gets)) c.try_form.ensures, a.is, a.field-0-is, a.field-0-0-is, c.in_ok-module_location-in-Err-Fault-Circular.ensures) refl

pub returns-in_ok-module_location-in-Err-Needs : goal.returns-in_ok-module_location-in-Err-Needs
returns-in_ok-module_location-in-Err-Needs c =
    let a = c.in-Err-Needs in
    rw (came c.args.program.now (option_copied c.get.result) c.args.owner c.args.form.now c.try_form.result c.requires (grind (arith, common_steps, gets)) c.try_form.ensures, a.is, a.field-0-is, c.in_ok-module_location-in-Err-Needs.ensures) refl
