use Rattle.std.proofs.Common.{◌≡◌, ℤ, Ok, Result, ap, arith, rules}
use Rattle.std.proofs.lemmas.Grind.{common_steps}
use Rattle.std.proofs.lemmas.Result.{err_from_is_err_and}
use Rattle.base65.specs.Outcome.{◌>>=◌}
use Rattle.base65.proofs.Outcome.{refused-then}
use Rattle.link65.specs.declared.fault.LinkFault.{LinkFault}
use Rattle.link65.specs.declared.fault.ModuleLocation.{ModuleLocation}
use Rattle.link65.specs.declared.parts.ValueFault.{ValueFault}
use Rattle.link65.specs.Faults.{is_memory}
use Rattle.link65.specs.Links.{check_each, module_location, located_value}
use Rattle.link65.specs.Placed.{check_export_in, exported_value, exports_in, linkage_in, values_in}
use Rattle.link65.specs.Values.{or_zero, value_of_form}
use Rattle.link65.proofs.Checks.{passes_next, passes_stops, next_mapped}
use Rattle.link65.proofs.values.export_values.Goals as goal

pub returns-in_err-located_value-clause-checked : goal.returns-in_err-located_value-clause-checked
returns-in_err-located_value-clause-checked c =
    let p = err_from_is_err_and c.from_residual-in_err-located_value.result c.from_residual-in_err-located_value.ensures.1 in
    let program = c.args.program.now in
    let check = check_export_in program in
    let all = program.exports.now in
    let e = c.export-item.result in
    let refused = refused-then is_memory c.in_err-located_value.field-0.0 (located_value (module_location program.members.now e.owner e.origin) (value_of_form (linkage_in program) (exports_in program) e.owner e.form)) (λ v. Ok tt) c.in_err-located_value.ensures in
    rw (p.1, p.2) (passes_stops check all c.loop-export.export-index e (check_each check all) c.in_err-located_value.field-0.0 c.loop-export-test.true c.export-item.is c.loop-export.invariant.checked refused)

-- a value that was found is the value of the result
is_value : (s : ModuleLocation) (r : Result ℤ ValueFault) (v : ℤ) → located_value s r ≡ Ok v → v ≡ or_zero r
is_value s x v e = grind (arith, common_steps)

pub loop-export-preserved : goal.loop-export-preserved
loop-export-preserved c =
    let program = c.args.program.now in
    let check = check_export_in program in
    let all = program.exports.now in
    let e = c.export-item.result in
    let value = exported_value (linkage_in program) (exports_in program) in
    let found = is_value (module_location program.members.now e.owner e.origin) (value_of_form (linkage_in program) (exports_in program) e.owner e.form) c.in_ok-located_value.field-0 c.in_ok-located_value.ensures in
    record {
      checked = passes_next check all c.loop-export.export-index e tt (check_each check all) c.loop-export-test.true c.export-item.is (ap (λ (r : Result ℤ LinkFault). r >>= (λ v. Ok tt)) c.in_ok-located_value.ensures) c.loop-export.invariant.checked;
      values = next_mapped value all c.loop-export.export-index e _ c.loop-export.values.items c.push.new.self.items (values_in program) c.loop-export-test.true c.export-item.is c.in_ok-push.ensures.items (search (rules, found)) c.loop-export.invariant.values;
    }

pub returns-clause-values : goal.returns-clause-values
returns-clause-values c = grind (arith, common_steps)

pub returns-clause-checked : goal.returns-clause-checked
returns-clause-checked c = grind (arith, common_steps)
