use Rattle.std.proofs.Common.{◌≡◌, ◌++◌, drop, map}
use Rattle.link65.specs.Links.{check_each}
use Rattle.link65.specs.Placed.{check_export_in, exported_value, exports_in, linkage_in, values_in}
use Rattle.link65.proofs.values.export_values.Given as goal

abbrev pub invariant-loop-export : goal.invariant-loop-export
invariant-loop-export l = record {
  checked : check_each (check_export_in l.program) (drop l.export-index l.program.exports.now) ≡ check_each (check_export_in l.program) l.program.exports.now;
  values : l.values.items ++ map (exported_value (linkage_in l.program) (exports_in l.program)) (drop l.export-index l.program.exports.now) ≡ values_in l.program;
}
