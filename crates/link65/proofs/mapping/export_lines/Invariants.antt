use Rattle.std.proofs.Common.{◌≡◌, ◌++◌}
use Rattle.link65.specs.Programs.{flat_zip}
use Rattle.link65.specs.Placed.{value_line}
use Rattle.link65.proofs.mapping.export_lines.Given as goal

abbrev pub invariant-loop-export : goal.invariant-loop-export
invariant-loop-export l = l.text ++ flat_zip value_line l.export-iterator.a.rest.now l.export-iterator.b.rest.now ≡ flat_zip value_line l.exports l.values
