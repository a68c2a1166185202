use Rattle.std.proofs.Common.{◌≡◌, ◌++◌}
use Rattle.link65.specs.Programs.{flat_zip}
use Rattle.link65.specs.Names.{row_definitions}
use Rattle.link65.proofs.naming.add_rows.Given as goal

abbrev pub invariant-loop-row : goal.invariant-loop-row
invariant-loop-row l = l.definitions ++ flat_zip row_definitions l.row-iterator.a.rest.now l.row-iterator.b.rest.now ≡ l.fn.definitions ++ flat_zip row_definitions l.rows l.placements
