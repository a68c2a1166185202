use Rattle.std.proofs.Common.{◌≡◌, ◌++◌, drop}
use Rattle.std.specs.List.{flat_map}
use Rattle.link65.specs.Names.{row_names}
use Rattle.link65.proofs.naming.add_names_of_rows.Given as goal

abbrev pub invariant-loop-row : goal.invariant-loop-row
invariant-loop-row l = l.names ++ flat_map row_names (drop l.row-index l.rows) ≡ l.fn.names ++ flat_map row_names l.rows
