use Rattle.std.proofs.Common.{◌≡◌, ◌++◌, drop, map}
use Rattle.link65.specs.Files.{written_row_bytes}
use Rattle.link65.specs.Links.{check_each, fixups_by_row}
use Rattle.link65.specs.Placed.{bytes_in, check_in, segments_in}
use Rattle.link65.proofs.finishing.rows_of.Given as goal

abbrev pub invariant-loop-row : goal.invariant-loop-row
invariant-loop-row l = record {
  checked : check_each (check_in l.program) (fixups_by_row (drop l.row-index l.rows) (segments_in l.program)) ≡ check_each (check_in l.program) (fixups_by_row l.rows (segments_in l.program));
  bytes : l.all.items ++ map (written_row_bytes (bytes_in l.program)) (drop l.row-index l.rows) ≡ map (written_row_bytes (bytes_in l.program)) l.rows;
}
