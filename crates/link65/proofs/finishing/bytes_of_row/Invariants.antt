use Rattle.std.proofs.Common.{◌≡◌, ◌++◌, drop}
use Rattle.std.specs.List.{flat_map}
use Rattle.link65.specs.Links.{check_each}
use Rattle.link65.specs.CodeInvariants.{cells_of, piece_fixups}
use Rattle.link65.specs.Placed.{cell_in, check_in}
use Rattle.link65.proofs.finishing.bytes_of_row.Given as goal

abbrev pub invariant-loop-piece : goal.invariant-loop-piece
invariant-loop-piece l = record {
  checked : check_each (check_in l.program) (flat_map piece_fixups (drop l.piece-index l.pieces)) ≡ check_each (check_in l.program) (flat_map piece_fixups l.pieces);
  bytes : l.bytes.items ++ flat_map (cell_in l.program l.row.fill_value) (cells_of (drop l.piece-index l.pieces)) ≡ flat_map (cell_in l.program l.row.fill_value) (cells_of l.pieces);
}
