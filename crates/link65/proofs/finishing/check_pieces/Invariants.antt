use Rattle.std.proofs.Common.{◌≡◌, drop}
use Rattle.std.specs.List.{flat_map}
use Rattle.link65.specs.Links.{check_each}
use Rattle.link65.specs.CodeInvariants.{piece_fixups}
use Rattle.link65.specs.Placed.{check_in}
use Rattle.link65.proofs.finishing.check_pieces.Given as goal

abbrev pub invariant-loop-piece : goal.invariant-loop-piece
invariant-loop-piece l = check_each (check_in l.program) (flat_map piece_fixups (drop l.piece-index l.pieces)) ≡ check_each (check_in l.program) (flat_map piece_fixups l.pieces)
