use Rattle.std.proofs.Common.{◌≡◌, drop}
use Rattle.std.specs.List.{list_any}
use Rattle.link65.specs.CodeInvariants.{cells_of}
use Rattle.link65.specs.Texts.{is_data}
use Rattle.link65.proofs.texts.has_data.Given as goal

abbrev pub invariant-loop-piece : goal.invariant-loop-piece
invariant-loop-piece l = list_any is_data (cells_of (drop l.piece-index l.piece-items)) ≡ list_any is_data (cells_of l.content.pieces)
