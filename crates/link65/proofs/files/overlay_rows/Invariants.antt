use Rattle.std.proofs.Common.{List, ℕ, drop}
use Rattle.link65.specs.Internal.Loads.{OverlaysPieces}
use Rattle.link65.proofs.FileLemmas.{pieces_in}
use Rattle.link65.proofs.files.overlay_rows.Given as goal

abbrev pub invariant-loop-load : goal.invariant-loop-load
invariant-loop-load l =
    (new : List ℕ) → OverlaysPieces (pieces_in l.start (drop l.load-index l.loads)) l.image new → OverlaysPieces (pieces_in l.start l.loads) l.fn.image new
