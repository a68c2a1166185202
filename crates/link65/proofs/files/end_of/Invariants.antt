use Rattle.std.proofs.Common.{◌≡◌, drop, map}
use Rattle.link65.specs.Internal.Loads.{placed_row_of}
use Rattle.link65.specs.Files.{end_after}
use Rattle.link65.proofs.files.end_of.Given as goal

abbrev pub invariant-loop-load : goal.invariant-loop-load
invariant-loop-load l = end_after l.start l.end (map placed_row_of (drop l.load-index l.loads)) ≡ end_after l.start 0 (map placed_row_of l.loads)
