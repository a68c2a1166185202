use Rattle.std.proofs.Common.{◌≡◌, ◌++◌, drop}
use Rattle.link65.specs.Placed.{segments_in}
use Rattle.link65.specs.Texts.{warnings_of_rows}
use Rattle.link65.proofs.texts.warnings_of.Given as goal

abbrev pub invariant-loop-row : goal.invariant-loop-row
invariant-loop-row l = l.text ++ warnings_of_rows (drop l.row-index l.rows) (segments_in l.program) ≡ warnings_of_rows l.rows (segments_in l.program)
