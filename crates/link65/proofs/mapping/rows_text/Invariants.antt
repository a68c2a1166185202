use Rattle.std.proofs.Common.{◌≡◌, ◌++◌}
use Rattle.link65.specs.Programs.{flat_zip}
use Rattle.link65.specs.Texts.{row_line}
use Rattle.link65.proofs.mapping.rows_text.Given as goal

abbrev pub invariant-loop-row : goal.invariant-loop-row
invariant-loop-row l = l.text ++ flat_zip row_line l.row-iterator.a.rest.now l.row-iterator.b.rest.now ≡ flat_zip row_line l.rows l.placements
