use Rattle.std.proofs.Common.{◌≡◌, drop, map}
use Rattle.ast65.specs.Parsing.{keyword_directive}
use Rattle.ast65.proofs.reading.keywords.keyword_directive.Given as goal

abbrev pub invariant-loop-row : goal.invariant-loop-row
invariant-loop-row l =
    keyword_directive (map (λ row. (row.0.now, row.1)) (drop l.row-index l.table)) l.keyword
    ≡ keyword_directive (map (λ row. (row.0.now, row.1)) l.table) l.keyword
