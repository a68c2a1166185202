use Rattle.std.proofs.Common.{◌≡◌, drop, map}
use Rattle.script65.specs.Attributes.{find_keyword}
use Rattle.script65.proofs.reading.keyword_tables.find_keyword.Given as goal

abbrev pub invariant-loop-name : goal.invariant-loop-name
invariant-loop-name g l =
    find_keyword l.identifier (map (λ r. (r.0.now, r.1)) (drop l.name-index l.rows)) ≡ find_keyword l.identifier (map (λ r. (r.0.now, r.1)) l.rows)
