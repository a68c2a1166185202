use Rattle.std.proofs.Common.{◌≡◌, drop, true}
use Rattle.std.specs.Prelude.{◌||◌, codes, find}
use Rattle.std.specs.Option.{option_map_or}
use Rattle.std.specs.Str.{bytes_eq}
use Rattle.script65.specs.Entries.{AttributeValue}
use Rattle.script65.specs.Scripts.{is_start_first}
use Rattle.script65.proofs.reading.naming.is_start_first.Given as goal

abbrev pub invariant-loop-assignment : goal.invariant-loop-assignment
invariant-loop-assignment l =
    option_map_or (λ (g : AttributeValue). bytes_eq (codes "start") g.identifier)
    (find (λ (g : AttributeValue). bytes_eq (codes "start") g.identifier || bytes_eq (codes "size") g.identifier) (drop l.assignment-index l.entry.assignments)) true
    ≡ is_start_first l.entry
