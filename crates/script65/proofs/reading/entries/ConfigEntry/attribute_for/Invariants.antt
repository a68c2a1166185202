use Rattle.std.proofs.Common.{◌≡◌, drop}
use Rattle.std.specs.Prelude.{find}
use Rattle.std.specs.Str.{bytes_eq}
use Rattle.script65.specs.Entries.{AttributeValue}
use Rattle.script65.proofs.reading.entries.ConfigEntry.attribute_for.Given as goal

abbrev pub invariant-loop-assignment : goal.invariant-loop-assignment
invariant-loop-assignment l =
    find (λ (g : AttributeValue). bytes_eq l.identifier g.identifier) (drop l.assignment-index l.self.assignments) ≡ find (λ (g : AttributeValue). bytes_eq l.identifier g.identifier) l.self.assignments
