use Rattle.std.proofs.Common.{◌≡◌, map, take}
use Rattle.link65.specs.Placed.{address_in}
use Rattle.link65.proofs.resolving.bases_of.Given as goal

abbrev pub invariant-loop-section : goal.invariant-loop-section
invariant-loop-section l = l.bases ≡ map (address_in l.runs) (take l.section-index l.sections)
