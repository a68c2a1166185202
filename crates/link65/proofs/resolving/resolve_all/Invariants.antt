use Rattle.std.proofs.Common.{◌≡◌, map, take}
use Rattle.link65.specs.Placed.{bindings_in}
use Rattle.link65.proofs.resolving.resolve_all.Given as goal

abbrev pub invariant-loop-member : goal.invariant-loop-member
invariant-loop-member l = l.all ≡ map (bindings_in l.names l.runs) (take l.member-index l.members)
