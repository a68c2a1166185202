use Rattle.std.proofs.Common.{◌≡◌, map, take}
use Rattle.link65.specs.Placed.{provider_in}
use Rattle.link65.proofs.resolving.providers_of.Given as goal

abbrev pub invariant-loop-name : goal.invariant-loop-name
invariant-loop-name l = l.providers ≡ map (provider_in l.names) (take l.name-index l.imports)
