use Rattle.std.proofs.Common.{◌≡◌, map, take}
use Rattle.link65.proofs.name_checks.copy_names.Given as goal

abbrev pub invariant-loop-name : goal.invariant-loop-name
invariant-loop-name l = l.all ≡ map (λ n. n.items) (take l.name-index l.names)
