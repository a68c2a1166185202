use Rattle.std.proofs.Common.{◌≡◌, drop, map}
use Rattle.library65.specs.Libraries.{are_same}
use Rattle.link65.proofs.module_reader.same_exports.Given as goal

abbrev pub invariant-loop-i : goal.invariant-loop-i
invariant-loop-i l = are_same (drop l.i l.names) (map (λ e. e.name) (drop l.i l.exports)) ≡ are_same l.names (map (λ e. e.name) l.exports)
