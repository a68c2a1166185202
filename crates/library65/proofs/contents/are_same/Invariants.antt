use Rattle.std.proofs.Common.{◌≡◌, drop}
use Rattle.library65.specs.Libraries.{are_same}
use Rattle.library65.proofs.contents.are_same.Given as goal

abbrev pub invariant-loop-i : goal.invariant-loop-i
invariant-loop-i l = are_same (drop l.i l.names) (drop l.i l.others) ≡ are_same l.names l.others
