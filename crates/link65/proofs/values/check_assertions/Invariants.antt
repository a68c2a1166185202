use Rattle.std.proofs.Common.{◌≡◌, ◌++◌, drop, Ok}
use Rattle.base65.specs.Outcome.{◌>>=◌}
use Rattle.link65.specs.Links.{check_asserts}
use Rattle.link65.specs.Placed.{exports_in, linkage_in}
use Rattle.link65.proofs.values.check_assertions.Given as goal

abbrev pub invariant-loop-assert : goal.invariant-loop-assert
invariant-loop-assert l =
    (check_asserts (linkage_in l.program) l.program.members.now (exports_in l.program) (drop l.assert-index l.asserts) >>= (λ more. Ok (l.text ++ more)))
    ≡ check_asserts (linkage_in l.program) l.program.members.now (exports_in l.program) l.asserts
