use Rattle.std.proofs.Common.{◌≡◌, drop, map}
use Rattle.link65.specs.Internal.Fields.{missing_after}
use Rattle.link65.specs.Representation.{names_in}
use Rattle.link65.proofs.name_checks.add_imports.Given as goal

abbrev pub invariant-loop-name : goal.invariant-loop-name
invariant-loop-name l =
    missing_after (names_in l.provided) (map (λ n. n.items) l.missing.keys) (drop l.name-index l.imports)
    ≡ missing_after (names_in l.provided) (map (λ n. n.items) l.fn.missing.keys) l.imports
