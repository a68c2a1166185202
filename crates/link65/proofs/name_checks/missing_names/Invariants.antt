use Rattle.std.proofs.Common.{◌≡◌, ◌++◌, [], drop, map}
use Rattle.std.specs.List.{flat_map}
use Rattle.link65.specs.Internal.Fields.{missing_after}
use Rattle.link65.specs.Names.{symbol_imports}
use Rattle.link65.specs.Representation.{names_in}
use Rattle.link65.proofs.name_checks.missing_names.Given as goal

abbrev pub invariant-loop-member : goal.invariant-loop-member
invariant-loop-member l =
    missing_after (names_in l.provided) (map (λ n. n.items) l.missing.keys) (flat_map (λ m. m.imports) (drop l.member-index l.members))
    ≡ missing_after (names_in l.provided) [] (symbol_imports l.symbols ++ flat_map (λ m. m.imports) l.members)
