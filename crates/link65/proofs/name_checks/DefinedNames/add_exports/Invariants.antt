use Rattle.std.proofs.Common.{◌≡◌, drop, map}
use Rattle.link65.specs.Representation.{names_in, with_new_names}
use Rattle.link65.proofs.name_checks.DefinedNames.add_exports.Given as goal

abbrev pub invariant-loop-export : goal.invariant-loop-export
invariant-loop-export l = with_new_names (names_in l.self) (map (λ e. e.name) (drop l.export-index l.exports)) ≡ with_new_names (names_in l.fn.self) (map (λ e. e.name) l.exports)
