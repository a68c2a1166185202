use Rattle.std.proofs.Common.{◌≡◌, [], drop}
use Rattle.link65.specs.Names.{script_names}
use Rattle.link65.specs.Representation.{names_or_duplicate, names_in, with_new_names}
use Rattle.link65.proofs.name_checks.DefinedNames.of.Given as goal

abbrev pub invariant-loop-name : goal.invariant-loop-name
invariant-loop-name l = with_new_names (names_in l.provided) (drop l.name-index l.name-items) ≡ names_or_duplicate [] (script_names l.script)
