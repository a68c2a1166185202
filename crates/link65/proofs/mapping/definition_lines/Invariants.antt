use Rattle.std.proofs.Common.{◌≡◌, ◌++◌, drop}
use Rattle.std.specs.List.{flat_map}
use Rattle.link65.specs.Texts.{definition_line}
use Rattle.link65.proofs.mapping.definition_lines.Given as goal

abbrev pub invariant-loop-definition : goal.invariant-loop-definition
invariant-loop-definition l = l.text ++ flat_map definition_line (drop l.definition-index l.definitions) ≡ flat_map definition_line l.definitions
