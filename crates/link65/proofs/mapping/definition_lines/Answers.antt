use Rattle.std.proofs.Common.{refl}
use Rattle.std.specs.List.{flat_map}
use Rattle.link65.specs.Texts.{definition_line}
use Rattle.link65.proofs.TextLemmas.{lines_next}
use Rattle.link65.proofs.mapping.definition_lines.Goals as goal

pub loop-definition-preserved : goal.loop-definition-preserved
loop-definition-preserved c = lines_next definition_line c.args.definitions.now c.loop-definition.definition-index c.definition-item.result c.loop-definition.text _ _ (flat_map definition_line c.args.definitions.now) c.loop-definition-test.true c.definition-item.is c.in_ok-add_definition_line.ensures refl c.loop-definition.invariant
