use Rattle.std.proofs.Common.{map}
use Rattle.syntax65.specs.Tokens.{lexemes}
use Rattle.ast65.specs.Items.{literal_item}
use Rattle.ast65.specs.declared.reading.keywords.ElementKind.{ElementKind}
use Rattle.ast65.specs.Parsing.{list_elements, IsItem}
use Rattle.ast65.proofs.PartByPart.{count_left, parts_left, GoesOn}
use Rattle.ast65.proofs.reading.directives.numbers.Given as goal

abbrev pub invariant-parts : goal.invariant-parts
invariant-parts l = (e : ElementKind) → GoesOn (IsItem e) (list_elements (lexemes l.tokens)) (map literal_item l.numbers) (parts_left l.rest)

abbrev pub decreases-parts : goal.decreases-parts
decreases-parts l = count_left l.rest
